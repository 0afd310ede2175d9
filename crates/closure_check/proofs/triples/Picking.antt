-- What stands at a place of the arguments of transitions.
use Rattle.std.proofs.Common.{◌≡◌, ◌↔◌, ◌+◌, ◌<◌, ◌≤◌, ℕ, List, [], ◌∷◌, ◌++◌, length, get_or, take, All, Contains, refl, sym, ap, subst, ◌∙◌, ⊎_elim, append_assoc, arith}
use Rattle.std.specs.List.{AllZip}
use Rattle.std.proofs.lemmas.List.{take_all, take_more}
use Rattle.std.proofs.lemmas.List.Elements.{All-contains, All-weaker, Contains-push_cases}
use Rattle.ta_core.specs.TreeAutomaton.{TreeAutomaton, IsSound, IsTransOf, trans_of}
use Rattle.ta_core.specs.declared.trans.Trans.{Trans}
use Rattle.list_laws.proofs.Members.{all_from_members}
use Rattle.closure_check.specs.Marking.{Picks}
use Rattle.closure_check.proofs.sets.Entering.{BeginSo, next_of}

pub args_below : (A : TreeAutomaton) (range : List Trans) (f size : ℕ) (prefix : List ℕ) → BeginSo A.trans f prefix range → IsSound A → A.next ≤ size → All (λ (t : Trans). All (λ (q : ℕ). q < size) t.args) range
args_below A range f size prefix begin sound room = all_from_members (λ (t : Trans). All (λ (q : ℕ). q < size) t.args) range (λ t i.
    All-weaker (Contains A.states) (λ q. q < size) (λ q i. omega (arith, All-contains (λ q. q < A.next) A.states q sound.below i, room)) t.args
    (All-contains (IsTransOf A.states) A.trans t sound.trans ((begin t).0 i).0).args)

module _ (trans : List Trans) (f : ℕ) (sets : List (List ℕ)) (needed : List ℕ) (place : ℕ) (prefix set : List ℕ) where
  pub picks_range : (range : List Trans) (prefix' : List ℕ) → BeginSo trans f prefix' range → prefix' ≡ prefix →
      ((t : Trans) → Contains range t → AllZip Contains sets t.args → Contains needed t.to → place < length t.args → Contains set (get_or t.args place 0)) → Picks trans f sets needed place prefix set
  picks_range range prefix' begin same picks rest to has fit n l =
      picks (trans_of f (prefix ++ rest) to) ((begin (trans_of f (prefix ++ rest) to)).1 (has, refl, (rest, ap (λ p. p ++ rest) (sym same)))) fit n l

  pub picks_all : (states next : List ℕ) (k : ℕ) → length states ≤ k → ((p : ℕ) → Contains states p ↔ Contains next p) → length prefix < length sets → get_or sets (length prefix) [] ≡ next →
      ((p : ℕ) → Contains (take k states) p → Picks trans f sets needed place (prefix ++ p ∷ []) set) → Picks trans f sets needed place prefix set
  picks_all states next k le same l is picks rest to has fit n short =
      let whole : take k states ≡ states = take_all k states le in
      let h = next_of prefix rest sets fit l in
      let split : prefix ++ rest ≡ (prefix ++ h.0 ∷ []) ++ h.1 = ap (λ r. prefix ++ r) h.2 ∙ sym (append_assoc prefix (h.0 ∷ []) h.1) in
      subst (λ args. Contains set (get_or args place 0)) (sym split)
      (picks h.0 (subst (λ s. Contains s h.0) (sym whole) ((same h.0).1 (subst (λ s. Contains s h.0) is h.3))) h.1 to (subst (λ args. Contains trans (trans_of f args to)) split has) (subst (AllZip Contains sets) split fit) n (subst (λ args. place < length args) split short))

  -- one state more
  pub picks_one : (old states prefix' : List ℕ) (k p : ℕ) → k < length states → p ≡ get_or states k 0 → prefix' ≡ prefix ++ p ∷ [] → ((q : ℕ) → Contains old q → Contains set q) →
      ((p : ℕ) → Contains (take k states) p → Picks trans f sets needed place (prefix ++ p ∷ []) old) → Picks trans f sets needed place prefix' set → (p : ℕ) → Contains (take (k + 1) states) p → Picks trans f sets needed place (prefix ++ p ∷ []) set
  picks_one old states prefix' k p l is pushed kept so_far one q i =
      let more : take (k + 1) states ≡ take k states ++ p ∷ [] = take_more states k 0 l ∙ ap (λ x. take k states ++ x ∷ []) (sym is) in
      ⊎_elim
      (λ before rest to has fit n short. kept _ (so_far q before rest to has fit n short))
      (λ here. subst (λ l. Picks trans f sets needed place l set) (pushed ∙ ap (λ x. prefix ++ x ∷ []) here) one)
      (Contains-push_cases (take k states) p q (subst (λ s. Contains s q) more i))
