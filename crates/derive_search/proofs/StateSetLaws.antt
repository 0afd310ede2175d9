-- The states to which the terms of a store run.
use Rattle.std.proofs.Common.{◌≡◌, ◌↔◌, ℕ, zero, suc, ◌+◌, ◌<◌, List, [], ◌∷◌, ◌++◌, map, length, get_or, slice_get, Some, refl, sym, ap, subst, ◌∙◌, ⊎_elim, arith, length-append}
use Rattle.std.specs.List.{All, AllZip, Contains}
use Rattle.std.proofs.lemmas.List.Elements.{All-head, All-tail, All-contains, Contains-append_left, Contains-push, Contains-push_cases}
use Rattle.std.proofs.lemmas.Option.{slice_get_within}
use Rattle.list_laws.proofs.Members.{none, all_from_members}
use Rattle.ranked_terms.specs.Terms.{config_of}
use Rattle.ranked_terms.specs.declared.term.Term.{Term}
use Rattle.ranked_terms.specs.lemmas.TermLaws.{config_node}
use Rattle.ta_core.specs.TreeAutomaton.{TreeAutomaton, IsSound, IsTransOf, trans_of}
use Rattle.ta_core.specs.Runs.{Runs}
use Rattle.ta_core.specs.Reached.{ReachedFrom, HasTransInto}
use Rattle.ta_core.specs.declared.trans.Trans.{Trans}
use Rattle.ta_core.specs.lemmas.RunStates.{AreExact, runs_of_app, entered_and_reached}
use Rattle.term_store.specs.Store.{term_at, applied, Keeps}
use Rattle.derive_search.specs.StateSets.{AreStateSets, sets_at}
use Rattle.derive_search.proofs.StoreFacts.{length-keeps, term_at_stays}
use Rattle.derive_search.proofs.GrowthLaws.{at_cases}

-- ---- states that are members of sets at places

pub length-sets_at : (sets : List (List ℕ)) (places : List ℕ) → length (sets_at sets places) ≡ length places
length-sets_at sets [] = refl
length-sets_at sets (a ∷ places) = ap suc (length-sets_at sets places)

pub zip_from_places : (sets : List (List ℕ)) (args states : List ℕ) → length states ≡ length args → ((k : ℕ) → k < length states → Contains (get_or sets (get_or args k 0) []) (get_or states k 0)) → AllZip Contains (sets_at sets args) states
zip_from_places sets [] [] e h = tt
zip_from_places sets [] (q ∷ states) e h = absurd (omega (arith, e))
zip_from_places sets (a ∷ args) [] e h = absurd (omega (arith, e))
zip_from_places sets (a ∷ args) (q ∷ states) e h = (h 0 (omega arith), zip_from_places sets args states (omega (arith, e)) (λ k l. h (suc k) (omega (arith, l))))

pub zip_at_place : (sets : List (List ℕ)) (args states : List ℕ) → AllZip Contains (sets_at sets args) states → (k : ℕ) → k < length states → Contains (get_or sets (get_or args k 0) []) (get_or states k 0)
zip_at_place sets args [] z k l = absurd (omega (arith, l))
zip_at_place sets [] (q ∷ states) z k l = absurd z
zip_at_place sets (a ∷ args) (q ∷ states) z zero l = z.0
zip_at_place sets (a ∷ args) (q ∷ states) z (suc k) l = zip_at_place sets args states z.1 k (omega (arith, l))

-- ---- the targets of transitions, one after the other

pub trans_pushed : (done : List Trans) (t : Trans) (f : ℕ) (sets : List (List ℕ)) (all : List ℕ) → ((q : ℕ) → Contains all q ↔ HasTransInto done f sets q) → t.sym ≡ f → AllZip Contains sets t.args
    → (q : ℕ) → Contains (all ++ t.to ∷ []) q ↔ HasTransInto (done ++ t ∷ []) f sets q
trans_pushed done t f sets all exact e fit q = (
  λ c. ⊎_elim
      (λ before. let h = (exact q).0 before in record { args = h.args; fit = h.fit; has = Contains-append_left done (t ∷ []) (trans_of f h.args q) h.has })
      (λ here. record { args = t.args; fit = fit; has = subst (Contains (done ++ t ∷ [])) (ap (λ s. trans_of s t.args t.to) e ∙ ap (trans_of f t.args) here) (Contains-push done t) })
      (Contains-push_cases all t.to q c),
  λ h. ⊎_elim
      (λ before. Contains-append_left all (t.to ∷ []) q ((exact q).1 (record { args = h.args; fit = h.fit; has = before })))
      (λ here. subst (Contains (all ++ t.to ∷ [])) (ap (λ (x : Trans). x.to) here) (Contains-push all t.to))
      (Contains-push_cases done t (trans_of f h.args q) h.has),
)

pub no_trans : (f : ℕ) (sets : List (List ℕ)) (q : ℕ) → Contains [] q ↔ HasTransInto [] f sets q
no_trans f sets q = (λ c. absurd (none q c), λ h. absurd (none (trans_of f h.args q) h.has))

pub targets_inside : (A : TreeAutomaton) → IsSound A → (f : ℕ) (sets : List (List ℕ)) (all : List ℕ) → ((q : ℕ) → Contains all q ↔ HasTransInto A.trans f sets q) → All (Contains A.states) all
targets_inside A sound f sets all exact =
    all_from_members (Contains A.states) all (λ q c. let h = (exact q).0 c in (All-contains (IsTransOf A.states) A.trans (trans_of f h.args q) sound.trans h.has).to)

-- ---- from the arguments to the term

module _ (A : TreeAutomaton) (terms : List Term) (sets : List (List ℕ)) (are : AreStateSets A terms sets) where
  at_index : {X : Type 0} (xs : List X) (i : ℕ) (d : X) → i < length xs → slice_get xs i ≡ Some (get_or xs i d)
  at_index [] i d l = absurd (omega (arith, l))
  at_index (x ∷ xs) zero d l = refl
  at_index (x ∷ xs) (suc i) d l = at_index xs i d (omega (arith, l))

  pub set_at : (a : ℕ) → a < length sets → (q : ℕ) → Contains (get_or sets a []) q ↔ Runs A (config_of (term_at terms a)) q
  set_at a l = are.exact a (get_or sets a []) (at_index sets a [] l)

  exact_at : (args : List ℕ) → All (λ a. a < length sets) args → AreExact A (map config_of (map (term_at terms) args)) (sets_at sets args)
  exact_at [] h = tt
  exact_at (a ∷ args) h = (set_at a (All-head (λ a. a < length sets) a args h), exact_at args (All-tail (λ a. a < length sets) a args h))

  pub states_are : (id f : ℕ) (args : List ℕ) → term_at terms id ≡ applied terms f args → All (λ a. a < length sets) args → (set : List ℕ) → ((q : ℕ) → Contains set q ↔ HasTransInto A.trans f (sets_at sets args) q)
      → (q : ℕ) → ReachedFrom A set q ↔ Runs A (config_of (term_at terms id)) q
  states_are id f args is there set exact q =
      let entered = entered_and_reached A f (sets_at sets args) set exact q in
      let runs = runs_of_app A f (map config_of (map (term_at terms) args)) (sets_at sets args) (exact_at args there) q in
      let same = ap config_of is ∙ config_node f (map (term_at terms) args) in (
        λ r. subst (λ c. Runs A c q) (sym same) (runs.0 (entered.0 r)),
        λ r. entered.1 (runs.1 (subst (λ c. Runs A c q) same r)),
      )

  -- one set more
  pub set_more : (set : List ℕ) → length sets < length terms → ((q : ℕ) → Contains set q ↔ Runs A (config_of (term_at terms (length sets))) q) → AreStateSets A terms (sets ++ set ∷ [])
  set_more set l exact = record {
    few = omega (arith, l, length-append sets (set ∷ []));
    exact = λ i x e. ⊎_elim
        (λ old. are.exact i x old.1)
        (λ new. last i x new.0 new.1 new.2)
        (at_cases sets (set ∷ []) i x e);
  }
    where
      last : (i : ℕ) (x : List ℕ) (k : ℕ) → i ≡ length sets + k → slice_get (set ∷ []) k ≡ Some x → (q : ℕ) → Contains x q ↔ Runs A (config_of (term_at terms i)) q
      last i x zero n e =
          let same : set ≡ x = cc in
          let at : length sets ≡ i = omega (arith, n) in
          subst (λ i. (q : ℕ) → Contains x q ↔ Runs A (config_of (term_at terms i)) q) at (subst (λ x. (q : ℕ) → Contains x q ↔ Runs A (config_of (term_at terms (length sets))) q) same exact)
      last i x (suc k) n e = cc

pub no_sets : (A : TreeAutomaton) (terms : List Term) → AreStateSets A terms []
no_sets A terms = record { few = omega arith; exact = λ i x e. cc }

-- more terms leave the sets of those that were there
pub sets_stay : (A : TreeAutomaton) (before after : List Term) → Keeps before after → (sets : List (List ℕ)) → AreStateSets A before sets → AreStateSets A after sets
sets_stay A before after k sets are = record {
  few = let l = length-keeps before after k in omega (arith, l, are.few);
  exact = λ i set e. subst (λ t. (q : ℕ) → Contains set q ↔ Runs A (config_of t) q) (sym (term_at_stays before after k i (let w = slice_get_within sets i set e in omega (arith, w, are.few)))) (are.exact i set e);
}
