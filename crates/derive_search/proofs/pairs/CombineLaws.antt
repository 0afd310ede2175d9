-- What a transition makes of choices for its arguments, one argument after the other.
use Rattle.std.proofs.Common.{◌≡◌, ◌↔◌, ℕ, ◌+◌, ◌<◌, Bool, false, ◌||◌, List, [], ◌∷◌, ◌++◌, drop, length, get_or, refl, sym, ap, subst, ◌∙◌, ⊎_elim, append_assoc, append-nil, length-append, arith}
use Rattle.std.specs.Prelude.{IsTrue}
use Rattle.std.specs.List.{All, Contains}
use Rattle.std.proofs.lemmas.List.{get_or_default, drop_more, drop_all}
use Rattle.std.proofs.lemmas.List.Elements.{All-head, All-tail, All-cons}
use Rattle.ranked_terms.specs.Terms.{node, size_of}
use Rattle.ranked_terms.specs.declared.term.Term.{Term}
use Rattle.ranked_terms.specs.declared.term.Config.{State}
use Rattle.ta_core.specs.TreeAutomaton.{TreeAutomaton}
use Rattle.ta_core.specs.Runs.{Runs}
use Rattle.ta_core.specs.declared.trans.Trans.{Trans}
use Rattle.list_laws.proofs.Members.{parts, none}
use Rattle.term_store.specs.Store.{applied, Keeps}
use Rattle.derive_search.specs.LowPairs.{known_at, IsChoice, IsChosen, IsLargeChoice, AreKnown, LacksOne, IsMadeBy}
use Rattle.derive_search.proofs.StoreFacts.{below, length-keeps}
use Rattle.derive_search.proofs.GrowthLaws.{terms_in_stay}
use Rattle.derive_search.proofs.pairs.LowPairLaws.{member_at}

pub applied_stays : (a b : List Term) → Keeps a b → (f : ℕ) (ids : List ℕ) → All (λ x. x < length a) ids → applied b f ids ≡ applied a f ids
applied_stays a b k f ids h = ap (node f) (terms_in_stay a b k ids h)

pub all_append : (P : ℕ → Type 0) (xs ys : List ℕ) → All P xs → All P ys → All P (xs ++ ys)
all_append P [] ys h k = k
all_append P (x ∷ xs) ys h k = All-cons P x (xs ++ ys) (All-head P x xs h) (all_append P xs ys (All-tail P x xs h) k)

pub known_stay : (a b : List Term) → Keeps a b → (known : List (List (ℕ × Bool))) → AreKnown a known → AreKnown b known
known_stay a b k known h q id fresh c = let l = h q id fresh c in let w = length-keeps a b k in omega (arith, l, w)

-- whatever is chosen is there
pub choice_there : (terms : List Term) (known : List (List (ℕ × Bool))) → AreKnown terms known → (fresh : Bool) (states ids : List ℕ) → IsChoice known fresh states ids → All (λ a. a < length terms) ids
choice_there terms known are fresh [] [] c = λ k d l. absurd (omega (arith, l))
choice_there terms known are fresh [] (id ∷ ids) c = absurd c
choice_there terms known are fresh (q ∷ states) [] c = absurd c
choice_there terms known are fresh (q ∷ states) (id ∷ ids) c = All-cons (λ a. a < length terms) id ids (are q id c.0 c.1) (choice_there terms known are (fresh || c.0) states ids c.2)

module _ (start : List Term) (f : ℕ) (chosen : List ℕ) (known : List (List (ℕ × Bool))) (fresh : Bool) (args reached : List ℕ) (there : All (λ a. a < length start) chosen) (are : AreKnown start known) where
  -- ---- each argument is chosen

  module _ (whole : length chosen ≡ length args) where
    none_left : drop (length chosen) args ≡ []
    none_left = drop_all (length chosen) args (omega (arith, whole))

    empty : (states ids : List ℕ) → states ≡ [] → IsChoice known fresh states ids → (ids ≡ []) × IsTrue fresh
    empty [] [] e c = (refl, c)
    empty [] (id ∷ ids) e c = absurd c
    empty (q ∷ states) ids e c = cc

    pub end_of : (pair : ℕ × Term) → IsChosen start f chosen known fresh (drop (length chosen) args) reached pair → Contains reached pair.0 × (pair.1 ≡ applied start f chosen)
    end_of pair h = (h.reaches, h.is ∙ ap (applied start f) (ap (λ ids. chosen ++ ids) (empty (drop (length chosen) args) h.ids none_left h.choice).0 ∙ append-nil chosen))

    pub never : fresh ≡ false → (pair : ℕ × Term) → IsChosen start f chosen known fresh (drop (length chosen) args) reached pair → ⊥
    never e pair h = no (subst IsTrue e (empty (drop (length chosen) args) h.ids none_left h.choice).1)
      where
        no : IsTrue false → ⊥
        no t = cc

    pub ended : IsTrue fresh → (pair : ℕ × Term) → Contains reached pair.0 × (pair.1 ≡ applied start f chosen) → IsChosen start f chosen known fresh (drop (length chosen) args) reached pair
    ended t pair h = record { ids = []; choice = subst (λ qs. IsChoice known fresh qs []) (sym none_left) t; reaches = h.0; is = h.1 ∙ ap (applied start f) (sym (append-nil chosen)) }

    pub large_end : IsTrue fresh → 1024 < size_of (applied start f chosen) → IsLargeChoice start f chosen known fresh (drop (length chosen) args)
    large_end t l = record { ids = []; choice = subst (λ qs. IsChoice known fresh qs []) (sym none_left) t; large = subst (λ ids. 1024 < size_of (applied start f ids)) (sym (append-nil chosen)) l }

  -- ---- one argument more

  module _ (more : length chosen < length args) where
    split : (id : ℕ) → drop (length chosen) args ≡ get_or args (length chosen) 0 ∷ drop (length (chosen ++ id ∷ [])) args
    split id = drop_more args (length chosen) 0 more ∙ ap (λ n. get_or args (length chosen) 0 ∷ drop n args) (let e : length chosen + 1 ≡ length (chosen ++ id ∷ []) = sym (length-append chosen (id ∷ [])) in e)

    one_there : (id : ℕ) → id < length start → All (λ a. a < length start) (chosen ++ id ∷ [])
    one_there id l = all_append (λ a. a < length start) chosen (id ∷ []) there (All-cons (λ a. a < length start) id [] l (λ k d m. absurd (omega (arith, m))))

    module _ (now : List Term) (keeps : Keeps start now) (id : ℕ) (new : Bool) (m : Contains (known_at known (get_or args (length chosen) 0)) (id, new)) where
      pub id_there : id < length start
      id_there = are (get_or args (length chosen) 0) id new m

      pub chosen_there : All (λ a. a < length now) (chosen ++ id ∷ [])
      chosen_there = below (length start) (length now) (chosen ++ id ∷ []) (length-keeps start now keeps) (one_there id id_there)

      same : (ids : List ℕ) → IsChoice known (fresh || new) (drop (length (chosen ++ id ∷ [])) args) ids → applied now f ((chosen ++ id ∷ []) ++ ids) ≡ applied start f (chosen ++ id ∷ ids)
      same ids c =
          applied_stays start now keeps f ((chosen ++ id ∷ []) ++ ids) (all_append (λ a. a < length start) (chosen ++ id ∷ []) ids (one_there id id_there) (choice_there start known are (fresh || new) (drop (length (chosen ++ id ∷ [])) args) ids c))
          ∙ ap (applied start f) (append_assoc chosen (id ∷ []) ids)

      choice_up : (ids : List ℕ) → IsChoice known (fresh || new) (drop (length (chosen ++ id ∷ [])) args) ids → IsChoice known fresh (drop (length chosen) args) (id ∷ ids)
      choice_up ids c = subst (λ qs. IsChoice known fresh qs (id ∷ ids)) (sym (split id)) (new, m, c)

      pub up : (pair : ℕ × Term) → IsChosen now f (chosen ++ id ∷ []) known (fresh || new) (drop (length (chosen ++ id ∷ [])) args) reached pair → IsChosen start f chosen known fresh (drop (length chosen) args) reached pair
      up pair h = record { ids = id ∷ h.ids; choice = choice_up h.ids h.choice; reaches = h.reaches; is = h.is ∙ same h.ids h.choice }

      pub large_up : IsLargeChoice now f (chosen ++ id ∷ []) known (fresh || new) (drop (length (chosen ++ id ∷ [])) args) → IsLargeChoice start f chosen known fresh (drop (length chosen) args)
      large_up h = record { ids = id ∷ h.ids; choice = choice_up h.ids h.choice; large = subst (λ t. 1024 < size_of t) (same h.ids h.choice) h.large }

      -- and back
      pub down : (pair : ℕ × Term) (ids : List ℕ) → IsChoice known (fresh || new) (drop (length (chosen ++ id ∷ [])) args) ids → Contains reached pair.0 → pair.1 ≡ applied start f (chosen ++ id ∷ ids)
          → IsChosen now f (chosen ++ id ∷ []) known (fresh || new) (drop (length (chosen ++ id ∷ [])) args) reached pair
      down pair ids c r e = record { ids = ids; choice = c; reaches = r; is = e ∙ sym (same ids c) }

    -- the first of what is chosen
    pub record FirstChosen (pair : ℕ × Term) : Type 0 where
      pub place : ℕ
      pub within : place < length (known_at known (get_or args (length chosen) 0))
      pub ids : List ℕ
      pub choice : IsChoice known (fresh || (get_or (known_at known (get_or args (length chosen) 0)) place (0, false)).1) (drop (length (chosen ++ (get_or (known_at known (get_or args (length chosen) 0)) place (0, false)).0 ∷ [])) args) ids
      pub reaches : Contains reached pair.0
      pub is : pair.1 ≡ applied start f (chosen ++ (get_or (known_at known (get_or args (length chosen) 0)) place (0, false)).0 ∷ ids)

    pub first_of : (pair : ℕ × Term) → IsChosen start f chosen known fresh (drop (length chosen) args) reached pair → FirstChosen pair
    first_of pair h = go h.ids (subst (λ qs. IsChoice known fresh qs h.ids) (split 0) h.choice) h.is
      where
        cands : List (ℕ × Bool)
        cands = known_at known (get_or args (length chosen) 0)

        go : (ids : List ℕ) → IsChoice known fresh (get_or args (length chosen) 0 ∷ drop (length (chosen ++ 0 ∷ [])) args) ids → pair.1 ≡ applied start f (chosen ++ ids) → FirstChosen pair
        go [] c e = absurd c
        go (id ∷ ids) c e =
            let k = c.1.0 in
            let at : (id, c.0) ≡ get_or cands k (0, false) = sym c.1.2 ∙ get_or_default cands k (id, c.0) (0, false) c.1.1 in
            let size : length (chosen ++ 0 ∷ []) ≡ length (chosen ++ (get_or cands k (0, false)).0 ∷ []) = length-append chosen (0 ∷ []) ∙ sym (length-append chosen ((get_or cands k (0, false)).0 ∷ [])) in
            record {
              place = k;
              within = c.1.1;
              ids = ids;
              choice = subst (λ n. IsChoice known (fresh || (get_or cands k (0, false)).1) (drop n args) ids) size (subst (λ (e : ℕ × Bool). IsChoice known (fresh || e.1) (drop (length (chosen ++ 0 ∷ [])) args) ids) at c.2);
              reaches = h.reaches;
              is = e ∙ ap (λ (e : ℕ × Bool). applied start f (chosen ++ e.0 ∷ ids)) at;
            }

-- ---- one candidate after the other

module _ (start now : List Term) (keeps : Keeps start now) (f : ℕ) (chosen : List ℕ) (known : List (List (ℕ × Bool))) (fresh : Bool) (args reached : List ℕ) (there : All (λ a. a < length start) chosen) (are : AreKnown start known)
    (more : length chosen < length args) (cands : List (ℕ × Bool)) (is : cands ≡ known_at known (get_or args (length chosen) 0)) where
  abbrev Now : List ℕ → Bool → ℕ × Term → Type 0
  Now list b = IsChosen now f list known b (drop (length list) args) reached

  abbrev Whole : ℕ × Term → Type 0
  Whole = IsChosen start f chosen known fresh (drop (length chosen) args) reached

  -- what a candidate makes, stated over the store at the start
  abbrev With : ℕ × Bool → ℕ × Term → Type 0
  With e = IsChosen start f (chosen ++ e.0 ∷ []) known (fresh || e.1) (drop (length (chosen ++ e.0 ∷ [])) args) reached

  module _ (k : ℕ) (l : k < length cands) (list : List ℕ) (list_is : list ≡ chosen ++ (get_or cands k (0, false)).0 ∷ []) where
    member : Contains (known_at known (get_or args (length chosen) 0)) (get_or cands k (0, false))
    member = subst (λ xs. Contains xs (get_or cands k (0, false))) is (member_at cands k (0, false) l)

    pub list_there : All (λ a. a < length now) list
    list_there = subst (All (λ a. a < length now)) (sym list_is) (chosen_there start f chosen known fresh args reached there are more now keeps (get_or cands k (0, false)).0 (get_or cands k (0, false)).1 member)

    pub list_up : (pair : ℕ × Term) → Now list (fresh || (get_or cands k (0, false)).1) pair → Whole pair
    list_up pair h = up start f chosen known fresh args reached there are more now keeps (get_or cands k (0, false)).0 (get_or cands k (0, false)).1 member pair (subst (λ xs. Now xs (fresh || (get_or cands k (0, false)).1) pair) list_is h)

    pub list_large : IsLargeChoice now f list known (fresh || (get_or cands k (0, false)).1) (drop (length list) args) → IsLargeChoice start f chosen known fresh (drop (length chosen) args)
    list_large h = large_up start f chosen known fresh args reached there are more now keeps (get_or cands k (0, false)).0 (get_or cands k (0, false)).1 member (subst (λ xs. IsLargeChoice now f xs known (fresh || (get_or cands k (0, false)).1) (drop (length xs) args)) list_is h)

    pub list_with : (pair : ℕ × Term) → With (get_or cands k (0, false)) pair → Now list (fresh || (get_or cands k (0, false)).1) pair
    list_with pair h = subst (λ xs. Now xs (fresh || (get_or cands k (0, false)).1) pair) (sym list_is)
        (down start f chosen known fresh args reached there are more now keeps (get_or cands k (0, false)).0 (get_or cands k (0, false)).1 member pair h.ids h.choice h.reaches
        (h.is ∙ ap (applied start f) (append_assoc chosen ((get_or cands k (0, false)).0 ∷ []) h.ids)))

  -- whatever is chosen begins with a candidate
  pub begins_with : (pair : ℕ × Term) → Whole pair → (k : ℕ) × (k < length cands) × With (get_or cands k (0, false)) pair
  begins_with pair h = go (first_of start f chosen known fresh args reached there are more pair h)
    where
      go : FirstChosen start f chosen known fresh args reached there are more pair → (k : ℕ) × (k < length cands) × With (get_or cands k (0, false)) pair
      go x = subst (λ xs. (k : ℕ) × (k < length xs) × With (get_or xs k (0, false)) pair) (sym is)
          (x.place, x.within, record { ids = x.ids; choice = x.choice; reaches = x.reaches; is = x.is ∙ ap (applied start f) (sym (append_assoc chosen ((get_or (known_at known (get_or args (length chosen) 0)) x.place (0, false)).0 ∷ []) x.ids)) })

-- where a state has no identity, there is no choice
pub no_choice : (known : List (List (ℕ × Bool))) (states : List ℕ) → LacksOne known states → (fresh : Bool) (ids : List ℕ) → IsChoice known fresh states ids → ⊥
no_choice known [] lack fresh ids c = none lack.state lack.member
no_choice known (q ∷ states) lack fresh [] c = c
no_choice known (q ∷ states) lack fresh (id ∷ ids) c = ⊎_elim
    (λ same. none (id, c.0) (subst (λ xs. Contains xs (id, c.0)) (ap (known_at known) same ∙ lack.lacks) c.1))
    (λ later. no_choice known states (record { state = lack.state; member = later; lacks = lack.lacks }) (fresh || c.0) ids c.2)
    (parts q lack.state states lack.member)

-- choices from nothing, with the states to which the target runs, are what the transition makes
module _ (A : TreeAutomaton) (terms : List Term) (known : List (List (ℕ × Bool))) (fresh : Bool) (t : Trans) (reached : List ℕ) (exact : (q : ℕ) → Contains reached q ↔ Runs A (State t.to) q) where
  pub made_from : (pair : ℕ × Term) → IsChosen terms t.sym [] known fresh t.args reached pair → IsMadeBy A terms known fresh t pair
  made_from pair h = record { ids = h.ids; choice = h.choice; runs = (exact pair.0).0 h.reaches; is = h.is }

  pub made_to : (pair : ℕ × Term) → IsMadeBy A terms known fresh t pair → IsChosen terms t.sym [] known fresh t.args reached pair
  made_to pair h = record { ids = h.ids; choice = h.choice; reaches = (exact pair.0).1 h.runs; is = h.is }
