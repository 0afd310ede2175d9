-- The pairs of a state and a low term in the order of their terms' texts.
use Rattle.std.proofs.Common.{◌≡◌, ◌⊎◌, ℕ, zero, suc, ◌<◌, Bool, true, false, true≢false, ◌&&◌, ◌==◌, List, [], ◌∷◌, map, length, get_or, refl, sym, ap, subst, ◌∙◌, inl, inr, ⊎_elim, arith}
use Rattle.std.specs.Prelude.{IsTrue}
use Rattle.std.specs.List.{All, AllByRecursion, Contains, IsDistinct}
use Rattle.std.specs.declared.cmp.Ordering.{Ordering}
use Rattle.std.specs.declared.cmp.Ordering.TheVariants.{Less, Equal, Greater}
use Rattle.std.specs.Ordering.{nat_cmp, ordering_then, ordering_reverse, is_lt}
use Rattle.std.specs.Cmp.{IsTotalOrder}
use Rattle.std.specs.Cmp.Lexicographic.{slice_cmp}
use Rattle.std.specs.List.Sorted.{IsPermutation, IsSorted, IsStrictlySortedBy}
use Rattle.std.proofs.lemmas.Bool.{eqb-true, eq-eqb}
use Rattle.std.proofs.lemmas.Cmp.{nat_cmp_total, nat_list_cmp_total, on_total, then_total}
use Rattle.std.proofs.lemmas.List.Elements.{All-contains}
use Rattle.std.proofs.lemmas.List.Sorted.{All-permutation, Contains-permutation, IsPermutation-map, IsPermutation-sym, ranks_by, sorted_far}
use Rattle.std.proofs.lemmas.Map.Keys.{IsDistinct-IsPermutation, apart_from_distinct}
use Rattle.std.proofs.lemmas.Map.Lookups.{exact_bytes, exact_unsigned}
use Rattle.list_laws.proofs.Members.{map_has, all_from_members}
use Rattle.ranked_terms.specs.Names.{Symbol}
use Rattle.ranked_terms.specs.SignatureRules.{IsSignature}
use Rattle.ranked_terms.specs.TextLaws.{TextsDiffer}
use Rattle.ranked_terms.specs.Terms.{config_of, is_over}
use Rattle.ranked_terms.specs.Texts.{term_text}
use Rattle.ranked_terms.specs.declared.term.Term.{Term}
use Rattle.ta_core.specs.AcceptanceLaws.{AcceptedTermsAreOver}
use Rattle.ta_core.specs.Laws.{RunsAreMonotone, IsWithin}
use Rattle.ta_core.specs.Languages.{Accepts}
use Rattle.ta_core.specs.Runs.{Runs}
use Rattle.ta_core.specs.SpecRules.{automaton_is_over}
use Rattle.ta_core.specs.TreeAutomaton.{TreeAutomaton}
use Rattle.term_store.specs.Store.{term_at, IsStore}
use Rattle.derive_search.specs.Starts.{AreLowRuns, text_order}
use Rattle.derive_search.specs.LowPairs.{AreLowPairs, ArePlaced, named_pairs}
use Rattle.derive_search.specs.TextOrder.{ArePrinted, HasText, key_of, named}
use Rattle.derive_search.specs.declared.low_terms.Printed.{Printed}
use Rattle.derive_search.proofs.pairs.LowPairLaws.{in_named, member_at}
use Rattle.derive_search.proofs.pairs.LowRounds.{pair_same}
use Rattle.derive_search.proofs.StoreFacts.{same_ids}

-- ---- what runs is over the signature

-- the automaton with one final state
abbrev ends_in : TreeAutomaton → ℕ → TreeAutomaton
ends_in A q = record { states = A.states; next = A.next; finals = q ∷ []; trans = A.trans; eps = A.eps }

pub runs_are_over : AcceptedTermsAreOver → RunsAreMonotone → (signature : List Symbol) (A : TreeAutomaton) → IsTrue (automaton_is_over signature A) → (q : ℕ) (t : Term) → Runs A (config_of t) q → IsTrue (is_over signature t)
runs_are_over over monotone signature A known q t r =
    let within : IsWithin A (ends_in A q) = record { states = λ p c. c; trans = λ f ps p c. c; eps = λ p p' c. c } in
    let accepted : Accepts (ends_in A q) t = record { state = q; runs = monotone A (ends_in A q) within (config_of t) q r; final = (0, omega arith, refl) } in
    over signature (ends_in A q) known t accepted

pub pairs_over : AcceptedTermsAreOver → RunsAreMonotone → (signature : List Symbol) (A : TreeAutomaton) → IsTrue (automaton_is_over signature A) → (height limit : ℕ) (terms : List Term) (pairs : List (ℕ × ℕ))
    → AreLowPairs A height limit terms pairs → All (λ (p : ℕ × ℕ). IsTrue (is_over signature (term_at terms p.1))) pairs
pairs_over over monotone signature A known height limit terms pairs low =
    all_from_members (λ (p : ℕ × ℕ). IsTrue (is_over signature (term_at terms p.1))) pairs (λ p c.
    runs_are_over over monotone signature A known p.0 (term_at terms p.1) (((low.exact (p.0, term_at terms p.1)).0 (in_named terms pairs p c)).runs))

-- ---- orders

abbrev pub printed_cmp : Printed → Printed → Ordering
printed_cmp x y = ordering_then (nat_cmp x.state y.state) (ordering_then (slice_cmp nat_cmp x.text.items y.text.items) (nat_cmp x.id y.id))

printed_total : IsTotalOrder printed_cmp
printed_total = then_total (on_total (λ (e : Printed). e.state) nat_cmp_total) (then_total (on_total (λ (e : Printed). e.text.items) nat_list_cmp_total) (on_total (λ (e : Printed). e.id) nat_cmp_total))

-- a comparison by three parts of which the last doesn't tell
first_two : (a b c : Ordering) → (ordering_then a b ≡ Less) ⊎ ((a ≡ Equal) × (b ≡ Equal)) ⊎ (ordering_then a (ordering_then b c) ≡ Greater)
first_two Less b c = inl refl
first_two Equal Less c = inl refl
first_two Equal Equal c = inr (inl (refl, refl))
first_two Equal Greater c = inr (inr refl)
first_two Greater b c = inr (inr refl)

not_greater : (x y : Printed) → is_lt (printed_cmp y x) ≡ false → printed_cmp x y ≡ Greater → ⊥
not_greater x y least e =
    let less : printed_cmp y x ≡ Less = printed_total.antisymm y x ∙ ap ordering_reverse e in
    let yes : is_lt (printed_cmp y x) ≡ true = ap is_lt less in cc

-- ---- mapped lists in order

module _ {X Y : Type 0} (f : X → Y) (order : Y → Y → Ordering) where
  heads : (x : X) (xs : List X) → ((k : ℕ) (d : X) → k < length xs → order (f x) (f (get_or xs k d)) ≡ Less) → AllByRecursion (λ y. order (f x) y ≡ Less) (map f xs)
  heads x [] h = tt
  heads x (y ∷ ys) h = (h 0 y (omega arith), heads x ys (λ k d l. h (suc k) d (omega (arith, l))))

  pub strict_map : (xs : List X) → ((i j : ℕ) (d : X) → i < j → j < length xs → order (f (get_or xs i d)) (f (get_or xs j d)) ≡ Less) → IsStrictlySortedBy order (map f xs)
  unfolding IsStrictlySortedBy
  strict_map [] h = tt
  strict_map (x ∷ xs) h = (heads x xs (λ k d l. h 0 (suc k) d (omega arith) (omega (arith, l))), strict_map xs (λ i j d l m. h (suc i) (suc j) d (omega (arith, l)) (omega (arith, m))))

at_map : {X Y : Type 0} (f : X → Y) (xs : List X) (i : ℕ) (d : X) → i < length xs → get_or (map f xs) i (f d) ≡ f (get_or xs i d)
at_map f [] i d l = absurd (omega (arith, l))
at_map f (x ∷ xs) zero d l = refl
at_map f (x ∷ xs) (suc i) d l = at_map f xs i d (omega (arith, l))

length_map : {X Y : Type 0} (f : X → Y) (xs : List X) → length (map f xs) ≡ length xs
length_map f [] = refl
length_map f (x ∷ xs) = ap suc (length_map f xs)

-- ---- pairs of numbers that are the same

abbrev pub same_pairs : ℕ × ℕ → ℕ × ℕ → Bool
same_pairs x y = (x.0 == y.0) && (x.1 == y.1)

same : (x : ℕ × ℕ) → same_pairs x x ≡ true
same x = pair_same (x.0 == x.0) (x.1 == x.1) (eq-eqb x.0 x.0 refl) (eq-eqb x.1 x.1 refl)

flip : (a b : ℕ) → (a == b) ≡ (b == a)
flip a b = go (a == b) (b == a) refl refl
  where
    go : (x y : Bool) → (a == b) ≡ x → (b == a) ≡ y → (a == b) ≡ (b == a)
    go true y e f = e ∙ sym (eq-eqb b a (sym (eqb-true a b e)))
    go false true e f = let h : (a == b) ≡ true = eq-eqb a b (sym (eqb-true b a f)) in absurd (true≢false (sym h ∙ e))
    go false false e f = e ∙ sym f

flips : (x y : ℕ × ℕ) → same_pairs x y ≡ same_pairs y x
flips x y = λ i. flip x.0 y.0 i && flip x.1 y.1 i

-- ---- pairs that are in order

module _ (texts_differ : TextsDiffer) (signature : List Symbol) (valid : IsSignature signature) (terms : List Term) (store : IsStore terms) (pairs : List (ℕ × ℕ)) (placed : ArePlaced terms pairs)
    (over : All (λ (p : ℕ × ℕ). IsTrue (is_over signature (term_at terms p.1))) pairs) (apart : IsDistinct same_pairs pairs)
    (xs ys : List Printed) (are : ArePrinted signature terms pairs xs) (moved : IsPermutation xs ys) where
  keyed : (e : Printed) → Contains ys e → Contains pairs (key_of e)
  keyed e c = subst (λ ps. Contains ps (key_of e)) are.are (map_has key_of xs e (key_of e) (Contains-permutation ys xs e (IsPermutation-sym xs ys moved) c) refl)

  pub placed_still : All (λ (e : Printed). e.id < length terms) ys
  placed_still = all_from_members (λ (e : Printed). e.id < length terms) ys (λ e c. All-contains (λ (p : ℕ × ℕ). p.1 < length terms) pairs (key_of e) placed (keyed e c))

  over_still : (e : Printed) → Contains ys e → IsTrue (is_over signature (term_at terms e.id))
  over_still e c = All-contains (λ (p : ℕ × ℕ). IsTrue (is_over signature (term_at terms p.1))) pairs (key_of e) over (keyed e c)

  text_still : (e : Printed) → Contains ys e → HasText signature terms e
  text_still e c = All-contains (HasText signature terms) ys e (All-permutation (HasText signature terms) xs ys moved are.texts) c

  keys_apart : IsDistinct same_pairs (map key_of ys)
  keys_apart = IsDistinct-IsPermutation same_pairs flips (map key_of xs) (map key_of ys) (IsPermutation-map key_of xs ys moved) (subst (IsDistinct same_pairs) (sym are.are) apart)

  -- two places have no state and text in common
  not_tied : (i j : ℕ) (d : Printed) → i < j → j < length ys → nat_cmp (get_or ys i d).state (get_or ys j d).state ≡ Equal → slice_cmp nat_cmp (get_or ys i d).text.items (get_or ys j d).text.items ≡ Equal → ⊥
  not_tied i j d l m s t =
      let x = get_or ys i d in let y = get_or ys j d in
      let cx : Contains ys x = member_at ys i d (omega (arith, l, m)) in let cy : Contains ys y = member_at ys j d m in
      let texts : term_text signature (term_at terms x.id) ≡ term_text signature (term_at terms y.id) = sym (text_still x cx) ∙ (exact_bytes x.text.items y.text.items t ∙ text_still y cy) in
      let one = texts_differ signature valid (term_at terms x.id) (term_at terms y.id) (over_still x cx) (over_still y cy) texts in
      let id : x.id ≡ y.id = same_ids terms store x.id y.id (All-contains (λ (e : Printed). e.id < length terms) ys x placed_still cx) (All-contains (λ (e : Printed). e.id < length terms) ys y placed_still cy) one in
      let state : x.state ≡ y.state = exact_unsigned x.state y.state s in
      let key : key_of x ≡ key_of y = λ n. (state n, id n) in
      let no : same_pairs (key_of x) (key_of y) ≡ false =
      subst (λ k. same_pairs k (key_of y) ≡ false) (at_map key_of ys i d (omega (arith, l, m))) (subst (λ k. same_pairs (get_or (map key_of ys) i (key_of d)) k ≡ false) (at_map key_of ys j d m)
      (apart_from_distinct same_pairs (map key_of ys) i j (key_of d) keys_apart l (omega (arith, m, length_map key_of ys)))) in
      let yes : same_pairs (key_of x) (key_of y) ≡ true = subst (λ k. same_pairs (key_of x) k ≡ true) key (same (key_of x)) in cc

  module _ (sorted : IsSorted printed_cmp ys) where
    ascends : (i j : ℕ) (d : Printed) → i < j → j < length ys → text_order signature (named terms (get_or ys i d)) (named terms (get_or ys j d)) ≡ Less
    ascends i j d l m =
        let x = get_or ys i d in let y = get_or ys j d in
        let tx = text_still x (member_at ys i d (omega (arith, l, m))) in let ty = text_still y (member_at ys j d m) in
        let far = sorted_far (λ (a b : Printed). is_lt (printed_cmp a b)) (ranks_by printed_total (λ (e : Printed). e)) ys sorted i j d (omega (arith, l)) m in
        subst (λ text. ordering_then (nat_cmp x.state y.state) (slice_cmp nat_cmp text (term_text signature (term_at terms y.id))) ≡ Less) tx
        (subst (λ text. ordering_then (nat_cmp x.state y.state) (slice_cmp nat_cmp x.text.items text) ≡ Less) ty
        (⊎_elim
        (λ less. less)
        (λ more. ⊎_elim (λ tied. absurd (not_tied i j d l m tied.0 tied.1)) (λ greater. absurd (not_greater x y far greater)) more)
        (first_two (nat_cmp x.state y.state) (slice_cmp nat_cmp x.text.items y.text.items) (nat_cmp x.id y.id))))

    pub in_text_order : IsStrictlySortedBy (text_order signature) (map (named terms) ys)
    in_text_order = strict_map (named terms) (text_order signature) ys ascends

  -- ---- the list

  named_by_keys : (zs : List Printed) → map (named terms) zs ≡ named_pairs terms (map key_of zs)
  named_by_keys [] = refl
  named_by_keys (z ∷ zs) = ap (λ ps. named terms z ∷ ps) (named_by_keys zs)

  pub low_runs : (A : TreeAutomaton) (height limit : ℕ) → AreLowPairs A height limit terms pairs → IsSorted printed_cmp ys → AreLowRuns signature A height (map (named terms) ys)
  low_runs A height limit low sorted =
      let is : map (named terms) xs ≡ named_pairs terms pairs = named_by_keys xs ∙ ap (named_pairs terms) are.are in
      let moves : IsPermutation (map (named terms) xs) (map (named terms) ys) = IsPermutation-map (named terms) xs ys moved in
      record {
        members = λ pair. (
          λ c. (low.exact pair).0 (subst (λ ps. Contains ps pair) is (Contains-permutation (map (named terms) ys) (map (named terms) xs) pair (IsPermutation-sym (map (named terms) xs) (map (named terms) ys) moves) c)),
          λ r. Contains-permutation (map (named terms) xs) (map (named terms) ys) pair moves (subst (λ ps. Contains ps pair) (sym is) ((low.exact pair).1 r)),
        );
        sorted = in_text_order sorted;
      }
