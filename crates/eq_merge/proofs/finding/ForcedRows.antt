-- The list of forced pairs, state by state.
use Rattle.std.proofs.Common.{◌≡◌, ◌↔◌, ℕ, ◌+◌, ◌≤◌, ◌<◌, List, [], ◌∷◌, ◌++◌, take, drop, get_or, slice_get, map, length, Some, All, Contains, refl, sym, ap, subst, ◌∙◌, ⊎_elim, arith}
use Rattle.std.specs.declared.cmp.Ordering.TheVariants.{Less}
use Rattle.std.specs.Ordering.{nat_cmp}
use Rattle.std.specs.List.{AllZip}
use Rattle.std.specs.List.Sorted.{IsStrictlySortedBy}
use Rattle.std.proofs.lemmas.Bool.Decides.{nat_tests}
use Rattle.std.proofs.lemmas.Cmp.{nat_cmp_total}
use Rattle.std.proofs.lemmas.Option.{slice_get-get_or}
use Rattle.std.proofs.lemmas.List.{append_assoc, append-nil, take-append-drop, drop_more, length-append, length-map, length-drop, get_or_default, get_or-append-add, get_or_append_left, get_or-map}
use Rattle.std.proofs.lemmas.List.Elements.{Contains-append_right, Contains-append_cases}
use Rattle.list_laws.specs.Listings.{IsListing}
use Rattle.list_laws.proofs.Inserting.{few_below}
use Rattle.list_laws.proofs.Listings.{before_rest, rest_ascends, back_ascends}
use Rattle.list_laws.proofs.Members.{here, there, none, parts, all_from_members}
use Rattle.trs_rules.specs.Rules.{RewriteEquation, IsEquation}
use Rattle.ta_core.specs.TreeAutomaton.{TreeAutomaton, IsSound}
use Rattle.ta_core.specs.Laws.{PlainRunsAreDecided}
use Rattle.eq_merge.specs.Merging.{Forces, ForcedAmong, AreForcedPairs, pairs_of}
use Rattle.eq_merge.specs.MergingLaws.{IsInOrder}
use Rattle.eq_merge.specs.Ends.{AreEnds}
use Rattle.eq_merge.specs.Rows.{AreOpposite, ForcedUpTo}
use Rattle.eq_merge.proofs.quotients.Composition.{state_below}
use Rattle.eq_merge.proofs.least.Deciding.{forced_listed}
use Rattle.eq_merge.proofs.finding.Gathering.{all_equated, all_opposite}
use Rattle.eq_merge.proofs.least.LeastMerges.{forced_second}
use Rattle.eq_merge.proofs.quotients.Survival.{same_or_not}

less_is : (a b : ℕ) → nat_cmp a b ≡ Less → a < b
less_is a b e = grind (arith, nat_tests)

above_rest : (x : ℕ) (xs : List ℕ) → IsStrictlySortedBy nat_cmp (x ∷ xs) → (y : ℕ) → Contains xs y → x < y
above_rest x xs s y c = less_is x y (before_rest nat_cmp_total x xs s y c)

-- ---- one row

module _ {A : TreeAutomaton} {E : List RewriteEquation} where
  among_both : {xs ys us vs : List (ℕ × ℕ)} → ForcedAmong A E xs us → ForcedAmong A E ys vs → ForcedAmong A E (xs ++ ys) (us ++ vs)
  among_both ForcedAmong.none b = b
  among_both (ForcedAmong.forced_one f a) b = ForcedAmong.forced_one f (among_both a b)
  among_both (ForcedAmong.free_one never a) b = ForcedAmong.free_one never (among_both a b)

module _ (A : TreeAutomaton) (E : List RewriteEquation) where
  abbrev IsRow : ℕ → List ℕ → List ℕ → Type 0
  IsRow p behind row = (q : ℕ) → Contains row q ↔ (Contains behind q × Forces A E p q)

  row_among : (p : ℕ) (behind row : List ℕ) → IsStrictlySortedBy nat_cmp behind → IsStrictlySortedBy nat_cmp row → IsRow p behind row →
      ForcedAmong A E (map (λ q. (p, q)) behind) (map (λ q. (p, q)) row)
  row_among p [] [] s t exact = ForcedAmong.none
  row_among p [] (r ∷ row) s t exact = absurd (none r ((exact r).0 (here r row)).0)
  row_among p (b ∷ behind) [] s t exact =
      ForcedAmong.free_one (λ f. none b ((exact b).1 (here b behind, f)))
      (row_among p behind [] (rest_ascends nat_cmp_total b behind s) t (λ q. (λ c. absurd (none q c), λ h. (exact q).1 (there b q behind h.0, h.1))))
  row_among p (b ∷ behind) (r ∷ row) s t exact =
      ⊎_elim
      (λ e. subst (λ x. ForcedAmong A E (map (λ q. (p, q)) (b ∷ behind)) ((p, x) ∷ map (λ q. (p, q)) row)) (sym e)
      (ForcedAmong.forced_one (subst (Forces A E p) e ((exact r).0 (here r row)).1)
      (row_among p behind row (rest_ascends nat_cmp_total b behind s) (rest_ascends nat_cmp_total r row t) (λ q. (
        λ c. let h = (exact q).0 (there r q row c) in
            (⊎_elim (λ same. absurd (omega (arith, e, same, above_rest r row t q c))) (λ later. later) (parts b q behind h.0), h.1),
        λ h. ⊎_elim (λ same. absurd (omega (arith, e, same, above_rest b behind s q h.0))) (λ later. later) (parts r q row ((exact q).1 (there b q behind h.0, h.1))),
      )))))
      (λ d.
      let low : b < r = ⊎_elim (λ same. absurd (d (sym same))) (λ later. above_rest b behind s r later) (parts b r behind ((exact r).0 (here r row)).0) in
      let out : Contains (r ∷ row) b → ⊥ = λ c. ⊎_elim (λ same. d same) (λ later. omega (arith, low, above_rest r row t b later)) (parts r b row c) in
      ForcedAmong.free_one (λ f. out ((exact b).1 (here b behind, f)))
      (row_among p behind (r ∷ row) (rest_ascends nat_cmp_total b behind s) t (λ q. (
        λ c. let h = (exact q).0 c in (⊎_elim (λ same. absurd (out (subst (Contains (r ∷ row)) (sym same) c))) (λ later. later) (parts b q behind h.0), h.1),
        λ h. (exact q).1 (there b q behind h.0, h.1),
      ))))
      (same_or_not r b)

-- ---- states behind a state

-- what stands in front is below what stands behind
below_behind : (xs ys : List ℕ) → IsStrictlySortedBy nat_cmp (xs ++ ys) → (x y : ℕ) → Contains xs x → Contains ys y → x < y
below_behind [] ys s x y c d = absurd (none x c)
below_behind (z ∷ xs) ys s x y c d =
    ⊎_elim (λ same. subst (λ w. w < y) same (above_rest z (xs ++ ys) s y (Contains-append_right xs ys y d))) (λ later. below_behind xs ys (rest_ascends nat_cmp_total z (xs ++ ys) s) x y later d) (parts z x xs c)

module _ (states : List ℕ) (ascend : IsStrictlySortedBy nat_cmp states) (i p : ℕ) (l : i < length states) (is : p ≡ get_or states i p) where
  abbrev behind : List ℕ
  behind = drop (i + 1) states

  pub from_here : drop i states ≡ p ∷ behind
  from_here = drop_more states i p l ∙ ap (λ x. x ∷ behind) (sym is)

  splits : take i states ++ (p ∷ behind) ≡ states
  splits = ap (λ xs. take i states ++ xs) (sym from_here) ∙ take-append-drop i states

  in_two : IsStrictlySortedBy nat_cmp (take i states ++ (p ∷ behind))
  in_two = subst (IsStrictlySortedBy nat_cmp) (sym splits) ascend

  rest_of : IsStrictlySortedBy nat_cmp (p ∷ behind)
  rest_of = back_ascends nat_cmp_total (take i states) (p ∷ behind) in_two

  pub behind_ascends : IsStrictlySortedBy nat_cmp behind
  behind_ascends = rest_ascends nat_cmp_total p behind rest_of

  pub behind_above : (q : ℕ) → Contains behind q → p < q
  behind_above q c = above_rest p behind rest_of q c

  pub above_behind : (q : ℕ) → Contains states q → p < q → Contains behind q
  above_behind q c above =
      ⊎_elim (λ before. absurd (omega (arith, above, below_behind (take i states) (p ∷ behind) in_two q p before (here p behind))))
      (λ k. ⊎_elim (λ same. absurd (omega (arith, same, above))) (λ later. later) (parts p q behind k))
      (Contains-append_cases (take i states) (p ∷ behind) q (subst (λ xs. Contains xs q) (sym splits) c))

-- ---- one state after the other

module _ {A : TreeAutomaton} (sound : IsSound A) (order : IsInOrder A) (E : List RewriteEquation) (are : All IsEquation E) (all : List TreeAutomaton) (ends : AllZip (AreEnds A) E all) where
  module _ (i p : ℕ) (l : i < length A.states) (is : p ≡ get_or A.states i p) (row : List ℕ) (listing : IsListing nat_cmp (λ q. (p < q) × AreOpposite all p q) row) where
    forced_by : (q : ℕ) → p < q → AreOpposite all p q → Forces A E p q
    forced_by q above x =
        let h = all_equated E all are ends p q x in
        record { differ = λ e. omega (arith, above, e); equation = h.0; is_equation = h.1; equates = h.2 }

    is_row : (q : ℕ) → Contains row q ↔ (Contains (drop (i + 1) A.states) q × Forces A E p q)
    is_row q = (
      λ c. let h = (listing.exact q).0 c in
          let f = forced_by q h.0 h.1 in
          (above_behind A.states order.states i p l is q (forced_second sound f) h.0, f),
      λ h. (listing.exact q).1 (behind_above A.states order.states i p l is q h.0, all_opposite E all are ends p q (h.1.equation, h.1.is_equation, h.1.equates)),
    )

    pub row_up_to : (done : List (ℕ × ℕ)) → ForcedUpTo A E i done → ForcedUpTo A E (i + 1) (done ++ map (λ q. (p, q)) row)
    row_up_to done f =
        let behind = drop (i + 1) A.states in
        record {
          front = f.front ++ map (λ q. (p, q)) behind;
          splits = f.splits ∙ (ap (λ xs. f.front ++ pairs_of xs) (from_here A.states order.states i p l is) ∙ sym (append_assoc f.front (map (λ q. (p, q)) behind) (pairs_of behind)));
          forced = among_both f.forced (row_among A E p behind row (behind_ascends A.states order.states i p l is) listing.ascends is_row);
        }

    pub row_short : length row ≤ A.next
    row_short = few_below row A.next listing.ascends (all_from_members (λ q. q < A.next) row (λ q c. state_below sound q (forced_second sound ((is_row q).0 c).1)))

    -- the pair at a place of the row
    pub pair_in_row : PlainRunsAreDecided → (done : List (ℕ × ℕ)) → ForcedUpTo A E i done → (k j : ℕ) → k < length row → length done + k ≡ j →
        (pairs : List (ℕ × ℕ)) × AreForcedPairs A E pairs × (Some (p, get_or row k 0) ≡ slice_get pairs j)
    pair_in_row decided done f k j short at =
        let here : List (ℕ × ℕ) = map (λ q. (p, q)) row in
        let more = row_up_to done f in
        let others = forced_listed decided A E are (pairs_of (drop (i + 1) A.states)) in
        let pairs = (done ++ here) ++ others.0 in
        let d : ℕ × ℕ = (p, 0) in
        let in_both : length done + k < length (done ++ here) = omega (arith, short, length-append done here, length-map {B = ℕ × ℕ} row (λ q. (p, q))) in
        let within : j < length pairs = omega (arith, in_both, at, length-append (done ++ here) others.0) in
        let found : get_or pairs j d ≡ (p, get_or row k 0) =
        ap (λ n. get_or pairs n d) (sym at) ∙ (get_or_append_left (done ++ here) others.0 d (length done + k) in_both
        ∙ (get_or-append-add done here k d ∙ get_or-map (λ q. (p, q)) row k 0 d short)) in
        (pairs, subst (λ xs. ForcedAmong A E xs pairs) (sym more.splits) (among_both more.forced others.1), sym (slice_get-get_or pairs j d within ∙ ap Some found))

-- at the end
pub all_forced : {A : TreeAutomaton} {E : List RewriteEquation} (i : ℕ) (done : List (ℕ × ℕ)) → length A.states ≤ i → ForcedUpTo A E i done → AreForcedPairs A E done
all_forced {A = A} {E = E} i done l f =
    subst (λ xs. ForcedAmong A E xs done) (sym (f.splits ∙ (ap (λ xs. f.front ++ pairs_of xs) (nothing_left (drop i A.states) (omega (arith, l, length-drop i A.states))) ∙ append-nil f.front))) f.forced
  where
    nothing_left : (xs : List ℕ) → length xs ≤ 0 → xs ≡ []
    nothing_left [] h = refl
    nothing_left (x ∷ xs) h = absurd (omega (arith, h))

pub at_start : {A : TreeAutomaton} {E : List RewriteEquation} → ForcedUpTo A E 0 []
at_start = record { front = []; splits = refl; forced = ForcedAmong.none }

pub states_few : {A : TreeAutomaton} → IsSound A → IsInOrder A → length A.states ≤ A.next
states_few {A = A} sound order = few_below A.states A.next order.states sound.below

-- a state of the list at its place
pub item_is : (states items : List ℕ) (i : ℕ) → items ≡ states → i < length items → get_or items i 0 ≡ get_or states i (get_or items i 0)
item_is states items i e l = ap (λ xs. get_or xs i 0) e ∙ get_or_default states i 0 (get_or items i 0) (subst (λ xs. i < length xs) e l)

pub item_within : (states items : List ℕ) (i : ℕ) → items ≡ states → i < length items → i < length states
item_within states items i e l = subst (λ xs. i < length xs) e l
