use Rattle.std.proofs.Common.{ℕ, List, Bool, ◌≡◌, ◌<◌, ◌≤◌, ◌+◌, ◌||◌, ◌++◌, ◌∷◌, [], true, false, take, drop, length, get_or, refl, sym, ap, subst, ◌∙◌, inl, inr, ⊎_elim, length-append, arith}
use Rattle.std.specs.Prelude.{IsTrue}
use Rattle.std.specs.List.{Contains, All}
use Rattle.std.specs.List.Sorted.{IsNonDecreasingBy}
use Rattle.std.proofs.lemmas.List.{get_or_default}
use Rattle.std.proofs.Math.Seq.{take-append_seam}
use Rattle.ranked_terms.specs.Terms.{size_of}
use Rattle.ranked_terms.specs.declared.term.Term.{Term}
use Rattle.term_store.specs.Store.{applied, Keeps}
use Rattle.derive_search.specs.LowPairs.{ArePlaced, Grows, HasEach, known_at, mark, named_pairs, IsChosen, AreKnown}
use Rattle.derive_search.proofs.StoreFacts.{keeps_itself, match_by, when_true, when_false}
use Rattle.derive_search.proofs.SearchLaws.{last_or}
use Rattle.derive_search.proofs.pairs.LowPairLaws.{grows_not, grows_more, grows_by, has_stays, placed_now}
use Rattle.derive_search.proofs.pairs.OldFirst.{left_out}
use Rattle.derive_search.proofs.pairs.CombineLaws.{known_stay, ended, end_of, large_end, list_there, list_up, list_large, list_with, begins_with}
use Rattle.derive_search.proofs.low_pairs.+combine.Goals as goal

-- the candidates are those known of the next argument
candidates : (known : List (List (ℕ × Bool))) (args args' chosen chosen' : List ℕ) (found cands : List (ℕ × Bool)) → args' ≡ args → chosen' ≡ chosen → ((k d : ℕ) → k < length args → get_or args k d < length known) → length chosen < length args
    → found ≡ get_or known (get_or args' (length chosen') 0) found → cands ≡ found → cands ≡ known_at known (get_or args (length chosen) 0)
candidates known args args' chosen chosen' found cands e h below more is same =
    same ∙ (is ∙ (ap (λ n. get_or known n found) ((λ i. get_or (e i) (length (h i)) 0)) ∙ get_or_default known (get_or args (length chosen) 0) found [] (below (length chosen) 0 more)))

true_from : (b : Bool) → (b ≡ false → ⊥) → IsTrue b
true_from true n = refl
true_from false n = absurd (n refl)

pub returns-then-place-args-clause-grows : goal.returns-then-place-args-clause-grows
returns-then-place-args-clause-grows t c =
    let start = c.args.store.now in let f = c.args.t.now.sym in let chosen = c.args.chosen.now.items in let known = c.args.known.now in let fresh = c.args.fresh in let args = c.args.t.now.args in let reached = c.args.states.now in
    let whole : length chosen ≡ length args = sym (ap length c.as_slice-place.ensures.value) ∙ (c.if-place-args.true ∙ ap length c.as_slice-args.ensures) in
    grows_by (λ (pair : ℕ × Term). Contains reached pair.0 × (pair.1 ≡ applied start f c.as_slice.result.now)) (IsChosen start f chosen known fresh (drop (length chosen) args) reached)
    (λ pair h. ended start f chosen known fresh args reached c.requires.chosen c.requires.known whole c.if-not-fresh.false pair (h.0, h.1 ∙ ap (applied start f) c.as_slice.ensures.value))
    start c.add_made.new.store c.args.pairs.now.keys c.add_made.new.pairs.keys c.in_ok-within.ensures.grows

pub returns-then-place-args-clause-all : goal.returns-then-place-args-clause-all
returns-then-place-args-clause-all t c =
    let start = c.args.store.now in let f = c.args.t.now.sym in let chosen = c.args.chosen.now.items in let known = c.args.known.now in let fresh = c.args.fresh in let args = c.args.t.now.args in let reached = c.args.states.now in
    let whole : length chosen ≡ length args = sym (ap length c.as_slice-place.ensures.value) ∙ (c.if-place-args.true ∙ ap length c.as_slice-args.ensures) in
    match_by c.in_ok-within.within
    (λ h. (λ pair m. let e = end_of start f chosen known fresh args reached c.requires.chosen c.requires.known whole pair m in h.0 pair (e.0, e.1 ∙ ap (applied start f) (sym c.as_slice.ensures.value)), h.1))
    (λ h. ⊎_elim (λ many. inl many) (λ large. inr (large_end start f chosen known fresh args reached c.requires.chosen c.requires.known whole c.if-not-fresh.false (subst (λ xs. 1024 < size_of (applied start f xs)) c.as_slice.ensures.value large))) h)
    c.in_ok-within.ensures.all

more_args : (chosen args : List ℕ) (place count : ℕ) → place ≡ length chosen → count ≡ length args → length chosen ≤ length args → (place ≡ count → ⊥) → length chosen < length args
more_args chosen args place count e h l n = omega (arith, l, λ (x : length chosen ≡ length args). n (e ∙ (x ∙ sym h)))

-- the loop, at a candidate: of the store and the pairs at the start, in the loop and after the candidate
module _ (start now after : List Term) (keeps : Keeps start now) (f : ℕ) (chosen : List ℕ) (known : List (List (ℕ × Bool))) (fresh : Bool) (args reached : List ℕ) (there : All (λ a. a < length start) chosen) (are : AreKnown start known)
    (more : length chosen < length args) (cands : List (ℕ × Bool)) (is : cands ≡ known_at known (get_or args (length chosen) 0)) (k : ℕ) (l : k < length cands) (list : List ℕ) (list_is : list ≡ chosen ++ (get_or cands k (0, false)).0 ∷ [])
    (old mid new : List (ℕ × ℕ)) where
  abbrev Whole : ℕ × Term → Type 0
  Whole = IsChosen start f chosen known fresh (drop (length chosen) args) reached

  abbrev Now : ℕ × Term → Type 0
  Now = IsChosen now f list known (fresh || (get_or cands k (0, false)).1) (drop (length list) args) reached

  abbrev With : ℕ × Bool → ℕ × Term → Type 0
  With e = IsChosen start f (chosen ++ e.0 ∷ []) known (fresh || e.1) (drop (length (chosen ++ e.0 ∷ [])) args) reached

  module _ (g : Grows start now old mid Whole) (h : Grows now after mid new Now) where
    grown : Grows start after old new Whole
    grown = grows_more Whole start now after old mid new g (grows_by Now Whole (list_up start now keeps f chosen known fresh args reached there are more cands is k l list list_is) now after mid new h)

    tried : ArePlaced start old → ((pair : ℕ × Term) (j : ℕ) → j < k → With (get_or cands j (0, false)) pair → Contains (named_pairs now mid) pair) → HasEach after new Now
        → (pair : ℕ × Term) (j : ℕ) → j < k + 1 → With (get_or cands j (0, false)) pair → Contains (named_pairs after new) pair
    tried placed before now_each pair j m w = ⊎_elim
        (λ less. has_stays Now now after mid new (placed_now Whole start now old mid placed g) h pair (before pair j less w))
        (λ same. now_each pair (list_with start now keeps f chosen known fresh args reached there are more cands is k l list list_is pair (subst (λ j. With (get_or cands j (0, false)) pair) same w)))
        (last_or j k m)

pub first_tried-start-requires : goal.first_tried-start-requires
first_tried-start-requires t c =
    let chosen = c.args.chosen.now.items in let known = c.args.known.now in let args = c.args.t.now.args in
    let cands = c.as_slice-candidates.result.now in
    let more : length chosen < length args = more_args chosen args (length c.as_slice-place.result.now) (length c.as_slice-args.result.now) (ap length c.as_slice-place.ensures.value) (ap length c.as_slice-args.ensures) c.requires.place c.if-place-args.false in
    let is : cands ≡ known_at known (get_or args (length chosen) 0) = candidates known args c.as_slice-args.result.now chosen c.as_slice-place.result.now c.index-known-args.result cands c.as_slice-args.ensures c.as_slice-place.ensures.value c.requires.below more c.index-known-args.is c.as_slice-candidates.ensures in
    subst (IsNonDecreasingBy mark) (sym is) (c.requires.ordered (get_or args (length chosen) 0))

pub loop-k-init : goal.loop-k-init
loop-k-init t c =
    let start = c.args.store.now in let f = c.args.t.now.sym in let chosen = c.args.chosen.now.items in let known = c.args.known.now in let fresh = c.args.fresh in let args = c.args.t.now.args in let reached = c.args.states.now in
    let cands = c.as_slice-candidates.result.now in (
      refl,
      grows_not (IsChosen start f chosen known fresh (drop (length chosen) args) reached) start c.args.pairs.now.keys,
      (λ pair k l h.
          let skipped = c.first_tried-start.ensures k (0, false) l in
          absurd (left_out start f chosen known fresh args reached (get_or cands k (0, false)) (length c.as_slice-place.result.now) (length c.as_slice-args.result.now) (ap length c.as_slice-place.ensures.value) (ap length c.as_slice-args.ensures) skipped.0 skipped.1 pair h)),
      c.requires.few,
    )

pub combine-requires : goal.combine-requires
combine-requires t c =
    let start = c.args.store.now in let f = c.args.t.now.sym in let chosen = c.args.chosen.now.items in let known = c.args.known.now in let fresh = c.args.fresh in let args = c.args.t.now.args in let reached = c.args.states.now in
    let cands = c.as_slice-candidates.result.now in
    let more : length chosen < length args = more_args chosen args (length c.as_slice-place.result.now) (length c.as_slice-args.result.now) (ap length c.as_slice-place.ensures.value) (ap length c.as_slice-args.ensures) c.requires.place c.if-place-args.false in
    let is : cands ≡ known_at known (get_or args (length chosen) 0) = candidates known args c.as_slice-args.result.now chosen c.as_slice-place.result.now c.index-known-args.result cands c.as_slice-args.ensures c.as_slice-place.ensures.value c.requires.below more c.index-known-args.is c.as_slice-candidates.ensures in
    let k = c.loop-k.k in let list = c.push.new.self.items in
    let list_is : list ≡ chosen ++ (get_or cands k (0, false)).0 ∷ [] = c.in_ok-push.ensures.items ∙ ap (λ (xs : List ℕ). xs ++ (get_or cands k (0, false)).0 ∷ []) c.loop-k.invariant.0 in
    let size : length list ≡ length chosen + 1 = ap length list_is ∙ length-append chosen ((get_or cands k (0, false)).0 ∷ []) in (
      omega (arith, c.decreases, size, more),
      (
        list_there start c.loop-k.store c.loop-k.invariant.1.keeps f chosen known fresh args reached c.requires.chosen c.requires.known more cands is k c.loop-k-test.true list list_is,
        (
          omega (arith, size, more),
          (c.requires.below, (known_stay start c.loop-k.store c.loop-k.invariant.1.keeps known c.requires.known, (c.requires.ordered, (placed_now _ start c.loop-k.store c.args.pairs.now.keys c.loop-k.pairs.keys c.requires.placed c.loop-k.invariant.1, c.loop-k.invariant.3)))),
        ),
      ),
    )

pub returns-then-not-within-clause-grows : goal.returns-then-not-within-clause-grows
returns-then-not-within-clause-grows t c =
    let start = c.args.store.now in let f = c.args.t.now.sym in let chosen = c.args.chosen.now.items in let known = c.args.known.now in let fresh = c.args.fresh in let args = c.args.t.now.args in let reached = c.args.states.now in
    let cands = c.as_slice-candidates.result.now in
    let more : length chosen < length args = more_args chosen args (length c.as_slice-place.result.now) (length c.as_slice-args.result.now) (ap length c.as_slice-place.ensures.value) (ap length c.as_slice-args.ensures) c.requires.place c.if-place-args.false in
    let is : cands ≡ known_at known (get_or args (length chosen) 0) = candidates known args c.as_slice-args.result.now chosen c.as_slice-place.result.now c.index-known-args.result cands c.as_slice-args.ensures c.as_slice-place.ensures.value c.requires.below more c.index-known-args.is c.as_slice-candidates.ensures in
    let k = c.loop-k.k in let list = c.push.new.self.items in
    let list_is : list ≡ chosen ++ (get_or cands k (0, false)).0 ∷ [] = c.in_ok-push.ensures.items ∙ ap (λ (xs : List ℕ). xs ++ (get_or cands k (0, false)).0 ∷ []) c.loop-k.invariant.0 in
    grown start c.loop-k.store c.combine.new.store c.loop-k.invariant.1.keeps f chosen known fresh args reached c.requires.chosen c.requires.known more cands is k c.loop-k-test.true list list_is
    c.args.pairs.now.keys c.loop-k.pairs.keys c.combine.new.pairs.keys c.loop-k.invariant.1 c.in_ok-within-2.ensures.grows

pub returns-then-not-within-clause-all : goal.returns-then-not-within-clause-all
returns-then-not-within-clause-all t c =
    let start = c.args.store.now in let f = c.args.t.now.sym in let chosen = c.args.chosen.now.items in let known = c.args.known.now in let fresh = c.args.fresh in let args = c.args.t.now.args in let reached = c.args.states.now in
    let cands = c.as_slice-candidates.result.now in
    let more : length chosen < length args = more_args chosen args (length c.as_slice-place.result.now) (length c.as_slice-args.result.now) (ap length c.as_slice-place.ensures.value) (ap length c.as_slice-args.ensures) c.requires.place c.if-place-args.false in
    let is : cands ≡ known_at known (get_or args (length chosen) 0) = candidates known args c.as_slice-args.result.now chosen c.as_slice-place.result.now c.index-known-args.result cands c.as_slice-args.ensures c.as_slice-place.ensures.value c.requires.below more c.index-known-args.is c.as_slice-candidates.ensures in
    let k = c.loop-k.k in let list = c.push.new.self.items in
    let list_is : list ≡ chosen ++ (get_or cands k (0, false)).0 ∷ [] = c.in_ok-push.ensures.items ∙ ap (λ (xs : List ℕ). xs ++ (get_or cands k (0, false)).0 ∷ []) c.loop-k.invariant.0 in
    ⊎_elim (λ many. inl many)
    (λ large. inr (list_large start c.loop-k.store c.loop-k.invariant.1.keeps f chosen known fresh args reached c.requires.chosen c.requires.known more cands is k c.loop-k-test.true list list_is large))
    (when_false _ _ c.in_ok-within-2.within c.if-not-within.true c.in_ok-within-2.ensures.all)

pub loop-k-preserved : goal.loop-k-preserved
loop-k-preserved t c =
    let start = c.args.store.now in let f = c.args.t.now.sym in let chosen = c.args.chosen.now.items in let known = c.args.known.now in let fresh = c.args.fresh in let args = c.args.t.now.args in let reached = c.args.states.now in
    let cands = c.as_slice-candidates.result.now in
    let more : length chosen < length args = more_args chosen args (length c.as_slice-place.result.now) (length c.as_slice-args.result.now) (ap length c.as_slice-place.ensures.value) (ap length c.as_slice-args.ensures) c.requires.place c.if-place-args.false in
    let is : cands ≡ known_at known (get_or args (length chosen) 0) = candidates known args c.as_slice-args.result.now chosen c.as_slice-place.result.now c.index-known-args.result cands c.as_slice-args.ensures c.as_slice-place.ensures.value c.requires.below more c.index-known-args.is c.as_slice-candidates.ensures in
    let k = c.loop-k.k in let list = c.push.new.self.items in
    let list_is : list ≡ chosen ++ (get_or cands k (0, false)).0 ∷ [] = c.in_ok-push.ensures.items ∙ ap (λ (xs : List ℕ). xs ++ (get_or cands k (0, false)).0 ∷ []) c.loop-k.invariant.0 in
    let all = when_true _ _ c.in_ok-within-2.within c.if-not-within.false c.in_ok-within-2.ensures.all in (
      c.truncate.ensures.items ∙ ((λ i. take (length (c.as_slice-place.ensures.value i)) ((c.in_ok-within-2.ensures.chosen ∙ list_is) i)) ∙ take-append_seam chosen ((get_or cands k (0, false)).0 ∷ [])),
      grown start c.loop-k.store c.combine.new.store c.loop-k.invariant.1.keeps f chosen known fresh args reached c.requires.chosen c.requires.known more cands is k c.loop-k-test.true list list_is
          c.args.pairs.now.keys c.loop-k.pairs.keys c.combine.new.pairs.keys c.loop-k.invariant.1 c.in_ok-within-2.ensures.grows,
      tried start c.loop-k.store c.combine.new.store c.loop-k.invariant.1.keeps f chosen known fresh args reached c.requires.chosen c.requires.known more cands is k c.loop-k-test.true list list_is
          c.args.pairs.now.keys c.loop-k.pairs.keys c.combine.new.pairs.keys c.loop-k.invariant.1 c.in_ok-within-2.ensures.grows c.requires.placed c.loop-k.invariant.2 all.0,
      all.1,
    )

pub returns-clause-all : goal.returns-clause-all
returns-clause-all t c =
    let start = c.args.store.now in let f = c.args.t.now.sym in let chosen = c.args.chosen.now.items in let known = c.args.known.now in let fresh = c.args.fresh in let args = c.args.t.now.args in let reached = c.args.states.now in
    let cands = c.as_slice-candidates.result.now in
    let more : length chosen < length args = more_args chosen args (length c.as_slice-place.result.now) (length c.as_slice-args.result.now) (ap length c.as_slice-place.ensures.value) (ap length c.as_slice-args.ensures) c.requires.place c.if-place-args.false in
    let is : cands ≡ known_at known (get_or args (length chosen) 0) = candidates known args c.as_slice-args.result.now chosen c.as_slice-place.result.now c.index-known-args.result cands c.as_slice-args.ensures c.as_slice-place.ensures.value c.requires.below more c.index-known-args.is c.as_slice-candidates.ensures in (
      λ pair h. let b = begins_with start start (keeps_itself start) f chosen known fresh args reached c.requires.chosen c.requires.known more cands is pair h in
          c.loop-k.invariant.2 pair b.0 (omega (arith, b.1, c.loop-k-test.false)) b.2,
      c.loop-k.invariant.3,
    )
