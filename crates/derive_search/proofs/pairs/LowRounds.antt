-- Round by round, the pairs of a state and a term of at most so great a height.
use Rattle.std.proofs.Common.{◌≡◌, ◌≢◌, ◌↔◌, ◌⊎◌, ℕ, zero, suc, ◌+◌, ◌<◌, ◌≤◌, Bool, true, false, ◌&&◌, List, [], ◌∷◌, map, take, length, get_or, refl, sym, ap, subst, ◌∙◌, inl, inr, ⊎_elim, arith}
use Rattle.std.specs.Prelude.{IsTrue}
use Rattle.std.specs.List.{All, AllZip, AllPairs, AllByRecursion, Contains, IsDistinct}
use Rattle.std.proofs.Math.Seq.{take-append_seam}
use Rattle.std.proofs.lemmas.List.Elements.{All-contains}
use Rattle.list_laws.proofs.Members.{none, all_from_members}
use Rattle.ranked_terms.specs.Terms.{node, height_of, size_of, greatest, config_of}
use Rattle.ranked_terms.specs.declared.term.Term.{Term}
use Rattle.ranked_terms.specs.lemmas.TermLaws.{height_node, config_node, term_induction}
use Rattle.ta_core.specs.TreeAutomaton.{TreeAutomaton, IsSound}
use Rattle.ta_core.specs.Runs.{Runs, RunsAll}
use Rattle.ta_core.specs.lemmas.RunsLaws.{run_of_app, run_ends}
use Rattle.term_store.specs.Store.{term_at, IsStore, Keeps}
use Rattle.derive_search.specs.Starts.{IsLowRun, AreTooMany}
use Rattle.derive_search.specs.Made.{IsMade}
use Rattle.derive_search.specs.LowPairs.{named_pairs, ArePlaced, Grows, IsNextRound, MakesLarge, AreLowPairs}
use Rattle.derive_search.proofs.Counts.{at_most}
use Rattle.derive_search.proofs.StoreFacts.{keeps_itself, keeps_more, same_ids}
use Rattle.derive_search.proofs.GrowthLaws.{append_cases}
use Rattle.derive_search.proofs.pairs.MadeLaws.{made_runs}
use Rattle.derive_search.proofs.pairs.LowPairLaws.{named-append, named_stay, in_named, pair_of, has_stays, placed_now}

-- ---- one step of a run

-- the terms of at most a height are there with their states
abbrev pub IsExact : TreeAutomaton → ℕ → List (ℕ × Term) → Type 0
IsExact A h pairs = (pair : ℕ × Term) → Contains pairs pair ↔ IsLowRun A h pair

low_more : (A : TreeAutomaton) (h k : ℕ) → h ≤ k → (pair : ℕ × Term) → IsLowRun A h pair → IsLowRun A k pair
low_more A h k l pair r = record { low = let w = r.low in omega (arith, l, w); runs = r.runs }

module _ (A : TreeAutomaton) (h : ℕ) (pairs : List (ℕ × Term)) (exact : IsExact A h pairs) where
  heights : (qs : List ℕ) (ts : List Term) → AllZip (λ p u. Contains pairs (p, u)) qs ts → greatest (map height_of ts) ≤ h
  heights [] [] z = omega arith
  heights [] (t ∷ ts) z = absurd z
  heights (q ∷ qs) [] z = absurd z
  heights (q ∷ qs) (t ∷ ts) z = let l = ((exact (q, t)).0 z.0).low in let r = heights qs ts z.1 in omega (arith, l, r)

  pub made_low : (pair : ℕ × Term) → IsMade A pairs pair → IsLowRun A (h + 1) pair
  made_low pair m = record {
    low = let l = heights m.states m.args m.fit in omega (arith, ap height_of m.is, height_node m.sym m.args, l);
    runs = made_runs A pairs (λ p c. ((exact p).0 c).runs) pair m;
  }

  args_there : (ts : List Term) → greatest (map height_of ts) ≤ h → (qs : List ℕ) → RunsAll A (map config_of ts) qs → AllZip (λ p u. Contains pairs (p, u)) qs ts
  args_there [] low [] RunsAll.none = tt
  args_there [] low (q ∷ qs) x = elim x [ ]
  args_there (t ∷ ts) low [] x = elim x [ ]
  args_there (t ∷ ts) low (q ∷ qs) (RunsAll.more r rs) = (
    (exact (q, t)).1 (record { low = omega (arith, low); runs = r }),
    args_there ts (omega (arith, low)) qs rs,
  )

  -- a term is its symbol over its arguments
  low_made_at : (q : ℕ) (f : ℕ) (ts : List Term) → IsLowRun A (h + 1) (q, node f ts) → IsMade A pairs (q, node f ts)
  low_made_at q f ts r =
      let a = run_of_app f (map config_of ts) q (subst (λ c. Runs A c q) (config_node f ts) r.runs) in
      let low = r.low in
      record {
        sym = f;
        states = a.states;
        args = ts;
        target = a.target;
        has = a.has;
        fit = args_there ts (omega (arith, low, height_node f ts)) a.states a.args;
        on = a.on;
        is = refl;
      }

  pub low_made : (t : Term) (q : ℕ) → IsLowRun A (h + 1) (q, t) → IsMade A pairs (q, t)
  low_made = term_induction (λ t. (q : ℕ) → IsLowRun A (h + 1) (q, t) → IsMade A pairs (q, t)) (λ f ts each q r. low_made_at q f ts r)

-- ---- pairs without doubles

apart_at : {X : Type 0} (E : X → X → Bool) (x : X) (xs : List X) → AllByRecursion (λ y. E x y ≡ false) xs → (i : ℕ) (d : X) → i < length xs → E x (get_or xs i d) ≡ false
apart_at E x [] h i d l = absurd (omega (arith, l))
apart_at E x (y ∷ xs) h zero d l = h.0
apart_at E x (y ∷ xs) h (suc i) d l = apart_at E x xs h.1 i d (omega (arith, l))

pub distinct_apart : {X : Type 0} (E : X → X → Bool) → ((x : X) → E x x ≡ true) → (xs : List X) → IsDistinct E xs → AllPairs (λ x y. x ≢ y) xs
unfolding IsDistinct
distinct_apart E same [] d i j e l k s = absurd (omega (arith, k))
distinct_apart E same (x ∷ xs) d zero zero e l k s = absurd (omega (arith, l))
distinct_apart E same (x ∷ xs) d zero (suc j) e l k s =
    let no = apart_at E x xs d.0 j e (omega (arith, k)) in
    let yes : E x (get_or xs j e) ≡ true = subst (λ y. E x y ≡ true) s (same x) in cc
distinct_apart E same (x ∷ xs) d (suc i) zero e l k s = absurd (omega (arith, l))
distinct_apart E same (x ∷ xs) d (suc i) (suc j) e l k s = distinct_apart E same xs d.1 i j e (omega (arith, l)) (omega (arith, k)) s

at_map : {X Y : Type 0} (f : X → Y) (xs : List X) (i : ℕ) (d : X) (e : Y) → i < length xs → get_or (map f xs) i e ≡ f (get_or xs i d)
at_map f [] i d e l = absurd (omega (arith, l))
at_map f (x ∷ xs) zero d e l = refl
at_map f (x ∷ xs) (suc i) d e l = at_map f xs i d e (omega (arith, l))

pub length-named : (terms : List Term) (pairs : List (ℕ × ℕ)) → length (named_pairs terms pairs) ≡ length pairs
length-named terms [] = refl
length-named terms (p ∷ pairs) = ap suc (length-named terms pairs)

pub pair_same : (a b : Bool) → a ≡ true → b ≡ true → (a && b) ≡ true
pair_same true b h k = k
pair_same false b h k = cc

pub named_apart : (terms : List Term) → IsStore terms → (pairs : List (ℕ × ℕ)) → ArePlaced terms pairs → AllPairs (λ x y. x ≢ y) pairs → AllPairs (λ x y. x ≢ y) (named_pairs terms pairs)
named_apart terms store pairs placed apart i j d l k s =
    let size : length (named_pairs terms pairs) ≡ length pairs = length-named terms pairs in
    let x = get_or pairs i (0, 0) in let y = get_or pairs j (0, 0) in
    let here : i < length pairs = omega (arith, l, k, size) in
    let there : j < length pairs = omega (arith, k, size) in
    let e : (x.0, term_at terms x.1) ≡ (y.0, term_at terms y.1) =
    sym (at_map (λ (p : ℕ × ℕ). (p.0, term_at terms p.1)) pairs i (0, 0) d here) ∙ (s ∙ at_map (λ (p : ℕ × ℕ). (p.0, term_at terms p.1)) pairs j (0, 0) d there) in
    let same = same_ids terms store x.1 y.1 (placed i (0, 0) here) (placed j (0, 0) there) (ap (λ (p : ℕ × Term). p.1) e) in
    let first = ap (λ (p : ℕ × Term). p.0) e in
    apart i j (0, 0) l there (λ n. (first n, same n))

-- ---- the rounds

pub record IsRound (A : TreeAutomaton) (limit : ℕ) (start : List Term) (round : ℕ) (terms : List Term) (pairs : List (ℕ × ℕ)) (first : ℕ) : Type 0 where
  pub keeps : Keeps start terms
  pub placed : ArePlaced terms pairs
  pub exact : IsExact A round (named_pairs terms pairs)
  pub closed : (round ≡ 0) ⊎ ((pair : ℕ × Term) → IsMade A (named_pairs terms (take first pairs)) pair → Contains (named_pairs terms pairs) pair)
  pub few : length pairs ≤ limit

pub round_zero : (A : TreeAutomaton) (limit : ℕ) (start : List Term) → IsRound A limit start 0 start [] 0
round_zero A limit start = record {
  keeps = keeps_itself start;
  placed = λ k d l. absurd (omega (arith, l));
  exact = λ pair. (λ c. absurd (none pair c), λ r. absurd (low pair.1 r.low));
  closed = inl refl;
  few = omega arith;
}
  where
    low : (t : Term) → height_of t ≤ 0 → ⊥
    low = term_induction (λ t. height_of t ≤ 0 → ⊥) (λ f ts each l. absurd (omega (arith, height_node f ts, l)))

module _ (A : TreeAutomaton) (sound : IsSound A) (limit : ℕ) (start : List Term) (round : ℕ) (terms : List Term) (pairs : List (ℕ × ℕ)) (first : ℕ) (r : IsRound A limit start round terms pairs first) where
  pub states_below : All (λ (p : ℕ × ℕ). p.0 < A.next) pairs
  states_below = all_from_members (λ (p : ℕ × ℕ). p.0 < A.next) pairs (λ p c.
      let low = (r.exact (p.0, term_at terms p.1)).0 (in_named terms pairs p c) in
      All-contains (λ q. q < A.next) A.states p.0 sound.below (run_ends sound low.runs))

  module _ (after : List Term) (new : List (ℕ × ℕ)) (g : Grows terms after pairs new (IsMade A (named_pairs terms pairs))) where
    -- what is there now runs, and is low
    pub now_low : (pair : ℕ × Term) → Contains (named_pairs after new) pair → IsLowRun A (round + 1) pair
    now_low pair c = ⊎_elim
        (λ old. low_more A round (round + 1) (omega arith) pair ((r.exact pair).0 (subst (λ xs. Contains xs pair) (named_stay terms after g.keeps pairs r.placed) old)))
        (λ m. made_low A round (named_pairs terms pairs) r.exact pair (g.only pair m))
        (append_cases (named_pairs after pairs) (named_pairs after g.more) pair (subst (λ xs. Contains xs pair) (named-append after pairs g.more) (subst (λ ps. Contains (named_pairs after ps) pair) g.is c)))

    now_placed : ArePlaced after new
    now_placed = placed_now (IsMade A (named_pairs terms pairs)) terms after pairs new r.placed g

    pub too_many : (height : ℕ) → round < height → IsStore after → AllPairs (λ x y. x ≢ y) new → limit < length new → AreTooMany A height limit
    too_many height l store apart many = inl (record {
      some = named_pairs after new;
      distinct = named_apart after store new now_placed apart;
      each = λ pair c. low_more A (round + 1) height (omega (arith, l)) pair (now_low pair c);
      more = omega (arith, many, length-named after new);
    })

    module _ (is_first : Bool) (first_is : round ≡ 0 → IsTrue is_first) (next : IsNextRound A terms pairs first is_first after new) (few : length new ≤ limit) where
      -- whatever is made is there now
      made_there : (pair : ℕ × Term) → IsMade A (named_pairs terms pairs) pair → Contains (named_pairs after new) pair
      made_there pair m = ⊎_elim
          (λ c. c)
          (λ old. ⊎_elim
          (λ zero. absurd (old.0 (first_is zero)))
          (λ closed. has_stays (IsMade A (named_pairs terms pairs)) terms after pairs new r.placed g pair (closed pair old.1))
          r.closed)
          (next pair m)

      pub round_more : (last : ℕ) → last ≡ length pairs → IsRound A limit start (round + 1) after new last
      round_more last is = record {
        keeps = keeps_more start terms after r.keeps g.keeps;
        placed = now_placed;
        exact = λ pair. (now_low pair, λ low. made_there pair (low_made A round (named_pairs terms pairs) r.exact pair.1 pair.0 low));
        closed = inr (λ pair m. made_there pair (subst (λ xs. IsMade A xs pair) (ap (named_pairs after) ((λ i. take (is i) (g.is i)) ∙ take-append_seam pairs g.more) ∙ named_stay terms after g.keeps pairs r.placed) m));
        few = few;
      }

  pub too_large : (height : ℕ) → round < height → MakesLarge A (named_pairs terms pairs) → AreTooMany A height limit
  too_large height l m = inr (record { member = m.pair; has = low_more A (round + 1) height (omega (arith, l)) m.pair (made_low A round (named_pairs terms pairs) r.exact m.pair m.made); large = m.large })

  pub all_pairs : IsStore terms → AllPairs (λ x y. x ≢ y) pairs → (height : ℕ) → round ≡ height → AreLowPairs A height limit terms pairs
  all_pairs store apart height is = record {
    exact = exact;
    placed = r.placed;
    distinct = named_apart terms store pairs r.placed apart;
    few = r.few;
    fits = λ too. ⊎_elim
        (λ many. at_most (IsLowRun A height) (named_pairs terms pairs) limit (λ pair low. (exact pair).1 low) (let f = r.few in omega (arith, f, length-named terms pairs)) many)
        (λ large. small large.member ((exact large.member).1 large.has) large.large)
        too;
  }
    where
      exact : IsExact A height (named_pairs terms pairs)
      exact = subst (λ h. IsExact A h (named_pairs terms pairs)) is r.exact

      small : (pair : ℕ × Term) → Contains (named_pairs terms pairs) pair → 1024 < size_of pair.1 → ⊥
      small pair c large =
          let p = pair_of terms pairs pair.0 pair.1 c in
          let s = store.small p.0 (node 0 []) (All-contains (λ (p : ℕ × ℕ). p.1 < length terms) pairs (pair.0, p.0) r.placed p.1) in
          let same = ap size_of p.2 in
          omega (arith, s, same, large)
