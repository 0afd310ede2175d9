-- There is a list of the matches: the states of each assignment, one assignment after the other.
use Rattle.std.proofs.Common.{◌≡◌, ℕ, zero, suc, Bool, true, false, List, [], ◌∷◌, map, length, refl, sym, ap, ◌∙◌, subst, ⊎_elim, All, Contains, arith}
use Rattle.std.specs.declared.cmp.Ordering.TheVariants.{Less}
use Rattle.std.specs.Ordering.{nat_cmp, ordering_then}
use Rattle.std.specs.Cmp.Lexicographic.{slice_cmp}
use Rattle.std.specs.List.{flat_map}
use Rattle.std.specs.List.Sorted.{IsStrictlySortedBy}
use Rattle.std.proofs.lemmas.Cmp.{nat_cmp_total, tied_itself}
use Rattle.std.proofs.lemmas.List.Elements.{All-nil, All-cons, All-head, All-tail, All-contains, All-from_recursion, Contains-append_left, Contains-append_right, Contains-append_cases}
use Rattle.list_laws.specs.Listings.{IsListing}
use Rattle.ranked_terms.specs.Terms.{assigned, variables_of}
use Rattle.ranked_terms.specs.declared.term.Config.{Config}
use Rattle.ranked_terms.specs.declared.term.Pattern.{Pattern}
use Rattle.ta_core.specs.TreeAutomaton.{TreeAutomaton}
use Rattle.ta_core.specs.Laws.{RunsAreListed, PlainRunsAreListed}
use Rattle.ta_core.specs.Closure.{state_in, assignments}
use Rattle.state_match.specs.Matches.{RunsBy, MatchesAt, IsMatch, match_order}
use Rattle.state_match.specs.Laws.{MatchesAreListed}
use Rattle.state_match.specs.Groups.{Group, group_of}
use Rattle.state_match.specs.Collected.{match_of, matches_of}
use Rattle.state_match.specs.declared.lists.Match.{Match}
use Rattle.state_match.proofs.members.Members.{here, there, parts, none, map_has, map_had, nothing_ascends, one_ascends, ascends_append, ascends_map}
use Rattle.state_match.proofs.listing.MatchLists.{of_group, group_ascends}

-- ---- lists of lists

module _ {X Y : Type 0} (f : X → List Y) where
  flat_has : (xs : List X) (x : X) (y : Y) → Contains xs x → Contains (f x) y → Contains (flat_map f xs) y
  flat_has [] x y c d = absurd (none x c)
  flat_has (z ∷ xs) x y c d =
      ⊎_elim (λ same. Contains-append_left (f z) (flat_map f xs) y (subst (λ w. Contains (f w) y) (sym same) d))
      (λ later. Contains-append_right (f z) (flat_map f xs) y (flat_has xs x y later d)) (parts z x xs c)

  flat_had : (xs : List X) (y : Y) → Contains (flat_map f xs) y → (x : X) × Contains xs x × Contains (f x) y
  flat_had [] y c = absurd (none y c)
  flat_had (x ∷ xs) y c =
      ⊎_elim (λ first. (x, here x xs, first)) (λ later. let h = flat_had xs y later in (h.0, there x h.0 xs h.1, h.2)) (Contains-append_cases (f x) (flat_map f xs) y c)

-- ---- assignments

had : (states : List ℕ) (n : ℕ) (σ : List ℕ) → Contains (assignments states n) σ → (length σ ≡ n) × All (Contains states) σ
had states zero σ c =
    ⊎_elim (λ same. subst (λ σ. (length σ ≡ 0) × All (Contains states) σ) same (refl, All-nil (Contains states))) (λ no. absurd (none σ no)) (parts [] σ [] c)
had states (suc n) σ c =
    let first = flat_had (λ q. map (λ rest. q ∷ rest) (assignments states n)) states σ c in
    let rest = map_had (λ rest. first.0 ∷ rest) (assignments states n) σ first.2 in
    let h = had states n rest.0 rest.1 in
    subst (λ σ. (length σ ≡ suc n) × All (Contains states) σ) rest.2 (ap suc h.0, All-cons (Contains states) first.0 rest.0 first.1 h.1)

has : (states : List ℕ) (n : ℕ) (σ : List ℕ) → length σ ≡ n → All (Contains states) σ → Contains (assignments states n) σ
has states zero [] e all = here [] []
has states zero (q ∷ σ) e all = absurd (omega arith)
has states (suc n) [] e all = absurd (omega arith)
has states (suc n) (q ∷ σ) e all =
    let rest = has states n σ (omega arith) (All-tail (Contains states) q σ all) in
    flat_has (λ q. map (λ rest. q ∷ rest) (assignments states n)) states q (q ∷ σ) (All-head (Contains states) q σ all) (map_has (λ rest. q ∷ rest) (assignments states n) σ rest)

module _ (rests : List (List ℕ)) (ascend : IsStrictlySortedBy (slice_cmp nat_cmp) rests) where
  behind_ascend : (firsts : List ℕ) → IsStrictlySortedBy nat_cmp firsts → IsStrictlySortedBy (slice_cmp nat_cmp) (flat_map (λ q. map (λ rest. q ∷ rest) rests) firsts)
  unfolding IsStrictlySortedBy
  behind_ascend [] s = nothing_ascends (slice_cmp nat_cmp)
  behind_ascend (q ∷ qs) s =
      ascends_append (slice_cmp nat_cmp) (map (λ rest. q ∷ rest) rests) (flat_map (λ q. map (λ rest. q ∷ rest) rests) qs)
      (ascends_map (slice_cmp nat_cmp) (slice_cmp nat_cmp) (λ rest. q ∷ rest) (λ x y l. ap (λ r. ordering_then r (slice_cmp nat_cmp x y)) (tied_itself nat_cmp_total q) ∙ l) rests ascend)
      (behind_ascend qs s.1)
      (λ a b i j.
      let x = map_had (λ rest. q ∷ rest) rests a i in
      let f = flat_had (λ q. map (λ rest. q ∷ rest) rests) qs b j in
      let y = map_had (λ rest. f.0 ∷ rest) rests b f.2 in
      let l = All-contains (λ p. nat_cmp q p ≡ Less) qs f.0 (All-from_recursion (λ p. nat_cmp q p ≡ Less) qs s.0) f.1 in
      (λ k. slice_cmp nat_cmp (sym x.2 k) (sym y.2 k)) ∙ ap (λ r. ordering_then r (slice_cmp nat_cmp x.0 y.0)) l)

assignments_ascend : (states : List ℕ) (n : ℕ) → IsStrictlySortedBy nat_cmp states → IsStrictlySortedBy (slice_cmp nat_cmp) (assignments states n)
assignments_ascend states zero s = one_ascends (slice_cmp nat_cmp) []
assignments_ascend states (suc n) s = behind_ascend (assignments states n) (assignments_ascend states n s) states s

-- ---- matches

module _ (plain : Bool) (A : TreeAutomaton) (p : Pattern) (runs : (c : Config) → (states : List ℕ) × IsListing nat_cmp (RunsBy plain A c) states) where
  abbrev group : List ℕ → Group
  group σ = group_of σ (runs (assigned (state_in (variables_of p) σ) p)).0

  group_is : (σ : List ℕ) → IsListing nat_cmp (RunsBy plain A (assigned (state_in (variables_of p) σ) p)) (group σ).states
  group_is σ = (runs (assigned (state_in (variables_of p) σ) p)).1

  of_all : (σs : List (List ℕ)) → IsStrictlySortedBy (slice_cmp nat_cmp) σs → IsStrictlySortedBy match_order (flat_map (λ σ. matches_of (group σ)) σs)
  unfolding IsStrictlySortedBy
  of_all [] s = nothing_ascends match_order
  of_all (σ ∷ σs) s =
      ascends_append match_order (matches_of (group σ)) (flat_map (λ σ. matches_of (group σ)) σs) (group_ascends (group σ) (group_is σ).ascends) (of_all σs s.1) (λ m n i j.
      let a = of_group (group σ) m i in
      let f = flat_had (λ σ. matches_of (group σ)) σs n j in
      let b = of_group (group f.0) n f.2 in
      let l = All-contains (λ τ. slice_cmp nat_cmp σ τ ≡ Less) σs f.0 (All-from_recursion (λ τ. slice_cmp nat_cmp σ τ ≡ Less) σs s.0) f.1 in
      (λ i. match_order (match_of (a.0 i) m.state) (match_of (b.0 i) n.state)) ∙ ap (λ r. ordering_then r (nat_cmp m.state n.state)) l)

  pub listed : IsStrictlySortedBy nat_cmp A.states → (ms : List Match) × IsListing match_order (IsMatch plain A p) ms
  listed sorted =
      let all = assignments A.states (length (variables_of p)) in (
        flat_map (λ σ. matches_of (group σ)) all,
        record {
          ascends = of_all all (assignments_ascend A.states (length (variables_of p)) sorted);
          exact = λ m. (
            λ c.
                let h = flat_had (λ σ. matches_of (group σ)) all m c in
                let g = of_group (group h.0) m h.2 in
                let a = had A.states (length (variables_of p)) h.0 h.1 in
                subst (λ σ. MatchesAt plain A (variables_of p) p σ m.state) (sym g.0) (record { each_variable = a.0; are_states = a.1; runs = ((group_is h.0).exact m.state).0 g.1 }),
            λ w.
                flat_has (λ σ. matches_of (group σ)) all m.sigma m (has A.states (length (variables_of p)) m.sigma w.each_variable w.are_states)
                (map_has (match_of m.sigma) (group m.sigma).states m.state (((group_is m.sigma).exact m.state).1 w.runs)),
          );
        },
      )

pub matches_are_listed : RunsAreListed → PlainRunsAreListed → MatchesAreListed
matches_are_listed runs plain_runs true A p sorted = listed true A p (plain_runs A) sorted
matches_are_listed runs plain_runs false A p sorted = listed false A p (runs A) sorted
