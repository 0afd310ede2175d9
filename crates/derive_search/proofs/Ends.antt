-- The levels of the search, and when the limits are not passed.
use Rattle.std.proofs.Common.{◌↔◌, ◌⊎◌, ℕ, suc, ◌+◌, ◌≤◌, List, [], ◌∷◌, ◌++◌, inl, inr, ⊎_elim, arith}
use Rattle.std.specs.List.{Contains}
use Rattle.std.proofs.lemmas.List.Elements.{Contains-append_left, Contains-append_right, All-contains}
use Rattle.ranked_terms.specs.Terms.{size_of}
use Rattle.ranked_terms.specs.declared.term.Term.{Term}
use Rattle.ta_core.specs.declared.spec.Spec.{Spec}
use Rattle.ta_core.specs.declared.options.Options.{Options}
use Rattle.list_laws.proofs.Members.{parts, none}
use Rattle.derive_search.specs.Starts.{AreTooMany}
use Rattle.derive_search.specs.Search.{IsStart, Reached, IsOver}
use Rattle.derive_search.specs.Levels.{StepsFrom, AreLevels, AreNew, IsWithin}
use Rattle.derive_search.proofs.Counts.{at_most}
use Rattle.derive_search.proofs.Levels.{starts_are_reached, reached_more, reached_by_levels}

append_cases : {X : Type 0} (xs ys : List X) (x : X) → Contains (xs ++ ys) x → Contains xs x ⊎ Contains ys x
append_cases [] ys x c = inr c
append_cases (a ∷ xs) ys x c = ⊎_elim (λ e. inl (0, omega arith, e)) (λ t. ⊎_elim (λ l. inl (suc l.0, omega (arith, l.1), l.2)) (λ r. inr r) (append_cases xs ys x t)) (parts a x (xs ++ ys) c)

-- the starts are level 0
pub first_level : (spec : Spec) (height : ℕ) (starts : List Term) → ((t : Term) → Contains starts t ↔ IsStart spec height t) → AreLevels spec height 0 [] starts
first_level spec height starts all = record {
  exact = λ t. let r = starts_are_reached spec height t in (λ c. r.1 ((all t).0 c), λ h. (all t).1 (r.0 h));
  closed = λ t s. absurd (none s.from s.member);
}

-- the steps from the last level that are new are the next level
pub next_level : (spec : Spec) (height j : ℕ) (older last new : List Term) → AreLevels spec height j older last → AreNew spec.rules older last new → AreLevels spec height (j + 1) (older ++ last) new
next_level spec height j older last new levels news = record {
  exact = λ t. let r = reached_by_levels spec height j t in (
    λ c. ⊎_elim (λ l. reached_more spec height j (j + 1) t (omega arith) ((levels.exact t).0 l))
        (λ n. let s = All-contains (StepsFrom spec.rules last) new t news.steps n in
        r.1 (inr (record { from = s.from; reached = (levels.exact s.from).0 (Contains-append_right older last s.from s.member); step = s.step })))
        (append_cases (older ++ last) new t c),
    λ h. ⊎_elim (λ l. Contains-append_left (older ++ last) new t ((levels.exact t).1 l))
        (λ f. there t (record { from = f.from; member = (levels.exact f.from).1 f.reached; step = f.step }))
        (r.0 h),
  );
  closed = there;
}
  where
    there : (t : Term) → StepsFrom spec.rules (older ++ last) t → Contains ((older ++ last) ++ new) t
    there t s = ⊎_elim
        (λ l. Contains-append_left (older ++ last) new t (levels.closed t (record { from = s.from; member = l; step = s.step })))
        (λ n. news.all t (record { from = s.from; member = n; step = s.step }))
        (append_cases older last s.from s.member)

-- where all levels are within the limits, the limits are not passed
pub not_over : (spec : Spec) (options : Options) (j : ℕ) (older last : List Term) → AreLevels spec options.height j older last → IsWithin options.terms (older ++ last) → (AreTooMany spec.initial options.height options.terms → ⊥) → IsOver spec options j → ⊥
not_over spec options j older last levels within starts over = ⊎_elim starts (λ rest. ⊎_elim
    (λ many. at_most (Reached spec options.height j) (older ++ last) options.terms (λ t r. (levels.exact t).1 r) within.few many)
    (λ large. let small = All-contains (λ t. size_of t ≤ 1024) (older ++ last) large.member within.small ((levels.exact large.member).1 large.has) in let l = large.large in omega (arith, small, l)) rest) over
