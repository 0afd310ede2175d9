-- All steps from a term, rule by rule and position by position.
use Rattle.std.proofs.Common.{◌≡◌, ◌↔◌, ◌⊎◌, inl, inr, ℕ, zero, suc, ◌+◌, ◌<◌, ◌≤◌, List, [], ◌∷◌, ◌++◌, length, take, get_or, slice_get, Option, Some, None, refl, sym, ap, subst, ◌∙◌, arith}
use Rattle.std.specs.List.{AllByRecursion, Contains}
use Rattle.std.specs.Cmp.{ranks}
use Rattle.std.specs.Cmp.Lexicographic.{slice_cmp}
use Rattle.std.specs.List.Sorted.{IsStrictlySortedBy}
use Rattle.std.specs.Ordering.{MatchOrdering, nat_cmp, ordering_then}
use Rattle.std.specs.declared.cmp.Ordering.{Ordering}
use Rattle.std.specs.declared.cmp.Ordering.TheVariants.{Less, Equal, Greater}
use Rattle.std.proofs.lemmas.List.{take_more}
use Rattle.std.proofs.lemmas.List.Elements.{Contains-append_left, Contains-push, Contains-push_cases}
use Rattle.ranked_terms.specs.Terms.{instance_of, occurrences}
use Rattle.ranked_terms.specs.Matching.{IsInstance, IsBoundBy, IsInstanceBy, bound_in}
use Rattle.ranked_terms.specs.Positions.{HasPosition, SubtermAt, ReplacedAt}
use Rattle.ranked_terms.specs.declared.term.Term.{Term}
use Rattle.ranked_terms.specs.lemmas.VariableLaws.{occurrences-in_variables_of}
use Rattle.trs_rules.specs.Rules.{RewriteRule, IsRule}
use Rattle.trs_rules.specs.Steps.{StepAt}
use Rattle.trs_rules.specs.Derivations.{AreSuccessors, AreStepsUpTo, IsTried, successor_order}
use Rattle.trs_rules.specs.declared.successor.Successor.{Successor}
use Rattle.trs_rules.proofs.steps.PartLaws.{parts_of_step, step_of_parts}

-- ---- one rule at one position

none_some : {X A : Type 0} (x : X) → None ≡ Some x → A
none_some x e = cc

same_some : {X : Type 0} (x y : X) → Some x ≡ Some y → x ≡ y
same_some x y e = cc

module _ (R : List RewriteRule) (i : ℕ) (rule : RewriteRule) (position : List ℕ) (t : Term) (is : slice_get R i ≡ Some rule) where
  -- a step there is an instance of the left side that is replaced
  pub record Rewrites (w : Term) : Type 0 where
    pub u : Term
    pub θ : ℕ → Term
    pub at : SubtermAt position t u
    pub from : u ≡ instance_of θ rule.left
    pub replaced : ReplacedAt (instance_of θ rule.right) position t w

  rewrites : (w : Term) → StepAt R i position t w → Rewrites w
  rewrites w h =
      let p = parts_of_step R i position t w h in
      let step = p.step in
      let e : step.rule ≡ rule = same_some step.rule rule (sym step.is_rule ∙ is) in
      record {
        u = p.u;
        θ = step.θ;
        at = p.at;
        from = step.from ∙ ap (λ (r : RewriteRule). instance_of step.θ r.left) e;
        replaced = subst (λ v. ReplacedAt v position t w) (step.to ∙ ap (λ (r : RewriteRule). instance_of step.θ r.right) e) p.replaced;
      }

  pub no_position : ((u : Term) → (None ≡ Some u) ↔ SubtermAt position t u) → (w : Term) → (None ≡ Some w) ↔ StepAt R i position t w
  no_position n w = (λ e. none_some w e, λ h. let r = rewrites w h in none_some r.u ((n r.u).1 r.at))

  module _ (u : Term) (at : (x : Term) → (Some u ≡ Some x) ↔ SubtermAt position t x) where
    pub no_match : (IsInstance rule.left u [] → ⊥) → (w : Term) → (None ≡ Some w) ↔ StepAt R i position t w
    no_match n w = (
      λ e. none_some w e,
      λ h.
          let r = rewrites w h in
          let e : u ≡ r.u = same_some u r.u ((at r.u).1 r.at) in
          absurd (n (record { θ = r.θ; agrees = tt; is = e ∙ r.from })),
    )

    pub rewritten : (b : List (ℕ × Term)) (v : Term) (o : Option Term) → IsBoundBy rule.left u [] b → IsInstanceBy rule.right b v → ((w : Term) → (o ≡ Some w) ↔ ReplacedAt v position t w)
        → (w : Term) → (o ≡ Some w) ↔ StepAt R i position t w
    rewritten b v o m made put w = (
      λ e.
          let θ = made.some.θ in
          let left : instance_of θ rule.left ≡ u = ((m.exactly θ).0 made.some.agrees).1 in
          step_of_parts R i position t w u v ((at u).0 refl) ((put w).0 e) (record { rule = rule; is_rule = is; θ = θ; from = sym left; to = made.some.is }),
      λ h.
          let r = rewrites w h in
          let e : u ≡ r.u = same_some u r.u ((at r.u).1 r.at) in
          let agrees = (m.exactly r.θ).1 (tt, sym (e ∙ r.from)) in
          (put w).1 (subst (λ x. ReplacedAt x position t w) (sym (made.each r.θ agrees)) r.replaced),
    )

-- the right side's variables are bound once the left side is matched
pub right_is_bound : (rule : RewriteRule) (u : Term) (b : List (ℕ × Term)) → IsRule rule → IsBoundBy rule.left u [] b → (v : ℕ) → Contains (occurrences rule.right) v → Contains (bound_in b) v
right_is_bound rule u b good m v c = subst (λ vs. Contains vs v) (sym m.bound) (occurrences-in_variables_of rule.left v (good.right_is_bound v c))

-- ---- the order

less_by : (j k : ℕ) (o : Ordering) → j < k → MatchOrdering o (j < k) (j ≡ k) (k < j) → o ≡ Less
less_by j k Less l h = refl
less_by j k Equal l h = absurd (omega (arith, h, l))
less_by j k Greater l h = absurd (omega (arith, h, l))

same_by : (j k : ℕ) (o : Ordering) → j ≡ k → MatchOrdering o (j < k) (j ≡ k) (k < j) → o ≡ Equal
same_by j k Less e h = absurd (omega (arith, h, e))
same_by j k Equal e h = refl
same_by j k Greater e h = absurd (omega (arith, h, e))

less_rule : (x y : Successor) → x.rule < y.rule → successor_order x y ≡ Less
less_rule x y l = ap (λ o. ordering_then o (slice_cmp nat_cmp x.at y.at)) (less_by x.rule y.rule (nat_cmp x.rule y.rule) l (ranks x.rule y.rule))

less_position : (x y : Successor) → x.rule ≡ y.rule → slice_cmp nat_cmp x.at y.at ≡ Less → successor_order x y ≡ Less
less_position x y e l = ap (λ o. ordering_then o (slice_cmp nat_cmp x.at y.at)) (same_by x.rule y.rule (nat_cmp x.rule y.rule) e (ranks x.rule y.rule)) ∙ l

all_push : {X : Type 0} (P : X → Type 0) (xs : List X) (y : X) → AllByRecursion P xs → P y → AllByRecursion P (xs ++ y ∷ [])
all_push P [] y h k = (k, tt)
all_push P (x ∷ xs) y h k = (h.0, all_push P xs y h.1 k)

here : {X : Type 0} (x : X) (xs : List X) → Contains (x ∷ xs) x
here x xs = (0, omega arith, refl)

later : {X : Type 0} (x y : X) (xs : List X) → Contains xs y → Contains (x ∷ xs) y
later x y xs c = (suc c.0, (let l = c.1 in omega (arith, l)), c.2)

sorted-push : {X : Type 0} (c : X → X → Ordering) (xs : List X) (y : X) → IsStrictlySortedBy c xs → ((x : X) → Contains xs x → c x y ≡ Less) → IsStrictlySortedBy c (xs ++ y ∷ [])
unfolding IsStrictlySortedBy
sorted-push c [] y h all = (tt, tt)
sorted-push c (x ∷ xs) y h all = (all_push (λ z. c x z ≡ Less) xs y h.0 (all x (here x xs)), sorted-push c xs y h.1 (λ z m. all z (later x z xs m)))

all_from : {X : Type 0} (P : X → Type 0) (xs : List X) (i : ℕ) (d : X) → AllByRecursion P xs → i < length xs → P (get_or xs i d)
all_from P [] i d h l = absurd (omega (arith, l))
all_from P (x ∷ xs) zero d h l = h.0
all_from P (x ∷ xs) (suc i) d h l = all_from P xs i d h.1 (omega (arith, l))

-- what stands before a place of a sorted list is less than what stands there
before_place : {X : Type 0} (c : X → X → Ordering) (xs : List X) (i : ℕ) (y x : X) → IsStrictlySortedBy c xs → i < length xs → y ≡ get_or xs i y → Contains (take i xs) x → c x y ≡ Less
unfolding IsStrictlySortedBy
before_place c xs zero y x h l e m = let n = m.1 in absurd (omega (arith, n))
before_place c [] (suc i) y x h l e m = absurd (omega (arith, l))
before_place c (z ∷ xs) (suc i) y x h l e (zero, n, is) =
    subst (λ w. c w y ≡ Less) is (subst (λ w. c z w ≡ Less) (sym e) (all_from (λ w. c z w ≡ Less) xs i y h.0 (omega (arith, l))))
before_place c (z ∷ xs) (suc i) y x h l e (suc k, n, is) = before_place c xs i y x h.1 (omega (arith, l)) e (k, omega (arith, n), is)

-- ---- one more position

module _ (R : List RewriteRule) (t : Term) (rule : ℕ) (positions : List (List ℕ)) (i : ℕ) (at : List ℕ) (old new : List Successor)
    (ascend : IsStrictlySortedBy (slice_cmp nat_cmp) positions) (l : i < length positions) (is : at ≡ get_or positions i at) (found : AreStepsUpTo R t rule (take i positions) old) where
  more : take (i + 1) positions ≡ take i positions ++ at ∷ []
  more = take_more positions i at l ∙ ap (λ p. take i positions ++ p ∷ []) (sym is)

  tried_more : (s : Successor) → IsTried rule (take i positions) s → IsTried rule (take (i + 1) positions) s
  tried_more s (inl a) = inl a
  tried_more s (inr b) = inr (b.0, subst (λ ps. Contains ps s.at) (sym more) (Contains-append_left (take i positions) (at ∷ []) s.at b.1))

  tried_here : (s : Successor) → s.rule ≡ rule → s.at ≡ at → IsTried rule (take (i + 1) positions) s
  tried_here s e p = inr (e, subst (λ ps. Contains ps s.at) (sym more) (subst (λ q. Contains (take i positions ++ at ∷ []) q) (sym p) (Contains-push (take i positions) at)))

  tried_by : (s : Successor) → IsTried rule (take (i + 1) positions) s → IsTried rule (take i positions) s ⊎ ((s.rule ≡ rule) × (at ≡ s.at))
  tried_by s (inl a) = inl (inl a)
  tried_by s (inr b) = elim (Contains-push_cases (take i positions) at s.at (subst (λ ps. Contains ps s.at) more b.1)) [
    | inl c ↦ inl (inr (b.0, c))
    | inr e ↦ inr (b.0, e)
  ]

  step_here : (s : Successor) → s.rule ≡ rule → at ≡ s.at → StepAt R s.rule s.at t s.term → StepAt R rule at t s.term
  step_here s e p h = subst (λ r. StepAt R r at t s.term) e (subst (λ q. StepAt R s.rule q t s.term) (sym p) h)

  -- where the rule doesn't apply at it
  pub passed : ((w : Term) → (None ≡ Some w) ↔ StepAt R rule at t w) → AreStepsUpTo R t rule (take (i + 1) positions) old
  passed n = record {
    members = λ s. (
      λ c. let h = (found.members s).0 c in (tried_more s h.0, h.1),
      λ h. elim (tried_by s h.0) [
        | inl a ↦ (found.members s).1 (a, h.1)
        | inr b ↦ none_some s.term ((n s.term).1 (step_here s b.0 b.1 h.1))
      ],
    );
    sorted = found.sorted;
  }

  -- where it makes this term
  pub stepped : (x : Successor) → x.rule ≡ rule → x.at ≡ at → ((w : Term) → (Some x.term ≡ Some w) ↔ StepAt R rule at t w) → new ≡ old ++ x ∷ [] → AreStepsUpTo R t rule (take (i + 1) positions) new
  stepped x er ea one e = subst (AreStepsUpTo R t rule (take (i + 1) positions)) (sym e) (record {
    members = λ s. (
      λ c. elim (Contains-push_cases old x s c) [
        | inl a ↦ let h = (found.members s).0 a in (tried_more s h.0, h.1)
        | inr same ↦ subst (λ y. IsTried rule (take (i + 1) positions) y × StepAt R y.rule y.at t y.term) same (tried_here x er ea, itself)
      ],
      λ h. elim (tried_by s h.0) [
        | inl a ↦ Contains-append_left old (x ∷ []) s ((found.members s).1 (a, h.1))
        | inr b ↦ subst (λ y. Contains (old ++ x ∷ []) y) (whole s b.0 b.1 h.1) (Contains-push old x)
      ],
    );
    sorted = sorted-push successor_order old x found.sorted (λ y c. last y ((found.members y).0 c).0);
  })
    where
      itself : StepAt R x.rule x.at t x.term
      itself = subst (λ r. StepAt R r x.at t x.term) (sym er) (subst (λ q. StepAt R rule q t x.term) (sym ea) ((one x.term).0 refl))

      whole : (s : Successor) → s.rule ≡ rule → at ≡ s.at → StepAt R s.rule s.at t s.term → x ≡ s
      whole s e p h =
          let terms : x.term ≡ s.term = same_some x.term s.term ((one s.term).1 (step_here s e p h)) in
          let rules : x.rule ≡ s.rule = er ∙ sym e in
          let places : x.at ≡ s.at = ea ∙ p in
          λ j. record { rule = rules j; at = places j; term = terms j }

      last : (y : Successor) → IsTried rule (take i positions) y → successor_order y x ≡ Less
      last y (inl a) = less_rule y x (subst (λ n. y.rule < n) (sym er) a)
      last y (inr b) =
          less_position y x (b.0 ∙ sym er)
          (subst (λ q. slice_cmp nat_cmp y.at q ≡ Less) (sym ea) (before_place (slice_cmp nat_cmp) positions i at y.at ascend l is b.1))

-- ---- from rule to rule

nothing : IsStrictlySortedBy successor_order []
unfolding IsStrictlySortedBy
nothing = tt

pub at_none : (R : List RewriteRule) (t : Term) → AreStepsUpTo R t 0 [] []
at_none R t = record {
  members = λ s. (λ c. let l = c.1 in absurd (omega (arith, l)), λ h. untried s h.0);
  sorted = nothing;
}
  where
    untried : (s : Successor) → IsTried 0 [] s → Contains [] s
    untried s (inl a) = absurd (omega (arith, a))
    untried s (inr b) = let l = b.1.1 in absurd (omega (arith, l))

module _ (R : List RewriteRule) (t : Term) (positions : List (List ℕ)) (exact : (p : List ℕ) → Contains positions p ↔ HasPosition t p) where
  pub next_rule : (i : ℕ) (list : List Successor) → AreStepsUpTo R t i positions list → AreStepsUpTo R t (i + 1) [] list
  next_rule i list h = record {
    members = λ s. (
      λ c. let m = (h.members s).0 c in (raised s m.0, m.1),
      λ m. (h.members s).1 (lowered s m.0 m.1, m.1),
    );
    sorted = h.sorted;
  }
    where
      raised : (s : Successor) → IsTried i positions s → IsTried (i + 1) [] s
      raised s (inl a) = inl (omega (arith, a))
      raised s (inr b) = inl (let e = b.0 in omega (arith, e))

      below_or_at : (s : Successor) → s.rule < i + 1 → (s.rule < i) ⊎ (s.rule ≡ i)
      below_or_at s l = grind arith

      lowered_by : (s : Successor) → StepAt R s.rule s.at t s.term → (s.rule < i) ⊎ (s.rule ≡ i) → IsTried i positions s
      lowered_by s step (inl a) = inl a
      lowered_by s step (inr e) = let p = parts_of_step R s.rule s.at t s.term step in inr (e, (exact s.at).1 (p.u, p.at))

      lowered : (s : Successor) → IsTried (i + 1) [] s → StepAt R s.rule s.at t s.term → IsTried i positions s
      lowered s (inl a) step = lowered_by s step (below_or_at s a)
      lowered s (inr b) step = let l = b.1.1 in absurd (omega (arith, l))

  pub all_rules : (i : ℕ) (list : List Successor) → length R ≤ i → AreStepsUpTo R t i [] list → AreSuccessors R t list
  all_rules i list l h = record {
    members = λ s. (λ c. ((h.members s).0 c).1, λ step. (h.members s).1 (inl (in_range s step), step));
    sorted = h.sorted;
  }
    where
      within : {X : Type 0} (xs : List X) (n : ℕ) (x : X) → slice_get xs n ≡ Some x → n < length xs
      within [] n x e = cc
      within (y ∷ xs) zero x e = omega arith
      within (y ∷ xs) (suc n) x e = let m = within xs n x e in omega (arith, m)

      in_range : (s : Successor) → StepAt R s.rule s.at t s.term → s.rule < i
      in_range s step = let p = parts_of_step R s.rule s.at t s.term step in let root = p.step in omega (arith, within R s.rule root.rule root.is_rule, l)
