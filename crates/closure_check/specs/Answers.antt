-- Which answer the check of a specification, an automaton and a map gives: yes where the automaton is accepted, and else the first of the three parts
-- that fails, with its first member (Feuillade, Genet and Viet Triem Tong, JAR 2004; the order of the parts is this project's own).
use Rattle.std.specs.Prelude.{◌≡◌, ℕ, List, length, All}
use Rattle.list_laws.specs.Listings.{IsFirst}
use Rattle.ta_core.specs.TreeAutomaton.{TreeAutomaton}
use Rattle.ta_core.specs.Closure.{Closed, IsFirstOpen}
use Rattle.ta_core.specs.Acceptance.{TransHolds, EpsHolds, FinalHolds, IsContained, IsAccepted}
use Rattle.ta_core.specs.declared.spec.Spec.{Spec}
use Rattle.ta_clean.specs.Meeting.{IsLeastMeeting}
use Rattle.closure_check.specs.declared.answer.Missing.{Missing}
use Rattle.closure_check.specs.declared.answer.Missing.TheVariants as missing
use Rattle.closure_check.specs.declared.answer.Answer.{Answer}
use Rattle.closure_check.specs.declared.answer.Answer.TheVariants as answer

-- ---- containment

-- the first member of the list for which this fails
abbrev pub FailsFirst : {X : Type 0} → (X → Type 0) → List X → X → Type 0
FailsFirst P xs x = IsFirst (λ y. ¬ P y) P xs x

-- it stands at this place, counted from 0
abbrev pub FailsFirstAt : {X : Type 0} → (X → Type 0) → List X → ℕ → Type 0
FailsFirstAt {X} P xs k = (x : X) × (first : FailsFirst P xs x) × (length first.before ≡ k)

-- the first transition that isn't contained; or all are, and the first epsilon transition; or all of both are, and the first final state
abbrev pub IsFirstMissing : TreeAutomaton → TreeAutomaton → List ℕ → Missing → Type 0
IsFirstMissing A₀ A h (missing.Transition k) = FailsFirstAt (TransHolds A h) A₀.trans k
IsFirstMissing A₀ A h (missing.Epsilon k) = All (TransHolds A h) A₀.trans × FailsFirstAt (EpsHolds A h) A₀.eps k
IsFirstMissing A₀ A h (missing.Final q) = All (TransHolds A h) A₀.trans × All (EpsHolds A h) A₀.eps × FailsFirst (FinalHolds A h) A₀.finals q

-- ---- the answer

abbrev pub Answers : Spec → TreeAutomaton → List ℕ → Answer → Type 0
Answers spec A h answer.Yes = IsAccepted spec A h
Answers spec A h (answer.NotContained missing) = IsFirstMissing spec.initial A h missing
Answers spec A h (answer.Open pair) = IsContained spec.initial A h × IsFirstOpen A spec.rules pair
Answers spec A h (answer.Meets p q) = IsContained spec.initial A h × Closed A spec.rules × IsLeastMeeting A spec.forbidden p q

-- there is at most one
abbrev pub HasOneAnswer : Spec → TreeAutomaton → List ℕ → Type 0
HasOneAnswer spec A h = (x y : Answer) → Answers spec A h x → Answers spec A h y → x ≡ y
