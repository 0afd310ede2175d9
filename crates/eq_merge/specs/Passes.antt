-- One pass of merging. This serves private contracts alone.
use Rattle.std.specs.Prelude.{◌≡◌, ◌⊎◌, ℕ, ◌<◌, ◌≤◌, List, length}
use Rattle.std.specs.List.{Contains}
use Rattle.trs_rules.specs.Rules.{RewriteEquation}
use Rattle.ta_core.specs.TreeAutomaton.{TreeAutomaton}
use Rattle.ta_core.specs.Growth.{IsLeastTarget, HasNoTarget}
use Rattle.ta_core.specs.Acceptance.{image}
use Rattle.ta_core.specs.declared.trans.Trans.{Trans}
use Rattle.eq_merge.specs.Quotients.{quotient, apart, followed}
use Rattle.eq_merge.specs.MergingLaws.{IsOnTheWay}
use Rattle.eq_merge.specs.Joined.{Joined, put_together}
use Rattle.eq_merge.specs.Ends.{AreEquatedBy, across}
use Rattle.eq_merge.specs.declared.merging.Merging.{Merging}

-- an end of the list, and the least one across from it
pub record IsLeader (B : TreeAutomaton) (ends : List Trans) (p q : ℕ) : Type 0 where
  pub end : Trans
  pub has : Contains ends end
  pub to : end.to ≡ p
  pub least : IsLeastTarget B (across end.sym) end.args q

-- the end is put together with the least one across from it, if there is one
abbrev pub IsStep : TreeAutomaton → Trans → List ℕ → List ℕ → Type 0
IsStep B t old new = (HasNoTarget B (across t.sym) t.args × (new ≡ old)) ⊎ ((q : ℕ) × IsLeastTarget B (across t.sym) t.args q × (new ≡ put_together old t.to q))

-- the quotient by classes that are on the way, which has fewer states
pub record GoesOn (E : List RewriteEquation) (old new : Merging) : Type 0 where
  pub classes : List ℕ
  pub way : IsOnTheWay E old.automaton classes
  pub automaton : new.automaton ≡ quotient old.automaton classes
  pub renaming : new.renaming ≡ followed old.renaming classes
  pub fewer : length new.automaton.states < length old.automaton.states

-- classes further on the way, in which no number stands for a state that is greater than before
pub record IsFurther (E : List RewriteEquation) (A : TreeAutomaton) (old new : List ℕ) : Type 0 where
  pub way : IsOnTheWay E A new
  pub lower : (q : ℕ) → q < A.next → image new q ≤ image old q

-- some states of the quotient, and some transitions
pub record IsPart (A : TreeAutomaton) (h : List ℕ) (B : TreeAutomaton) : Type 0 where
  pub next : B.next ≡ A.next
  pub states : (q : ℕ) → Contains B.states q → Contains (quotient A h).states q
  pub trans : (t : Trans) → Contains B.trans t → Contains (quotient A h).trans t

-- classes that put together what is equated in some such part
pub record IsJoinedInPart (E : List RewriteEquation) (A : TreeAutomaton) (h u : List ℕ) : Type 0 where
  pub part : TreeAutomaton
  pub is : IsPart A h part
  pub joined : Joined (AreEquatedBy part E) (apart part.next) u
