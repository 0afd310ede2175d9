-- What private contracts say of outcomes. This serves them alone.
use Rattle.std.specs.Prelude.{◌≡◌, ◌↔◌, ℕ, Bool, IsTrue, List, take}
use Rattle.std.specs.Ordering.{nat_cmp}
use Rattle.std.specs.List.Sorted.{IsStrictlySortedBy}
use Rattle.ta_core.specs.TreeAutomaton.{TreeAutomaton, trans_cmp, pair_cmp}
use Rattle.ta_core.specs.declared.spec.Spec.{Spec}
use Rattle.ta_core.specs.declared.options.Options.{Options}
use Rattle.cert_text.specs.Certificates.{outcome_is_over}
use Rattle.completion.specs.declared.end.StageEnd.{StageEnd}
use Rattle.completion.specs.declared.end.StageEnd.TheVariants as end
use Rattle.cert_text.specs.declared.outcome.Mark.{Mark}
use Rattle.cert_text.specs.declared.outcome.Reason.TheVariants as reason
use Rattle.cert_text.specs.declared.outcome.Outcome.{Outcome}
use Rattle.cert_text.specs.declared.outcome.Outcome.TheVariants as outcome
use Rattle.verdicts.specs.Verdicts.{IsPrecise, Verdict}
use Rattle.verdicts.specs.Shown.{Shows, IsCheckable}

-- the lists of an automaton ascend
pub record IsInOrder (A : TreeAutomaton) : Type 0 where
  pub states : IsStrictlySortedBy nat_cmp A.states
  pub finals : IsStrictlySortedBy nat_cmp A.finals
  pub trans : IsStrictlySortedBy trans_cmp A.trans
  pub eps : IsStrictlySortedBy pair_cmp A.eps

-- the automaton after so many rounds, with the map cut to the initial automaton's own states
pub record IsClaimOf (spec : Spec) (rounds : ℕ) (A : TreeAutomaton) (h : List ℕ) (o : Outcome) : Type 0 where
  pub precise : Bool
  pub noted : IsTrue precise ↔ IsPrecise spec
  pub is : o ≡ outcome.Unreachable rounds precise A (take spec.initial.next h)

-- what an end of completion says where the search has ended so: a closed stage its claim, any other one why nothing is settled
abbrev pub Tells : Spec → Mark → TreeAutomaton → List ℕ → StageEnd → Outcome → Type 0
Tells spec m A h (end.Closed rounds) o = IsClaimOf spec rounds A h o
Tells spec m A h (end.Meets stage least) o = o ≡ outcome.Undecided (reason.Meets stage least) m
Tells spec m A h (end.Rounds stage) o = o ≡ outcome.Undecided (reason.Rounds stage) m
Tells spec m A h (end.Pairs stage) o = o ≡ outcome.Undecided (reason.Pairs stage) m
Tells spec m A h (end.States stage) o = o ≡ outcome.Undecided (reason.States stage) m

-- all that is said of the outcome by options
pub record IsAnswer (spec : Spec) (options : Options) (o : Outcome) : Type 0 where
  pub verdict : Verdict spec options o
  pub shows : Shows spec o
  pub checkable : IsCheckable spec o
  pub over : IsTrue (outcome_is_over spec.signature o)
