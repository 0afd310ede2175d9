-- Laws of verdicts.
use Rattle.std.specs.Prelude.{◌≡◌, length}
use Rattle.ta_core.specs.declared.spec.Spec.{Spec}
use Rattle.ta_core.specs.declared.options.Options.{Options}
use Rattle.trs_rules.specs.declared.derivation.Derivation.{Derivation}
use Rattle.completion.specs.StagesLaws.{AreOneEnd}
use Rattle.command_words.specs.Words.{Limits}
use Rattle.command_words.specs.Said.{limits_from}
use Rattle.cert_text.specs.declared.outcome.Reason.{Reason}
use Rattle.cert_text.specs.declared.outcome.Mark.{Mark}
use Rattle.cert_text.specs.declared.outcome.Outcome.{Outcome}
use Rattle.cert_text.specs.declared.outcome.Outcome.TheVariants as outcome
use Rattle.verdicts.specs.Verdicts.{Verdict, stage_end}

-- one outcome, but for which derivation of so many steps it has, and which common term of least size it tells
pub data AreOneOutcome : Outcome → Outcome → Type 0 where
  same : {o : Outcome} → AreOneOutcome o o
  derivations : {d e : Derivation} → length d.steps ≡ length e.steps → AreOneOutcome (outcome.Reachable d) (outcome.Reachable e)
  witnesses : {m : Mark} {why other : Reason} → AreOneEnd (stage_end why) (stage_end other) → AreOneOutcome (outcome.Undecided why m) (outcome.Undecided other m)

-- a verdict is one but for that choice
abbrev pub VerdictsAreOne : Type 0
VerdictsAreOne = (spec : Spec) (options : Options) (o p : Outcome) → Verdict spec options o → Verdict spec options p → AreOneOutcome o p

-- a verdict by options that have these limits
abbrev pub VerdictWithin : Spec → Limits → Outcome → Type 0
VerdictWithin spec limits o = (options : Options) × (limits_from options ≡ limits) × Verdict spec options o

-- and so is a verdict within limits
abbrev pub LimitedVerdictsAreOne : Type 0
LimitedVerdictsAreOne = (spec : Spec) (limits : Limits) (o p : Outcome) → VerdictWithin spec limits o → VerdictWithin spec limits p → AreOneOutcome o p
