-- Which answer the replay of a derivation gives: yes where it leads from the initial language to a forbidden term, and else the first of its start,
-- its steps and its end that fails (the order is this project's own).
use Rattle.ranked_terms.specs.declared.term.Term.{Term}
use Rattle.trs_rules.specs.Derivations.{IsDerivation, IsFirstBad, LeadsTo}
use Rattle.trs_rules.specs.declared.derivation.Derivation.{Derivation}
use Rattle.ta_core.specs.Languages.{Language}
use Rattle.ta_core.specs.Reachability.{Reachable, Forbidden, Replays}
use Rattle.ta_core.specs.declared.spec.Spec.{Spec}
use Rattle.closure_check.specs.declared.replaying.DAnswer.{DAnswer}
use Rattle.closure_check.specs.declared.replaying.DAnswer.TheVariants as answer

abbrev pub Begins : Spec → Derivation → Type 0
Begins spec d = Language spec.signature spec.initial d.start

-- the term that the derivation leads to is forbidden
abbrev pub Ends : Spec → Derivation → Type 0
Ends spec d = (t : Term) × LeadsTo d t × Forbidden spec t

abbrev pub DerivationAnswers : Spec → Derivation → DAnswer → Type 0
DerivationAnswers spec d answer.Yes = Replays spec d
DerivationAnswers spec d answer.Start = ¬ Begins spec d
DerivationAnswers spec d (answer.Step number) = Begins spec d × IsFirstBad spec.rules d number
DerivationAnswers spec d answer.End = Begins spec d × IsDerivation spec.rules d × ¬ Ends spec d

-- some reachable term is forbidden
abbrev pub ReachesForbidden : Spec → Type 0
ReachesForbidden spec = (t : Term) × Reachable spec t × Forbidden spec t
