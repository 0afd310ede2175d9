use Rattle.ta_core.specs.lemmas.RunsLaws.{runs_within}
use Rattle.ta_core.proofs.laws.runs_are_monotone.Goals as goal

pub returns : goal.returns
returns c A B w x q r = runs_within w r
