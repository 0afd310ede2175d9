use Rattle.std.specs.List.{Contains}
use Rattle.ta_core.specs.Runs.{RunsPlain}
use Rattle.ta_core.specs.lemmas.RunStates.{exact_by}
use Rattle.ta_core.proofs.automaton.Automaton.plain_states.Goals as goal

pub returns : goal.returns
returns c = exact_by (Contains c.in_ok-reached.reached) (RunsPlain c.args.self.now c.args.config.now) c.in_ok-reached.ensures c.to_set.result c.to_set.ensures
