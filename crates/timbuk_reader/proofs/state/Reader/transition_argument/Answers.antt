use Rattle.std.proofs.Common.{sym, ◌∙◌}
use Rattle.timbuk_reader.proofs.parsing.AutomatonArguments.{stops_early, read_argument_by}
use Rattle.timbuk_reader.proofs.state.Reader.transition_argument.Goals as goal

pub returns-then-sees-clause-err : goal.returns-then-sees-clause-err
returns-then-sees-clause-err c = stops_early c.args.self.now c.refusal.result (sym c.sees.ensures.value ∙ c.if-sees.true) c.refusal.ensures

pub returns-clause-ok : goal.returns-clause-ok
returns-clause-ok c = read_argument_by c.args.self.now c.state.new.self c.state.result (sym c.sees.ensures.value ∙ c.if-sees.false) c.state.ensures.ok
