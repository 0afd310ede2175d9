use Rattle.std.proofs.Common.{sym, subst}
use Rattle.command_words.specs.Said.{limits_from}
use Rattle.calls.specs.Files.{Aside}
use Rattle.top_call.specs.Calls.{SaysVerdict}
use Rattle.top_call.proofs.commands.completed.Goals as goal

pub returns-in-Ok : goal.returns-in-Ok
returns-in-Ok c = λ told. Aside.says (subst (SaysVerdict c.args.spec.now (limits_from c.args.options) c.in-Ok.text) (sym c.status.ensures) (SaysVerdict.verdict c.in-Ok.outcome c.in-Ok.ensures))

pub returns-in-Err : goal.returns-in-Err
returns-in-Err c = λ told. Aside.memory
