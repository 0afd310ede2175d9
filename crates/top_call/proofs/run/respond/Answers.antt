use Rattle.std.proofs.Common.{Err, ap, ◌∙◌}
use Rattle.command_words.specs.Said.{said}
use Rattle.top_call.proofs.Saying.{told, untold, no_command, no_words}
use Rattle.top_call.proofs.run.respond.Goals as goal

pub returns-in-Told-clause-ran : goal.returns-in-Told-clause-ran
returns-in-Told-clause-ran g c =
    told _ _ _ _ _ (said c.in-Ok.command) c.in-Ok.ensures.command c.perform.result c.perform.ensures.says _ c.in-Told.text c.in-Told.status c.in-Told.is c.as_slice.result.now c.as_slice.ensures c.written.result
    c.written.ensures

pub returns-in-Memory-clause-ran : goal.returns-in-Memory-clause-ran
returns-in-Memory-clause-ran g c = untold _ _ _ _ _ (said c.in-Ok.command) c.in-Ok.ensures.command c.perform.result c.perform.ensures.says c.in-Memory.is

pub returns-in-Err-BadWords-clause-ran : goal.returns-in-Err-BadWords-clause-ran
returns-in-Err-BadWords-clause-ran g c =
    no_command _ _ _ _ _ (c.read_command.ensures.bad (c.in-Err-BadWords.is ∙ ap Err c.in-Err-BadWords.field-0-is)) c.as_bytes.result.now (c.as_bytes.ensures.value ∙ c.usage.ensures)
    c.written-in-Err-BadWords.result c.written-in-Err-BadWords.ensures

pub returns-in-Err-Memory-clause-ran : goal.returns-in-Err-Memory-clause-ran
returns-in-Err-Memory-clause-ran g c = no_words _ _ _ _ c.read_command.result c.read_command.ensures.unknown (c.in-Err-Memory.is ∙ ap Err c.in-Err-Memory.field-0-is)
