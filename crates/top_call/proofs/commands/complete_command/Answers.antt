use Rattle.command_words.specs.Said.{limits_from}
use Rattle.top_call.proofs.Saying.{says_verdict, says_of_file}
use Rattle.top_call.proofs.commands.complete_command.Goals as goal

pub returns-in-Ok-clause-says : goal.returns-in-Ok-clause-says
returns-in-Ok-clause-says g c =
    let read = c.in-Ok.ensures.spec in
    says_verdict c.args.file.now (limits_from c.args.options) _ _ read.0 c.in-Ok.spec read.1 read.2 c.completed.result (c.completed.ensures _)

pub returns-in-Err-clause-says : goal.returns-in-Err-clause-says
returns-in-Err-clause-says g c = says_of_file c.args.file.now (limits_from c.args.options) _ _ c.in-Err.ending c.in-Err.ensures.ending
