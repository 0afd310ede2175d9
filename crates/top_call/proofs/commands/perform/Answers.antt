use Rattle.std.proofs.Common.{Contains, sym, subst, arith}
use Rattle.command_words.specs.Words.{files_of}
use Rattle.command_words.specs.Said.{said}
use Rattle.top_call.proofs.commands.perform.Goals as goal

pub returns-in-Check-clause-others : goal.returns-in-Check-clause-others
returns-in-Check-clause-others g c = λ name none.
    let no = subst (λ x. ¬ Contains (files_of (said x)) name) c.in-Check.is none in
    c.check_command.ensures.others name (λ is. no (0, omega (arith), sym is)) (λ is. no (1, omega (arith), sym is))
