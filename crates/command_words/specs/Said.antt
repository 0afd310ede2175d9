-- The commands of the rule that the values of the code stand for.
use Rattle.ta_core.specs.declared.options.Options.{Options}
use Rattle.clap.specs.declared.error.kind.ErrorKind.{ErrorKind}
use Rattle.clap.specs.declared.error.kind.ErrorKind.TheVariants.{OutOfMemory}
use Rattle.command_words.specs.Words.{Limits, Command, complete, check}
use Rattle.command_words.specs.declared.command.Command as code
use Rattle.command_words.specs.declared.command.Command.TheVariants.{Complete, Check}
use Rattle.command_words.specs.declared.command.WordsError.{WordsError}
use Rattle.command_words.specs.declared.command.WordsError.TheVariants.{BadWords, Memory}

abbrev pub limits_from : Options → Limits
limits_from o = record { rounds = o.rounds; steps = o.steps; height = o.height; terms = o.terms; pairs = o.pairs; states = o.states }

abbrev pub said : code.Command → Command
said (Complete file options) = complete file.now (limits_from options)
said (Check spec certificate) = check spec.now certificate.now

-- why there is no command, where clap has refused the words or had no memory
abbrev pub words_error : ErrorKind → WordsError
words_error OutOfMemory = Memory
words_error _ = BadWords
