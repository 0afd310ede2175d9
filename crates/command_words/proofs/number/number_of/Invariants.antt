use Rattle.std.proofs.Common.{◌≡◌, ◌<◌, take}
use Rattle.command_words.specs.Words.{number_after}
use Rattle.command_words.proofs.Numbers.{bound}
use Rattle.command_words.proofs.number.number_of.Given as goal

abbrev pub invariant-loop-digit : goal.invariant-loop-digit
invariant-loop-digit l = (l.number ≡ number_after 0 (take l.digit-index l.digits)) × (l.number < bound l.digit-index)
