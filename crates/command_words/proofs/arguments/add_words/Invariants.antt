use Rattle.std.proofs.Common.{◌≡◌, Bor, List, ℕ, map, take}
use Rattle.clap.specs.Words.{app_of}
use Rattle.command_words.specs.Commands.{with_words}
use Rattle.command_words.proofs.arguments.add_words.Given as goal

abbrev pub invariant-loop-name : goal.invariant-loop-name
invariant-loop-name l = app_of l.command ≡ with_words (app_of l.fn.command) (map (λ (s : Bor (List ℕ)). s.now) (take l.name-index l.names))
