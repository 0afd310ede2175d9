use Rattle.std.proofs.Common.{length}
use Rattle.timbuk_grammar.specs.Grammar.{many, name}
use Rattle.timbuk_grammar.specs.declared.terminal.Role.TheVariants as role
use Rattle.timbuk_reader.specs.Reads.{Turns}
use Rattle.timbuk_reader.proofs.state.Reader.all_vars.Given as goal

abbrev pub invariant-loop-self : goal.invariant-loop-self
invariant-loop-self l = Turns (many (name role.Variable)) l.fn.self (many (name role.Variable)) l.self

abbrev pub decreases-loop-self : goal.decreases-loop-self
decreases-loop-self l = length l.self.tokens.now
