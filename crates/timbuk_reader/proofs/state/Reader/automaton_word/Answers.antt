use Rattle.std.proofs.Common.{◌+◌, arith, sym, ap, ◌∙◌}
use Rattle.timbuk_grammar.specs.declared.terminal.Terminal.TheVariants as terminal
use Rattle.spec_text.specs.Declarations.{Declared}
use Rattle.timbuk_reader.specs.View.{closed}
use Rattle.timbuk_reader.proofs.parsing.Tokens.{mark_stops, closed_calm}
use Rattle.timbuk_reader.proofs.parsing.Automaton.{third_stops, automaton_advances}
use Rattle.timbuk_reader.proofs.state.Reader.automaton_word.Goals as goal

pub returns-then-not-sees-clause-reads : goal.returns-then-not-sees-clause-reads
returns-then-not-sees-clause-reads c =
    mark_stops terminal.Automaton closed c.args.self.now c.refusal.result closed_calm (record { unseen = sym c.sees.ensures.value ∙ c.if-not-sees.true; told = c.refusal.ensures })

pub returns-then-self-ge-MAX_AUTOMATA-clause-reads : goal.returns-then-self-ge-MAX_AUTOMATA-clause-reads
returns-then-self-ge-MAX_AUTOMATA-clause-reads c =
    third_stops c.args.self.now c.refusal-then-self-ge-MAX_AUTOMATA.result c.if-self-ge-MAX_AUTOMATA.true (sym c.sees.ensures.value ∙ c.if-not-sees.false) c.refusal-then-self-ge-MAX_AUTOMATA.ensures

pub returns-clause-reads : goal.returns-clause-reads
returns-clause-reads c =
    automaton_advances c.args.self.now _ c.advance.result.now (omega arith) (sym c.sees.ensures.value ∙ c.if-not-sees.false) c.advance.ensures.token c.advance.ensures.end
    (ap (λ (d : Declared). record d { automata = d.automata + 1 }) c.advance.ensures.state)
