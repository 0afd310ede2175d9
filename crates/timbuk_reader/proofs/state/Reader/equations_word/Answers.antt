use Rattle.std.proofs.Common.{◌≡◌, true, refl, sym, ap, ◌∙◌, arith}
use Rattle.timbuk_grammar.specs.declared.terminal.Terminal.TheVariants as terminal
use Rattle.timbuk_grammar.specs.Matching.{matches}
use Rattle.spec_text.specs.Declarations.{Declared}
use Rattle.timbuk_reader.specs.View.{closed}
use Rattle.timbuk_reader.proofs.parsing.Tokens.{mark_stops, closed_calm}
use Rattle.timbuk_reader.proofs.keeping.Rules.{seen_first, equations_stops, equations_advances}
use Rattle.timbuk_reader.proofs.state.Reader.equations_word.Goals as goal

pub returns-then-not-sees-clause-reads : goal.returns-then-not-sees-clause-reads
returns-then-not-sees-clause-reads c =
    mark_stops terminal.Equations closed c.args.self.now c.refusal.result closed_calm (record { unseen = sym c.sees.ensures.value ∙ c.if-not-sees.true; told = c.refusal.ensures })

pub returns-then-self-ge-MAX_EQUATION_SECTIONS-clause-reads : goal.returns-then-self-ge-MAX_EQUATION_SECTIONS-clause-reads
returns-then-self-ge-MAX_EQUATION_SECTIONS-clause-reads c =
    let r = c.args.self.now in
    let first = seen_first terminal.Equations r.tokens.now (sym c.sees.ensures.value ∙ c.if-not-sees.false) in
    equations_stops r first.0 first.1 first.2 c.refusal-then-self-ge-MAX_EQUATION_SECTIONS.result first.3 (omega arith) c.refusal-then-self-ge-MAX_EQUATION_SECTIONS.ensures

pub returns-clause-reads : goal.returns-clause-reads
returns-clause-reads c =
    let r = c.args.self.now in
    let u = c.advance.new.self in
    let seen : matches terminal.Equations c.advance.result.now ≡ true = rw c.advance.ensures.token at (sym c.sees.ensures.value ∙ c.if-not-sees.false) in
    equations_advances r c.advance.result.now u.tokens.now c.advance.ensures.token _ seen (omega arith) refl c.advance.ensures.end (ap (λ (d : Declared). record d { equation_sections = 1 }) c.advance.ensures.state)
