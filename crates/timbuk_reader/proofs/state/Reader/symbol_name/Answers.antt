use Rattle.timbuk_grammar.specs.Grammar.{name}
use Rattle.timbuk_reader.specs.Reads.{Stops}
use Rattle.std.proofs.lemmas.Grind.{common_steps}
use Rattle.std.proofs.Common.{◌≡◌, ◌≤◌, ◌<◌, length, arith, refl, sym, ap, ◌∙◌}
use Rattle.std.specs.Prelude.{is_some}
use Rattle.ranked_terms.specs.Names.{names_of}
use Rattle.timbuk_grammar.specs.declared.terminal.Role.TheVariants as role
use Rattle.timbuk_grammar.specs.declared.terminal.Terminal.TheVariants as terminal
use Rattle.spec_text.specs.declared.fault.SpecKind.TheVariants as kind
use Rattle.spec_text.specs.declared.fault.LimitName.TheVariants as limit
use Rattle.spec_text.specs.Declarations.{adds}
use Rattle.spec_text.specs.Rows.{is_in}
use Rattle.timbuk_reader.specs.View.{closed, naming, state_of}
use Rattle.timbuk_reader.proofs.parsing.Tokens.{word_advances, word_stops, closed_calm, declared_same, no_word_stops}
use Rattle.timbuk_reader.proofs.parsing.Names.{declared_over, declared_double, declared_new, reached, below, is_in-position}
use Rattle.timbuk_reader.proofs.state.Reader.symbol_name.Goals as goal

pub returns-in_err-name-clause-err : goal.returns-in_err-name-clause-err
returns-in_err-name-clause-err c =
    let e = c.in_err-name.field-0.0 in
    let stops : Stops (name role.Symbol) closed c.args.self.now e = no_word_stops (terminal.Named role.Symbol) closed c.args.self.now e tt closed_calm c.in_err-name.ensures.err in
    grind (arith, common_steps)

pub returns-then-len-ge-MAX_SYMBOLS-clause-err : goal.returns-then-len-ge-MAX_SYMBOLS-clause-err
returns-then-len-ge-MAX_SYMBOLS-clause-err c =
    let r = c.args.self.now in
    let stands = c.in_ok-name.ensures.ok in
    let many : 4096 ≤ length r.signature = omega arith in
    word_stops (terminal.Named role.Symbol) closed r c.in_ok-name.name.now (kind.Limit limit.Symbols) c.refusal.result tt closed_calm stands
    (declared_over role.Symbol c.in_ok-name.name.now (state_of r) limit.Symbols tt stands.short (reached 4096 (length r.signature) limit.Symbols many)) c.refusal.ensures

pub returns-then-is_some-clause-err : goal.returns-then-is_some-clause-err
returns-then-is_some-clause-err c =
    let r = c.args.self.now in
    let text = c.in_ok-name.name.now in
    let stands = c.in_ok-name.ensures.ok in
    let few : length r.signature < 4096 = omega arith in
    let found : is_in (names_of r.signature) text ≡ Rattle.std.proofs.Common.true = is_in-position (names_of r.signature) text ∙ ap is_some (sym c.find.ensures.value) ∙ sym c.is_some.ensures ∙ c.if-is_some.true in
    word_stops (terminal.Named role.Symbol) closed r text kind.DoubleName c.refusal-then-is_some.result tt closed_calm stands
    (declared_double role.Symbol text (state_of r) tt stands.short (below 4096 (length r.signature) limit.Symbols few) found) c.refusal-then-is_some.ensures

pub returns-clause-ok : goal.returns-clause-ok
unfolding adds
returns-clause-ok c =
    let r = c.args.self.now in
    let text = c.in_ok-name.name.now in
    let stands = c.in_ok-name.ensures.ok in
    let few : length r.signature < 4096 = omega arith in
    let absent : is_in (names_of r.signature) text ≡ Rattle.std.proofs.Common.false = is_in-position (names_of r.signature) text ∙ ap is_some (sym c.find.ensures.value) ∙ sym c.is_some.ensures ∙ c.if-is_some.false in
    word_advances (terminal.Named role.Symbol) closed (naming text) r c.advance.new.self text c.advance.result.now tt closed_calm stands
    (declared_new role.Symbol text (state_of r) tt stands.short (below 4096 (length r.signature) limit.Symbols few) absent) c.advance.ensures.token c.advance.ensures.end
    (declared_same (naming text) r c.advance.new.self c.advance.ensures.state c.advance.ensures.bound)
