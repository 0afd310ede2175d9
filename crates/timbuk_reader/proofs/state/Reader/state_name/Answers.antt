use Rattle.timbuk_grammar.specs.Grammar.{name}
use Rattle.timbuk_reader.specs.Reads.{Stops}
use Rattle.std.proofs.lemmas.Grind.{common_steps}
use Rattle.std.proofs.Common.{◌≤◌, ◌<◌, length, arith, sym, ap, ◌∙◌}
use Rattle.timbuk_grammar.specs.declared.terminal.Terminal.TheVariants as terminal
use Rattle.spec_text.specs.declared.fault.SpecKind.TheVariants as kind
use Rattle.spec_text.specs.declared.fault.LimitName.TheVariants as limit
use Rattle.timbuk_reader.specs.View.{closed, state_of}
use Rattle.timbuk_reader.specs.AutomatonReads.{table_of}
use Rattle.timbuk_reader.proofs.parsing.Tokens.{word_advances, word_stops, closed_calm, no_word_stops}
use Rattle.timbuk_reader.proofs.parsing.Names.{declared_over, declared_double, declared_new}
use Rattle.timbuk_reader.proofs.parsing.Automaton.{may_declare, full_table, roomy_table, new_in_table}
use Rattle.timbuk_reader.proofs.state.Reader.state_name.Goals as goal

pub returns-in_err-name-clause-reads : goal.returns-in_err-name-clause-reads
returns-in_err-name-clause-reads c =
    let e = c.in_err-name.field-0.0 in
    let stops : Stops (name c.args.role) closed c.args.self.now e = no_word_stops (terminal.Named c.args.role) closed c.args.self.now e tt closed_calm c.in_err-name.ensures.err in
    grind (arith, common_steps)

pub returns-then-len-ge-MAX_STATES-clause-reads : goal.returns-then-len-ge-MAX_STATES-clause-reads
returns-then-len-ge-MAX_STATES-clause-reads c =
    let r = c.args.self.now in
    let p = c.args.role in
    let text = c.in_ok-name.name.now in
    let stands = c.in_ok-name.ensures.ok in
    let full : 16384 ≤ length (table_of p r) = omega (arith, c.len.ensures.value, ap length c.table.ensures) in
    word_stops (terminal.Named p) closed r text (kind.Limit limit.States) c.refusal.result tt closed_calm stands
    (declared_over p text (state_of r) limit.States (may_declare p r c.requires) stands.short (full_table p r text c.requires full)) c.refusal.ensures

pub returns-then-is_double-clause-reads : goal.returns-then-is_double-clause-reads
returns-then-is_double-clause-reads c =
    let r = c.args.self.now in
    let p = c.args.role in
    let text = c.in_ok-name.name.now in
    let stands = c.in_ok-name.ensures.ok in
    let room : length (table_of p r) < 16384 = omega (arith, c.len.ensures.value, ap length c.table.ensures) in
    word_stops (terminal.Named p) closed r text kind.DoubleName c.refusal-then-is_double.result tt closed_calm stands
    (declared_double p text (state_of r) (may_declare p r c.requires) stands.short (roomy_table p r text c.requires room) (sym c.is_double.ensures ∙ c.if-is_double.true)) c.refusal-then-is_double.ensures

pub add_state-requires-clause-new : goal.add_state-requires-clause-new
add_state-requires-clause-new c = new_in_table c.args.role c.args.self.now c.in_ok-name.name.now c.requires (sym c.is_double.ensures ∙ c.if-is_double.false)

pub returns-clause-reads : goal.returns-clause-reads
returns-clause-reads c =
    let r = c.args.self.now in
    let p = c.args.role in
    let text = c.in_ok-name.name.now in
    let stands = c.in_ok-name.ensures.ok in
    let room : length (table_of p r) < 16384 = omega (arith, c.len.ensures.value, ap length c.table.ensures) in
    word_advances (terminal.Named p) closed closed r c.advance.new.self text c.advance.result.now tt closed_calm stands
    (declared_new p text (state_of r) (may_declare p r c.requires) stands.short (roomy_table p r text c.requires room) (sym c.is_double.ensures ∙ c.if-is_double.false))
    (sym c.in_ok-add_state.ensures.left.tokens ∙ c.advance.ensures.token) (c.advance.ensures.end ∙ c.in_ok-add_state.ensures.left.end)
    (c.advance.ensures.state ∙ c.in_ok-add_state.ensures.ok)
