use Rattle.timbuk_grammar.specs.Grammar.{name}
use Rattle.timbuk_reader.specs.Reads.{Stops}
use Rattle.std.proofs.lemmas.Grind.{common_steps}
use Rattle.std.proofs.Common.{◌≡◌, ◌≤◌, ◌<◌, ◌++◌, true, false, length, arith, refl, sym, ◌∙◌}
use Rattle.ranked_terms.specs.Names.{names_of}
use Rattle.timbuk_grammar.specs.declared.terminal.Role.TheVariants as role
use Rattle.timbuk_grammar.specs.declared.terminal.Terminal.TheVariants as terminal
use Rattle.spec_text.specs.declared.fault.SpecKind.TheVariants as kind
use Rattle.spec_text.specs.declared.fault.LimitName.TheVariants as limit
use Rattle.spec_text.specs.Declarations.{adds}
use Rattle.spec_text.specs.Rows.{is_in}
use Rattle.timbuk_reader.specs.View.{closed, state_of}
use Rattle.timbuk_reader.proofs.parsing.Tokens.{word_advances, word_stops, closed_calm, no_word_stops}
use Rattle.timbuk_reader.proofs.parsing.Names.{declared_over, declared_double, declared_new, reached, below, no_position, is_in-neither}
use Rattle.timbuk_reader.proofs.state.Reader.variable_name.Goals as goal

pub returns-in_err-name-clause-reads : goal.returns-in_err-name-clause-reads
returns-in_err-name-clause-reads c =
    let e = c.in_err-name.field-0.0 in
    let stops : Stops (name role.Variable) closed c.args.self.now e = no_word_stops (terminal.Named role.Variable) closed c.args.self.now e tt closed_calm c.in_err-name.ensures.err in
    grind (arith, common_steps)

pub returns-then-len-ge-MAX_DECLARED-clause-reads : goal.returns-then-len-ge-MAX_DECLARED-clause-reads
returns-then-len-ge-MAX_DECLARED-clause-reads c =
    let r = c.args.self.now in
    let stands = c.in_ok-name.ensures.ok in
    let many : 1024 ≤ length r.variables = omega arith in
    word_stops (terminal.Named role.Variable) closed r c.in_ok-name.name.now (kind.Limit limit.Declared) c.refusal.result tt closed_calm stands
    (declared_over role.Variable c.in_ok-name.name.now (state_of r) limit.Declared tt stands.short (reached 1024 (length r.variables) limit.Declared many)) c.refusal.ensures

pub returns-then-is_taken-clause-reads : goal.returns-then-is_taken-clause-reads
returns-then-is_taken-clause-reads c =
    let r = c.args.self.now in
    let text = c.in_ok-name.name.now in
    let stands = c.in_ok-name.ensures.ok in
    let few : length r.variables < 1024 = omega arith in
    let taken : is_in (names_of r.signature ++ r.variables) text ≡ true = sym c.is_taken.ensures ∙ c.if-is_taken.true in
    word_stops (terminal.Named role.Variable) closed r text kind.DoubleName c.refusal-then-is_taken.result tt closed_calm stands
    (declared_double role.Variable text (state_of r) tt stands.short (below 1024 (length r.variables) limit.Declared few) taken) c.refusal-then-is_taken.ensures

pub add-requires-clause-new : goal.add-requires-clause-new
add-requires-clause-new c =
    let r = c.args.self.now in
    let text = c.in_ok-name.name.now in
    no_position r.variables text (is_in-neither (names_of r.signature) r.variables text (sym c.is_taken.ensures ∙ c.if-is_taken.false)).1

pub returns-clause-reads : goal.returns-clause-reads
unfolding adds
returns-clause-reads c =
    let r = c.args.self.now in
    let text = c.in_ok-name.name.now in
    let stands = c.in_ok-name.ensures.ok in
    let few : length r.variables < 1024 = omega arith in
    let new : is_in (names_of r.signature ++ r.variables) text ≡ false = sym c.is_taken.ensures ∙ c.if-is_taken.false in
    word_advances (terminal.Named role.Variable) closed closed r c.advance.new.self text c.advance.result.now tt closed_calm stands
    (declared_new role.Variable text (state_of r) tt stands.short (below 1024 (length r.variables) limit.Declared few) new) c.advance.ensures.token c.advance.ensures.end
    (c.advance.ensures.state ∙ rw c.in_ok-add.ensures.ok refl)
