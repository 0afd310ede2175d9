use Rattle.timbuk_grammar.specs.Grammar.{one}
use Rattle.timbuk_reader.specs.Reads.{Stops}
use Rattle.std.proofs.lemmas.Grind.{common_steps}
use Rattle.std.proofs.Common.{◌≡◌, ◌≤◌, ◌<◌, min, arith, refl, ap, ◌∙◌}
use Rattle.timbuk_grammar.specs.declared.terminal.Terminal.TheVariants as terminal
use Rattle.spec_text.specs.declared.fault.SpecKind.TheVariants as kind
use Rattle.spec_text.specs.declared.fault.LimitName.TheVariants as limit
use Rattle.spec_text.specs.Declarations.{adds, value_of}
use Rattle.timbuk_reader.specs.View.{closed, naming, declared}
use Rattle.timbuk_reader.proofs.parsing.Tokens.{word_advances, word_stops, naming_calm, no_word_stops}
use Rattle.timbuk_reader.proofs.parsing.Names.{large_number, small_number}
use Rattle.timbuk_reader.proofs.keeping.Fresh.{fresh_rules, fresh_equations, fresh_entries, fresh_initial, fresh_second}
use Rattle.timbuk_reader.proofs.state.Reader.arity.Goals as goal

pub returns-in_err-word-clause-reads : goal.returns-in_err-word-clause-reads
returns-in_err-word-clause-reads c =
    let e = c.in_err-word.field-0.0 in
    let stops : Stops (one terminal.Number) (naming c.args.name.now) c.args.self.now e = no_word_stops terminal.Number (naming c.args.name.now) c.args.self.now e tt (naming_calm c.args.name.now) c.in_err-word.ensures.err in
    grind (arith, common_steps)

pub returns-then-arity-gt-MAX_ARITY-clause-reads : goal.returns-then-arity-gt-MAX_ARITY-clause-reads
returns-then-arity-gt-MAX_ARITY-clause-reads c =
    let r = c.args.self.now in
    let text = c.in_ok-word.field-0.now in
    let stands = c.in_ok-word.ensures.ok in
    let number : c.number_of-arity.result ≡ min (value_of text) 17 = c.number_of-arity.ensures ∙ ap (λ z. min (value_of z) 17) c.as_bytes.ensures.value in
    let large : 16 < value_of text = omega arith in
    word_stops terminal.Number (naming c.args.name.now) r text (kind.Limit limit.Arity) c.refusal.result tt (naming_calm c.args.name.now) stands
    (large_number text (declared (naming c.args.name.now) r) stands.short large) c.refusal.ensures

pub invariant_of-self-clause-rules_over : goal.invariant_of-self-clause-rules_over
invariant_of-self-clause-rules_over c = fresh_rules c.args.self.now c.add.new.self c.requires.fresh

pub invariant_of-self-clause-equations_over : goal.invariant_of-self-clause-equations_over
invariant_of-self-clause-equations_over c = fresh_equations c.args.self.now c.add.new.self c.requires.fresh

pub invariant_of-self-clause-entries_over : goal.invariant_of-self-clause-entries_over
invariant_of-self-clause-entries_over c = fresh_entries c.args.self.now c.add.new.self c.requires.fresh

pub invariant_of-self-clause-initial_over : goal.invariant_of-self-clause-initial_over
invariant_of-self-clause-initial_over c = fresh_initial c.args.self.now c.add.new.self c.requires.fresh

pub invariant_of-self-clause-second_over : goal.invariant_of-self-clause-second_over
invariant_of-self-clause-second_over c = fresh_second c.args.self.now c.add.new.self c.requires.fresh

pub returns-in-Ok-clause-reads : goal.returns-in-Ok-clause-reads
unfolding adds
returns-in-Ok-clause-reads c =
    let r = c.args.self.now in
    let text = c.in_ok-word.field-0.now in
    let stands = c.in_ok-word.ensures.ok in
    let number : c.number_of-arity.result ≡ min (value_of text) 17 = c.number_of-arity.ensures ∙ ap (λ z. min (value_of z) 17) c.as_bytes.ensures.value in
    let small : value_of text ≤ 16 = omega arith in
    let exact : c.number_of-arity.result ≡ value_of text = omega arith in
    word_advances terminal.Number (naming c.args.name.now) closed r c.advance.new.self text c.advance.result.now tt (naming_calm c.args.name.now) stands
    (small_number text (declared (naming c.args.name.now) r) stands.short small) c.advance.ensures.token c.advance.ensures.end
    (c.advance.ensures.state ∙ rw (c.in-Ok.ensures.added, exact) refl)
