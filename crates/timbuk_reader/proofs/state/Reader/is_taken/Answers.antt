use Rattle.std.proofs.Common.{◌≡◌, ◌||◌, true, false, sym, ap, ◌∙◌}
use Rattle.std.specs.Prelude.{is_some}
use Rattle.ranked_terms.specs.Names.{names_of}
use Rattle.spec_text.specs.Rows.{is_in}
use Rattle.timbuk_reader.proofs.parsing.Names.{is_in-append, is_in-position}
use Rattle.timbuk_reader.proofs.state.Reader.is_taken.Goals as goal

pub returns-then-is_some : goal.returns-then-is_some
returns-then-is_some c =
    let r = c.args.self.now in
    let text = c.args.name.now in
    let symbol : is_in (names_of r.signature) text ≡ true = is_in-position (names_of r.signature) text ∙ ap is_some (sym c.find.ensures.value) ∙ sym c.is_some.ensures ∙ c.if-is_some.true in
    c.if-is_some.true ∙ sym (is_in-append (names_of r.signature) r.variables text ∙ ap (λ b. b || is_in r.variables text) symbol)

pub returns-else-is_some : goal.returns-else-is_some
returns-else-is_some c =
    let r = c.args.self.now in
    let text = c.args.name.now in
    let symbol : is_in (names_of r.signature) text ≡ false = is_in-position (names_of r.signature) text ∙ ap is_some (sym c.find.ensures.value) ∙ sym c.is_some.ensures ∙ c.if-is_some.false in
    let variable : is_in r.variables text ≡ c.is_some-else-is_some.result = is_in-position r.variables text ∙ ap is_some (sym c.find-else-is_some.ensures) ∙ sym c.is_some-else-is_some.ensures in
    sym (is_in-append (names_of r.signature) r.variables text ∙ ap (λ b. b || is_in r.variables text) symbol ∙ variable)
