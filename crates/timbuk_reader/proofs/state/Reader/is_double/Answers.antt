use Rattle.std.proofs.Common.{◌≡◌, ◌++◌, ◌||◌, false, sym, ap, ◌∙◌}
use Rattle.std.specs.Prelude.{is_some, position}
use Rattle.std.specs.Str.{bytes_eq}
use Rattle.ranked_terms.specs.Names.{names_of}
use Rattle.spec_text.specs.Rows.{is_in}
use Rattle.timbuk_reader.specs.AutomatonReads.{table_of}
use Rattle.timbuk_reader.proofs.parsing.Names.{is_in-position}
use Rattle.timbuk_reader.proofs.parsing.Automaton.{double_in_table}
use Rattle.timbuk_reader.proofs.state.Reader.is_double.Goals as goal

pub returns-else-is_taken : goal.returns-else-is_taken
returns-else-is_taken c =
    let r = c.args.self.now in
    let p = c.args.role in
    let text = c.args.name.now in
    let known : is_in (names_of r.signature ++ r.variables) text ≡ false = sym c.is_taken.ensures ∙ c.if-is_taken.false in
    let found : is_in (table_of p r) text ≡ c.is_some.result =
    is_in-position (table_of p r) text ∙ ap (λ names. is_some (position (bytes_eq text) names)) (sym c.table.ensures) ∙ ap is_some (sym c.find.ensures) ∙ sym c.is_some.ensures in
    sym (double_in_table p r text c.requires ∙ ap (λ b. b || is_in (table_of p r) text) known ∙ found)
