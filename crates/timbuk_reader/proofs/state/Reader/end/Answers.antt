use Rattle.std.proofs.Common.{◌≡◌, [], sym, ◌∙◌, arith, rules}
use Rattle.timbuk_lex.specs.declared.lex.Ending.TheVariants.{Whole}
use Rattle.timbuk_reader.proofs.parsing.Sections.{no_token, end_is_whole}
use Rattle.timbuk_reader.proofs.state.Reader.end.Goals as goal

pub returns-clause-ok : goal.returns-clause-ok
returns-clause-ok c =
    let r = c.args.self.now in
    let none : r.tokens.now ≡ [] = no_token r.tokens.now (sym c.is_empty.ensures ∙ c.if-not-is_empty.false) in
    let whole : r.ending ≡ Whole = search rules in
    end_is_whole r none whole (omega arith)
