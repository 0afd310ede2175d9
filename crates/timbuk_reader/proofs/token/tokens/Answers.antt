use Rattle.std.proofs.Common.{map, All, ap, sym, ◌∙◌, subst}
use Rattle.timbuk_reader.specs.Tokens.{token_of, IsSlice}
use Rattle.timbuk_reader.proofs.keeping.Slices.{slices_of}
use Rattle.timbuk_reader.proofs.token.tokens.Goals as goal

pub returns-clause-slices : goal.returns-clause-slices
returns-clause-slices c =
    let are = c.in_ok-tokens_of.ensures ∙ ap (map token_of) c.as_slice-2.ensures in
    subst (All (IsSlice c.args.bytes.now)) (sym are) (slices_of c.args.bytes.now c.in_ok-lexed.lexed.tokens c.in_ok-lexed.ensures.slices)
