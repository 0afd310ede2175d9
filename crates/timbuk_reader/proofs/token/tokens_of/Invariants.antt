use Rattle.std.proofs.Common.{◌≡◌, take, map}
use Rattle.timbuk_reader.specs.Tokens.{token_of}
use Rattle.timbuk_reader.proofs.token.tokens_of.Given as goal

abbrev pub invariant-loop-lexeme : goal.invariant-loop-lexeme
invariant-loop-lexeme l = l.all ≡ map token_of (take l.lexeme-index l.lexemes)
