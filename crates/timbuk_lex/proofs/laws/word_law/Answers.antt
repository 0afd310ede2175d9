use Rattle.timbuk_lex.proofs.Ascii.{word_is_utf8}
use Rattle.timbuk_lex.proofs.laws.word_law.Goals as goal

pub returns : goal.returns
returns c = word_is_utf8
