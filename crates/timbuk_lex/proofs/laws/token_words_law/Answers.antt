use Rattle.timbuk_lex.proofs.Cuts.{lexed_words}
use Rattle.timbuk_lex.proofs.laws.token_words_law.Goals as goal

pub returns : goal.returns
returns c = lexed_words
