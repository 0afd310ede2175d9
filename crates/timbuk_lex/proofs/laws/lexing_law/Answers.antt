use Rattle.timbuk_lex.proofs.Cuts.{one_cut}
use Rattle.timbuk_lex.proofs.laws.lexing_law.Goals as goal

pub returns : goal.returns
returns c = one_cut
