use Rattle.std.proofs.Common.{length, ap, arith}
use Rattle.reach_rows.proofs.Words.{all_ones}
use Rattle.reach_rows.proofs.bits.Bits.fill.Goals as goal

pub returns-clause-all : goal.returns-clause-all
returns-clause-all c q l = all_ones _ _ (c.fill.ensures.items (λ y e. e)) q (omega (arith, l, ap length c.self.view_is, c.self.inside.words.ok.0))
