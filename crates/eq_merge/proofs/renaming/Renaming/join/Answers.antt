use Rattle.std.proofs.Common.{sym, ◌∙◌}
use Rattle.eq_merge.proofs.quotients.Tables.{together_same}
use Rattle.eq_merge.proofs.renaming.Renaming.join.Goals as goal

pub returns-else-p-q : goal.returns-else-p-q
returns-else-p-q c = sym (together_same c.args.self.now c.args.p c.args.q (sym c.image-p.ensures ∙ (c.if-p-q.false ∙ c.image-q.ensures)))
