use Rattle.std.proofs.Common.{◌+◌, ◌∷◌, ◌++◌, [], refl, sym, ap, ◌∙◌}
use Rattle.eq_merge.proofs.quotients.Tables.{range_more}
use Rattle.eq_merge.proofs.renaming.Renaming.apart.Goals as goal

pub loop-q-preserved : goal.loop-q-preserved
loop-q-preserved c = c.in_ok-push.ensures.items ∙ (ap (λ xs. xs ++ c.loop-q.q ∷ []) c.loop-q.invariant ∙ sym (range_more c.loop-q.q (c.loop-q.q + 1) refl))
