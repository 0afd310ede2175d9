use Rattle.std.proofs.Common.{◌==◌, ◌++◌, ◌∷◌, [], sym, ◌∙◌}
use Rattle.std.specs.List.{position_or_len}
use Rattle.eq_merge.proofs.finding.Collected.{map_more}
use Rattle.eq_merge.proofs.ends.places_of.Goals as goal

pub loop-v-preserved : goal.loop-v-preserved
loop-v-preserved c =
    c.in_ok-push.ensures.ok
    ∙ ((λ i. c.loop-v.invariant i ++ c.place_of.ensures i ∷ []) ∙ sym (map_more (λ v. position_or_len (λ w. v == w) c.args.vars.now) c.args.shared.now c.loop-v.v-index 0 c.loop-v-test.true))
