use Rattle.std.proofs.Common.{◌<◌, length, get_or, subst}
use Rattle.std.specs.List.{All}
use Rattle.std.proofs.lemmas.List.{take_all}
use Rattle.std.proofs.lemmas.List.Elements.{All-more}
use Rattle.library_cases.proofs.store_steps.are_kept.Goals as goal

pub loop-id-preserved : goal.loop-id-preserved
loop-id-preserved c =
    All-more (λ a. a < length c.args.store.now) c.args.ids.now c.loop-id.id-index 0 c.loop-id-test.true c.loop-id.invariant
    (subst (λ n. get_or c.args.ids.now c.loop-id.id-index 0 < n) c.len.ensures.len c.if-id-len.false)

pub returns : goal.returns
returns c t = subst (All (λ a. a < length c.args.store.now)) (take_all c.loop-id.id-index c.args.ids.now c.loop-id-test.false) c.loop-id.invariant
