use Rattle.std.proofs.Common.{◌↔◌, List, ℕ, subst}
use Rattle.std.specs.List.{Contains}
use Rattle.std.proofs.lemmas.List.{take_all}
use Rattle.derive_search.proofs.GrowthLaws.{first_more}
use Rattle.derive_search.proofs.bounded.first_level.Goals as goal

pub loop-id-preserved : goal.loop-id-preserved
loop-id-preserved c =
    first_more c.args.starts.now c.loop-id.id-index 0 c.loop-id-test.true c.loop-id.levels.ids.keys c.loop-id.levels.origins.items c.add.new.levels.ids.keys c.add.new.levels.origins.items c.in_ok-add.ensures
    c.loop-id.invariant.0 c.loop-id.invariant.1.0 c.loop-id.invariant.1.1.0 c.loop-id.invariant.1.1.1

pub returns-clause-ids : goal.returns-clause-ids
returns-clause-ids c id = subst (λ (xs : List ℕ). Contains c.loop-id.levels.ids.keys id ↔ Contains xs id) (take_all c.loop-id.id-index c.args.starts.now c.loop-id-test.false) (c.loop-id.invariant.0 id)
