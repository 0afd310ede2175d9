use Rattle.std.proofs.Common.{◌≡◌, sym, subst, ◌∙◌}
use Rattle.ta_core.specs.TreeAutomaton.{IsKept}
use Rattle.ta_core.specs.KeptAside.{grown_by}
use Rattle.ta_core.proofs.Grown.{grown_none}
use Rattle.ta_core.proofs.growing.Growing.on.Goals as goal

pub invariant_of-result : goal.invariant_of-result
invariant_of-result c =
    let A = c.args.base.now in
    let same : grown_by A 0 c.new.result.keys c.new-2.result.keys ≡ A =
    (λ i. grown_by A 0 (c.new.ensures.empty i) (c.new-2.ensures.empty i)) ∙ grown_none A c.trans.ensures.sorted c.eps.ensures.sorted in
    subst IsKept (sym same) (record { sound = c.trans.ensures.sound; few = c.eps.ensures.few })

pub returns : goal.returns
returns c =
    let A = c.args.base.now in
    (λ i. grown_by A 0 (c.new.ensures.empty i) (c.new-2.ensures.empty i)) ∙ grown_none A c.trans.ensures.sorted c.eps.ensures.sorted
