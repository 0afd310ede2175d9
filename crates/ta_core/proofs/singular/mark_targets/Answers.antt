use Rattle.std.proofs.Common.{◌<◌, ◌∙◌, sym, subst, true≢false}
use Rattle.std.proofs.lemmas.List.{length-set}
use Rattle.std.proofs.lemmas.List.Elements.{All-contains}
use Rattle.ta_core.specs.declared.trans.Trans.{Trans}
use Rattle.ta_core.proofs.Marking.{one_more, member_at, two, falling}
use Rattle.ta_core.proofs.singular.mark_targets.Goals.{then-flags-t-via-then-flags-t, then-flags-t-via-else-flags-t+then-not-rises}
use Rattle.ta_core.proofs.singular.mark_targets.Goals as goal

pub returns-then-flags-t-clause-no : goal.returns-then-flags-t-clause-no
returns-then-flags-t-clause-no c e =
    let ts = c.args.transitions.now in
    let t = c.t-item.result in
    elim c.then-flags-t.branch [
      | then-flags-t-via-then-flags-t w ↦ two ts c.loop-t.t-index t c.loop-t.flags c.requires.sorted c.loop-t-test.true c.t-item.is c.loop-t.invariant.0 w.if-flags-t.true
      | then-flags-t-via-else-flags-t+then-not-rises w ↦ falling ts c.loop-t.t-index t c.loop-t-test.true c.t-item.is (λ r. true≢false (sym (w.rises.ensures.1 r) ∙ w.if-not-rises.true))
    ]

pub loop-t-preserved : goal.loop-t-preserved
loop-t-preserved c =
    let ts = c.args.transitions.now in
    let t = c.t-item.result in
    let below : t.to < 16384 = All-contains (λ (t : Trans). t.to < 16384) ts t c.requires.below (member_at ts c.loop-t.t-index t c.loop-t-test.true c.t-item.is) in (
      one_more ts c.loop-t.t-index t c.loop-t.flags c.loop-t-test.true c.t-item.is (subst (λ n. t.to < n) (sym c.loop-t.invariant.1) below) c.loop-t.invariant.0 c.if-flags-t.false
          (c.rises.ensures.0 c.if-not-rises.false),
      length-set c.loop-t.flags t.to _ ∙ c.loop-t.invariant.1,
    )
