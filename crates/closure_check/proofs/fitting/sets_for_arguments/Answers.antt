use Rattle.std.proofs.Common.{◌<◌, All, length, take, subst, ap, arith}
use Rattle.std.proofs.lemmas.List.{take_all}
use Rattle.std.proofs.lemmas.List.Elements.{All-more, All-weaker}
use Rattle.ta_core.specs.declared.trans.Trans.{Trans}
use Rattle.closure_check.proofs.fitting.sets_for_arguments.Goals as goal

pub loop-t-preserved : goal.loop-t-preserved
loop-t-preserved c =
    let trans = c.args.trans.now in
    let k = c.loop-t.t-index in
    let new = c.greater-most.result in (
      omega (arith, c.greater-most.ensures, c.loop-t.invariant.0),
      λ small. All-more (λ (t : Trans). length t.args < new) trans k c.t-item.result c.loop-t-test.true
          (All-weaker (λ (t : Trans). length t.args < c.loop-t.most) (λ (t : Trans). length t.args < new) (λ t l. omega (arith, l, c.greater-most.ensures)) (take k trans) (c.loop-t.invariant.1 (omega (arith, small, c.greater-most.ensures))))
          (omega (arith, small, c.greater-most.ensures, c.saturating_add.ensures, ap length c.as_slice.ensures, ap (λ (t : Trans). length t.args) c.t-item.is)),
      λ n some all. omega (arith, c.greater-most.ensures, c.saturating_add.ensures, ap length c.as_slice.ensures, ap (λ (t : Trans). length t.args) c.t-item.is, c.loop-t.invariant.2 n some all, all k c.t-item.result c.loop-t-test.true),
    )

pub returns-clause-enough : goal.returns-clause-enough
returns-clause-enough c small = subst (All (λ (t : Trans). length t.args < c.loop-t.most)) (take_all c.loop-t.t-index c.args.trans.now c.loop-t-test.false) (c.loop-t.invariant.1 small)
