use Rattle.std.proofs.Common.{◌+◌, All, sym, ap, subst, ◌∙◌, true≢false, length, arith}
use Rattle.std.proofs.lemmas.List.{take_all}
use Rattle.std.proofs.lemmas.List.Elements.{All-more}
use Rattle.ta_core.specs.declared.trans.Trans.{Trans}
use Rattle.ta_core.specs.Acceptance.{TransHolds}
use Rattle.closure_check.proofs.sets.RunningSets.{same_length, room_by}
use Rattle.closure_check.proofs.firsts.FirstFailures.{fails_at}
use Rattle.closure_check.proofs.containing.first_trans.Goals as goal

pub trans_holds-requires-clause-arguments : goal.trans_holds-requires-clause-arguments
trans_holds-requires-clause-arguments c =
    let t = c.t-item.result in
    omega (arith, same_length c.loop-t.sets c.args.sets.now c.loop-t.invariant.sizes, c.requires.arguments c.loop-t.t-index t c.loop-t-test.true, ap (λ (x : Trans). length x.args) c.t-item.is)

pub trans_holds-requires-clause-room : goal.trans_holds-requires-clause-room
trans_holds-requires-clause-room c = room_by c.args.automaton.now c.loop-t.sets c.args.sets.now c.loop-t.invariant.sizes c.requires.room

pub returns-then-not-trans_holds-clause-some : goal.returns-then-not-trans_holds-clause-some
returns-then-not-trans_holds-clause-some c =
    fails_at (TransHolds c.args.automaton.now c.args.images.now) c.args.trans.now c.loop-t.t-index c.t-item.result c.loop-t-test.true c.t-item.is c.loop-t.invariant.holds (λ h. true≢false (sym (c.trans_holds.ensures.holds.1 h) ∙ c.if-not-trans_holds.true)) c.loop-t.place c.loop-t.invariant.place

pub loop-t-preserved : goal.loop-t-preserved
loop-t-preserved c = record {
  place = ap (λ n. n + 1) c.loop-t.invariant.place;
  holds = All-more (TransHolds c.args.automaton.now c.args.images.now) c.args.trans.now c.loop-t.t-index c.t-item.result c.loop-t-test.true c.loop-t.invariant.holds (subst (TransHolds c.args.automaton.now c.args.images.now) c.t-item.is (c.trans_holds.ensures.holds.0 c.if-not-trans_holds.false));
  sizes = c.trans_holds.ensures.sizes ∙ c.loop-t.invariant.sizes;
}

pub returns-clause-none : goal.returns-clause-none
returns-clause-none c = subst (All (TransHolds c.args.automaton.now c.args.images.now)) (take_all c.loop-t.t-index c.args.trans.now c.loop-t-test.false) c.loop-t.invariant.holds
