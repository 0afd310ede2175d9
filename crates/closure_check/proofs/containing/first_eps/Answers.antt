use Rattle.std.proofs.Common.{ℕ, ◌+◌, All, get_or, sym, ap, subst, ◌∙◌, true≢false, arith}
use Rattle.std.proofs.lemmas.List.{take_all, get_or_default}
use Rattle.std.proofs.lemmas.List.Elements.{All-more}
use Rattle.ta_core.specs.Acceptance.{EpsHolds}
use Rattle.closure_check.proofs.sets.RunningSets.{same_length, room_by}
use Rattle.closure_check.proofs.firsts.FirstFailures.{fails_at, sizes_set}
use Rattle.closure_check.proofs.containing.first_eps.Goals as goal

pub eps_holds-requires : goal.eps_holds-requires
eps_holds-requires c = room_by c.args.automaton.now c.loop-from.sets c.args.sets.now c.loop-from.invariant.sizes c.requires.room 0 _ (omega (arith, same_length c.loop-from.sets c.args.sets.now c.loop-from.invariant.sizes, c.requires.some))

pub returns-then-not-eps_holds-clause-some : goal.returns-then-not-eps_holds-clause-some
returns-then-not-eps_holds-clause-some c =
    let e : ℕ × ℕ = get_or c.args.eps.now c.loop-from.from-index (0, 0) in
    fails_at (EpsHolds c.args.automaton.now c.args.images.now) c.args.eps.now c.loop-from.from-index e c.loop-from-test.true (get_or_default c.args.eps.now c.loop-from.from-index (0, 0) e c.loop-from-test.true)
    c.loop-from.invariant.holds (λ h. true≢false (sym (c.eps_holds.ensures.holds.1 h) ∙ c.if-not-eps_holds.true)) c.loop-from.place c.loop-from.invariant.place

pub loop-from-preserved : goal.loop-from-preserved
loop-from-preserved c = record {
  place = ap (λ n. n + 1) c.loop-from.invariant.place;
  holds = All-more (EpsHolds c.args.automaton.now c.args.images.now) c.args.eps.now c.loop-from.from-index (0, 0) c.loop-from-test.true c.loop-from.invariant.holds (c.eps_holds.ensures.holds.0 c.if-not-eps_holds.false);
  sizes = sizes_set c.loop-from.sets 0 c.eps_holds.new.set _ (omega (arith, same_length c.loop-from.sets c.args.sets.now c.loop-from.invariant.sizes, c.requires.some)) c.eps_holds.ensures.size ∙ c.loop-from.invariant.sizes;
}

pub returns-clause-none : goal.returns-clause-none
returns-clause-none c = subst (All (EpsHolds c.args.automaton.now c.args.images.now)) (take_all c.loop-from.from-index c.args.eps.now c.loop-from-test.false) c.loop-from.invariant.holds
