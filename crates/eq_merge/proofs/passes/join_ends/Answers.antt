use Rattle.std.proofs.Common.{Contains, refl, sym, subst, ◌∙◌, arith}
use Rattle.std.proofs.lemmas.List.{take_all}
use Rattle.std.proofs.lemmas.List.Elements.{Contains-get_or}
use Rattle.list_laws.proofs.Members.{none}
use Rattle.eq_merge.specs.Joined.{Joined}
use Rattle.eq_merge.proofs.finding.Leading.{step_long, step_joined, more_led, to_state}
use Rattle.eq_merge.proofs.passes.join_ends.Goals as goal

pub loop-end-init : goal.loop-end-init
loop-end-init c = record { long = refl; joined = Joined.none; led = λ t i. absurd (none t i) }

pub join_end-requires-clause-inside : goal.join_end-requires-clause-inside
join_end-requires-clause-inside c =
    let ends = c.args.ends.now in
    let x = c.end-item.result in
    to_state c.next.ensures.sound ends c.requires.inside x (subst (Contains ends) (sym c.end-item.is) (Contains-get_or ends c.loop-end.end-index x c.loop-end-test.true))

pub loop-end-preserved : goal.loop-end-preserved
loop-end-preserved c =
    let ends = c.args.ends.now in
    let x = c.end-item.result in
    let step = c.in_ok-join_end.ensures in
    record {
      long = step_long x step ∙ c.loop-end.invariant.long;
      joined = step_joined x (subst (Contains ends) (sym c.end-item.is) (Contains-get_or ends c.loop-end.end-index x c.loop-end-test.true)) step c.loop-end.invariant.joined;
      led = more_led c.next.ensures.sound ends c.requires.inside c.loop-end.end-index x c.loop-end.classes c.join_end.new.classes c.loop-end-test.true c.end-item.is
          (omega (arith, c.requires.next, c.loop-end.invariant.long)) step c.loop-end.invariant.led;
    }

pub returns-clause-led : goal.returns-clause-led
returns-clause-led c t i = c.loop-end.invariant.led t (subst (λ ts. Contains ts t) (sym (take_all c.loop-end.end-index c.args.ends.now c.loop-end-test.false)) i)
