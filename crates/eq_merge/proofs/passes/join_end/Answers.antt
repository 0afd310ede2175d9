use Rattle.std.proofs.Common.{inl, inr, refl, arith}
use Rattle.eq_merge.specs.Ends.{across}
use Rattle.eq_merge.proofs.finding.Leading.{found_least, found_none, target_below}
use Rattle.eq_merge.proofs.passes.join_end.Goals as goal

pub join-requires-clause-q : goal.join-requires-clause-q
join-requires-clause-q c =
    let t = c.args.end.now in
    let least = found_least t c.across.result c.as_slice.result.now c.in_ok-least.field-0 c.in-Some.least c.across.ensures c.as_slice.ensures c.in_ok-least.ensures.some c.in-Some.is in
    omega (arith, c.requires.next, target_below c.in_ok-least.ensures.sound (across t.sym) t.args c.in-Some.least least)

pub returns-in-Some : goal.returns-in-Some
returns-in-Some c =
    let t = c.args.end.now in
    inr (c.in-Some.least, found_least t c.across.result c.as_slice.result.now c.in_ok-least.field-0 c.in-Some.least c.across.ensures c.as_slice.ensures c.in_ok-least.ensures.some c.in-Some.is, c.join.ensures)

pub returns-in_default : goal.returns-in_default
returns-in_default c =
    inl (found_none c.args.lookup.now c.args.end.now c.across.result c.as_slice.result.now c.in_ok-least.field-0 c.across.ensures c.as_slice.ensures c.in_ok-least.ensures.none c.in_default.is, refl)
