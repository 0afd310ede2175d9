use Rattle.std.proofs.Common.{sym, subst, arith}
use Rattle.state_match.specs.Groups.{group_of}
use Rattle.state_match.specs.Sides.{Side}
use Rattle.critical_pairs.specs.Opens.{Setting, Adds}
use Rattle.critical_pairs.proofs.Opens.{missed_by, opens_are, added, exceeded}
use Rattle.critical_pairs.proofs.openings.OpeningsGroups.take.Goals as goal

pub returns-then-len-room-clause-ended : goal.returns-then-len-room-clause-ended
returns-then-len-room-clause-ended c = λ yes.
    let s : Setting = record { automaton = c.self.inside.right.automaton; number = c.self.inside.number; rule = c.self.inside.rule.now } in
    exceeded s c.self.inside.limit c.self.inside.pairs c.args.self.now c.self.view_is (group_of c.args.assignment.now c.args.states.now) c.in_ok-open.open.items
    (opens_are s c.args.assignment.now c.args.states.now c.in_ok-open.open.items (c.in_ok-open.ensures.order c.requires.ascend)
    (missed_by s c.args.assignment.now c.args.states.now c.in_ok-open.open.items c.self.inside.right.vars c.self.inside.right.pattern c.self.invariant.0 c.self.invariant.1 c.in_ok-open.ensures.members))
    c.len-2.result c.len.result c.saturating_sub-room.result (omega (arith, c.len-2.ensures, c.in_ok-open.open.ok.0)) c.len.ensures c.saturating_sub-room.ensures c.if-len-room.true

pub returns-clause-took : goal.returns-clause-took
returns-clause-took c = λ yes.
    let s : Setting = record { automaton = c.self.inside.right.automaton; number = c.self.inside.number; rule = c.self.inside.rule.now } in
    subst (λ (side : Side). Adds c.args.self.now (group_of c.args.assignment.now c.args.states.now) (record {
      setting = record { automaton = side.automaton; number = c.self.inside.number; rule = c.self.inside.rule.now };
      limit = c.self.inside.limit;
      pairs = c.add_pairs.new.pairs;
    })) (sym c.missed_states.ensures.same)
    (added s c.self.inside.limit c.self.inside.pairs c.args.self.now c.self.view_is (group_of c.args.assignment.now c.args.states.now) c.in_ok-open.open.items
    (opens_are s c.args.assignment.now c.args.states.now c.in_ok-open.open.items (c.in_ok-open.ensures.order c.requires.ascend)
    (missed_by s c.args.assignment.now c.args.states.now c.in_ok-open.open.items c.self.inside.right.vars c.self.inside.right.pattern c.self.invariant.0 c.self.invariant.1 c.in_ok-open.ensures.members))
    c.len-2.result c.len.result c.saturating_sub-room.result (omega (arith, c.len-2.ensures, c.in_ok-open.open.ok.0)) c.len.ensures c.saturating_sub-room.ensures
    c.add_pairs.new.pairs (rw c.as_slice.ensures.value at c.in_ok-add_pairs.ensures) c.if-len-room.false)
