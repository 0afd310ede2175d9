use Rattle.std.proofs.Common.{sym, subst}
use Rattle.eq_merge.specs.Passes.{IsFurther}
use Rattle.eq_merge.proofs.finding.Parts.{further_on, joined_places}
use Rattle.eq_merge.proofs.following.turn.Goals as goal

pub followed-requires : goal.followed-requires
followed-requires c =
    let near = c.in_ok-joined.ensures in
    joined_places c.lists_ascend.ensures.sound c.args.equations.now c.args.classes.now near.part c.in_ok-joined.joined c.requires.leasts near.is near.joined

pub returns : goal.returns
returns c =
    let near = c.in_ok-joined.ensures in
    subst (IsFurther c.args.equations.now c.args.automaton.now c.args.classes.now) (sym c.in_ok-followed.ensures)
    (further_on c.lists_ascend.ensures.sound c.lists_ascend.ensures.order c.args.classes.now near.part c.in_ok-joined.joined c.requires near.is near.joined)
