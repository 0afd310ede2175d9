use Rattle.std.proofs.Common.{◌<◌, length, not, refl, sym, ap, subst, ◌∙◌, arith}
use Rattle.std.proofs.lemmas.List.FromFn.{length-range_with_len}
use Rattle.std.proofs.lemmas.List.Elements.{All-weaker}
use Rattle.ta_core.specs.TreeAutomaton.{TreeAutomaton}
use Rattle.eq_merge.proofs.finding.OnTheWay.{pass_way, nothing_forced, none_holds, some_holds, fewer_left}
use Rattle.eq_merge.proofs.finding.Parts.{still_moved}
use Rattle.eq_merge.proofs.merging.Merging.pass.Goals as goal

pub join_equated-requires : goal.join_equated-requires
join_equated-requires c =
    omega (arith, ap length c.in_ok-classes.ensures, length-range_with_len 0 c.next.result, c.next.ensures.value)

pub returns-then-is_none-clause-ends : goal.returns-then-is_none-clause-ends
returns-then-is_none-clause-ends c = λ yes.
    let A = c.args.self.now.automaton in
    let h = c.join_equated.new.classes in
    let way = pass_way c.lists_ascend.ensures.sound c.lists_ascend.ensures.order c.next.result c.in_ok-classes.classes h c.next.ensures.value c.in_ok-classes.ensures c.in_ok-join_equated.ensures.joined in (
      refl,
      nothing_forced c.lists_ascend.ensures.sound h c.in_ok-join_equated.ensures.all (λ q l.
          none_holds c.moved.result (c.is_none.ensures ∙ ap not c.if-is_none.true) c.moved.ensures.none q (omega (arith, l, way.leasts.each))),
    )

pub follow-requires : goal.follow-requires
follow-requires c =
    pass_way c.lists_ascend.ensures.sound c.lists_ascend.ensures.order c.next.result c.in_ok-classes.classes c.join_equated.new.classes c.next.ensures.value c.in_ok-classes.ensures
    c.in_ok-join_equated.ensures.joined

pub followed-requires : goal.followed-requires
followed-requires c =
    let leasts = c.in_ok-classes-2.ensures.way.leasts in
    All-weaker (λ q. q < c.args.self.now.automaton.next) (λ q. q < length c.in_ok-classes-2.classes) (λ q l. omega (arith, l, leasts.each)) c.args.self.now.renaming c.requires

pub quotient_by-requires : goal.quotient_by-requires
quotient_by-requires c = c.in_ok-classes-2.ensures.way.leasts

pub returns-clause-goes_on : goal.returns-clause-goes_on
returns-clause-goes_on c = λ yes.
    let A = c.args.self.now.automaton in
    let further = c.in_ok-classes-2.ensures in
    let before = pass_way c.lists_ascend.ensures.sound c.lists_ascend.ensures.order c.next.result c.in_ok-classes.classes c.join_equated.new.classes c.next.ensures.value c.in_ok-classes.ensures
    c.in_ok-join_equated.ensures.joined in
    let gone = some_holds c.moved.result (c.is_none.ensures ∙ ap not c.if-is_none.false) c.moved.ensures.some in
    let below : gone.0 < A.next = omega (arith, gone.1.0, before.leasts.each) in
    record {
      classes = c.in_ok-classes-2.classes;
      way = further.way;
      automaton = c.in_ok-self.ensures;
      renaming = c.in_ok-renaming.ensures;
      fewer = subst (λ (X : TreeAutomaton). length X.states < length A.states) (sym c.in_ok-self.ensures)
          (fewer_left further.way.leasts gone.0 below (still_moved before.leasts further gone.0 below gone.1.1));
    }
