use Rattle.closure_check.proofs.sets.MarkLists.{members_has, members_hold}
use Rattle.closure_check.proofs.marks.Marks.enlist.Goals as goal

pub returns-then-self-clause-list : goal.returns-then-self-clause-list
returns-then-self-clause-list c q = rw (← c.self.view_is) (λ i. c.self.invariant.0.members q i, λ i. c.self.invariant.0.lists c.if-self.true q i)

pub invariant_of-self : goal.invariant_of-self
invariant_of-self c = (
  record {
    wide = c.self.invariant.0.wide;
    distinct = c.list_below.ensures.distinct;
    members = λ q i. (let m = (c.list_below.ensures.members q).0 i in members_hold c.self.inside.bits c.self.inside.size q m.0 m.1);
    lists = λ _ q i. (c.list_below.ensures.members q).1 (members_has c.self.inside.bits c.self.inside.size q i);
  },
  c.list_below.ensures.room,
  c.self.invariant.2,
)

pub returns-clause-list : goal.returns-clause-list
returns-clause-list c q = rw (← c.self.view_is) (
  λ i. (let m = (c.list_below.ensures.members q).0 i in members_hold c.self.inside.bits c.self.inside.size q m.0 m.1),
  λ i. (c.list_below.ensures.members q).1 (members_has c.self.inside.bits c.self.inside.size q i),
)
