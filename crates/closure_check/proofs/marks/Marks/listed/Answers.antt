use Rattle.std.proofs.Common.{Contains, subst, sym}
use Rattle.closure_check.proofs.sets.MarkLists.{members_has}
use Rattle.closure_check.proofs.marks.Marks.listed.Goals as goal

pub returns-then-self-clause-list : goal.returns-then-self-clause-list
returns-then-self-clause-list c q = rw (← c.self.view_is) (
  λ i. c.self.invariant.0.members q (subst (λ xs. Contains xs q) c.as_slice.ensures.value i),
  λ i. subst (λ xs. Contains xs q) (sym c.as_slice.ensures.value) (c.self.invariant.0.lists c.if-self.true q i),
)

pub returns-clause-below : goal.returns-clause-below
returns-clause-below c q = rw (← c.self.view_is) (λ i. (members_has c.self.inside.bits c.self.inside.size q i).0)

pub returns-then-self-clause-below : goal.returns-then-self-clause-below
returns-then-self-clause-below c q = rw (← c.self.view_is) (λ i. (members_has c.self.inside.bits c.self.inside.size q i).0)
