use Rattle.std.proofs.Common.{◌<◌, ◌∙◌, true≢false, sym, subst, arith}
use Rattle.closure_check.specs.Marking.{Marked}
use Rattle.closure_check.proofs.sets.MarkLists.{marks_unlisted, members_hold}
use Rattle.closure_check.proofs.marks.Marks.fill.Goals as goal

pub invariant_of-self : goal.invariant_of-self
invariant_of-self c = (
  marks_unlisted _ _ _ _ (c.fill.ensures.length ∙ c.self.invariant.0.wide) c.clear.ensures.items (λ e. absurd (true≢false (sym e))),
  omega (arith, c.self.invariant.1, c.clear.ensures.capacity),
  c.self.invariant.2,
)

pub returns-clause-members : goal.returns-clause-members
returns-clause-members c q l =
    let below : q < c.self.inside.size = subst (λ (m : Marked). q < m.size) (sym c.self.view_is) l in
    members_hold c.fill.new.self c.self.inside.size q below (c.fill.ensures.all q (omega (arith, below, c.self.invariant.0.wide)))
