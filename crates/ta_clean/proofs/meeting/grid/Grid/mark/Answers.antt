use Rattle.std.proofs.Common.{◌≡◌, ℕ, sym, subst, ◌∙◌}
use Rattle.ta_clean.specs.Tables.{Table, IsIn, IsMarked, Keeps, mark_of}
use Rattle.ta_clean.specs.declared.meeting.grid.Mark.TheVariants.{Unmarked, Waiting}
use Rattle.ta_clean.proofs.marking.TableMarks.{was_marked, marking_keeps, marking_marks, unmarked_by, mark_read}
use Rattle.ta_clean.proofs.meeting.grid.Grid.mark.Goals as goal

pub returns-then-not-is_marked-clause-members : goal.returns-then-not-is_marked-clause-members
returns-then-not-is_marked-clause-members c next m =
    let table : Table = record { height = c.self.inside.height; width = c.self.inside.width; marks = c.self.inside.marks.items } in
    let is = subst (λ t. IsIn t (c.args.first, c.args.second)) (sym c.self.view_is) c.requires in
    rw (← c.self.view_is) (was_marked table c.self.invariant (c.args.first, c.args.second) is Waiting next (subst (λ t. IsMarked t next) c.remember.ensures m))

pub returns-then-not-is_marked-clause-marked : goal.returns-then-not-is_marked-clause-marked
returns-then-not-is_marked-clause-marked c =
    let table : Table = record { height = c.self.inside.height; width = c.self.inside.width; marks = c.self.inside.marks.items } in
    let is = subst (λ t. IsIn t (c.args.first, c.args.second)) (sym c.self.view_is) c.requires in
    let pair : ℕ × ℕ = (c.args.first, c.args.second) in
    let new : mark_of table pair ≡ Unmarked = mark_read table c.self.invariant pair is _ _ c.index.ensures ∙ unmarked_by _ _ c.is_marked.ensures c.if-not-is_marked.true in
    subst (λ t. IsMarked t pair) (sym c.remember.ensures) (marking_marks table c.self.invariant pair is new)

pub returns-then-not-is_marked-clause-kept : goal.returns-then-not-is_marked-clause-kept
returns-then-not-is_marked-clause-kept c =
    let table : Table = record { height = c.self.inside.height; width = c.self.inside.width; marks = c.self.inside.marks.items } in
    let is = subst (λ t. IsIn t (c.args.first, c.args.second)) (sym c.self.view_is) c.requires in
    let pair : ℕ × ℕ = (c.args.first, c.args.second) in
    let new : mark_of table pair ≡ Unmarked = mark_read table c.self.invariant pair is _ _ c.index.ensures ∙ unmarked_by _ _ c.is_marked.ensures c.if-not-is_marked.true in
    rw (← c.self.view_is) (subst (λ t. Keeps table t) (sym c.remember.ensures) (marking_keeps table c.self.invariant pair is new))
