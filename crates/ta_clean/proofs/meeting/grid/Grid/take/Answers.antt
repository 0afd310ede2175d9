use Rattle.std.proofs.Common.{◌≡◌, ◌/◌, ◌%◌, ℕ, Some, slice_get, sym, subst, ◌∙◌, arith}
use Rattle.ta_clean.specs.Tables.{Table, IsMarked, IsTaken, TakesOne}
use Rattle.ta_clean.specs.declared.meeting.grid.Mark.TheVariants.{Waiting, Taken}
use Rattle.ta_clean.proofs.marking.TableMarks.{with_mark, takes_one, all_taken, wide, inside, is_in, table_with}
use Rattle.ta_clean.proofs.meeting.grid.Grid.take.Goals as goal

pub index_mut-requires : goal.index_mut-requires
index_mut-requires c =
    let table : Table = record { height = c.self.inside.height; width = c.self.inside.width; marks = c.self.inside.marks.items } in
    let same = c.self.view_is ∙ c.in-Some.ensures.same in
    let waits = subst (λ (t : Table). slice_get t.marks c.in-Some.place ≡ Some Waiting) (sym same) c.in-Some.ensures.some in
    omega (arith, inside table c.self.invariant c.in-Some.place waits, c.self.inside.marks.ok.0)

pub nonzero_div-result : goal.nonzero_div-result
nonzero_div-result c =
    let table : Table = record { height = c.self.inside.height; width = c.self.inside.width; marks = c.self.inside.marks.items } in
    let same = c.self.view_is ∙ c.in-Some.ensures.same in
    let waits = subst (λ (t : Table). slice_get t.marks c.in-Some.place ≡ Some Waiting) (sym same) c.in-Some.ensures.some in
    omega (arith, wide table c.self.invariant c.in-Some.place waits)

pub overflow_cast-result : goal.overflow_cast-result
overflow_cast-result c =
    let table : Table = record { height = c.self.inside.height; width = c.self.inside.width; marks = c.self.inside.marks.items } in
    let same = c.self.view_is ∙ c.in-Some.ensures.same in
    let waits = subst (λ (t : Table). slice_get t.marks c.in-Some.place ≡ Some Waiting) (sym same) c.in-Some.ensures.some in
    let within = is_in table c.self.invariant c.in-Some.place waits in
    omega (arith, within.first, c.self.invariant.low)

pub overflow_cast-result-2 : goal.overflow_cast-result-2
overflow_cast-result-2 c =
    let table : Table = record { height = c.self.inside.height; width = c.self.inside.width; marks = c.self.inside.marks.items } in
    let same = c.self.view_is ∙ c.in-Some.ensures.same in
    let waits = subst (λ (t : Table). slice_get t.marks c.in-Some.place ≡ Some Waiting) (sym same) c.in-Some.ensures.some in
    let within = is_in table c.self.invariant c.in-Some.place waits in
    omega (arith, within.second, c.self.invariant.narrow)

pub invariant_of-self : goal.invariant_of-self
invariant_of-self c =
    let table : Table = record { height = c.self.inside.height; width = c.self.inside.width; marks = c.self.inside.marks.items } in
    table_with table c.self.invariant c.in-Some.place Taken

pub returns-clause-some : goal.returns-clause-some
returns-clause-some c =
    let table : Table = record { height = c.self.inside.height; width = c.self.inside.width; marks = c.self.inside.marks.items } in
    let same = c.self.view_is ∙ c.in-Some.ensures.same in
    let waits = subst (λ (t : Table). slice_get t.marks c.in-Some.place ≡ Some Waiting) (sym same) c.in-Some.ensures.some in
    let pair : ℕ × ℕ = (c.in-Some.place / c.self.inside.width, c.in-Some.place % c.self.inside.width) in
    subst (λ (t : Table). TakesOne t (with_mark table c.in-Some.place Taken) pair) same (takes_one table c.self.invariant c.in-Some.place waits)

pub returns-in_default-clause-none : goal.returns-in_default-clause-none
returns-in_default-clause-none c = subst (λ (t : Table). (pair : ℕ × ℕ) → IsMarked t pair → IsTaken t pair) (sym c.in_default.ensures.same) (all_taken c.args.self.now c.in_default.ensures.table c.in_default.ensures.none)
