use Rattle.std.proofs.Common.{◌≡◌, ◌↔◌, Contains, true≢false, ap, subst, sym, ◌∙◌, arith}
use Rattle.closure_check.specs.Marking.{Marked}
use Rattle.reach_rows.specs.Paths.{IsInRow}
use Rattle.closure_check.proofs.sets.MarkLists.{marks_unlisted, members_has, members_hold, row_of}
use Rattle.closure_check.proofs.marks.Marks.join_rows.Goals as goal

pub join_rows-requires-clause-room : goal.join_rows-requires-clause-room
join_rows-requires-clause-room c p q i h =
    let list = c.as_slice.ensures.value ∙ ap (λ (m : Marked). m.list) c.self.view_is in
    let member = (c.enlist.ensures.list p).0 (subst (λ xs. Contains xs p) list i) in
    omega (arith, c.requires.room p q member h, c.enlist.ensures.size, ap (λ (m : Marked). m.size) c.self.view_is, c.clear.ensures.length, c.self.invariant.0.wide)

pub invariant_of-self : goal.invariant_of-self
invariant_of-self c = (
  marks_unlisted _ _ _ _ (c.join_rows.ensures.length ∙ (c.clear.ensures.length ∙ c.self.invariant.0.wide)) c.clear-2.ensures.items (λ e. absurd (true≢false (sym e))),
  omega (arith, c.self.invariant.1, c.clear-2.ensures.capacity),
  c.self.invariant.2,
)

pub returns-clause-members : goal.returns-clause-members
returns-clause-members c q =
    let rows = c.args.reach.now.rows in
    let list = c.as_slice.ensures.value ∙ ap (λ (m : Marked). m.list) c.self.view_is in
    let row : IsInRow rows c.as_slice.result.now q ↔ IsInRow rows c.args.self.now.members q = row_of rows c.as_slice.result.now c.args.self.now.members (λ p. (λ i. (c.enlist.ensures.list p).0 (subst (λ xs. Contains xs p) list i), λ i. subst (λ xs. Contains xs p) (sym list) ((c.enlist.ensures.list p).1 i))) q in
    let size : c.self.inside.size ≡ c.args.self.now.size = ap (λ (m : Marked). m.size) c.self.view_is ∙ c.enlist.ensures.size in (
      λ i. row.0 ((c.join_rows.ensures.members q).0 (members_has c.join_rows.new.bits c.self.inside.size q i).1),
      λ h. members_hold c.join_rows.new.bits c.self.inside.size q (omega (arith, c.requires.room h.from q h.member h.has, size)) ((c.join_rows.ensures.members q).1 (row.1 h)),
    )
