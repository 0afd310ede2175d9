use Rattle.std.proofs.Common.{◌≡◌, ◌||◌, ◌+◌, length, sym, ap, ◌∙◌}
use Rattle.std.specs.Prelude.{nat_lt}
use Rattle.spec_text.specs.Declarations.{has}
use Rattle.timbuk_reader.proofs.keeping.Approximation.{has_any, room_is}
use Rattle.timbuk_reader.proofs.state.Reader.has_room.Goals as goal
use Rattle.timbuk_reader.proofs.state.Reader.has_room.Goals.{then-is_bound, else-is_bound}

pub returns-then-contains : goal.returns-then-contains
returns-then-contains c =
    let bound = c.args.self.now.bound in
    let own = c.args.own.now in
    let v = c.args.variable in
    let seen : c.if-is_bound.value ≡ (has bound v || has own v) =
    elim c.if-is_bound.branch [
      | then-is_bound w ↦ w.value-is ∙ w.if-is_bound.true ∙ sym (ap (λ b. b || has own v) (sym c.is_bound.ensures ∙ w.if-is_bound.true))
      | else-is_bound w ↦ w.value-is ∙ w.contains.ensures ∙ sym (has_any own v) ∙ sym (ap (λ b. b || has own v) (sym c.is_bound.ensures ∙ w.if-is_bound.false))
    ] in
    c.if-contains.true ∙ sym (ap (λ b. b || nat_lt (length bound + length own) 16) c.if-contains.true) ∙ room_is bound own v c.if-is_bound.value seen

pub returns-else-contains : goal.returns-else-contains
returns-else-contains c =
    let bound = c.args.self.now.bound in
    let own = c.args.own.now in
    let v = c.args.variable in
    let seen : c.if-is_bound.value ≡ (has bound v || has own v) =
    elim c.if-is_bound.branch [
      | then-is_bound w ↦ w.value-is ∙ w.if-is_bound.true ∙ sym (ap (λ b. b || has own v) (sym c.is_bound.ensures ∙ w.if-is_bound.true))
      | else-is_bound w ↦ w.value-is ∙ w.contains.ensures ∙ sym (has_any own v) ∙ sym (ap (λ b. b || has own v) (sym c.is_bound.ensures ∙ w.if-is_bound.false))
    ] in
    ap (λ n. nat_lt (n + length own) 16) c.len.ensures
    ∙ sym (ap (λ b. b || nat_lt (length bound + length own) 16) c.if-contains.false) ∙ room_is bound own v c.if-is_bound.value seen
