use Rattle.std.proofs.Common.{◌≡◌, [], ◌∷◌, take, None, sym, ap, ◌∙◌}
use Rattle.ranked_terms.specs.Matching.{filled, lookup}
use Rattle.ranked_terms.proofs.bindings.MatchingLaws.{filled_found, filled_passed, filled_empty, filled_other}
use Rattle.ranked_terms.proofs.binding.Binding.get.Goals as goal
use Rattle.ranked_terms.proofs.binding.Binding.get.Goals.{in-Some+else-bound-variable, in_default}

pub returns-then-bound-variable : goal.returns-then-bound-variable
returns-then-bound-variable c =
    sym (ap (λ b. lookup b c.args.variable) (sym c.self.view_is) ∙ filled_found _ c.loop-slot.slot-index c.args.variable c.in-Some.bound c.in-Some.t c.slot-item.result c.loop-slot-test.true c.loop-slot.invariant c.if-bound-variable.true c.slot-item.is c.in-Some.is)

pub loop-slot-preserved : goal.loop-slot-preserved
loop-slot-preserved c =
    let xs = take c.self.inside.len c.self.inside.slots in
    let passed : lookup (filled (c.slot-item.result ∷ [])) c.args.variable ≡ None = elim c.match-slot.branch [
      | in-Some+else-bound-variable w ↦ filled_other c.args.variable w.in-Some.bound w.in-Some.t c.slot-item.result w.in-Some.is w.if-bound-variable.false
      | in_default w ↦ filled_empty c.args.variable c.slot-item.result w.in_default.is
    ] in
    filled_passed xs c.loop-slot.slot-index c.args.variable c.slot-item.result c.loop-slot-test.true c.loop-slot.invariant c.slot-item.is passed
