use Rattle.std.proofs.Common.{◌≡◌, ◌∙◌, ◌+◌, take, Some, refl, sym, subst}
use Rattle.std.specs.Prelude.{◌↔◌}
use Rattle.ranked_terms.specs.declared.term.Term.{Term}
use Rattle.trs_rules.specs.Steps.{StepAt}
use Rattle.trs_rules.specs.Derivations.{AreStepsUpTo}
use Rattle.trs_rules.proofs.steps.SuccessorLaws.{passed, stepped}
use Rattle.trs_rules.proofs.successor.add_steps.Goals as goal
use Rattle.trs_rules.proofs.successor.add_steps.Goals.{in-Some+in_ok-at+in_ok-push, in_default}

pub loop-at-preserved : goal.loop-at-preserved
loop-at-preserved c =
    let R = c.args.rules.now in let t = c.args.t.now in let rule = c.args.rule in let positions = c.args.positions.now in let i = c.loop-at.at-index in
    let at = c.at-item.result in let old = c.loop-at.found in
    elim c.match-branch-2.branch [
      | in-Some+in_ok-at+in_ok-push w ↦
          let one = λ (u : Term). subst (λ o. (o ≡ Some u) ↔ StepAt R rule at t u) w.in-Some.is (c.in_ok-term.ensures u) in
          stepped R t rule positions i at old c.match-branch-2.found c.requires.ascend c.loop-at-test.true c.at-item.is c.loop-at.invariant
          (record { rule = rule; at = w.in_ok-at.at; term = w.in-Some.term }) refl (w.in_ok-at.ensures ∙ w.as_slice.ensures) one (w.found-is ∙ w.in_ok-push.ensures.ok)
      | in_default w ↦
          let none = λ (u : Term). subst (λ o. (o ≡ Some u) ↔ StepAt R rule at t u) w.in_default.is (c.in_ok-term.ensures u) in
          subst (AreStepsUpTo R t rule (take (i + 1) positions)) (sym w.found-is) (passed R t rule positions i at old old c.requires.ascend c.loop-at-test.true c.at-item.is c.loop-at.invariant none)
    ]
