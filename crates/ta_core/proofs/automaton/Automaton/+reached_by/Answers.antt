use Rattle.std.proofs.Common.{◌≡◌, ◌+◌, ◌++◌, ◌∷◌, [], take, sym, ap, ◌∙◌, subst, arith}
use Rattle.std.proofs.lemmas.List.{take_more, take_all}
use Rattle.ranked_terms.specs.declared.term.Config.{App}
use Rattle.ta_core.specs.Reached.{EntersAndReaches}
use Rattle.ta_core.specs.Runs.{Runs}
use Rattle.ta_core.specs.lemmas.RunStates.{AreExact, exact_more, exact_by, runs_of_app}
use Rattle.ta_core.proofs.automaton.Automaton.+reached_by.Goals as goal

pub loop-arg-preserved : goal.loop-arg-preserved
loop-arg-preserved t c =
    let A = c.args.self.now in
    let items = c.as_slice-arg-items.result.now in
    let i = c.loop-arg.arg-index in
    let arg = c.arg-item.result in
    let more : take (i + 1) items ≡ take i items ++ arg ∷ [] = take_more items i arg c.loop-arg-test.true ∙ ap (λ x. take i items ++ x ∷ []) (sym c.arg-item.is) in
    let both = exact_more A (take i items) c.loop-arg.sets.items arg c.in_ok-reached_by-in-App.field-0 c.loop-arg.invariant c.in_ok-reached_by-in-App.ensures in
    subst (λ cs. AreExact A cs c.push.new.self.items) (sym more) (subst (AreExact A (take i items ++ arg ∷ [])) (sym c.in_ok-push-in-App.ensures.items) both)

pub returns-after-loop-arg : goal.returns-after-loop-arg
returns-after-loop-arg t c =
    let A = c.args.self.now in
    let sym' = c.in-App.sym in
    let args = c.in-App.args in
    let sets = c.loop-arg.sets.items in
    let whole = take_all c.loop-arg.arg-index c.as_slice-arg-items.result.now (omega (arith, c.loop-arg-test.false)) ∙ c.as_slice-arg-items.ensures in
    let exact = subst (λ cs. AreExact A cs sets) whole c.loop-arg.invariant in
    rw c.in-App.is
    (exact_by (EntersAndReaches A sym' sets) (Runs A (App sym' args)) (runs_of_app A sym' args sets exact) c.reached_at.result (rw c.deref.ensures.value at c.reached_at.ensures))
