use Rattle.std.proofs.Common.{◌≡◌, ◌+◌, ◌++◌, ◌∷◌, [], take, sym, ap, ◌∙◌, subst, arith}
use Rattle.std.proofs.lemmas.List.{take_more, take_all}
use Rattle.std.specs.List.{Contains}
use Rattle.ranked_terms.specs.declared.term.Config.{State, App}
use Rattle.ta_core.specs.Reached.{HasTransInto}
use Rattle.ta_core.specs.Runs.{RunsPlain}
use Rattle.ta_core.specs.lemmas.PlainRuns.{ArePlain, plain_more, plain_of_app, plain_of_state}
use Rattle.ta_core.specs.lemmas.RunStates.{exact_by}
use Rattle.ta_core.proofs.automaton.Automaton.+reached_plainly.Goals as goal

pub loop-arg-preserved : goal.loop-arg-preserved
loop-arg-preserved t c =
    let A = c.args.self.now in
    let items = c.as_slice-arg-items.result.now in
    let i = c.loop-arg.arg-index in
    let arg = c.arg-item.result in
    let more : take (i + 1) items ≡ take i items ++ arg ∷ [] = take_more items i arg c.loop-arg-test.true ∙ ap (λ x. take i items ++ x ∷ []) (sym c.arg-item.is) in
    let both = plain_more A (take i items) c.loop-arg.sets.items arg c.in_ok-reached_plainly-in-App.field-0 c.loop-arg.invariant c.in_ok-reached_plainly-in-App.ensures in
    subst (λ cs. ArePlain A cs c.push.new.self.items) (sym more) (subst (ArePlain A (take i items ++ arg ∷ [])) (sym c.in_ok-push-in-App.ensures.items) both)

pub returns-after-loop-arg : goal.returns-after-loop-arg
returns-after-loop-arg t c =
    let A = c.args.self.now in
    let sym' = c.in-App.sym in
    let args = c.in-App.args in
    let sets = c.loop-arg.sets.items in
    let whole = take_all c.loop-arg.arg-index c.as_slice-arg-items.result.now (omega (arith, c.loop-arg-test.false)) ∙ c.as_slice-arg-items.ensures in
    let exact = subst (λ cs. ArePlain A cs sets) whole c.loop-arg.invariant in
    rw c.in-App.is
    (exact_by (HasTransInto A.trans sym' sets) (RunsPlain A (App sym' args)) (plain_of_app A sym' args sets exact) c.targets_of.result (rw c.deref.ensures.value at c.targets_of.ensures.exact))

pub returns-in-State : goal.returns-in-State
returns-in-State t c =
    let A = c.args.self.now in
    rw c.in-State.is (exact_by (λ q. (c.in-State.state ≡ q) × Contains A.states q) (RunsPlain A (State c.in-State.state)) (plain_of_state A c.in-State.state) c.state_alone.result c.state_alone.ensures)
