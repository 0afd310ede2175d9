use Rattle.std.proofs.Common.{◌≡◌, ◌+◌, ◌++◌, ◌∷◌, [], take, map, sym, ap, ◌∙◌, subst, arith}
use Rattle.std.proofs.lemmas.List.{take_more, take_all, map-append}
use Rattle.ranked_terms.specs.Terms.{config_of}
use Rattle.ranked_terms.specs.declared.term.Term.TheViews.{out-Term}
use Rattle.ranked_terms.specs.declared.term.Config.{App}
use Rattle.ta_core.specs.Reached.{EntersAndReaches}
use Rattle.ta_core.specs.Runs.{Runs}
use Rattle.ta_core.specs.lemmas.RunStates.{AreExact, exact_more, exact_by, runs_of_app, config_is}
use Rattle.ta_core.proofs.automaton.Automaton.+reached_by_term.Goals as goal

pub loop-arg-preserved : goal.loop-arg-preserved
loop-arg-preserved t c =
    let A = c.args.self.now in
    let items = c.as_slice-arg-items.result.now in
    let i = c.loop-arg.arg-index in
    let arg = c.arg-item.result in
    let cs = map config_of (take i items) in
    let more : map config_of (take (i + 1) items) ≡ cs ++ config_of arg ∷ [] = ap (map config_of) (take_more items i arg c.loop-arg-test.true ∙ ap (λ x. take i items ++ x ∷ []) (sym c.arg-item.is)) ∙ map-append config_of (take i items) (arg ∷ []) in
    let both = exact_more A cs c.loop-arg.sets.items (config_of arg) c.in_ok-reached_by_term.field-0 c.loop-arg.invariant c.in_ok-reached_by_term.ensures in
    subst (λ cs. AreExact A cs c.push.new.self.items) (sym more) (subst (AreExact A (cs ++ config_of arg ∷ [])) (sym c.in_ok-push.ensures.items) both)

pub returns : goal.returns
returns t c =
    let A = c.args.self.now in
    let layer = out-Term c.args.term.now in
    let items = c.as_slice-arg-items.result.now in
    let sets = c.loop-arg.sets.items in
    let cs = map config_of layer.args in
    let whole = ap (map config_of) (take_all c.loop-arg.arg-index items (omega (arith, c.loop-arg-test.false)) ∙ c.as_slice-arg-items.ensures) in
    let exact = subst (λ cs. AreExact A cs sets) whole c.loop-arg.invariant in
    rw (config_is c.args.term.now)
    (exact_by (EntersAndReaches A layer.sym sets) (Runs A (App layer.sym cs)) (runs_of_app A layer.sym cs sets exact) c.reached_at.result (rw c.deref.ensures.value at c.reached_at.ensures))
