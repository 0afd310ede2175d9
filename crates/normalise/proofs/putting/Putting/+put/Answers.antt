use Rattle.std.proofs.Common.{◌≡◌, suc, ◌+◌, [], ◌∷◌, ◌++◌, take, drop, refl, sym, ap, subst, inl, ◌∙◌, arith, rules}
use Rattle.std.specs.List.{All, Contains}
use Rattle.std.specs.Result.{IsErrOf}
use Rattle.std.proofs.lemmas.List.{take_more, take_all}
use Rattle.std.proofs.lemmas.List.Elements.{All-nil, All-push, All-weaker}
use Rattle.ranked_terms.specs.declared.term.Config.TheVariants as config
use Rattle.normalise.specs.Normalising.{PutsAll}
use Rattle.normalise.specs.AtWork.{HasStates, PutNeedsMore, NodeNeedsMore}
use Rattle.normalise.specs.declared.pairs.NormError.TheVariants.{Full}
use Rattle.normalise.proofs.Parts.{of_state, of_argument, argument_less}
use Rattle.normalise.proofs.PutSteps.{put_more, put_state, put_node_ok, stays_on, last_needs, node_needs, targets_on, parts_at}
use Rattle.normalise.proofs.Stays.{put_grown, all_grown}
use Rattle.normalise.proofs.putting.Putting.+put.Goals as goal

pub loop-arg-init : goal.loop-arg-init
loop-arg-init t c = record {
  puts = subst (λ qs. PutsAll c.args.self.now.task c.args.growing.now [] qs c.args.growing.now) (sym c.new-states.ensures.items) PutsAll.none;
  stand = subst (All (Contains c.args.growing.now.states)) (sym c.new-states.ensures.items) (All-nil (Contains c.args.growing.now.states));
  within = inl refl;
}

pub put-requires : goal.put-requires
put-requires t c =
    let job = c.args.self.now in
    let items = c.as_slice-arg-items.result.now in
    let grown = all_grown c.loop-arg.invariant.puts in
    let P = Contains c.args.growing.now.states in
    let Q = Contains c.loop-arg.growing.states in
    let is : Contains items c.arg-item.result = (c.loop-arg.arg-index, c.loop-arg-test.true, sym c.arg-item.is) in
    let of = subst (λ xs. Contains xs c.arg-item.result) c.as_slice-arg-items.ensures is in
    let less = argument_less c.in-App.sym c.in-App.args c.arg-item.result c.args.part.now c.in-App.is of in
    let states : HasStates c.loop-arg.growing c.arg-item.result =
    of_argument P Q c.in-App.sym c.in-App.args c.arg-item.result (λ q i. grown.within.states q i) (subst (HasStates c.args.growing.now) c.in-App.is c.requires.states) of in
    (omega (arith, c.decreases, less), (states, (targets_on job.task c.args.growing.now c.loop-arg.growing grown c.requires.targets, c.requires.few)))

pub returns-in_err-put-in-App-clause-full : goal.returns-in_err-put-in-App-clause-full
returns-in_err-put-in-App-clause-full t c = λ e.
    let job = c.args.self.now in
    let items = c.as_slice-arg-items.result.now in
    let i = c.loop-arg.arg-index in
    let arg = c.arg-item.result in
    let full : IsErrOf c.put.result Full = search (rules, c.in_err-put-in-App.was, c.from_residual.ensures.1, e) in
    let needs = node_needs job.task job.most c.args.growing.now c.loop-arg.growing c.in-App.sym (take i items) (drop (suc i) items) arg c.loop-arg.states.items
    c.loop-arg.invariant.puts (c.put.ensures.full full) in
    let whole : take i items ++ arg ∷ drop (suc i) items ≡ c.in-App.args = parts_at items i arg c.loop-arg-test.true (sym c.arg-item.is) ∙ c.as_slice-arg-items.ensures in
    subst (PutNeedsMore job.task job.most c.args.growing.now) (sym c.in-App.is)
    (subst (λ cs. PutNeedsMore job.task job.most c.args.growing.now (config.App c.in-App.sym cs)) whole needs)

pub loop-arg-preserved : goal.loop-arg-preserved
loop-arg-preserved t c =
    let job = c.args.self.now in
    let items = c.as_slice-arg-items.result.now in
    let i = c.loop-arg.arg-index in
    let arg = c.arg-item.result in
    let old = c.loop-arg.growing in
    let new = c.put.new.growing in
    let q = c.in_ok-put-in-App.field-0 in
    let more : take (i + 1) items ≡ take i items ++ arg ∷ [] = take_more items i arg c.loop-arg-test.true ∙ ap (λ x. take i items ++ x ∷ []) (sym c.arg-item.is) in
    record {
      puts = subst (λ qs. PutsAll job.task c.args.growing.now (take (i + 1) items) qs new) (sym c.in_ok-push-in-App.ensures.items)
          (subst (λ cs. PutsAll job.task c.args.growing.now cs (c.loop-arg.states.items ++ q ∷ []) new) (sym more)
          (put_more c.loop-arg.invariant.puts c.in_ok-put-in-App.ensures.ok));
      stand = subst (All (Contains new.states)) (sym c.in_ok-push-in-App.ensures.items)
          (All-push (Contains new.states) c.loop-arg.states.items q
          (All-weaker (Contains old.states) (Contains new.states) (λ r i. (put_grown c.in_ok-put-in-App.ensures.ok).within.states r i) c.loop-arg.states.items c.loop-arg.invariant.stand)
          c.in_ok-put-in-App.ensures.state);
      within = stays_on job.most c.args.growing.now old new c.loop-arg.invariant.within c.in_ok-put-in-App.ensures.within;
    }

pub goes-requires-clause-args : goal.goes-requires-clause-args
goes-requires-clause-args t c = subst (All (Contains c.loop-arg.growing.states)) (sym c.deref.ensures.value) c.loop-arg.invariant.stand

pub goes-requires-clause-targets : goal.goes-requires-clause-targets
goes-requires-clause-targets t c = targets_on c.args.self.now.task c.args.growing.now c.loop-arg.growing (all_grown c.loop-arg.invariant.puts) c.requires.targets

pub returns-in-State-clause-ok : goal.returns-in-State-clause-ok
returns-in-State-clause-ok t c = rw c.in-State.is (put_state c.args.self.now.task c.args.growing.now c.in-State.state)

pub returns-in-State-clause-state : goal.returns-in-State-clause-state
returns-in-State-clause-state t c = of_state (Contains c.args.growing.now.states) c.in-State.state (subst (HasStates c.args.growing.now) c.in-State.is c.requires.states)

pub returns-after-loop-arg-clause-ok : goal.returns-after-loop-arg-clause-ok
returns-after-loop-arg-clause-ok t c =
    let job = c.args.self.now in
    let whole = take_all c.loop-arg.arg-index c.as_slice-arg-items.result.now (omega (arith, c.loop-arg-test.false)) ∙ c.as_slice-arg-items.ensures in
    let all = subst (λ cs. PutsAll job.task c.args.growing.now cs c.loop-arg.states.items c.loop-arg.growing) whole c.loop-arg.invariant.puts in
    rw c.in-App.is
    (put_node_ok job.task c.args.growing.now c.loop-arg.growing c.goes.new.growing c.in-App.sym c.in-App.args c.loop-arg.states.items c.goes.result all
    (rw c.deref.ensures.value at c.goes.ensures.ok))

pub returns-after-loop-arg-clause-full : goal.returns-after-loop-arg-clause-full
returns-after-loop-arg-clause-full t c = λ e.
    let job = c.args.self.now in
    let whole = take_all c.loop-arg.arg-index c.as_slice-arg-items.result.now (omega (arith, c.loop-arg-test.false)) ∙ c.as_slice-arg-items.ensures in
    let all = subst (λ cs. PutsAll job.task c.args.growing.now cs c.loop-arg.states.items c.loop-arg.growing) whole c.loop-arg.invariant.puts in
    let needs = subst (NodeNeedsMore job.task job.most c.loop-arg.growing c.in-App.sym) c.deref.ensures.value (c.goes.ensures.full e) in
    subst (PutNeedsMore job.task job.most c.args.growing.now) (sym c.in-App.is)
    (last_needs job.task job.most c.args.growing.now c.loop-arg.growing c.in-App.sym c.in-App.args c.loop-arg.states.items all needs)
