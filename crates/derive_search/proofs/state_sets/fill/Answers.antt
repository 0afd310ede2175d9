use Rattle.std.proofs.Common.{ℕ, ◌↔◌, ◌<◌, ◌+◌, ◌∷◌, [], length, sym, ap, subst, ◌∙◌, arith, length-append}
use Rattle.std.specs.List.{Contains}
use Rattle.ranked_terms.specs.Terms.{config_of}
use Rattle.ta_core.specs.Runs.{Runs}
use Rattle.term_store.specs.Store.{term_at}
use Rattle.derive_search.specs.StateSets.{AreStateSets}
use Rattle.derive_search.proofs.StateSetLaws.{set_more}
use Rattle.derive_search.proofs.state_sets.fill.Goals as goal

pub states_of-requires-clause-args : goal.states_of-requires-clause-args
states_of-requires-clause-args c = omega (arith, ap length c.as_slice.ensures.value, c.loop-id.invariant.1)

pub loop-id-preserved : goal.loop-id-preserved
loop-id-preserved c =
    let A = c.args.automaton.now in let terms = c.args.store.now in let sets = c.loop-id.sets.items in let set = c.in_ok-set.set in
    let within : length sets < length terms = omega (arith, c.loop-id.invariant.1, c.loop-id-test.true, c.len-id-end.ensures.len) in (
      subst (AreStateSets A terms) (sym c.in_ok-push.ensures.items)
          (set_more A terms sets c.loop-id.invariant.0 set within (subst (λ i. (q : ℕ) → Contains set q ↔ Runs A (config_of (term_at terms i)) q) (sym c.loop-id.invariant.1) c.in_ok-set.ensures)),
      ap length c.in_ok-push.ensures.items ∙ (length-append sets (set ∷ []) ∙ ap (λ n. n + 1) c.loop-id.invariant.1),
    )

pub returns-clause-all : goal.returns-clause-all
returns-clause-all c = omega (arith, c.loop-id.invariant.0.few, c.loop-id.invariant.1, c.loop-id-test.false, c.len-id-end.ensures.len)
