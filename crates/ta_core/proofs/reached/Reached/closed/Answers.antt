use Rattle.std.proofs.Common.{◌<◌, sym, ◌∙◌, arith}
use Rattle.std.proofs.lemmas.Option.{slice_get_within}
use Rattle.ta_core.specs.lemmas.ReachedSets.{closing_starts, closing_more, closing_ends, few_states}
use Rattle.list_laws.proofs.Growing.{past_end}
use Rattle.ta_core.proofs.reached.Reached.closed.Goals as goal

pub loop-state-init : goal.loop-state-init
loop-state-init c = closing_starts c.args.automaton.now c.args.self c.requires

-- the next member is below the bound
at_below : (c : goal.In_ok-add_targets) → c.loop-state.at < c.args.automaton.now.next
at_below c =
    let A = c.args.automaton.now in
    let set = c.loop-state.self in
    let end = slice_get_within set c.loop-state.at c.in-Some.state (sym c.get.ensures.value ∙ c.in-Some.is) in
    omega (arith, end, few_states A c.args.self set c.loop-state.at c.loop-state.invariant c.eps_from.ensures.sound c.get.ensures.distinct)

pub overflow_add-at : goal.overflow_add-at
overflow_add-at c = omega (arith, at_below c, c.eps_from.ensures.few)

pub loop-state-smaller : goal.loop-state-smaller
loop-state-smaller c = omega (arith, at_below c)

pub loop-state-preserved : goal.loop-state-preserved
loop-state-preserved c =
    let targets = c.in_ok-add_targets.ensures in
    closing_more c.args.automaton.now c.args.self c.loop-state.self c.loop-state.at c.loop-state.invariant c.eps_from.ensures.sound c.in-Some.state c.eps_from.result.now c.add_targets.new.self
    (sym c.get.ensures.value ∙ c.in-Some.is) c.eps_from.ensures.members targets.members targets.kept

pub returns : goal.returns
returns c =
    closing_ends c.args.automaton.now c.args.self c.loop-state.self c.loop-state.at c.loop-state.invariant (past_end c.loop-state.self c.loop-state.at (sym c.get.ensures.value ∙ c.in_default.is))
