use Rattle.std.proofs.Common.{◌↔◌, ◌+◌, ◌∙◌, List, ℕ, Contains, length, get_or, sym, ap, subst, arith}
use Rattle.std.proofs.lemmas.List.{length-set}
use Rattle.state_match.specs.Kepts.{RunsFrom}
use Rattle.state_match.proofs.members.KeptTables.{no_node, node_at, ends_before}
use Rattle.state_match.proofs.members.Kepts.{RenewsTo, renews_skip, renews_set}
use Rattle.state_match.specs.declared.nodes.Node.{Node}
use Rattle.state_match.proofs.renew.renew.Goals as goal
use Rattle.state_match.proofs.renew.renew.Goals.{then-node-staying+in_ok-states, else-node-staying}

pub node_states-requires-clause-within : goal.node_states-requires-clause-within
node_states-requires-clause-within c =
    let below = ends_before c.args.nodes.now c.loop-place.place c.loop-place-test.true c.requires.table in
    omega (arith, below, ap (λ (xs : List (List ℕ)). length xs) c.as_slice.ensures.value, c.loop-place.invariant.0, c.loop-place-test.true)

pub loop-place-preserved : goal.loop-place-preserved
loop-place-preserved c =
    let A = c.args.automaton.now in
    let σ = c.args.assignment.now in
    let nodes : List Node = c.args.nodes.now in
    let k = c.loop-place.place in
    let n : Node = get_or nodes k no_node in
    elim c.if-node-staying.branch [
      | then-node-staying+in_ok-states w ↦ (
        ap (λ v. length v.items) w.values-is ∙ (ap (λ (xs : List (List ℕ)). length xs) w.replace.ensures ∙ (length-set c.loop-place.values.items k w.in_ok-states.states ∙ c.loop-place.invariant.0)),
        renews_set A σ c.args.staying nodes c.args.values.now.items k c.loop-place.values.items c.if-node-staying.values.items n w.in_ok-states.states c.loop-place-test.true (node_at nodes k c.loop-place-test.true)
            (subst (λ (vs : List (List ℕ)). (q : ℕ) → Contains w.in_ok-states.states q ↔ RunsFrom A σ vs n.source q) w.as_slice.ensures.value w.in_ok-states.ensures)
            (ap (λ v. v.items) w.values-is ∙ w.replace.ensures) c.loop-place.invariant.1,
      )
      | else-node-staying w ↦ (
        ap (λ v. length v.items) w.values-is ∙ c.loop-place.invariant.0,
        subst (RenewsTo A σ c.args.staying nodes c.args.values.now.items (k + 1)) (sym (ap (λ v. v.items) w.values-is))
            (renews_skip A σ c.args.staying nodes c.args.values.now.items k c.loop-place.values.items n c.loop-place-test.true (node_at nodes k c.loop-place-test.true) w.if-node-staying.false c.loop-place.invariant.1),
      )
    ]
