use Rattle.std.proofs.Common.{◌↔◌, ℕ, Contains}
use Rattle.std.proofs.lemmas.Result.{IfOk-weaker}
use Rattle.state_match.specs.Kepts.{RunsFrom}
use Rattle.state_match.proofs.renew.node_states.Goals as goal

pub returns : goal.returns
returns c =
    IfOk-weaker c.listed_if.result _ (λ set. (q : ℕ) → Contains set q ↔ RunsFrom c.args.automaton.now c.args.assignment.now c.args.values.now c.args.node.now.source q)
    (λ set same q. (λ i. (c.in_ok-set.ensures q).0 ((same q).0 i), λ r. (same q).1 ((c.in_ok-set.ensures q).1 r))) c.listed_if.ensures
