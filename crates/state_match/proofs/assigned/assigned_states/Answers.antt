use Rattle.std.proofs.Common.{ℕ, ◌↔◌, Contains}
use Rattle.std.proofs.lemmas.Result.{IfOk-weaker}
use Rattle.ranked_terms.specs.Terms.{assigned}
use Rattle.ta_core.specs.Closure.{state_in}
use Rattle.ta_core.specs.Runs.{Runs}
use Rattle.state_match.proofs.assigned.assigned_states.Goals as goal

pub returns : goal.returns
returns c =
    IfOk-weaker c.into_set.result _ (λ found. (q : ℕ) → Contains found q ↔ Runs c.args.automaton.now (assigned (state_in c.args.vars.now c.args.states.now) c.args.pattern.now) q)
    (λ found same q. (λ i. (c.in_ok-found.ensures q).0 ((same q).0 i), λ r. (same q).1 ((c.in_ok-found.ensures q).1 r))) c.into_set.ensures
