use Rattle.std.proofs.Common.{ℕ, List, Contains, ◌↔◌}
use Rattle.std.proofs.lemmas.Result.{IfOk-weaker}
use Rattle.ta_clean.specs.Productive.{IsProductive}
use Rattle.ta_clean.proofs.emptiness.productive.Goals as goal

pub returns : goal.returns
returns c =
    let states = c.in_ok-states.states.items in
    IfOk-weaker c.from_states.result (λ (all : List ℕ). (q : ℕ) → Contains all q ↔ Contains states q) (λ all. (q : ℕ) → Contains all q ↔ IsProductive c.args.automaton.now q)
    (λ all h q. (λ i. (c.in_ok-states.ensures q).0 ((h q).0 i), λ p. (h q).1 ((c.in_ok-states.ensures q).1 p))) c.from_states.ensures
