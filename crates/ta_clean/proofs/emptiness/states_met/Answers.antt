use Rattle.std.proofs.Common.{ℕ, Vec, Global, Contains, ◌↔◌}
use Rattle.std.proofs.lemmas.Result.{IfOk-weaker}
use Rattle.ta_core.specs.Meeting.{Meets}
use Rattle.ta_clean.proofs.languages.AllTerms.{HasMarked, met_by}
use Rattle.ta_clean.proofs.emptiness.states_met.Goals as goal

pub returns : goal.returns
returns c =
    let A = c.args.automaton.now in let U = c.args.other.now in let table = c.mark.new.self.table in
    IfOk-weaker c.marked_states.result
    (λ (states : Vec ℕ Global). HasMarked table c.states.result.now states.items)
    (λ (states : Vec ℕ Global). (q : ℕ) → Contains states.items q ↔ (Contains A.states q × Meets A U (q, 0)))
    (λ states h. met_by A U table c.states.result.now states.items c.mark.ensures.exact c.states.ensures.value h) c.marked_states.ensures
