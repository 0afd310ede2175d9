use Rattle.std.proofs.Common.{List, ℕ, Vec, Global, Contains, ◌↔◌, subst}
use Rattle.std.proofs.lemmas.Result.{IfOk-weaker}
use Rattle.ta_core.specs.declared.trans.Trans.{Trans}
use Rattle.ta_core.specs.Meeting.{Meets}
use Rattle.ta_clean.specs.Productive.{HasAllTerms, IsProductive}
use Rattle.ta_clean.proofs.languages.AllTerms.{productive_by}
use Rattle.ta_clean.proofs.emptiness.productive_states.Goals as goal

pub returns : goal.returns
returns c =
    let A = c.args.automaton.now in let U = c.in_ok-all.all in
    let has = subst (λ (ts : List Trans). HasAllTerms ts U) c.trans.ensures.value c.in_ok-all.ensures in
    IfOk-weaker c.states_met.result
    (λ (states : Vec ℕ Global). (q : ℕ) → Contains states.items q ↔ (Contains A.states q × Meets A U (q, 0)))
    (λ (states : Vec ℕ Global). (q : ℕ) → Contains states.items q ↔ IsProductive A q)
    (λ states h. productive_by A U has states.items c.trans.ensures.sound h) c.states_met.ensures
