use Rattle.std.proofs.Common.{◌↔◌, ℕ, Contains, subst}
use Rattle.std.proofs.lemmas.Result.{IfOk-weaker}
use Rattle.ranked_terms.specs.Terms.{assigned}
use Rattle.ta_core.specs.TreeAutomaton.{TreeAutomaton}
use Rattle.ta_core.specs.Closure.{state_in}
use Rattle.ta_core.specs.Runs.{Runs}
use Rattle.state_match.proofs.matcher.Matcher.assigned_states.Goals as goal

pub returns : goal.returns
returns c =
    IfOk-weaker c.assigned_states.result _ (λ found. (q : ℕ) → Contains found q ↔ Runs c.args.self.now (assigned (state_in c.args.vars.now c.args.states.now) c.args.pattern.now) q)
    (λ found exact q. subst (λ (A : TreeAutomaton). Contains found q ↔ Runs A (assigned (state_in c.args.vars.now c.args.states.now) c.args.pattern.now) q) c.self.view_is (exact q)) c.assigned_states.ensures
