use Rattle.std.proofs.Common.{◌↔◌, ℕ, Contains, sym, subst}
use Rattle.std.proofs.lemmas.Result.{IfOk-weaker}
use Rattle.ranked_terms.specs.declared.term.Config.{State}
use Rattle.ta_core.specs.Runs.{Runs}
use Rattle.state_match.specs.Kepts.{RunsFrom}
use Rattle.state_match.specs.declared.nodes.Source.{Source}
use Rattle.state_match.proofs.members.Reaching.{one_inside, state_runs}
use Rattle.state_match.proofs.renew.source_states.Goals as goal

pub closed-requires : goal.closed-requires
closed-requires c = one_inside c.args.automaton.now c.state_at.result c.args.all.now c.in_ok-state-in-Variable.state c.requires.all c.in_ok-state-in-Variable.ensures

pub returns-in_ok-state-in-Variable : goal.returns-in_ok-state-in-Variable
returns-in_ok-state-in-Variable c =
    let A = c.args.automaton.now in
    IfOk-weaker c.closed.result _ (λ set. (q : ℕ) → Contains set q ↔ RunsFrom A c.args.assignment.now c.args.values.now c.args.source q)
    (λ set reached q.
    let runs = state_runs A c.state_at.result c.args.all.now c.in_ok-state-in-Variable.state c.requires.all c.in_ok-state-in-Variable.ensures set reached q in
    subst (λ (s : Source). Contains set q ↔ RunsFrom A c.args.assignment.now c.args.values.now s q) (sym c.in-Variable.is)
    (subst (λ b. Contains set q ↔ Runs A (State b) q) c.state_at.ensures runs)) c.closed.ensures
