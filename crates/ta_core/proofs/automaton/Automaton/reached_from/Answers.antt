use Rattle.std.proofs.Common.{◌≡◌, ◌∷◌, [], ◌==◌, sym, ap, ◌∙◌, subst, true≢false}
use Rattle.std.specs.List.{Contains}
use Rattle.indexmap.specs.IndexSet.{insert_key}
use Rattle.ranked_terms.specs.declared.term.Config.{State}
use Rattle.ta_core.specs.Reached.{ReachedFrom}
use Rattle.ta_core.specs.Runs.{Runs}
use Rattle.list_laws.proofs.Members.{all_one, none}
use Rattle.ta_core.specs.lemmas.RunsLaws.{run_of_state}
use Rattle.ta_core.specs.lemmas.RunStates.{exact_by, runs_of_state, one_state}
use Rattle.ta_core.proofs.automaton.Automaton.reached_from.Goals as goal

pub returns-then-not-has_state : goal.returns-then-not-has_state
returns-then-not-has_state c q = (
  λ i. absurd (none q (subst (λ set. Contains set q) c.new-reached.ensures i)),
  λ r. absurd (true≢false (sym (c.has_state.ensures.1 (run_of_state c.args.state q r).0) ∙ c.if-not-has_state.true)),
)

pub closed-requires : goal.closed-requires
closed-requires c =
    let alone : c.add.new.self ≡ c.args.state ∷ [] = c.in_ok-add.ensures.ok ∙ ap (λ set. insert_key ◌==◌ set c.args.state) c.new-reached.ensures in
    rw alone (all_one (Contains c.args.self.now.states) c.args.state (c.has_state.ensures.0 c.if-not-has_state.false))

pub returns : goal.returns
returns c =
    let A = c.args.self.now in
    let state = c.args.state in
    let set = c.add.new.self in
    let alone : set ≡ state ∷ [] = c.in_ok-add.ensures.ok ∙ ap (λ set. insert_key ◌==◌ set state) c.new-reached.ensures in
    exact_by (ReachedFrom A set) (Runs A (State state)) (runs_of_state A state set (one_state A.states state set (c.has_state.ensures.0 c.if-not-has_state.false) alone)) c.closed.result c.closed.ensures
