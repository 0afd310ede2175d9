use Rattle.std.proofs.Common.{length}
use Rattle.ranked_terms.specs.Terms.{config_of}
use Rattle.ta_core.specs.Reached.{ReachedFrom}
use Rattle.ta_core.specs.Runs.{Runs}
use Rattle.ta_core.specs.lemmas.RunStates.{exact_by}
use Rattle.term_store.specs.Store.{term_at}
use Rattle.derive_search.proofs.StoreFacts.{below}
use Rattle.derive_search.proofs.StateSetLaws.{states_are}
use Rattle.derive_search.proofs.state_sets.states_of.Goals as goal

pub returns : goal.returns
returns c =
    let A = c.args.automaton.now in let terms = c.args.store.now in let sets = c.args.sets.now in let args = c.node-sym.result.1.now in
    exact_by (ReachedFrom A c.in_ok-set.set) (Runs A (config_of (term_at terms c.args.id)))
    (states_are A terms sets c.requires.sets c.args.id c.node-sym.result.0 args c.node-sym.ensures.is (below c.args.id (length sets) args c.requires.args c.node-sym.ensures.args) c.in_ok-set.set c.in_ok-set.ensures.exact)
    c.closure_of.result c.closure_of.ensures
