use Rattle.std.proofs.Common.{◌∙◌, sym}
use Rattle.list_laws.proofs.Lookups.{search_finds}
use Rattle.ta_core.proofs.automaton.Automaton.has_state.Goals as goal

pub returns : goal.returns
returns c =
    let search = c.binary_search.ensures in
    let found = search_finds c.states.result.now c.args.state c.binary_search.result (rw c.states.ensures.value c.states.ensures.sorted) search.bound search.position in
    rw (← c.states.ensures.value) (λ t. found.0 (sym c.is_ok.ensures.value ∙ t), λ i. c.is_ok.ensures.value ∙ found.1 i)
