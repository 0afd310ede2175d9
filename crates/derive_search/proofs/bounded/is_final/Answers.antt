use Rattle.std.proofs.Common.{◌∙◌, sym}
use Rattle.list_laws.proofs.Lookups.{search_finds}
use Rattle.derive_search.proofs.bounded.is_final.Goals as goal

pub returns : goal.returns
returns c =
    let search = c.binary_search.ensures in
    let found = search_finds c.finals.result.now c.args.state c.binary_search.result (rw c.finals.ensures.value c.finals.ensures.sorted) search.bound search.position in
    rw (← c.finals.ensures.value) (λ t. found.0 (sym c.is_ok.ensures.value ∙ t), λ i. c.is_ok.ensures.value ∙ found.1 i)
