use Rattle.std.proofs.Common.{◌<◌, map, length, sym, subst}
use Rattle.std.specs.List.{All}
use Rattle.derive_search.specs.Starts.{AreLowRuns}
use Rattle.derive_search.specs.TextOrder.{named}
use Rattle.derive_search.specs.declared.low_terms.Printed.{Printed}
use Rattle.derive_search.proofs.pairs.TextOrder.{placed_still, low_runs}
use Rattle.derive_search.proofs.low_terms.in_print_order.Goals as goal

pub terms_in_order-requires : goal.terms_in_order-requires
terms_in_order-requires c =
    let terms = c.args.store.now in
    subst (All (λ (e : Printed). e.id < length terms)) (sym c.as_slice.ensures.value)
    (placed_still c.of_terms_over.ensures.texts c.args.sig.now c.len-symbols.ensures.valid terms c.len-terms.ensures.store c.args.pairs.now.keys c.requires.placed c.requires.over c.len-pairs.ensures.unique
    c.in_ok-printed.printed.items c.sort_unstable.new.self.items c.in_ok-printed.ensures c.sort_unstable.ensures.permutation)

pub returns : goal.returns
returns c a height limit low =
    let sig = c.args.sig.now in let terms = c.args.store.now in let ys = c.sort_unstable.new.self.items in
    let are = low_runs c.of_terms_over.ensures.texts sig c.len-symbols.ensures.valid terms c.len-terms.ensures.store c.args.pairs.now.keys c.requires.placed c.requires.over c.len-pairs.ensures.unique
    c.in_ok-printed.printed.items ys c.in_ok-printed.ensures c.sort_unstable.ensures.permutation a height limit low c.sort_unstable.ensures.sorted in
    subst (AreLowRuns sig a height) (sym c.in_ok-list.ensures) (subst (λ zs. AreLowRuns sig a height (map (named terms) zs)) (sym c.as_slice.ensures.value) are)
