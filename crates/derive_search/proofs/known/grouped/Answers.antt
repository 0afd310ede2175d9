use Rattle.std.proofs.Common.{ℕ, ◌<◌, ◌∙◌, leb, arith}
use Rattle.std.proofs.lemmas.List.Elements.{All-contains}
use Rattle.derive_search.proofs.GrowthLaws.{is_member}
use Rattle.derive_search.proofs.pairs.KnownLaws.{nothing_known, one_known, whole_group, le_test}
use Rattle.derive_search.proofs.pairs.OldFirst.{nothing_split, one_split}
use Rattle.derive_search.proofs.known.grouped.Goals as goal

pub loop-k-init : goal.loop-k-init
loop-k-init c = (nothing_known c.args.pairs.now.keys c.args.first c.in_ok-known.known.items c.in_ok-known.ensures.empty, c.in_ok-known.ensures.len, nothing_split c.args.first c.in_ok-known.known.items c.in_ok-known.ensures.empty)

pub add_known-requires : goal.add_known-requires
add_known-requires c =
    let below = All-contains (λ (p : ℕ × ℕ). p.0 < c.args.next) c.args.pairs.now.keys c.pair_at-state.result c.requires (is_member c.args.pairs.now.keys c.loop-k.k c.pair_at-state.result c.pair_at-state.ensures) in
    omega (arith, below, c.loop-k.invariant.1)

pub loop-k-preserved : goal.loop-k-preserved
loop-k-preserved c = (
  one_known c.args.pairs.now.keys c.args.first c.loop-k.k c.loop-k.known.items c.add_known.new.known.items c.pair_at-state.result.0 c.pair_at-state.result.1 (leb c.args.first c.loop-k.k) c.pair_at-state.ensures
      (le_test c.args.first c.loop-k.k) c.in_ok-add_known.ensures c.loop-k.invariant.0,
  c.in_ok-add_known.ensures.len ∙ c.loop-k.invariant.1,
  one_split c.args.first c.loop-k.k c.loop-k.known.items c.add_known.new.known.items c.pair_at-state.result.0 c.pair_at-state.result.1 c.in_ok-add_known.ensures c.loop-k.invariant.2,
)

pub returns-clause-grouped : goal.returns-clause-grouped
returns-clause-grouped c = whole_group c.args.pairs.now.keys c.args.first c.loop-k.k c.loop-k.known.items (omega (arith, c.loop-k-test.false, c.len-k-end.ensures.len)) c.loop-k.invariant.0

pub returns-clause-ordered : goal.returns-clause-ordered
returns-clause-ordered c = c.loop-k.invariant.2.ordered
