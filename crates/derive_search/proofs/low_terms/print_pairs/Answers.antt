use Rattle.std.proofs.Common.{ℕ, ◌<◌, ◌+◌, take, length, sym, subst, arith}
use Rattle.std.specs.Prelude.{IsTrue}
use Rattle.std.proofs.lemmas.List.{take_all}
use Rattle.std.proofs.lemmas.List.Elements.{All-contains}
use Rattle.ranked_terms.specs.Terms.{is_over}
use Rattle.term_store.specs.Store.{term_at}
use Rattle.derive_search.specs.TextOrder.{ArePrinted}
use Rattle.derive_search.proofs.GrowthLaws.{is_member}
use Rattle.derive_search.proofs.pairs.Printing.{none_printed, one_printed}
use Rattle.derive_search.proofs.low_terms.print_pairs.Goals as goal

pub loop-k-init : goal.loop-k-init
loop-k-init c = subst (ArePrinted c.args.sig.now c.args.store.now (take 0 c.args.pairs.now.keys)) (sym c.new-all.ensures.items) (none_printed c.args.sig.now c.args.store.now)

pub text_of-requires-clause-placed : goal.text_of-requires-clause-placed
text_of-requires-clause-placed c =
    All-contains (λ (p : ℕ × ℕ). p.1 < length c.args.store.now) c.args.pairs.now.keys c.pair_at-state.result c.requires.placed (is_member c.args.pairs.now.keys c.loop-k.k c.pair_at-state.result c.pair_at-state.ensures)

pub text_of-requires-clause-over : goal.text_of-requires-clause-over
text_of-requires-clause-over c =
    All-contains (λ (p : ℕ × ℕ). IsTrue (is_over c.args.sig.now (term_at c.args.store.now p.1))) c.args.pairs.now.keys c.pair_at-state.result c.requires.over (is_member c.args.pairs.now.keys c.loop-k.k c.pair_at-state.result c.pair_at-state.ensures)

pub loop-k-preserved : goal.loop-k-preserved
loop-k-preserved c =
    subst (ArePrinted c.args.sig.now c.args.store.now (take (c.loop-k.k + 1) c.args.pairs.now.keys)) (sym c.in_ok-push.ensures.items)
    (one_printed c.args.sig.now c.args.store.now c.args.pairs.now.keys c.loop-k.k c.loop-k.all.items
    (record { state = c.pair_at-state.result.0; text = c.in_ok-text.text; id = c.pair_at-state.result.1 }) c.pair_at-state.ensures c.in_ok-text.ensures c.loop-k.invariant)

pub returns : goal.returns
returns c = subst (λ ps. ArePrinted c.args.sig.now c.args.store.now ps c.loop-k.all.items) (take_all c.loop-k.k c.args.pairs.now.keys (omega (arith, c.loop-k-test.false, c.len-k-end.ensures.len))) c.loop-k.invariant
