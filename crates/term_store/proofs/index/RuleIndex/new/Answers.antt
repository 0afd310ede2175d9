use Rattle.std.proofs.Common.{rules, ℕ, ◌+◌, subst, sym, arith}
use Rattle.std.proofs.lemmas.List.Sorted.{IsNonDecreasingBy-from_sort_by_key}
use Rattle.term_store.specs.Index.{IsIndexUpTo}
use Rattle.term_store.proofs.RootedLaws.{rule_at}
use Rattle.term_store.proofs.IndexLaws.{no_rule_yet, one_rule_more, whole_index}
use Rattle.term_store.proofs.index.RuleIndex.new.Goals as goal

pub loop-i-init : goal.loop-i-init
loop-i-init c = subst (IsIndexUpTo c.args.rules.now 0) (sym c.new-by_root.ensures.items) (no_rule_yet c.args.rules.now)

pub loop-i-preserved : goal.loop-i-preserved
loop-i-preserved c =
    subst (IsIndexUpTo c.args.rules.now (c.loop-i.i + 1)) (sym c.in_ok-push.ensures.items)
    (one_rule_more c.args.rules.now c.loop-i.i c.root_of.result c.index-rules-i.result c.loop-i.by_root.items c.loop-i-test.true
    (rule_at c.args.rules.now c.loop-i.i c.index-rules-i.result c.loop-i-test.true c.index-rules-i.is) c.root_of.ensures c.loop-i.invariant)

pub invariant_of-result : goal.invariant_of-result
invariant_of-result c = IsNonDecreasingBy-from_sort_by_key (λ (e : ℕ × ℕ). e.0) c.sort_by_key.new.self.items c.in_ok-sort_by_key.ensures.sorted (λ a r q k. search rules)

pub returns : goal.returns
returns c =
    whole_index c.args.rules.now c.loop-i.i c.loop-i.by_root.items c.sort_by_key.new.self.items (omega (arith, c.loop-i-test.false)) c.in_ok-sort_by_key.ensures.permutation c.loop-i.invariant
