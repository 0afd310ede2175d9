use Rattle.std.proofs.Common.{subst, nat_cmp}
use Rattle.std.specs.List.Sorted.{IsStrictlySortedBy}
use Rattle.ta_core.specs.TreeAutomaton.{TreeAutomaton, IsSound}
use Rattle.critical_pairs.proofs.Triples.{rule_at, same_error, none_before, one_more, too_many, all_rules}
use Rattle.critical_pairs.specs.declared.pairs.PairError.TheVariants.{More}
use Rattle.critical_pairs.proofs.pairs.pairs_of_all.Goals as goal

pub loop-number-init : goal.loop-number-init
loop-number-init c = none_before c.args.matcher.now c.args.rules.now c.args.limit c.new-pairs.result c.new-pairs.ensures

pub returns-in_err-pairs-clause-more : goal.returns-in_err-pairs-clause-more
returns-in_err-pairs-clause-more c = λ more.
    let A = c.args.matcher.now in
    let R = c.args.rules.now in
    let same = same_error c.from_residual.result More c.in_err-pairs.field-0.0 more c.from_residual.ensures.1 in
    too_many A R c.loop-number.number c.index-rules-number.result (rule_at R c.loop-number.number c.index-rules-number.result c.loop-number-test.true c.index-rules-number.is)
    c.open_pairs_are_listed.ensures.listed c.open_pairs_are_listed.ensures.longer (subst IsSound c.automaton.ensures c.states.ensures.sound) c.args.limit c.loop-number.pairs c.loop-number.invariant
    (c.in_err-pairs.ensures.more same)

pub loop-number-preserved : goal.loop-number-preserved
loop-number-preserved c =
    one_more c.args.matcher.now c.args.rules.now c.loop-number.number c.index-rules-number.result
    (rule_at c.args.rules.now c.loop-number.number c.index-rules-number.result c.loop-number-test.true c.index-rules-number.is)
    (subst IsSound c.automaton.ensures c.states.ensures.sound) c.args.limit c.loop-number.pairs c.in_ok-pairs.pairs c.loop-number.invariant
    c.in_ok-pairs.ensures.all

pub returns-clause-all : goal.returns-clause-all
returns-clause-all c = all_rules c.open_pairs_are_listed.ensures.listing c.args.matcher.now c.args.rules.now c.args.limit c.loop-number.number c.loop-number.pairs (subst (λ (A : TreeAutomaton). IsStrictlySortedBy nat_cmp A.states) c.automaton.ensures c.states.ensures.sorted) c.loop-number-test.false c.loop-number.invariant
