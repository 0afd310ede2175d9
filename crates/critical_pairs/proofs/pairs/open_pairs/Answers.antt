use Rattle.std.proofs.Common.{◌<◌, List, length, subst, IfOk, IsErrOf}
use Rattle.trs_rules.specs.declared.sigma.Pair.{Pair}
use Rattle.ta_core.specs.TreeAutomaton.{TreeAutomaton}
use Rattle.ta_core.specs.Closure.{AreOpenPairs}
use Rattle.critical_pairs.specs.declared.pairs.PairError.TheVariants.{More}
use Rattle.critical_pairs.proofs.pairs.open_pairs.Goals as goal

pub returns-clause-all : goal.returns-clause-all
returns-clause-all c = subst (λ (B : TreeAutomaton). IfOk c.pairs_of_all.result (AreOpenPairs B c.args.rules.now)) c.in_ok-matcher.ensures c.pairs_of_all.ensures.all

pub returns-clause-more : goal.returns-clause-more
returns-clause-more c =
    subst (λ (B : TreeAutomaton). IsErrOf c.pairs_of_all.result More → (pairs : List Pair) × AreOpenPairs B c.args.rules.now pairs × (c.args.limit < length pairs)) c.in_ok-matcher.ensures
    c.pairs_of_all.ensures.more
