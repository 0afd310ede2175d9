use Rattle.std.proofs.Common.{ap}
use Rattle.std.specs.List.{AllZip}
use Rattle.std.proofs.lemmas.Result.{IfOk-weaker}
use Rattle.ta_core.specs.TreeAutomaton.{TreeAutomaton}
use Rattle.eq_merge.specs.Ends.{AreEnds}
use Rattle.eq_merge.proofs.finding.PlainParts.{all_ends_in}
use Rattle.eq_merge.proofs.forced.all_ends.Goals as goal

pub plain_ends-requires : goal.plain_ends-requires
plain_ends-requires c = ap (λ (X : TreeAutomaton). X.eps) c.in_ok-plain.ensures

pub returns : goal.returns
returns c =
    IfOk-weaker c.plain_ends.result _ (AllZip (AreEnds c.args.a.now) c.args.equations.now)
    (λ all z. all_ends_in c.args.a.now c.in_ok-plain.plain c.in_ok-plain.ensures c.args.equations.now all z) c.plain_ends.ensures
