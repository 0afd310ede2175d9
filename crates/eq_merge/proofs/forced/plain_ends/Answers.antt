use Rattle.std.proofs.Common.{ap, subst, ◌∙◌, IfOk}
use Rattle.std.specs.List.{AllZip}
use Rattle.ta_core.specs.TreeAutomaton.{TreeAutomaton}
use Rattle.eq_merge.specs.Ends.{AreEnds}
use Rattle.eq_merge.proofs.forced.plain_ends.Goals as goal

pub each_ends-requires : goal.each_ends-requires
each_ends-requires c = ap (λ (X : TreeAutomaton). X.eps) c.in_ok-matcher.ensures ∙ c.requires

pub returns : goal.returns
returns c = subst (λ M. IfOk c.each_ends.result (AllZip (AreEnds M) c.args.equations.now)) c.in_ok-matcher.ensures c.each_ends.ensures
