use Rattle.std.proofs.Common.{List, subst}
use Rattle.std.proofs.lemmas.Result.{IfOk-weaker}
use Rattle.ta_core.specs.declared.trans.Trans.{Trans}
use Rattle.ta_core.specs.Languages.{Accepts}
use Rattle.ta_clean.specs.Least.{Witnesses}
use Rattle.ta_clean.specs.Meeting.{IsCommon}
use Rattle.ta_clean.specs.Productive.{HasAllTerms}
use Rattle.ta_clean.proofs.languages.AllTerms.{common_is_accepted}
use Rattle.ta_clean.proofs.least.Building.{witnesses_same}
use Rattle.ta_clean.proofs.witness.least_witness.Goals as goal

pub returns : goal.returns
returns c =
    let A = c.args.automaton.now in
    let U = c.in_ok-all.all in
    let has = subst (λ (ts : List Trans). HasAllTerms ts U) c.trans.ensures.value c.in_ok-all.ensures in
    IfOk-weaker c.common_witness.result (Witnesses (IsCommon A U)) (Witnesses (Accepts A))
    (witnesses_same (IsCommon A U) (Accepts A) (common_is_accepted A U has)) c.common_witness.ensures
