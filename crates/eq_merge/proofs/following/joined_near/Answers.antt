use Rattle.std.proofs.lemmas.Result.{IfOk-weaker}
use Rattle.eq_merge.specs.Passes.{IsJoinedInPart}
use Rattle.eq_merge.proofs.following.joined_near.Goals as goal

pub returns : goal.returns
returns c =
    IfOk-weaker c.joined_in.result _ (IsJoinedInPart c.args.equations.now c.args.automaton.now c.args.classes.now)
    (λ u joined. record { part = c.in_ok-part.part; is = c.in_ok-part.ensures; joined = joined }) c.joined_in.ensures
