use Rattle.std.proofs.Common.{inl}
use Rattle.state_match.proofs.grouping.Fronts.{took_none, on_err_from}
use Rattle.state_match.proofs.groups.each_in_runs.Goals as goal

pub returns-in_err-matcher-clause-err : goal.returns-in_err-matcher-clause-err
returns-in_err-matcher-clause-err g c = on_err_from c.from_residual.result (inl took_none)
