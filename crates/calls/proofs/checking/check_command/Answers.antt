use Rattle.calls.proofs.Shown.{ends_first, ends_second}
use Rattle.calls.proofs.checking.check_command.Goals as goal

pub returns-in-Err-clause-says : goal.returns-in-Err-clause-says
returns-in-Err-clause-says g c = ends_first c.args.spec.now c.args.cert.now _ _ c.in-Err.ending c.in-Err.ensures.ending

pub returns-in-Ok-clause-says : goal.returns-in-Ok-clause-says
returns-in-Ok-clause-says g c =
    let first = c.in-Ok.ensures.spec in
    ends_second c.args.spec.now c.args.cert.now _ _ _ first.0 c.in-Ok.spelled first.1 first.2 c.check_beside.result c.check_beside.ensures.says
