use Rattle.std.proofs.Common.{sym, subst}
use Rattle.calls.specs.Checks.{ChecksCertificate}
use Rattle.calls.specs.Endings.{Ends}
use Rattle.calls.proofs.Shown.{ends_unread, ends_last}
use Rattle.calls.proofs.checking.check_beside.Goals as goal

pub returns-in-Err-clause-says : goal.returns-in-Err-clause-says
returns-in-Err-clause-says g c = ends_unread c.args.spec.now c.args.cert.now _ _ c.in-Err.ending c.in-Err.ensures.ending

pub returns-in-Ok-clause-says : goal.returns-in-Ok-clause-says
returns-in-Ok-clause-says g c =
    let read = c.in-Ok.ensures.certificate in
    subst (Ends (ChecksCertificate c.args.spec.now c.args.cert.now) _ _) (sym c.end_of.ensures)
    (ends_last c.args.spec.now c.args.cert.now _ _ read.0 c.in-Ok.read read.1 read.2 c.checked.result c.checked.ensures)
