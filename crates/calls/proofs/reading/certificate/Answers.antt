use Rattle.std.proofs.Common.{Err, sym, ap, ◌∙◌, subst}
use Rattle.cert_text.specs.Certificates.{CertificateReads}
use Rattle.cert_text.specs.Faults.{CertificateFaultAt}
use Rattle.calls.specs.Contents.{OfCert, cert_limit}
use Rattle.calls.specs.Files.{Never}
use Rattle.calls.proofs.Replies.{without_file, cert_memory, bad_cert, not_read}
use Rattle.calls.proofs.reading.certificate.Goals as goal

pub returns-in-Err-clause-ending : goal.returns-in-Err-clause-ending
returns-in-Err-clause-ending g c = without_file c.args.name.now cert_limit (λ bytes. OfCert c.args.spec.now bytes (λ c. Never)) _ _ c.in-Err.ending c.in-Err.ensures.ending

pub returns-in-Err-Fault-clause-ending : goal.returns-in-Err-Fault-clause-ending
returns-in-Err-Fault-clause-ending g c =
    let fault = c.in-Err-Fault.fault in
    let spec = c.args.spec.now in
    let met = c.in-Err-Fault.is ∙ ap Err c.in-Err-Fault.field-0-is in
    let same = c.as_slice.ensures in
    bad_cert spec c.args.name.now c.in-Ok.bytes _ _ c.in-Ok.ensures.read fault
    (λ d reads. not_read c.read_cert.result fault d met (c.read_cert.ensures.that_one d (subst (λ b. CertificateReads spec b d) (sym same) reads)))
    (subst (λ b. CertificateFaultAt spec b fault) same (c.read_cert.ensures.fault fault met)) c.cert_fault_line.result c.told.result c.told.ensures c.cert_fault_line.ensures

pub returns-clause-ending : goal.returns-clause-ending
returns-clause-ending g c = cert_memory c.args.spec.now c.args.name.now c.in-Ok.bytes _ _ c.in-Ok.ensures.read
