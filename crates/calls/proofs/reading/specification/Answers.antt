use Rattle.std.proofs.Common.{Err, sym, ap, ◌∙◌, subst}
use Rattle.spec_text.specs.SpecText.{SpecText}
use Rattle.spec_text.specs.Faults.{SpecFaultAt}
use Rattle.calls.specs.Contents.{OfSpec, spec_limit}
use Rattle.calls.specs.Files.{Never}
use Rattle.calls.proofs.Replies.{without_file, spec_memory, bad_spec}
use Rattle.calls.proofs.reading.specification.Goals as goal

pub returns-in-Err-clause-ending : goal.returns-in-Err-clause-ending
returns-in-Err-clause-ending g c = without_file c.args.name.now spec_limit (λ bytes. OfSpec bytes (λ spec. Never)) _ _ c.in-Err.ending c.in-Err.ensures.ending

pub returns-in-Err-Fault-clause-ending : goal.returns-in-Err-Fault-clause-ending
returns-in-Err-Fault-clause-ending g c =
    let fault = c.in-Err-Fault.fault in
    let met = c.in-Err-Fault.is ∙ ap Err c.in-Err-Fault.field-0-is in
    let same = c.as_slice.ensures in
    bad_spec c.args.name.now c.in-Ok.bytes _ _ c.in-Ok.ensures.read fault (λ spec text. c.read_spec.ensures.none fault spec met (subst (λ b. SpecText b spec) (sym same) text))
    (subst (λ b. SpecFaultAt b fault) same (c.read_spec.ensures.fault fault met)) c.fault_line.result c.told.result c.told.ensures c.fault_line.ensures

pub returns-clause-ending : goal.returns-clause-ending
returns-clause-ending g c = spec_memory c.args.name.now c.in-Ok.bytes _ _ c.in-Ok.ensures.read
