use Rattle.cert_text.proofs.uniqueness.OneAnswer.{that_ok, first_ok, that_err, first_err}
use Rattle.cert_text.proofs.reading.read_cert.Goals as goal

pub returns-in-Ok-clause-that_one : goal.returns-in-Ok-clause-that_one
returns-in-Ok-clause-that_one c = that_ok c.of_terms_over.ensures.texts c.args.spec.now c.args.bytes.now c.in-Ok.certificate c.len-symbols.ensures.valid c.in-Ok.ensures.reads

pub returns-in-Ok-clause-first : goal.returns-in-Ok-clause-first
returns-in-Ok-clause-first c = first_ok c.args.spec.now c.args.bytes.now c.in-Ok.certificate c.len-symbols.ensures.valid c.in-Ok.ensures.reads

pub returns-in-Err-clause-that_one : goal.returns-in-Err-clause-that_one
returns-in-Err-clause-that_one c = that_err c.args.spec.now c.args.bytes.now c.in-Err.error c.len-symbols.ensures.valid (λ f is. c.in-Err.ensures.fault f (cc))

pub returns-in-Err-clause-first : goal.returns-in-Err-clause-first
returns-in-Err-clause-first c = first_err c.args.spec.now c.args.bytes.now c.in-Err.error (λ f is. c.in-Err.ensures.fault f (cc))
