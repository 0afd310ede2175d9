use Rattle.cert_text.proofs.whole.WholeTexts.{bad_start, bad_steps, path_taken}
use Rattle.cert_text.proofs.taking.Reader.path.Goals as goal

pub returns-in-Err-clause-refused : goal.returns-in-Err-clause-refused
returns-in-Err-clause-refused c = λ f is.
    bad_start c.args.spec.now c.args.self.now.rest.now c.args.self.now.line c.start.new.self.line f c.in-Err.ensures.number (c.in-Err.ensures.refused f (cc))

pub returns-in-Err-steps-clause-refused : goal.returns-in-Err-steps-clause-refused
returns-in-Err-steps-clause-refused c = λ f is.
    bad_steps c.args.spec.now c.args.self.now.rest.now c.start.new.self.rest.now c.start.new.self.rest.now c.args.self.now.line c.in-Ok.start c.in-Ok.ensures.taken c.start.new.self.line f c.in-Ok.ensures.number (c.in-Err-steps.ensures.refused f (cc))

pub returns-clause-taken : goal.returns-clause-taken
returns-clause-taken c =
    path_taken c.args.spec.now c.args.self.now.rest.now c.start.new.self.rest.now c.steps.new.self.rest.now c.args.self.now.line c.in-Ok.start c.in-Ok.ensures.taken c.start.new.self.line c.steps.new.self.line c.in-Ok-steps.steps.items c.from_vec.result
    c.from_vec.ensures c.in-Ok.ensures.term c.in-Ok-steps.ensures.taken c.in-Ok.ensures.number c.in-Ok-steps.ensures.number
