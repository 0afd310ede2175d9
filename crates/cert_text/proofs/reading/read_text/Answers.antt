use Rattle.std.proofs.Common.{[], ◌∷◌, arith, subst, ℕ}
use Rattle.ranked_terms.specs.Texts.{Text}
use Rattle.cert_text.specs.Lines as line
use Rattle.cert_text.specs.Faults.{nothing, learn, Takes}
use Rattle.cert_text.specs.Taking.{verdict, FaultFrom}
use Rattle.cert_text.proofs.whole.Composed.{from_the_first}
use Rattle.cert_text.proofs.whole.WholeTexts.{bad_behind_verdict, reads_it, bad_behind_end}
use Rattle.cert_text.proofs.reading.read_text.Goals as goal

pub returns-in-Err-clause-fault : goal.returns-in-Err-clause-fault
returns-in-Err-clause-fault c = λ f is.
    from_the_first c.args.spec.now c.args.bytes.now f (subst (λ (x : Text). FaultFrom c.args.spec.now nothing x 0 f) c.new-reader.ensures.rest
    (subst (λ (n : ℕ). FaultFrom c.args.spec.now nothing c.new-reader.result.rest.now n f) c.new-reader.ensures.line (c.in-Err.ensures.refused f (cc) c.args.spec.now)))

pub returns-in-Err-behind-clause-fault : goal.returns-in-Err-behind-clause-fault
returns-in-Err-behind-clause-fault c = λ f is.
    bad_behind_verdict c.args.spec.now c.args.bytes.now c.front.new.self.rest.now c.in-Ok.reaches c.front.new.self.line (let n = c.in-Ok.ensures.number in let z = c.new-reader.ensures.line in omega (arith, n, z)) (subst (λ (x : Text). Takes c.args.spec.now nothing x (line.head ∷ verdict c.in-Ok.reaches ∷ []) (learn (verdict c.in-Ok.reaches) (learn line.head nothing)) c.front.new.self.rest.now) c.new-reader.ensures.rest (c.in-Ok.ensures.taken c.args.spec.now)) f (c.in-Err-behind.ensures.refused f (cc))

pub returns-in-Ok-over-clause-reads : goal.returns-in-Ok-over-clause-reads
returns-in-Ok-over-clause-reads c =
    reads_it c.args.spec.now c.args.bytes.now c.front.new.self.rest.now c.in-Ok.reaches c.front.new.self.line (let n = c.in-Ok.ensures.number in let z = c.new-reader.ensures.line in omega (arith, n, z)) (subst (λ (x : Text). Takes c.args.spec.now nothing x (line.head ∷ verdict c.in-Ok.reaches ∷ []) (learn (verdict c.in-Ok.reaches) (learn line.head nothing)) c.front.new.self.rest.now) c.new-reader.ensures.rest (c.in-Ok.ensures.taken c.args.spec.now)) c.behind.new.self.rest.now c.behind.new.self.line c.in-Ok-behind.read c.in-Ok-behind.ensures.taken c.in-Ok-over.ensures.over

pub returns-in-Err-over-clause-fault : goal.returns-in-Err-over-clause-fault
returns-in-Err-over-clause-fault c = λ f is.
    bad_behind_end c.args.spec.now c.args.bytes.now c.front.new.self.rest.now c.in-Ok.reaches c.front.new.self.line (let n = c.in-Ok.ensures.number in let z = c.new-reader.ensures.line in omega (arith, n, z)) (subst (λ (x : Text). Takes c.args.spec.now nothing x (line.head ∷ verdict c.in-Ok.reaches ∷ []) (learn (verdict c.in-Ok.reaches) (learn line.head nothing)) c.front.new.self.rest.now) c.new-reader.ensures.rest (c.in-Ok.ensures.taken c.args.spec.now)) c.behind.new.self.rest.now c.behind.new.self.line c.in-Ok-behind.read c.in-Ok-behind.ensures.taken f (c.in-Err-over.ensures.refused f (cc))
