use Rattle.std.proofs.Common.{[], ◌∷◌, refl, arith}
use Rattle.cert_text.specs.Lines as line
use Rattle.cert_text.specs.Faults.{nothing, learn, none}
use Rattle.cert_text.specs.Taking.{verdict}
use Rattle.cert_text.proofs.whole.Composed.{one, and_then, stops}
use Rattle.cert_text.proofs.taking.Reader.front.Goals as goal

pub returns-in-Err-clause-refused : goal.returns-in-Err-clause-refused
returns-in-Err-clause-refused c = λ f is spec.
    stops spec nothing nothing c.args.self.now.rest.now c.args.self.now.rest.now [] c.args.self.now.line c.head.new.self.line f none (c.in-Err.ensures.refused f (cc) spec nothing refl) (let n = c.in-Err.ensures.number in omega (arith, n))

pub returns-in-Err-verdict-clause-refused : goal.returns-in-Err-verdict-clause-refused
returns-in-Err-verdict-clause-refused c = λ f is spec.
    stops spec nothing (learn line.head nothing) c.args.self.now.rest.now c.head.new.self.rest.now (line.head ∷ []) c.args.self.now.line c.verdict.new.self.line f (one spec nothing c.args.self.now.rest.now c.head.new.self.rest.now line.head (c.in-Ok.ensures.taken spec nothing refl))
    (c.in-Err-verdict.ensures.refused f (cc) spec (learn line.head nothing) refl) (let n = c.in-Ok.ensures.number in let m = c.in-Err-verdict.ensures.number in omega (arith, n, m))

pub returns-in-Ok-verdict-clause-taken : goal.returns-in-Ok-verdict-clause-taken
returns-in-Ok-verdict-clause-taken c = λ spec.
    let l = verdict c.in-Ok-verdict.reaches in
    and_then spec nothing (learn line.head nothing) (learn l (learn line.head nothing)) c.args.self.now.rest.now c.head.new.self.rest.now c.verdict.new.self.rest.now (line.head ∷ []) (l ∷ []) (one spec nothing c.args.self.now.rest.now c.head.new.self.rest.now line.head (c.in-Ok.ensures.taken spec nothing refl))
    (one spec (learn line.head nothing) c.head.new.self.rest.now c.verdict.new.self.rest.now l (c.in-Ok-verdict.ensures.taken spec (learn line.head nothing) refl))
