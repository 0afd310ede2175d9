use Rattle.std.proofs.Common.{◌≡◌, [], ◌∷◌, refl, subst, rules, arith}
use Rattle.std.specs.Prelude.{ℕ, Some, None, Option}
use Rattle.cert_text.specs.Lines as line
use Rattle.cert_text.specs.Faults.{learn, none}
use Rattle.cert_text.specs.Taking.{Taken, noted}
use Rattle.cert_text.proofs.whole.Composed.{one, and_then, stops}
use Rattle.cert_text.proofs.taking.Reader.notes.Goals as goal

pub returns-in-Err-clause-refused : goal.returns-in-Err-clause-refused
returns-in-Err-clause-refused c = λ f is spec k i at.
    stops spec k k c.args.self.now.rest.now c.args.self.now.rest.now [] c.args.self.now.line c.after_rounds.new.self.line f none (c.in-Err.ensures.refused f (cc) spec k i at) (let n = c.in-Err.ensures.number in omega (arith, n))

pub returns-in-Some-clause-taken : goal.returns-in-Some-clause-taken
returns-in-Some-clause-taken c = λ spec k i at. one spec k c.args.self.now.rest.now c.after_rounds.new.self.rest.now (line.next c.in-Some.next) (let here : c.in-Ok.behind ≡ Some c.in-Some.next = search rules in subst (λ (o : Option ℕ). Taken spec k c.args.self.now.rest.now (noted o) c.after_rounds.new.self.rest.now) here (c.in-Ok.ensures.taken spec k i at))

pub returns-in-Ok-next-clause-taken : goal.returns-in-Ok-next-clause-taken
returns-in-Ok-next-clause-taken c = λ spec k i at.
    let l = line.next c.in-Ok-next.next in
    and_then spec k (learn line.precise k) (learn l (learn line.precise k)) c.args.self.now.rest.now c.after_rounds.new.self.rest.now c.next.new.self.rest.now (line.precise ∷ []) (l ∷ []) (one spec k c.args.self.now.rest.now c.after_rounds.new.self.rest.now line.precise (let here : c.in-Ok.behind ≡ None = search rules in subst (λ (o : Option ℕ). Taken spec k c.args.self.now.rest.now (noted o) c.after_rounds.new.self.rest.now) here (c.in-Ok.ensures.taken spec k i at)))
    (one spec (learn line.precise k) c.after_rounds.new.self.rest.now c.next.new.self.rest.now l (c.in-Ok-next.ensures.taken spec (learn line.precise k) refl))

pub returns-in-Err-next-clause-refused : goal.returns-in-Err-next-clause-refused
returns-in-Err-next-clause-refused c = λ f is spec k i at.
    stops spec k (learn line.precise k) c.args.self.now.rest.now c.after_rounds.new.self.rest.now (line.precise ∷ []) c.args.self.now.line c.next.new.self.line f (one spec k c.args.self.now.rest.now c.after_rounds.new.self.rest.now line.precise (let here : c.in-Ok.behind ≡ None = search rules in subst (λ (o : Option ℕ). Taken spec k c.args.self.now.rest.now (noted o) c.after_rounds.new.self.rest.now) here (c.in-Ok.ensures.taken spec k i at)))
    (c.in-Err-next.ensures.refused f (cc) spec (learn line.precise k) refl) (let n = c.in-Ok.ensures.number in let m = c.in-Err-next.ensures.number in omega (arith, n, m))
