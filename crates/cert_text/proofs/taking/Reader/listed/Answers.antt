use Rattle.std.proofs.Common.{◌≡◌, [], ◌++◌, ◌∷◌, ap, refl, subst, rules, arith, length-append}
use Rattle.std.specs.Prelude.{List, Some, ℕ}
use Rattle.std.proofs.lemmas.List.{append_assoc}
use Rattle.cert_text.specs.Lines as line
use Rattle.cert_text.specs.Lines.{Line}
use Rattle.cert_text.specs.Certificates.{note_lines}
use Rattle.cert_text.specs.Faults.{Known, Takes, learn, none}
use Rattle.cert_text.specs.Taking.{listed_lines, listed_known}
use Rattle.cert_text.proofs.whole.Composed.{one, and_then, stops, stops_later}
use Rattle.cert_text.proofs.taking.Reader.listed.Goals as goal

pub returns-in-Err-clause-refused : goal.returns-in-Err-clause-refused
returns-in-Err-clause-refused c = λ f is spec k at.
    stops spec k k c.args.self.now.rest.now c.args.self.now.rest.now [] c.args.self.now.line c.rounds.new.self.line f none (c.in-Err.ensures.refused f (cc) spec k at) (let n = c.in-Err.ensures.number in omega (arith, n))

pub returns-in-Err-notes-clause-refused : goal.returns-in-Err-notes-clause-refused
returns-in-Err-notes-clause-refused c = λ f is spec k at.
    let i = c.in-Ok.rounds in
    let k1 : Known = learn (line.rounds i) k in
    let t1 = one spec k c.args.self.now.rest.now c.rounds.new.self.rest.now (line.rounds i) (c.in-Ok.ensures.taken spec k at) in
    stops_later spec k k1 c.args.self.now.rest.now c.rounds.new.self.rest.now (line.rounds i ∷ []) c.args.self.now.line c.rounds.new.self.line f t1 (c.in-Err-notes.ensures.refused f (cc) spec k1 i refl) (let n = c.in-Ok.ensures.number in omega (arith, n))

pub returns-in-Err-states-clause-refused : goal.returns-in-Err-states-clause-refused
returns-in-Err-states-clause-refused c = λ f is spec k at.
    let i = c.in-Ok.rounds in
    let k1 : Known = learn (line.rounds i) k in
    let t1 = one spec k c.args.self.now.rest.now c.rounds.new.self.rest.now (line.rounds i) (c.in-Ok.ensures.taken spec k at) in
    let p = c.in-Ok-notes.notes.0 in
    let n = c.in-Ok-notes.notes.1 in
    let k2 : Known = record k1 { before = Some (line.next n); next = n } in
    let t12 = and_then spec k k1 k2 c.args.self.now.rest.now c.rounds.new.self.rest.now c.notes.new.self.rest.now (line.rounds i ∷ []) (note_lines p ++ line.next n ∷ []) t1 (c.in-Ok-notes.ensures.taken spec k1 i refl) in
    stops spec k k2 c.args.self.now.rest.now c.notes.new.self.rest.now (line.rounds i ∷ (note_lines p ++ line.next n ∷ [])) c.args.self.now.line c.states.new.self.line f t12 (c.in-Err-states.ensures.refused f (cc) spec k2 refl refl)
    (let a = c.in-Ok.ensures.number in let b = c.in-Ok-notes.ensures.number in let d = c.in-Err-states.ensures.number in let e = length-append (note_lines p) (line.next n ∷ []) in omega (arith, a, b, d, e))

pub returns-in-Err-finals-clause-refused : goal.returns-in-Err-finals-clause-refused
returns-in-Err-finals-clause-refused c = λ f is spec k at.
    let i = c.in-Ok.rounds in
    let k1 : Known = learn (line.rounds i) k in
    let t1 = one spec k c.args.self.now.rest.now c.rounds.new.self.rest.now (line.rounds i) (c.in-Ok.ensures.taken spec k at) in
    let p = c.in-Ok-notes.notes.0 in
    let n = c.in-Ok-notes.notes.1 in
    let k2 : Known = record k1 { before = Some (line.next n); next = n } in
    let t12 = and_then spec k k1 k2 c.args.self.now.rest.now c.rounds.new.self.rest.now c.notes.new.self.rest.now (line.rounds i ∷ []) (note_lines p ++ line.next n ∷ []) t1 (c.in-Ok-notes.ensures.taken spec k1 i refl) in
    let qs = c.in-Ok-states.states.items in
    let k3 : Known = learn (line.states qs) k2 in
    let t3 = one spec k2 c.notes.new.self.rest.now c.states.new.self.rest.now (line.states qs) (c.in-Ok-states.ensures.taken spec k2 refl refl) in
    let same : qs ≡ c.in_ok-states.states = search rules in
    let t123 = and_then spec k k2 k3 c.args.self.now.rest.now c.notes.new.self.rest.now c.states.new.self.rest.now (line.rounds i ∷ (note_lines p ++ line.next n ∷ [])) (line.states qs ∷ []) t12 t3 in
    stops spec k k3 c.args.self.now.rest.now c.states.new.self.rest.now ((line.rounds i ∷ (note_lines p ++ line.next n ∷ [])) ++ line.states qs ∷ []) c.args.self.now.line c.finals.new.self.line f t123
    (c.in-Err-finals.ensures.refused f (cc) spec k3 (ap (λ xs. Some (line.states xs)) same) same)
    (let a = c.in-Ok.ensures.number in let b = c.in-Ok-notes.ensures.number in let d = c.in-Ok-states.ensures.number in let g = c.in-Err-finals.ensures.number in let e = length-append (note_lines p) (line.next n ∷ []) in
    let h = length-append (line.rounds i ∷ (note_lines p ++ line.next n ∷ [])) (line.states qs ∷ []) in omega (arith, a, b, d, e, g, h))

pub returns-clause-taken : goal.returns-clause-taken
returns-clause-taken c = λ spec k at.
    let i = c.in-Ok.rounds in
    let k1 : Known = learn (line.rounds i) k in
    let t1 = one spec k c.args.self.now.rest.now c.rounds.new.self.rest.now (line.rounds i) (c.in-Ok.ensures.taken spec k at) in
    let p = c.in-Ok-notes.notes.0 in
    let n = c.in-Ok-notes.notes.1 in
    let k2 : Known = record k1 { before = Some (line.next n); next = n } in
    let t12 = and_then spec k k1 k2 c.args.self.now.rest.now c.rounds.new.self.rest.now c.notes.new.self.rest.now (line.rounds i ∷ []) (note_lines p ++ line.next n ∷ []) t1 (c.in-Ok-notes.ensures.taken spec k1 i refl) in
    let qs = c.in-Ok-states.states.items in
    let k3 : Known = learn (line.states qs) k2 in
    let t3 = one spec k2 c.notes.new.self.rest.now c.states.new.self.rest.now (line.states qs) (c.in-Ok-states.ensures.taken spec k2 refl refl) in
    let same : qs ≡ c.in_ok-states.states = search rules in
    let fs = c.in-Ok-finals.finals.items in
    let k4 : Known = listed_known k n qs fs in
    let t4 = one spec k3 c.states.new.self.rest.now c.finals.new.self.rest.now (line.finals fs) (c.in-Ok-finals.ensures.taken spec k3 (ap (λ xs. Some (line.states xs)) same) same) in
    let t34 = and_then spec k2 k3 k4 c.notes.new.self.rest.now c.states.new.self.rest.now c.finals.new.self.rest.now (line.states qs ∷ []) (line.finals fs ∷ []) t3 t4 in
    subst (λ (xs : List ℕ). Takes spec k c.args.self.now.rest.now (listed_lines i p n xs fs) (listed_known k n xs fs) c.finals.new.self.rest.now) same
    (subst (λ (ls : List Line). Takes spec k c.args.self.now.rest.now (line.rounds i ∷ ls) k4 c.finals.new.self.rest.now) (append_assoc (note_lines p) (line.next n ∷ []) (line.states qs ∷ line.finals fs ∷ []))
    (and_then spec k k2 k4 c.args.self.now.rest.now c.notes.new.self.rest.now c.finals.new.self.rest.now (line.rounds i ∷ (note_lines p ++ line.next n ∷ [])) (line.states qs ∷ line.finals fs ∷ []) t12 t34))
