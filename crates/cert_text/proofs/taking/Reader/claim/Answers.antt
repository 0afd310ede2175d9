use Rattle.std.proofs.Common.{◌≡◌, [], ◌∙◌, subst, sym, ap, length}
use Rattle.cert_text.specs.declared.certificate.Certificate.{Certificate}
use Rattle.cert_text.specs.declared.certificate.Certificate.TheVariants as certificate
use Rattle.cert_text.specs.Lines as line
use Rattle.cert_text.specs.Whole.{IsTakenBehind}
use Rattle.cert_text.proofs.whole.WholeTexts.{bad_map, bad_entries, facts, is_sound, claim_taken}
use Rattle.cert_text.proofs.taking.Reader.claim.Goals as goal

pub returns-in-Err-maps-clause-refused : goal.returns-in-Err-maps-clause-refused
returns-in-Err-maps-clause-refused c = λ f is.
    bad_map c.args.spec.now c.args.self.now.rest.now c.listed.new.self.rest.now c.maps.new.self.rest.now c.maps.new.self.rest.now c.in-Ok.listed.rounds c.in-Ok.listed.precise c.in-Ok.listed.next c.in-Ok.listed.states c.in-Ok.listed.finals.items [] (length c.states-count.result.now) (ap length c.states-count.ensures.value) c.in-Ok.ensures.taken
    c.args.self.now.line c.listed.new.self.line c.maps.new.self.line f c.in-Ok.ensures.number c.in-Err-maps.ensures.number (c.in-Err-maps.ensures.refused f (cc))

pub returns-in-Err-body-clause-refused : goal.returns-in-Err-body-clause-refused
returns-in-Err-body-clause-refused c = λ f is.
    bad_entries c.args.spec.now c.args.self.now.rest.now c.listed.new.self.rest.now c.maps.new.self.rest.now c.body.new.self.rest.now c.in-Ok.listed.rounds c.in-Ok.listed.precise c.in-Ok.listed.next c.in-Ok.listed.states c.in-Ok.listed.finals.items c.in-Ok-maps.images.items (length c.states-count.result.now) (ap length c.states-count.ensures.value) c.in-Ok.ensures.taken c.in-Ok-maps.ensures.taken
    c.args.self.now.line c.listed.new.self.line c.maps.new.self.line f c.in-Ok.ensures.number c.in-Ok-maps.ensures.number (c.in-Err-body.ensures.refused f (cc))

pub made-requires-clause-few : goal.made-requires-clause-few
made-requires-clause-few c =
    let it = facts c.args.spec.now c.args.self.now.rest.now c.listed.new.self.rest.now c.maps.new.self.rest.now c.body.new.self.rest.now c.in-Ok.listed.rounds c.in-Ok.listed.precise c.in-Ok.listed.next c.in-Ok.listed.states c.in-Ok.listed.finals.items c.in-Ok-maps.images.items (length c.states-count.result.now) (ap length c.states-count.ensures.value) c.in-Ok.ensures.taken c.in-Ok-maps.ensures.taken in it.few

pub made-requires-clause-sound : goal.made-requires-clause-sound
made-requires-clause-sound c = is_sound c.args.spec.now c.args.self.now.rest.now c.listed.new.self.rest.now c.maps.new.self.rest.now c.body.new.self.rest.now c.in-Ok.listed.rounds c.in-Ok.listed.precise c.in-Ok.listed.next c.in-Ok.listed.states c.in-Ok.listed.finals.items c.in-Ok-maps.images.items (length c.states-count.result.now) (ap length c.states-count.ensures.value) c.in-Ok.ensures.taken c.in-Ok-maps.ensures.taken c.in-Ok-body.both.0.items c.in-Ok-body.both.1.items c.in-Ok-body.ensures.taken

pub made-requires-clause-states : goal.made-requires-clause-states
made-requires-clause-states c =
    let it = facts c.args.spec.now c.args.self.now.rest.now c.listed.new.self.rest.now c.maps.new.self.rest.now c.body.new.self.rest.now c.in-Ok.listed.rounds c.in-Ok.listed.precise c.in-Ok.listed.next c.in-Ok.listed.states c.in-Ok.listed.finals.items c.in-Ok-maps.images.items (length c.states-count.result.now) (ap length c.states-count.ensures.value) c.in-Ok.ensures.taken c.in-Ok-maps.ensures.taken in it.sorted

pub made-requires-clause-finals : goal.made-requires-clause-finals
made-requires-clause-finals c =
    let it = facts c.args.spec.now c.args.self.now.rest.now c.listed.new.self.rest.now c.maps.new.self.rest.now c.body.new.self.rest.now c.in-Ok.listed.rounds c.in-Ok.listed.precise c.in-Ok.listed.next c.in-Ok.listed.states c.in-Ok.listed.finals.items c.in-Ok-maps.images.items (length c.states-count.result.now) (ap length c.states-count.ensures.value) c.in-Ok.ensures.taken c.in-Ok-maps.ensures.taken in it.finals_sorted

pub made-requires-clause-trans : goal.made-requires-clause-trans
made-requires-clause-trans c = let it = c.in-Ok-body.ensures.taken in it.sorted

pub made-requires-clause-eps : goal.made-requires-clause-eps
made-requires-clause-eps c = let it = c.in-Ok-body.ensures.taken in it.eps_sorted

pub returns-in-Ok-made-clause-taken : goal.returns-in-Ok-made-clause-taken
returns-in-Ok-made-clause-taken c =
    let is : c.in-Ok-made.certificate ≡ certificate.Unreachable c.in-Ok.listed.rounds c.in-Ok.listed.precise (record { states = c.in-Ok.listed.states; next = c.in-Ok.listed.next; finals = c.in-Ok.listed.finals.items; trans = c.in-Ok-body.both.0.items; eps = c.in-Ok-body.both.1.items }) c.in-Ok-maps.images.items =
    c.in-Ok-made.ensures ∙ ap (λ hs. certificate.Unreachable c.in-Ok.listed.rounds c.in-Ok.listed.precise (record { states = c.in-Ok.listed.states; next = c.in-Ok.listed.next; finals = c.in-Ok.listed.finals.items; trans = c.in-Ok-body.both.0.items; eps = c.in-Ok-body.both.1.items }) hs) c.as_slice.ensures.value in
    subst (λ (x : Certificate). IsTakenBehind c.args.spec.now line.unreachable c.args.self.now.rest.now c.args.self.now.line c.body.new.self.rest.now c.body.new.self.line x) (sym is)
    (claim_taken c.args.spec.now c.args.self.now.rest.now c.listed.new.self.rest.now c.maps.new.self.rest.now c.body.new.self.rest.now c.in-Ok.listed.rounds c.in-Ok.listed.precise c.in-Ok.listed.next c.in-Ok.listed.states c.in-Ok.listed.finals.items c.in-Ok-maps.images.items (length c.states-count.result.now) (ap length c.states-count.ensures.value) c.in-Ok.ensures.taken c.in-Ok-maps.ensures.taken c.in-Ok-body.both.0.items c.in-Ok-body.both.1.items c.in-Ok-body.ensures.taken
    c.args.self.now.line c.listed.new.self.line c.maps.new.self.line c.body.new.self.line c.in-Ok.ensures.number c.in-Ok-maps.ensures.number c.in-Ok-body.ensures.number)
