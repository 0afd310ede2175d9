use Rattle.std.proofs.Common.{◌≡◌, [], subst, rules, length}
use Rattle.std.specs.Prelude.{codes, List, ℕ}
use Rattle.cert_text.specs.Cuts.{AppendsBehind}
use Rattle.cert_text.specs.Lines as line
use Rattle.cert_text.specs.declared.certificate.CertKind.TheVariants as kind
use Rattle.cert_text.specs.Taking.{Taken}
use Rattle.cert_text.proofs.rows.Told.{is_not, is_so}
use Rattle.cert_text.proofs.rows.LineRows.{refused, maps_row, maps_count, maps_state, maps_taken}
use Rattle.cert_text.proofs.taking.Reader.maps.Goals as goal

pub returns-in-Err-clause-refused : goal.returns-in-Err-clause-refused
returns-in-Err-clause-refused c = λ f is spec k fs many at known.
    let bad = c.in-Err.ensures.refused f (cc) in
    refused spec k c.args.self.now.rest.now c.numbers.new.self.line kind.Line f bad.0 (maps_row spec k fs c.args.self.now.rest.now at bad.1)

pub returns-then-listed-count-clause-refused : goal.returns-then-listed-count-clause-refused
returns-then-listed-count-clause-refused c =
    let yes : AppendsBehind (codes "Map") c.in-Ok.ensures.taken.text [] c.as_slice-listed.result.now = subst (λ (new : List ℕ). AppendsBehind (codes "Map") c.in-Ok.ensures.taken.text [] new) (search rules) c.in-Ok.ensures.taken.appends in
    λ f is spec k fs many at known.
    refused spec k c.args.self.now.rest.now c.numbers.new.self.line kind.Count f (cc) (maps_count spec k fs c.args.self.now.rest.now c.in-Ok.ensures.taken.text c.numbers.new.self.rest.now c.as_slice-listed.result.now at c.in-Ok.ensures.taken.told yes (λ h. c.if-listed-count.true (cc)))

pub returns-then-not-known-clause-refused : goal.returns-then-not-known-clause-refused
returns-then-not-known-clause-refused c =
    let yes : AppendsBehind (codes "Map") c.in-Ok.ensures.taken.text [] c.as_slice-listed.result.now = subst (λ (new : List ℕ). AppendsBehind (codes "Map") c.in-Ok.ensures.taken.text [] new) (search rules) c.in-Ok.ensures.taken.appends in
    λ f is spec k fs many at known.
    let long : length c.as_slice-listed.result.now ≡ length spec.initial.states = cc in
    refused spec k c.args.self.now.rest.now c.numbers.new.self.line kind.State f (cc) (maps_state spec k fs c.args.states.now c.args.self.now.rest.now c.in-Ok.ensures.taken.text c.numbers.new.self.rest.now c.as_slice-listed.result.now c.requires.below at known c.in-Ok.ensures.taken.told yes long (is_not c.are_listed-known.result _ (search rules) c.are_listed-known.ensures))

pub returns-clause-taken : goal.returns-clause-taken
returns-clause-taken c =
    let yes : AppendsBehind (codes "Map") c.in-Ok.ensures.taken.text [] c.as_slice-listed.result.now = subst (λ (new : List ℕ). AppendsBehind (codes "Map") c.in-Ok.ensures.taken.text [] new) (search rules) c.in-Ok.ensures.taken.appends in
    λ spec k fs many at known.
    let long : length c.as_slice-listed.result.now ≡ length spec.initial.states = cc in
    subst (λ (qs : List ℕ). Taken spec k c.args.self.now.rest.now (line.maps qs) c.numbers.new.self.rest.now) (search rules) (maps_taken spec k fs c.args.states.now c.args.self.now.rest.now c.in-Ok.ensures.taken.text c.numbers.new.self.rest.now c.as_slice-listed.result.now c.requires.below at known c.in-Ok.ensures.taken.told yes long (is_so c.are_listed-known.result _ (search rules) c.are_listed-known.ensures))
