use Rattle.std.proofs.Common.{[], subst, rules}
use Rattle.std.specs.Prelude.{codes, List, ℕ}
use Rattle.cert_text.specs.Cuts.{AppendsBehind}
use Rattle.cert_text.specs.Lines as line
use Rattle.cert_text.specs.declared.certificate.CertKind.TheVariants as kind
use Rattle.cert_text.specs.Taking.{Taken}
use Rattle.cert_text.proofs.rows.Told.{is_not, is_so}
use Rattle.cert_text.proofs.rows.LineRows.{refused, states_row, states_state, states_order, states_taken}
use Rattle.cert_text.proofs.taking.Reader.states.Goals as goal

pub returns-in-Err-clause-refused : goal.returns-in-Err-clause-refused
returns-in-Err-clause-refused c = λ f is spec k at known.
    let bad = c.in-Err.ensures.refused f (cc) in
    refused spec k c.args.self.now.rest.now c.numbers.new.self.line kind.Line f bad.0 (states_row spec k c.args.next c.args.self.now.rest.now at bad.1)

pub returns-then-not-below-clause-refused : goal.returns-then-not-below-clause-refused
returns-then-not-below-clause-refused c = λ f is spec k at known.
    refused spec k c.args.self.now.rest.now c.numbers.new.self.line kind.State f (cc) (states_state spec k c.args.next c.args.self.now.rest.now c.in-Ok.ensures.taken.text c.numbers.new.self.rest.now c.as_slice-listed.result.now at known c.in-Ok.ensures.taken.told (subst (λ (new : List ℕ). AppendsBehind (codes "States") c.in-Ok.ensures.taken.text [] new) (search rules) c.in-Ok.ensures.taken.appends) (is_not c.are_below-below.result _ (search rules) c.are_below-below.ensures))

pub returns-then-not-sorted-clause-refused : goal.returns-then-not-sorted-clause-refused
returns-then-not-sorted-clause-refused c = λ f is spec k at known.
    refused spec k c.args.self.now.rest.now c.numbers.new.self.line kind.Order f (cc) (states_order spec k c.args.next c.args.self.now.rest.now c.in-Ok.ensures.taken.text c.numbers.new.self.rest.now c.as_slice-listed.result.now c.requires.few at known c.in-Ok.ensures.taken.told (subst (λ (new : List ℕ). AppendsBehind (codes "States") c.in-Ok.ensures.taken.text [] new) (search rules) c.in-Ok.ensures.taken.appends) (is_so c.are_below-below.result _ (search rules) c.are_below-below.ensures) (is_not c.ascend-sorted.result _ (search rules) c.ascend-sorted.ensures))

pub returns-clause-taken : goal.returns-clause-taken
returns-clause-taken c = λ spec k at known.
    subst (λ (qs : List ℕ). Taken spec k c.args.self.now.rest.now (line.states qs) c.numbers.new.self.rest.now) (search rules) (states_taken spec k c.args.next c.args.self.now.rest.now c.in-Ok.ensures.taken.text c.numbers.new.self.rest.now c.as_slice-listed.result.now c.requires.few at known c.in-Ok.ensures.taken.told (subst (λ (new : List ℕ). AppendsBehind (codes "States") c.in-Ok.ensures.taken.text [] new) (search rules) c.in-Ok.ensures.taken.appends) (is_so c.are_below-below.result _ (search rules) c.are_below-below.ensures) (is_so c.ascend-sorted.result _ (search rules) c.ascend-sorted.ensures))
