use Rattle.std.proofs.Common.{[], refl, rules, subst, option_map, ◌∙◌, Option, None}
use Rattle.std.specs.Prelude.{List, ℕ, IfSome}
use Rattle.std.specs.Borrow.{Bor}
use Rattle.ta_core.specs.declared.trans.Trans.{Trans}
use Rattle.cert_text.specs.declared.certificate.CertKind.TheVariants as kind
use Rattle.cert_text.specs.Taking.{IsTransText}
use Rattle.cert_text.proofs.rows.Told.{is_not, is_so}
use Rattle.cert_text.proofs.rows.LineRows.{refused, unended_row}
use Rattle.cert_text.proofs.rows.EpsRows.{end_taken, eps_wrong, eps_right, same_signature}
use Rattle.cert_text.proofs.rows.EntryRows.{may_place, entry_row, trans_wrong, trans_right, next_is}
use Rattle.cert_text.proofs.taking.Reader.entry.Goals as goal

abbrev last_of : Option (Bor Trans) → Option Trans
last_of last = option_map (λ u. u.now) last

pub returns-in-Err-clause-refused : goal.returns-in-Err-clause-refused
returns-in-Err-clause-refused c = λ f is spec k at.
    let same = c.in-Err.ensures.fault.0 in
    refused spec k c.args.self.now.rest.now c.whole_line.new.self.line kind.Line f (cc) (unended_row spec k c.args.self.now.rest.now (may_place c.args.sig.now (last_of c.args.last) k.before at.may) c.in-Err.ensures.fault.1)

pub returns-then-over-clause-taken : goal.returns-then-over-clause-taken
returns-then-over-clause-taken c = λ spec k at.
    end_taken spec k None c.args.self.now.rest.now c.in-Ok.text.now c.whole_line.new.self.rest.now (same_signature spec c.args.sig.now (last_of c.args.last) k at) c.in-Ok.ensures.line.0 (is_so c.is_text-over.result _ (search rules) c.is_text-over.ensures)

pub returns-in-Some-wrong_eps-clause-refused : goal.returns-in-Some-wrong_eps-clause-refused
returns-in-Some-wrong_eps-clause-refused c = λ f is spec k at.
    refused spec k c.args.self.now.rest.now c.whole_line.new.self.line c.in-Some-wrong_eps.kind f (cc)
    (eps_wrong spec k c.args.states.now None c.in-Some.pair c.args.self.now.rest.now c.in-Ok.text.now c.whole_line.new.self.rest.now (same_signature spec c.args.sig.now (last_of c.args.last) k at) c.requires.below at.known c.in-Ok.ensures.line.0 c.in-Some.ensures.some
    c.in-Some-wrong_eps.kind c.in-Some-wrong_eps.ensures.wrong)

pub returns-in-None-clause-taken : goal.returns-in-None-clause-taken
returns-in-None-clause-taken c = λ spec k at.
    eps_right spec k c.args.states.now None c.in-Some.pair c.args.self.now.rest.now c.in-Ok.text.now c.whole_line.new.self.rest.now (same_signature spec c.args.sig.now (last_of c.args.last) k at) c.requires.below at.known c.in-Ok.ensures.line.0 c.in-Some.ensures.some (c.in-None.ensures.right refl)

pub returns-in-None-2-clause-refused : goal.returns-in-None-2-clause-refused
returns-in-None-2-clause-refused c = λ f is spec k at.
    refused spec k c.args.self.now.rest.now c.whole_line.new.self.line kind.Line f (cc)
    (entry_row spec k c.args.sig.now (last_of c.args.last) c.args.states.now c.args.self.now.rest.now c.in-Ok.text.now c.whole_line.new.self.rest.now at c.in-Ok.ensures.line.0 c.in-Ok.ensures.line.1
    (is_not c.is_text-over.result _ (search rules) c.is_text-over.ensures) (c.in_default.ensures.none (search rules)) (c.in_ok-fields.ensures.none (search rules)))

pub returns-in-Ok-checked_trans-clause-taken : goal.returns-in-Ok-checked_trans-clause-taken
returns-in-Ok-checked_trans-clause-taken c = λ spec k at.
    let fields = c.in-Some-2.fields in
    let some = subst (λ o. IfSome o (λ r. IsTransText c.in-Ok.text.now r.0.now c.clear.new.self.items c.trans_fields.new.args.items r.1)) c.in-Some-2.is c.in_ok-fields.ensures.some in
    let it : IsTransText c.in-Ok.text.now fields.0.now [] c.as_slice.result.now fields.1 = subst (λ (xs : List ℕ). IsTransText c.in-Ok.text.now fields.0.now [] xs fields.1) (search rules)
    (subst (λ (xs : List ℕ). IsTransText c.in-Ok.text.now fields.0.now xs c.trans_fields.new.args.items fields.1) (search rules) some) in
    trans_right spec k c.args.sig.now (last_of c.args.last) c.args.states.now c.args.self.now.rest.now c.in-Ok.text.now c.whole_line.new.self.rest.now fields.0.now c.as_slice.result.now fields.1 at c.requires.below c.in-Ok.ensures.line.0 it c.in-Ok-checked_trans.trans c.in-Ok-checked_trans.ensures.right

pub returns-in-Ok-checked_trans-clause-right : goal.returns-in-Ok-checked_trans-clause-right
returns-in-Ok-checked_trans-clause-right c =
    next_is c.args.sig.now c.args.states.now (last_of c.args.last) c.in-Some-2.fields.0.now c.as_slice.result.now c.in-Some-2.fields.1 c.in-Ok-checked_trans.trans c.in-Ok-checked_trans.ensures.right

pub returns-in-Err-checked_trans-clause-refused : goal.returns-in-Err-checked_trans-clause-refused
returns-in-Err-checked_trans-clause-refused c = λ f is spec k at.
    let fields = c.in-Some-2.fields in
    let some = subst (λ o. IfSome o (λ r. IsTransText c.in-Ok.text.now r.0.now c.clear.new.self.items c.trans_fields.new.args.items r.1)) c.in-Some-2.is c.in_ok-fields.ensures.some in
    let it : IsTransText c.in-Ok.text.now fields.0.now [] c.as_slice.result.now fields.1 = subst (λ (xs : List ℕ). IsTransText c.in-Ok.text.now fields.0.now [] xs fields.1) (search rules)
    (subst (λ (xs : List ℕ). IsTransText c.in-Ok.text.now fields.0.now xs c.trans_fields.new.args.items fields.1) (search rules) some) in
    let bad = c.in-Err-checked_trans.ensures.wrong f (cc) in
    record {
      number_is = bad.0 ∙ (search rules);
      row = trans_wrong spec k c.args.sig.now (last_of c.args.last) c.args.states.now c.args.self.now.rest.now c.in-Ok.text.now c.whole_line.new.self.rest.now fields.0.now c.as_slice.result.now fields.1 at c.requires.below c.in-Ok.ensures.line.0 it f.kind bad.1;
    }
