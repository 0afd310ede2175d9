use Rattle.std.proofs.Common.{refl}
use Rattle.cert_text.proofs.fields.PathFields.{no_blank, rule_is, more_is, one_blank, fields_are}
use Rattle.cert_text.proofs.path.fields_of.Goals as goal

pub returns-in_err-rule-clause-none : goal.returns-in_err-rule-clause-none
returns-in_err-rule-clause-none c = λ none r position t free e.
    no_blank c.args.text.now c.in_ok-behind_head.field-0.now position t r c.in_ok-behind_head.ensures (c.in_err-rule.ensures.none refl) e

pub returns-in_err-rule-2-clause-none : goal.returns-in_err-rule-2-clause-none
returns-in_err-rule-2-clause-none c = λ none r position t free e.
    c.in_err-rule-2.ensures.none refl r (rule_is c.args.text.now c.in_ok-behind_head.field-0.now c.in_ok-rule.rule.now c.in_ok-rule.rest.now position t r c.in_ok-behind_head.ensures c.in_ok-rule.ensures.some e)

pub returns-in_err-position-clause-none : goal.returns-in_err-position-clause-none
returns-in_err-position-clause-none c = λ none r position t free e.
    one_blank c.in_ok-rule.rest.now position t (c.in_err-position.ensures.none refl) free
    (more_is c.args.text.now c.in_ok-behind_head.field-0.now c.in_ok-rule.rule.now c.in_ok-rule.rest.now position t r c.in_ok-behind_head.ensures c.in_ok-rule.ensures.some e)

pub returns-clause-some : goal.returns-clause-some
returns-clause-some c =
    let number = c.in_ok-rule-2.ensures.found in
    fields_are c.args.text.now c.in_ok-behind_head.field-0.now c.in_ok-rule.rule.now c.in_ok-rule.rest.now c.in_ok-position.position.now c.in_ok-position.term.now c.in_ok-rule-2.rule number.number
    c.in_ok-behind_head.ensures c.in_ok-rule.ensures.some c.in_ok-position.ensures.some number.told number.value
