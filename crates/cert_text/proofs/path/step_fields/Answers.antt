use Rattle.std.proofs.Common.{refl, rules}
use Rattle.cert_text.specs.Words.{position_word}
use Rattle.cert_text.proofs.format.Formed.{position_free}
use Rattle.cert_text.proofs.fields.PathFields.{large_rule, position_value, step_is}
use Rattle.cert_text.proofs.path.step_fields.Goals as goal

pub returns-in_default-clause-none : goal.returns-in_default-clause-none
returns-in_default-clause-none c = λ _ r ks t small places e. c.in_default.ensures.none refl r (position_word ks) t (position_free ks) e

pub returns-then-rule-gt-MAX_RULE-clause-none : goal.returns-then-rule-gt-MAX_RULE-clause-none
returns-then-rule-gt-MAX_RULE-clause-none c = λ _ r ks t small places e. large_rule c.args.text.now c.in-Some.position.now c.in-Some.term.now c.in-Some.rule r ks t c.in-Some.ensures.some c.if-rule-gt-MAX_RULE.true small e

pub returns-then-not-branch-clause-none : goal.returns-then-not-branch-clause-none
returns-then-not-branch-clause-none c = λ _ r ks t small places e.
    c.position_of.ensures.no (search rules) ks places (position_value c.args.text.now c.in-Some.position.now c.in-Some.term.now c.in-Some.rule r ks t c.in-Some.ensures.some e)

pub returns-clause-some : goal.returns-clause-some
returns-clause-some c =
    step_is c.args.text.now c.in-Some.position.now c.in-Some.term.now c.in-Some.rule c.position_of.new.at.items c.in-Some.ensures.some c.if-rule-gt-MAX_RULE.false (c.position_of.ensures.yes (search rules))
