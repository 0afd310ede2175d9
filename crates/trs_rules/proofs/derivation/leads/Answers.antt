use Rattle.trs_rules.proofs.chains.DerivationLaws.{at_place, no_place}
use Rattle.trs_rules.proofs.steps.PartLaws.{root_step_of, no_rule, no_parts, same_parts}
use Rattle.trs_rules.proofs.derivation.leads.Goals as goal

pub returns-in_default : goal.returns-in_default
returns-in_default c =
    let R = c.args.rules.now in let step = c.args.step.now in
    let e = no_place R step.rule c.in_default.ensures.lookup.3 in
    (λ h. absurd (cc), λ h. absurd (no_rule R step.rule step.at c.args.before.now step.term e h))

pub returns-in_default-changed_at : goal.returns-in_default-changed_at
returns-in_default-changed_at c =
    let step = c.args.step.now in
    (λ h. absurd (cc), λ h. absurd (no_parts c.args.rules.now step.rule step.at c.args.before.now step.term (λ u v. (c.in_default-changed_at.ensures u v).1) h))

pub returns : goal.returns
returns c =
    let R = c.args.rules.now in let step = c.args.step.now in let s = c.args.before.now in
    let u = c.in-Some-changed_at.u.now in let v = c.in-Some-changed_at.v.now in
    let rule = c.in-Some.rule.now in
    let is = at_place R step.rule rule c.in-Some.ensures.lookup.3.0 c.in-Some.ensures.lookup.1 in
    let root = root_step_of R step.rule rule u v is in
    let all = same_parts R step.rule step.at s step.term u v (c.in-Some-changed_at.ensures u v).0 (λ x y. (c.in-Some-changed_at.ensures x y).1) in
    (λ h. all.0 (root.0 (c.is_root_step.ensures.0 h)), λ h. c.is_root_step.ensures.1 (root.1 (all.1 h)))
