-- The rules that were read are rules.
use Rattle.std.proofs.Common.{List, [], ◌∷◌, ◌++◌, All}
use Rattle.std.proofs.lemmas.List.Elements.{All-weaker, All-push}
use Rattle.trs_rules.specs.Rules.{RewriteRule, IsRule}
use Rattle.trs_rules.specs.lemmas.RuleLaws.{bound_from_none, none_from_bound}
use Rattle.timbuk_reader.specs.Kept.{IsKeptRule}

kept_rule : (rule : RewriteRule) → IsRule rule → IsKeptRule rule
kept_rule rule h = record {
  left_is_no_variable = h.left_is_no_variable;
  left_is_linear = h.left_is_linear;
  none_free = none_from_bound rule.left rule.right h.right_is_bound;
  vars_are = h.vars_are;
  vars_are_few = h.vars_are_few;
}

rule_of_kept : (rule : RewriteRule) → IsKeptRule rule → IsRule rule
rule_of_kept rule h = record {
  left_is_no_variable = h.left_is_no_variable;
  left_is_linear = h.left_is_linear;
  right_is_bound = bound_from_none rule.left rule.right h.none_free;
  vars_are = h.vars_are;
  vars_are_few = h.vars_are_few;
}

pub rules_of_kept : (rules : List RewriteRule) → All IsKeptRule rules → All IsRule rules
rules_of_kept rules h = All-weaker IsKeptRule IsRule rule_of_kept rules h

-- one more rule
pub more_rules : (rules : List RewriteRule) (rule : RewriteRule) → All IsKeptRule rules → IsRule rule → All IsKeptRule (rules ++ rule ∷ [])
more_rules rules rule h r = All-push IsKeptRule rules rule h (kept_rule rule r)
