use Rattle.std.proofs.Common.{◌<◌, ◌≤◌, ◌+◌, ◌-◌, ◌^◌, All, take, length}
use Rattle.trs_rules.specs.Rules.{RewriteRule}
use Rattle.closure_check.specs.Rooms.{sets_of_sides, sets_of_rules}
use Rattle.closure_check.proofs.fitting.sets_for_rules.Given as goal

abbrev pub invariant-loop-rule : goal.invariant-loop-rule
invariant-loop-rule l = (l.most < 2 ^ 64 - 1 → All (λ (rule : RewriteRule). length rule.vars + sets_of_sides rule ≤ l.most) (take l.rule-index l.rules)) × (l.most ≤ sets_of_rules l.rules)
