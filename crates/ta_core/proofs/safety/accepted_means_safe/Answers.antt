use Rattle.std.proofs.Common.{All, subst}
use Rattle.trs_rules.specs.Rules.{IsRule}
use Rattle.ta_core.proofs.acceptance.Acceptance.{accepted_is_safe}
use Rattle.ta_core.proofs.safety.accepted_means_safe.Goals as goal

pub returns : goal.returns
returns c = accepted_is_safe c.args.spec.now c.args.automaton.now c.args.map.now c.next.ensures.sound (subst (All IsRule) c.as_slice.ensures c.each_is_rule.ensures) c.requires.accepted
