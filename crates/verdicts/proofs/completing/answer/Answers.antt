use Rattle.std.proofs.Common.{All, subst}
use Rattle.trs_rules.specs.Rules.{IsRule}
use Rattle.derive_search.specs.Search.{SearchAnswer}
use Rattle.verdicts.proofs.Paths.{Laws}
use Rattle.verdicts.proofs.Claims.{derived}
use Rattle.verdicts.proofs.completing.answer.Goals as goal

pub returns-in-Found : goal.returns-in-Found
returns-in-Found c =
    let spec = c.args.spec.now in
    let laws : Laws = record {
      stays = c.chains_are_counted.ensures.none;
      last = c.chains_are_counted.ensures.last;
      placed = c.placed_steps_are_steps.ensures;
      over = c.steps_stay_over.ensures.chains;
    } in
    let are = subst (All IsRule) c.as_slice.ensures c.each_is_rule.ensures in
    derived laws spec c.args.options c.len.ensures.valid are c.requires c.in-Found.derivation
    (subst (SearchAnswer spec c.args.options) c.in-Found.is c.in_ok-derivation.ensures)
