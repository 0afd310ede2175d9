use Rattle.top_call.proofs.Shown.{unreachable, reachable}
use Rattle.top_call.proofs.Naming.{ran}
use Rattle.top_call.proofs.run.run.Goals as goal

pub returns-clause-unreachable : goal.returns-clause-unreachable
returns-clause-unreachable g c = λ is. unreachable _ _ _ _ _ _ c.respond.result c.respond.ensures.ran is

pub returns-clause-reachable : goal.returns-clause-reachable
returns-clause-reachable g c = λ is. reachable _ _ _ _ _ _ c.respond.result c.respond.ensures.ran is

pub returns-clause-complete : goal.returns-clause-complete
returns-clause-complete g c = λ quiet calm text status named.
    ran c.no_text_has_two_specs.ensures c.spelled_names_differ.ensures c.certificates_have_different_texts.ensures c.verdicts_are_one.ensures.limits _ _ _ quiet _ _ _ c.respond.result text status calm c.respond.ensures.ran named
