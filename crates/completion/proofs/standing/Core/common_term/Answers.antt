use Rattle.std.proofs.Common.{sym, subst, IfSome, IfNone}
use Rattle.ta_core.specs.Acceptance.{Misses}
use Rattle.ta_clean.specs.Meeting.{IsCommon}
use Rattle.ta_clean.specs.Least.{Witnesses}
use Rattle.completion.specs.Stages.{IsLeastMet}
use Rattle.completion.specs.Standing.{Standing}
use Rattle.completion.proofs.Ending.{told_is_met, none_is_missed}
use Rattle.completion.proofs.standing.Core.common_term.Goals as goal

pub returns-clause-some : goal.returns-clause-some
returns-clause-some c =
    let spec = c.args.self.now.spec in
    let A = c.args.self.now.automaton in
    let found = subst (λ (s : Standing). Witnesses (IsCommon s.automaton s.spec.forbidden) c.in_ok-found.found) c.self.view_is c.in_ok-found.ensures in
    subst (λ o. IfSome o (IsLeastMet spec A)) (sym c.shown.ensures) (told_is_met c.accepted_terms_are_over.ensures spec A c.in_ok-found.found found)

pub returns-clause-none : goal.returns-clause-none
returns-clause-none c =
    let spec = c.args.self.now.spec in
    let A = c.args.self.now.automaton in
    let found = subst (λ (s : Standing). Witnesses (IsCommon s.automaton s.spec.forbidden) c.in_ok-found.found) c.self.view_is c.in_ok-found.ensures in
    subst (λ o. IfNone o (Misses spec.signature A spec.forbidden)) (sym c.shown.ensures) (none_is_missed c.accepted_terms_are_over.ensures spec A c.in_ok-found.found found)
