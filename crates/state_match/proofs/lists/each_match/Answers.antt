use Rattle.std.proofs.Common.{rules, ◌∙◌}
use Rattle.state_match.specs.Matches.{MatchesAt}
use Rattle.ranked_terms.specs.Terms.{variables_of}
use Rattle.state_match.proofs.grouping.Fronts.{on_err_from}
use Rattle.state_match.proofs.grouping.EachLists.{each_all_at, each_first_at}
use Rattle.state_match.proofs.lists.each_match.Goals as goal

pub returns-clause-ok : goal.returns-clause-ok
returns-clause-ok g c =
    let r = each_all_at (λ s. s.visitor.now) (λ s. s.visitor.ghost_name) g.V.Visit.took (λ vs. MatchesAt c.args.plain c.args.automaton.now vs c.args.pattern.now) c.as_slice.result.now (variables_of c.args.pattern.now)
    (c.as_slice.ensures.value ∙ c.in-Ok.ensures.ok) _ c.each_group-result.new.visitor c.in_ok-_on._on c.in_ok-_on.ensures.whole c.in_ok-_on.ensures.ended in
    let name = r.0 in
    let gone = r.1.2 in
    (r.1.0, r.1.1, search rules)

pub returns-in_err-_on-clause-err : goal.returns-in_err-_on-clause-err
returns-in_err-_on-clause-err g c =
    let r = each_first_at (λ s. s.visitor.now) (λ s. s.visitor.ghost_name) g.V.Visit.took (λ vs. MatchesAt c.args.plain c.args.automaton.now vs c.args.pattern.now) c.as_slice.result.now (variables_of c.args.pattern.now)
    (c.as_slice.ensures.value ∙ c.in-Ok.ensures.ok) _ c.each_group-result.new.visitor c.in_err-_on.ensures.err in
    let name = r.0 in
    let gone = r.1.2 in
    on_err_from c.from_residual.result (r.1.0, r.1.1, search rules)
