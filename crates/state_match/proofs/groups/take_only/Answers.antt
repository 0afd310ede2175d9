use Rattle.std.proofs.Common.{not, IsTrue, nat_cmp, inl, inr, sym, subst, ◌∙◌, []}
use Rattle.std.specs.List.Sorted.{IsStrictlySortedBy}
use Rattle.std.proofs.lemmas.Result.{IfOk-weaker, on_err_weaker}
use Rattle.state_match.specs.Groups.{TookAll, TookUpTo}
use Rattle.state_match.specs.Matches.{MatchesAt}
use Rattle.state_match.proofs.grouping.Fronts.{took_none, on_err_from}
use Rattle.state_match.proofs.grouping.Starts.{only_empty, only_taken, only_over}
use Rattle.state_match.proofs.groups.take_only.Goals as goal

pub returns-then-is_empty-clause-whole : goal.returns-then-is_empty-clause-whole
returns-then-is_empty-clause-whole g c = λ yes.
    only_empty c.args.automaton.now c.args.matcher.now c.args.plain c.args.vars.now c.args.pattern.now c.requires.runs c.requires.none c.in_ok-found.found c.in_ok-found.ensures c.as_slice-states.result.now c.as_slice-states.ensures.value
    g.V.Groups.took c.args.visitor.now (sym c.is_empty.ensures ∙ c.if-is_empty.true)

pub returns-clause-whole : goal.returns-clause-whole
returns-clause-whole g c =
    IfOk-weaker c.take.result _ (λ on. IsTrue on → TookAll g.V.Groups.took (MatchesAt c.args.plain c.args.automaton.now c.args.vars.now c.args.pattern.now) [] c.args.visitor.now c.take.new.self)
    (λ on h yes. only_taken c.args.automaton.now c.args.matcher.now c.args.plain c.args.vars.now c.args.pattern.now c.requires.runs c.requires.none c.in_ok-found.found c.in_ok-found.ensures c.as_slice-states.result.now c.as_slice-states.ensures.value
    (sym c.is_empty.ensures ∙ c.if-is_empty.false) (subst (IsStrictlySortedBy nat_cmp) (sym c.as_slice-states.ensures.value) c.as_slice-states.ensures.sorted) g.V.Groups.took c.args.visitor.now c.take.new.self (h yes))
    c.take.ensures.took

pub returns-clause-ended : goal.returns-clause-ended
returns-clause-ended g c =
    IfOk-weaker c.take.result _ (λ on. IsTrue (not on) → TookUpTo g.V.Groups.took g.V.Groups.ended (MatchesAt c.args.plain c.args.automaton.now c.args.vars.now c.args.pattern.now) [] c.args.visitor.now c.take.new.self)
    (λ on h yes. only_over c.args.automaton.now c.args.matcher.now c.args.plain c.args.vars.now c.args.pattern.now c.requires.runs c.requires.none c.in_ok-found.found c.in_ok-found.ensures c.as_slice-states.result.now c.as_slice-states.ensures.value
    (sym c.is_empty.ensures ∙ c.if-is_empty.false) (subst (IsStrictlySortedBy nat_cmp) (sym c.as_slice-states.ensures.value) c.as_slice-states.ensures.sorted) g.V.Groups.took g.V.Groups.ended c.args.visitor.now c.take.new.self (h yes))
    c.take.ensures.ended

pub returns-clause-err : goal.returns-clause-err
returns-clause-err g c =
    on_err_weaker c.take.result
    (λ h. inr (only_over c.args.automaton.now c.args.matcher.now c.args.plain c.args.vars.now c.args.pattern.now c.requires.runs c.requires.none c.in_ok-found.found c.in_ok-found.ensures c.as_slice-states.result.now c.as_slice-states.ensures.value
    (sym c.is_empty.ensures ∙ c.if-is_empty.false) (subst (IsStrictlySortedBy nat_cmp) (sym c.as_slice-states.ensures.value) c.as_slice-states.ensures.sorted) g.V.Groups.took g.V.Groups.broke c.args.visitor.now c.take.new.self h))
    c.take.ensures.broke

pub returns-in_err-found-clause-err : goal.returns-in_err-found-clause-err
returns-in_err-found-clause-err g c = on_err_from c.from_residual.result (inl took_none)
