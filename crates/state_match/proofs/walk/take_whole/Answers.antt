use Rattle.std.proofs.Common.{not, IsTrue, nat_cmp, [], refl, subst, sym, ◌∙◌, ◌↔◌, inl, inr}
use Rattle.std.specs.List.{Contains}
use Rattle.std.specs.List.Sorted.{IsStrictlySortedBy}
use Rattle.std.proofs.lemmas.Result.{IfOk-weaker, on_err_weaker}
use Rattle.state_match.specs.Visits.{GoneThrough}
use Rattle.state_match.specs.Groups.{TookAll, TookUpTo}
use Rattle.state_match.proofs.grouping.GroupLists.{none_left, one_left, whole_one}
use Rattle.state_match.proofs.grouping.Fronts.{on_err_from, one_over, took_none}
use Rattle.state_match.proofs.walk.take_whole.Goals as goal

pub returns-then-is_empty-clause-whole : goal.returns-then-is_empty-clause-whole
returns-then-is_empty-clause-whole g c = λ yes. record {
  groups = [];
  are = none_left 0 c.as_slice-states.result.now refl (sym c.is_empty.ensures ∙ c.if-is_empty.true) c.requires.long
      (λ q. subst (λ xs. Contains xs q ↔ g.N.Narrowed.matches c.args.rest.now [] q) (sym c.as_slice-states.ensures.value) (c.in_ok-found.ensures q));
  gone = GoneThrough.none;
}

pub returns-clause-whole : goal.returns-clause-whole
returns-clause-whole g c =
    IfOk-weaker c.take.result _ (λ on. IsTrue on → TookAll g.V.Groups.took (g.N.Narrowed.matches c.args.rest.now) c.args.assignment.now c.args.visitor.now c.take.new.self)
    (λ on h yes. one_left g.V.Groups.took c.args.visitor.now c.take.new.self c.args.assignment.now c.as_slice-states.result.now
    (whole_one 0 c.as_slice-states.result.now refl (sym c.is_empty.ensures ∙ c.if-is_empty.false)
    (subst (IsStrictlySortedBy nat_cmp) (sym c.as_slice-states.ensures.value) c.as_slice-states.ensures.sorted) c.requires.long
    (λ q. subst (λ xs. Contains xs q ↔ g.N.Narrowed.matches c.args.rest.now [] q) (sym c.as_slice-states.ensures.value) (c.in_ok-found.ensures q)))
    (h yes))
    c.take.ensures.took

pub returns-clause-ended : goal.returns-clause-ended
returns-clause-ended g c =
    IfOk-weaker c.take.result _ (λ on. IsTrue (not on) → TookUpTo g.V.Groups.took g.V.Groups.ended (g.N.Narrowed.matches c.args.rest.now) c.args.assignment.now c.args.visitor.now c.take.new.self)
    (λ on h yes. one_over g.V.Groups.took g.V.Groups.ended c.args.visitor.now c.take.new.self c.args.assignment.now c.as_slice-states.result.now
    (whole_one 0 c.as_slice-states.result.now refl (sym c.is_empty.ensures ∙ c.if-is_empty.false)
    (subst (IsStrictlySortedBy nat_cmp) (sym c.as_slice-states.ensures.value) c.as_slice-states.ensures.sorted) c.requires.long
    (λ q. subst (λ xs. Contains xs q ↔ g.N.Narrowed.matches c.args.rest.now [] q) (sym c.as_slice-states.ensures.value) (c.in_ok-found.ensures q)))
    (h yes))
    c.take.ensures.ended

pub returns-clause-err : goal.returns-clause-err
returns-clause-err g c =
    on_err_weaker c.take.result
    (λ h. inr (one_over g.V.Groups.took g.V.Groups.broke c.args.visitor.now c.take.new.self c.args.assignment.now c.as_slice-states.result.now
    (whole_one 0 c.as_slice-states.result.now refl (sym c.is_empty.ensures ∙ c.if-is_empty.false)
    (subst (IsStrictlySortedBy nat_cmp) (sym c.as_slice-states.ensures.value) c.as_slice-states.ensures.sorted) c.requires.long
    (λ q. subst (λ xs. Contains xs q ↔ g.N.Narrowed.matches c.args.rest.now [] q) (sym c.as_slice-states.ensures.value) (c.in_ok-found.ensures q)))
    h))
    c.take.ensures.broke

pub returns-in_err-found-clause-err : goal.returns-in_err-found-clause-err
returns-in_err-found-clause-err g c = on_err_from c.from_residual.result (inl took_none)
