use Rattle.std.proofs.Common.{not, ℕ, List, IfOk, OnErr, IsTrue, nat_cmp, [], ◌∷◌, ◌++◌, map, get_or, refl, subst, sym, ap, ◌∙◌, ◌↔◌, ◌⊎◌, inl, inr, ⊎_elim}
use Rattle.std.specs.List.{Contains}
use Rattle.std.specs.List.Sorted.{IsStrictlySortedBy}
use Rattle.state_match.specs.Visits.{GoneThrough}
use Rattle.state_match.specs.Groups.{after, TookAll, TookFirst, TookUpTo}
use Rattle.state_match.proofs.grouping.GroupLists.{pushed, popped, IfSome-at_some, IfNone-at_none, passed_none, passed_all, passed_by, passed_with, through_after}
use Rattle.state_match.proofs.grouping.Fronts.{on_err_from, stopped_before, stopped_in, ended_in, took_none}
use Rattle.state_match.proofs.walk.+walk.Goals as goal
use Rattle.state_match.proofs.walk.+walk.Goals.{in-Some+in_ok-push+in_ok-on+else-not-on, in_default}

pub loop-state-init : goal.loop-state-init
loop-state-init g t c = record { kept = refl; gone = record { groups = []; are = passed_none; gone = GoneThrough.none } }

pub loop-state-preserved : goal.loop-state-preserved
loop-state-preserved g t c =
    let gone = c.loop-state.invariant.gone in
    elim c.match-branch-3.branch [
      | in-Some+in_ok-push+in_ok-on+else-not-on w ↦
          let inner = w.in_ok-on.ensures.whole w.if-not-on.false in
          let longer = pushed _ w.in_ok-push.ensures.items c.loop-state.invariant.kept in
          record {
            kept = ap (λ v. v.items) w.assignment-is ∙ popped _ longer w.in_ok-on.ensures.kept w.walk.new.assignment.ok.0 w.pop.ensures.rest;
            gone = record {
              groups = gone.groups ++ map (after (get_or c.as_slice-state-items.result.now c.loop-state.state-index 0 ∷ [])) inner.groups;
              are = passed_with c.as_slice-state-items.result.now c.loop-state.state-index c.loop-state-test.true
                  (subst (IsStrictlySortedBy nat_cmp) (sym c.as_slice-state-items.ensures.value) c.as_slice-state-items.ensures.sorted) gone.groups inner.groups gone.are inner.are
                  (IfSome-at_some (λ next. (rest : List ℕ) (q : ℕ) → g.N.Narrowed.matches next rest q ↔ g.N.Narrowed.matches c.args.rest.now (get_or c.as_slice-state-items.result.now c.loop-state.state-index 0 ∷ rest) q) w.in-Some.is c.in_ok-next.ensures.some);
              gone = subst (GoneThrough g.V.Groups.took c.args.visitor.now _) (sym w.visitor-is)
                  (through_after c.args.assignment.now.items w.push.new.self.items (get_or c.as_slice-state-items.result.now c.loop-state.state-index 0) gone.groups inner.groups longer gone.gone inner.gone);
            };
          }
      | in_default w ↦ record {
        kept = ap (λ v. v.items) w.assignment-is ∙ c.loop-state.invariant.kept;
        gone = record {
          groups = gone.groups;
          are = passed_by c.as_slice-state-items.result.now c.loop-state.state-index c.loop-state-test.true gone.groups gone.are
              (IfNone-at_none ((rest : List ℕ) (q : ℕ) → g.N.Narrowed.matches c.args.rest.now (get_or c.as_slice-state-items.result.now c.loop-state.state-index 0 ∷ rest) q → ⊥) w.in_default.is c.in_ok-next.ensures.none);
          gone = subst (GoneThrough g.V.Groups.took c.args.visitor.now _) (sym w.visitor-is) gone.gone;
        };
      }
    ]

pub returns-clause-whole : goal.returns-clause-whole
returns-clause-whole g t c =
    λ yes.
    let gone = c.loop-state.invariant.gone in
    record {
      groups = gone.groups;
      are = passed_all c.as_slice-state-items.result.now c.loop-state.state-index c.args.more c.loop-state-test.false c.if-more-eq0.false c.requires.long
          (λ s rest q p. subst (λ xs. Contains xs s) (sym c.as_slice-state-items.ensures.value) (c.in_ok-candidates.ensures s rest q p)) gone.groups gone.are;
      gone = gone.gone;
    }

pub take_whole-requires-clause-long : goal.take_whole-requires-clause-long
take_whole-requires-clause-long g t c = λ σ q m. c.requires.long σ q m ∙ c.if-more-eq0.true

pub returns-then-more-eq0-clause-whole : goal.returns-then-more-eq0-clause-whole
returns-then-more-eq0-clause-whole g t c =
    subst (λ xs. IfOk c.take_whole.result (λ on. IsTrue on → TookAll g.V.Groups.took (g.N.Narrowed.matches c.args.rest.now) xs c.args.visitor.now c.take_whole.new.visitor)) c.as_slice.ensures.value
    c.take_whole.ensures.whole

pub returns-then-more-eq0-clause-ended : goal.returns-then-more-eq0-clause-ended
returns-then-more-eq0-clause-ended g t c =
    subst (λ xs. IfOk c.take_whole.result (λ on. IsTrue (not on) → TookUpTo g.V.Groups.took g.V.Groups.ended (g.N.Narrowed.matches c.args.rest.now) xs c.args.visitor.now c.take_whole.new.visitor))
    c.as_slice.ensures.value c.take_whole.ensures.ended

pub returns-then-more-eq0-clause-err : goal.returns-then-more-eq0-clause-err
returns-then-more-eq0-clause-err g t c =
    subst (λ xs. OnErr c.take_whole.result
    (TookFirst g.V.Groups.took (g.N.Narrowed.matches c.args.rest.now) xs c.args.visitor.now c.take_whole.new.visitor ⊎ TookUpTo g.V.Groups.took g.V.Groups.broke (g.N.Narrowed.matches c.args.rest.now) xs c.args.visitor.now c.take_whole.new.visitor))
    c.as_slice.ensures.value c.take_whole.ensures.err

pub returns-in_err-candidates-clause-err : goal.returns-in_err-candidates-clause-err
returns-in_err-candidates-clause-err g t c = on_err_from c.from_residual.result (inl took_none)

pub returns-in_err-next-clause-err : goal.returns-in_err-next-clause-err
returns-in_err-next-clause-err g t c =
    on_err_from c.from_residual-in_err-next.result (inl (stopped_before g.V.Groups.took c.as_slice-state-items.result.now c.in_ok-candidates.candidates c.as_slice-state-items.ensures.value c.loop-state.state-index c.args.more
    c.loop-state-test.true c.as_slice-state-items.ensures.sorted c.if-more-eq0.false c.requires.long c.in_ok-candidates.ensures c.args.assignment.now.items c.loop-state.invariant.gone))

pub returns-in_err-push-clause-err : goal.returns-in_err-push-clause-err
returns-in_err-push-clause-err g t c =
    on_err_from c.from_residual-in_err-push.result (inl (stopped_before g.V.Groups.took c.as_slice-state-items.result.now c.in_ok-candidates.candidates c.as_slice-state-items.ensures.value c.loop-state.state-index c.args.more
    c.loop-state-test.true c.as_slice-state-items.ensures.sorted c.if-more-eq0.false c.requires.long c.in_ok-candidates.ensures c.args.assignment.now.items c.loop-state.invariant.gone))

pub returns-in_err-on-clause-err : goal.returns-in_err-on-clause-err
returns-in_err-on-clause-err g t c =
    on_err_from c.from_residual-in_err-on.result (⊎_elim
    (λ x. inl (stopped_in g.V.Groups.took c.as_slice-state-items.result.now c.in_ok-candidates.candidates c.as_slice-state-items.ensures.value c.loop-state.state-index c.args.more
    c.loop-state-test.true c.as_slice-state-items.ensures.sorted c.if-more-eq0.false c.requires.long c.in_ok-candidates.ensures c.args.assignment.now.items
    (IfSome-at_some (λ next. (rest : List ℕ) (q : ℕ) → g.N.Narrowed.matches next rest q ↔ g.N.Narrowed.matches c.args.rest.now (get_or c.as_slice-state-items.result.now c.loop-state.state-index 0 ∷ rest) q) c.in-Some.is c.in_ok-next.ensures.some)
    c.push.new.self.items (pushed _ c.in_ok-push.ensures.items c.loop-state.invariant.kept) c.loop-state.invariant.gone x))
    (λ x. inr (ended_in g.V.Groups.took c.as_slice-state-items.result.now c.in_ok-candidates.candidates c.as_slice-state-items.ensures.value c.loop-state.state-index c.args.more
    c.loop-state-test.true c.as_slice-state-items.ensures.sorted c.if-more-eq0.false c.requires.long c.in_ok-candidates.ensures c.args.assignment.now.items
    (IfSome-at_some (λ next. (rest : List ℕ) (q : ℕ) → g.N.Narrowed.matches next rest q ↔ g.N.Narrowed.matches c.args.rest.now (get_or c.as_slice-state-items.result.now c.loop-state.state-index 0 ∷ rest) q) c.in-Some.is c.in_ok-next.ensures.some)
    c.push.new.self.items (pushed _ c.in_ok-push.ensures.items c.loop-state.invariant.kept) c.loop-state.invariant.gone g.V.Groups.broke x)) c.in_err-on.ensures.err)

pub returns-then-not-on-clause-ended : goal.returns-then-not-on-clause-ended
returns-then-not-on-clause-ended g t c = λ yes.
    ended_in g.V.Groups.took c.as_slice-state-items.result.now c.in_ok-candidates.candidates c.as_slice-state-items.ensures.value c.loop-state.state-index c.args.more
    c.loop-state-test.true c.as_slice-state-items.ensures.sorted c.if-more-eq0.false c.requires.long c.in_ok-candidates.ensures c.args.assignment.now.items
    (IfSome-at_some (λ next. (rest : List ℕ) (q : ℕ) → g.N.Narrowed.matches next rest q ↔ g.N.Narrowed.matches c.args.rest.now (get_or c.as_slice-state-items.result.now c.loop-state.state-index 0 ∷ rest) q) c.in-Some.is c.in_ok-next.ensures.some)
    c.push.new.self.items (pushed _ c.in_ok-push.ensures.items c.loop-state.invariant.kept) c.loop-state.invariant.gone g.V.Groups.ended (c.in_ok-on.ensures.ended (ap not c.if-not-on.true))
