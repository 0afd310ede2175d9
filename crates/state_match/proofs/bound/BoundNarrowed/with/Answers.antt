use Rattle.std.proofs.Common.{◌∙◌, sym, ap, subst, Contains, true≢false}
use Rattle.state_match.specs.Rests.{Rest}
use Rattle.state_match.proofs.grouping.Rests.{next_is_state, inside_more}
use Rattle.state_match.proofs.grouping.GroupLists.{pushed}
use Rattle.state_match.proofs.bound.BoundNarrowed.with.Goals as goal

pub returns-then-not-contains-clause-none : goal.returns-then-not-contains-clause-none
returns-then-not-contains-clause-none c = λ rest q m.
    let has = next_is_state c.args.self.now.bound c.args.state rest q m in
    let same = c.self.invariant.3 ∙ c.self.invariant.1.states ∙ ap (λ (r : Rest). r.automaton.states) c.self.view_is in
    absurd (true≢false (sym (c.contains.ensures.1 (subst (λ xs. Contains xs c.args.state) (sym same) has)) ∙ c.if-not-contains.true))

pub invariant_of-result : goal.invariant_of-result
invariant_of-result c =
    let same = c.self.invariant.3 ∙ c.self.invariant.1.states in (
      inside_more c.self.inside.automaton.now.states c.self.inside.states.items c.push.new.self.items c.args.state (pushed c.args.state c.in_ok-push.ensures.items (c.in_ok-states.ensures.items ∙ c.as_slice.ensures.value)) c.self.invariant.0
          (subst (λ xs. Contains xs c.args.state) same (c.contains.ensures.0 c.if-not-contains.false)),
      c.self.invariant.1,
      c.self.invariant.2,
      c.self.invariant.3,
      c.self.invariant.4,
      c.self.invariant.5,
    )
