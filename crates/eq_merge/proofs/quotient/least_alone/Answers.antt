use Rattle.std.proofs.Common.{◌≡◌, ◌<◌, ◌==◌, ℕ, List, filter, All, length, sym, ap, subst, ◌∙◌}
use Rattle.std.specs.Ordering.{nat_cmp}
use Rattle.std.specs.List.Sorted.{IsStrictlySortedBy}
use Rattle.std.proofs.lemmas.List.Kept.{IsStrictlySortedBy-filter}
use Rattle.std.proofs.lemmas.Result.{IfOk-weaker}
use Rattle.ta_core.specs.TreeAutomaton.{TreeAutomaton, bare}
use Rattle.ta_core.specs.Acceptance.{image}
use Rattle.eq_merge.specs.Quotients.{quotient}
use Rattle.eq_merge.proofs.quotients.QuotientSteps.{states_within, below}
use Rattle.eq_merge.proofs.quotient.least_alone.Goals as goal

-- the states that stand for themselves
abbrev least : List ℕ → List ℕ → List ℕ
least h states = filter (λ q. image h q == q) states

pub least_states-requires : goal.least_states-requires
least_states-requires c = subst (All (λ q. q < length c.args.classes.now)) (sym c.states.ensures.value) (states_within c.states.ensures.sound c.requires)

pub with_states-requires-clause-ascend : goal.with_states-requires-clause-ascend
with_states-requires-clause-ascend c =
    subst (IsStrictlySortedBy nat_cmp) (sym (c.as_slice.ensures ∙ (c.in_ok-states.ensures ∙ ap (least c.args.classes.now) c.states.ensures.value)))
    (IsStrictlySortedBy-filter nat_cmp (λ q. image c.args.classes.now q == q) c.args.a.now.states c.states.ensures.sorted)

pub with_states-requires-clause-below : goal.with_states-requires-clause-below
with_states-requires-clause-below c =
    subst (λ n. All (λ q. q < n) c.as_slice.result.now) (sym c.next.ensures.value)
    (subst (All (λ q. q < c.args.a.now.next)) (sym (c.as_slice.ensures ∙ (c.in_ok-states.ensures ∙ ap (least c.args.classes.now) c.states.ensures.value)))
    (below c.states.ensures.sound c.requires))

first : (A : TreeAutomaton) (h : List ℕ) (next : ℕ) (states kept slice : List ℕ) (B : TreeAutomaton) → next ≡ A.next → states ≡ A.states → kept ≡ least h states → slice ≡ kept → B ≡ bare next slice → B ≡ bare A.next (quotient A h).states
first A h next states kept slice B n s k l b = b ∙ (λ i. bare (n i) ((l ∙ (k ∙ ap (least h) s)) i))

pub returns : goal.returns
returns c =
    let A = c.args.a.now in
    let h = c.args.classes.now in
    IfOk-weaker c.with_states.result _ (λ B. B ≡ bare A.next (quotient A h).states)
    (λ B made. first A h c.next.result c.states.result.now c.in_ok-states.states c.as_slice.result.now B c.next.ensures.value c.states.ensures.value c.in_ok-states.ensures c.as_slice.ensures made)
    c.with_states.ensures
