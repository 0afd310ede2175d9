use Rattle.std.proofs.Common.{ℕ, ◌<◌, List, All, ◌∷◌, [], ◌++◌, ◌∙◌, ap, subst, sym, ◌≡◌, arith}
use Rattle.std.specs.List.{range_with_len}
use Rattle.std.specs.List.Sorted.{IsStrictlySortedBy}
use Rattle.std.specs.Ordering.{nat_cmp}
use Rattle.timbuk_reader.proofs.keeping.Automata.{numbers_more, numbers_ascend, numbers_below}
use Rattle.timbuk_reader.proofs.reader.automaton_of_states.Goals as goal

pub loop-state-preserved : goal.loop-state-preserved
loop-state-preserved c = c.in_ok-push.ensures.items ∙ (ap (λ l. l ++ c.loop-state.state ∷ []) c.loop-state.invariant ∙ sym (numbers_more c.loop-state.state))

all_of : (state count : ℕ) (xs : List ℕ) → xs ≡ range_with_len 0 state → state ≡ count → xs ≡ range_with_len 0 count
all_of state count xs e f = e ∙ ap (range_with_len 0) f

pub with_states-requires-clause-ascend : goal.with_states-requires-clause-ascend
with_states-requires-clause-ascend c =
    let all = all_of c.loop-state.state c.args.count c.deref.result.now (c.deref.ensures.value ∙ c.loop-state.invariant) (omega arith) in
    subst (IsStrictlySortedBy nat_cmp) (sym all) (numbers_ascend c.args.count)

pub with_states-requires-clause-below : goal.with_states-requires-clause-below
with_states-requires-clause-below c =
    let all = all_of c.loop-state.state c.args.count c.deref.result.now (c.deref.ensures.value ∙ c.loop-state.invariant) (omega arith) in
    subst (All (λ q. q < c.args.count)) (sym all) (numbers_below c.args.count)
