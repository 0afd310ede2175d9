use Rattle.std.proofs.Common.{◌+◌, ℕ, List, [], ◌∷◌, ◌++◌, sym, ap, subst, ◌∙◌, Contains, All}
use Rattle.std.proofs.lemmas.Result.{IfOk-weaker}
use Rattle.state_match.specs.Rows.{IsNextAt}
use Rattle.state_match.proofs.members.JoinLaws.{exact_at, next_inside, inside_reverse, next_turned, no_sets}
use Rattle.state_match.proofs.join.column.Goals as goal

pub returns-then-not-is_empty-clause-next : goal.returns-then-not-is_empty-clause-next
returns-then-not-is_empty-clause-next c =
    let A = c.args.automaton.now in
    IfOk-weaker c.next_states.result _ (λ states. (x : ℕ) → IsNextAt A.trans c.args.sym c.args.sets.now c.args.others.now c.args.arity c.args.wanted.now x → Contains states x)
    (λ states exact x n. (exact_at c.trans.result.now A.trans c.args.sym c.args.arity c.args.sets.now c.args.others.now c.args.wanted.now states c.trans.ensures.value exact x).1 n) c.next_states.ensures

pub returns-then-not-is_empty-clause-inside : goal.returns-then-not-is_empty-clause-inside
returns-then-not-is_empty-clause-inside c =
    let A = c.args.automaton.now in
    IfOk-weaker c.next_states.result _ (All (Contains c.args.reversed.now.states))
    (λ states exact. inside_reverse A c.args.reversed.now c.requires.reverse states (next_inside A c.trans.ensures.sound c.args.sym c.args.arity c.args.sets.now c.args.others.now c.args.wanted.now states
    (exact_at c.trans.result.now A.trans c.args.sym c.args.arity c.args.sets.now c.args.others.now c.args.wanted.now states c.trans.ensures.value exact))) c.next_states.ensures

pub returns-clause-next : goal.returns-clause-next
returns-clause-next c =
    let A = c.args.automaton.now in
    let B = c.args.reversed.now in
    let sets = c.deref.ensures.value ∙ (c.in_ok-push.ensures.items ∙ (ap (λ (xs : List (List ℕ)). xs ++ c.listed.result ∷ []) c.new-targets.ensures.items ∙ ap (λ (set : List ℕ). set ∷ []) (c.listed.ensures ∙ (c.in_ok-wanted.ensures ∙ c.as_slice-2.ensures.value)))) in
    IfOk-weaker c.next_states-2.result _ (λ states. (x : ℕ) → IsNextAt A.trans c.args.sym c.args.sets.now c.args.others.now c.args.arity c.args.wanted.now x → Contains states x)
    (λ states exact x n. (exact_at c.trans-2.result.now B.trans c.args.sym (c.args.arity + 1) c.deref.result.now c.args.others.now c.args.all.now states c.trans-2.ensures.value exact x).1 (subst (λ (qs : List (List ℕ)). IsNextAt B.trans c.args.sym qs c.args.others.now (c.args.arity + 1) c.args.all.now x) (sym sets)
    (next_turned A B c.count_with.ensures c.requires.reverse c.args.sym c.args.arity c.args.others.now c.args.wanted.now c.args.all.now c.requires.all x
    (subst (λ (qs : List (List ℕ)). IsNextAt A.trans c.args.sym qs c.args.others.now c.args.arity c.args.wanted.now x) (no_sets c.args.sets.now (sym c.is_empty.ensures ∙ c.if-not-is_empty.false)) n))))
    c.next_states-2.ensures

pub returns-clause-inside : goal.returns-clause-inside
returns-clause-inside c =
    let B = c.args.reversed.now in
    IfOk-weaker c.next_states-2.result _ (All (Contains B.states))
    (λ states exact. next_inside B c.trans-2.ensures.sound c.args.sym (c.args.arity + 1) c.deref.result.now c.args.others.now c.args.all.now states
    (exact_at c.trans-2.result.now B.trans c.args.sym (c.args.arity + 1) c.deref.result.now c.args.others.now c.args.all.now states c.trans-2.ensures.value exact)) c.next_states-2.ensures
