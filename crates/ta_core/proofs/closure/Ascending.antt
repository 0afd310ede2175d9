-- Where the states of an automaton ascend, so do its triples.
use Rattle.std.proofs.Common.{◌≡◌, ℕ, zero, suc, ◌+◌, ◌<◌, List, [], ◌∷◌, map, length, Contains, sym, ap, ◌∙◌, arith}
use Rattle.std.specs.declared.cmp.Ordering.TheVariants.{Less}
use Rattle.std.specs.Ordering.{nat_cmp, ordering_then}
use Rattle.std.specs.Cmp.{nat_cmp_is}
use Rattle.std.specs.Cmp.Lexicographic.{slice_cmp}
use Rattle.std.specs.List.Sorted.{IsStrictlySortedBy}
use Rattle.std.proofs.lemmas.Cmp.{nat_cmp_total, nat_list_cmp_total}
use Rattle.trs_rules.specs.Rules.{RewriteRule}
use Rattle.trs_rules.specs.declared.sigma.Pair.{Pair}
use Rattle.list_laws.proofs.Ascending.{ascends-append, ascends-map, ascends-flat_map, first_decides, second_decides}
use Rattle.ta_core.specs.TreeAutomaton.{TreeAutomaton}
use Rattle.ta_core.specs.Closure.{assignments, triples_of_rule, triples_from, pair_of}
use Rattle.ta_core.specs.ClosureLaws.{pair_order, TriplesAscend}
use Rattle.list_laws.proofs.Members.{map_had, flat_map_had}
use Rattle.ta_core.proofs.closure.OpenPairs.{from_had}
use Rattle.list_laws.proofs.Places.{nothing_ascends}

-- ---- assignments and triples

assignments_ascend : (states : List ℕ) (n : ℕ) → IsStrictlySortedBy nat_cmp states → IsStrictlySortedBy (slice_cmp nat_cmp) (assignments states n)
unfolding IsStrictlySortedBy
assignments_ascend states zero s = (tt, tt)
assignments_ascend states (suc n) s =
    ascends-flat_map nat_cmp (slice_cmp nat_cmp) (λ q. map (λ rest. q ∷ rest) (assignments states n))
    (λ q. ascends-map (slice_cmp nat_cmp) (slice_cmp nat_cmp) (λ rest. q ∷ rest) (λ x y l. second_decides nat_cmp_total q (slice_cmp nat_cmp x y) l) (assignments states n) (assignments_ascend states n s))
    (λ q p a b l i j.
    let x = map_had (λ rest. q ∷ rest) (assignments states n) a i in
    let y = map_had (λ rest. p ∷ rest) (assignments states n) b j in
    (λ k. slice_cmp nat_cmp (sym x.2 k) (sym y.2 k)) ∙ first_decides (nat_cmp q p) (slice_cmp nat_cmp x.0 y.0) l)
    states s

of_rule_ascend : (A : TreeAutomaton) (i : ℕ) (rule : RewriteRule) → IsStrictlySortedBy nat_cmp A.states → IsStrictlySortedBy pair_order (triples_of_rule A i rule)
of_rule_ascend A i rule s =
    ascends-flat_map (slice_cmp nat_cmp) pair_order (λ σ. map (λ q. pair_of i σ q) A.states)
    (λ σ. ascends-map nat_cmp pair_order (λ q. pair_of i σ q)
    (λ q p l. second_decides nat_cmp_total i (ordering_then (slice_cmp nat_cmp σ σ) (nat_cmp q p)) (second_decides nat_list_cmp_total σ (nat_cmp q p) l)) A.states s)
    (λ σ τ a b l i' j.
    let x = map_had (λ q. pair_of i σ q) A.states a i' in
    let y = map_had (λ q. pair_of i τ q) A.states b j in
    (λ k. pair_order (sym x.2 k) (sym y.2 k))
    ∙ second_decides nat_cmp_total i (ordering_then (slice_cmp nat_cmp σ τ) (nat_cmp x.0 y.0)) (first_decides (slice_cmp nat_cmp σ τ) (nat_cmp x.0 y.0) l))
    (assignments A.states (length rule.vars)) (assignments_ascend A.states (length rule.vars) s)

number_of : (A : TreeAutomaton) (i : ℕ) (rule : RewriteRule) (pair : Pair) → Contains (triples_of_rule A i rule) pair → pair.rule ≡ i
number_of A i rule pair c =
    let a = flat_map_had (λ σ. map (λ q. pair_of i σ q) A.states) (assignments A.states (length rule.vars)) pair c in
    let b = map_had (λ q. pair_of i a.0 q) A.states pair a.2 in
    sym (ap (λ (x : Pair). x.rule) b.2)

from_ascend : (A : TreeAutomaton) (i : ℕ) (R : List RewriteRule) → IsStrictlySortedBy nat_cmp A.states → IsStrictlySortedBy pair_order (triples_from A i R)
from_ascend A i [] s = nothing_ascends pair_order
from_ascend A i (rule ∷ R) s =
    ascends-append pair_order (triples_of_rule A i rule) (triples_from A (i + 1) R) (of_rule_ascend A i rule s) (from_ascend A (i + 1) R s) (λ x y c d.
    let below : x.rule < y.rule = omega (arith, number_of A i rule x c, (from_had A (i + 1) R y d).at) in
    first_decides (nat_cmp x.rule y.rule) (ordering_then (slice_cmp nat_cmp x.sigma y.sigma) (nat_cmp x.state y.state)) (sym (nat_cmp_is x.rule y.rule Less below)))

pub triples_ascend : TriplesAscend
triples_ascend A R s = from_ascend A 0 R s
