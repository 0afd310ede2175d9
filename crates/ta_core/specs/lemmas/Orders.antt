-- The orders of an automaton's lists are total, and tell their members apart.
-- Nobody has to believe this: it is proved, for the proofs of the crates above.
use Rattle.std.proofs.Common.{ℕ, List, ap, refl}
use Rattle.std.specs.Ordering.{nat_cmp, ordering_then}
use Rattle.std.specs.Cmp.{IsTotalOrder}
use Rattle.std.specs.Cmp.Lexicographic.{slice_cmp}
use Rattle.std.proofs.lemmas.Cmp.{nat_cmp_total, nat_list_cmp_total, on_total, then_total}
use Rattle.std.proofs.lemmas.Map.Lookups.{CmpEqualImpliesEq, exact_unsigned, exact_bytes, exact_pairs}
use Rattle.std.specs.List.Sorted.{IsStrictlySortedBy, IsNonDecreasingBy}
use Rattle.list_laws.proofs.Lookups.{numbers_rise}
use Rattle.ta_core.specs.TreeAutomaton.{trans_of, trans_cmp, pair_cmp}
use Rattle.ta_core.specs.declared.trans.Trans.{Trans}

pub pair_total : IsTotalOrder pair_cmp
pair_total = then_total (on_total (λ (e : ℕ × ℕ). e.0) nat_cmp_total) (on_total (λ (e : ℕ × ℕ). e.1) nat_cmp_total)

pub pair_exact : CmpEqualImpliesEq pair_cmp
pair_exact = exact_pairs nat_cmp nat_cmp exact_unsigned exact_unsigned

pub trans_total : IsTotalOrder trans_cmp
trans_total = then_total (on_total (λ (t : Trans). t.sym) nat_cmp_total) (then_total (on_total (λ (t : Trans). t.args) nat_list_cmp_total) (on_total (λ (t : Trans). t.to) nat_cmp_total))

-- the last two parts
rest_exact : CmpEqualImpliesEq (λ (a b : List ℕ × ℕ). ordering_then (slice_cmp nat_cmp a.0 b.0) (nat_cmp a.1 b.1))
rest_exact = exact_pairs (slice_cmp nat_cmp) nat_cmp exact_bytes exact_unsigned

pub trans_exact : CmpEqualImpliesEq trans_cmp
trans_exact a b h =
    ap (λ (p : ℕ × (List ℕ × ℕ)). trans_of p.0 p.1.0 p.1.1)
    (exact_pairs nat_cmp (λ (a b : List ℕ × ℕ). ordering_then (slice_cmp nat_cmp a.0 b.0) (nat_cmp a.1 b.1)) exact_unsigned rest_exact (a.sym, (a.args, a.to)) (b.sym, (b.args, b.to)) h)

-- so transitions ascend by their symbols, and epsilon transitions by their sources
pub trans_ascend : (xs : List Trans) → IsStrictlySortedBy trans_cmp xs → IsNonDecreasingBy (λ (t : Trans). t.sym) xs
trans_ascend xs s = numbers_rise (λ (t : Trans). t.sym) (λ s t. ordering_then (slice_cmp nat_cmp s.args t.args) (nat_cmp s.to t.to)) (λ s t. refl) xs s

pub eps_ascend : (xs : List (ℕ × ℕ)) → IsStrictlySortedBy pair_cmp xs → IsNonDecreasingBy (λ (e : ℕ × ℕ). e.0) xs
eps_ascend xs s = numbers_rise (λ (e : ℕ × ℕ). e.0) (λ e f. nat_cmp e.1 f.1) (λ e f. refl) xs s
