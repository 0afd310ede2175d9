-- Automata with what is added to them kept aside.
use Rattle.std.proofs.Common.{◌≡◌, ℕ, zero, suc, ◌+◌, List, [], ◌∷◌, ◌++◌, Result, Ok, Err, OnOk, sym, ap, subst, ◌∙◌, arith, append_assoc}
use Rattle.std.specs.List.{range_with_len}
use Rattle.std.specs.List.Sorted.{IsStrictlySortedBy}
use Rattle.std.proofs.lemmas.List.{append-nil}
use Rattle.list_laws.specs.Lists.{IsUnion}
use Rattle.list_laws.specs.InOrder.{in_order}
use Rattle.list_laws.proofs.InOrder.{already, in_order_union}
use Rattle.ta_core.specs.declared.trans.Trans.{Trans}
use Rattle.ta_core.specs.TreeAutomaton.{TreeAutomaton, trans_cmp, pair_cmp}
use Rattle.ta_core.specs.Growth.{with_state}
use Rattle.ta_core.specs.KeptAside.{grown_by, with_states}
use Rattle.ta_core.specs.lemmas.Orders.{trans_total, trans_exact, pair_total, pair_exact}

-- ---- states

pub range_suc : (a n : ℕ) → range_with_len a (suc n) ≡ range_with_len a n ++ (a + n) ∷ []
range_suc a zero = ap (λ x. x ∷ []) (omega arith)
range_suc a (suc n) = ap (λ xs. a ∷ xs) (range_suc (a + 1) n ∙ ap (λ x. range_with_len (a + 1) n ++ x ∷ []) (omega arith))

range_more : (a n m : ℕ) → m ≡ suc n → range_with_len a m ≡ range_with_len a n ++ (a + n) ∷ []
range_more a n m e = ap (range_with_len a) e ∙ range_suc a n

states_more : (xs : List ℕ) (a n m : ℕ) → m ≡ suc n → xs ++ range_with_len a m ≡ (xs ++ range_with_len a n) ++ (a + n) ∷ []
states_more xs a n m e = ap (λ ys. xs ++ ys) (range_more a n m e) ∙ sym (append_assoc xs (range_with_len a n) ((a + n) ∷ []))

pub grown_state : (A : TreeAutomaton) (n m : ℕ) (trans : List Trans) (eps : List (ℕ × ℕ)) → m ≡ n + 1 → grown_by A m trans eps ≡ with_state (grown_by A n trans eps)
grown_state A n m trans eps e =
    let states = states_more A.states A.next n m (omega (arith, e)) in
    let next : A.next + m ≡ A.next + n + 1 = omega (arith, e) in
    λ i. record (grown_by A n trans eps) { states = states i; next = next i }

pub states_state : (A : TreeAutomaton) (n m : ℕ) → m ≡ n + 1 → with_states A m ≡ with_state (with_states A n)
states_state A n m e =
    let states = states_more A.states A.next n m (omega (arith, e)) in
    let next : A.next + m ≡ A.next + n + 1 = omega (arith, e) in
    λ i. record (with_states A n) { states = states i; next = next i }

-- ---- what is kept aside

pub grown_none : (A : TreeAutomaton) → IsStrictlySortedBy trans_cmp A.trans → IsStrictlySortedBy pair_cmp A.eps → grown_by A 0 [] [] ≡ A
grown_none A s t =
    let states = append-nil A.states in
    let next : A.next + 0 ≡ A.next = omega arith in
    let trans = already trans_total trans_exact A.trans s in
    let eps = already pair_total pair_exact A.eps t in
    λ i. record { states = states i; next = next i; finals = A.finals; trans = trans i; eps = eps i }

pub no_states : (A : TreeAutomaton) → with_states A 0 ≡ A
no_states A =
    let states = append-nil A.states in
    let next : A.next + 0 ≡ A.next = omega arith in
    λ i. record A { states = states i; next = next i }

-- the transitions of a set are added
pub trans_added : {X E : Type 0} (r : Result X E) (A B : TreeAutomaton) (more keys : List Trans) → more ≡ keys → OnOk r (IsUnion A.trans more B.trans) → OnOk r (IsStrictlySortedBy trans_cmp B.trans) →
    OnOk r (B ≡ record A { trans = B.trans }) → OnOk r (B ≡ record A { trans = in_order trans_cmp (A.trans ++ keys) })
trans_added (Ok x) A B more keys is union sorted rest =
    let trans = in_order_union trans_total trans_exact A.trans keys B.trans (subst (λ ts. IsUnion A.trans ts B.trans) is union) sorted in
    rest ∙ (λ i. record A { trans = trans i })
trans_added (Err x) A B more keys is union sorted rest = rest

-- and those without a symbol
pub eps_added : {X E : Type 0} (r : Result X E) (A B : TreeAutomaton) (more keys : List (ℕ × ℕ)) → more ≡ keys → OnOk r (IsUnion A.eps more B.eps) → OnOk r (IsStrictlySortedBy pair_cmp B.eps) →
    OnOk r (B ≡ record A { eps = B.eps }) → OnOk r (B ≡ record A { eps = in_order pair_cmp (A.eps ++ keys) })
eps_added (Ok x) A B more keys is union sorted rest =
    let eps = in_order_union pair_total pair_exact A.eps keys B.eps (subst (λ es. IsUnion A.eps es B.eps) is union) sorted in
    rest ∙ (λ i. record A { eps = eps i })
eps_added (Err x) A B more keys is union sorted rest = rest

-- all that was added
pub finished : (A B C D : TreeAutomaton) (n : ℕ) (ts : List Trans) (es : List (ℕ × ℕ)) → B ≡ with_states A n → C ≡ record B { trans = in_order trans_cmp (B.trans ++ ts) } →
    D ≡ record C { eps = in_order pair_cmp (C.eps ++ es) } → D ≡ grown_by A n ts es
finished A B C D n ts es b ct de =
    de ∙ ((λ i. record (ct i) { eps = in_order pair_cmp ((ct i).eps ++ es) }) ∙ (λ i. record (b i) { trans = in_order trans_cmp ((b i).trans ++ ts); eps = in_order pair_cmp ((b i).eps ++ es) }))
