-- States with which an assignment cannot go on.
use Rattle.std.proofs.Common.{◌≡◌, ℕ, ◌<◌, List, [], ◌∷◌, ◌++◌, length, drop, take, get_or, All, Contains, sym, ap, subst, ◌∙◌, append_assoc, arith}
use Rattle.std.proofs.lemmas.List.{take_at, length-map, get_or-map}
use Rattle.ranked_terms.specs.Terms.{assigned}
use Rattle.ranked_terms.specs.declared.term.Pattern.{Pattern}
use Rattle.trs_rules.specs.Rules.{RewriteRule}
use Rattle.ta_core.specs.TreeAutomaton.{TreeAutomaton, IsSound}
use Rattle.ta_core.specs.Runs.{Runs}
use Rattle.ta_core.specs.Closure.{state_in, assignments}
use Rattle.list_laws.proofs.Members.{all_from_members}
use Rattle.ta_core.specs.lemmas.RunsLaws.{run_ends}
use Rattle.list_laws.proofs.Members.{map_had, flat_map_had}
use Rattle.closure_check.specs.Marking.{Marked}
use Rattle.closure_check.specs.Searching.{Settles, Narrows, with_states, going_on}
use Rattle.closure_check.proofs.triples.Assignments.{SettledBy}
use Rattle.closure_check.proofs.sets.RunningSets.{sizes}

-- with this state, and some for the variables behind, the pattern never runs
abbrev pub Fails : TreeAutomaton → Pattern → List ℕ → List ℕ → ℕ → Type 0
Fails A p vars σ q = (rest : List ℕ) (r : ℕ) → Runs A (assigned (state_in vars (σ ++ q ∷ rest)) p) r → ⊥

pub no_candidate : (A : TreeAutomaton) (rule : RewriteRule) (σ : List ℕ) (q n : ℕ) → Fails A rule.left rule.vars σ q → All (Settles A rule) (going_on A (σ ++ q ∷ []) n)
no_candidate A rule σ q n fails = all_from_members (Settles A rule) (going_on A (σ ++ q ∷ []) n) (λ at i r.
    let a = flat_map_had (λ rest. with_states A ((σ ++ q ∷ []) ++ rest)) (assignments A.states n) at i in
    let b = map_had (λ s. ((σ ++ q ∷ []) ++ a.0, s)) A.states at a.2 in
    let is : at.0 ≡ σ ++ q ∷ a.0 = ap (λ (x : List ℕ × ℕ). x.0) (sym b.2) ∙ append_assoc σ (q ∷ []) a.0 in
    absurd (fails a.0 at.1 (subst (λ τ. Runs A (assigned (state_in rule.vars τ) rule.left) at.1) is r)))

-- the states that stand in no list that covers the candidates
pub settled_others : (A : TreeAutomaton) (rule : RewriteRule) (σ cs all vars τ : List ℕ) (left : Pattern) (n : ℕ) → IsSound A → left ≡ rule.left → vars ≡ rule.vars → τ ≡ σ →
    Narrows A vars τ left A.states cs → ((q : ℕ) → Contains cs q → Contains all q) → (q : ℕ) → Contains A.states q → (Contains all q → ⊥) → SettledBy A rule σ n q
settled_others A rule σ cs all vars τ left n sound is_left is_vars is_states narrows kept q i none =
    no_candidate A rule σ q n (λ rest r run. none (kept q (narrows q i rest r (run_ends sound run)
    (subst (λ τ. Runs A (assigned (state_in vars (τ ++ q ∷ rest)) left) r) (sym is_states)
    (subst (λ vars. Runs A (assigned (state_in vars (σ ++ q ∷ rest)) left) r) (sym is_vars)
    (subst (λ side. Runs A (assigned (state_in rule.vars (σ ++ q ∷ rest)) side) r) (sym is_left) run))))))

-- ---- sets that were written back

pub written : (n : ℕ) (xs ys : List Marked) → n ≡ length xs → sizes ys ≡ sizes xs → take n (ys ++ drop (length ys) xs) ≡ ys
written n xs ys long same =
    let size = λ (set : Marked). set.size in
    take_at ys (drop (length ys) xs) n (omega (arith, long, ap length same, length-map xs size, length-map ys size))

pub same_sizes : (s : ℕ) (xs ys : List Marked) → sizes ys ≡ sizes xs → All (λ (set : Marked). set.size ≡ s) xs → All (λ (set : Marked). set.size ≡ s) ys
same_sizes s xs ys e all k d l =
    let size = λ (set : Marked). set.size in
    let long : length ys ≡ length xs = omega (arith, ap length e, length-map xs size, length-map ys size) in
    let l' : k < length xs = omega (arith, l, long) in
    sym (get_or-map size ys k d 0 l) ∙ (ap (λ s. get_or s k 0) e ∙ (get_or-map size xs k d 0 l' ∙ all k d l'))
