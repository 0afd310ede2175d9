-- The triples of rules, assignments and states, and the open ones among them.
use Rattle.std.proofs.Common.{◌≡◌, ℕ, zero, suc, ◌+◌, List, [], ◌∷◌, map, length, get_or, slice_get, Some, All, Contains, refl, sym, ap, subst, ◌∙◌, ⊎_elim, arith}
use Rattle.std.proofs.lemmas.List.Elements.{All-nil, All-cons, All-head, All-tail, Contains-append_left, Contains-append_right, Contains-append_cases}
use Rattle.std.proofs.lemmas.Option.{slice_get-get_or}
use Rattle.trs_rules.specs.Rules.{RewriteRule, IsRule}
use Rattle.trs_rules.specs.declared.sigma.Pair.{Pair}
use Rattle.list_laws.proofs.Members.{map_has, map_had, flat_map_has, flat_map_had, at_place, here, there, none, parts}
use Rattle.ta_core.specs.Closure.{pair_of, IsClosedUnder, Closed, IsTriple, IsOpen, IsSettled, OpenAmong, AreOpenPairs, assigned_by, assignments, triples_of_rule, triples_from}
use Rattle.ta_core.specs.TreeAutomaton.{TreeAutomaton, IsSound}
use Rattle.ta_core.specs.Runs.{Runs}
use Rattle.ta_core.specs.ClosureLaws.{ClosedHasNoOpenPair, OpenPairsAreOne, TriplesAreAll}
use Rattle.ta_core.specs.lemmas.Assignments.{closed_at_list, closed_from_lists}
use Rattle.ta_core.specs.lemmas.RunsLaws.{run_ends}

-- ---- assignments

pub assignments_has : (states : List ℕ) (n : ℕ) (σ : List ℕ) → length σ ≡ n → All (Contains states) σ → Contains (assignments states n) σ
assignments_has states zero [] e all = here [] []
assignments_has states zero (q ∷ σ) e all = absurd (omega arith)
assignments_has states (suc n) [] e all = absurd (omega arith)
assignments_has states (suc n) (q ∷ σ) e all =
    let rest = assignments_has states n σ (omega arith) (All-tail (Contains states) q σ all) in
    flat_map_has (λ q. map (λ rest. q ∷ rest) (assignments states n)) states q (q ∷ σ) (All-head (Contains states) q σ all)
    (map_has (λ rest. q ∷ rest) (assignments states n) σ (q ∷ σ) rest refl)

pub assignments_had : (states : List ℕ) (n : ℕ) (σ : List ℕ) → Contains (assignments states n) σ → (length σ ≡ n) × All (Contains states) σ
assignments_had states zero σ c =
    ⊎_elim (λ same. subst (λ σ. (length σ ≡ 0) × All (Contains states) σ) same (refl, All-nil (Contains states))) (λ no. absurd (none σ no)) (parts [] σ [] c)
assignments_had states (suc n) σ c =
    let first = flat_map_had (λ q. map (λ rest. q ∷ rest) (assignments states n)) states σ c in
    let rest = map_had (λ rest. first.0 ∷ rest) (assignments states n) σ first.2 in
    let h = assignments_had states n rest.0 rest.1 in
    subst (λ σ. (length σ ≡ suc n) × All (Contains states) σ) rest.2 (ap suc h.0, All-cons (Contains states) first.0 rest.0 first.1 h.1)

-- ---- triples

-- a rule of a list that is numbered from i on, an assignment and a state
pub record IsFrom (A : TreeAutomaton) (i : ℕ) (R : List RewriteRule) (pair : Pair) : Type 0 where
  pub rule : RewriteRule
  pub place : ℕ
  pub at : pair.rule ≡ i + place
  pub is_rule : slice_get R place ≡ Some rule
  pub each_variable : length pair.sigma ≡ length rule.vars
  pub are_states : All (Contains A.states) pair.sigma
  pub is_state : Contains A.states pair.state

of_rule_has : (A : TreeAutomaton) (i : ℕ) (rule : RewriteRule) (pair : Pair) → pair.rule ≡ i → length pair.sigma ≡ length rule.vars → All (Contains A.states) pair.sigma → Contains A.states pair.state →
    Contains (triples_of_rule A i rule) pair
of_rule_has A i rule pair at long all state =
    let e : pair_of i pair.sigma pair.state ≡ pair = (λ k. pair_of (sym at k) pair.sigma pair.state) in
    flat_map_has (λ σ. map (λ q. pair_of i σ q) A.states) (assignments A.states (length rule.vars)) pair.sigma pair (assignments_has A.states (length rule.vars) pair.sigma long all)
    (map_has (λ q. pair_of i pair.sigma q) A.states pair.state pair state e)

of_rule_had : (A : TreeAutomaton) (i : ℕ) (rule : RewriteRule) (R : List RewriteRule) (pair : Pair) → Contains (triples_of_rule A i rule) pair → IsFrom A i (rule ∷ R) pair
of_rule_had A i rule R pair c =
    let a = flat_map_had (λ σ. map (λ q. pair_of i σ q) A.states) (assignments A.states (length rule.vars)) pair c in
    let b = map_had (λ q. pair_of i a.0 q) A.states pair a.2 in
    let h = assignments_had A.states (length rule.vars) a.0 a.1 in
    subst (IsFrom A i (rule ∷ R)) b.2 (record { rule = rule; place = 0; at = omega arith; is_rule = refl; each_variable = h.0; are_states = h.1; is_state = b.1 })

pub from_had : (A : TreeAutomaton) (i : ℕ) (R : List RewriteRule) (pair : Pair) → Contains (triples_from A i R) pair → IsFrom A i R pair
from_had A i [] pair c = absurd (none pair c)
from_had A i (rule ∷ R) pair c =
    ⊎_elim (of_rule_had A i rule R pair)
    (λ later. let h = from_had A (i + 1) R pair later in
    record { rule = h.rule; place = suc h.place; at = omega (arith, h.at); is_rule = h.is_rule; each_variable = h.each_variable; are_states = h.are_states; is_state = h.is_state })
    (Contains-append_cases (triples_of_rule A i rule) (triples_from A (i + 1) R) pair c)

from_has : (A : TreeAutomaton) (i : ℕ) (R : List RewriteRule) (pair : Pair) (place : ℕ) (rule : RewriteRule) → pair.rule ≡ i + place → slice_get R place ≡ Some rule →
    length pair.sigma ≡ length rule.vars → All (Contains A.states) pair.sigma → Contains A.states pair.state → Contains (triples_from A i R) pair
from_has A i [] pair place rule at is long all state = cc
from_has A i (first ∷ R) pair zero rule at is long all state =
    let same : first ≡ rule = cc in
    Contains-append_left (triples_of_rule A i first) (triples_from A (i + 1) R) pair (of_rule_has A i first pair (omega (arith, at)) (long ∙ ap (λ r. length r.vars) (sym same)) all state)
from_has A i (first ∷ R) pair (suc place) rule at is long all state =
    Contains-append_right (triples_of_rule A i first) (triples_from A (i + 1) R) pair (from_has A (i + 1) R pair place rule (omega (arith, at)) is long all state)

triple_in : (A : TreeAutomaton) (R : List RewriteRule) (pair : Pair) → IsTriple A R pair → Contains (triples_from A 0 R) pair
triple_in A R pair t = from_has A 0 R pair pair.rule t.rule (omega arith) t.is_rule t.each_variable t.are_states t.is_state

is_triple : (A : TreeAutomaton) (R : List RewriteRule) (pair : Pair) → Contains (triples_from A 0 R) pair → IsTriple A R pair
is_triple A R pair c =
    let h = from_had A 0 R pair c in
    let place : h.place ≡ pair.rule = omega (arith, h.at) in
    record { rule = h.rule; is_rule = ap (slice_get R) (sym place) ∙ h.is_rule; each_variable = h.each_variable; are_states = h.are_states; is_state = h.is_state }

pub triples_are_all : TriplesAreAll
triples_are_all A R pair = (is_triple A R pair, triple_in A R pair)

-- ---- open pairs

same_rule : (R : List RewriteRule) (i : ℕ) (a b : RewriteRule) → slice_get R i ≡ Some a → slice_get R i ≡ Some b → a ≡ b
same_rule R i a b e h = let k : Some a ≡ Some b = sym e ∙ h in cc

pub not_both : (A : TreeAutomaton) (R : List RewriteRule) (pair : Pair) → IsOpen A R pair → IsSettled A R pair → ⊥
not_both A R pair o s =
    let same = same_rule R pair.rule o.rule s.rule o.is_rule s.is_rule in
    let left = subst (λ r. Runs A (assigned_by r pair.sigma r.left) pair.state) same o.left in
    o.right (subst (λ r. Runs A (assigned_by r pair.sigma r.right) pair.state) (sym same) (s.follows left))

one_list : (A : TreeAutomaton) (R : List RewriteRule) {pairs xs ys : List Pair} → OpenAmong A R pairs xs → OpenAmong A R pairs ys → xs ≡ ys
one_list A R OpenAmong.none OpenAmong.none = refl
one_list A R (OpenAmong.open_one {pair} o a) (OpenAmong.open_one p b) = ap (λ l. pair ∷ l) (one_list A R a b)
one_list A R (OpenAmong.open_one {pair} o a) (OpenAmong.settled_one p b) = absurd (not_both A R pair o p)
one_list A R (OpenAmong.settled_one {pair} o a) (OpenAmong.open_one p b) = absurd (not_both A R pair p o)
one_list A R (OpenAmong.settled_one o a) (OpenAmong.settled_one p b) = one_list A R a b

pub open_pairs_are_one : OpenPairsAreOne
open_pairs_are_one A R xs ys a b = one_list A R a b

-- ---- no open pair

none_open : (A : TreeAutomaton) (R : List RewriteRule) (pairs : List Pair) → ((pair : Pair) → Contains pairs pair → IsSettled A R pair) → OpenAmong A R pairs []
none_open A R [] h = OpenAmong.none
none_open A R (pair ∷ pairs) h = OpenAmong.settled_one (h pair (here pair pairs)) (none_open A R pairs (λ x c. h x (there pair x pairs c)))

all_settled : (A : TreeAutomaton) (R : List RewriteRule) {pairs opens : List Pair} → OpenAmong A R pairs opens → opens ≡ [] → (pair : Pair) → Contains pairs pair → IsSettled A R pair
all_settled A R OpenAmong.none e pair c = absurd (none pair c)
all_settled A R (OpenAmong.open_one o a) e pair c = cc
all_settled A R (OpenAmong.settled_one {pair = first} {pairs = pairs} s a) e pair c =
    ⊎_elim (λ same. subst (IsSettled A R) same s) (λ later. all_settled A R a e pair later) (parts first pair pairs c)

no_open_pair : (A : TreeAutomaton) (R : List RewriteRule) → Closed A R → AreOpenPairs A R []
no_open_pair A R closed = none_open A R (triples_from A 0 R) (λ pair c.
    let t = is_triple A R pair c in
    let at = closed_at_list A t.rule (at_place (IsClosedUnder A) R pair.rule t.rule closed t.is_rule) pair.sigma t.each_variable t.are_states pair.state in
    record { rule = t.rule; is_rule = t.is_rule; follows = at })

closed_if_none : (A : TreeAutomaton) (R : List RewriteRule) → IsSound A → All IsRule R → AreOpenPairs A R [] → Closed A R
closed_if_none A R sound rules empty k d l =
    let rule = get_or R k d in
    let is = slice_get-get_or R k d l in
    closed_from_lists A rule (rules k d l) (λ states long all q r.
    let pair = pair_of k states q in
    let c = triple_in A R pair (record { rule = rule; is_rule = is; each_variable = long; are_states = all; is_state = run_ends sound r }) in
    let s = all_settled A R empty refl pair c in
    let same = same_rule R k rule s.rule is s.is_rule in
    subst (λ x. Runs A (assigned_by x states x.right) q) (sym same) (s.follows (subst (λ x. Runs A (assigned_by x states x.left) q) same r)))

pub closed_has_no_open_pair : ClosedHasNoOpenPair
closed_has_no_open_pair A R sound rules = (no_open_pair A R, closed_if_none A R sound rules)
