-- From the open pairs of one rule to those of a list of rules.
use Rattle.std.proofs.Common.{◌≡◌, ℕ, ◌+◌, ◌<◌, Some, slice_get, List, [], ◌∷◌, ◌++◌, map, length, get_or, take, drop, All, sym, ap, subst, ◌∙◌, append_assoc, append-nil, arith}
use Rattle.std.proofs.lemmas.List.{take_more, take-append-drop, drop_more, length-take-le}
use Rattle.std.proofs.lemmas.List.Elements.{All-append, All-map, All-weaker, All-head, All-tail}
use Rattle.std.proofs.lemmas.Option.{slice_get-get_or}
use Rattle.trs_rules.specs.Rules.{RewriteRule, IsRule}
use Rattle.trs_rules.specs.declared.sigma.Pair.{Pair}
use Rattle.ta_core.specs.TreeAutomaton.{TreeAutomaton, IsSound}
use Rattle.ta_core.specs.Closure.{Closed, IsOpen, IsSettled, OpenAmong, assignments, triples_of_rule, triples_from, IsFirstOpen}
use Rattle.ta_core.specs.ClosureLaws.{ClosedHasNoOpenPair}
use Rattle.ta_core.specs.Closure.{pair_of}
use Rattle.closure_check.specs.Searching.{Opens, Settles, OpensFirst, with_states, going_on}
use Rattle.list_laws.specs.Listings.{IsFirst}
use Rattle.closure_check.proofs.sets.Lists.{map-flat_map, map-map', flat_map-same}
use Rattle.closure_check.proofs.firsts.FirstMembers.{first_amid, first_mapped}

-- ---- one rule

abbrev pub numbered : ℕ → List ℕ × ℕ → Pair
numbered i at = pair_of i at.0 at.1

triples_numbered : (A : TreeAutomaton) (i : ℕ) (rule : RewriteRule) → map (numbered i) (going_on A [] (length rule.vars)) ≡ triples_of_rule A i rule
triples_numbered A i rule =
    let all = assignments A.states (length rule.vars) in
    map-flat_map (numbered i) (λ rest. with_states A ([] ++ rest)) all
    ∙ flat_map-same (λ rest. map (numbered i) (with_states A ([] ++ rest))) (λ σ. map (λ q. pair_of i σ q) A.states) (λ σ. map-map' (numbered i) (λ q. (σ, q)) A.states) all

module _ (A : TreeAutomaton) (R : List RewriteRule) (i : ℕ) (rule : RewriteRule) (is_rule : slice_get R i ≡ Some rule) where
  opens : (at : List ℕ × ℕ) → Opens A rule at → IsOpen A R (numbered i at)
  opens at o = record { rule = rule; is_rule = is_rule; left = o.left; right = o.right }

  settles : (at : List ℕ × ℕ) → Settles A rule at → IsSettled A R (numbered i at)
  settles at s = record { rule = rule; is_rule = is_rule; follows = s }

  of_rule_settled : All (Settles A rule) (going_on A [] (length rule.vars)) → All (IsSettled A R) (triples_of_rule A i rule)
  of_rule_settled all =
      let pairs = going_on A [] (length rule.vars) in
      subst (All (IsSettled A R)) (triples_numbered A i rule)
      (All-map (IsSettled A R) (numbered i) pairs (All-weaker (Settles A rule) (λ at. IsSettled A R (numbered i at)) settles pairs all))

-- ---- the rules before one, and those after it

triples-append : (A : TreeAutomaton) (i : ℕ) (R S : List RewriteRule) → triples_from A i (R ++ S) ≡ triples_from A i R ++ triples_from A (i + length R) S
triples-append A i [] S = let e : i ≡ i + 0 = omega arith in ap (λ k. triples_from A k S) e
triples-append A i (rule ∷ R) S =
    let e : i + 1 + length R ≡ i + length (rule ∷ R) = omega arith in
    ap (λ l. triples_of_rule A i rule ++ l) (triples-append A (i + 1) R S ∙ ap (λ k. triples_from A (i + 1) R ++ triples_from A k S) e)
    ∙ sym (append_assoc (triples_of_rule A i rule) (triples_from A (i + 1) R) (triples_from A (i + length (rule ∷ R)) S))

module _ (A : TreeAutomaton) (R : List RewriteRule) (k : ℕ) (rule : RewriteRule) (l : k < length R) (is : rule ≡ get_or R k rule) where
  at_place : slice_get R k ≡ Some rule
  at_place = slice_get-get_or R k rule l ∙ ap (λ r. Some r) (sym is)

  behind : (S : List RewriteRule) → triples_from A 0 (take k R ++ S) ≡ triples_from A 0 (take k R) ++ triples_from A k S
  behind S =
      let long : 0 + length (take k R) ≡ k = omega (arith, length-take-le k R (omega (arith, l))) in
      triples-append A 0 (take k R) S ∙ ap (λ n. triples_from A 0 (take k R) ++ triples_from A n S) long

  parts : triples_from A 0 R ≡ triples_from A 0 (take k R) ++ (triples_of_rule A k rule ++ triples_from A (k + 1) (drop (k + 1) R))
  parts =
      let rest : drop k R ≡ rule ∷ drop (k + 1) R = drop_more R k rule l ∙ ap (λ r. r ∷ drop (k + 1) R) (sym is) in
      ap (triples_from A 0) (sym (take-append-drop k R) ∙ ap (λ S. take k R ++ S) rest) ∙ behind (rule ∷ drop (k + 1) R)

  -- the first open pair of the rule is that of all, where the rules before have none
  pub first_of_rules : (σ : List ℕ) (q : ℕ) → All (IsSettled A R) (triples_from A 0 (take k R)) → OpensFirst A rule (going_on A [] (length rule.vars)) (σ, q) → IsFirstOpen A R (pair_of k σ q)
  first_of_rules σ q none first =
      let of_rule : IsFirst (IsOpen A R) (IsSettled A R) (triples_of_rule A k rule) (pair_of k σ q) =
      subst (λ l. IsFirst (IsOpen A R) (IsSettled A R) l (pair_of k σ q)) (triples_numbered A k rule) (first_mapped (numbered k) (opens A R k rule at_place) (settles A R k rule at_place) (going_on A [] (length rule.vars)) (σ, q) first) in
      first_amid (triples_from A 0 R) (triples_from A 0 (take k R)) (triples_of_rule A k rule) (triples_from A (k + 1) (drop (k + 1) R)) (pair_of k σ q) parts none of_rule

  pub rules_more : All (IsSettled A R) (triples_from A 0 (take k R)) → All (Settles A rule) (going_on A [] (length rule.vars)) → All (IsSettled A R) (triples_from A 0 (take (k + 1) R))
  rules_more none one =
      let more : take (k + 1) R ≡ take k R ++ rule ∷ [] = take_more R k rule l ∙ ap (λ r. take k R ++ r ∷ []) (sym is) in
      let of_rule = of_rule_settled A R k rule at_place one in
      subst (All (IsSettled A R)) (sym (ap (triples_from A 0) more ∙ behind (rule ∷ [])))
      (All-append (IsSettled A R) (triples_from A 0 (take k R)) (triples_of_rule A k rule ++ []) none (subst (All (IsSettled A R)) (sym (append-nil (triples_of_rule A k rule))) of_rule))

-- ---- no open triple

none_open : (A : TreeAutomaton) (R : List RewriteRule) (pairs : List Pair) → All (IsSettled A R) pairs → OpenAmong A R pairs []
none_open A R [] all = OpenAmong.none
none_open A R (pair ∷ pairs) all = OpenAmong.settled_one (All-head (IsSettled A R) pair pairs all) (none_open A R pairs (All-tail (IsSettled A R) pair pairs all))

pub closed_if_settled : ClosedHasNoOpenPair → (A : TreeAutomaton) (R : List RewriteRule) → IsSound A → All IsRule R → All (IsSettled A R) (triples_from A 0 R) → Closed A R
closed_if_settled law A R sound rules all = (law A R sound rules).1 (none_open A R (triples_from A 0 R) all)
