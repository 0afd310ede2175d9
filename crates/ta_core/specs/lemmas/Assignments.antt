-- States for the variables of a rule as a list: closed under a rule is closed at each list of states.
-- Nobody has to believe this: it is proved, for the proofs of the crates above.
use Rattle.std.proofs.Common.{◌≡◌, ℕ, ◌<◌, ◌==◌, List, map, length, get_or, All, Contains, sym, subst}
use Rattle.std.specs.List.{position_or_len}
use Rattle.std.proofs.lemmas.List.{length-map}
use Rattle.std.proofs.lemmas.List.Elements.{All-map, Contains-get_or}
use Rattle.list_laws.proofs.Positions.{place_within, mapped_place}
use Rattle.ranked_terms.specs.Terms.{assigned, occurrences}
use Rattle.ranked_terms.specs.declared.term.Pattern.{Pattern}
use Rattle.ranked_terms.specs.lemmas.InstanceLaws.{assigned-agree}
use Rattle.ranked_terms.specs.lemmas.VariableLaws.{variables_of-occurs, occurrences-in_variables_of}
use Rattle.trs_rules.specs.Rules.{RewriteRule, IsRule}
use Rattle.ta_core.specs.TreeAutomaton.{TreeAutomaton}
use Rattle.ta_core.specs.Runs.{Runs}
use Rattle.ta_core.specs.Closure.{IsClosedUnder, state_in, assigned_by}
use Rattle.ta_core.specs.ClosureLaws.{IsClosedAt}

-- ---- the variables of a rule

pub occurs_left : (rule : RewriteRule) → IsRule rule → (v : ℕ) → Contains rule.vars v → Contains (occurrences rule.left) v
occurs_left rule is v c = variables_of-occurs rule.left v (subst (λ vs. Contains vs v) is.vars_are c)

pub left_has : (rule : RewriteRule) → IsRule rule → (v : ℕ) → Contains (occurrences rule.left) v → Contains rule.vars v
left_has rule is v c = subst (λ vs. Contains vs v) (sym is.vars_are) (occurrences-in_variables_of rule.left v c)

-- ---- lists of states

pub state_in_map : (σ : ℕ → ℕ) (v : ℕ) (xs : List ℕ) → Contains xs v → state_in xs (map σ xs) v ≡ σ v
state_in_map σ v xs c = mapped_place σ v xs c

-- the states of a list are those that its assignment gives
pub each_is_state : (A : TreeAutomaton) (vars states : List ℕ) → length states ≡ length vars → All (Contains A.states) states → All (λ v. Contains A.states (state_in vars states v)) vars
each_is_state A vars states long all k d l =
    all _ 0 (subst (λ n. position_or_len (λ w. get_or vars k d == w) vars < n) (sym long) (place_within (get_or vars k d) vars (Contains-get_or vars k d l)))

pub listed : (rule : RewriteRule) (σ : ℕ → ℕ) (p : Pattern) → ((v : ℕ) → Contains (occurrences p) v → Contains rule.vars v) → assigned σ p ≡ assigned_by rule (map σ rule.vars) p
listed rule σ p has =
    assigned-agree σ (state_in rule.vars (map σ rule.vars)) p (λ k d l. sym (state_in_map σ _ rule.vars (has _ (Contains-get_or (occurrences p) k d l))))

pub closed_at_list : (A : TreeAutomaton) (rule : RewriteRule) → IsClosedUnder A rule → (states : List ℕ) → length states ≡ length rule.vars → All (Contains A.states) states → IsClosedAt A rule states
closed_at_list A rule closed states long all q r = closed (state_in rule.vars states) (each_is_state A rule.vars states long all) q r

pub closed_from_lists : (A : TreeAutomaton) (rule : RewriteRule) → IsRule rule →
    ((states : List ℕ) → length states ≡ length rule.vars → All (Contains A.states) states → IsClosedAt A rule states) → IsClosedUnder A rule
closed_from_lists A rule is closed σ all q r =
    let left = listed rule σ rule.left (left_has rule is) in
    let right = listed rule σ rule.right (λ v c. left_has rule is v (is.right_is_bound v c)) in
    subst (λ c. Runs A c q) (sym right)
    (closed (map σ rule.vars) (length-map rule.vars σ) (All-map (Contains A.states) σ rule.vars all) q (subst (λ c. Runs A c q) left r))
