-- Normalising a pair, and pairs one after the other, with a limit.
use Rattle.std.proofs.Common.{◌≡◌, ℕ, get_or, List, [], ◌∷◌, ◌++◌, length, Some, All, Contains, refl, sym, ap, subst, ◌∙◌, ⊎_elim, inl, arith, Bool, true, false, eq-eqb, ne_eqb, ◌&&◌, IsTrue, nat_lt, true≢false, Result, Ok, Err, IfOk, OnOk, IsErr}
use Rattle.std.specs.List.{slice_get}
use Rattle.std.proofs.lemmas.Bool.{ltb-true}
use Rattle.std.proofs.lemmas.Option.{get_or_from_slice_get}
use Rattle.std.proofs.lemmas.List.Elements.{All-contains, All-weaker, All-nil, All-cons, Contains-append_right}
use Rattle.ranked_terms.specs.Terms.{occurrences}
use Rattle.trs_rules.specs.Rules.{RewriteRule, IsRule}
use Rattle.trs_rules.specs.declared.entry.Entry.{Entry}
use Rattle.trs_rules.specs.declared.sigma.Pair.{Pair}
use Rattle.list_laws.proofs.Decided.{same_number}
use Rattle.list_laws.proofs.Members.{there, all_from_members}
use Rattle.ta_core.specs.TreeAutomaton.{TreeAutomaton}
use Rattle.ta_core.specs.Acceptance.{image}
use Rattle.ta_core.specs.SpecRules.{entries_are_below, shape_is_below}
use Rattle.ta_core.specs.Closure.{state_in, assigned_by, IsSettled, IsTriple}
use Rattle.ta_core.specs.Runs.{Runs}
use Rattle.ta_core.specs.Growth.{with_eps}
use Rattle.ta_core.specs.lemmas.Assignments.{each_is_state, left_has}
use Rattle.normalise.specs.Normalising.{Context, task_of, Normalised, NormalisedAll, NeedsMore, StaysWithin, NeedsMoreFor, NeedMoreFor}
use Rattle.normalise.specs.AtWork.{HasStates, PutNeedsMore}
use Rattle.normalise.specs.NormalisingLaws.{IsGrown, NamesRule}
use Rattle.normalise.proofs.Existence.{all_are_normalised}
use Rattle.normalise.proofs.OneResult.{normalised_is_one, normalised_all_is_one}
use Rattle.normalise.proofs.Parts.{of_assigned}
use Rattle.normalise.proofs.PutSteps.{put_runs, eps_runs, stays_on}
use Rattle.normalise.proofs.Stays.{normalised_all_grows}

-- ---- what is asked of a pair

pub right_stands : (A : TreeAutomaton) (rule : RewriteRule) (σ : List ℕ) → IsRule rule → length σ ≡ length rule.vars → All (Contains A.states) σ → HasStates A (assigned_by rule σ rule.right)
right_stands A rule σ is long all =
    of_assigned (Contains A.states) (state_in rule.vars σ) rule.right (all_from_members (λ v. Contains A.states (state_in rule.vars σ v)) (occurrences rule.right)
    (λ v c. All-contains (λ v. Contains A.states (state_in rule.vars σ v)) rule.vars v (each_is_state A rule.vars σ long all) (left_has rule is v (is.right_is_bound v c))))

pub targets_stand : (A : TreeAutomaton) (h : List ℕ) (entries : List Entry) → All (Contains A.states) h → IsTrue (entries_are_below (length h) entries) → All (λ (e : Entry). Contains A.states (image h e.target)) entries
targets_stand A h [] all below = All-nil (λ (e : Entry). Contains A.states (image h e.target))
targets_stand A h (e ∷ entries) all below =
    let n = length h in
    let w = shape_is_below n e.whole in
    let a = shape_is_below n e.at in
    let o = shape_is_below n e.node in
    let t = nat_lt e.target n in
    let parts' = four w a o t (entries_are_below n entries) below in
    All-cons (λ (e : Entry). Contains A.states (image h e.target)) e entries (all e.target 0 (ltb-true e.target n parts'.0)) (targets_stand A h entries all parts'.1)
  where
    four : (w a o t rest : Bool) → IsTrue ((w && a && o && t) && rest) → IsTrue t × IsTrue rest
    four true true true true true h = (refl, refl)
    four true true true true false h = absurd (true≢false (sym h))
    four true true true false rest h = absurd (true≢false (sym h))
    four true true false t rest h = absurd (true≢false (sym h))
    four true false o t rest h = absurd (true≢false (sym h))
    four false a o t rest h = absurd (true≢false (sym h))

pub pair_needs : (context : Context) (most : ℕ) (A : TreeAutomaton) (pair : Pair) (rule : RewriteRule) → slice_get context.rules pair.rule ≡ Some rule →
    PutNeedsMore (task_of context rule pair) most A (assigned_by rule pair.sigma rule.right) → NeedsMoreFor context most A pair
pair_needs context most A pair rule is needs =
    let B = with_eps needs.grown needs.state pair.state in
    let same = eps_next needs.grown needs.state pair.state in
    let a = needs.needs.some in
    let b = needs.needs.above in
    record {
      state = needs.state;
      grown = B;
      normalised = record { rule = rule; is_rule = is; put = needs.grown; puts = needs.puts; led = refl };
      needs = record { some = omega (arith, a, same); above = omega (arith, b, same) };
    }
  where
    eps_next : (A : TreeAutomaton) (p q : ℕ) → (with_eps A p q).next ≡ A.next
    eps_next A p q = ⊎_elim (λ e. rw (eq-eqb p q e) refl) (λ d. rw (ne_eqb p q d) refl) (same_number p q)

-- afterwards the pair isn't open
pub pair_settled : (context : Context) (A B : TreeAutomaton) (pair : Pair) (q : ℕ) (n : Normalised context A pair q B) → HasStates A (assigned_by n.rule pair.sigma n.rule.right) → IsSettled B context.rules pair
pair_settled context A B pair q n stand = record {
  rule = n.rule;
  is_rule = n.is_rule;
  follows = λ left. subst (λ (X : TreeAutomaton). Runs X (assigned_by n.rule pair.sigma n.rule.right) pair.state) (sym n.led)
      (eps_runs n.put q pair.state (assigned_by n.rule pair.sigma n.rule.right)
      (put_runs (task_of context n.rule pair) (assigned_by n.rule pair.sigma n.rule.right) A stand q n.put n.puts));
}

pub eps_within : (most : ℕ) (A M B : TreeAutomaton) (p q : ℕ) → StaysWithin most A M → B ≡ with_eps M p q → StaysWithin most A B
eps_within most A M B p q within same =
    stays_on most A M B within (inl (ap (λ (X : TreeAutomaton). X.next) same ∙ ⊎_elim (λ e. rw (eq-eqb p q e) refl) (λ d. rw (ne_eqb p q d) refl) (same_number p q)))

pub same_place : (R : List RewriteRule) (i : ℕ) (r rule : RewriteRule) → slice_get R i ≡ Some r → rule ≡ get_or R i rule → r ≡ rule
same_place R i r rule is at = sym (at ∙ get_or_from_slice_get R i r rule is)

-- what is needed and what is exceeded exclude each other
pub never_both : (most : ℕ) (A B : TreeAutomaton) → StaysWithin most A B → NeedsMore most A B → ⊥
never_both most A B within needs =
    let a = needs.some in
    let b = needs.above in
    ⊎_elim (λ e. omega (arith, a, e)) (λ h. omega (arith, b, h)) within

pub one_only : {E : Type 0} (context : Context) (most : ℕ) (A B : TreeAutomaton) (pair : Pair) (r : Result ℕ E) → IfOk r (λ p. Normalised context A pair p B) → OnOk r (StaysWithin most A B) → NeedsMoreFor context most A pair → IsErr r
one_only context most A B pair (Ok p) ok within needs =
    let e = normalised_is_one context A B needs.grown pair p needs.state ok needs.normalised in
    absurd (never_both most A B within (subst (NeedsMore most A) (sym e.1) needs.needs))
one_only context most A B pair (Err x) ok within needs = refl

pub all_only : {E : Type 0} (context : Context) (most : ℕ) (A : TreeAutomaton) (pairs : List Pair) (r : Result TreeAutomaton E) → IfOk r (λ B. NormalisedAll context A pairs B) → IfOk r (λ B. StaysWithin most A B) →
    NeedMoreFor context most A pairs → IsErr r
all_only context most A pairs (Ok B) ok within needs =
    let e = normalised_all_is_one context A B needs.grown pairs ok needs.normalised in
    absurd (never_both most A B within (subst (NeedsMore most A) (sym e) needs.needs))
all_only context most A pairs (Err x) ok within needs = refl

-- ---- pairs one after the other

pub two_normalised : {context : Context} {A B C : TreeAutomaton} {ps qs : List Pair} → NormalisedAll context A ps B → NormalisedAll context B qs C → NormalisedAll context A (ps ++ qs) C
two_normalised NormalisedAll.none rest = rest
two_normalised (NormalisedAll.more first others) rest = NormalisedAll.more first (two_normalised others rest)

pub triple_on : (A B : TreeAutomaton) (R : List RewriteRule) (pair : Pair) → IsGrown A B → IsTriple A R pair → IsTriple B R pair
triple_on A B R pair g t = record {
  rule = t.rule;
  is_rule = t.is_rule;
  each_variable = t.each_variable;
  are_states = All-weaker (Contains A.states) (Contains B.states) g.within.states pair.sigma t.are_states;
  is_state = g.within.states pair.state t.is_state;
}

pub pairs_need : (context : Context) (most : ℕ) (A M : TreeAutomaton) (pairs before behind : List Pair) (pair : Pair) → before ++ pair ∷ behind ≡ pairs → All (IsTriple A context.rules) pairs → NormalisedAll context A before M →
    NeedsMoreFor context most M pair → NeedMoreFor context most A pairs
pairs_need context most A M pairs before behind pair is triples so_far needs =
    let names : All (NamesRule context.rules) behind = all_from_members (NamesRule context.rules) behind (λ x c.
    let t = All-contains (IsTriple A context.rules) pairs x triples (subst (λ xs. Contains xs x) is (Contains-append_right before (pair ∷ behind) x (there pair x behind c))) in
    (t.rule, t.is_rule)) in
    let rest = all_are_normalised context needs.grown behind names in
    let all : NormalisedAll context A (before ++ pair ∷ behind) rest.grown = two_normalised so_far (NormalisedAll.more needs.normalised rest.normalised) in
    let a = (normalised_all_grows context A M before so_far).next in
    let b = (normalised_all_grows context needs.grown rest.grown behind rest.normalised).next in
    let d = needs.needs.some in
    let e = needs.needs.above in
    record {
      grown = rest.grown;
      normalised = subst (λ ps. NormalisedAll context A ps rest.grown) is all;
      needs = record { some = omega (arith, a, b, d); above = omega (arith, b, e) };
    }
