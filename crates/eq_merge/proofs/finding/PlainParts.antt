-- An automaton and what is left of it without its epsilon transitions: they have the same ends, and equate the same.
use Rattle.std.proofs.Common.{◌≡◌, ◌==◌, ℕ, true, false, List, [], ◌∷◌, length, sym, subst, inl, inr, ⊎_elim, eqb-true, arith}
use Rattle.std.specs.List.{AllZip}
use Rattle.ranked_terms.specs.Terms.{assigned}
use Rattle.ranked_terms.specs.declared.term.Pattern.{Pattern}
use Rattle.ranked_terms.specs.declared.term.Config.{Config}
use Rattle.trs_rules.specs.Rules.{RewriteEquation}
use Rattle.ta_core.specs.TreeAutomaton.{TreeAutomaton}
use Rattle.ta_core.specs.Runs.{Runs, RunsPlain}
use Rattle.ta_core.specs.Closure.{state_in}
use Rattle.ta_core.specs.lemmas.RunsLaws.{run_of_plain, plain_of_run}
use Rattle.list_laws.proofs.Members.{none}
use Rattle.state_match.specs.Matches.{MatchesAt}
use Rattle.eq_merge.specs.Merging.{Equates}
use Rattle.eq_merge.specs.Ends.{AreEnds, AreEquatedBy, EndsAt, without_eps}

-- ---- where there are no epsilon transitions

module _ {M : TreeAutomaton} (no_eps : M.eps ≡ []) where
  without_is : without_eps M ≡ M
  without_is i = record M { eps = sym no_eps i }

  pub plain_match : {vars : List ℕ} {p : Pattern} {σ : List ℕ} {q : ℕ} → MatchesAt false M vars p σ q → MatchesAt true M vars p σ q
  plain_match {vars = vars} {p = p} {σ = σ} {q = q} m = record {
    each_variable = m.each_variable;
    are_states = m.are_states;
    runs = plain_of_run {A = M} (subst (λ B. Runs B (assigned (state_in vars σ) p) q) (sym without_is) m.runs);
  }

  pub any_match : {vars : List ℕ} {p : Pattern} {σ : List ℕ} {q : ℕ} → MatchesAt true M vars p σ q → MatchesAt false M vars p σ q
  any_match {vars = vars} {p = p} {σ = σ} {q = q} m = record {
    each_variable = m.each_variable;
    are_states = m.are_states;
    runs = subst (λ B. Runs B (assigned (state_in vars σ) p) q) without_is (run_of_plain m.runs);
  }

-- ---- an automaton without its epsilon transitions

module _ {A : TreeAutomaton} where
  plain_there : {c : Config} {q : ℕ} → RunsPlain A c q → RunsPlain (without_eps A) c q
  plain_there r = plain_of_run {A = without_eps A} (run_of_plain r)

  plain_here : {c : Config} {q : ℕ} → RunsPlain (without_eps A) c q → RunsPlain A c q
  plain_here r = plain_of_run {A = A} (run_of_plain r)

  end_there : {p : Pattern} {shared states : List ℕ} {q : ℕ} → EndsAt A p shared states q → EndsAt (without_eps A) p shared states q
  end_there x = record {
    σ = x.σ;
    is_match = record { each_variable = x.is_match.each_variable; are_states = x.is_match.are_states; runs = plain_there x.is_match.runs };
    same = x.same;
  }

  end_here : {p : Pattern} {shared states : List ℕ} {q : ℕ} → EndsAt (without_eps A) p shared states q → EndsAt A p shared states q
  end_here x = record {
    σ = x.σ;
    is_match = record { each_variable = x.is_match.each_variable; are_states = x.is_match.are_states; runs = plain_here x.is_match.runs };
    same = x.same;
  }

  ends_here : (e : RewriteEquation) (B : TreeAutomaton) → AreEnds (without_eps A) e B → AreEnds A e B
  ends_here e B are = record {
    shared = are.shared;
    are_shared = are.are_shared;
    next = are.next;
    exact = λ t. (
      λ c. ⊎_elim (λ h. inl (h.0, end_here h.1)) (λ h. inr (h.0, end_here h.1)) ((are.exact t).0 c),
      λ is. (are.exact t).1 (⊎_elim (λ h. inl (h.0, end_there h.1)) (λ h. inr (h.0, end_there h.1)) is),
    );
  }

  equates_there : {e : RewriteEquation} {p q : ℕ} → Equates A e p q → Equates (without_eps A) e p q
  equates_there x = record { σ = x.σ; are_states = x.are_states; left = plain_there x.left; right = plain_there x.right }

  equates_here : {e : RewriteEquation} {p q : ℕ} → Equates (without_eps A) e p q → Equates A e p q
  equates_here x = record { σ = x.σ; are_states = x.are_states; left = plain_here x.left; right = plain_here x.right }

  equated_there : (E : List RewriteEquation) (p q : ℕ) → AreEquatedBy A E p q → AreEquatedBy (without_eps A) E p q
  equated_there E p q x = (x.0, x.1, ⊎_elim (λ y. inl (equates_there y)) (λ y. inr (equates_there y)) x.2)

  equated_here : (E : List RewriteEquation) (p q : ℕ) → AreEquatedBy (without_eps A) E p q → AreEquatedBy A E p q
  equated_here E p q x = (x.0, x.1, ⊎_elim (λ y. inl (equates_here y)) (λ y. inr (equates_here y)) x.2)

all_ends_here : (A : TreeAutomaton) (E : List RewriteEquation) (all : List TreeAutomaton) → AllZip (AreEnds (without_eps A)) E all → AllZip (AreEnds A) E all
all_ends_here A [] [] z = z
all_ends_here A [] (B ∷ all) z = absurd z
all_ends_here A (e ∷ E) [] z = absurd z
all_ends_here A (e ∷ E) (B ∷ all) z = (ends_here e B z.0, all_ends_here A E all z.1)

-- ---- told of an automaton that is this one

pub all_ends_in : (A M : TreeAutomaton) → M ≡ without_eps A → (E : List RewriteEquation) (all : List TreeAutomaton) → AllZip (AreEnds M) E all → AllZip (AreEnds A) E all
all_ends_in A M is E all z = all_ends_here A E all (subst (λ B. AllZip (AreEnds B) E all) is z)

pub equated_in : (A M : TreeAutomaton) → M ≡ without_eps A → (E : List RewriteEquation) (p q : ℕ) → AreEquatedBy M E p q → AreEquatedBy A E p q
equated_in A M is E p q x = equated_here E p q (subst (λ B. AreEquatedBy B E p q) is x)

pub equated_from : (A M : TreeAutomaton) → M ≡ without_eps A → (E : List RewriteEquation) (p q : ℕ) → AreEquatedBy A E p q → AreEquatedBy M E p q
equated_from A M is E p q x = subst (λ B. AreEquatedBy B E p q) (sym is) (equated_there E p q x)

-- where there is no equation
pub none_equated : (A : TreeAutomaton) (E : List RewriteEquation) → (length E == 0) ≡ true → (p q : ℕ) → AreEquatedBy A E p q → ⊥
none_equated A [] is p q x = none x.0 x.1
none_equated A (e ∷ E) is p q x = let h = eqb-true (length (e ∷ E)) 0 is in omega (arith, h)
