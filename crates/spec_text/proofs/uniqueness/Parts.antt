-- Specifications with the same parts are one specification: what always holds of them besides is a proposition.
use Rattle.std.proofs.Common.{◌≡◌, ℕ, ◌+◌, ◌≤◌, Bool, true, false, List, [], ◌∷◌, length, IsTrue, refl, sym, ap, ◌∙◌, arith}
use Rattle.std.specs.List.{range_with_len}
use Rattle.std.proofs.Math.Bool.{Bool-set}
use Rattle.std.proofs.Math.Bridge.{le_prop}
use Rattle.std.proofs.Math.Nat.{ℕ_set}
use Rattle.std.proofs.Math.Path.{PathP}
use mathlib.Core.HLevel.{is_prop→PathP}
use mathlib.Core.List.{is_set}
use mathlib.Core.Path.{path_j'}
use Rattle.ta_core.specs.SpecRules.{rules_are_over, equations_are_over, entries_are_over, entries_are_below, entries_are_small, automaton_is_over}
use Rattle.ta_core.specs.declared.spec.Spec.{Spec}

-- ---- propositions

module _ {X : Type 0} where
  from_length : (xs : List X) → length xs ≡ 0 → xs ≡ []
  from_length [] e = refl
  from_length (x ∷ xs) e = absurd (omega arith)

  from_its_length : (xs : List X) (e : xs ≡ []) → from_length xs (ap length e) ≡ e
  unfolding from_length
  from_its_length xs e = path_j' (λ ys p. from_length ys (ap length p) ≡ p) refl e

  -- that a list is empty
  nil_prop : (xs : List X) → IsProp (xs ≡ [])
  nil_prop xs p q = sym (from_its_length xs p) ∙ (ap (from_length xs) (ℕ_set (length xs) 0 (ap length p) (ap length q)) ∙ from_its_length xs q)

numbers_set : IsSet (List ℕ)
numbers_set = is_set ℕ_set

-- the same fact of two that are one
same_test : (test : 𝕀 → Bool) (p : IsTrue (test 0)) (q : IsTrue (test 1)) → PathP (λ i. IsTrue (test i)) p q
same_test test p q = is_prop→PathP (λ i. IsTrue (test i)) (λ i. Bool-set (test i) true) p q

same_numbers : (xs ys : 𝕀 → List ℕ) (p : xs 0 ≡ ys 0) (q : xs 1 ≡ ys 1) → PathP (λ i. xs i ≡ ys i) p q
same_numbers xs ys p q = is_prop→PathP (λ i. xs i ≡ ys i) (λ i. numbers_set (xs i) (ys i)) p q

-- ---- specifications

pub same_spec : (a b : Spec) → a.signature ≡ b.signature → a.vars ≡ b.vars → a.rules ≡ b.rules → a.equations ≡ b.equations → a.entries ≡ b.entries → a.extra ≡ b.extra → a.approximated ≡ b.approximated → a.initial ≡ b.initial → a.forbidden ≡ b.forbidden → a ≡ b
same_spec a b signature vars rules equations entries extra approximated initial forbidden = λ i. record {
  signature = signature i;
  vars = vars i;
  rules = rules i;
  equations = equations i;
  entries = entries i;
  extra = extra i;
  approximated = approximated i;
  initial = initial i;
  forbidden = forbidden i;
  rules_over = same_test (λ j. rules_are_over (signature j) (rules j)) a.rules_over b.rules_over i;
  equations_over = same_test (λ j. equations_are_over (signature j) (equations j)) a.equations_over b.equations_over i;
  entries_over = same_test (λ j. entries_are_over (signature j) (entries j)) a.entries_over b.entries_over i;
  initial_over = same_test (λ j. automaton_is_over (signature j) (initial j)) a.initial_over b.initial_over i;
  forbidden_over = same_test (λ j. automaton_is_over (signature j) (forbidden j)) a.forbidden_over b.forbidden_over i;
  initial_states = same_numbers (λ j. (initial j).states) (λ j. range_with_len 0 (initial j).next) a.initial_states b.initial_states i;
  forbidden_states = same_numbers (λ j. (forbidden j).states) (λ j. range_with_len 0 (forbidden j).next) a.forbidden_states b.forbidden_states i;
  few_states = is_prop→PathP (λ j. (initial j).next + extra j ≤ 16384) (λ j. le_prop) a.few_states b.few_states i;
  entries_below = same_test (λ j. entries_are_below ((initial j).next + extra j) (entries j)) a.entries_below b.entries_below i;
  entries_small = same_test (λ j. entries_are_small (entries j)) a.entries_small b.entries_small i;
  no_extra = is_prop→PathP (λ j. approximated j ≡ false → extra j ≡ 0) (λ j h k. λ t e. ℕ_set (extra j) 0 (h e) (k e) t) a.no_extra b.no_extra i;
  no_entries = is_prop→PathP (λ j. approximated j ≡ false → entries j ≡ []) (λ j h k. λ t e. nil_prop (entries j) (h e) (k e) t) a.no_entries b.no_entries i;
}
