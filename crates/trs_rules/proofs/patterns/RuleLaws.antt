-- A pattern that is one variable, and patterns with few variables.
use Rattle.std.proofs.Common.{◌≡◌, ℕ, ◌<◌, ◌≤◌, Bool, true, false, not, ◌==◌, ◌||◌, cond, List, [], ◌∷◌, length, Option, Some, None, refl, sym, ap, ◌∙◌, arith}
use Rattle.std.specs.List.{find}
use Rattle.std.proofs.lemmas.Cmp.{nat_eq_equiv}
use Rattle.ranked_terms.specs.Terms.{occurrences}
use Rattle.ranked_terms.specs.declared.term.Pattern.{Pattern}
use Rattle.trs_rules.specs.Rules.{IsVariable}
use Rattle.trs_rules.specs.Variables.{is_in, first_repeat, first_free}
use Rattle.ranked_terms.specs.lemmas.TermLaws.{occurrences_var}
use Rattle.trs_rules.proofs.patterns.RepeatLaws.{either}
use Rattle.std.specs.Option.{is_some}

-- ---- one variable

some_or : (a b : Bool) → a ≡ b → (x : ℕ) (o : Option ℕ) (r : Bool) → is_some o ≡ r → is_some (cond (a || a) (Some x) o) ≡ (b || r)
some_or true b e x o r h = ap (λ c. c || r) e
some_or false b e x o r h = h ∙ ap (λ c. c || r) e

found_in : (v : ℕ) (vs : List ℕ) → is_some (find (either v v) vs) ≡ is_in vs v
found_in v [] = refl
found_in v (x ∷ vs) = some_or (x == v) (v == x) (nat_eq_equiv.symm x v) x (find (either v v) vs) (is_in vs v) (found_in v vs)

free_one : (bound vs : List ℕ) (v : ℕ) → vs ≡ v ∷ [] → first_free bound vs ≡ cond (not (is_in bound v)) (Some v) None
free_one bound vs v e = ap (first_free bound) e

pub bound_one : (bound vs : List ℕ) (v : ℕ) (o : Option ℕ) → vs ≡ v ∷ [] → o ≡ find (either v v) bound → is_some o ≡ true → None ≡ first_free bound vs
bound_one bound vs v o is e h =
    let k : is_in bound v ≡ true = sym (found_in v bound) ∙ (ap is_some (sym e) ∙ h) in
    sym (free_one bound vs v is ∙ ap (λ b. cond (not b) (Some v) None) k)

pub free_alone : (bound vs : List ℕ) (v : ℕ) (o : Option ℕ) → vs ≡ v ∷ [] → o ≡ find (either v v) bound → is_some o ≡ false → Some v ≡ first_free bound vs
free_alone bound vs v o is e h =
    let k : is_in bound v ≡ false = sym (found_in v bound) ∙ (ap is_some (sym e) ∙ h) in
    sym (free_one bound vs v is ∙ ap (λ b. cond (not b) (Some v) None) k)

pub variable_is_linear : (p : Pattern) → IsVariable p → first_repeat (occurrences p) ≡ None
variable_is_linear p h = ap (λ q. first_repeat (occurrences q)) h.1 ∙ ap first_repeat (occurrences_var h.0)

-- ---- few variables

few : (n : ℕ) → (16 < n → ⊥) → n ≤ 16
few n h = omega (arith, h)

pub no_more : (vs ws : List ℕ) → vs ≡ ws → (16 < length ws → false ≡ true) → length vs ≤ 16
no_more vs ws e h = few (length vs) (λ l. let k = h (omega (arith, ap length e)) in cc)
