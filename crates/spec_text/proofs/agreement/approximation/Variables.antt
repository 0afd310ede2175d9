-- The variables of an entry: those of its approximation rule, and its own.
use Rattle.std.proofs.Common.{◌≡◌, ℕ, ◌+◌, ◌≤◌, Bool, true, false, not, ◌&&◌, ◌||◌, ◌==◌, nat_le, List, [], ◌∷◌, ◌++◌, length, fold, refl, sym, ap, ◌∙◌, append_assoc, length-append, arith}
use Rattle.std.specs.Prelude.{if◌then◌else◌}
use Rattle.std.specs.List.{list_any}
use Rattle.std.proofs.lemmas.Bool.{leb-false, lt-leb}
use Rattle.std.proofs.lemmas.List.Folds.{list_any-append}
use Rattle.std.proofs.lemmas.List.Sums.{fold-append}
use Rattle.ranked_terms.specs.Terms.{with_variable as with_first}
use Rattle.spec_text.specs.Declarations.{has, with_variable}
use Rattle.spec_text.proofs.agreement.patterns.Variables.{has-any}

-- ---- an entry's own variables

-- one more, unless it is bound
abbrev pub own_with : List ℕ → List ℕ → ℕ → List ℕ
own_with bound own v = if has bound v then own else with_variable own v

abbrev pub own_after : List ℕ → List ℕ → List ℕ → List ℕ
own_after bound own vs = fold (own_with bound) own vs

has_both : (bound own : List ℕ) (v : ℕ) → list_any (λ w. v == w) (bound ++ own) ≡ (has bound v || has own v)
has_both bound own v = list_any-append (λ w. v == w) bound own ∙ (λ i. sym (has-any bound v) i || sym (has-any own v) i)

both_with : (bound own : List ℕ) (v : ℕ) → bound ++ own_with bound own v ≡ with_first (bound ++ own) v
both_with bound own v = by (has bound v) (has own v) ∙ ap (λ b. if b then bound ++ own else ((bound ++ own) ++ v ∷ [])) (sym (has_both bound own v))
  where
    by : (a b : Bool) → bound ++ (if a then own else (if b then own else (own ++ v ∷ []))) ≡ (if a || b then bound ++ own else ((bound ++ own) ++ v ∷ []))
    by true b = refl
    by false true = refl
    by false false = sym (append_assoc bound own (v ∷ []))

pub both_after : (bound own vs : List ℕ) → bound ++ own_after bound own vs ≡ fold with_first (bound ++ own) vs
both_after bound own [] = refl
both_after bound own (v ∷ vs) = both_after bound (own_with bound own v) vs ∙ ap (λ l. fold with_first l vs) (both_with bound own v)

-- ---- how many there are

pub no_fewer_with : (vs : List ℕ) (v : ℕ) → length vs ≤ length (with_first vs v)
no_fewer_with vs v = by (list_any (λ w. v == w) vs)
  where
    by : (b : Bool) → length vs ≤ length (if b then vs else (vs ++ v ∷ []))
    by true = omega arith
    by false = omega (arith, length-append vs (v ∷ []))

pub no_fewer : (vs xs : List ℕ) → length vs ≤ length (fold with_first vs xs)
no_fewer vs [] = omega arith
no_fewer vs (x ∷ xs) = omega (arith, no_fewer_with vs x, no_fewer (with_first vs x) xs)

-- at most so many variables stand in these lists, from the first of them on
abbrev pub IsFew : List ℕ → Type 0
IsFew vs = length vs ≤ 16

pub fewer : (vs xs ys : List ℕ) → IsFew (fold with_first vs (xs ++ ys)) → IsFew (fold with_first vs xs)
fewer vs xs ys h = omega (arith, h, no_fewer (fold with_first vs xs) ys, ap length (fold-append with_first vs xs ys))

-- a variable that would be the 17th
abbrev pub too_many : List ℕ → List ℕ → ℕ → Bool
too_many bound own v = not (has bound v || has own v) && nat_le 16 (length bound + length own)

room_by : (vs : List ℕ) (v : ℕ) (b : Bool) → IsFew vs → IsFew (if b then vs else (vs ++ v ∷ [])) → (not b && nat_le 16 (length vs)) ≡ false
room_by vs v true h k = refl
room_by vs v false h k = let few : length (vs ++ v ∷ []) ≤ 16 = k in lt-leb 16 (length vs) (omega (arith, few, length-append vs (v ∷ [])))

few_by : (vs : List ℕ) (v : ℕ) (b : Bool) → IsFew vs → (not b && nat_le 16 (length vs)) ≡ false → IsFew (if b then vs else (vs ++ v ∷ []))
few_by vs v true h e = h
few_by vs v false h e = omega (arith, leb-false 16 (length vs) e, length-append vs (v ∷ []))

tested : (bound own : List ℕ) (v : ℕ) → (not (list_any (λ w. v == w) (bound ++ own)) && nat_le 16 (length (bound ++ own))) ≡ too_many bound own v
tested bound own v = λ i. not (has_both bound own v i) && nat_le 16 (length-append bound own i)

pub room : (bound own : List ℕ) (v : ℕ) → IsFew (bound ++ own) → IsFew (with_first (bound ++ own) v) → too_many bound own v ≡ false
room bound own v h k = sym (tested bound own v) ∙ room_by (bound ++ own) v (list_any (λ w. v == w) (bound ++ own)) h k

pub few_with : (bound own : List ℕ) (v : ℕ) → IsFew (bound ++ own) → too_many bound own v ≡ false → IsFew (with_first (bound ++ own) v)
few_with bound own v h e = few_by (bound ++ own) v (list_any (λ w. v == w) (bound ++ own)) h (tested bound own v ∙ e)
