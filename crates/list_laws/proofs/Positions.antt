-- The first place of a number in a list, and what stands there in another one.
use Rattle.std.proofs.Common.{◌≡◌, ℕ, suc, ◌+◌, ◌<◌, Bool, true, false, not, cond, ◌==◌, List, [], ◌∷◌, map, length, slice_index, Contains, refl, sym, ap, ◌∙◌, ⊎_elim, arith, ◌≤◌, Option, Some, None}
use Rattle.std.specs.List.{position_or_len}
use Rattle.std.proofs.lemmas.Bool.{eqb-true, eqb-false, ltb-false}
use Rattle.std.specs.Option.{unwrap_or}
use Rattle.std.proofs.Math.Dec.{ltb}
use Rattle.std.proofs.lemmas.List.Sums.{prefix_len-le-length}
use Rattle.list_laws.proofs.Members.{none, parts}

rest_has : (v x : ℕ) (xs : List ℕ) → Contains (x ∷ xs) v → (v == x) ≡ false → Contains xs v
rest_has v x xs c e = ⊎_elim (λ same. absurd (eqb-false v x e (sym same))) (λ later. later) (parts x v xs c)

-- a number of the list has a place in it
pub place_within : (v : ℕ) (xs : List ℕ) → Contains xs v → position_or_len (λ w. v == w) xs < length xs
place_within v [] c = absurd (none v c)
place_within v (x ∷ xs) c = by (λ e. place_within v xs (rest_has v x xs c e)) (v == x) refl
  where
    by : ((v == x) ≡ false → position_or_len (λ w. v == w) xs < length xs) → (b : Bool) → (v == x) ≡ b → cond (not b) (1 + position_or_len (λ w. v == w) xs) 0 < length (x ∷ xs)
    by later true e = omega arith
    by later false e = omega (arith, later e)

-- what stands at its place in a mapped list
pub mapped_place : (σ : ℕ → ℕ) (v : ℕ) (xs : List ℕ) → Contains xs v → slice_index (map σ xs) (position_or_len (λ w. v == w) xs) ≡ σ v
mapped_place σ v [] c = absurd (none v c)
mapped_place σ v (x ∷ xs) c = by (λ e. mapped_place σ v xs (rest_has v x xs c e)) (v == x) refl
  where
    by : ((v == x) ≡ false → slice_index (map σ xs) (position_or_len (λ w. v == w) xs) ≡ σ v) → (b : Bool) → (v == x) ≡ b → slice_index (σ x ∷ map σ xs) (cond (not b) (1 + position_or_len (λ w. v == w) xs) 0) ≡ σ v
    by later true e = ap σ (sym (eqb-true v x e))
    by later false e =
        let next : 1 + position_or_len (λ w. v == w) xs ≡ suc (position_or_len (λ w. v == w) xs) = omega arith in
        ap (slice_index (σ x ∷ map σ xs)) next ∙ later e

-- ---- searches

place_by : (n len : ℕ) (b : Bool) → ltb n len ≡ b → n ≤ len → unwrap_or (cond b (Some n) None) len ≡ n
place_by n len true e h = refl
place_by n len false e h = omega (arith, ltb-false n len e)

-- the place that was found, and the length where there is none
pub place_or_length : (p : ℕ → Bool) (xs : List ℕ) (o : Option ℕ) → o ≡ cond (ltb (position_or_len p xs) (length xs)) (Some (position_or_len p xs)) None → unwrap_or o (length xs) ≡ position_or_len p xs
place_or_length p xs o e =
    let n = position_or_len p xs in
    ap (λ r. unwrap_or r (length xs)) e ∙ place_by n (length xs) (ltb n (length xs)) refl (prefix_len-le-length (λ x. not (p x)) xs)
