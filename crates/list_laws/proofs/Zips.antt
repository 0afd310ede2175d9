-- Numbers that are members of the sets at their places.
use Rattle.std.proofs.Common.{◌≡◌, ◌↔◌, ℕ, zero, suc, ◌<◌, Bool, true, false, List, [], ◌∷◌, zip, length, IsTrue, Contains, refl, sym, ap, true≢false, arith}
use Rattle.std.specs.Bool.{MatchBool}
use Rattle.std.specs.List.{AllZip, AllWithin, HoldsAt}

zip_from_within : (qs : List ℕ) (sets : List (List ℕ)) → length qs ≡ length sets → AllWithin (λ (p : ℕ × List ℕ). Contains p.1 p.0) (zip qs sets) 0 (length (zip qs sets)) → AllZip Contains sets qs
zip_from_within [] [] e h = tt
zip_from_within [] (s ∷ sets) e h = absurd (omega arith)
zip_from_within (q ∷ qs) [] e h = absurd (omega arith)
zip_from_within (q ∷ qs) (s ∷ sets) e h = (h 0 (q, s) (omega arith) (omega arith), zip_from_within qs sets (omega arith) (λ k d low high. h (suc k) d (omega arith) (omega arith)))

zip_fails : (qs : List ℕ) (sets : List (List ℕ)) (k : ℕ) → k < length (zip qs sets) → HoldsAt (λ (p : ℕ × List ℕ). ¬ Contains p.1 p.0) (zip qs sets) k → AllZip Contains sets qs → ⊥
zip_fails [] sets k l h z = absurd (omega arith)
zip_fails (q ∷ qs) [] k l h z = absurd (omega arith)
zip_fails (q ∷ qs) (s ∷ sets) zero l h z = h (q, s) z.0
zip_fails (q ∷ qs) (s ∷ sets) (suc k) l h z = zip_fails qs sets k (omega arith) h z.1

-- what a search for one that is no member says
pub zip_answers : (qs : List ℕ) (sets : List (List ℕ)) (r : Bool) → length qs ≡ length sets
    → MatchBool r (AllWithin (λ (p : ℕ × List ℕ). Contains p.1 p.0) (zip qs sets) 0 (length (zip qs sets))) ((k : ℕ) × (k < length (zip qs sets)) × HoldsAt (λ (p : ℕ × List ℕ). ¬ Contains p.1 p.0) (zip qs sets) k)
    → IsTrue r ↔ AllZip Contains sets qs
zip_answers qs sets true e h = (λ _. zip_from_within qs sets e h, λ _. refl)
zip_answers qs sets false e h = (λ t. absurd (true≢false (sym t)), λ z. absurd (zip_fails qs sets h.0 h.1 h.2 z))

pub zip_length : (sets : List (List ℕ)) (qs : List ℕ) → AllZip Contains sets qs → length sets ≡ length qs
zip_length [] [] z = refl
zip_length [] (q ∷ qs) z = absurd z
zip_length (s ∷ sets) [] z = absurd z
zip_length (s ∷ sets) (q ∷ qs) z = ap suc (zip_length sets qs z.1)
