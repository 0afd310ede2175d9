-- Bits, and the members that they stand for.
use Rattle.std.proofs.Common.{◌≡◌, ◌↔◌, ℕ, zero, suc, ◌/◌, ◌%◌, ◌<◌, ◌==◌, Bool, true, false, cond, List, [], ◌∷◌, get_or, Contains, refl, sym, ap, subst, ⊎_elim, arith}
use Rattle.std.specs.Int.{bit_at}
use Rattle.std.proofs.lemmas.Bool.{cases_lt}
use Rattle.std.proofs.lemmas.List.Elements.{Contains-append_left, Contains-append_right, Contains-append_cases}
use Rattle.std.proofs.lemmas.Map.Views.{exact_unsigned_eq}
use Rattle.reach_rows.specs.Bits.{Has}
use Rattle.state_match.specs.Sets.{members_of}
use Rattle.state_match.proofs.members.Members.{none, here, parts}

members_has : (words : List ℕ) (n q : ℕ) → Contains (members_of words n) q → (q < n) × Has words q
members_has words zero q i = absurd (none q i)
members_has words (suc n) q i = ⊎_elim
    (λ before. let h = members_has words n q before in (omega (arith, h.0), h.1))
    (λ last. one (bit_at (get_or words (n / 64) 0) (n % 64) == 1) refl last)
    (Contains-append_cases (members_of words n) (cond (bit_at (get_or words (n / 64) 0) (n % 64) == 1) (n ∷ []) []) q i)
  where
    one : (b : Bool) → (bit_at (get_or words (n / 64) 0) (n % 64) == 1) ≡ b → Contains (cond b (n ∷ []) []) q → (q < suc n) × Has words q
    one true e h = ⊎_elim
        (λ same. (omega (arith, same), subst (Has words) same (exact_unsigned_eq (bit_at (get_or words (n / 64) 0) (n % 64)) 1 e)))
        (λ no. absurd (none q no))
        (parts n q [] h)
    one false e h = absurd (none q h)

members_hold : (words : List ℕ) (n q : ℕ) → q < n → Has words q → Contains (members_of words n) q
members_hold words zero q l h = absurd (omega (arith, l))
members_hold words (suc n) q l h = ⊎_elim
    (λ below. Contains-append_left (members_of words n) (last n) q (members_hold words n q below h))
    (λ top. Contains-append_right (members_of words n) (last n) q (at (omega (arith, l, top))))
    (cases_lt q n)
  where
    last : ℕ → List ℕ
    last m = cond (bit_at (get_or words (m / 64) 0) (m % 64) == 1) (m ∷ []) []

    at : q ≡ n → Contains (last n) q
    at e = subst (λ m. Contains (last m) q) e (subst (λ (b : Bool). Contains (cond b (q ∷ []) []) q) (sym (ap (λ x. x == 1) h)) (here q []))

-- exactly those below the bound that the bits have
pub members_are : (words : List ℕ) (n q : ℕ) → Contains (members_of words n) q ↔ ((q < n) × Has words q)
members_are words n q = (λ i. members_has words n q i, λ h. members_hold words n q h.0 h.1)
