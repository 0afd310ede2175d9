-- The search for `*)`.
use Rattle.std.proofs.Common.{◌≡◌, ◌≢◌, ◌⊎◌, inl, inr, ℕ, zero, suc, ◌+◌, ◌<◌, ◌==◌, ◌&&◌, Bool, true, false, cond, List, [], ◌∷◌, Option, Some, None, length, drop, get_or, refl, ap, arith}
use Rattle.std.specs.Prelude.{option_map}
use Rattle.std.proofs.lemmas.Bool.{ne_eqb}
use Rattle.timbuk_lex.specs.Bytes.{close_at}

abbrev pub shifted : ℕ → Option ℕ → Option ℕ
shifted n None = None
shifted n (Some k) = Some (n + k)

pub shifted_once : (n m : ℕ) (o : Option ℕ) → m ≡ n + 1 → shifted n (option_map suc o) ≡ shifted m o
shifted_once n m None e = refl
shifted_once n m (Some k) e = let s : n + suc k ≡ m + k = omega arith in ap Some s

pub shifted_zero : (o : Option ℕ) → shifted 0 o ≡ o
shifted_zero None = refl
shifted_zero (Some k) = let s : 0 + k ≡ k = omega arith in ap Some s

pub close_here : (bs : List ℕ) (i j : ℕ) → j ≡ suc i → j < length bs → get_or bs i 0 ≡ 42 → get_or bs j 0 ≡ 41 → close_at (drop i bs) ≡ Some 0
unfolding close_at
close_here [] i j e h p q = absurd (omega arith)
close_here (b ∷ bs) zero j e h p q = let q' : get_or bs 0 0 ≡ 41 = rw e at q in rw (p, q') refl
close_here (b ∷ bs) (suc i) zero e h p q = absurd (omega arith)
close_here (b ∷ bs) (suc i) (suc j) e h p q = close_here bs i j (omega arith) (omega arith) p q

and_no : (b : Bool) → (b && false) ≡ false
and_no true = refl
and_no false = refl

not_both : (x y : ℕ) → (x ≢ 42) ⊎ (y ≢ 41) → (x == 42 && y == 41) ≡ false
not_both x y (inl h) = rw (ne_eqb _ _ h) refl
not_both x y (inr h) = rw (ne_eqb _ _ h) (and_no (x == 42))

pub close_on : (bs : List ℕ) (i j : ℕ) → j ≡ suc i → j < length bs → (get_or bs i 0 ≢ 42) ⊎ (get_or bs j 0 ≢ 41) → close_at (drop i bs) ≡ option_map suc (close_at (drop j bs))
unfolding close_at
close_on [] i j e h p = absurd (omega arith)
close_on (b ∷ bs) zero j e h p = let q = not_both b (get_or (b ∷ bs) 1 0) (rw e at p) in rw (e, q) refl
close_on (b ∷ bs) (suc i) zero e h p = absurd (omega arith)
close_on (b ∷ bs) (suc i) (suc j) e h p = close_on bs i j (omega arith) (omega arith) p

no_pair : (b : Bool) → cond {A = Option ℕ} (b && false) (Some 0) None ≡ None
no_pair true = refl
no_pair false = refl

pub close_short : (bs : List ℕ) (i : ℕ) → length bs < i + 2 → close_at (drop i bs) ≡ None
unfolding close_at
close_short [] zero h = refl
close_short [] (suc i) h = refl
close_short (b ∷ []) zero h = no_pair (b == 42)
close_short (b ∷ c ∷ bs) zero h = absurd (omega arith)
close_short (b ∷ bs) (suc i) h = close_short bs i (omega arith)
