-- The first and the last element of a list.
use Rattle.std.proofs.Common.{◌≡◌, suc, ◌-◌, ◌<◌, List, [], ◌∷◌, ◌++◌, length, slice_get, Some, refl, sym, ap, ◌∙◌, arith, length-append}

pub last_cons : {A : Type 0} → (x : A) (xs : List A) → 0 < length xs → slice_get (x ∷ xs) (length (x ∷ xs) - 1) ≡ slice_get xs (length xs - 1)
last_cons x [] h = absurd (omega arith)
last_cons x (y ∷ xs) h =
    let e : length (x ∷ y ∷ xs) - 1 ≡ suc (length xs) = omega arith in
    let d : length xs ≡ length (y ∷ xs) - 1 = omega arith in
    ap (slice_get (x ∷ y ∷ xs)) e ∙ ap (slice_get (y ∷ xs)) d

pub last_append : {A : Type 0} → (before : List A) (x : A) (xs : List A) → slice_get (before ++ x ∷ xs) (length (before ++ x ∷ xs) - 1) ≡ slice_get (x ∷ xs) (length (x ∷ xs) - 1)
last_append [] x xs = refl
last_append (y ∷ before) x xs = last_cons y (before ++ x ∷ xs) (omega (arith, length-append before (x ∷ xs))) ∙ last_append before x xs

pub cut_last : {A : Type 0} → (x : A) (xs : List A) (t : A) → slice_get (x ∷ xs) (length (x ∷ xs) - 1) ≡ Some t → (before : List A) × (x ∷ xs ≡ before ++ t ∷ [])
cut_last x [] t e = ([], let h : x ≡ t = cc in ap (λ y. y ∷ []) h)
cut_last x (y ∷ xs) t e =
    let r = cut_last y xs t (sym (last_cons x (y ∷ xs) (omega arith)) ∙ e) in
    (x ∷ r.0, ap (λ ys. x ∷ ys) r.1)

pub first_append : {A : Type 0} → (before : List A) (t : A) (after : List A) → slice_get (before ++ t ∷ after) 0 ≡ slice_get (before ++ t ∷ []) 0
first_append [] t after = refl
first_append (x ∷ before) t after = refl
