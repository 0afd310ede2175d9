-- Lists of numbers in which no two are the same.
use Rattle.std.proofs.Common.{◌≢◌, ℕ, suc, ◌+◌, ◌<◌, List, [], ◌∷◌, ◌++◌, length, Contains, sym, ◌∙◌, length-append, arith}
use Rattle.std.specs.List.{AllPairs, AllByRecursion}
use Rattle.std.proofs.lemmas.List.{get_or_append_left, get_or-append-add}
use Rattle.std.proofs.lemmas.List.Elements.{recursion_from_All, All-from_recursion}
use Rattle.std.proofs.lemmas.List.Kept.{AllPairs-cons}

abbrev pub AreDifferent : List ℕ → Type 0
AreDifferent vs = AllPairs (λ v w. v ≢ w) vs

pub none_differ : AreDifferent []
none_differ i j d lt l = absurd (omega (arith, l))

-- the first number is none of the others, and these differ
pub first_differs : (x : ℕ) (vs : List ℕ) → AreDifferent (x ∷ vs) → AllByRecursion (λ v. x ≢ v) vs
first_differs x vs h = recursion_from_All (λ v. x ≢ v) vs (λ k d l. h 0 (suc k) d (omega arith) (omega (arith, l)))

pub rest_differs : (x : ℕ) (vs : List ℕ) → AreDifferent (x ∷ vs) → AreDifferent vs
rest_differs x vs h i j d lt l = h (suc i) (suc j) d (omega (arith, lt)) (omega (arith, l))

pub more_differ : (x : ℕ) (vs : List ℕ) → AllByRecursion (λ v. x ≢ v) vs → AreDifferent vs → AreDifferent (x ∷ vs)
more_differ x vs first rest = AllPairs-cons (λ v w. v ≢ w) x vs (All-from_recursion (λ v. x ≢ v) vs first) rest

-- ---- in two parts

pub front_differs : (xs ys : List ℕ) → AreDifferent (xs ++ ys) → AreDifferent xs
front_differs xs ys h i j d lt l =
    let long = length-append xs ys in
    let at : i < length xs = omega arith in
    λ e. h i j d lt (omega arith) (get_or_append_left xs ys d i at ∙ (e ∙ sym (get_or_append_left xs ys d j l)))

pub back_differs : (xs ys : List ℕ) → AreDifferent (xs ++ ys) → AreDifferent ys
back_differs xs ys h i j d lt l =
    let long = length-append xs ys in
    λ e. h (length xs + i) (length xs + j) d (omega arith) (omega arith) (get_or-append-add xs ys i d ∙ (e ∙ sym (get_or-append-add xs ys j d)))

pub not_in_both : (xs ys : List ℕ) (v : ℕ) → AreDifferent (xs ++ ys) → Contains xs v → Contains ys v → ⊥
not_in_both xs ys v h c e =
    let long = length-append xs ys in
    h c.0 (length xs + e.0) v (omega (arith, c.1)) (omega (arith, e.1)) (get_or_append_left xs ys v c.0 c.1 ∙ (c.2 ∙ sym (get_or-append-add xs ys e.0 v ∙ e.2)))
