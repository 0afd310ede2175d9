-- How many arguments the first transitions of a list have.
use Rattle.std.proofs.Common.{◌≡◌, ◌+◌, ◌<◌, ◌≤◌, ℕ, List, [], ◌∷◌, ◌++◌, map, length, get_or, take, drop, sym, ap, ◌∙◌, arith}
use Rattle.std.proofs.lemmas.List.{take-append-drop, drop_more, take_more, take_all}
use Rattle.std.proofs.lemmas.List.Sums.{sum_by-cons}
use Rattle.ta_core.specs.declared.trans.Trans.{Trans}
use Rattle.ta_clean.specs.Uses.{places_of}

places_cons : (t : Trans) (xs : List Trans) → places_of (t ∷ xs) ≡ length t.args + places_of xs
places_cons t xs = sum_by-cons (λ (n : ℕ). n) (length t.args) (map (λ (t : Trans). length t.args) xs)

places_append : (xs ys : List Trans) → places_of (xs ++ ys) ≡ places_of xs + places_of ys
places_append [] ys = omega arith
places_append (t ∷ xs) ys = omega (arith, places_append xs ys, places_cons t xs, places_cons t (xs ++ ys))

module _ (trans : List Trans) (k : ℕ) (t : Trans) (l : k < length trans) (is : t ≡ get_or trans k t) where
  -- those of the next one come behind
  pub places_through : places_of (take k trans) + length t.args ≤ places_of trans
  places_through =
      let parts : trans ≡ take k trans ++ (get_or trans k t ∷ drop (k + 1) trans) = sym (take-append-drop k trans) ∙ ap (λ rest. take k trans ++ rest) (drop_more trans k t l) in
      omega (arith, ap places_of parts, places_append (take k trans) (get_or trans k t ∷ drop (k + 1) trans), places_cons (get_or trans k t) (drop (k + 1) trans), ap (λ (x : Trans). length x.args) is)

  pub places_more : places_of (take (k + 1) trans) ≡ places_of (take k trans) + length t.args
  places_more =
      let more : take (k + 1) trans ≡ take k trans ++ t ∷ [] = take_more trans k t l ∙ ap (λ z. take k trans ++ z ∷ []) (sym is) in
      omega (arith, ap places_of more, places_append (take k trans) (t ∷ []), places_cons t [])

-- those of all are those of the list
pub places_all : (trans : List Trans) (k : ℕ) → length trans ≤ k → places_of (take k trans) ≡ places_of trans
places_all trans k l = ap places_of (take_all k trans l)
