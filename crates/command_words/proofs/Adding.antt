-- A command to which arguments are added one after the other.
use Rattle.std.proofs.Common.{◌≡◌, ◌∙◌, ℕ, ◌+◌, ◌<◌, ◌≤◌, Bor, sym, ap, List, [], ◌∷◌, map, length, get_or, take, fold}
use Rattle.std.proofs.lemmas.List.{take_more, take_all, map-append}
use Rattle.std.proofs.lemmas.List.Sums.{fold-append}

module _ {A X : Type 0} (step : A → X → A) (start : A) (names : List (Bor X)) where
  abbrev texts : List (Bor X) → List X
  texts names = map (λ s. s.now) names

  one_more : (i : ℕ) (d : Bor X) → i < length names → fold step start (texts (take (i + 1) names)) ≡ step (fold step start (texts (take i names))) (get_or names i d).now
  one_more i d l =
      ap (λ names. fold step start (texts names)) (take_more names i d l)
      ∙ (ap (fold step start) (map-append (λ (s : Bor X). s.now) (take i names) (get_or names i d ∷ [])) ∙ fold-append step start (texts (take i names)) ((get_or names i d).now ∷ []))

  pub all_added : (i : ℕ) → length names ≤ i → fold step start (texts (take i names)) ≡ fold step start (texts names)
  all_added i l = ap (λ names. fold step start (texts names)) (take_all i names l)

  -- the item that comes next
  pub next : (i : ℕ) (d : Bor X) → i < length names → (now new : A) → now ≡ fold step start (texts (take i names)) → new ≡ step now (get_or names i d).now → new ≡ fold step start (texts (take (i + 1) names))
  next i d l now new is more = more ∙ (ap (λ a. step a (get_or names i d).now) is ∙ sym (one_more i d l))
