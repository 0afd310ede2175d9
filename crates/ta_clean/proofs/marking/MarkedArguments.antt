-- Pairs of arguments of which each is such.
use Rattle.std.proofs.Common.{◌≡◌, ◌↔◌, ℕ, ◌<◌, Bool, true, false, IsTrue, List, length, zip, All, sym, true≢false}
use Rattle.std.specs.Bool.{MatchBool}
use Rattle.std.specs.List.{AllWithin, HoldsAt}
use Rattle.std.proofs.lemmas.Iterator.Search.{true_from_All}
use Rattle.std.proofs.lemmas.List.Elements.{All-from_all_within}
use Rattle.ta_clean.specs.Products.{AreAll}

module _ (P : ℕ × ℕ → Type 0) (ps qs : List ℕ) where
  abbrev Cases : Bool → Type 0
  Cases r = MatchBool r (AllWithin P (zip ps qs) 0 (length (zip ps qs))) ((k : ℕ) × (k < length (zip ps qs)) × HoldsAt (λ p. ¬ P p) (zip ps qs) k)

  each_is : (b : Bool) → Cases b → IsTrue b → All P (zip ps qs)
  each_is true c e = All-from_all_within P (zip ps qs) c
  each_is false c e = absurd (true≢false (sym e))

  pub are_all_by : (r : Bool) → MatchBool r (AllWithin P (zip ps qs) 0 (length (zip ps qs))) ((k : ℕ) × (k < length (zip ps qs)) × HoldsAt (λ p. ¬ P p) (zip ps qs) k) → length ps ≡ length qs → IsTrue r ↔ AreAll P ps qs
  are_all_by r cases count = (
    λ e. record { count = count; each = each_is r cases e },
    λ all. true_from_All P (λ p. ¬ P p) r (zip ps qs) (λ x h n. n h) cases all.each,
  )
