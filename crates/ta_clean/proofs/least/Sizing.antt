-- Numbers for pairs of states that fall until they are the least sizes of terms.
use Rattle.std.proofs.Common.{◌≡◌, ℕ, suc, ◌+◌, ◌*◌, ◌<◌, ◌≤◌, List, [], ◌∷◌, length, get_or, set, replicate, map, sum, zip, All, Contains, refl, sym, ap, subst, ◌∙◌, ⊎_elim, arith}
use Rattle.std.specs.List.{AllZip, AllByRecursion}
use Rattle.std.proofs.lemmas.Bool.{cases_lt}
use Rattle.std.proofs.lemmas.Nat.{mul-add-lt}
use Rattle.std.proofs.lemmas.List.{get_or_past, get_or-replicate, length-set, length-replicate}
use Rattle.std.proofs.lemmas.List.Elements.{All-set, All-replicate, All-contains}
use Rattle.std.proofs.lemmas.List.Sums.{sum_by-cons}
use Rattle.ranked_terms.specs.Terms.{node, size_of, config_of}
use Rattle.ranked_terms.specs.declared.term.Term.{Term}
use Rattle.ranked_terms.specs.lemmas.TermLaws.{config_node, size_node, term_induction}
use Rattle.ta_core.specs.TreeAutomaton.{IsSound, IsTransOf, trans_of}
use Rattle.ta_core.specs.Runs.{Runs, Reaches}
use Rattle.ta_core.specs.lemmas.RunsLaws.{run_of_app, run_ends, zip_from_all}
use Rattle.ta_clean.specs.Products.{TwoAutomata}
use Rattle.ta_clean.specs.Sizes.{Sizing, IsSizing, IsUnmade, IsPairOf, AreMade, AreSettled, unmade, made_at, size_at, sum_at}
use Rattle.ta_clean.specs.declared.sizes.Made.{Made}

-- ---- one number

pub sum_first : {X : Type 0} (f : X → ℕ) (x : X) (xs : List X) → sum (map f (x ∷ xs)) ≡ f x + sum (map f xs)
sum_first f x xs = sum_by-cons (λ n. n) (f x) (map f xs)

pub sum_falls : {X : Type 0} (f g : X → ℕ) → ((x : X) → f x ≤ g x) → (xs : List X) → sum (map f xs) ≤ sum (map g xs)
sum_falls f g h [] = omega arith
sum_falls f g h (x ∷ xs) = omega (arith, sum_first f x xs, sum_first g x xs, h x, sum_falls f g h xs)

pub within : (s : Sizing) (pair : ℕ × ℕ) → IsSizing s → IsPairOf s pair → pair.0 * s.width + pair.1 < length s.made
within s pair ok is = omega (arith, ok.full, mul-add-lt pair.0 s.width pair.1 s.height is.first is.second)

capped_get : (xs : List Made) → All (λ (m : Made). m.size ≤ 1025) xs → (k : ℕ) → (get_or xs k unmade).size ≤ 1025
capped_get xs all k = ⊎_elim (λ l. all k unmade l) (λ h. omega (arith, ap (λ (m : Made). m.size) (get_or_past xs k unmade h))) (cases_lt k (length xs))

-- no number is above 1,025
pub capped_at : (s : Sizing) → IsSizing s → (pair : ℕ × ℕ) → size_at s pair ≤ 1025
capped_at s ok pair = capped_get s.made ok.capped (pair.0 * s.width + pair.1)

pub sizing_set : (s : Sizing) (n : ℕ) (made : Made) → IsSizing s → made.size ≤ 1025 → IsSizing (record s { made = set s.made n made })
sizing_set s n made ok small = record { low = ok.low; narrow = ok.narrow; full = length-set s.made n made ∙ ok.full; capped = All-set (λ (m : Made). m.size ≤ 1025) s.made n made small ok.capped }

pub sizing_new : (height width : ℕ) (made : List Made) → height ≤ 16384 → width ≤ 16384 → made ≡ replicate (height * width) unmade → IsSizing (record { height = height; width = width; made = made })
sizing_new height width made low narrow is = record {
  low = low;
  narrow = narrow;
  full = ap length is ∙ length-replicate (height * width) unmade;
  capped = subst (All (λ (m : Made). m.size ≤ 1025)) (sym is) (All-replicate (λ (m : Made). m.size ≤ 1025) (height * width) unmade (omega arith));
}

unmade_here : (n i : ℕ) → get_or (replicate n unmade) i unmade ≡ unmade
unmade_here n i = ⊎_elim (λ l. get_or-replicate n i unmade unmade l) (λ h. get_or_past (replicate n unmade) i unmade (omega (arith, h, length-replicate n unmade))) (cases_lt i n)

pub unmade_at : (height width : ℕ) (s : Sizing) → IsUnmade height width s → (pair : ℕ × ℕ) → made_at s pair ≡ unmade
unmade_at height width s is pair = ap (λ xs. get_or xs (pair.0 * s.width + pair.1) unmade) is.made_is ∙ unmade_here (height * width) (pair.0 * s.width + pair.1)

-- what is made of none is made
pub unmade_is_made : (both : TwoAutomata) (height width : ℕ) (s : Sizing) → IsUnmade height width s → AreMade both s
unmade_is_made both height width s is pair inside small = absurd (omega (arith, small, ap (λ (m : Made). m.size) (unmade_at height width s is pair)))

module _ (both : TwoAutomata) where
  -- ---- settled numbers are at most the sizes

  module _ (s : Sizing) (settled : AreSettled both s) where
    first_falls : {p q r : ℕ} → Contains both.second.states r → Reaches both.first p q → size_at s (q, r) ≤ size_at s (p, r)
    first_falls c Reaches.here = omega arith
    first_falls c (Reaches.on h i) = let l = settled.first _ i _ c in omega (arith, first_falls c h, l)

    second_falls : {p q r : ℕ} → Contains both.first.states r → Reaches both.second p q → size_at s (r, q) ≤ size_at s (r, p)
    second_falls c Reaches.here = omega arith
    second_falls c (Reaches.on h i) = let l = settled.second _ i _ c in omega (arith, second_falls c h, l)

    abbrev IsAtMost : Term → Type 0
    IsAtMost t = (p q : ℕ) → Runs both.first (config_of t) p → Runs both.second (config_of t) q → size_at s (p, q) ≤ size_of t

    record Fits (ts : List Term) (ps qs : List ℕ) : Type 0 where
      pub count : length ps ≡ length qs
      pub small : sum_at s ps qs ≤ sum (map size_of ts)

    all_fit : (ts : List Term) (ps qs : List ℕ) → AllByRecursion IsAtMost ts → AllZip (Runs both.first) (map config_of ts) ps → AllZip (Runs both.second) (map config_of ts) qs → Fits ts ps qs
    all_fit [] [] [] each left right = record { count = refl; small = omega arith }
    all_fit [] [] (q ∷ qs) each left right = absurd right
    all_fit [] (p ∷ ps) qs each left right = absurd left
    all_fit (t ∷ ts) [] qs each left right = absurd left
    all_fit (t ∷ ts) (p ∷ ps) [] each left right = absurd right
    all_fit (t ∷ ts) (p ∷ ps) (q ∷ qs) each left right =
        let rest = all_fit ts ps qs each.1 left.1 right.1 in
        record { count = ap suc rest.count; small = omega (arith, sum_first (size_at s) (p, q) (zip ps qs), sum_first size_of t ts, each.0 p q left.0 right.0, rest.small) }

    node_fits : IsSound both.first → IsSound both.second → (f : ℕ) (ts : List Term) → AllByRecursion IsAtMost ts → IsAtMost (node f ts)
    node_fits sound_first sound_second f ts each p q left right =
        let a = run_of_app f (map config_of ts) p (subst (λ c. Runs both.first c p) (config_node f ts) left) in
        let b = run_of_app f (map config_of ts) q (subst (λ c. Runs both.second c q) (config_node f ts) right) in
        let args = all_fit ts a.states b.states each (zip_from_all a.args) (zip_from_all b.args) in
        let target = (All-contains (IsTransOf both.second.states) both.second.trans (trans_of f b.states b.target) sound_second.trans b.has).to in
        omega (
          arith,
          size_node f ts,
          args.small,
          settled.trans (trans_of f a.states a.target) (trans_of f b.states b.target) a.has b.has refl args.count,
          first_falls target a.on,
          second_falls (run_ends sound_first left) b.on,
        )

    pub sizes_are_least : IsSound both.first → IsSound both.second → (t : Term) → IsAtMost t
    sizes_are_least sound_first sound_second = term_induction IsAtMost (node_fits sound_first sound_second)
