-- Tables of classes: ranges, and two classes put together.
use Rattle.std.proofs.Common.{◌≡◌, ℕ, zero, suc, ◌+◌, ◌<◌, ◌==◌, min, max, cond, List, [], ◌∷◌, ◌++◌, map, length, sym, ap, ◌∙◌, arith}
use Rattle.std.specs.List.{range_with_len}
use Rattle.std.proofs.lemmas.Grind.{same_number_lists}
use Rattle.std.proofs.lemmas.List.{length-map, get_or-map}
use Rattle.ta_core.specs.Acceptance.{image}
use Rattle.eq_merge.specs.Quotients.{apart, joining, followed}
use Rattle.eq_merge.specs.Joined.{put_together}
use Rattle.eq_merge.proofs.quotients.Composition.{image_followed}
use Rattle.eq_merge.proofs.quotients.Joining.{at_range, apart_at, one_end, all_stay}

range_suc : (a n : ℕ) → range_with_len a (suc n) ≡ range_with_len a n ++ (a + n) ∷ []
range_suc a zero = ap (λ x. x ∷ []) (omega arith)
range_suc a (suc n) = ap (λ xs. a ∷ xs) (range_suc (a + 1) n ∙ ap (λ x. range_with_len (a + 1) n ++ x ∷ []) (omega arith))

pub range_more : (n m : ℕ) → m ≡ n + 1 → range_with_len 0 m ≡ range_with_len 0 n ++ n ∷ []
range_more n m e = ap (range_with_len 0) {x = m} {y = suc n} (omega (arith, e)) ∙ (range_suc 0 n ∙ ap (λ x. range_with_len 0 n ++ x ∷ []) (omega arith))

-- one number in the place of another one
abbrev pub relabel : ℕ → ℕ → ℕ → ℕ
relabel from to r = cond (r == from) to r

pub together_same : (t : List ℕ) (p q : ℕ) → image t p ≡ image t q → put_together t p q ≡ t
together_same t p q e = (λ i. map (relabel (one_end (image t p) (image t q) e i) (min (image t p) (image t q))) t) ∙ all_stay (min (image t p) (image t q)) t

pub together_apart : (next p q : ℕ) → p < next → q < next → put_together (apart next) p q ≡ joining next p q
together_apart next p q l k = λ i. map (relabel (max (apart_at next p l i) (apart_at next q k i)) (min (apart_at next p l i) (apart_at next q k i))) (range_with_len 0 next)

pub together_long : (t : List ℕ) (p q : ℕ) → length (put_together t p q) ≡ length t
together_long t p q = length-map t (relabel (max (image t p) (image t q)) (min (image t p) (image t q)))

pub together_at : (t : List ℕ) (p q r : ℕ) → r < length t → image (put_together t p q) r ≡ relabel (max (image t p) (image t q)) (min (image t p) (image t q)) (image t r)
together_at t p q r l = get_or-map (relabel (max (image t p) (image t q)) (min (image t p) (image t q))) t r 0 0 l

-- what is together stays so
pub together_stays : (t : List ℕ) (p q r s : ℕ) → r < length t → s < length t → image t r ≡ image t s → image (put_together t p q) r ≡ image (put_together t p q) s
together_stays t p q r s l k e = together_at t p q r l ∙ (ap (relabel (max (image t p) (image t q)) (min (image t p) (image t q))) e ∙ sym (together_at t p q s k))

relabel_ends : (a b : ℕ) → relabel (max a b) (min a b) a ≡ relabel (max a b) (min a b) b
relabel_ends a b = grind (arith)

-- and the two are
pub together_now : (t : List ℕ) (p q : ℕ) → p < length t → q < length t → image (put_together t p q) p ≡ image (put_together t p q) q
together_now t p q l k = together_at t p q p l ∙ (relabel_ends (image t p) (image t q) ∙ sym (together_at t p q q k))

-- to put them together is to join their least states
pub together_joins : (next : ℕ) (t : List ℕ) (p q : ℕ) → ((r : ℕ) → r < length t → image t r < next) → put_together t p q ≡ followed t (joining next (image t p) (image t q))
together_joins next t p q below =
    same_number_lists (put_together t p q) (followed t (joining next (image t p) (image t q)))
    (together_long t p q ∙ sym (length-map t (image (joining next (image t p) (image t q))))) (λ r l.
    let here : r < length t = omega (arith, l, together_long t p q) in
    together_at t p q r here
    ∙ sym (image_followed t (joining next (image t p) (image t q)) r here
    ∙ at_range (relabel (max (image t p) (image t q)) (min (image t p) (image t q))) next (image t r) (below r here)))
