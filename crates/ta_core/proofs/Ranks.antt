-- The transitions that begin so stand side by side.
use Rattle.std.proofs.Common.{◌≡◌, ◌↔◌, ℕ, ◌≤◌, List, [], ◌∷◌, ◌++◌, length, get_or, take, drop, refl, sym, ap, ◌∙◌, subst, ⊎_elim, arith}
use Rattle.std.specs.declared.cmp.Ordering.{Ordering}
use Rattle.std.specs.declared.cmp.Ordering.TheVariants.{Less, Equal, Greater}
use Rattle.std.specs.Ordering.{nat_cmp, ordering_then, ordering_index}
use Rattle.std.specs.Cmp.Lexicographic.{slice_cmp}
use Rattle.std.specs.List.Sorted.{IsStrictlySortedBy, IsNonDecreasingBy}
use Rattle.std.proofs.Math.Nat.{eq-or-lt_of_le}
use Rattle.std.proofs.lemmas.Bool.Decides.{nat_tests}
use Rattle.std.proofs.lemmas.List.{take-append-drop}
use Rattle.std.proofs.lemmas.Cmp.{nat_list_cmp_total, nat_cmp_total, tied_itself}
use Rattle.std.proofs.lemmas.Map.Keys.{Less-from_sorted}
use Rattle.std.proofs.lemmas.Map.Lookups.{exact_bytes, exact_unsigned}
use Rattle.ta_core.specs.Orders.{rank_of}
use Rattle.ta_core.specs.TreeAutomaton.{trans_cmp}
use Rattle.ta_core.specs.declared.trans.Trans.{Trans}

at_most_two : (o : Ordering) → ordering_index o ≤ 2
at_most_two Less = omega arith
at_most_two Equal = omega arith
at_most_two Greater = omega arith

-- a first number decides, or else what comes behind it
step : (q r x : ℕ) (s a b : Ordering) → ordering_then (nat_cmp q r) s ≡ Less → (s ≡ Less → ordering_index a ≤ ordering_index b) → ordering_index (ordering_then (nat_cmp q x) a) ≤ ordering_index (ordering_then (nat_cmp r x) b)
step q r x s a b e h = grind (arith, nat_tests, at_most_two a, at_most_two b, h)

rises : (p qs rs : List ℕ) → slice_cmp nat_cmp qs rs ≡ Less → ordering_index (slice_cmp nat_cmp (take (length p) qs) p) ≤ ordering_index (slice_cmp nat_cmp (take (length p) rs) p)
rises [] qs rs e = omega arith
rises (x ∷ p) [] rs e = omega arith
rises (x ∷ p) (q ∷ qs) [] e = absurd (cc)
rises (x ∷ p) (q ∷ qs) (r ∷ rs) e = step q r x (slice_cmp nat_cmp qs rs) (slice_cmp nat_cmp (take (length p) qs) p) (slice_cmp nat_cmp (take (length p) rs) p) e (rises p qs rs)

ranks_rise : (key : ℕ) (p : List ℕ) (s t : Trans) → trans_cmp s t ≡ Less → rank_of key p s ≤ rank_of key p t
ranks_rise key p s t e =
    let a = slice_cmp nat_cmp (take (length p) s.args) p in
    let b = slice_cmp nat_cmp (take (length p) t.args) p in
    step s.sym t.sym key (ordering_then (slice_cmp nat_cmp s.args t.args) (nat_cmp s.to t.to)) a b e (λ f. begins (slice_cmp nat_cmp s.args t.args) refl (nat_cmp s.to t.to) f)
  where
    begins : (o : Ordering) → slice_cmp nat_cmp s.args t.args ≡ o → (rest : Ordering) → ordering_then o rest ≡ Less → ordering_index (slice_cmp nat_cmp (take (length p) s.args) p) ≤ ordering_index (slice_cmp nat_cmp (take (length p) t.args) p)
    begins Less o rest f = rises p s.args t.args o
    begins Equal o rest f = subst (λ args. ordering_index (slice_cmp nat_cmp (take (length p) s.args) p) ≤ ordering_index (slice_cmp nat_cmp (take (length p) args) p)) (exact_bytes s.args t.args o) (omega arith)
    begins Greater o rest f = absurd (cc)

pub ranks_ascend : (key : ℕ) (p : List ℕ) (xs : List Trans) → IsStrictlySortedBy trans_cmp xs → IsNonDecreasingBy (rank_of key p) xs
ranks_ascend key p xs s i j d low high =
    ⊎_elim (λ same. subst (λ k. rank_of key p (get_or xs i d) ≤ rank_of key p (get_or xs k d)) same (omega arith)) (λ below. ranks_rise key p (get_or xs i d) (get_or xs j d) (Less-from_sorted trans_cmp xs i j d s below high)) (eq-or-lt_of_le low)

is_equal : (o : Ordering) → ordering_index o ≡ 1 → o ≡ Equal
is_equal Less e = absurd (omega (arith, e))
is_equal Equal e = refl
is_equal Greater e = absurd (omega (arith, e))

both_equal : (a b : Ordering) → ordering_then a b ≡ Equal → (a ≡ Equal) × (b ≡ Equal)
both_equal Less b e = absurd (cc)
both_equal Equal b e = (refl, e)
both_equal Greater b e = absurd (cc)

take_begins : (p rest : List ℕ) → take (length p) (p ++ rest) ≡ p
take_begins [] rest = refl
take_begins (x ∷ p) rest = ap (λ l. x ∷ l) (take_begins p rest)

-- those among them are the transitions of the symbol whose arguments begin so
pub rank_is : (key : ℕ) (p : List ℕ) (t : Trans) → (rank_of key p t ≡ 1) ↔ ((t.sym ≡ key) × ((rest : List ℕ) × (t.args ≡ p ++ rest)))
rank_is key p t = (
  λ e.
      let both = both_equal (nat_cmp t.sym key) (slice_cmp nat_cmp (take (length p) t.args) p) (is_equal _ e) in
      let begins : take (length p) t.args ≡ p = exact_bytes (take (length p) t.args) p both.1 in
      (exact_unsigned t.sym key both.0, (drop (length p) t.args, sym (take-append-drop (length p) t.args) ∙ ap (λ l. l ++ drop (length p) t.args) begins)),
  λ h.
      let begins : take (length p) t.args ≡ p = ap (take (length p)) h.1.1 ∙ take_begins p h.1.0 in
      ap (λ k. ordering_index (ordering_then (nat_cmp k key) (slice_cmp nat_cmp (take (length p) t.args) p))) h.0
      ∙ (ap (λ l. ordering_index (ordering_then (nat_cmp key key) (slice_cmp nat_cmp l p))) begins
      ∙ (ap (λ o. ordering_index (ordering_then o (slice_cmp nat_cmp p p))) (tied_itself nat_cmp_total key) ∙ ap ordering_index (tied_itself nat_list_cmp_total p))),
)
