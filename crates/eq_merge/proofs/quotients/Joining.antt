-- Joining two states; an equivalence that puts them together goes by way of the joined automaton.
use Rattle.std.proofs.Common.{◌≡◌, ◌≢◌, ℕ, ◌≤◌, ◌<◌, ◌==◌, ◌⊎◌, min, max, Bool, true, false, cond, List, [], ◌∷◌, map, Contains, refl, sym, ap, subst, ◌∙◌, ⊎_elim, arith}
use Rattle.std.specs.List.{range_with_len}
use Rattle.std.proofs.lemmas.Grind.{same_number_lists}
use Rattle.std.proofs.lemmas.List.{length-map}
use Rattle.std.proofs.lemmas.List.FromFn.{length-map-range_with_len, get_or-map-range_with_len, length-range_with_len, get_or-range_with_len}
use Rattle.ta_core.specs.TreeAutomaton.{TreeAutomaton, IsSound}
use Rattle.ta_core.specs.Acceptance.{image}
use Rattle.eq_merge.specs.Quotients.{AreLeasts, quotient, joining, apart, followed}
use Rattle.eq_merge.proofs.quotients.Survival.{is_same, same_or_not, state_survives}
use Rattle.eq_merge.proofs.quotients.Composition.{same_from_test, state_below, state_had, image_followed}

-- hi goes to lo, each other number to itself
abbrev pub into : ℕ → ℕ → ℕ → List ℕ
into next lo hi = map (λ r. cond (r == hi) lo r) (range_with_len 0 next)

-- the same equivalence without hi, which stands for itself
abbrev pub without : ℕ → ℕ → List ℕ → List ℕ
without next hi g = map (λ r. cond (r == hi) hi (image g r)) (range_with_len 0 next)

pub not_test : (r s : ℕ) → (r ≡ s → ⊥) → (r == s) ≡ false
not_test r s h = by (r == s) refl
  where
    by : (b : Bool) → (r == s) ≡ b → (r == s) ≡ false
    by true e = absurd (h (same_from_test r s e))
    by false e = e

pub at_range : (F : ℕ → ℕ) (next r : ℕ) → r < next → image (map F (range_with_len 0 next)) r ≡ F r
at_range F next r below = get_or-map-range_with_len F 0 next r r 0 below (omega arith)

pub into_hi : (next lo hi : ℕ) → hi < next → image (into next lo hi) hi ≡ lo
into_hi next lo hi below = at_range (λ r. cond (r == hi) lo r) next hi below ∙ ap (λ b. cond b lo hi) (is_same hi hi refl)

pub into_other : (next lo hi r : ℕ) → r < next → (r ≡ hi → ⊥) → image (into next lo hi) r ≡ r
into_other next lo hi r below d = at_range (λ r. cond (r == hi) lo r) next r below ∙ ap (λ b. cond b lo r) (not_test r hi d)

without_hi : (next hi : ℕ) (g : List ℕ) → hi < next → image (without next hi g) hi ≡ hi
without_hi next hi g below = at_range (λ r. cond (r == hi) hi (image g r)) next hi below ∙ ap (λ b. cond b hi (image g hi)) (is_same hi hi refl)

without_other : (next hi : ℕ) (g : List ℕ) (r : ℕ) → r < next → (r ≡ hi → ⊥) → image (without next hi g) r ≡ image g r
without_other next hi g r below d = at_range (λ r. cond (r == hi) hi (image g r)) next r below ∙ ap (λ b. cond b hi (image g r)) (not_test r hi d)

-- either it is hi, or it isn't
module _ {A : TreeAutomaton} (sound : IsSound A) {lo hi : ℕ} (less : lo < hi) (is_lo : Contains A.states lo) (is_hi : Contains A.states hi) where
  abbrev f : List ℕ
  f = into A.next lo hi

  hi_below : hi < A.next
  hi_below = state_below sound hi is_hi

  lo_below : lo < A.next
  lo_below = state_below sound lo is_lo

  lo_stays : image f lo ≡ lo
  lo_stays = into_other A.next lo hi lo lo_below (λ e. omega (arith, e))

  hi_goes : image f hi ≡ lo
  hi_goes = into_hi A.next lo hi hi_below

  -- what holds where hi goes to lo, and where a number stays, holds
  at_each : (P : ℕ → ℕ → Type 0) (q : ℕ) → q < A.next → P hi lo → ((q ≡ hi → ⊥) → P q q) → P q (image f q)
  at_each P q below h o =
      ⊎_elim (λ same. subst (λ x. P x (image f x)) (sym same) (subst (P hi) (sym hi_goes) h))
      (λ d. subst (P q) (sym (into_other A.next lo hi q below d)) (o d)) (same_or_not q hi)

  pub into_leasts : AreLeasts A f
  into_leasts = record {
    each = length-map-range_with_len (λ r. cond (r == hi) lo r) 0 A.next;
    states = λ q c. at_each (λ x y. Contains A.states x → Contains A.states y) q (state_below sound q c) (λ k. is_lo) (λ d k. k) c;
    in_class = λ q c. at_each (λ x y. image f y ≡ y) q (state_below sound q c) lo_stays (λ d. into_other A.next lo hi q (state_below sound q c) d);
    least = λ q c. at_each (λ x y. y ≤ x) q (state_below sound q c) (omega (arith, less)) (λ d. omega arith);
    others = λ q below never. into_other A.next lo hi q below (λ same. never (subst (Contains A.states) (sym same) is_hi));
  }

  -- ---- an equivalence that puts them together

  module _ {g : List ℕ} (leasts : AreLeasts A g) (same : image g lo ≡ image g hi) where
    abbrev k : List ℕ
    k = without A.next hi g

    never_hi : (q : ℕ) → Contains A.states q → image g q ≡ hi → ⊥
    never_hi q c e =
        let at_hi : image g hi ≡ hi = ap (image g) (sym e) ∙ (leasts.in_class q c ∙ e) in
        omega (arith, at_hi, same, leasts.least lo is_lo, less)

    -- a state of the joined automaton isn't hi
    not_hi : (q : ℕ) → Contains (quotient A f).states q → q ≡ hi → ⊥
    not_hi q c e = let h = state_had A f q c in omega (arith, e, ap (image f) e, h.1, hi_goes, less)

    k_is : (q : ℕ) → Contains (quotient A f).states q → image k q ≡ image g q
    k_is q c = without_other A.next hi g q (state_below sound q (state_had A f q c).0) (not_hi q c)

    stays_state : (q : ℕ) → Contains A.states q → (q ≡ hi → ⊥) → Contains (quotient A f).states q
    stays_state q c d = subst (Contains (quotient A f).states) (into_other A.next lo hi q (state_below sound q c) d) (state_survives into_leasts q c)

    g_state : (q : ℕ) → Contains A.states q → Contains (quotient A f).states (image g q)
    g_state q c = stays_state (image g q) (leasts.states q c) (never_hi q c)

    pub without_leasts : AreLeasts (quotient A f) k
    without_leasts = record {
      each = length-map-range_with_len (λ r. cond (r == hi) hi (image g r)) 0 A.next;
      states = λ q c. subst (Contains (quotient A f).states) (sym (k_is q c)) (g_state q (state_had A f q c).0);
      in_class = λ q c.
          let is = (state_had A f q c).0 in
          ap (image k) (k_is q c) ∙ (k_is (image g q) (g_state q is) ∙ (leasts.in_class q is ∙ sym (k_is q c)));
      least = λ q c. omega (arith, k_is q c, leasts.least q (state_had A f q c).0);
      others = λ q below never.
          ⊎_elim (λ e. subst (λ x. image k x ≡ x) (sym e) (without_hi A.next hi g hi_below))
          (λ d. without_other A.next hi g q below d ∙ leasts.others q below (λ c. never (stays_state q c d))) (same_or_not q hi);
    }

    at_place : (q : ℕ) → q < A.next → image (followed f k) q ≡ image g q
    at_place q below =
        image_followed f k q (omega (arith, into_leasts.each, below))
        ∙ at_each (λ x y. image k y ≡ image g x) q below (without_other A.next hi g lo lo_below (λ e. omega (arith, e, less)) ∙ same)
        (λ d. without_other A.next hi g q below d)

    pub joined_first : followed f k ≡ g
    joined_first =
        same_number_lists (followed f k) g (length-map f (image k) ∙ (into_leasts.each ∙ sym leasts.each))
        (λ q below. at_place q (omega (arith, below, length-map f (image k), into_leasts.each)))

-- to join a number to itself moves nothing
stay : (p r : ℕ) → cond (r == p) p r ≡ r
stay p r = by (r == p) refl
  where
    by : (b : Bool) → (r == p) ≡ b → cond b p r ≡ r
    by true e = sym (same_from_test r p e)
    by false e = refl

pub all_stay : (p : ℕ) (rs : List ℕ) → map (λ r. cond (r == p) p r) rs ≡ rs
all_stay p [] = refl
all_stay p (r ∷ rs) = λ i. stay p r i ∷ all_stay p rs i

pub one_end : (p q : ℕ) → p ≡ q → max p q ≡ min p q
one_end p q e = omega (arith, e)

pub joining_itself : (next p q : ℕ) → p ≡ q → joining next p q ≡ apart next
joining_itself next p q e = (λ i. map (λ r. cond (r == one_end p q e i) (min p q) r) (range_with_len 0 next)) ∙ all_stay (min p q) (range_with_len 0 next)

-- ---- two numbers, the lesser first

pub ordered : (p q : ℕ) → p ≢ q → min p q < max p q
ordered p q d = grind (arith, d)

pub lesser_greater : (p q : ℕ) → ((min p q ≡ p) × (max p q ≡ q)) ⊎ ((min p q ≡ q) × (max p q ≡ p))
lesser_greater p q = grind (arith)

-- the list that moves nothing
pub apart_at : (next q : ℕ) → q < next → image (apart next) q ≡ q
apart_at next q below = get_or-range_with_len 0 next q 0 below ∙ omega arith

pub apart_leasts : {A : TreeAutomaton} → IsSound A → AreLeasts A (apart A.next)
apart_leasts {A = A} sound = record {
  each = length-range_with_len 0 A.next;
  states = λ q c. subst (Contains A.states) (sym (apart_at A.next q (state_below sound q c))) c;
  in_class = λ q c. ap (image (apart A.next)) (apart_at A.next q (state_below sound q c));
  least = λ q c. omega (arith, apart_at A.next q (state_below sound q c));
  others = λ q below never. apart_at A.next q below;
}
