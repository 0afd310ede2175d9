-- Parts of sorted transitions, and what stands next in them.
use Rattle.std.proofs.Common.{◌≡◌, ◌↔◌, ◌≤◌, ◌<◌, ◌+◌, ℕ, zero, suc, List, [], ◌∷◌, ◌++◌, length, take, drop, get_or, refl, sym, ap, ◌∙◌, subst, inl, inr, ⊎_elim, arith}
use Rattle.std.specs.List.{Contains}
use Rattle.std.specs.declared.cmp.Ordering.{Ordering}
use Rattle.std.specs.declared.cmp.Ordering.TheVariants.{Less, Equal}
use Rattle.std.specs.Ordering.{nat_cmp, ordering_then}
use Rattle.std.specs.Cmp.Lexicographic.{slice_cmp}
use Rattle.std.specs.List.Sorted.{IsStrictlySortedBy, IsNonDecreasingBy}
use Rattle.std.proofs.Math.Nat.{eq-or-lt_of_le}
use Rattle.std.proofs.lemmas.Bool.Decides.{nat_tests}
use Rattle.std.proofs.lemmas.Map.Keys.{Less-from_sorted}
use Rattle.std.proofs.lemmas.List.{drop_more, take_all, take_more}
use Rattle.std.proofs.lemmas.List.Elements.{All-take, All-from_recursion, recursion_from_All, Contains-get_or, Contains-append_left, Contains-push, Contains-push_cases}
use Rattle.ta_core.specs.TreeAutomaton.{trans_cmp}
use Rattle.ta_core.specs.declared.trans.Trans.{Trans}
use Rattle.state_match.specs.Rows.{key_of, AreAlike, Fits, FitsFrom, IsNext, HasNext, IsNextAt}
use Rattle.state_match.proofs.members.Members.{none}

-- ---- parts of a sorted list

drop_sorted : {X : Type 0} (c : X → X → Ordering) (n : ℕ) (xs : List X) → IsStrictlySortedBy c xs → IsStrictlySortedBy c (drop n xs)
unfolding IsStrictlySortedBy
drop_sorted c zero xs s = s
drop_sorted c (suc n) [] s = s
drop_sorted c (suc n) (x ∷ xs) s = drop_sorted c n xs s.1

take_sorted : {X : Type 0} (c : X → X → Ordering) (n : ℕ) (xs : List X) → IsStrictlySortedBy c xs → IsStrictlySortedBy c (take n xs)
unfolding IsStrictlySortedBy
take_sorted c zero xs s = tt
take_sorted c (suc n) [] s = s
take_sorted c (suc n) (x ∷ xs) s = (recursion_from_All (λ y. c x y ≡ Less) (take n xs) (All-take (λ y. c x y ≡ Less) n xs (All-from_recursion (λ y. c x y ≡ Less) xs s.0)), take_sorted c n xs s.1)

pub part_sorted : {X : Type 0} (c : X → X → Ordering) (m n : ℕ) (xs : List X) → IsStrictlySortedBy c xs → IsStrictlySortedBy c (take m (drop n xs))
part_sorted c m n xs s = take_sorted c m (drop n xs) (drop_sorted c n xs s)

-- ---- the states at a place

pub key_some : (k : ℕ) (qs : List ℕ) (d : ℕ) → k < length qs → key_of k qs ≡ suc (get_or qs k d)
key_some k [] d l = absurd (omega arith)
key_some zero (x ∷ qs) d l = refl
key_some (suc k) (x ∷ qs) d l = key_some k qs d (omega arith)

pub key_none : (k : ℕ) (qs : List ℕ) → length qs ≤ k → key_of k qs ≡ 0
key_none k [] l = refl
key_none zero (x ∷ qs) l = absurd (omega arith)
key_none (suc k) (x ∷ qs) l = key_none k qs (omega arith)

same_key : (k s : ℕ) (a b : List ℕ) → take k a ≡ take k b → key_of k a ≡ suc s → key_of k b ≡ suc s → take (suc k) a ≡ take (suc k) b
same_key k s [] b e f g = absurd (omega (arith, f))
same_key k s (x ∷ a) [] e f g = absurd (omega (arith, g))
same_key zero s (x ∷ a) (y ∷ b) e f g = let same : x ≡ y = omega (arith, f, g) in ap (λ z. z ∷ []) same
same_key (suc k) s (x ∷ a) (y ∷ b) e f g =
    let same : x ≡ y = ap (λ l. get_or l 0 0) e in
    (λ i. same i ∷ same_key k s a b (ap (λ l. drop 1 l) e) f g i)

first_less : (x y : ℕ) (r s : Ordering) → ordering_then (ordering_then (nat_cmp x y) r) s ≡ Less → x ≤ y
first_less x y r s e = grind (arith, nat_tests)

key_rises : (k : ℕ) (a b : List ℕ) (r : Ordering) → take k a ≡ take k b → ordering_then (slice_cmp nat_cmp a b) r ≡ Less → key_of k a ≤ key_of k b
key_rises k [] b r e l = omega arith
key_rises k (x ∷ a) [] r e l = absurd (cc)
key_rises zero (x ∷ a) (y ∷ b) r e l = let h = first_less x y (slice_cmp nat_cmp a b) r l in omega (arith, h)
key_rises (suc k) (x ∷ a) (y ∷ b) r e l =
    let same : x ≡ y = ap (λ l. get_or l 0 0) e in
    let tied : nat_cmp x y ≡ Equal = grind (arith, nat_tests, same) in
    key_rises k a b r (ap (λ l. drop 1 l) e) (sym (ap (λ o. ordering_then (ordering_then o (slice_cmp nat_cmp a b)) r) tied) ∙ l)

trans_rise : (k : ℕ) (t u : Trans) → t.sym ≡ u.sym → take k t.args ≡ take k u.args → trans_cmp t u ≡ Less → key_of k t.args ≤ key_of k u.args
trans_rise k t u same e l =
    let tied : nat_cmp t.sym u.sym ≡ Equal = grind (arith, nat_tests, same) in
    key_rises k t.args u.args (nat_cmp t.to u.to) e (sym (ap (λ o. ordering_then o (ordering_then (slice_cmp nat_cmp t.args u.args) (nat_cmp t.to u.to))) tied) ∙ l)

pub rows_rise : (k : ℕ) (rows : List Trans) → IsStrictlySortedBy trans_cmp rows → AreAlike k rows → IsNonDecreasingBy (λ (t : Trans). key_of k t.args) rows
rows_rise k rows s alike i j d low high =
    ⊎_elim
    (λ same. subst (λ m. key_of k (get_or rows i d).args ≤ key_of k (get_or rows m d).args) same (omega arith))
    (λ below.
    let a = alike (get_or rows i d) (get_or rows j d) (Contains-get_or rows i d (omega arith)) (Contains-get_or rows j d high) in
    trans_rise k (get_or rows i d) (get_or rows j d) a.0 a.1 (Less-from_sorted trans_cmp rows i j d s below high))
    (eq-or-lt_of_le low)

pub alike_more : (k s : ℕ) (rows fewer : List Trans) → AreAlike k rows → ((t : Trans) → Contains fewer t ↔ (Contains rows t × (key_of k t.args ≡ suc s))) → AreAlike (k + 1) fewer
alike_more k s rows fewer alike members t u c d =
    let a = (members t).0 c in
    let b = (members u).0 d in
    let both = alike t u a.0 b.0 in
    let one : suc k ≡ k + 1 = omega arith in
    (both.0, subst (λ n. take n t.args ≡ take n u.args) one (same_key k s t.args u.args both.1 a.1 b.1))

pub alike_all : (f : ℕ) (rows trans : List Trans) → ((t : Trans) → Contains rows t ↔ (Contains trans t × (t.sym ≡ f))) → AreAlike 0 rows
alike_all f rows trans members t u c d = (((members t).0 c).1 ∙ sym ((members u).0 d).1, refl)

-- ---- what stands next

-- one more transition
module _ {place arity : ℕ} {sets others : List (List ℕ)} {wanted : List ℕ} (done : List Trans) (t : Trans) where
  later : (x : ℕ) → IsNext done place sets others arity wanted x → IsNext (done ++ t ∷ []) place sets others arity wanted x
  later x h = record { row = h.row; has = Contains-append_left done (t ∷ []) h.row h.has; fits = h.fits; on = h.on; arity = h.arity; wanted = h.wanted; is = h.is }

  pub row_skipped : (old all : List ℕ) → HasNext old done place sets others arity wanted all → (Fits place sets others arity wanted t → ⊥) → HasNext old (done ++ t ∷ []) place sets others arity wanted all
  row_skipped old all exact unfit x = (
    λ c. ⊎_elim (λ before. inl before) (λ h. inr (later x h)) ((exact x).0 c),
    λ h. ⊎_elim (λ before. (exact x).1 (inl before)) (λ (n : IsNext (done ++ t ∷ []) place sets others arity wanted x). ⊎_elim
        (λ c. (exact x).1 (inr (record { row = n.row; has = c; fits = n.fits; on = n.on; arity = n.arity; wanted = n.wanted; is = n.is })))
        (λ same. absurd (unfit (subst (Fits place sets others arity wanted) (sym same) (record { arity = n.arity; fits = n.fits; on = n.on; wanted = n.wanted }))))
        (Contains-push_cases done t n.row n.has)) h,
  )

  pub row_taken : (old all next : List ℕ) (y : ℕ) → HasNext old done place sets others arity wanted all → Fits place sets others arity wanted t → y ≡ get_or t.args (place + length sets) t.to → next ≡ all ++ y ∷ [] →
      HasNext old (done ++ t ∷ []) place sets others arity wanted next
  row_taken old all next y exact fits at e x = (
    λ c. ⊎_elim
        (λ c. ⊎_elim (λ before. inl before) (λ h. inr (later x h)) ((exact x).0 c))
        (λ (same : y ≡ x). inr (record { row = t; has = Contains-push done t; fits = fits.fits; on = fits.on; arity = fits.arity; wanted = fits.wanted; is = sym at ∙ same }))
        (Contains-push_cases all y x (subst (λ xs. Contains xs x) e c)),
    λ h. subst (λ xs. Contains xs x) (sym e) (⊎_elim
        (λ before. Contains-append_left all (y ∷ []) x ((exact x).1 (inl before)))
        (λ (n : IsNext (done ++ t ∷ []) place sets others arity wanted x). ⊎_elim
        (λ c. Contains-append_left all (y ∷ []) x ((exact x).1 (inr (record { row = n.row; has = c; fits = n.fits; on = n.on; arity = n.arity; wanted = n.wanted; is = n.is }))))
        (λ same. subst (Contains (all ++ y ∷ [])) (at ∙ (ap (λ (u : Trans). get_or u.args (place + length sets) u.to) same ∙ n.is)) (Contains-push all y))
        (Contains-push_cases done t n.row n.has))
        h),
  )

pub no_row : {place arity : ℕ} {sets others : List (List ℕ)} {wanted : List ℕ} (old : List ℕ) → HasNext old [] place sets others arity wanted old
no_row {place} {arity} {sets} {others} {wanted} old x = (λ c. inl c, λ h. ⊎_elim (λ c. c) (λ (n : IsNext [] place sets others arity wanted x). absurd (none n.row n.has)) h)

-- one more state of the first set
pub no_state : {place arity : ℕ} {sets others : List (List ℕ)} {wanted : List ℕ} (rows : List Trans) (old : List ℕ) → HasNext old rows place ([] ∷ sets) others arity wanted old
no_state {place} {arity} {sets} {others} {wanted} rows old x = (λ c. inl c, λ h. ⊎_elim (λ c. c) (λ (n : IsNext rows place ([] ∷ sets) others arity wanted x). absurd (none n.fits.0 n.fits.2)) h)

pub state_taken : {place arity : ℕ} {sets others : List (List ℕ)} {wanted : List ℕ} (rows fewer : List Trans) (done : List ℕ) (s : ℕ) (old all next : List ℕ) →
    ((t : Trans) → Contains fewer t ↔ (Contains rows t × (key_of place t.args ≡ suc s))) → HasNext old rows place (done ∷ sets) others arity wanted all →
    HasNext all fewer (place + 1) sets others arity wanted next → HasNext old rows place ((done ++ s ∷ []) ∷ sets) others arity wanted next
state_taken {place} {arity} {sets} {others} {wanted} rows fewer done s old all next members exact more x = (
  λ c. ⊎_elim
      (λ c. ⊎_elim (λ before. inl before) (λ n. inr (wider n)) ((exact x).0 c))
      (λ n. inr (whole n))
      ((more x).0 c),
  λ h. ⊎_elim (λ before. (more x).1 (inl ((exact x).1 (inl before)))) (λ n. split n) h,
)
  where
    far : place + suc (length sets) ≡ place + 1 + length sets
    far = omega arith

    next' : suc place ≡ place + 1
    next' = omega arith

    wider : IsNext rows place (done ∷ sets) others arity wanted x → IsNext rows place ((done ++ s ∷ []) ∷ sets) others arity wanted x
    wider n = record { row = n.row; has = n.has; fits = (n.fits.0, n.fits.1, Contains-append_left done (s ∷ []) n.fits.0 n.fits.2, n.fits.3); on = n.on; arity = n.arity; wanted = n.wanted; is = n.is }

    whole : IsNext fewer (place + 1) sets others arity wanted x → IsNext rows place ((done ++ s ∷ []) ∷ sets) others arity wanted x
    whole n =
        let m = (members n.row).0 n.has in
        record {
          row = n.row;
          has = m.0;
          fits = (s, m.1, Contains-push done s, subst (λ k. FitsFrom k sets n.row.args) (sym next') n.fits);
          on = subst (λ k. FitsFrom k others n.row.args) (sym far) n.on;
          arity = n.arity;
          wanted = n.wanted;
          is = ap (λ k. get_or n.row.args k n.row.to) far ∙ n.is;
        }

    split : IsNext rows place ((done ++ s ∷ []) ∷ sets) others arity wanted x → Contains next x
    split n = ⊎_elim
        (λ c. (more x).1 (inl ((exact x).1 (inr (record { row = n.row; has = n.has; fits = (n.fits.0, n.fits.1, c, n.fits.3); on = n.on; arity = n.arity; wanted = n.wanted; is = n.is })))))
        (λ same. (more x).1 (inr (record {
          row = n.row;
          has = (members n.row).1 (n.has, n.fits.1 ∙ ap suc (sym same));
          fits = subst (λ k. FitsFrom k sets n.row.args) next' n.fits.3;
          on = subst (λ k. FitsFrom k others n.row.args) far n.on;
          arity = n.arity;
          wanted = n.wanted;
          is = ap (λ k. get_or n.row.args k n.row.to) (sym far) ∙ n.is;
        })))
        (Contains-push_cases done s n.fits.0 n.fits.2)

-- of all transitions of the symbol
pub next_of_symbol : (trans rows : List Trans) (f arity : ℕ) (sets others : List (List ℕ)) (wanted old all : List ℕ) → old ≡ [] → ((t : Trans) → Contains rows t ↔ (Contains trans t × (t.sym ≡ f))) →
    HasNext old rows 0 sets others arity wanted all → (x : ℕ) → Contains all x ↔ IsNextAt trans f sets others arity wanted x
next_of_symbol trans rows f arity sets others wanted old all e members exact x = (
  λ c. ⊎_elim (λ before. absurd (none x (subst (λ xs. Contains xs x) e before)))
      (λ (n : IsNext rows 0 sets others arity wanted x).
      let m = (members n.row).0 n.has in
      record { next = record { row = n.row; has = m.0; fits = n.fits; on = n.on; arity = n.arity; wanted = n.wanted; is = n.is }; symbol = m.1 })
      ((exact x).0 c),
  λ h. (exact x).1 (inr (record { row = h.next.row; has = (members h.next.row).1 (h.next.has, h.symbol); fits = h.next.fits; on = h.next.on; arity = h.next.arity; wanted = h.next.wanted; is = h.next.is })),
)

-- one more set
pub at_more : {place arity : ℕ} {others : List (List ℕ)} {wanted : List ℕ} (rows : List Trans) (sets : List (List ℕ)) (d set : List ℕ) (i : ℕ) (old all : List ℕ) → place < length sets → set ≡ get_or sets place d → length set ≤ i →
    HasNext old rows place (take i set ∷ drop (place + 1) sets) others arity wanted all → HasNext old rows place (drop place sets) others arity wanted all
at_more {place} {arity} {others} {wanted} rows sets d set i old all l e end h =
    subst (λ (ss : List (List ℕ)). HasNext old rows place ss others arity wanted all)
    ((λ k. (take_all i set end ∙ e) k ∷ drop (place + 1) sets) ∙ sym (drop_more sets place d l)) h

pub state_more : {place arity : ℕ} {sets others : List (List ℕ)} {wanted : List ℕ} (rows fewer : List Trans) (set : List ℕ) (i d s : ℕ) (old all next : List ℕ) → i < length set → s ≡ get_or set i d →
    ((t : Trans) → Contains fewer t ↔ (Contains rows t × (key_of place t.args ≡ suc s))) → HasNext old rows place (take i set ∷ sets) others arity wanted all →
    HasNext all fewer (place + 1) sets others arity wanted next → HasNext old rows place (take (i + 1) set ∷ sets) others arity wanted next
state_more {place} {arity} {sets} {others} {wanted} rows fewer set i d s old all next l e members exact more =
    subst (λ (xs : List ℕ). HasNext old rows place (xs ∷ sets) others arity wanted next) ((λ k. take i set ++ e k ∷ []) ∙ sym (take_more set i d l))
    (state_taken rows fewer (take i set) s old all next members exact more)
