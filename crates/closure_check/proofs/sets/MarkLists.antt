-- Bits, and the members that they stand for.
use Rattle.std.proofs.Common.{◌≡◌, ◌↔◌, ◌⊎◌, ℕ, zero, suc, ◌+◌, ◌/◌, ◌%◌, ◌<◌, ◌≤◌, ◌==◌, Bool, true, false, true≢false, cond, List, [], ◌∷◌, ◌++◌, length, get_or, Contains, refl, sym, ap, subst, ◌∙◌, inl, inr, ⊎_elim, arith}
use Rattle.std.specs.List.{IsDistinct, list_any}
use Rattle.std.specs.Int.{bit_at}
use Rattle.std.proofs.lemmas.Bool.{cases_lt}
use Rattle.std.proofs.lemmas.Cmp.{nat_eq_equiv}
use Rattle.std.proofs.lemmas.List.{length-append}
use Rattle.std.proofs.lemmas.List.Elements.{Contains-append_left, Contains-append_right, Contains-append_cases, Contains-push, Contains-push_cases}
use Rattle.std.proofs.lemmas.Map.Keys.{IsDistinct-push, IsDistinct-from_apart, IsDistinct-IsPermutation}
use Rattle.std.specs.List.Sorted.{IsPermutation}
use Rattle.std.proofs.lemmas.List.Sorted.{Contains-permutation, IsPermutation-sym}
use Rattle.std.proofs.lemmas.Map.Views.{exact_unsigned_eq, Contains-from_any}
use Rattle.std.proofs.lemmas.Map.Steps.{length-le_from_distinct_below}
use Rattle.list_laws.proofs.Members.{none, here, parts}
use Rattle.reach_rows.specs.Bits.{Has}
use Rattle.closure_check.specs.Marking.{AreMarks, members_of}
use Rattle.reach_rows.specs.Paths.{IsInRow}

-- ---- members by bits

pub members_has : (words : List ℕ) (n q : ℕ) → Contains (members_of words n) q → (q < n) × Has words q
members_has words zero q i = absurd (none q i)
members_has words (suc n) q i = ⊎_elim
    (λ before. let h = members_has words n q before in (omega (arith, h.0), h.1))
    (λ last. one (bit_at (get_or words (n / 64) 0) (n % 64) == 1) refl last)
    (Contains-append_cases (members_of words n) (cond (bit_at (get_or words (n / 64) 0) (n % 64) == 1) (n ∷ []) []) q i)
  where
    one : (b : Bool) → (bit_at (get_or words (n / 64) 0) (n % 64) == 1) ≡ b → Contains (cond b (n ∷ []) []) q → (q < suc n) × Has words q
    one true e h = ⊎_elim
        (λ same. (omega (arith, same), subst (Has words) same (exact_unsigned_eq (bit_at (get_or words (n / 64) 0) (n % 64)) 1 e)))
        (λ no. absurd (none q no))
        (parts n q [] h)
    one false e h = absurd (none q h)

pub members_hold : (words : List ℕ) (n q : ℕ) → q < n → Has words q → Contains (members_of words n) q
members_hold words zero q l h = absurd (omega (arith, l))
members_hold words (suc n) q l h = ⊎_elim
    (λ below. Contains-append_left (members_of words n) (last n) q (members_hold words n q below h))
    (λ top. Contains-append_right (members_of words n) (last n) q (at (omega (arith, l, top))))
    (cases_lt q n)
  where
    last : ℕ → List ℕ
    last m = cond (bit_at (get_or words (m / 64) 0) (m % 64) == 1) (m ∷ []) []

    at : q ≡ n → Contains (last n) q
    at e = subst (λ m. Contains (last m) q) e (subst (λ (b : Bool). Contains (cond b (q ∷ []) []) q) (sym (ap (λ x. x == 1) h)) (here q []))

-- ---- lists of members

pub below_list : (list : List ℕ) (n : ℕ) → IsDistinct ◌==◌ list → ((q : ℕ) → Contains list q → q < n) → length list ≤ n
below_list list n distinct below = length-le_from_distinct_below list n distinct (λ q e. below q (Contains-from_any exact_unsigned_eq q list e))

not_any : (list : List ℕ) (x : ℕ) → (Contains list x → ⊥) → (b : Bool) → list_any (λ y. x == y) list ≡ b → list_any (λ y. x == y) list ≡ false
not_any list x absent true e = absurd (absent (Contains-from_any exact_unsigned_eq x list e))
not_any list x absent false e = e

pub distinct_push : (list : List ℕ) (x : ℕ) → IsDistinct ◌==◌ list → (Contains list x → ⊥) → IsDistinct ◌==◌ (list ++ x ∷ [])
distinct_push list x distinct absent = IsDistinct-push nat_eq_equiv list x distinct (not_any list x absent (list_any (λ y. x == y) list) refl)

pub distinct_none : IsDistinct ◌==◌ []
distinct_none = IsDistinct-from_apart ◌==◌ [] (λ i j d l h. absurd (omega (arith, h)))

-- nothing is listed
pub marks_unlisted : (words : List ℕ) (size : ℕ) (whole : Bool) (list : List ℕ) → length words ≡ size / 64 + 1 → list ≡ [] → (whole ≡ true → (q : ℕ) → Has words q → ⊥) → AreMarks words size whole list
marks_unlisted words size whole list wide empty unmarked = record {
  wide = wide;
  distinct = subst (IsDistinct ◌==◌) (sym empty) distinct_none;
  members = λ q i. absurd (none q (subst (λ xs. Contains xs q) empty i));
  lists = λ e q i. absurd (unmarked e q (members_has words size q i).1);
}

-- ---- one more

module _ (words new : List ℕ) (size x : ℕ) (more : (q : ℕ) → Has new q ↔ (Has words q ⊎ (q ≡ x))) (l : x < size) where
  pub members_more : (q : ℕ) → Contains (members_of new size) q ↔ (Contains (members_of words size) q ⊎ (q ≡ x))
  members_more q = (
    λ i. (let h = members_has new size q i in ⊎_elim (λ was. inl (members_hold words size q h.0 was)) (λ same. inr same) ((more q).0 h.1)),
    ⊎_elim (λ i. let h = members_has words size q i in members_hold new size q h.0 ((more q).1 (inl h.1))) (λ same. members_hold new size q (omega (arith, l, same)) ((more q).1 (inr same))),
  )

  module _ (whole : Bool) (list : List ℕ) (marks : AreMarks words size whole list) (long : length new ≡ length words) where
    pub marks_more_unlisted : whole ≡ false → AreMarks new size whole list
    marks_more_unlisted e = record {
      wide = long ∙ marks.wide;
      distinct = marks.distinct;
      members = λ q i. (members_more q).1 (inl (marks.members q i));
      lists = λ t. absurd (true≢false (sym t ∙ e));
    }

    module _ (fresh : Has words x → ⊥) where
      absent : Contains list x → ⊥
      absent i = fresh (members_has words size x (marks.members x i)).1

      pub marks_more : whole ≡ true → AreMarks new size whole (list ++ x ∷ [])
      marks_more e = record {
        wide = long ∙ marks.wide;
        distinct = distinct_push list x marks.distinct absent;
        members = λ q i. ⊎_elim (λ was. (members_more q).1 (inl (marks.members q was))) (λ same. (members_more q).1 (inr (sym same))) (Contains-push_cases list x q i);
        lists = λ _ q i. ⊎_elim (λ was. Contains-append_left list (x ∷ []) q (marks.lists e q was)) (λ same. subst (Contains (list ++ x ∷ [])) (sym same) (Contains-push list x)) ((members_more q).0 i);
      }

      pub room_for_one : length list < size
      room_for_one = omega (arith, below_list (list ++ x ∷ []) size (distinct_push list x marks.distinct absent) (λ q i. ⊎_elim (λ was. (members_has words size q (marks.members q was)).0) (λ same. omega (arith, same, l)) (Contains-push_cases list x q i)), length-append list (x ∷ []))

pub row_of : (rows : List (List ℕ)) (xs ys : List ℕ) → ((p : ℕ) → Contains xs p ↔ Contains ys p) → (q : ℕ) → IsInRow rows xs q ↔ IsInRow rows ys q
row_of rows xs ys same q = (
  λ h. record { from = h.from; member = (same h.from).0 h.member; has = h.has },
  λ h. record { from = h.from; member = (same h.from).1 h.member; has = h.has },
)

-- the list in another order
pub marks_moved : (words : List ℕ) (size : ℕ) (whole : Bool) (list : List ℕ) → AreMarks words size whole list → (moved : List ℕ) → IsPermutation list moved → AreMarks words size whole moved
marks_moved words size whole list marks moved p = record {
  wide = marks.wide;
  distinct = IsDistinct-IsPermutation ◌==◌ nat_eq_equiv.symm list moved p marks.distinct;
  members = λ q i. marks.members q (Contains-permutation moved list q (IsPermutation-sym list moved p) i);
  lists = λ e q i. Contains-permutation list moved q p (marks.lists e q i);
}
