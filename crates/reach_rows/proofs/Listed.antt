-- Members listed one after the other, and what is in the rows of listed numbers.
use Rattle.std.proofs.Common.{◌≡◌, ◌↔◌, ◌⊎◌, ℕ, ◌+◌, ◌*◌, ◌/◌, ◌%◌, ◌<◌, ◌≤◌, ◌==◌, Bool, true, false, List, [], ◌∷◌, ◌++◌, length, get_or, take, Contains, refl, sym, ap, subst, ◌∙◌, ⊎_elim, arith}
use Rattle.std.specs.List.{IsDistinct, list_any}
use Rattle.std.specs.Int.{bit_at}
use Rattle.std.proofs.lemmas.Bool.{cases_lt}
use Rattle.std.proofs.lemmas.Cmp.{nat_eq_equiv}
use Rattle.std.proofs.lemmas.Nat.Bits.{bit_at-zero}
use Rattle.std.proofs.lemmas.List.{get_or_past, take_more, length-append}
use Rattle.std.proofs.lemmas.List.Elements.{Contains-append_left, Contains-push, Contains-push_cases}
use Rattle.std.proofs.lemmas.Map.Keys.{IsDistinct-push, IsDistinct-from_apart}
use Rattle.std.proofs.lemmas.Map.Views.{exact_unsigned_eq, Contains-from_any}
use Rattle.std.proofs.lemmas.Map.Steps.{length-le_from_distinct_below}
use Rattle.list_laws.proofs.Members.{none}
use Rattle.reach_rows.specs.Bits.{Has, Lists}
use Rattle.reach_rows.specs.Paths.{AreReached, IsInRow}
use Rattle.reach_rows.specs.lemmas.PathLaws.{path_join}

-- ---- members listed one after the other

not_any : (list : List ℕ) (x : ℕ) → (Contains list x → ⊥) → (b : Bool) → list_any (λ y. x == y) list ≡ b → list_any (λ y. x == y) list ≡ false
not_any list x absent true e = absurd (absent (Contains-from_any exact_unsigned_eq x list e))
not_any list x absent false e = e

pub lists_none : (words list : List ℕ) (size : ℕ) → list ≡ [] → Lists words size 0 list
lists_none words list size empty = record {
  members = λ q. (λ i. absurd (none q (subst (λ xs. Contains xs q) empty i)), λ h. absurd (omega (arith, h.0)));
  distinct = subst (IsDistinct ◌==◌) (sym empty) (IsDistinct-from_apart ◌==◌ [] (λ i j d l h. absurd (omega (arith, h))));
}

module _ (words : List ℕ) (size n : ℕ) (list : List ℕ) (lists : Lists words size n list) where
  absent : Contains list n → ⊥
  absent i = omega (arith, ((lists.members n).0 i).0)

  distinct_more : IsDistinct ◌==◌ (list ++ n ∷ [])
  distinct_more = IsDistinct-push nat_eq_equiv list n lists.distinct (not_any list n absent (list_any (λ y. n == y) list) refl)

  pub lists_room : n < size → length list < size
  lists_room l = omega (arith, length-append list (n ∷ []), length-le_from_distinct_below (list ++ n ∷ []) size distinct_more (λ q e. ⊎_elim (λ was. ((lists.members q).0 was).1) (λ same. omega (arith, same, l)) (Contains-push_cases list n q (Contains-from_any exact_unsigned_eq q (list ++ n ∷ []) e))))

  pub lists_more : n < size → Has words n → Lists words size (n + 1) (list ++ n ∷ [])
  lists_more small h = record {
    members = λ q. (
      λ i. ⊎_elim
          (λ was. let m = (lists.members q).0 was in (omega (arith, m.0), m.1, m.2))
          (λ same. (omega (arith, same), omega (arith, same, small), subst (Has words) same h))
          (Contains-push_cases list n q i),
      λ m. ⊎_elim
          (λ below. Contains-append_left list (n ∷ []) q ((lists.members q).1 (below, m.1, m.2)))
          (λ top. let same : n ≡ q = omega (arith, m.0, top) in subst (Contains (list ++ n ∷ [])) same (Contains-push list n))
          (cases_lt q n),
    );
    distinct = distinct_more;
  }

  -- what is passed over isn't a member, or not below the bound
  pub lists_on : (m : ℕ) → n ≤ m → ((q : ℕ) → n ≤ q → q < m → q < size → Has words q → ⊥) → Lists words size m list
  lists_on m le nothing = record {
    members = λ q. (
      λ i. (let h = (lists.members q).0 i in (omega (arith, h.0, le), h.1, h.2)),
      λ h. ⊎_elim (λ below. (lists.members q).1 (below, h.1, h.2)) (λ top. absurd (nothing q top h.0 h.1 h.2)) (cases_lt q n),
    );
    distinct = lists.distinct;
  }

  pub lists_skip : (n < size → Has words n → ⊥) → Lists words size (n + 1) list
  lists_skip nothing = lists_on (n + 1) (omega arith) (λ q le l small h. let same : q ≡ n = omega (arith, le, l) in nothing (omega (arith, same, small)) (subst (Has words) same h))

-- a word without bits
pub lists_word : (words : List ℕ) (size place : ℕ) (list : List ℕ) → Lists words size (64 * place) list → get_or words place 0 ≡ 0 → Lists words size (64 * (place + 1)) list
lists_word words size place list lists empty = lists_on words size (64 * place) list lists (64 * (place + 1)) (omega arith) (λ q le l small h.
    let here : q / 64 ≡ place = omega (arith, le, l) in
    omega (arith, bit_at-zero (q % 64), sym (ap (λ word. bit_at word (q % 64)) (ap (λ k. get_or words k 0) here ∙ empty)) ∙ h))

pub lists_all : (words : List ℕ) (size n : ℕ) (list : List ℕ) → Lists words size n list → size ≤ n → (q : ℕ) → Contains list q ↔ ((q < size) × Has words q)
lists_all words size n list lists end q = (
  λ i. (let h = (lists.members q).0 i in (h.1, h.2)),
  λ h. (lists.members q).1 (omega (arith, h.0, end), h.0, h.1),
)

-- ---- rows

pub row_within : (rows : List (List ℕ)) (p q : ℕ) → Has (get_or rows p []) q → p < length rows
row_within rows p q h = ⊎_elim (λ l. l) (λ l. absurd (omega (arith, bit_at-zero (q % 64), sym (ap (λ row. bit_at (get_or row (q / 64) 0) (q % 64)) (get_or_past rows p [] l)) ∙ h))) (cases_lt p (length rows))

module _ (rows : List (List ℕ)) (edges : List (ℕ × ℕ)) (reached : AreReached edges rows) where
  -- what is in a row that is in a row
  row_of_row : (p r q : ℕ) → Has (get_or rows p []) r → Has (get_or rows r []) q → Has (get_or rows p []) q
  row_of_row p r q h k = (reached p q (row_within rows p r h)).1 (path_join edges p r q ((reached p r (row_within rows p r h)).0 h) ((reached r q (row_within rows r q k)).0 k))

  pub rows_more : (list old new : List ℕ) (k : ℕ) → k < length list → ((q : ℕ) → Has old q ↔ IsInRow rows (take k list) q) →
      ((q : ℕ) → Has new q → Has old q ⊎ Has (get_or rows (get_or list k 0) []) q) → ((q : ℕ) → Has old q → Has new q) →
      (Has old (get_or list k 0) ⊎ ((q : ℕ) → Has (get_or rows (get_or list k 0) []) q → Has new q)) → (q : ℕ) → Has new q ↔ IsInRow rows (take (k + 1) list) q
  rows_more list old new k l so_far members kept joined q =
      let p = get_or list k 0 in
      let more : take (k + 1) list ≡ take k list ++ p ∷ [] = take_more list k 0 l in
      let earlier : IsInRow rows (take k list) q → IsInRow rows (take (k + 1) list) q = λ h. record { from = h.from; member = subst (λ xs. Contains xs h.from) (sym more) (Contains-append_left (take k list) (p ∷ []) h.from h.member); has = h.has } in (
        λ h. ⊎_elim (λ was. earlier ((so_far q).0 was)) (λ row. record { from = p; member = subst (λ xs. Contains xs p) (sym more) (Contains-push (take k list) p); has = row }) (members q h),
        λ h. ⊎_elim
            (λ before. kept q ((so_far q).1 (record { from = h.from; member = before; has = h.has })))
            (λ same.
            let row : Has (get_or rows p []) q = subst (λ r. Has (get_or rows r []) q) (sym same) h.has in
            ⊎_elim
            (λ was. let i = (so_far p).0 was in kept q ((so_far q).1 (record { from = i.from; member = i.member; has = row_of_row i.from p q i.has row })))
            (λ all. all q row)
            joined)
            (Contains-push_cases (take k list) p h.from (subst (λ xs. Contains xs h.from) more h.member)),
      )

pub no_rows : (rows : List (List ℕ)) (list old : List ℕ) → ((q : ℕ) → Has old q → ⊥) → (q : ℕ) → Has old q ↔ IsInRow rows (take 0 list) q
no_rows rows list old unmarked q = (λ h. absurd (unmarked q h), λ h. absurd (none h.from h.member))
