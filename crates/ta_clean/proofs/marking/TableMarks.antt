-- Writes to the marks of a table.
use Rattle.std.proofs.Common.{◌≡◌, ◌≢◌, ◌↔◌, ◌⊎◌, ℕ, Bool, false, IsTrue, true≢false, zero, suc, ◌+◌, ◌*◌, ◌/◌, ◌%◌, ◌<◌, Some, slice_get, length, get_or, set, refl, sym, ap, subst, ◌∙◌, inl, inr, ⊎_elim, arith}
use Rattle.std.proofs.Math.Nat.{mul-le-mul_right, div-add-mod}
use Rattle.std.proofs.lemmas.Bool.{cases_lt}
use Rattle.std.proofs.lemmas.Nat.{mul-add-lt}
use Rattle.std.proofs.lemmas.List.{get_or-set_same, get_or-set_other, length-set, get_or_default}
use Rattle.std.proofs.lemmas.List.Sums.{sum_by-set}
use Rattle.std.proofs.lemmas.Option.{slice_get-get_or, slice_get_within, get_or_from_slice_get}
use Rattle.ta_clean.specs.Tables.{Table, IsTable, IsIn, IsMarked, IsTaken, Keeps, TakesOne, place_of, mark_of, weight_of, count_left}
use Rattle.ta_clean.specs.declared.meeting.grid.Mark.{Mark}
use Rattle.ta_clean.specs.declared.meeting.grid.Mark.TheVariants.{Unmarked, Waiting, Taken}

-- ---- places

lower_row : (w p q r s : ℕ) → q < w → p < r → p * w + q < r * w + s
lower_row w p q r s l below = omega (arith, mul-le-mul_right w below, l)

pub same_place : (w p q r s : ℕ) → q < w → s < w → p * w + q ≡ r * w + s → (p ≡ r) × (q ≡ s)
same_place w p q r s l k e =
    let low : p ≡ r = ⊎_elim (λ below. absurd (omega (arith, lower_row w p q r s l below, e)))
    (λ above. ⊎_elim (λ below. absurd (omega (arith, lower_row w r s p q k below, e))) (λ no. omega (arith, above, no)) (cases_lt r p))
    (cases_lt p r) in
    (low, omega (arith, e, ap (λ x. x * w) low))

pub pair_same : (x y : ℕ × ℕ) → x.0 ≡ y.0 → x.1 ≡ y.1 → x ≡ y
pair_same x y e f = λ i. (e i, f i)

nat_cases : (m n : ℕ) → (m ≡ n) ⊎ (m ≡ n → ⊥)
nat_cases m n = ⊎_elim (λ l. inr (λ e. omega (arith, e, l))) (λ h. ⊎_elim (λ l. inr (λ e. omega (arith, e, l))) (λ k. inl (omega (arith, h, k))) (cases_lt n m)) (cases_lt m n)

pub place_within : (table : Table) (pair : ℕ × ℕ) → IsTable table → IsIn table pair → place_of table pair < length table.marks
place_within table pair ok is = omega (arith, ok.full, mul-add-lt pair.0 table.width pair.1 table.height is.first is.second)

-- ---- one mark

-- the table with this mark at the place
abbrev pub with_mark : Table → ℕ → Mark → Table
with_mark table place mark = record table { marks = set table.marks place mark }

module _ (table : Table) (ok : IsTable table) (pair : ℕ × ℕ) (is : IsIn table pair) (mark : Mark) where
  abbrev after : Table
  after = with_mark table (place_of table pair) mark

  pub mark_here : mark_of after pair ≡ mark
  mark_here = get_or-set_same table.marks (place_of table pair) mark Unmarked (place_within table pair ok is)

  pub mark_there : (next : ℕ × ℕ) → IsIn table next → (next ≡ pair → ⊥) → mark_of after next ≡ mark_of table next
  mark_there next within apart =
      let other : place_of table next ≢ place_of table pair = λ e. (let same = same_place table.width next.0 next.1 pair.0 pair.1 within.second is.second e in apart (pair_same next pair same.0 same.1)) in
      get_or-set_other table.marks (place_of table pair) (place_of table next) mark Unmarked other

  pub is_or_not : (next : ℕ × ℕ) → (next ≡ pair) ⊎ (next ≡ pair → ⊥)
  is_or_not next =
      ⊎_elim
      (λ e. ⊎_elim (λ f. inl (pair_same next pair e f)) (λ n. inr (λ same. n (ap (λ (x : ℕ × ℕ). x.1) same))) (nat_cases next.1 pair.1))
      (λ n. inr (λ same. n (ap (λ (x : ℕ × ℕ). x.0) same)))
      (nat_cases next.0 pair.0)

  pub weight_after : count_left after + weight_of (mark_of table pair) ≡ count_left table + weight_of mark
  weight_after = sum_by-set weight_of table.marks (place_of table pair) mark Unmarked (place_within table pair ok is)

  in_after : (next : ℕ × ℕ) → IsIn after next → IsIn table next
  in_after next w = record { first = w.first; second = w.second }

  in_before : (next : ℕ × ℕ) → IsIn table next → IsIn after next
  in_before next w = record { first = w.first; second = w.second }

  -- what is marked after, where the pair is marked by it
  pub was_marked : (next : ℕ × ℕ) → IsMarked after next → IsMarked table next ⊎ (next ≡ pair)
  was_marked next m = ⊎_elim (λ same. inr same)
      (λ apart. inl (record { within = in_after next m.within; marked = λ e. m.marked (mark_there next (in_after next m.within) apart ∙ e) })) (is_or_not next)

  pub still_marked : mark ≢ Unmarked → (next : ℕ × ℕ) → IsMarked table next → IsMarked after next
  still_marked not next m = ⊎_elim
      (λ same. subst (IsMarked after) (sym same) (record { within = in_before pair is; marked = λ e. not (sym mark_here ∙ e) }))
      (λ apart. record { within = in_before next m.within; marked = λ e. m.marked (sym (mark_there next m.within apart) ∙ e) })
      (is_or_not next)

  pub now_marked : mark ≢ Unmarked → IsMarked after pair
  now_marked not = record { within = in_before pair is; marked = λ e. not (sym mark_here ∙ e) }

  pub was_taken : (next : ℕ × ℕ) → IsTaken after next → IsTaken table next ⊎ (next ≡ pair)
  was_taken next t = ⊎_elim (λ same. inr same)
      (λ apart. inl (record { within = in_after next t.within; taken = sym (mark_there next (in_after next t.within) apart) ∙ t.taken })) (is_or_not next)

-- ---- a pair is marked that wasn't

pub unmarked_by : (m : Mark) (r : Bool) → IsTrue r ↔ (m ≢ Unmarked) → r ≡ false → m ≡ Unmarked
unmarked_by Unmarked r h e = refl
unmarked_by Waiting r h e = absurd (true≢false (sym (h.1 (λ f. absurd (cc))) ∙ e))
unmarked_by Taken r h e = absurd (true≢false (sym (h.1 (λ f. absurd (cc))) ∙ e))

-- the mark that was read
pub mark_read : (table : Table) (ok : IsTable table) (pair : ℕ × ℕ) → IsIn table pair → (m d : Mark) → m ≡ get_or table.marks (place_of table pair) d → mark_of table pair ≡ m
mark_read table ok pair is m d e = get_or_default table.marks (place_of table pair) Unmarked d (place_within table pair ok is) ∙ sym e

module _ (table : Table) (ok : IsTable table) (pair : ℕ × ℕ) (is : IsIn table pair) (new : mark_of table pair ≡ Unmarked) where
  waiting_not : Waiting ≢ Unmarked
  waiting_not e = absurd (cc)

  not_taken : (next : ℕ × ℕ) → IsTaken (with_mark table (place_of table pair) Waiting) next → IsTaken table next
  not_taken next t = ⊎_elim (λ before. before)
      (λ same. absurd (let here = subst (IsTaken (with_mark table (place_of table pair) Waiting)) same t in let e = sym (mark_here table ok pair is Waiting) ∙ here.taken in cc))
      (was_taken table ok pair is Waiting next t)

  pub marking_keeps : Keeps table (with_mark table (place_of table pair) Waiting)
  marking_keeps = record {
    height = refl;
    width = refl;
    marked = still_marked table ok pair is Waiting waiting_not;
    taken = not_taken;
    left = omega (arith, weight_after table ok pair is Waiting, ap weight_of new);
  }

  pub marking_marks : IsMarked (with_mark table (place_of table pair) Waiting) pair
  marking_marks = now_marked table ok pair is Waiting waiting_not

-- ---- a pair that waits is taken

module _ (table : Table) (ok : IsTable table) (place : ℕ) (waits : slice_get table.marks place ≡ Some Waiting) where
  pub inside : place < length table.marks
  inside = slice_get_within table.marks place Waiting waits

  pub wide : 0 < table.width
  wide = go table.width refl
    where
      go : (w : ℕ) → table.width ≡ w → 0 < table.width
      go zero e = absurd (omega (arith, inside, ok.full, ap (λ w. table.height * w) e))
      go (suc w) e = omega (arith, e)

  abbrev pub pair_at : ℕ × ℕ
  pair_at = (place / table.width, place % table.width)

  pub is_place : place_of table pair_at ≡ place
  is_place = omega (arith, div-add-mod place table.width)

  pub is_in : IsIn table pair_at
  is_in =
      let w = wide in
      let second : place % table.width < table.width = omega arith in
      let first : place / table.width < table.height = ⊎_elim (λ l. l) (λ h. absurd (omega (arith, mul-le-mul_right table.width h, div-add-mod place table.width, inside, ok.full))) (cases_lt (place / table.width) table.height) in
      record { first = first; second = second }

  was_waiting : mark_of table pair_at ≡ Waiting
  was_waiting = ap (λ n. get_or table.marks n Unmarked) is_place ∙ (get_or_default table.marks place Unmarked Waiting inside ∙ get_or_from_slice_get table.marks place Waiting Waiting waits)

  taken_not : Taken ≢ Unmarked
  taken_not e = absurd (cc)

  was : IsMarked table pair_at
  was = record { within = is_in; marked = λ e. absurd (let f = sym was_waiting ∙ e in cc) }

  takes_here : TakesOne table (with_mark table (place_of table pair_at) Taken) pair_at
  takes_here = record {
    height = refl;
    width = refl;
    was = was;
    marked = still_marked table ok pair_at is_in Taken taken_not;
    no_more = λ next m. ⊎_elim (λ before. before) (λ same. subst (IsMarked table) (sym same) was) (was_marked table ok pair_at is_in Taken next m);
    taken = was_taken table ok pair_at is_in Taken;
    fewer = omega (arith, weight_after table ok pair_at is_in Taken, ap weight_of was_waiting);
  }

  pub takes_one : TakesOne table (with_mark table place Taken) pair_at
  takes_one = subst (λ n. TakesOne table (with_mark table n Taken) pair_at) is_place takes_here

-- with another mark it still is one
pub table_with : (table : Table) → IsTable table → (place : ℕ) (mark : Mark) → IsTable (with_mark table place mark)
table_with table ok place mark = record { low = ok.low; narrow = ok.narrow; full = length-set table.marks place mark ∙ ok.full }

-- ---- nothing waits

pub all_taken : (table : Table) → IsTable table → ((place : ℕ) → slice_get table.marks place ≢ Some Waiting) → (pair : ℕ × ℕ) → IsMarked table pair → IsTaken table pair
all_taken table ok none pair m = go (mark_of table pair) refl
  where
    go : (mark : Mark) → mark_of table pair ≡ mark → IsTaken table pair
    go Unmarked e = absurd (m.marked e)
    go Waiting e = absurd (none (place_of table pair) (slice_get-get_or table.marks (place_of table pair) Unmarked (place_within table pair ok m.within) ∙ ap Some e))
    go Taken e = record { within = m.within; taken = e }

-- ---- no mark

pub none_marked : (old new : Table) → ((k : ℕ) → get_or new.marks k Unmarked ≡ Unmarked) → (pair : ℕ × ℕ) → IsMarked new pair → ⊥
none_marked old new none pair m = m.marked (none (place_of new pair))
