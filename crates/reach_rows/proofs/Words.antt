-- Bits of words.
use Rattle.std.proofs.Common.{◌≡◌, ◌≢◌, ◌↔◌, ◌⊎◌, ℕ, Bool, true, false, max, ◌+◌, ◌-◌, ◌*◌, ◌^◌, ◌/◌, ◌%◌, ◌<◌, ◌≤◌, List, length, get_or, set, replicate, bit_or, refl, sym, ap, subst, ◌∙◌, inl, inr, ⊎_elim, true≢false, arith}
use Rattle.std.proofs.lemmas.Bool.{cases_lt}
use Rattle.std.proofs.lemmas.Nat.{le_or_l}
use Rattle.std.proofs.lemmas.Nat.Bits.{bit_at_or, bit_at-lt, bit_at-zero, bit_at_ones}
use Rattle.std.proofs.lemmas.List.{get_or-set_same, get_or-set_other, get_or_past, get_or-replicate, length-set}
use Rattle.std.proofs.lemmas.List.Sums.{sum_by-set}
use Rattle.std.specs.Int.{bit_at}
use Rattle.reach_rows.specs.Bits.{Has, left_of}

either : (a b : ℕ) → max a b ≡ 1 → (a ≡ 1) ⊎ (b ≡ 1)
either a b e = ⊎_elim (λ l. inr (omega (arith, l, e))) (λ h. ⊎_elim (λ l. inl (omega (arith, h, l, e))) (λ k. inl (omega (arith, h, k, e))) (cases_lt b a)) (cases_lt a b)

no_bit : (words : List ℕ) (q : ℕ) → length words ≤ q / 64 → Has words q → ⊥
no_bit words q l h = omega (arith, sym h ∙ (ap (λ word. bit_at word (q % 64)) (get_or_past words (q / 64) 0 l) ∙ bit_at-zero (q % 64)))

-- a member is one for which there is room
pub has_within : (words : List ℕ) (q : ℕ) → Has words q → q < 64 * length words
has_within words q h = ⊎_elim (λ l. omega (arith, l)) (λ l. absurd (no_bit words q l h)) (cases_lt (q / 64) (length words))

module _ (old others new : List ℕ) (joined : (i : ℕ) → i < length old → get_or new i 0 ≡ bit_or (get_or old i 0) (get_or others i 0)) (long : length new ≡ length old) (room : (q : ℕ) → Has others q → q < 64 * length old) where
  bit_joined : (q : ℕ) → q / 64 < length old → bit_at (get_or new (q / 64) 0) (q % 64) ≡ max (bit_at (get_or old (q / 64) 0) (q % 64)) (bit_at (get_or others (q / 64) 0) (q % 64))
  bit_joined q l = ap (λ word. bit_at word (q % 64)) (joined (q / 64) l) ∙ bit_at_or (get_or old (q / 64) 0) (get_or others (q / 64) 0) (q % 64)

  within : (q : ℕ) → q < 64 * length old → q / 64 < length old
  within q l = omega (arith, l)

  pub joined_members : (q : ℕ) → Has new q ↔ (Has old q ⊎ Has others q)
  joined_members q =
      let one = bit_at-lt (get_or old (q / 64) 0) (q % 64) in
      let other = bit_at-lt (get_or others (q / 64) 0) (q % 64) in (
        λ h. either _ _ (sym (bit_joined q (within q (subst (λ n. q < 64 * n) long (has_within new q h)))) ∙ h),
        ⊎_elim (λ h. omega (arith, bit_joined q (within q (has_within old q h)), h, one, other)) (λ h. omega (arith, bit_joined q (within q (room q h)), h, one, other)),
      )

-- the words before a place are joined, the others as they were
pub record AreJoinedBelow (old others : List ℕ) (at : ℕ) (new : List ℕ) : Type 0 where
  pub done : (i : ℕ) → i < at → get_or new i 0 ≡ bit_or (get_or old i 0) (get_or others i 0)
  pub left : (i : ℕ) → at ≤ i → get_or new i 0 ≡ get_or old i 0
  pub long : length new ≡ length old

pub joined_starts : (old others : List ℕ) → AreJoinedBelow old others 0 old
joined_starts old others = record { done = λ i l. absurd (omega (arith, l)); left = λ i l. refl; long = refl }

module _ (old others new : List ℕ) (at : ℕ) (below : AreJoinedBelow old others at new) where
  step : (more : List ℕ) → get_or more at 0 ≡ bit_or (get_or old at 0) (get_or others at 0) → ((i : ℕ) → i ≢ at → get_or more i 0 ≡ get_or new i 0) → length more ≡ length new → AreJoinedBelow old others (at + 1) more
  step more here there long = record {
    done = λ i l. ⊎_elim (λ k. there i (λ e. omega (arith, k, e)) ∙ below.done i k) (λ k. let e : at ≡ i = omega (arith, l, k) in subst (λ j. get_or more j 0 ≡ bit_or (get_or old j 0) (get_or others j 0)) e here) (cases_lt i at);
    left = λ i l. there i (λ e. omega (arith, l, e)) ∙ below.left i (omega (arith, l));
    long = long ∙ below.long;
  }

  -- the word at the place stays
  pub joined_same : bit_or (get_or new at 0) (get_or others at 0) ≡ get_or new at 0 → AreJoinedBelow old others (at + 1) new
  joined_same e = step new (sym e ∙ ap (λ word. bit_or word (get_or others at 0)) (below.left at (omega arith))) (λ i n. refl) refl

  pub joined_more : at < length new → AreJoinedBelow old others (at + 1) (set new at (bit_or (get_or new at 0) (get_or others at 0)))
  joined_more l = step (set new at (bit_or (get_or new at 0) (get_or others at 0)))
      (get_or-set_same new at _ 0 l ∙ ap (λ word. bit_or word (get_or others at 0)) (below.left at (omega arith)))
      (λ i n. get_or-set_other new at i _ 0 n)
      (length-set new at _)

-- a word with more bits has less left
pub left_falls : (words : List ℕ) (at word : ℕ) → at < length words → get_or words at 0 < word → word < 2 ^ 64 → left_of (set words at word) < left_of words
left_falls words at word l more small = omega (arith, sum_by-set (λ w. 2 ^ 64 - w) words at word 0 l, more, small)

-- what the loop keeps
pub record IsJoining (old others : List ℕ) (at : ℕ) (more : Bool) (new : List ℕ) : Type 0 where
  pub joined : AreJoinedBelow old others at new
  pub same : more ≡ false → new ≡ old
  pub falls : more ≡ true → left_of new < left_of old
  pub at_most : left_of new ≤ left_of old

pub joining_starts : (old others : List ℕ) → IsJoining old others 0 false old
joining_starts old others = record { joined = joined_starts old others; same = λ _. refl; falls = λ e. absurd (true≢false (sym e)); at_most = omega arith }

module _ (old others new : List ℕ) (at : ℕ) (more : Bool) (is : IsJoining old others at more new) (both : ℕ) (value : both ≡ bit_or (get_or new at 0) (get_or others at 0)) (after : List ℕ) (found : Bool) where
  pub joining_same : both ≡ get_or new at 0 → after ≡ new → found ≡ more → IsJoining old others (at + 1) found after
  joining_same e same_words same_bit = rw same_words (rw same_bit (record { joined = joined_same old others new at is.joined (sym value ∙ e); same = is.same; falls = is.falls; at_most = is.at_most }))

  pub joining_more : at < length new → (both ≡ get_or new at 0 → ⊥) → both < 2 ^ 64 → after ≡ set new at both → found ≡ true → IsJoining old others (at + 1) found after
  joining_more l other small words_are bit_is =
      let above : get_or new at 0 < both = ⊎_elim (λ k. k) (λ h. absurd (other (omega (arith, h, value, le_or_l (get_or new at 0) (get_or others at 0))))) (cases_lt (get_or new at 0) both) in
      let less = left_falls new at both l above small in
      rw words_are (rw bit_is (record {
        joined = subst (λ word. AreJoinedBelow old others (at + 1) (set new at word)) (sym value) (joined_more old others new at is.joined l);
        same = λ e. absurd (true≢false e);
        falls = λ _. omega (arith, less, is.at_most);
        at_most = omega (arith, less, is.at_most);
      }))

-- ---- within

abbrev pub AreWithinBelow : List ℕ → List ℕ → ℕ → Type 0
AreWithinBelow words others at = (i : ℕ) → i < at → bit_or (get_or words i 0) (get_or others i 0) ≡ get_or others i 0

pub within_more : (words others : List ℕ) (at : ℕ) → AreWithinBelow words others at → bit_or (get_or words at 0) (get_or others at 0) ≡ get_or others at 0 → AreWithinBelow words others (at + 1)
within_more words others at below e i l = ⊎_elim (below i) (λ h. let same : at ≡ i = omega (arith, l, h) in subst (λ j. bit_or (get_or words j 0) (get_or others j 0) ≡ get_or others j 0) same e) (cases_lt i at)

pub within_ends : (words others : List ℕ) (at : ℕ) → AreWithinBelow words others at → length words ≤ at → (q : ℕ) → Has words q → Has others q
within_ends words others at below end q h =
    let w = get_or words (q / 64) 0 in
    let o = get_or others (q / 64) 0 in
    ⊎_elim
    (λ l. let e = sym (bit_at_or w o (q % 64)) ∙ ap (λ word. bit_at word (q % 64)) (below (q / 64) l) in omega (arith, e, h, bit_at-lt o (q % 64)))
    (λ l. absurd (no_bit words q (omega (arith, l, end)) h))
    (cases_lt (q / 64) at)

-- ---- all ones

pub all_ones : (n : ℕ) (words : List ℕ) → words ≡ replicate n 18446744073709551615 → (q : ℕ) → q < 64 * n → Has words q
all_ones n words e q l =
    ap (λ word. bit_at word (q % 64)) (ap (λ xs. get_or xs (q / 64) 0) e ∙ get_or-replicate n (q / 64) 18446744073709551615 0 (omega (arith, l))) ∙ bit_at_ones 64 (q % 64) (omega arith)
