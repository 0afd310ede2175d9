-- The scan of a text decides whether it has the form of a term.
use Rattle.std.proofs.Common.{◌≡◌, ℕ, zero, suc, ◌+◌, ◌<◌, ◌≤◌, get_or, drop, drop-cons, drop_of_length-le, ◌==◌, ◌&&◌, Bool, true, false, true≢false, length, [], ◌∷◌, ◌++◌, Option, Some, None, refl, sym, ap, subst, ◌∙◌, arith}
use Rattle.std.specs.Prelude.{IsTrue, if◌then◌else◌, ◌↔◌}
use Rattle.std.specs.List.{list_all}
use Rattle.std.proofs.lemmas.Bool.{eqb-true}
use Rattle.std.proofs.lemmas.List.{append-nil, append_assoc}
use Rattle.ranked_terms.specs.Words.{IsWord, is_word_byte}
use Rattle.ranked_terms.specs.Texts.{Text}
use Rattle.cert_text.specs.TermForms.{IsTermText, AreTermTexts, name, applied, one, more}
use Rattle.cert_text.specs.declared.terms.Mark.{Mark}
use Rattle.cert_text.specs.declared.terms.Mark.TheVariants as mark
use Rattle.cert_text.specs.declared.terms.Place.{Place}
use Rattle.cert_text.specs.declared.terms.Place.TheVariants as place
use Rattle.cert_text.specs.TermScan.{mark_of, step, is_end, go_on, scan}
use Rattle.cert_text.proofs.format.Symbols.{and_both}

-- ---- which byte a mark is

abbrev Means : ℕ → Mark → Type 0
Means b mark.Letter = is_word_byte b ≡ true
Means b mark.Open = b ≡ 40
Means b mark.Comma = b ≡ 44
Means b mark.Close = b ≡ 41
Means b mark.Other = Unit {0}

means_by : (b : ℕ) (w o c l : Bool) → is_word_byte b ≡ w → (b == 40) ≡ o → (b == 44) ≡ c → (b == 41) ≡ l → Means b (if w then mark.Letter else (if o then mark.Open else (if c then mark.Comma else (if l then mark.Close else mark.Other))))
means_by b true o c l e f g h = e
means_by b false true c l e f g h = eqb-true b 40 f
means_by b false false true l e f g h = eqb-true b 44 g
means_by b false false false true e f g h = eqb-true b 41 h
means_by b false false false false e f g h = tt

means : (b : ℕ) → Means b (mark_of b)
means b = means_by b (is_word_byte b) (b == 40) (b == 44) (b == 41) refl refl refl refl

meant : (b : ℕ) (m : Mark) → mark_of b ≡ m → Means b m
meant b m e = subst (Means b) e (means b)

-- ---- what is scanned is told

-- what stands behind a term, up to the closing bracket
data Tail : Text → Type 0 where
  nothing : Tail []
  behind_comma_more : (args : Text) → AreTermTexts args → Tail (44 ∷ args)

-- the rest closes so many brackets
abbrev Closes : ℕ → Text → Type 0
Closes zero text = text ≡ []
Closes (suc d) text = (tail : Text) × (rest : Text) × (text ≡ tail ++ 41 ∷ rest) × Tail tail × Closes d rest

abbrev Ends : Text → ℕ → Type 0
Ends text d = (t : Text) × (rest : Text) × (text ≡ t ++ rest) × IsTermText t × Closes d rest

abbrev Told : Place → ℕ → Text → Type 0
Told place.Closed d text = Closes d text
Told place.Word d text = (v : Text) → IsWord v → Ends (v ++ text) d
Told place.Start d text = Ends text d

-- a term and its tail are arguments
with_tail : (t tail : Text) → IsTermText t → Tail tail → AreTermTexts (t ++ tail)
with_tail t tail is nothing = subst AreTermTexts (sym (append-nil t)) (one t is)
with_tail t tail is (behind_comma_more args are) = more t args is are

longer : (v : Text) (b : ℕ) → IsWord v → is_word_byte b ≡ true → IsWord (v ++ b ∷ [])
longer v b word is = record { bytes = all v word.bytes; some = some v }
  where
    all : (v : Text) → list_all is_word_byte v ≡ true → list_all is_word_byte (v ++ b ∷ []) ≡ true
    all [] e = ap (λ r. r && true) is
    all (c ∷ v) e = let both = and_both (is_word_byte c) (list_all is_word_byte v) e in (λ i. both.0 i && all v both.1 i)

    some : (v : Text) → 0 < length (v ++ b ∷ [])
    some [] = omega arith
    some (c ∷ v) = omega arith

word_of : (b : ℕ) → is_word_byte b ≡ true → IsWord (b ∷ [])
word_of b is = record { bytes = ap (λ r. r && true) is; some = omega arith }

-- a word ends here
word_ends : (d : ℕ) (text : Text) → Closes d text → (v : Text) → IsWord v → Ends (v ++ text) d
word_ends d text closes v word = (v, text, refl, name v word, closes)

-- behind an opening bracket
opened : (d : ℕ) (bs : Text) → Ends bs (suc d) → (v : Text) → IsWord v → Ends (v ++ 40 ∷ bs) d
opened d bs (t, rest, told, is, (tail, past, closed, tails, closes)) v word = (
  v ++ 40 ∷ ((t ++ tail) ++ 41 ∷ []),
  past,
  ap (λ x. v ++ 40 ∷ x) (told ∙ ap (λ x. t ++ x) closed ∙ sym (append_assoc t tail (41 ∷ past)) ∙ sym (append_assoc (t ++ tail) (41 ∷ []) past)) ∙ sym (append_assoc v (40 ∷ ((t ++ tail) ++ 41 ∷ [])) past),
  applied v (t ++ tail) word (with_tail t tail is tails),
  closes,
)

behind_comma : (d : ℕ) (bs : Text) → Ends bs (suc d) → Closes (suc d) (44 ∷ bs)
behind_comma d bs (t, rest, told, is, (tail, past, closed, tails, closes)) =
    (44 ∷ (t ++ tail), past, ap (λ x. 44 ∷ x) (told ∙ ap (λ x. t ++ x) closed ∙ sym (append_assoc t tail (41 ∷ past))), behind_comma_more (t ++ tail) (with_tail t tail is tails), closes)

behind_close : (d : ℕ) (bs : Text) → Closes d bs → Closes (suc d) (41 ∷ bs)
behind_close d bs closes = ([], bs, refl, nothing, closes)

-- one byte, by what it is and where it stands
stepped : (b : ℕ) (bs : Text) (m : Mark) (p : Place) (d : ℕ) → Means b m → go_on (scan bs) (step m p d) ≡ true → ((q : Place) (n : ℕ) → scan bs q n ≡ true → Told q n bs) → Told p d (b ∷ bs)
stepped b bs mark.Letter place.Closed d is e rest = absurd (true≢false (sym e))
stepped b bs mark.Letter place.Start d is e rest = rest place.Word d e (b ∷ []) (word_of b is)
stepped b bs mark.Letter place.Word d is e rest = λ v word. subst (λ (x : Text). Ends x d) (append_assoc v (b ∷ []) bs) (rest place.Word d e (v ++ b ∷ []) (longer v b word is))
stepped b bs mark.Open place.Word d is e rest = λ v word. subst (λ (c : ℕ). Ends (v ++ c ∷ bs) d) (sym is) (opened d bs (rest place.Start (suc d) e) v word)
stepped b bs mark.Open place.Start d is e rest = absurd (true≢false (sym e))
stepped b bs mark.Open place.Closed d is e rest = absurd (true≢false (sym e))
stepped b bs mark.Comma place.Start d is e rest = absurd (true≢false (sym e))
stepped b bs mark.Comma place.Word zero is e rest = absurd (true≢false (sym e))
stepped b bs mark.Comma place.Word (suc d) is e rest = word_ends (suc d) (b ∷ bs) (subst (λ (c : ℕ). Closes (suc d) (c ∷ bs)) (sym is) (behind_comma d bs (rest place.Start (suc d) e)))
stepped b bs mark.Comma place.Closed zero is e rest = absurd (true≢false (sym e))
stepped b bs mark.Comma place.Closed (suc d) is e rest = subst (λ (c : ℕ). Closes (suc d) (c ∷ bs)) (sym is) (behind_comma d bs (rest place.Start (suc d) e))
stepped b bs mark.Close place.Start d is e rest = absurd (true≢false (sym e))
stepped b bs mark.Close place.Word zero is e rest = absurd (true≢false (sym e))
stepped b bs mark.Close place.Word (suc d) is e rest = word_ends (suc d) (b ∷ bs) (subst (λ (c : ℕ). Closes (suc d) (c ∷ bs)) (sym is) (behind_close d bs (rest place.Closed d e)))
stepped b bs mark.Close place.Closed zero is e rest = absurd (true≢false (sym e))
stepped b bs mark.Close place.Closed (suc d) is e rest = subst (λ (c : ℕ). Closes (suc d) (c ∷ bs)) (sym is) (behind_close d bs (rest place.Closed d e))
stepped b bs mark.Other p d is e rest = absurd (true≢false (sym e))

over : (p : Place) (d : ℕ) → is_end p d ≡ true → Told p d []
over place.Start d e = absurd (true≢false (sym e))
over place.Word d e = word_ends d [] (subst (λ (n : ℕ). Closes n []) (sym (eqb-true d 0 e)) refl)
over place.Closed d e = subst (λ (n : ℕ). Closes n []) (sym (eqb-true d 0 e)) refl

told : (text : Text) (p : Place) (d : ℕ) → scan text p d ≡ true → Told p d text
told [] p d e = over p d e
told (b ∷ bs) p d e = stepped b bs (mark_of b) p d (means b) e (told bs)

-- ---- what is told is scanned

closed_word : (x : Text) (d : ℕ) → scan x place.Closed d ≡ true → scan x place.Word d ≡ true
closed_word [] d e = e
closed_word (b ∷ bs) d e = go (mark_of b) d e
  where
    go : (m : Mark) (n : ℕ) → go_on (scan bs) (step m place.Closed n) ≡ true → go_on (scan bs) (step m place.Word n) ≡ true
    go mark.Letter n e = absurd (true≢false (sym e))
    go mark.Open n e = absurd (true≢false (sym e))
    go mark.Comma zero e = absurd (true≢false (sym e))
    go mark.Comma (suc n) e = e
    go mark.Close zero e = absurd (true≢false (sym e))
    go mark.Close (suc n) e = e
    go mark.Other n e = absurd (true≢false (sym e))

letter_is : (b : ℕ) → is_word_byte b ≡ true → mark_of b ≡ mark.Letter
letter_is b e = ap (λ r. if r then mark.Letter else (if b == 40 then mark.Open else (if b == 44 then mark.Comma else (if b == 41 then mark.Close else mark.Other)))) e

letters : (f x : Text) (d : ℕ) → list_all is_word_byte f ≡ true → scan x place.Word d ≡ true → scan (f ++ x) place.Word d ≡ true
letters [] x d all e = e
letters (b ∷ f) x d all e =
    let both = and_both (is_word_byte b) (list_all is_word_byte f) all in
    ap (λ m. go_on (scan (f ++ x)) (step m place.Word d)) (letter_is b both.0) ∙ letters f x d both.1 e

word_scans : (f x : Text) (d : ℕ) → IsWord f → scan x place.Word d ≡ true → scan (f ++ x) place.Start d ≡ true
word_scans [] x d word e = let some = word.some in absurd (omega (arith, some))
word_scans (b ∷ f) x d word e =
    let both = and_both (is_word_byte b) (list_all is_word_byte f) word.bytes in
    ap (λ m. go_on (scan (f ++ x)) (step m place.Start d)) (letter_is b both.0) ∙ letters f x d both.1 e

mutual
  scans : (t : Text) → IsTermText t → (d : ℕ) (x : Text) → scan x place.Closed d ≡ true → scan (t ++ x) place.Start d ≡ true
  scans t (name f word) d x e = word_scans f x d word (closed_word x d e)
  scans t (applied f args word are) d x e =
      let inner : scan (args ++ 41 ∷ x) place.Start (suc d) ≡ true = all_scan args are d (41 ∷ x) e in
      let text : (f ++ 40 ∷ (args ++ 41 ∷ [])) ++ x ≡ f ++ 40 ∷ (args ++ 41 ∷ x) = append_assoc f (40 ∷ (args ++ 41 ∷ [])) x ∙ ap (λ y. f ++ 40 ∷ y) (append_assoc args (41 ∷ []) x) in
      ap (λ y. scan y place.Start d) text ∙ word_scans f (40 ∷ (args ++ 41 ∷ x)) d word inner

  all_scan : (ts : Text) → AreTermTexts ts → (d : ℕ) (x : Text) → scan x place.Closed (suc d) ≡ true → scan (ts ++ x) place.Start (suc d) ≡ true
  all_scan ts (one t is) d x e = scans t is (suc d) x e
  all_scan ts (more t others is are) d x e =
      ap (λ y. scan y place.Start (suc d)) (append_assoc t (44 ∷ others) x) ∙ scans t is (suc d) (44 ∷ (others ++ x)) (all_scan others are d x e)

-- ---- both

pub scan_is_form : (text : Text) → IsTrue (scan text place.Start 0) ↔ IsTermText text
scan_is_form text = (
  λ e. let ends = told text place.Start 0 e in subst IsTermText (sym (ends.2 ∙ ap (λ x. ends.0 ++ x) ends.4 ∙ append-nil ends.0)) ends.3,
  λ is. ap (λ y. scan y place.Start 0) (sym (append-nil text)) ∙ scans text is 0 [] refl,
)

-- ---- byte by byte

pub scan_on : (text : Text) (i : ℕ) (p : Place) (d : ℕ) (m : Mark) (o : Option (Place × ℕ)) → i < length text → m ≡ mark_of (get_or text i 0) → o ≡ step m p d → scan (drop i text) p d ≡ go_on (scan (drop (i + 1) text)) o
scan_on text i p d m o lt is same =
    let next : suc i ≡ i + 1 = omega arith in
    ap (λ x. scan x p d) (drop-cons text i 0 lt)
    ∙ ap (λ j. go_on (scan (drop j text)) (step (mark_of (get_or text i 0)) p d)) next
    ∙ ap (λ n. go_on (scan (drop (i + 1) text)) (step n p d)) (sym is)
    ∙ ap (go_on (scan (drop (i + 1) text))) (sym same)

abbrev depth_of : Option (Place × ℕ) → ℕ
depth_of None = 0
depth_of (Some at) = at.1

none_is : (o : Option (Place × ℕ)) (x : Place × ℕ) → o ≡ Some x → None ≡ o → ⊥
none_is o x e f = cc

pub step_small : (m : Mark) (p : Place) (d : ℕ) (q : Place) (n : ℕ) → (o : Option (Place × ℕ)) → o ≡ Some (q, n) → step m p d ≡ o → n ≤ d + 1
step_small mark.Letter place.Closed d q n o at e = absurd (none_is o (q, n) at e)
step_small mark.Letter place.Start d q n o at e = let same = ap depth_of (e ∙ at) in omega (arith, same)
step_small mark.Letter place.Word d q n o at e = let same = ap depth_of (e ∙ at) in omega (arith, same)
step_small mark.Open place.Word d q n o at e = let same = ap depth_of (e ∙ at) in omega (arith, same)
step_small mark.Open place.Start d q n o at e = absurd (none_is o (q, n) at e)
step_small mark.Open place.Closed d q n o at e = absurd (none_is o (q, n) at e)
step_small mark.Comma place.Start d q n o at e = absurd (none_is o (q, n) at e)
step_small mark.Comma place.Word zero q n o at e = absurd (none_is o (q, n) at e)
step_small mark.Comma place.Word (suc d) q n o at e = let same = ap depth_of (e ∙ at) in omega (arith, same)
step_small mark.Comma place.Closed zero q n o at e = absurd (none_is o (q, n) at e)
step_small mark.Comma place.Closed (suc d) q n o at e = let same = ap depth_of (e ∙ at) in omega (arith, same)
step_small mark.Close place.Start d q n o at e = absurd (none_is o (q, n) at e)
step_small mark.Close place.Word zero q n o at e = absurd (none_is o (q, n) at e)
step_small mark.Close place.Word (suc d) q n o at e = let same = ap depth_of (e ∙ at) in omega (arith, same)
step_small mark.Close place.Closed zero q n o at e = absurd (none_is o (q, n) at e)
step_small mark.Close place.Closed (suc d) q n o at e = let same = ap depth_of (e ∙ at) in omega (arith, same)
step_small mark.Other p d q n o at e = absurd (none_is o (q, n) at e)

pub at_end : (text : Text) (i : ℕ) (p : Place) (d : ℕ) (r : Bool) → length text ≤ i → r ≡ is_end p d → scan text place.Start 0 ≡ scan (drop i text) p d → IsTrue r ↔ IsTermText text
at_end text i p d r past is same =
    let all : scan text place.Start 0 ≡ r = same ∙ ap (λ x. scan x p d) (drop_of_length-le text past) ∙ sym is in
    (λ yes. (scan_is_form text).0 (all ∙ yes), λ form. sym all ∙ (scan_is_form text).1 form)

pub cut_short : (text : Text) → scan text place.Start 0 ≡ false → IsTrue false ↔ IsTermText text
cut_short text e = (λ yes. absurd (true≢false (sym yes)), λ form. sym e ∙ (scan_is_form text).1 form)
