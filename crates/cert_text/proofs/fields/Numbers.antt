-- A number's word has digits alone, and no other number has it.
use Rattle.std.proofs.Common.{get_or, min, ◌≡◌, ℕ, ◌+◌, ◌-◌, ◌≤◌, ◌<◌, ◌==◌, Bool, true, false, cond, List, [], ◌∷◌, map, refl, sym, ap, ap₂, true≢false, subst, ◌∙◌, arith}
use Rattle.std.specs.Prelude.{All}
use Rattle.std.specs.Prelude.{◌++◌, ◌*◌, ◌/◌, ◌%◌, ◌&&◌, length, if◌then◌else◌}
use Rattle.std.specs.List.{list_all, AllByRecursion}
use Rattle.std.specs.Int.Digits.{digits_of, number_from_digits, number_from_digits_after}
use Rattle.std.proofs.lemmas.Bool.{eqb-true, eqb-false, ne_eqb}
use Rattle.std.proofs.lemmas.List.{append-nil, append_assoc}
use Rattle.std.proofs.lemmas.Grind.{common_steps}
use Rattle.std.proofs.lemmas.List.Elements.{All-map, All-weaker, All-cons, All-nil, All-from_recursion, recursion_from_All}
use Rattle.std.proofs.lemmas.Int.Digits.{all_below_base_digits_of, number_digits_of, digits_of_step, first_digits_of}
use Rattle.ranked_terms.specs.Texts.{Text, number_word}
use Rattle.cert_text.specs.Numerals.{is_digit, is_numeral, value_of}
use Rattle.cert_text.proofs.fields.Texts.{Lacks}

pub record IsDigit (c : ℕ) : Type 0 where
  pub least : 48 ≤ c
  pub most : c < 58

pub number_has_digits : (n : ℕ) → All IsDigit (number_word n)
number_has_digits n = go (n == 0)
  where
    go : (b : Bool) → All IsDigit (cond b (48 ∷ []) (map (λ d. 48 + d) (digits_of 10 n)))
    go true = All-cons IsDigit 48 [] (record { least = omega arith; most = omega arith }) (All-nil IsDigit)
    go false = All-map IsDigit (λ d. 48 + d) (digits_of 10 n)
        (All-weaker (λ d. d < 10) (λ d. IsDigit (48 + d)) (λ d small. record { least = omega arith; most = omega arith }) (digits_of 10 n)
        (All-from_recursion (λ d. d < 10) (digits_of 10 n) (all_below_base_digits_of 10 n (omega arith))))

pub number_lacks : (b n : ℕ) → (IsDigit b → ⊥) → Lacks b (number_word n)
number_lacks b n other = All-weaker IsDigit (λ x. (x == b) ≡ false) (λ x digit. ne_eqb x b (λ e. other (subst IsDigit e digit))) (number_word n) (number_has_digits n)

down_up : (ds : List ℕ) → map (λ c. c - 48) (map (λ d. 48 + d) ds) ≡ ds
down_up [] = refl
down_up (d ∷ ds) = let one : (48 + d) - 48 ≡ d = omega arith in ap (λ x. x ∷ map (λ c. c - 48) (map (λ y. 48 + y) ds)) one ∙ ap (λ xs. d ∷ xs) (down_up ds)

pub value_again : (n : ℕ) → value_of (number_word n) ≡ n
value_again n = go (n == 0) refl
  where
    go : (b : Bool) → (n == 0) ≡ b → value_of (cond b (48 ∷ []) (map (λ d. 48 + d) (digits_of 10 n))) ≡ n
    go true e = sym (eqb-true n 0 e)
    go false e = ap (number_from_digits 10) (down_up (digits_of 10 n)) ∙ number_digits_of 10 n (omega arith)

pub number_once : (m n : ℕ) → number_word m ≡ number_word n → m ≡ n
number_once m n e = sym (value_again m) ∙ ap value_of e ∙ value_again n

values_again : (ns : List ℕ) → map value_of (map number_word ns) ≡ ns
values_again [] = refl
values_again (n ∷ ns) = ap (λ x. x ∷ map value_of (map number_word ns)) (value_again n) ∙ ap (λ xs. n ∷ xs) (values_again ns)

pub numbers_once : (ms ns : List ℕ) → map number_word ms ≡ map number_word ns → ms ≡ ns
numbers_once ms ns e = sym (values_again ms) ∙ ap (map value_of) e ∙ values_again ns

pub numbers_lack : (b : ℕ) (ns : List ℕ) → (IsDigit b → ⊥) → All (Lacks b) (map number_word ns)
numbers_lack b ns other = All-map (Lacks b) number_word ns (go ns)
  where
    go : (ks : List ℕ) → All (λ n. Lacks b (number_word n)) ks
    go [] = All-nil (λ n. Lacks b (number_word n))
    go (k ∷ ks) = All-cons (λ n. Lacks b (number_word n)) k ks (number_lacks b k other) (go ks)

-- ---- a numeral is the word of its number

digits_after : (n : ℕ) (ds : List ℕ) → 0 < n → AllByRecursion (λ d. d < 10) ds → digits_of 10 (number_from_digits_after 10 n ds) ≡ digits_of 10 n ++ ds
digits_after n [] some small = sym (append-nil (digits_of 10 n))
digits_after n (d ∷ ds) some small =
    let quotient : (n * 10 + d) / 10 ≡ n = omega (arith, small.0) in
    let rest : (n * 10 + d) % 10 ≡ d = omega (arith, small.0) in
    let one : digits_of 10 (n * 10 + d) ≡ digits_of 10 n ++ (d ∷ []) = digits_of_step 10 (n * 10 + d) (omega arith) (omega arith) ∙ ap₂ (λ m r. digits_of 10 m ++ (r ∷ [])) quotient rest in
    digits_after (n * 10 + d) ds (omega arith) small.1 ∙ ap (λ xs. xs ++ ds) one ∙ append_assoc (digits_of 10 n) (d ∷ []) ds

both_true : (a b : Bool) → (a && b) ≡ true → (a ≡ true) × (b ≡ true)
both_true true b e = (refl, e)
both_true false b e = absurd (true≢false (sym e))

digit_is : (c : ℕ) → is_digit c ≡ true → IsDigit c
digit_is c e = grind (arith, common_steps)

below : (w : Text) → list_all is_digit w ≡ true → AllByRecursion (λ d. d < 10) (map (λ c. c - 48) w)
below [] e = tt
below (c ∷ cs) e = let both = both_true (is_digit c) (list_all is_digit cs) e in let d = digit_is c both.0 in (omega (arith, d.least, d.most), below cs both.1)

up_down : (w : Text) → list_all is_digit w ≡ true → map (λ d. 48 + d) (map (λ c. c - 48) w) ≡ w
up_down [] e = refl
up_down (c ∷ cs) e =
    let both = both_true (is_digit c) (list_all is_digit cs) e in let d = digit_is c both.0 in
    let one : 48 + (c - 48) ≡ c = omega (arith, d.least) in
    ap (λ x. x ∷ map (λ y. 48 + y) (map (λ y. y - 48) cs)) one ∙ ap (λ xs. c ∷ xs) (up_down cs both.1)

pub numeral_is : (w : Text) → is_numeral w ≡ true → w ≡ number_word (value_of w)
numeral_is [] e = absurd (true≢false (sym e))
numeral_is (c ∷ cs) e = go (c == 48) refl e
  where
    zero_alone : (xs : Text) → c ≡ 48 → (length xs == 0) ≡ true → c ∷ xs ≡ number_word (value_of (c ∷ xs))
    zero_alone [] is none = ap (λ x. x ∷ []) is ∙ ap (λ x. number_word (value_of (x ∷ []))) (sym is)
    zero_alone (x ∷ xs) is none = let bad = eqb-true (length (x ∷ xs)) 0 none in absurd (omega (arith, bad))

    not_zero : (n : ℕ) → digits_of 10 n ≡ (c - 48) ∷ map (λ x. x - 48) cs → number_word n ≡ map (λ x. 48 + x) (digits_of 10 n)
    not_zero n e = by (n == 0) refl
      where
        by : (b : Bool) → (n == 0) ≡ b → (if b then 48 ∷ [] else map (λ x. 48 + x) (digits_of 10 n)) ≡ map (λ x. 48 + x) (digits_of 10 n)
        by false z = refl
        by true z = let none : [] ≡ (c - 48) ∷ map (λ x. x - 48) cs = ap (digits_of 10) (sym (eqb-true n 0 z)) ∙ e in absurd cc

    go : (b : Bool) → (c == 48) ≡ b → (if b then length cs == 0 else list_all is_digit (c ∷ cs)) ≡ true → c ∷ cs ≡ number_word (value_of (c ∷ cs))
    go true is rest = zero_alone cs (eqb-true c 48 is) rest
    go false is all =
        let both = both_true (is_digit c) (list_all is_digit cs) all in
        let d = digit_is c both.0 in
        let some : 0 < c - 48 = omega (arith, d.least, d.most, eqb-false c 48 is) in
        let first : digits_of 10 (c - 48) ≡ (c - 48) ∷ [] =
        let q : (c - 48) / 10 ≡ 0 = omega (arith, d.most) in let r : (c - 48) % 10 ≡ c - 48 = omega (arith, d.most) in
        digits_of_step 10 (c - 48) (omega arith) some ∙ ap₂ (λ m x. digits_of 10 m ++ (x ∷ [])) q r in
        let front : 0 + (c - 48) ≡ c - 48 = omega arith in
        let value : digits_of 10 (value_of (c ∷ cs)) ≡ (c - 48) ∷ map (λ x. x - 48) cs = ap (λ n. digits_of 10 (number_from_digits_after 10 n (map (λ x. x - 48) cs))) front ∙ digits_after (c - 48) (map (λ x. x - 48) cs) some (below cs both.1) ∙ ap (λ xs. xs ++ map (λ x. x - 48) cs) first in
        sym (up_down (c ∷ cs) all) ∙ ap (map (λ x. 48 + x)) (sym value) ∙ sym (not_zero (value_of (c ∷ cs)) value)

is_digit_true : (c : ℕ) → IsDigit c → is_digit c ≡ true
is_digit_true c d = let low = d.least in let high = d.most in grind (arith, common_steps)

all_digits : (w : Text) → AllByRecursion IsDigit w → list_all is_digit w ≡ true
all_digits [] h = refl
all_digits (c ∷ cs) h = ap (λ b. b && list_all is_digit cs) (is_digit_true c h.0) ∙ all_digits cs h.1

pub number_is_numeral : (n : ℕ) → is_numeral (number_word n) ≡ true
number_is_numeral n = go (n == 0) refl
  where
    canonical : (w : Text) → w ≡ map (λ d. 48 + d) (digits_of 10 n) → 0 < n → list_all is_digit w ≡ true → is_numeral w ≡ true
    canonical [] e some all = let none : [] ≡ digits_of 10 n = ap (map (λ c. c - 48)) e ∙ down_up (digits_of 10 n) in
        let bad : n ≡ 0 = sym (number_digits_of 10 n (omega arith)) ∙ ap (number_from_digits 10) (sym none) in absurd (omega (arith, bad))
    canonical (c ∷ cs) e some all =
        let ds : map (λ x. x - 48) (c ∷ cs) ≡ digits_of 10 n = ap (map (λ x. x - 48)) e ∙ down_up (digits_of 10 n) in
        let first : 0 < c - 48 = subst (λ (xs : List ℕ). 0 < get_or xs 0 0) (sym ds) (first_digits_of 10 n (omega arith) some) in
        ap (λ b. if b then length cs == 0 else list_all is_digit (c ∷ cs)) (ne_eqb c 48 (λ e48. omega (arith, e48, first))) ∙ all

    go : (b : Bool) → (n == 0) ≡ b → is_numeral (if b then 48 ∷ [] else map (λ d. 48 + d) (digits_of 10 n)) ≡ true
    go true e = refl
    go false e =
        let some : 0 < n = (let other = eqb-false n 0 e in grind (arith, other)) in
        let same : number_word n ≡ map (λ d. 48 + d) (digits_of 10 n) = ap (λ b. if b then 48 ∷ [] else map (λ d. 48 + d) (digits_of 10 n)) e in
        canonical (map (λ d. 48 + d) (digits_of 10 n)) refl some (all_digits _ (subst (AllByRecursion IsDigit) same (recursion_from_All IsDigit (number_word n) (number_has_digits n))))

pub saturates : (v n d : ℕ) → n ≡ min v 4294967295 → min (min (n * 10) 4294967295 + d) 4294967295 ≡ min (v * 10 + d) 4294967295
saturates v n d e = omega (arith, e)
