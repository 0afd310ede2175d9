-- No two applications, and no two positions, are one word.
use Rattle.std.proofs.Common.{◌≡◌, ℕ, ◌==◌, ◌&&◌, Bool, true, false, true≢false, length, List, [], ◌∷◌, ◌++◌, map, refl, sym, ap, ◌∙◌, arith}
use Rattle.std.specs.List.{list_all, join_with_byte}
use Rattle.std.proofs.lemmas.Bool.{eqb-true, eq-eqb}
use Rattle.std.proofs.lemmas.List.Elements.{All-cons, All-nil, All-head, All-same}
use Rattle.std.proofs.lemmas.List.Splits.{slice_split_none, slice_split_at, length-slice_split}
use Rattle.ranked_terms.specs.Words.{IsWord, is_word_byte}
use Rattle.ranked_terms.specs.Texts.{Text, number_word, with_args}
use Rattle.cert_text.specs.Words.{position_word}
use Rattle.cert_text.specs.Laws.{WordsOnce}
use Rattle.cert_text.proofs.fields.Texts.{Lacks, cut, joined_once, joined_lacks, front_once}
use Rattle.cert_text.proofs.fields.Numbers.{numbers_once, numbers_lack}

-- a word lacks each byte that is none of a word's
pub lacks : (b : ℕ) (w : Text) → is_word_byte b ≡ false → list_all is_word_byte w ≡ true → Lacks b w
lacks b [] other e = All-nil (λ x. (x == b) ≡ false)
lacks b (x ∷ xs) other e = go (is_word_byte x) refl e (lacks b xs other)
  where
    differs : (y : Bool) → (x == b) ≡ y → is_word_byte x ≡ true → y ≡ false
    differs false p is = refl
    differs true p is = absurd (true≢false (sym is ∙ ap is_word_byte (eqb-true x b p) ∙ other))

    go : (y : Bool) → is_word_byte x ≡ y → (y && list_all is_word_byte xs) ≡ true → (list_all is_word_byte xs ≡ true → Lacks b xs) → Lacks b (x ∷ xs)
    go true is rest later = All-cons (λ z. (z == b) ≡ false) x xs (differs (x == b) refl is) (later rest)
    go false is rest later = absurd (true≢false (sym rest))

pub word_lacks : (b : ℕ) (w : Text) → is_word_byte b ≡ false → IsWord w → Lacks b w
word_lacks b w other word = lacks b w other word.bytes

-- a text without b is none with it
pub never : (b : ℕ) (f g rest : Text) → Lacks b f → Lacks b g → f ≡ g ++ b ∷ rest → ⊥
never b f g rest h k e =
    let same : f ∷ [] ≡ g ∷ cut b rest = sym (slice_split_none (λ z. z == b) f h) ∙ ap (cut b) e ∙ slice_split_at (λ z. z == b) g b rest k (eq-eqb b b refl) in
    let lengths : 1 ≡ length (g ∷ cut b rest) = ap length same in
    let some = length-slice_split (λ z. z == b) rest in
    omega (arith, lengths, some)

abbrev inside : ℕ → List ℕ → Text
inside q qs = join_with_byte 44 (map number_word (q ∷ qs))

inside_once : (p q : ℕ) (ps qs : List ℕ) → inside p ps ++ 41 ∷ [] ≡ inside q qs ++ 41 ∷ [] → p ∷ ps ≡ q ∷ qs
inside_once p q ps qs e =
    let both = front_once 41 (inside p ps) (inside q qs) [] [] (joined_lacks 41 44 (map number_word (p ∷ ps)) refl (numbers_lack 41 (p ∷ ps) (λ d. omega (arith, d.least))))
    (joined_lacks 41 44 (map number_word (q ∷ qs)) refl (numbers_lack 41 (q ∷ qs) (λ d. omega (arith, d.least)))) e in
    numbers_once (p ∷ ps) (q ∷ qs) (joined_once 44 (number_word p) (number_word q) (map number_word ps) (map number_word qs) (numbers_lack 44 (p ∷ ps) (λ d. omega (arith, d.least))) (numbers_lack 44 (q ∷ qs) (λ d. omega (arith, d.least))) both.front)

applied : (f g : Text) (ps qs : List ℕ) → IsWord f → IsWord g → with_args f (map number_word ps) ≡ with_args g (map number_word qs) → (f ≡ g) × (ps ≡ qs)
applied f g [] [] x y e = (e, refl)
applied f g [] (q ∷ qs) x y e = absurd (never 40 f g (inside q qs ++ 41 ∷ []) (word_lacks 40 f refl x) (word_lacks 40 g refl y) e)
applied f g (p ∷ ps) [] x y e = absurd (never 40 g f (inside p ps ++ 41 ∷ []) (word_lacks 40 g refl y) (word_lacks 40 f refl x) (sym e))
applied f g (p ∷ ps) (q ∷ qs) x y e =
    let both = front_once 40 f g (inside p ps ++ 41 ∷ []) (inside q qs ++ 41 ∷ []) (word_lacks 40 f refl x) (word_lacks 40 g refl y) e in
    (both.front, inside_once p q ps qs both.rest)

no_root : (k : ℕ) (ks : List ℕ) → 101 ∷ [] ≡ join_with_byte 46 (map number_word (k ∷ ks)) → ⊥
no_root k ks e =
    let bad : (101 == 101) ≡ false = All-head (λ x. (x == 101) ≡ false) 101 [] (All-same (λ x. (x == 101) ≡ false) (101 ∷ []) (join_with_byte 46 (map number_word (k ∷ ks))) e
    (joined_lacks 101 46 (map number_word (k ∷ ks)) refl (numbers_lack 101 (k ∷ ks) (λ d. omega (arith, d.most))))) in
    true≢false bad

position : (at to : List ℕ) → position_word at ≡ position_word to → at ≡ to
position [] [] e = refl
position [] (k ∷ ks) e = absurd (no_root k ks e)
position (k ∷ ks) [] e = absurd (no_root k ks (sym e))
position (j ∷ js) (k ∷ ks) e =
    numbers_once (j ∷ js) (k ∷ ks) (joined_once 46 (number_word j) (number_word k) (map number_word js) (map number_word ks) (numbers_lack 46 (j ∷ js) (λ d. omega (arith, d.least))) (numbers_lack 46 (k ∷ ks) (λ d. omega (arith, d.least))) e)

pub words_once : WordsOnce
words_once = record { applied = applied; position = position }
