-- The fields of a transition's line.
use Rattle.std.proofs.Common.{◌≡◌, ◌≢◌, ℕ, ◌==◌, Bool, length, drop, List, [], ◌∷◌, ◌++◌, map, refl, sym, ap, subst, ◌∙◌, arith}
use Rattle.std.specs.Prelude.{codes, IsTrue, ◌↔◌}
use Rattle.std.specs.List.{join_with_byte, list_all}
use Rattle.std.proofs.lemmas.List.{append-nil}
use Rattle.std.proofs.lemmas.List.Splits.{join_with_byte-slice_split, length-slice_split}
use Rattle.ranked_terms.specs.Words.{IsWord, is_word_byte}
use Rattle.ranked_terms.specs.Texts.{Text, number_word, with_args}
use Rattle.cert_text.specs.Cuts.{cut, Lacks, IsParted, AppendsNumbers, IsApplied, IsAroundArrow, arrow_text}
use Rattle.cert_text.proofs.fields.Texts.{FrontAndRest, front_once, cut_joined}
use Rattle.cert_text.proofs.fields.Numbers.{numbers_lack}
use Rattle.cert_text.proofs.fields.Applied.{never, word_lacks}

abbrev inside_of : List ℕ → Text
inside_of qs = join_with_byte 44 (map number_word qs)

-- ---- a name with numbers in brackets

pub no_brackets : (word f : Text) (qs : List ℕ) → Lacks 40 word → (IsWord word → ⊥) → IsWord f → word ≡ with_args f (map number_word qs) → ⊥
no_brackets word f [] lacks other is e = other (subst IsWord (sym e) is)
no_brackets word f (q ∷ qs) lacks other is e = never 40 word f (inside_of (q ∷ qs) ++ 41 ∷ []) lacks (word_lacks 40 f refl is) e

pub name_alone : (word : Text) (old : List ℕ) (new : List ℕ) → IsWord word → new ≡ old → IsApplied word word old new
name_alone word old new is same = record { is_word = is; numbers = []; told = refl; appended = same ∙ sym (append-nil old) }

name_is : (word name inside f : Text) (qs : List ℕ) → IsParted 40 word name inside → IsWord f → word ≡ with_args f (map number_word qs) → (f ≡ name) × (inside ≡ inside_of qs ++ 41 ∷ []) × (qs ≢ [])
name_is word name inside f [] parted is e = absurd (never 40 f name inside (word_lacks 40 f refl is) parted.lacks (sym e ∙ parted.told))
name_is word name inside f (q ∷ qs) parted is e =
    let both = front_once 40 name f inside (inside_of (q ∷ qs) ++ 41 ∷ []) parted.lacks (word_lacks 40 f refl is) (sym parted.told ∙ e) in
    (sym both.front, both.rest, λ none. cc)

pub no_name : (word name inside f : Text) (qs : List ℕ) → IsParted 40 word name inside → (IsWord name → ⊥) → IsWord f → word ≡ with_args f (map number_word qs) → ⊥
no_name word name inside f qs parted other is e = other (subst IsWord (name_is word name inside f qs parted is e).0 is)

pub unclosed : (word name inside f : Text) (qs : List ℕ) → IsParted 40 word name inside → ((front : Text) → inside ≢ front ++ 41 ∷ []) → IsWord f → word ≡ with_args f (map number_word qs) → ⊥
unclosed word name inside f qs parted other is e = other (inside_of qs) (name_is word name inside f qs parted is e).1

last_off : (x y : Text) (b : ℕ) → x ++ b ∷ [] ≡ y ++ b ∷ [] → x ≡ y
last_off [] [] b e = refl
last_off [] (c ∷ y) b e = absurd (too_long y (ap (drop 1) e))
  where
    too_long : (y : Text) → [] ≡ y ++ b ∷ [] → ⊥
    too_long [] e = cc
    too_long (c ∷ y) e = cc
last_off (c ∷ x) [] b e = absurd (too_long x (sym (ap (drop 1) e)))
  where
    too_long : (y : Text) → [] ≡ y ++ b ∷ [] → ⊥
    too_long [] e = cc
    too_long (c ∷ y) e = cc
last_off (c ∷ x) (d ∷ y) b e = let first : c ≡ d = cc in (λ i. first i ∷ last_off x y b (ap (drop 1) e) i)

pub no_numbers : (word name inside args f : Text) (qs : List ℕ) → IsParted 40 word name inside → inside ≡ args ++ 41 ∷ [] → ((ns : List ℕ) → cut 44 args ≡ map number_word ns → ⊥) → IsWord f → word ≡ with_args f (map number_word qs) → ⊥
no_numbers word name inside args f [] parted closed other is e = let all = name_is word name inside f [] parted is e in all.2 refl
no_numbers word name inside args f (q ∷ qs) parted closed other is e =
    let same : args ≡ inside_of (q ∷ qs) = last_off args (inside_of (q ∷ qs)) 41 (sym closed ∙ (name_is word name inside f (q ∷ qs) parted is e).1) in
    other (q ∷ qs) (ap (cut 44) same ∙ cut_joined 44 (number_word q) (map number_word qs) (numbers_lack 44 (q ∷ qs) (λ d. omega (arith, d.least))))

pub with_numbers : (word name inside args : Text) (old new : List ℕ) → IsWord name → IsParted 40 word name inside → inside ≡ args ++ 41 ∷ [] → AppendsNumbers (cut 44 args) old new → IsApplied word name old new
with_numbers word name inside args old new is parted closed r = record { is_word = is; numbers = r.numbers; told = parted.told ∙ ap (λ x. name ++ 40 ∷ x) closed ∙ go r.numbers r.told; appended = r.appended }
  where
    go : (ns : List ℕ) → cut 44 args ≡ map number_word ns → name ++ 40 ∷ (args ++ 41 ∷ []) ≡ with_args name (map number_word ns)
    go [] e = let some = length-slice_split (λ x. x == 44) args in let none : length (cut 44 args) ≡ 0 = ap length e in absurd (omega (arith, some, none))
    go (n ∷ ns) e = ap (λ x. name ++ 40 ∷ (x ++ 41 ∷ [])) (sym (join_with_byte-slice_split 44 args) ∙ ap (join_with_byte 44) e)

-- ---- around the arrow

behind_t : (text rest word : Text) (q : ℕ) → text ≡ codes "T " ++ rest → text ≡ arrow_text word q → rest ≡ word ++ 32 ∷ (codes "-> " ++ number_word q)
behind_t text rest word q told e = ap (drop 2) (sym told ∙ e)

pub unparted : (text rest word : Text) (q : ℕ) → text ≡ codes "T " ++ rest → Lacks 32 rest → Lacks 32 word → text ≡ arrow_text word q → ⊥
unparted text rest word q told lacks free e = never 32 rest word (codes "-> " ++ number_word q) lacks free (behind_t text rest word q told e)

pub parted_at : (text rest front back word : Text) (q : ℕ) → text ≡ codes "T " ++ rest → IsParted 32 rest front back → Lacks 32 word → text ≡ arrow_text word q → FrontAndRest front word back (codes "-> " ++ number_word q)
parted_at text rest front back word q told parted free e = front_once 32 front word back (codes "-> " ++ number_word q) parted.lacks free (sym parted.told ∙ behind_t text rest word q told e)

pub arrow_word : (text front word : Text) (n q : ℕ) → IsAroundArrow text front n → Lacks 32 word → text ≡ arrow_text word q → front ≡ word
arrow_word text front word n q it free e =
    (front_once 32 front word (codes "-> " ++ number_word it.to) (codes "-> " ++ number_word q) it.lacks free (ap (drop 2) (sym it.told ∙ e))).front

-- ---- words

pub word_by : (b : Bool) (text : Text) → (text ≡ [] → ⊥) → b ≡ list_all is_word_byte text → IsTrue b ↔ IsWord text
word_by b [] some e = absurd (some refl)
word_by b (c ∷ text) some e = (λ yes. record { bytes = sym e ∙ yes; some = omega arith }, λ word. e ∙ word.bytes)
