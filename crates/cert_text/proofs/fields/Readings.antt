-- Reading the numbers of a line, word by word.
use Rattle.std.proofs.Common.{◌≡◌, ℕ, ◌<◌, length, List, [], ◌∷◌, ◌++◌, map, refl, sym, ap, ap₂, ◌∙◌, arith}
use Rattle.std.proofs.lemmas.List.{append-nil, append_assoc, map-append}
use Rattle.ranked_terms.specs.Texts.{Text, number_word}
use Rattle.cert_text.specs.Words.{Words}
use Rattle.cert_text.specs.Numerals.{IsSaturated}
use Rattle.cert_text.specs.Cuts.{AppendsNumbers, saturated}

-- so many words are read, and appended
pub record IsReading (all left : Words) (old new : List ℕ) : Type 0 where
  pub numbers : List ℕ
  pub told : all ≡ map number_word numbers ++ left
  pub appended : new ≡ old ++ map saturated numbers

pub begins : (all : Words) (old : List ℕ) → IsReading all all old old
begins all old = record { numbers = []; told = refl; appended = sym (append-nil old) }

pub goes_on : (all left rest : Words) (old new newer : List ℕ) (word : Text) (n : ℕ) → IsReading all left old new → left ≡ word ∷ rest → IsSaturated word n → newer ≡ new ++ n ∷ [] → IsReading all rest old newer
goes_on all left rest old new newer word n r first is pushed = record {
  numbers = r.numbers ++ is.number ∷ [];
  told = r.told ∙ ap (λ ws. map number_word r.numbers ++ ws) (first ∙ ap (λ w. w ∷ rest) is.told) ∙ sym (append_assoc (map number_word r.numbers) (number_word is.number ∷ []) rest)
      ∙ ap (λ ws. ws ++ rest) (sym (map-append number_word r.numbers (is.number ∷ [])));
  appended = pushed ∙ ap₂ (λ xs k. xs ++ k ∷ []) r.appended is.value ∙ append_assoc old (map saturated r.numbers) (saturated is.number ∷ [])
      ∙ ap (λ xs. old ++ xs) (sym (map-append saturated r.numbers (is.number ∷ [])));
}

pub is_read : (all : Words) (old new : List ℕ) → IsReading all [] old new → AppendsNumbers all old new
is_read all old new r = record { numbers = r.numbers; told = r.told ∙ append-nil (map number_word r.numbers); appended = r.appended }

abbrev first_of : Text → Words → Text
first_of other [] = other
first_of other (w ∷ ws) = w

abbrev others_of : Words → Words
others_of [] = []
others_of (w ∷ ws) = ws

-- a word among words of numbers is one
among : (front ns : List ℕ) (word : Text) (rest : Words) → map number_word ns ≡ map number_word front ++ word ∷ rest → (m : ℕ) × (word ≡ number_word m)
among [] [] word rest e = absurd cc
among [] (n ∷ ns) word rest e = (n, sym (ap (first_of word) e))
among (f ∷ front) [] word rest e = absurd cc
among (f ∷ front) (n ∷ ns) word rest e = among front ns word rest (ap others_of e)

pub is_no_number : (all left rest : Words) (old new : List ℕ) (word : Text) (ns : List ℕ) → IsReading all left old new → left ≡ word ∷ rest → ((m : ℕ) → word ≡ number_word m → ⊥) → all ≡ map number_word ns → ⊥
is_no_number all left rest old new word ns r first never e =
    let one = among r.numbers ns word rest (sym e ∙ r.told ∙ ap (λ ws. map number_word r.numbers ++ ws) first) in never one.0 one.1

pub shorter : (left rest : Words) (word : Text) → left ≡ word ∷ rest → length rest < length left
shorter left rest word e = let l = ap length e in omega (arith, l)
