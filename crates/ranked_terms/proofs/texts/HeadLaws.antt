-- The symbol whose name is the longest word at the front of a text.
use Rattle.std.proofs.Common.{◌≡◌, ◌≢◌, ℕ, zero, suc, ◌+◌, ◌<◌, ◌==◌, Bool, true, false, not, get_or, ◌&&◌, List, [], ◌∷◌, ◌++◌, length, take, drop, Some, None, refl, sym, ap, subst, ◌∙◌, arith}
use Rattle.std.specs.List.{list_all, prefix_len}
use Rattle.std.specs.Prelude.{cond, unwrap_or}
use Rattle.std.specs.Str.{IsAscii, IsUtf8}
use Rattle.std.specs.Cmp.{first_so, second_so}
use Rattle.std.proofs.lemmas.Bool.{eqb-true}
use Rattle.std.proofs.lemmas.Bool.Decides.{nat_tests}
use Rattle.std.proofs.lemmas.Str.{IsUtf8-from_ascii}
use Rattle.ranked_terms.specs.Words.{is_word_byte}
use Rattle.ranked_terms.specs.Names.{Symbol, arity_of, number_of}
use Rattle.ranked_terms.specs.Texts.{Text, BeginsNoSymbol, IsHead, NoWord, Stops, symbol_text}
use Rattle.ranked_terms.specs.SignatureRules.{IsSignature}
use Rattle.ranked_terms.proofs.signatures.SignatureLaws.{name_of-number_of, number_of-only}
use Rattle.ranked_terms.proofs.texts.ReadLaws.{named_by, name_text, name_word, words_once}
use Rattle.ranked_terms.proofs.texts.ReadingLaws.{has_symbol}

byte_is_ascii : (b : ℕ) → is_word_byte b ≡ true → b < 128
byte_is_ascii b e = grind (arith, nat_tests)

bytes_are_ascii : (text : Text) → list_all is_word_byte text ≡ true → IsAscii text
bytes_are_ascii [] e i = omega arith
bytes_are_ascii (b ∷ text) e zero = byte_is_ascii b (first_so (is_word_byte b) (list_all is_word_byte text) e)
bytes_are_ascii (b ∷ text) e (suc i) = bytes_are_ascii text (second_so (is_word_byte b) (list_all is_word_byte text) e) i

pub word_is_utf8 : (text : Text) → list_all is_word_byte text ≡ true → IsUtf8 text
word_is_utf8 text h = IsUtf8-from_ascii text (bytes_are_ascii text h)

record IsCut (text front rest : Text) : Type 0 where
  whole : text ≡ front ++ rest
  word : list_all is_word_byte front ≡ true
  ends : NoWord rest

cut_by : (b : ℕ) (text : Text) (r : Bool) → is_word_byte b ≡ r → IsCut text (take (prefix_len is_word_byte text) text) (drop (prefix_len is_word_byte text) text)
    → IsCut (b ∷ text) (take (cond r (1 + prefix_len is_word_byte text) 0) (b ∷ text)) (drop (cond r (1 + prefix_len is_word_byte text) 0) (b ∷ text))
cut_by b text true e h =
    let n : 1 + prefix_len is_word_byte text ≡ suc (prefix_len is_word_byte text) = omega arith in
    record {
      whole = ap (λ xs. b ∷ xs) h.whole ∙ (λ i. take (sym n i) (b ∷ text) ++ drop (sym n i) (b ∷ text));
      word = ap (λ k. list_all is_word_byte (take k (b ∷ text))) n ∙ (λ i. e i && h.word i);
      ends = ends_at n h.ends;
    }
  where
    ends_at : 1 + prefix_len is_word_byte text ≡ suc (prefix_len is_word_byte text) → NoWord (drop (prefix_len is_word_byte text) text) → NoWord (drop (1 + prefix_len is_word_byte text) (b ∷ text))
    ends_at n k = subst (λ m. NoWord (drop m (b ∷ text))) (sym n) k
cut_by b text false e h = record { whole = refl; word = refl; ends = e }

cut : (text : Text) → IsCut text (take (prefix_len is_word_byte text) text) (drop (prefix_len is_word_byte text) text)
cut [] = record { whole = refl; word = refl; ends = tt }
cut (b ∷ text) = cut_by b text (is_word_byte b) refl (cut text)

module _ (s : List Symbol) (valid : IsSignature s) (text word rest name : Text) (n : ℕ) (is_word : word ≡ take n text) (is_rest : rest ≡ drop n text) (longest : n ≡ prefix_len is_word_byte text) where
  parts : IsCut text word rest
  parts = subst (λ w. IsCut text w rest) (sym (is_word ∙ ap (λ k. take k text) longest)) (subst (λ r. IsCut text (take (prefix_len is_word_byte text) text) r) (sym (is_rest ∙ ap (λ k. drop k text) longest)) (cut text))

  pub word_utf8 : IsUtf8 word
  word_utf8 = word_is_utf8 word parts.word

  -- a symbol whose name begins the text has the word as its name
  head_is : (f arity : ℕ) (y : Text) → IsHead s text f arity y → number_of s word ≡ Some f
  head_is f arity y h =
      let m = named_by s valid.symbols f arity (has_symbol s f arity h.arity_is) in
      let once = words_once (symbol_text s f) word y rest (name_word s f m) parts.word h.ends parts.ends (sym h.text_is ∙ parts.whole) in
      number_of-only s word f valid.distinct (m.is ∙ ap Some (sym (name_text s f m) ∙ once.0))

  pub unknown_name : name ≡ word → None ≡ number_of s name → BeginsNoSymbol s text
  unknown_name e none f arity y h = none_some (none ∙ ap (number_of s) e ∙ head_is f arity y h)
    where
      none_some : {x : ℕ} → None ≡ Some x → ⊥
      none_some e = cc

  pub no_arity : (f : ℕ) → name ≡ word → Some f ≡ number_of s name → None ≡ arity_of s f → BeginsNoSymbol s text
  no_arity f e some none g arity y h =
      let same : f ≡ g = same_some (some ∙ ap (number_of s) e ∙ head_is g arity y h) in
      none_some (none ∙ ap (arity_of s) same ∙ h.arity_is)
    where
      same_some : {x y : ℕ} → Some x ≡ Some y → x ≡ y
      same_some e = cc

      none_some : {x : ℕ} → None ≡ Some x → ⊥
      none_some e = cc

  pub head_found : (f arity : ℕ) → name ≡ word → Some f ≡ number_of s name → Some arity ≡ arity_of s f → IsHead s text f arity rest
  head_found f arity e some has = record {
    arity_is = sym has;
    text_is = parts.whole ∙ ap (λ w. w ++ rest) (sym (ap (λ o. unwrap_or o []) (name_of-number_of s word f (sym (some ∙ ap (number_of s) e)))));
    ends = parts.ends;
  }

-- ---- whether a text stops

pub empty_stops : (text : Text) → (length text == 0) ≡ true → Stops text
empty_stops [] h = tt
empty_stops (b ∷ text) h = let e = eqb-true (length (b ∷ text)) 0 h in absurd (omega (arith, e))

pub first_stops : (text : Text) → (length text == 0) ≡ false → is_word_byte (get_or text 0 0) ≡ false → (get_or text 0 0 == 40) ≡ false → Stops text
first_stops [] h w o = tt
first_stops (b ∷ text) h w o = (w, o)

pub stops_first : (text : Text) → (length text == 0) ≡ false → Stops text → (is_word_byte (get_or text 0 0) ≡ false) × ((get_or text 0 0 == 40) ≡ false)
stops_first [] h st = cc
stops_first (b ∷ text) h st = st

pub not_true : (b : Bool) → b ≡ false → not b ≡ true
not_true true e = cc
not_true false e = refl

pub true_not : (b : Bool) → not b ≡ true → b ≡ false
true_not true e = cc
true_not false e = refl

pub is_nothing : (text : Text) (r : Bool) → r ≡ (length text == 0) → r ≡ true → text ≡ []
is_nothing [] r e h = refl
is_nothing (b ∷ text) r e h = let z = eqb-true (length (b ∷ text)) 0 (sym e ∙ h) in absurd (omega (arith, z))

pub is_something : (text : Text) (r : Bool) → r ≡ (length text == 0) → r ≡ false → text ≢ []
is_something [] r e h n = let bad : true ≡ false = sym e ∙ h in cc
is_something (b ∷ text) r e h n = cc
