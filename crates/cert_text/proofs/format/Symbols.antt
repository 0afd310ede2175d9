-- The symbols of a signature: their names are words, and no two have one name.
use Rattle.std.proofs.Common.{◌≡◌, ◌≢◌, ℕ, zero, suc, ◌+◌, ◌<◌, Bool, true, false, true≢false, not, nat_lt, cond, ◌&&◌, List, [], ◌∷◌, length, Option, Some, None, is_some, option_map, refl, sym, ap, subst, ◌∙◌, arith}
use Rattle.std.specs.Prelude.{All}
use Rattle.std.specs.List.{IsDistinct, AllByRecursion, list_all, position_or_len}
use Rattle.std.specs.Str.{bytes_eq, IsAscii, IsUtf8}
use Rattle.std.proofs.lemmas.Str.{IsUtf8-from_ascii}
use Rattle.std.proofs.lemmas.Bool.Decides.{nat_tests}
use Rattle.std.proofs.lemmas.Bool.{eqb-true}
use Rattle.std.proofs.lemmas.Slice.Eq.{bytes_eq-Decides}
use Rattle.std.proofs.lemmas.List.Elements.{All-head, All-tail}
use Rattle.ranked_terms.specs.Words.{IsWord, is_word_byte}
use Rattle.ranked_terms.specs.Names.{Symbol, names_of, name_of, number_of}
use Rattle.ranked_terms.specs.Terms.{is_symbol, is_arity}
use Rattle.ranked_terms.specs.SignatureRules.{IsSymbol, IsSignature}
use Rattle.ranked_terms.specs.Texts.{Text, symbol_text}

pub and_both : (a b : Bool) → (a && b) ≡ true → (a ≡ true) × (b ≡ true)
and_both true b e = (refl, e)
and_both false b e = absurd (true≢false (sym e))

-- ---- the number of a name

counted : (b : Bool) (n l : ℕ) → cond (nat_lt (cond (not b) (1 + n) 0) (suc l)) (Some (cond (not b) (1 + n) 0)) None ≡ cond b (Some 0) (option_map suc (cond (nat_lt n l) (Some n) None))
counted true n l = grind (arith, nat_tests)
counted false n l = grind (arith, nat_tests)

number_of-cons : (x : Symbol) (s : List Symbol) (name : Text) → number_of (x ∷ s) name ≡ cond (bytes_eq name x.0) (Some 0) (option_map suc (number_of s name))
number_of-cons x s name = counted (bytes_eq name x.0) (position_or_len (bytes_eq name) (names_of s)) (length (names_of s))

first_is : (x : Symbol) (s : List Symbol) (name : Text) (b : Bool) → bytes_eq name x.0 ≡ b → number_of (x ∷ s) name ≡ cond b (Some 0) (option_map suc (number_of s name))
first_is x s name b e = number_of-cons x s name ∙ ap (λ c. cond c (Some 0) (option_map suc (number_of s name))) e

absent_after : (name : Text) (s : List Symbol) (n : ℕ) → AllByRecursion (λ y. bytes_eq name y ≡ false) (names_of s) → name_of s n ≢ Some name
absent_after name [] n h e = absurd (true≢false (sym (ap is_some e)))
absent_after name (x ∷ s) zero h e =
    let k : x.0 ≡ name = cc in
    true≢false (sym ((bytes_eq-Decides name x.0).1 (sym k)) ∙ h.0)
absent_after name (x ∷ s) (suc n) h e = absent_after name s n h.1 e

only_by : (x : Symbol) (s : List Symbol) (name : Text) (n : ℕ) (b : Bool) → bytes_eq name x.0 ≡ b → AllByRecursion (λ y. bytes_eq x.0 y ≡ false) (names_of s) → name_of s n ≡ Some name → number_of s name ≡ Some n → number_of (x ∷ s) name ≡ Some (suc n)
only_by x s name n true b apart at e = absurd (absent_after x.0 s n apart (at ∙ ap Some ((bytes_eq-Decides name x.0).0 b)))
only_by x s name n false b apart at e = first_is x s name false b ∙ ap (option_map suc) e

number_of-only : (s : List Symbol) (name : Text) (n : ℕ) → IsDistinct bytes_eq (names_of s) → name_of s n ≡ Some name → number_of s name ≡ Some n
unfolding IsDistinct
number_of-only [] name n d e = absurd (true≢false (sym (ap is_some e)))
number_of-only (x ∷ s) name zero d e =
    let k : x.0 ≡ name = cc in
    first_is x s name true ((bytes_eq-Decides name x.0).1 (sym k))
number_of-only (x ∷ s) name (suc n) d e =
    only_by x s name n (bytes_eq name x.0) refl d.0 e (number_of-only s name n d.1 e)

-- ---- the name of a number that is found

some_suc : (o : Option ℕ) (n : ℕ) → option_map suc o ≡ Some n → (m : ℕ) × (n ≡ suc m) × (o ≡ Some m)
some_suc None n e = cc
some_suc (Some m) n e = (m, let k : suc m ≡ n = cc in sym k, refl)

back_by : (x : Symbol) (s : List Symbol) (name : Text) (n : ℕ) (b : Bool) → bytes_eq name x.0 ≡ b → ((m : ℕ) → number_of s name ≡ Some m → symbol_text s m ≡ name) → number_of (x ∷ s) name ≡ Some n → symbol_text (x ∷ s) n ≡ name
back_by x s name n true b rest e =
    let k : Some 0 ≡ Some n = sym (first_is x s name true b) ∙ e in
    let zero_is : 0 ≡ n = cc in
    subst (λ (m : ℕ). symbol_text (x ∷ s) m ≡ name) zero_is (sym ((bytes_eq-Decides name x.0).0 b))
back_by x s name n false b rest e =
    let k = some_suc (number_of s name) n (sym (first_is x s name false b) ∙ e) in
    subst (λ (m : ℕ). symbol_text (x ∷ s) m ≡ name) (sym k.1) (rest k.0 k.2)

pub named_back : (s : List Symbol) (name : Text) (n : ℕ) → number_of s name ≡ Some n → symbol_text s n ≡ name
named_back [] name n e = cc
named_back (x ∷ s) name n e = back_by x s name n (bytes_eq name x.0) refl (λ m h. named_back s name m h) e

-- ---- the name of a symbol

-- a symbol of the signature has a name, which is a word
pub record Named (s : List Symbol) (f : ℕ) : Type 0 where
  pub name : Text
  pub is : name_of s f ≡ Some name
  pub text : symbol_text s f ≡ name
  pub word : IsWord name

pub named_by : (s : List Symbol) → All IsSymbol s → (f count : ℕ) → is_symbol s f count ≡ true → Named s f
named_by [] all f count e = absurd (true≢false (sym e))
named_by (x ∷ s) all zero count e = record { name = x.0; is = refl; text = refl; word = (All-head IsSymbol x s all).name.word }
named_by (x ∷ s) all (suc f) count e = let r = named_by s (All-tail IsSymbol x s all) f count e in record { name = r.name; is = r.is; text = r.text; word = r.word }

module _ (s : List Symbol) (valid : IsSignature s) where
  pub name_word : (f count : ℕ) → is_symbol s f count ≡ true → IsWord (symbol_text s f)
  name_word f count e = let n = named_by s valid.symbols f count e in subst IsWord (sym n.text) n.word

  pub numbered : (f count : ℕ) → is_symbol s f count ≡ true → number_of s (symbol_text s f) ≡ Some f
  numbered f count e = let n = named_by s valid.symbols f count e in ap (number_of s) n.text ∙ number_of-only s n.name f valid.distinct n.is

  some_is : (f g : ℕ) → Some f ≡ Some g → f ≡ g
  some_is f g e = cc

  pub symbol_once : (f g m n : ℕ) → is_symbol s f m ≡ true → is_symbol s g n ≡ true → symbol_text s f ≡ symbol_text s g → f ≡ g
  symbol_once f g m n a b e = some_is f g (sym (numbered f m a) ∙ ap (number_of s) e ∙ numbered g n b)

pub arity_is : (count : ℕ) (o : Option ℕ) → is_arity count o ≡ true → o ≡ Some count
arity_is count None e = absurd (true≢false (sym e))
arity_is count (Some a) e = ap Some (sym (eqb-true count a e))

-- ---- words as texts

byte_is_ascii : (b : ℕ) → is_word_byte b ≡ true → b < 128
byte_is_ascii b e = grind (arith, nat_tests)

bytes_are_ascii : (text : Text) → list_all is_word_byte text ≡ true → IsAscii text
bytes_are_ascii [] e i = omega arith
bytes_are_ascii (b ∷ text) e zero = byte_is_ascii b (and_both (is_word_byte b) (list_all is_word_byte text) e).0
bytes_are_ascii (b ∷ text) e (suc i) = bytes_are_ascii text (and_both (is_word_byte b) (list_all is_word_byte text) e).1 i

pub word_is_utf8 : (text : Text) → IsWord text → IsUtf8 text
word_is_utf8 text word = IsUtf8-from_ascii text (bytes_are_ascii text word.bytes)
