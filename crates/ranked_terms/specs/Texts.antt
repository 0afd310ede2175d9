-- Printed texts of numbers and ground terms. This project's own.
use Rattle.std.specs.Prelude.{◌≡◌, ℕ, ◌+◌, ◌≤◌, ◌==◌, true, false, if◌then◌else◌, List, [], ◌∷◌, ◌++◌, map, Some, unwrap_or, IsTrue}
use Rattle.std.specs.List.{join_with_byte}
use Rattle.std.specs.Int.Digits.{digits_of}
use Rattle.ranked_terms.specs.Limits.{max_size}
use Rattle.ranked_terms.specs.Words.{is_word_byte}
use Rattle.ranked_terms.specs.Names.{Symbol, name_of, arity_of}
use Rattle.ranked_terms.specs.Terms.{is_over, size_of}
use Rattle.ranked_terms.specs.declared.term.Term.{Term}
use Rattle.ranked_terms.specs.declared.term.Term.TheOpen.{Term-F}
use Rattle.ranked_terms.specs.declared.term.Term.TheFolds.{fold-Term}

abbrev pub Text : Type 0
Text = List ℕ

-- a number in decimal, without a sign and without a leading zero
abbrev pub number_word : ℕ → Text
number_word n = if n == 0 then 48 ∷ [] else map (λ d. 48 + d) (digits_of 10 n)

-- `f(a,b)` without blanks, and a name alone where nothing is applied
abbrev pub with_args : Text → List Text → Text
with_args name [] = name
with_args name (arg ∷ args) = name ++ (40 ∷ (join_with_byte 44 (arg ∷ args) ++ 41 ∷ []))

-- the name of a symbol; a number that no symbol has has none
abbrev pub symbol_text : List Symbol → ℕ → Text
symbol_text signature sym = unwrap_or (name_of signature sym) []

-- a ground term
abbrev pub term_step : List Symbol → Term-F Text → Text
term_step signature t = with_args (symbol_text signature t.sym) t.args

abbrev pub term_text : List Symbol → Term → Text
term_text signature = fold-Term Text (term_step signature)

-- the text of a term over the signature that has at most 1,024 symbols
pub record IsTextOf (signature : List Symbol) (text : Text) (t : Term) : Type 0 where
  pub over : IsTrue (is_over signature t)
  pub text_is : text ≡ term_text signature t
  pub small : size_of t ≤ max_size

-- the bytes are the old ones and then a prefix of the text
pub record IsCutShort (old text new : Text) : Type 0 where
  pub front : Text
  pub rest : Text
  pub text_is : text ≡ front ++ rest
  pub new_is : new ≡ old ++ front

-- ---- for private contracts and invariants

-- the same, with what is to come
pub record IsCutAt (old text new rest : Text) : Type 0 where
  pub front : Text
  pub text_is : text ≡ front ++ rest
  pub new_is : new ≡ old ++ front

-- what is to come after a name or an argument: each text behind a mark, which is a comma from the second on, and then a
-- closing parenthesis, if there was any
abbrev pub to_come : ℕ → List Text → Text
to_come mark [] = if mark == 44 then 41 ∷ [] else []
to_come mark (text ∷ texts) = mark ∷ (text ++ to_come 44 texts)

-- neither a word byte nor an opening parenthesis stands in front
abbrev pub Stops : Text → Type 0
Stops [] = Unit {0}
Stops (b ∷ bs) = (is_word_byte b ≡ false) × ((b == 40) ≡ false)

-- the text begins with the term, behind which it stops; so many symbols more might have stood there
pub record BeginsWith (signature : List Symbol) (text : Text) (room : ℕ) (t : Term) (rest : Text) (left : ℕ) : Type 0 where
  pub over : is_over signature t ≡ true
  pub text_is : text ≡ term_text signature t ++ rest
  pub stops : Stops rest
  pub size : size_of t + left ≡ room

abbrev pub BeginsNoTerm : List Symbol → Text → ℕ → Type 0
BeginsNoTerm signature text room = (t : Term) (rest : Text) (left : ℕ) → BeginsWith signature text room t rest left → ⊥

-- no word byte stands in front
abbrev pub NoWord : Text → Type 0
NoWord [] = Unit {0}
NoWord (b ∷ bs) = is_word_byte b ≡ false

-- the text begins with the name of a symbol of this arity
pub record IsHead (signature : List Symbol) (text : Text) (sym arity : ℕ) (rest : Text) : Type 0 where
  pub arity_is : arity_of signature sym ≡ Some arity
  pub text_is : text ≡ symbol_text signature sym ++ rest
  pub ends : NoWord rest

abbrev pub BeginsNoSymbol : List Symbol → Text → Type 0
BeginsNoSymbol signature text = (sym arity : ℕ) (rest : Text) → IsHead signature text sym arity rest → ⊥
