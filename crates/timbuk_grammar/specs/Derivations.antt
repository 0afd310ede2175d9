-- Derivations of the grammar, from left to right (this project's own format).
use Rattle.std.specs.Prelude.{◌≡◌, true, List, [], ◌∷◌, ◌++◌}
use Rattle.timbuk_lex.specs.declared.lexeme.Lexeme.{Lexeme}
use Rattle.timbuk_grammar.specs.declared.terminal.Role.{Role}
use Rattle.timbuk_grammar.specs.declared.terminal.Terminal.{Terminal}
use Rattle.timbuk_grammar.specs.Matching.{matches}
use Rattle.timbuk_grammar.specs.Grammar.{Part, one, ◌then◌, ◌or◌, maybe, many, pattern, name, pattern_arguments, file}

-- Parts derive tokens one after the other and leave parts open; the first part is taken apart by its form, and one token takes a token.
pub data Opens : List Part → List Lexeme → List Part → Type 0 where
  stay : {ps : List Part} → Opens ps [] ps
  token : {t : Terminal} {x : Lexeme} {ps qs : List Part} {xs : List Lexeme} → matches t x ≡ true → Opens ps xs qs
      → Opens (one t ∷ ps) (x ∷ xs) qs
  both : {a b : Part} {ps qs : List Part} {xs : List Lexeme} → Opens (a ∷ b ∷ ps) xs qs → Opens (a then b ∷ ps) xs qs
  first : {a b : Part} {ps qs : List Part} {xs : List Lexeme} → Opens (a ∷ ps) xs qs → Opens (a or b ∷ ps) xs qs
  second : {a b : Part} {ps qs : List Part} {xs : List Lexeme} → Opens (b ∷ ps) xs qs → Opens (a or b ∷ ps) xs qs
  skip : {a : Part} {ps qs : List Part} {xs : List Lexeme} → Opens ps xs qs → Opens (maybe a ∷ ps) xs qs
  take : {a : Part} {ps qs : List Part} {xs : List Lexeme} → Opens (a ∷ ps) xs qs → Opens (maybe a ∷ ps) xs qs
  stop : {a : Part} {ps qs : List Part} {xs : List Lexeme} → Opens ps xs qs → Opens (many a ∷ ps) xs qs
  again : {a : Part} {ps qs : List Part} {xs : List Lexeme} → Opens (a ∷ many a ∷ ps) xs qs → Opens (many a ∷ ps) xs qs
  head : {p : Role} {ps qs : List Part} {xs : List Lexeme} → Opens (name p ∷ pattern_arguments p ∷ ps) xs qs
      → Opens (pattern p ∷ ps) xs qs

-- these parts, one after the other, derive these tokens
abbrev pub Derives : List Part → List Lexeme → Type 0
Derives ps xs = Opens ps xs []

-- the token stands after these in some derivation of a file
abbrev pub Next : List Lexeme → Lexeme → Type 0
Next before x = (rest : List Lexeme) × Derives (file ∷ []) (before ++ x ∷ rest)

-- the end stands after these tokens: they are a file
abbrev pub NextEnd : List Lexeme → Type 0
NextEnd before = Derives (file ∷ []) before

-- the token stands after these at this terminal in some derivation of a file
pub record Stands (before : List Lexeme) (x : Lexeme) (t : Terminal) : Type 0 where
  pub behind : List Part
  pub here : Opens (file ∷ []) before (one t ∷ behind)
  pub matched : matches t x ≡ true
  pub rest : List Lexeme
  pub whole : Derives behind rest
