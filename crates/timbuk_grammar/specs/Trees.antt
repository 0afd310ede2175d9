-- Derivations as trees, and the tokens that they spell (this project's own format).
use Rattle.std.specs.Prelude.{◌≡◌, ◌⊎◌, true, List, [], ◌∷◌, ◌++◌, Option, Some, None, flat_map}
use Rattle.std.proofs.Common.{inl, inr}
use Rattle.timbuk_lex.specs.declared.lexeme.Lexeme.{Lexeme}
use Rattle.timbuk_grammar.specs.declared.terminal.Role.{Role}
use Rattle.timbuk_grammar.specs.declared.terminal.Terminal.{Terminal}
use Rattle.timbuk_grammar.specs.declared.terminal.Terminal.TheVariants as terminal
use Rattle.timbuk_grammar.specs.Matching.{matches}
use Rattle.timbuk_grammar.specs.Grammar.{Part, one, ◌then◌, ◌or◌, maybe, many, pattern, file}

-- a token that matches this terminal
pub record Token (t : Terminal) : Type 0 where
  pub lexeme : Lexeme
  pub matched : matches t lexeme ≡ true

mutual
  -- a pattern: a name alone, or a name with its arguments in parentheses
  pub data Tree (p : Role) : Type 0 where
    leaf : Token (terminal.Named p) → Tree p
    node : Token (terminal.Named p) → Token terminal.OpenParen → Tree p → Trees p → Token terminal.CloseParen → Tree p

  -- the arguments after the first, each with the comma before it
  pub data Trees (p : Role) : Type 0 where
    none : Trees p
    comma : Token terminal.Comma → Tree p → Trees p → Trees p

-- the trees of a part
abbrev pub Value : Part → Type 0
Value (one t) = Token t
Value (a then b) = Value a × Value b
Value (a or b) = Value a ⊎ Value b
Value (maybe a) = Option (Value a)
Value (many a) = List (Value a)
Value (pattern p) = Tree p

abbrev mutual
  -- the tokens of a pattern
  pub pattern_spelling : (p : Role) → Tree p → List Lexeme
  pattern_spelling p (leaf n) = n.lexeme ∷ []
  pattern_spelling p (node n opening argument more closing) =
      n.lexeme ∷ opening.lexeme ∷ (pattern_spelling p argument ++ (more_spelling p more ++ closing.lexeme ∷ []))

  -- the tokens of the arguments after the first
  pub more_spelling : (p : Role) → Trees p → List Lexeme
  more_spelling p none = []
  more_spelling p (comma mark argument more) = mark.lexeme ∷ (pattern_spelling p argument ++ more_spelling p more)

-- the tokens of a tree
abbrev pub spelling : (p : Part) → Value p → List Lexeme
spelling (one t) v = v.lexeme ∷ []
spelling (a then b) v = spelling a v.0 ++ spelling b v.1
spelling (a or b) (inl v) = spelling a v
spelling (a or b) (inr v) = spelling b v
spelling (maybe a) None = []
spelling (maybe a) (Some v) = spelling a v
spelling (many a) vs = flat_map (spelling a) vs
spelling (pattern p) v = pattern_spelling p v

-- a tree of a file has these tokens
abbrev pub IsFile : List Lexeme → Type 0
IsFile xs = (v : Value file) × (spelling file v ≡ xs)
