-- What is claimed of the grammar.
use Rattle.std.specs.Prelude.{◌≡◌, ◌↔◌, false, List, ◌∷◌, Some, IsTrue}
use Rattle.timbuk_lex.specs.declared.lexeme.Lexeme.{Lexeme}
use Rattle.timbuk_grammar.specs.declared.terminal.Terminal.{Terminal}
use Rattle.timbuk_grammar.specs.declared.terminal.Role.{Role}
use Rattle.timbuk_grammar.specs.Grammar.{Part, ◌then◌, ◌or◌, maybe, many, pattern, name, pattern_arguments, file}
use Rattle.timbuk_grammar.specs.Derivations.{Next, NextEnd, Stands}
use Rattle.timbuk_grammar.specs.Next.{empties, begins_with, choice_of, may_end, next_allowed, end_allowed, terminal_at}
use Rattle.timbuk_grammar.specs.Trees.{Value, spelling, IsFile}

-- What stands after these tokens in derivations is what is computed: each token, at just one terminal, and the end.
pub record NextLaw (before : List Lexeme) : Type 0 where
  pub token : (x : Lexeme) → Next before x ↔ IsTrue (next_allowed before x)
  pub terminal : (x : Lexeme) (t : Terminal) → Stands before x t ↔ (terminal_at before x ≡ Some t)
  pub end : NextEnd before ↔ IsTrue (end_allowed before)

-- The tokens are derived exactly where they are those of a tree, and then of just one.
pub record TreeLaw (xs : List Lexeme) : Type 0 where
  pub tree : NextEnd xs ↔ IsFile xs
  pub only : (v w : Value file) → spelling file v ≡ xs → spelling file w ≡ xs → v ≡ w

-- the same tokens may come next at both, at the same terminals and with the same parts open behind them; and so may the end
pub record SameNext (ps qs : List Part) : Type 0 where
  pub token : (x : Lexeme) → choice_of ps x ≡ choice_of qs x
  pub end : may_end ps ≡ may_end qs

-- What may come next at a part, in terms of what it consists of: where there is a choice, the token decides.
pub record PartsLaw (ps : List Part) : Type 0 where
  pub both : (a b : Part) → SameNext (a then b ∷ ps) (a ∷ b ∷ ps)
  pub head : (p : Role) → SameNext (pattern p ∷ ps) (name p ∷ pattern_arguments p ∷ ps)
  pub first : (a b : Part) (x : Lexeme) → IsTrue (begins_with a x) → choice_of (a or b ∷ ps) x ≡ choice_of (a ∷ ps) x
  pub second : (a b : Part) (x : Lexeme) → begins_with a x ≡ false → empties a ≡ false
      → choice_of (a or b ∷ ps) x ≡ choice_of (b ∷ ps) x
  pub take : (a : Part) (x : Lexeme) → IsTrue (begins_with a x) → choice_of (maybe a ∷ ps) x ≡ choice_of (a ∷ ps) x
  pub skip : (a : Part) (x : Lexeme) → begins_with a x ≡ false → choice_of (maybe a ∷ ps) x ≡ choice_of ps x
  pub again : (a : Part) (x : Lexeme) → IsTrue (begins_with a x) → choice_of (many a ∷ ps) x ≡ choice_of (a ∷ many a ∷ ps) x
  pub stop : (a : Part) (x : Lexeme) → begins_with a x ≡ false → choice_of (many a ∷ ps) x ≡ choice_of ps x
