-- A text that is a derivation of the grammar, read by the terminals at which its tokens stand: the grammar is looked at no more.
use Rattle.std.proofs.Common.{true, List, [], ◌∷◌, ◌++◌, Some, None, inl, inr}
use Rattle.std.specs.Prelude.{flat_map}
use Rattle.timbuk_lex.specs.declared.lexeme.Lexeme.{Lexeme}
use Rattle.timbuk_grammar.specs.declared.terminal.Role.{Role}
use Rattle.timbuk_grammar.specs.declared.terminal.Terminal.{Terminal}
use Rattle.timbuk_grammar.specs.Grammar.{Part, one, ◌then◌, ◌or◌, maybe, many, pattern}
use Rattle.timbuk_grammar.specs.Trees.{Token, Tree, Trees, leaf, node, none, comma, Value}
use Rattle.spec_text.specs.Declarations.{Declared, adds}
use Rattle.spec_text.specs.Rows.{row, end_row}
use Rattle.spec_text.specs.Reading.{Outcome, End, end_by, unless}

-- a token with the terminal at which it stands
abbrev pub Label : Type 0
Label = Terminal × Lexeme

abbrev pub label : {t : Terminal} → Token t → Label
label {t} token = (t, token.lexeme)

abbrev mutual
  pub labelled_pattern : {p : Role} → Tree p → List Label
  labelled_pattern (leaf n) = label n ∷ []
  labelled_pattern (node n opening argument more closing) = label n ∷ label opening ∷ (labelled_pattern argument ++ (labelled_more more ++ label closing ∷ []))

  pub labelled_more : {p : Role} → Trees p → List Label
  labelled_more none = []
  labelled_more (comma mark argument more) = label mark ∷ (labelled_pattern argument ++ labelled_more more)

-- the tokens of a tree, with their terminals
abbrev pub labelled : (p : Part) → Value p → List Label
labelled (one t) v = label v ∷ []
labelled (a then b) v = labelled a v.0 ++ labelled b v.1
labelled (a or b) (inl v) = labelled a v
labelled (a or b) (inr v) = labelled b v
labelled (maybe a) None = []
labelled (maybe a) (Some v) = labelled a v
labelled (many a) vs = flat_map (labelled a) vs
labelled (pattern p) v = labelled_pattern v

-- what these tokens declare besides, up to an end that the grammar allows, or the first fault
abbrev pub judge : End → Declared → List Label → Outcome
judge end d [] = end_by (end_row true d) end d
judge end d (x ∷ rest) = unless (row (Some x.0) d x.1) x.1 (judge end (adds x.0 x.1.text d) rest)
