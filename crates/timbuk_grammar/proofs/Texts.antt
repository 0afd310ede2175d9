-- Every part has a text, so what is begun can be completed.
use Rattle.std.proofs.Common.{◌≡◌, true, List, [], ◌∷◌, ◌++◌, refl, sym, subst, append_assoc}
use Rattle.std.specs.Prelude.{ℕ, codes}
use Rattle.timbuk_lex.specs.declared.lexeme.Lexeme.{Lexeme}
use Rattle.timbuk_lex.specs.declared.lexeme.TokenKind.{TokenKind}
use Rattle.timbuk_lex.specs.declared.lexeme.TokenKind.TheVariants.{Word, Text, Mark}
use Rattle.timbuk_grammar.specs.Vocabulary.{is_reserved, is_closed}
use Rattle.timbuk_grammar.specs.Matching.{matches}
use Rattle.timbuk_grammar.specs.declared.terminal.Terminal.{Terminal}
use Rattle.timbuk_grammar.specs.declared.terminal.Terminal.TheVariants as terminal
use Rattle.timbuk_grammar.specs.Grammar.{Part, one, ◌then◌, ◌or◌, maybe, many, pattern}
use Rattle.timbuk_grammar.specs.Derivations.{stay, token, both, first, skip, stop, head, Derives}

written : TokenKind → List ℕ → Lexeme
written kind text = record { kind = kind; text = text; start = 0; line = 0; column = 0 }

-- a token for each terminal
example : Terminal → Lexeme
example terminal.Ops = written Word (codes "Ops")
example terminal.Vars = written Word (codes "Vars")
example terminal.Trs = written Word (codes "TRS")
example terminal.Automaton = written Word (codes "Automaton")
example terminal.States = written Word (codes "States")
example terminal.Description = written Word (codes "Description")
example terminal.Final = written Word (codes "Final")
example terminal.Prior = written Word (codes "Prior")
example terminal.Transitions = written Word (codes "Transitions")
example terminal.Equations = written Word (codes "Equations")
example terminal.Approximation = written Word (codes "Approximation")
example terminal.Rules = written Word (codes "Rules")
example terminal.Colon = written Mark (codes ":")
example terminal.OpenParen = written Mark (codes "(")
example terminal.CloseParen = written Mark (codes ")")
example terminal.Comma = written Mark (codes ",")
example terminal.Arrow = written Mark (codes "->")
example terminal.Equals = written Mark (codes "=")
example terminal.OpenBracket = written Mark (codes "[")
example terminal.CloseBracket = written Mark (codes "]")
example terminal.CloseEntries = written Mark (codes "]")
example (terminal.Named place) = written Word (codes "x")
example terminal.Number = written Word (codes "0")
example terminal.Zero = written Word (codes "0")
example terminal.Quoted = written Text []

example_matches : (t : Terminal) → matches t (example t) ≡ true
unfolding example written is_reserved is_closed
example_matches (terminal.Named place) = refl
example_matches _ = refl

text : Part → List Lexeme
text (one t) = example t ∷ []
text (a then b) = text a ++ text b
text (a or b) = text a
text (maybe a) = []
text (many a) = []
text (pattern p) = example (terminal.Named p) ∷ []

text_derives : (p : Part) (ps : List Part) {ys : List Lexeme} → Derives ps ys → Derives (p ∷ ps) (text p ++ ys)
unfolding text
text_derives (one t) ps d = token (example_matches t) d
text_derives (a then b) ps {ys = ys} d = both (subst (Derives (a ∷ b ∷ ps)) (sym (append_assoc (text a) (text b) ys)) (text_derives a (b ∷ ps) (text_derives b ps d)))
text_derives (a or b) ps d = first (text_derives a ps d)
text_derives (maybe a) ps d = skip d
text_derives (many a) ps d = stop d
text_derives (pattern p) ps d = head (token (example_matches (terminal.Named p)) (skip d))

pub some_text : (ps : List Part) → (ys : List Lexeme) × Derives ps ys
some_text [] = ([], stay)
some_text (p ∷ ps) = let h = some_text ps in (text p ++ h.0, text_derives p ps h.1)
