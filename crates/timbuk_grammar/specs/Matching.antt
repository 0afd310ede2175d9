-- Which tokens fit a terminal of the grammar (this project's own format). The place of a token is not looked at.
use Rattle.std.specs.Prelude.{ℕ, Bool, true, false, not, ◌&&◌, List, codes}
use Rattle.std.specs.List.{list_all}
use Rattle.std.specs.Char.{is_ascii_digit}
use Rattle.std.specs.Str.{bytes_eq}
use Rattle.timbuk_lex.specs.declared.lexeme.Lexeme.{Lexeme}
use Rattle.timbuk_lex.specs.declared.lexeme.TokenKind.{TokenKind}
use Rattle.timbuk_lex.specs.declared.lexeme.TokenKind.TheVariants.{Word, Text, Mark}
use Rattle.timbuk_grammar.specs.Vocabulary.{is_reserved}
use Rattle.timbuk_grammar.specs.declared.terminal.Terminal.{Terminal}
use Rattle.timbuk_grammar.specs.declared.terminal.Terminal.TheVariants as terminal

-- the kind of words
abbrev pub is_word : TokenKind → Bool
is_word Word = true
is_word _ = false

-- the kind of marks
abbrev pub is_mark : TokenKind → Bool
is_mark Mark = true
is_mark _ = false

-- the kind of quoted texts
abbrev pub is_text : TokenKind → Bool
is_text Text = true
is_text _ = false

-- this very word
abbrev pub word : List ℕ → Lexeme → Bool
word text x = is_word x.kind && bytes_eq x.text text

-- this very mark
abbrev pub mark : List ℕ → Lexeme → Bool
mark text x = is_mark x.kind && bytes_eq x.text text

-- The token is what this terminal stands for. A name is any word that is neither a section word nor a closed word.
abbrev pub matches : Terminal → Lexeme → Bool
matches terminal.Ops x = word (codes "Ops") x
matches terminal.Vars x = word (codes "Vars") x
matches terminal.Trs x = word (codes "TRS") x
matches terminal.Automaton x = word (codes "Automaton") x
matches terminal.States x = word (codes "States") x
matches terminal.Description x = word (codes "Description") x
matches terminal.Final x = word (codes "Final") x
matches terminal.Prior x = word (codes "Prior") x
matches terminal.Transitions x = word (codes "Transitions") x
matches terminal.Equations x = word (codes "Equations") x
matches terminal.Approximation x = word (codes "Approximation") x
matches terminal.Rules x = word (codes "Rules") x
matches terminal.Colon x = mark (codes ":") x
matches terminal.OpenParen x = mark (codes "(") x
matches terminal.CloseParen x = mark (codes ")") x
matches terminal.Comma x = mark (codes ",") x
matches terminal.Arrow x = mark (codes "->") x
matches terminal.Equals x = mark (codes "=") x
matches terminal.OpenBracket x = mark (codes "[") x
matches terminal.CloseBracket x = mark (codes "]") x
matches terminal.CloseEntries x = mark (codes "]") x
matches (terminal.Named place) x = is_word x.kind && not (is_reserved x.text)
matches terminal.Number x = is_word x.kind && list_all is_ascii_digit x.text
matches terminal.Zero x = word (codes "0") x
matches terminal.Quoted x = is_text x.kind
