-- Terminals that no token fits both of.
-- (Nobody has to believe what stands here: it is proved, for the proofs of this crate and of those above.)
use Rattle.std.proofs.Common.{◌≡◌, ℕ, Bool, true, false, ◌&&◌, not, List, refl, sym, ◌∙◌, ap, subst}
use Rattle.std.specs.Prelude.{codes}
use Rattle.std.specs.List.{list_all}
use Rattle.std.specs.Char.{is_ascii_digit}
use Rattle.std.specs.Str.{bytes_eq}
use Rattle.std.proofs.lemmas.Slice.Eq.{bytes_eq-Decides}
use Rattle.timbuk_lex.specs.declared.lexeme.Lexeme.{Lexeme}
use Rattle.timbuk_lex.specs.declared.lexeme.TokenKind.{TokenKind}
use Rattle.timbuk_lex.specs.declared.lexeme.TokenKind.TheVariants.{Word, Text, Mark}
use Rattle.timbuk_grammar.specs.Vocabulary.{is_reserved}
use Rattle.timbuk_grammar.specs.Matching.{is_word, is_mark, is_text, word, mark, matches}
use Rattle.timbuk_grammar.specs.declared.terminal.Terminal.{Terminal}
use Rattle.timbuk_grammar.specs.declared.terminal.Terminal.TheVariants as terminal

-- what a terminal asks of a token
pub data Form : Type 0 where
  the_word : List ℕ → Form
  the_mark : List ℕ → Form
  any_name : Form
  any_number : Form
  any_text : Form

abbrev form_of : Terminal → Form
form_of terminal.Ops = the_word (codes "Ops")
form_of terminal.Vars = the_word (codes "Vars")
form_of terminal.Trs = the_word (codes "TRS")
form_of terminal.Automaton = the_word (codes "Automaton")
form_of terminal.States = the_word (codes "States")
form_of terminal.Description = the_word (codes "Description")
form_of terminal.Final = the_word (codes "Final")
form_of terminal.Prior = the_word (codes "Prior")
form_of terminal.Transitions = the_word (codes "Transitions")
form_of terminal.Equations = the_word (codes "Equations")
form_of terminal.Approximation = the_word (codes "Approximation")
form_of terminal.Rules = the_word (codes "Rules")
form_of terminal.Colon = the_mark (codes ":")
form_of terminal.OpenParen = the_mark (codes "(")
form_of terminal.CloseParen = the_mark (codes ")")
form_of terminal.Comma = the_mark (codes ",")
form_of terminal.Arrow = the_mark (codes "->")
form_of terminal.Equals = the_mark (codes "=")
form_of terminal.OpenBracket = the_mark (codes "[")
form_of terminal.CloseBracket = the_mark (codes "]")
form_of terminal.CloseEntries = the_mark (codes "]")
form_of (terminal.Named place) = any_name
form_of terminal.Number = any_number
form_of terminal.Zero = the_word (codes "0")
form_of terminal.Quoted = any_text

abbrev fits : Form → Lexeme → Bool
fits (the_word text) x = word text x
fits (the_mark text) x = mark text x
fits any_name x = is_word x.kind && not (is_reserved x.text)
fits any_number x = is_word x.kind && list_all is_ascii_digit x.text
fits any_text x = is_text x.kind

matches_form : (t : Terminal) (x : Lexeme) → matches t x ≡ fits (form_of t) x
matches_form (terminal.Named place) x = refl
matches_form _ x = refl

-- No token has both forms. This may say no of two such forms, but never yes of others.
abbrev differ : Form → Form → Bool
differ (the_word a) (the_word b) = not (bytes_eq a b)
differ (the_word a) any_name = is_reserved a
differ any_name (the_word b) = is_reserved b
differ (the_mark a) (the_mark b) = not (bytes_eq a b)
differ (the_mark a) (the_word b) = true
differ (the_word a) (the_mark b) = true
differ (the_mark a) any_name = true
differ any_name (the_mark b) = true
differ _ _ = false

pub not_true : (b : Bool) → not b ≡ true → b ≡ false
not_true true e = cc
not_true false e = refl

two_texts : (k : Bool) (text a b : List ℕ) → not (bytes_eq a b) ≡ true → (k && bytes_eq text a) ≡ true → (k && bytes_eq text b) ≡ false
two_texts false text a b d e = refl
two_texts true text a b d e = subst (λ z. bytes_eq z b ≡ false) (sym ((bytes_eq-Decides text a).0 e)) (not_true (bytes_eq a b) d)

word_name : (k : Bool) (text a : List ℕ) → is_reserved a ≡ true → (k && bytes_eq text a) ≡ true → (k && not (is_reserved text)) ≡ false
word_name false text a d e = refl
word_name true text a d e = subst (λ z. not (is_reserved z) ≡ false) (sym ((bytes_eq-Decides text a).0 e)) (ap not d)

word_no_mark : (k : TokenKind) (p q : Bool) → (is_word k && p) ≡ true → (is_mark k && q) ≡ false
word_no_mark Word p q e = refl
word_no_mark Text p q e = cc
word_no_mark Mark p q e = cc

pub other_way : (a b : Bool) → (a ≡ true → b ≡ false) → b ≡ true → a ≡ false
other_way true b f e = let h = f refl in cc
other_way false b f e = refl

forms_differ : (f g : Form) (x : Lexeme) → differ f g ≡ true → fits f x ≡ true → fits g x ≡ false
forms_differ (the_word a) (the_word b) x d e = two_texts (is_word x.kind) x.text a b d e
forms_differ (the_word a) any_name x d e = word_name (is_word x.kind) x.text a d e
forms_differ any_name (the_word b) x d e = other_way _ _ (word_name (is_word x.kind) x.text b d) e
forms_differ (the_mark a) (the_mark b) x d e = two_texts (is_mark x.kind) x.text a b d e
forms_differ (the_mark a) (the_word b) x d e = other_way _ _ (word_no_mark x.kind _ _) e
forms_differ (the_word a) (the_mark b) x d e = word_no_mark x.kind _ _ e
forms_differ (the_mark a) any_name x d e = other_way _ _ (word_no_mark x.kind _ _) e
forms_differ any_name (the_mark b) x d e = word_no_mark x.kind _ _ e
forms_differ _ _ x d e = cc

-- no token fits both terminals
abbrev pub are_apart : Terminal → Terminal → Bool
are_apart t u = differ (form_of t) (form_of u)

pub apart : (t u : Terminal) (x : Lexeme) → are_apart t u ≡ true → matches t x ≡ true → matches u x ≡ false
apart t u x d e = matches_form u x ∙ forms_differ (form_of t) (form_of u) x d (sym (matches_form t x) ∙ e)
