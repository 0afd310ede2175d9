-- The rows of the table at a state in which no application is open: at words and marks, and at names that are declared.
use Rattle.std.proofs.Common.{◌≡◌, ℕ, ◌<◌, Bool, true, false, ◌&&◌, List, [], ◌++◌, length, Some, None, refl, sym, ap, ◌∙◌, true≢false}
use Rattle.std.specs.List.{list_all}
use Rattle.std.specs.Char.{is_ascii_digit}
use Rattle.std.specs.Str.{bytes_eq}
use Rattle.std.proofs.lemmas.Bool.{or_from, and_left, and_right, and_parts, false_from_ne_true, ltb-false, leb-false, le-ltb, lt-leb}
use Rattle.std.proofs.lemmas.Slice.Eq.{bytes_eq-Decides}
use Rattle.ranked_terms.specs.Names.{names_of}
use Rattle.timbuk_lex.specs.declared.lexeme.Lexeme.{Lexeme}
use Rattle.timbuk_lex.specs.declared.lexeme.TokenKind.{TokenKind}
use Rattle.timbuk_lex.specs.declared.lexeme.TokenKind.TheVariants.{Word, Text, Mark}
use Rattle.timbuk_grammar.specs.declared.terminal.Role.TheVariants as role
use Rattle.timbuk_grammar.specs.declared.terminal.Terminal.{Terminal}
use Rattle.timbuk_grammar.specs.declared.terminal.Terminal.TheVariants as terminal
use Rattle.timbuk_grammar.specs.Vocabulary.{is_closed, is_reserved}
use Rattle.timbuk_grammar.specs.Matching.{is_word, is_mark, is_text, matches}
use Rattle.timbuk_grammar.specs.lemmas.Differ.{apart}
use Rattle.spec_text.specs.Declarations.{Declared, Last, any, leaf, constant, function, current, meaning}
use Rattle.spec_text.specs.Naming.{IsShort, IsArity}
use Rattle.spec_text.specs.Rows.{wrong_after, wrong_count, wrong_arity, unexpected_after, expected, passed, misnamed, is_in, row}
use Rattle.spec_text.proofs.agreement.tokens.Runs.{or-none, or_parts_none, when-false, when_none, row-none, row_parts}

-- ---- at rest

-- the last token was no symbol
abbrev pub IsResting : Last → Type 0
IsResting any = Unit {0}
IsResting leaf = Unit {0}
IsResting _ = ⊥

-- no application is open
pub record IsAtRest (d : Declared) : Type 0 where
  pub applications : d.applications ≡ []
  pub last : IsResting d.last

not_wrong_after : (l : Last) (x : Lexeme) → IsResting l → wrong_after l x ≡ false
not_wrong_after any x h = refl
not_wrong_after leaf x h = refl
not_wrong_after constant x h = absurd h
not_wrong_after function x h = absurd h

pub arity_at_rest : (d : Declared) (x : Lexeme) → IsAtRest d → wrong_arity d x ≡ false
unfolding wrong_arity
arity_at_rest d x h = or_from _ _ (not_wrong_after d.last x h.last) (ap (λ a. wrong_count a x) h.applications)

-- ---- tokens that are no opening parenthesis and do not begin an approximation

word_no_mark : (k : TokenKind) (p q : Bool) → (is_word k && p) ≡ true → (is_mark k && q) ≡ false
word_no_mark Word p q e = refl
word_no_mark Text p q e = cc
word_no_mark Mark p q e = cc

text_no_mark : (k : TokenKind) (q : Bool) → is_text k ≡ true → (is_mark k && q) ≡ false
text_no_mark Word q e = refl
text_no_mark Text q e = refl
text_no_mark Mark q e = cc

text_no_word : (k : TokenKind) (q : Bool) → is_text k ≡ true → (is_word k && q) ≡ false
text_no_word Word q e = cc
text_no_word Text q e = refl
text_no_word Mark q e = refl

number_no_word : (k : Bool) (text a : List ℕ) → list_all is_ascii_digit a ≡ false → (k && list_all is_ascii_digit text) ≡ true → (k && bytes_eq text a) ≡ false
number_no_word k text a d e =
    and_right k _ (false_from_ne_true (bytes_eq text a) (λ h. true≢false (sym (and_parts k _ e).1 ∙ (ap (list_all is_ascii_digit) ((bytes_eq-Decides text a).0 h) ∙ d))))

abbrev pub opens : Terminal → Bool
opens terminal.OpenParen = true
opens _ = false

abbrev pub approximates : Terminal → Bool
approximates terminal.Approximation = true
approximates _ = false

pub no_opening : (t : Terminal) (x : Lexeme) → opens t ≡ false → matches t x ≡ true → matches terminal.OpenParen x ≡ false
no_opening terminal.OpenParen x n e = cc
no_opening terminal.Number x n e = word_no_mark x.kind _ _ e
no_opening terminal.Quoted x n e = text_no_mark x.kind _ e
no_opening t x n e = apart t terminal.OpenParen x refl e

pub no_approximation : (t : Terminal) (x : Lexeme) → approximates t ≡ false → matches t x ≡ true → matches terminal.Approximation x ≡ false
unfolding is_reserved is_closed
no_approximation terminal.Approximation x n e = cc
no_approximation terminal.Number x n e = number_no_word (is_word x.kind) x.text _ refl e
no_approximation terminal.Quoted x n e = text_no_word x.kind _ e
no_approximation t x n e = apart t terminal.Approximation x refl e

no_opening_after : (l : Last) (x : Lexeme) → matches terminal.OpenParen x ≡ false → unexpected_after l x ≡ false
no_opening_after leaf x e = e
no_opening_after _ x e = refl

pub is_expected : (t : Terminal) (d : Declared) (x : Lexeme) → opens t ≡ false → approximates t ≡ false → matches t x ≡ true → expected (Some t) d x ≡ false
unfolding expected
is_expected t d x n k e = or_from _ _ (no_opening_after d.last x (no_opening t x n e)) (and_left _ _ (no_approximation t x k e))

-- no row fits such a token at rest where its limits are kept and its name is fine
pub row_at_rest : (t : Terminal) (d : Declared) (x : Lexeme) → IsAtRest d → opens t ≡ false → approximates t ≡ false → matches t x ≡ true → passed t x.text d ≡ None → misnamed t x.text d ≡ None → row (Some t) d x ≡ None
row_at_rest t d x h n k e p m = row-none t d x e (arity_at_rest d x h) (is_expected t d x n k e) p m

-- ---- words and marks

-- a terminal without limits, at which no name stands
abbrev pub is_plain : Terminal → Bool
is_plain (terminal.Named p) = false
is_plain terminal.Number = false
is_plain terminal.Trs = false
is_plain terminal.Automaton = false
is_plain terminal.Equations = false
is_plain terminal.Approximation = false
is_plain _ = true

pub passed_plain : (t : Terminal) (text : List ℕ) (d : Declared) → is_plain t ≡ true → passed t text d ≡ None
unfolding passed
passed_plain (terminal.Named p) text d e = cc
passed_plain terminal.Number text d e = cc
passed_plain terminal.Trs text d e = cc
passed_plain terminal.Automaton text d e = cc
passed_plain terminal.Equations text d e = cc
passed_plain terminal.Approximation text d e = cc
passed_plain _ text d e = refl

abbrev pub is_name : Terminal → Bool
is_name (terminal.Named p) = true
is_name _ = false

pub misnamed_plain : (t : Terminal) (text : List ℕ) (d : Declared) → is_name t ≡ false → misnamed t text d ≡ None
unfolding misnamed
misnamed_plain (terminal.Named p) text d e = cc
misnamed_plain _ text d e = refl

plain_no_name : (t : Terminal) → is_plain t ≡ true → is_name t ≡ false
plain_no_name (terminal.Named p) e = cc
plain_no_name _ e = refl

plain_no_approximation : (t : Terminal) → is_plain t ≡ true → approximates t ≡ false
plain_no_approximation terminal.Approximation e = cc
plain_no_approximation _ e = refl

pub plain_row : (t : Terminal) (d : Declared) (x : Lexeme) → IsAtRest d → is_plain t ≡ true → opens t ≡ false → matches t x ≡ true → row (Some t) d x ≡ None
plain_row t d x h p n e = row_at_rest t d x h n (plain_no_approximation t p) e (passed_plain t x.text d p) (misnamed_plain t x.text d (plain_no_name t p))

-- ---- names that are declared

-- a name that is short, new among these, and one of at most so many
pub record IsNew (taken : List (List ℕ)) (count most : ℕ) (text : List ℕ) : Type 0 where
  pub short : IsShort text
  pub room : count < most
  pub new : is_in taken text ≡ false

pub symbol_row : (d : Declared) (x : Lexeme) → IsAtRest d → matches (terminal.Named role.Symbol) x ≡ true → IsNew (names_of d.symbols) (length d.symbols) 4096 x.text → row (Some (terminal.Named role.Symbol)) d x ≡ None
unfolding passed misnamed meaning
symbol_row d x h e n = row_at_rest (terminal.Named role.Symbol) d x h refl refl e
    (or-none _ _ (when-false _ _ (le-ltb _ _ n.short)) (when-false _ _ (lt-leb _ _ n.room)))
    (or-none _ _ (when-false _ _ n.new) refl)

pub new_symbol : (d : Declared) (x : Lexeme) → row (Some (terminal.Named role.Symbol)) d x ≡ None → IsNew (names_of d.symbols) (length d.symbols) 4096 x.text
unfolding passed misnamed meaning
new_symbol d x e =
    let h = row_parts (terminal.Named role.Symbol) d x e in
    let l = or_parts_none _ _ h.limits in
    record { short = ltb-false _ _ (when_none _ _ l.0); room = leb-false _ _ (when_none _ _ l.1); new = when_none _ _ (or_parts_none _ _ h.names).0 }

pub variable_row : (d : Declared) (x : Lexeme) → IsAtRest d → matches (terminal.Named role.Variable) x ≡ true → IsNew (names_of d.symbols ++ d.variables) (length d.variables) 1024 x.text → row (Some (terminal.Named role.Variable)) d x ≡ None
unfolding passed misnamed meaning
variable_row d x h e n = row_at_rest (terminal.Named role.Variable) d x h refl refl e
    (or-none _ _ (when-false _ _ (le-ltb _ _ n.short)) (when-false _ _ (lt-leb _ _ n.room)))
    (or-none _ _ (when-false _ _ n.new) refl)

pub new_variable : (d : Declared) (x : Lexeme) → row (Some (terminal.Named role.Variable)) d x ≡ None → IsNew (names_of d.symbols ++ d.variables) (length d.variables) 1024 x.text
unfolding passed misnamed meaning
new_variable d x e =
    let h = row_parts (terminal.Named role.Variable) d x e in
    let l = or_parts_none _ _ h.limits in
    record { short = ltb-false _ _ (when_none _ _ l.0); room = leb-false _ _ (when_none _ _ l.1); new = when_none _ _ (or_parts_none _ _ h.names).0 }

pub state_row : (d : Declared) (x : Lexeme) → IsAtRest d → matches (terminal.Named role.State) x ≡ true → IsNew (names_of d.symbols ++ (d.variables ++ (current d).states)) (length (current d).states) 16384 x.text → row (Some (terminal.Named role.State)) d x ≡ None
unfolding passed misnamed meaning
state_row d x h e n = row_at_rest (terminal.Named role.State) d x h refl refl e
    (or-none _ _ (when-false _ _ (le-ltb _ _ n.short)) (when-false _ _ (lt-leb _ _ n.room)))
    (or-none _ _ (when-false _ _ n.new) refl)

pub new_state : (d : Declared) (x : Lexeme) → row (Some (terminal.Named role.State)) d x ≡ None → IsNew (names_of d.symbols ++ (d.variables ++ (current d).states)) (length (current d).states) 16384 x.text
unfolding passed misnamed meaning
new_state d x e =
    let h = row_parts (terminal.Named role.State) d x e in
    let l = or_parts_none _ _ h.limits in
    record { short = ltb-false _ _ (when_none _ _ l.0); room = leb-false _ _ (when_none _ _ l.1); new = when_none _ _ (or_parts_none _ _ h.names).0 }

-- ---- titles and arities

-- a title is fine exactly where it has at most 255 bytes
pub title_row : (d : Declared) (x : Lexeme) → IsAtRest d → matches (terminal.Named role.Title) x ≡ true → IsShort x.text → row (Some (terminal.Named role.Title)) d x ≡ None
unfolding passed misnamed meaning
title_row d x h e n = row_at_rest (terminal.Named role.Title) d x h refl refl e (or-none _ _ (when-false _ _ (le-ltb _ _ n)) refl) refl

pub short_title : (d : Declared) (x : Lexeme) → row (Some (terminal.Named role.Title)) d x ≡ None → IsShort x.text
unfolding passed misnamed meaning
short_title d x e = ltb-false _ _ (when_none _ _ (or_parts_none _ _ (row_parts (terminal.Named role.Title) d x e).limits).0)

pub number_row : (d : Declared) (x : Lexeme) → IsAtRest d → matches terminal.Number x ≡ true → IsArity x.text → row (Some terminal.Number) d x ≡ None
unfolding passed
number_row d x h e n = row_at_rest terminal.Number d x h refl refl e
    (or-none _ _ (when-false _ _ (le-ltb _ _ n.short)) (when-false _ _ (le-ltb _ _ n.small)))
    (misnamed_plain terminal.Number x.text d refl)

pub small_number : (d : Declared) (x : Lexeme) → row (Some terminal.Number) d x ≡ None → IsArity x.text
unfolding passed
small_number d x e =
    let l = or_parts_none _ _ (row_parts terminal.Number d x e).limits in
    record { short = ltb-false _ _ (when_none _ _ l.0); small = ltb-false _ _ (when_none _ _ l.1) }

-- ---- the word that begins an automaton

pub automaton_row : (d : Declared) (x : Lexeme) → IsAtRest d → matches terminal.Automaton x ≡ true → d.automata < 2 → row (Some terminal.Automaton) d x ≡ None
unfolding passed
automaton_row d x h e n = row_at_rest terminal.Automaton d x h refl refl e (when-false _ _ (lt-leb _ _ n)) (misnamed_plain terminal.Automaton x.text d refl)

pub room_for_automaton : (d : Declared) (x : Lexeme) → row (Some terminal.Automaton) d x ≡ None → d.automata < 2
unfolding passed
room_for_automaton d x e = leb-false _ _ (when_none _ _ (row_parts terminal.Automaton d x e).limits)
