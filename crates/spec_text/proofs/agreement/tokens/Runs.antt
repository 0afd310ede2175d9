-- Tokens at which no row of the table fits, and the state behind them.
use Rattle.std.proofs.Common.{◌≡◌, ℕ, Bool, true, false, not, ◌&&◌, List, [], ◌∷◌, ◌++◌, Option, Some, None, Ok, option_map, codes, refl, sym, ap, ◌∙◌, true≢false}
use Rattle.std.specs.List.{list_all}
use Rattle.std.specs.Char.{is_ascii_digit}
use Rattle.std.specs.Str.{bytes_eq}
use Rattle.std.proofs.lemmas.Bool.{or_parts, or_from, and_right, and_parts, false_from_ne_true, not-true}
use Rattle.std.proofs.lemmas.Slice.Eq.{bytes_eq-Decides}
use Rattle.timbuk_lex.specs.declared.lexeme.Lexeme.{Lexeme}
use Rattle.timbuk_lex.specs.declared.lexeme.TokenKind.{TokenKind}
use Rattle.timbuk_lex.specs.declared.lexeme.TokenKind.TheVariants.{Word, Text, Mark}
use Rattle.timbuk_grammar.specs.declared.terminal.Terminal.{Terminal}
use Rattle.timbuk_grammar.specs.declared.terminal.Terminal.TheVariants as terminal
use Rattle.timbuk_grammar.specs.Vocabulary.{is_closed, is_reserved}
use Rattle.timbuk_grammar.specs.Matching.{is_word, is_mark, is_text, matches}
use Rattle.spec_text.specs.declared.fault.SpecKind.{SpecKind}
use Rattle.spec_text.specs.declared.fault.SpecKind.TheVariants as kind
use Rattle.spec_text.specs.Declarations.{Declared, adds}
use Rattle.spec_text.specs.Rows.{or, when, wrong_arity, expected, passed, misnamed, is_closed_word, row}
use Rattle.spec_text.specs.Reading.{Outcome, End, unless}
use Rattle.spec_text.proofs.agreement.tokens.Labels.{Label, judge}

-- ---- tokens one after the other

-- the state behind tokens
abbrev pub run : Declared → List Label → Declared
run d [] = d
run d (x ∷ xs) = run (adds x.0 x.1.text d) xs

-- no row fits at any of these tokens
abbrev pub AreFaultless : Declared → List Label → Type 0
AreFaultless d [] = Unit {0}
AreFaultless d (x ∷ xs) = (row (Some x.0) d x.1 ≡ None) × AreFaultless (adds x.0 x.1.text d) xs

pub run-append : (d : Declared) (xs ys : List Label) → run d (xs ++ ys) ≡ run (run d xs) ys
run-append d [] ys = refl
run-append d (x ∷ xs) ys = run-append (adds x.0 x.1.text d) xs ys

pub faultless-append : (d : Declared) (xs ys : List Label) → AreFaultless d xs → AreFaultless (run d xs) ys → AreFaultless d (xs ++ ys)
faultless-append d [] ys h k = k
faultless-append d (x ∷ xs) ys h k = (h.0, faultless-append (adds x.0 x.1.text d) xs ys h.1 k)

pub faultless_parts : (d : Declared) (xs ys : List Label) → AreFaultless d (xs ++ ys) → AreFaultless d xs × AreFaultless (run d xs) ys
faultless_parts d [] ys h = (tt, h)
faultless_parts d (x ∷ xs) ys h = let k = faultless_parts (adds x.0 x.1.text d) xs ys h.1 in ((h.0, k.0), k.1)

-- the judge goes on behind faultless tokens
pub judge-faultless : (end : End) (d : Declared) (xs rest : List Label) → AreFaultless d xs → judge end d (xs ++ rest) ≡ judge end (run d xs) rest
judge-faultless end d [] rest h = refl
judge-faultless end d (x ∷ xs) rest h =
    ap (λ o. unless o x.1 (judge end (adds x.0 x.1.text d) (xs ++ rest))) h.0 ∙ judge-faultless end (adds x.0 x.1.text d) xs rest h.1

unless_ok : (o : Option SpecKind) (x : Lexeme) (r : Outcome) (e : Declared) → unless o x r ≡ Ok e → (o ≡ None) × (r ≡ Ok e)
unless_ok None x r e h = (refl, h)
unless_ok (Some k) x r e h = cc

-- and where it comes to the end, they were
pub faultless-judge : (end : End) (d : Declared) (xs rest : List Label) (e : Declared) → judge end d (xs ++ rest) ≡ Ok e → AreFaultless d xs × (judge end (run d xs) rest ≡ Ok e)
faultless-judge end d [] rest e h = (tt, h)
faultless-judge end d (x ∷ xs) rest e h =
    let k = unless_ok (row (Some x.0) d x.1) x.1 (judge end (adds x.0 x.1.text d) (xs ++ rest)) e h in
    let l = faultless-judge end (adds x.0 x.1.text d) xs rest e k.1 in
    ((k.0, l.0), l.1)

-- ---- the parts of a row

pub or-none : {A : Type 0} (a b : Option A) → a ≡ None → b ≡ None → or a b ≡ None
or-none None b e f = f
or-none (Some x) b e f = e

pub or_parts_none : {A : Type 0} (a b : Option A) → or a b ≡ None → (a ≡ None) × (b ≡ None)
or_parts_none None b e = (refl, e)
or_parts_none (Some x) b e = cc

pub when-false : {A : Type 0} (b : Bool) (x : A) → b ≡ false → when b x ≡ None
when-false b x e = ap (λ c. when c x) e

pub when_none : {A : Type 0} (b : Bool) (x : A) → when b x ≡ None → b ≡ false
when_none true x e = cc
when_none false x e = refl

pub mapped-none : {A B : Type 0} (f : A → B) (o : Option A) → option_map f o ≡ None → o ≡ None
mapped-none f None e = refl
mapped-none f (Some x) e = cc

-- ---- no token that the grammar has is a closed word

word_open : (k : Bool) (text a : List ℕ) → is_closed a ≡ false → (k && bytes_eq text a) ≡ true → (k && is_closed text) ≡ false
word_open false text a d e = refl
word_open true text a d e = ap is_closed ((bytes_eq-Decides text a).0 e) ∙ d

pub mark_open : (k : TokenKind) (p q : Bool) → (is_mark k && p) ≡ true → (is_word k && q) ≡ false
mark_open Word p q e = cc
mark_open Text p q e = refl
mark_open Mark p q e = refl

text_open : (k : TokenKind) (q : Bool) → is_text k ≡ true → (is_word k && q) ≡ false
text_open Word q e = cc
text_open Text q e = refl
text_open Mark q e = refl

pub name_open : (k : Bool) (text : List ℕ) → (k && not (is_reserved text)) ≡ true → (k && is_closed text) ≡ false
unfolding is_reserved
name_open k text e = and_right k (is_closed text) (or_parts _ (is_closed text) (not-true _ (and_parts k _ e).1)).1

other_than : (a text : List ℕ) → list_all is_ascii_digit a ≡ false → list_all is_ascii_digit text ≡ true → bytes_eq a text ≡ false
other_than a text d e = false_from_ne_true (bytes_eq a text) (λ h. true≢false (sym (ap (list_all is_ascii_digit) ((bytes_eq-Decides a text).0 h) ∙ e) ∙ d))

number_open : (k : Bool) (text : List ℕ) → (k && list_all is_ascii_digit text) ≡ true → (k && is_closed text) ≡ false
unfolding is_closed
number_open k text e =
    let digits = (and_parts k (list_all is_ascii_digit text) e).1 in
    and_right k _ (or_from _ _ (other_than (codes "Import") text refl digits) (or_from _ _ (other_than (codes "Set") text refl digits) (or_from _ _ (other_than (codes "Patterns") text refl digits) refl)))

pub not_closed : (t : Terminal) (x : Lexeme) → matches t x ≡ true → is_closed_word x ≡ false
unfolding is_closed
not_closed terminal.Ops x e = word_open (is_word x.kind) x.text _ refl e
not_closed terminal.Vars x e = word_open (is_word x.kind) x.text _ refl e
not_closed terminal.Trs x e = word_open (is_word x.kind) x.text _ refl e
not_closed terminal.Automaton x e = word_open (is_word x.kind) x.text _ refl e
not_closed terminal.States x e = word_open (is_word x.kind) x.text _ refl e
not_closed terminal.Description x e = word_open (is_word x.kind) x.text _ refl e
not_closed terminal.Final x e = word_open (is_word x.kind) x.text _ refl e
not_closed terminal.Prior x e = word_open (is_word x.kind) x.text _ refl e
not_closed terminal.Transitions x e = word_open (is_word x.kind) x.text _ refl e
not_closed terminal.Equations x e = word_open (is_word x.kind) x.text _ refl e
not_closed terminal.Approximation x e = word_open (is_word x.kind) x.text _ refl e
not_closed terminal.Rules x e = word_open (is_word x.kind) x.text _ refl e
not_closed terminal.Colon x e = mark_open x.kind _ _ e
not_closed terminal.OpenParen x e = mark_open x.kind _ _ e
not_closed terminal.CloseParen x e = mark_open x.kind _ _ e
not_closed terminal.Comma x e = mark_open x.kind _ _ e
not_closed terminal.Arrow x e = mark_open x.kind _ _ e
not_closed terminal.Equals x e = mark_open x.kind _ _ e
not_closed terminal.OpenBracket x e = mark_open x.kind _ _ e
not_closed terminal.CloseBracket x e = mark_open x.kind _ _ e
not_closed terminal.CloseEntries x e = mark_open x.kind _ _ e
not_closed (terminal.Named p) x e = name_open (is_word x.kind) x.text e
not_closed terminal.Number x e = number_open (is_word x.kind) x.text e
not_closed terminal.Zero x e = word_open (is_word x.kind) x.text _ refl e
not_closed terminal.Quoted x e = text_open x.kind _ e

-- ---- a row

-- no row fits where its parts don't
pub row-none : (t : Terminal) (d : Declared) (x : Lexeme) → matches t x ≡ true → wrong_arity d x ≡ false → expected (Some t) d x ≡ false → passed t x.text d ≡ None → misnamed t x.text d ≡ None → row (Some t) d x ≡ None
unfolding row
row-none t d x m a b c e =
    or-none _ _ (when-false _ _ (not_closed t x m)) (or-none _ _ (when-false _ _ a) (or-none _ _ (when-false _ _ b) (or-none _ _ (ap (option_map kind.Limit) c) e)))

-- what no row says of the parts
pub record HasNoRow (t : Terminal) (d : Declared) (x : Lexeme) : Type 0 where
  pub arity : wrong_arity d x ≡ false
  pub role : expected (Some t) d x ≡ false
  pub limits : passed t x.text d ≡ None
  pub names : misnamed t x.text d ≡ None

pub row_parts : (t : Terminal) (d : Declared) (x : Lexeme) → row (Some t) d x ≡ None → HasNoRow t d x
unfolding row
row_parts t d x e =
    let a = (or_parts_none _ _ e).1 in
    let b = or_parts_none _ _ a in
    let c = or_parts_none _ _ b.1 in
    let l = or_parts_none _ _ c.1 in
    record { arity = when_none _ _ b.0; role = when_none _ _ c.0; limits = mapped-none kind.Limit _ l.0; names = l.1 }
