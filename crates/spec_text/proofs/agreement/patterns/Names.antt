-- Rows at tokens after a quiet one, and the places of patterns.
use Rattle.std.proofs.Common.{◌≡◌, Bool, true, false, ◌&&◌, ◌||◌, ◌==◌, List, [], ◌∷◌, refl, ap, ◌∙◌}
use Rattle.std.specs.Prelude.{Option, Some, None, option_map}
use Rattle.timbuk_lex.specs.declared.lexeme.Lexeme.{Lexeme}
use Rattle.timbuk_grammar.specs.declared.terminal.Role.{Role}
use Rattle.timbuk_grammar.specs.declared.terminal.Role.TheVariants as role
use Rattle.timbuk_grammar.specs.declared.terminal.Terminal.{Terminal}
use Rattle.timbuk_grammar.specs.declared.terminal.Terminal.TheVariants as terminal
use Rattle.timbuk_grammar.specs.Vocabulary.{is_reserved, is_closed}
use Rattle.timbuk_grammar.specs.Matching.{matches, is_word, is_mark}
use Rattle.timbuk_grammar.specs.Trees.{Token}
use Rattle.timbuk_grammar.specs.lemmas.Differ.{apart}
use Rattle.spec_text.specs.declared.fault.SpecKind.TheVariants as kind
use Rattle.spec_text.specs.Naming.{Names, stands_for}
use Rattle.spec_text.specs.Declarations.{Text, Declared, Application, meaning}
use Rattle.spec_text.specs.Rows.{row, or as earlier, when, wrong_count, wrong_arity, expected, is_closed_word, at_terminal}
use Rattle.spec_text.proofs.agreement.tokens.Last.{forgets}
use Rattle.spec_text.proofs.agreement.tokens.Runs.{name_open, mark_open}

-- ---- rows, one after the other

pub no_rows : {A : Type 0} (a b : Option A) → earlier a b ≡ None → (a ≡ None) × (b ≡ None)
no_rows None b e = (refl, e)
no_rows (Some a) b e = cc

pub no_row_yet : {A : Type 0} (a b : Option A) → a ≡ None → b ≡ None → earlier a b ≡ None
no_row_yet a b e f = ap (λ z. earlier z b) e ∙ f

pub not_when : {A : Type 0} (c : Bool) (a : A) → when c a ≡ None → c ≡ false
not_when true a e = cc
not_when false a e = refl

pub when_not : {A : Type 0} (c : Bool) (a : A) → c ≡ false → when c a ≡ None
when_not c a e = ap (λ z. when z a) e

pub none_mapped : {A B : Type 0} (f : A → B) (o : Option A) → option_map f o ≡ None → o ≡ None
none_mapped f None e = refl
none_mapped f (Some a) e = cc

-- ---- tokens

-- the token is no closed word, and begins no approximation
pub record IsPlain (x : Lexeme) : Type 0 where
  pub open_word : is_closed_word x ≡ false
  pub no_section : matches terminal.Approximation x ≡ false

pub name_plain : {p : Role} (n : Token (terminal.Named p)) → IsPlain n.lexeme
unfolding is_reserved
name_plain {p = p} n = record {
  open_word = name_open (is_word n.lexeme.kind) n.lexeme.text n.matched;
  no_section = apart (terminal.Named p) terminal.Approximation n.lexeme refl n.matched;
}

pub mark_plain : (x : Lexeme) (a : Bool) → (is_mark x.kind && a) ≡ true → matches terminal.Approximation x ≡ false → IsPlain x
mark_plain x a e f = record { open_word = mark_open x.kind a (is_closed x.text) e; no_section = f }

both_false : (a b c d : Bool) → a ≡ false → c ≡ false → ((a && b) || (c && d)) ≡ false
both_false a b c d e f = (λ i. (e i && b) || (f i && d))

-- what is neither a closing parenthesis nor a comma ends no argument
pub counts_not : (outer : List Application) (x : Lexeme) → matches terminal.CloseParen x ≡ false → matches terminal.Comma x ≡ false → wrong_count outer x ≡ false
counts_not [] x e f = refl
counts_not (a ∷ outer) x e f = both_false _ _ _ _ e f

-- a name ends no argument
pub name_counts : (outer : List Application) {p : Role} (n : Token (terminal.Named p)) → wrong_count outer n.lexeme ≡ false
name_counts outer {p = p} n =
    counts_not outer n.lexeme (apart (terminal.Named p) terminal.CloseParen n.lexeme refl n.matched) (apart (terminal.Named p) terminal.Comma n.lexeme refl n.matched)

-- ---- a row at a token after a quiet one

pub plain_row : (t : Terminal) (d : Declared) (x : Lexeme) → IsPlain x → wrong_count d.applications x ≡ false → at_terminal (Some t) x (forgets d) ≡ None → row (Some t) (forgets d) x ≡ None
unfolding row wrong_arity expected
plain_row t d x plain count at =
    no_row_yet _ _ (when_not _ kind.UnknownSection plain.open_word)
    (no_row_yet _ _ (when_not _ kind.WrongArity count)
    (no_row_yet _ _ (when_not _ kind.Expected (ap (λ z. z && d.automata == 0) plain.no_section))
    at))

-- what no row at a token tells
pub record NoRow (t : Terminal) (d : Declared) (x : Lexeme) : Type 0 where
  pub count : wrong_count d.applications x ≡ false
  pub at : at_terminal (Some t) x (forgets d) ≡ None

pub no_row_at : (t : Terminal) (d : Declared) (x : Lexeme) → row (Some t) (forgets d) x ≡ None → NoRow t d x
unfolding row wrong_arity expected
no_row_at t d x e =
    let a = no_rows (when (is_closed_word x) kind.UnknownSection) _ e in
    let b = no_rows (when (wrong_arity (forgets d) x) kind.WrongArity) _ a.1 in
    let c = no_rows (when (expected (Some t) (forgets d) x) kind.Expected) _ b.1 in
    record { count = not_when _ _ b.0; at = c.1 }

-- ---- the places of patterns

pub data IsPattern : Role → Type 0 where
  in_left : IsPattern role.LeftSide
  in_right : IsPattern role.RightSide
  in_equation_left : IsPattern role.EquationLeft
  in_equation_right : IsPattern role.EquationRight
  in_whole : IsPattern role.EntryWhole

-- the states that may stand in a pattern
abbrev pub pattern_states : Role → List Text → List Text
pattern_states role.EntryWhole states = states
pattern_states _ states = []

-- the names that may stand in a pattern
abbrev pub names_at : Role → Declared → Names
names_at p d = record { symbols = d.symbols; variables = d.variables; states = pattern_states p d.initial.states }

pub meaning_is : {p : Role} → IsPattern p → (d : Declared) (text : Text) → meaning d p text ≡ stands_for (names_at p d) text
unfolding meaning
meaning_is in_left d text = refl
meaning_is in_right d text = refl
meaning_is in_equation_left d text = refl
meaning_is in_equation_right d text = refl
meaning_is in_whole d text = refl
