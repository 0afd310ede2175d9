-- The steps of a pattern: a name without arguments, a name with arguments, and the marks.
use Rattle.std.proofs.Common.{◌≡◌, ℕ, zero, suc, ◌≤◌, ◌<◌, Bool, true, false, not, ◌&&◌, ◌||◌, ◌==◌, List, [], ◌∷◌, fold, length, refl, ap, sym, ◌∙◌, subst, true≢false}
use Rattle.std.specs.Prelude.{nat_lt, nat_le, Some, None, Ok}
use Rattle.std.proofs.lemmas.Bool.{or_from, or_parts, leb-false, ltb-false, le-ltb, lt-leb}
use Rattle.ranked_terms.specs.declared.term.Shape.{Shape}
use Rattle.ranked_terms.specs.declared.term.Shape.TheVariants as shape
use Rattle.timbuk_grammar.specs.declared.terminal.Role.{Role}
use Rattle.timbuk_grammar.specs.declared.terminal.Terminal.TheVariants as terminal
use Rattle.timbuk_grammar.specs.Matching.{matches}
use Rattle.timbuk_grammar.specs.Trees.{Token}
use Rattle.timbuk_grammar.specs.lemmas.Differ.{apart}
use Rattle.spec_text.specs.declared.fault.SpecKind.TheVariants as kind
use Rattle.spec_text.specs.Source.{text_of}
use Rattle.spec_text.specs.Naming.{stands_for, leaf_shape}
use Rattle.spec_text.specs.Declarations.{Text, Declared, Last, any, leaf, constant, function, Meaning, unknown, a_variable, a_state, a_symbol, meaning, with_variable, uses, placed, binds, begins_transition, named, adds}
use Rattle.spec_text.specs.Rows.{row, end_row, when, wrong_arity, wrong_after, wrong_count, unexpected_after, expected, is_closed_word, passed, misnamed}
use Rattle.spec_text.specs.Reading.{End, unless}
use Rattle.spec_text.proofs.agreement.tokens.Labels.{Label, label, judge}
use Rattle.spec_text.specs.Reading.{settled as calm}
use Rattle.spec_text.specs.lemmas.LastToken.{after, placed_after}
use Rattle.spec_text.proofs.agreement.tokens.Last.{forgets, settled, IsQuiet, NotOpening, calm_judge, settled_step, settled_row, settled_on, calm_unless}
use Rattle.spec_text.proofs.agreement.patterns.Names.{no_rows, no_row_yet, not_when, when_not, mark_plain, counts_not, plain_row, no_row_at, IsPattern, in_left, in_right, in_equation_left, in_equation_right, in_whole, names_at, meaning_is}
use Rattle.spec_text.proofs.agreement.patterns.Fits.{fits, NameFits, name_fine, name_only}

-- ---- states

-- with these variables besides
abbrev pub with_bound : List ℕ → Declared → Declared
with_bound vs d = record d { bound = fold with_variable d.bound vs }

-- in an application with these arguments
abbrev pub inside : Role → ℕ → ℕ → List Shape → Declared → Declared
inside p f n args d = record d { applications = record { role = p; sym = f; arity = n; args = args } ∷ d.applications }

-- the variable that a name means
abbrev pub meant_variables : Meaning → List ℕ
meant_variables (a_variable v) = v ∷ []
meant_variables _ = []

-- ---- what a name adds in a pattern

adds_is : {p : Role} → IsPattern p → (text : Text) (d : Declared) → adds (terminal.Named p) text d ≡ named p (meaning d p text) d
unfolding adds
adds_is in_left text d = refl
adds_is in_right text d = refl
adds_is in_equation_left text d = refl
adds_is in_equation_right text d = refl
adds_is in_whole text d = refl

binds_is : {p : Role} → IsPattern p → (v : ℕ) (d : Declared) → binds p v d ≡ with_bound (v ∷ []) d
binds_is in_left v d = refl
binds_is in_right v d = refl
binds_is in_equation_left v d = refl
binds_is in_equation_right v d = refl
binds_is in_whole v d = refl

uses_is : {p : Role} → IsPattern p → (q : ℕ) (d : Declared) → uses p q d ≡ d
uses_is in_left q d = refl
uses_is in_right q d = refl
uses_is in_equation_left q d = refl
uses_is in_equation_right q d = refl
uses_is in_whole q d = refl

begins_is : {p : Role} → IsPattern p → (f : ℕ) (d : Declared) → begins_transition p f d ≡ d
begins_is in_left f d = refl
begins_is in_right f d = refl
begins_is in_equation_left f d = refl
begins_is in_equation_right f d = refl
begins_is in_whole f d = refl

abbrev last_of : Meaning → Last
last_of (a_symbol f n) = constant
last_of _ = leaf

quiet_leaf : (m : Meaning) → IsQuiet (last_of m)
quiet_leaf unknown = tt
quiet_leaf (a_variable v) = tt
quiet_leaf (a_state q) = tt
quiet_leaf (a_symbol f n) = tt

named_leaf : {p : Role} → IsPattern p → (m : Meaning) (s : Shape) (d : Declared) → leaf_shape m ≡ Some s → named p m d ≡ after (last_of m) (placed p s (with_bound (meant_variables m) d))
named_leaf k unknown s d e = cc
named_leaf {p = p} k (a_variable v) s d e =
    let is : shape.Var v ≡ s = cc in
    ap (λ z. after leaf (placed p (shape.Var v) z)) (binds_is k v d) ∙ ap (λ z. after leaf (placed p z (with_bound (v ∷ []) d))) is
named_leaf {p = p} k (a_state q) s d e =
    let is : shape.State q ≡ s = cc in
    ap (after leaf) (uses_is k q (placed p (shape.State q) d)) ∙ ap (λ z. after leaf (placed p z d)) is
named_leaf {p = p} k (a_symbol f zero) s d e =
    let is : shape.App f [] ≡ s = cc in
    ap (λ z. after constant (placed p (shape.App f []) z)) (begins_is k f d) ∙ ap (λ z. after constant (placed p z d)) is
named_leaf k (a_symbol f (suc n)) s d e = cc

named_function : {p : Role} → IsPattern p → (f n : ℕ) (d : Declared) → named p (a_symbol f (suc n)) d ≡ after function (inside p f (suc n) [] d)
named_function {p = p} k f n d = ap (λ (z : Declared). record z { applications = record { role = p; sym = f; arity = suc n; args = [] } ∷ d.applications; last = function }) (begins_is k f d)

-- what a name adds, by what it stands for
name_adds : {p : Role} → IsPattern p → (text : Text) (d : Declared) → adds (terminal.Named p) text d ≡ named p (stands_for (names_at p d) text) d
name_adds {p = p} k text d = adds_is k text d ∙ ap (λ m. named p m d) (meaning_is k d text)

-- ---- a name without arguments

pub leaf_fine : {p : Role} → IsPattern p → (n : Token (terminal.Named p)) (d : Declared) (s : Shape) → NameFits p (text_of n) d → leaf_shape (stands_for (names_at p d) (text_of n)) ≡ Some s
    → (end : End) (rest : List Label) → NotOpening rest → settled end d (label n ∷ rest) ≡ settled end (placed p s (with_bound (meant_variables (stands_for (names_at p d) (text_of n))) d)) rest
leaf_fine {p = p} k n d s h e end rest clear =
    let m = stands_for (names_at p d) (text_of n) in
    settled_step end d (label n) rest (name_fine k n d h)
    ∙ ap (λ z. calm (judge end z rest)) (name_adds k (text_of n) d ∙ named_leaf k m s d e)
    ∙ calm_judge end (after (last_of m) (placed p s (with_bound (meant_variables m) d))) rest (quiet_leaf m) clear

-- after a symbol of an arity above 0 no pattern ends
function_ends : (end : End) (d e : Declared) (rest : List Label) → NotOpening rest → calm (judge end (after function d) rest) ≡ Ok e → ⊥
unfolding row end_row wrong_arity
function_ends end d e [] clear h = cc
function_ends end d e (x ∷ xs) clear h =
    let a = calm_unless (row (Some x.0) (after function d) x.1) x.1 _ e h in
    let b = no_rows (when (is_closed_word x.1) kind.UnknownSection) _ a in
    let c = no_rows (when (wrong_arity (after function d) x.1) kind.WrongArity) _ b.1 in
    let f = or_parts (not (matches terminal.OpenParen x.1)) (wrong_count d.applications x.1) (not_when _ kind.WrongArity c.0) in
    true≢false (sym (ap not clear) ∙ f.0)

leaf_by : {p : Role} → IsPattern p → (m : Meaning) (d e : Declared) (end : End) (rest : List Label) → fits p m d ≡ true → NotOpening rest → calm (judge end (named p m d) rest) ≡ Ok e
    → (s : Shape) × (leaf_shape m ≡ Some s)
leaf_by k unknown d e end rest f clear h = cc
leaf_by k (a_variable v) d e end rest f clear h = (shape.Var v, refl)
leaf_by k (a_state q) d e end rest f clear h = (shape.State q, refl)
leaf_by k (a_symbol g zero) d e end rest f clear h = (shape.App g [], refl)
leaf_by {p = p} k (a_symbol g (suc n)) d e end rest f clear h =
    absurd (function_ends end (inside p g (suc n) [] d) e rest clear (sym (ap (λ z. calm (judge end z rest)) (named_function k g n d)) ∙ h))

-- a name that is a whole pattern
pub record IsLeaf {p : Role} (n : Token (terminal.Named p)) (d : Declared) : Type 0 where
  pub name : NameFits p (text_of n) d
  pub shape : Shape
  pub is : leaf_shape (stands_for (names_at p d) (text_of n)) ≡ Some shape

pub leaf_only : {p : Role} → IsPattern p → (n : Token (terminal.Named p)) (d e : Declared) (end : End) (rest : List Label) → NotOpening rest → settled end d (label n ∷ rest) ≡ Ok e → IsLeaf n d
leaf_only {p = p} k n d e end rest clear h =
    let r = settled_row end d e (label n) rest h in
    let f = name_only k n d r in
    let m = stands_for (names_at p d) (text_of n) in
    let s = leaf_by k m d e end rest f.allowed clear (sym (settled_step end d (label n) rest r ∙ ap (λ z. calm (judge end z rest)) (name_adds k (text_of n) d)) ∙ h) in
    record { name = f; shape = s.0; is = s.1 }

-- ---- a name with arguments

opening_row : (d : Declared) (opening : Token terminal.OpenParen) → row (Some terminal.OpenParen) (after function d) opening.lexeme ≡ None
unfolding row wrong_arity expected passed misnamed
opening_row d opening =
    let x = opening.lexeme in
    let plain = mark_plain x _ opening.matched (apart terminal.OpenParen terminal.Approximation x refl opening.matched) in
    let counts = counts_not d.applications x (apart terminal.OpenParen terminal.CloseParen x refl opening.matched) (apart terminal.OpenParen terminal.Comma x refl opening.matched) in
    no_row_yet _ _ (when_not _ kind.UnknownSection plain.open_word)
    (no_row_yet _ _ (when_not _ kind.WrongArity (or_from _ _ (ap not opening.matched) counts))
    (no_row_yet _ _ (when_not _ kind.Expected (ap (λ z. z && d.automata == 0) plain.no_section))
    refl))

opening_step : (end : End) (d : Declared) (opening : Token terminal.OpenParen) (rest : List Label) → calm (judge end (after function d) (label opening ∷ rest)) ≡ settled end d rest
unfolding adds
opening_step end d opening rest = ap (λ k. calm (unless k opening.lexeme (judge end (forgets d) rest))) (opening_row d opening)

pub opens_fine : {p : Role} → IsPattern p → (n : Token (terminal.Named p)) (opening : Token terminal.OpenParen) (d : Declared) (f a : ℕ) → NameFits p (text_of n) d
    → stands_for (names_at p d) (text_of n) ≡ a_symbol f (suc a) → (end : End) (rest : List Label) → settled end d (label n ∷ label opening ∷ rest) ≡ settled end (inside p f (suc a) [] d) rest
opens_fine {p = p} k n opening d f a h is end rest =
    settled_step end d (label n) (label opening ∷ rest) (name_fine k n d h)
    ∙ ap (λ z. calm (judge end z (label opening ∷ rest))) (name_adds k (text_of n) d ∙ ap (λ m. named p m d) is ∙ named_function k f a d)
    ∙ opening_step end (inside p f (suc a) [] d) opening rest

leaf_opens : (d : Declared) (opening : Token terminal.OpenParen) → row (Some terminal.OpenParen) (after leaf d) opening.lexeme ≡ None → ⊥
unfolding row expected
leaf_opens d opening h =
    let a = no_rows (when (is_closed_word opening.lexeme) kind.UnknownSection) _ h in
    let b = no_rows (when (wrong_arity (after leaf d) opening.lexeme) kind.WrongArity) _ a.1 in
    let c = no_rows (when (expected (Some terminal.OpenParen) (after leaf d) opening.lexeme) kind.Expected) _ b.1 in
    let f = or_parts (unexpected_after leaf opening.lexeme) _ (not_when _ kind.Expected c.0) in
    true≢false (sym opening.matched ∙ f.0)

constant_opens : (d : Declared) (opening : Token terminal.OpenParen) → row (Some terminal.OpenParen) (after constant d) opening.lexeme ≡ None → ⊥
unfolding row wrong_arity
constant_opens d opening h =
    let a = no_rows (when (is_closed_word opening.lexeme) kind.UnknownSection) _ h in
    let b = no_rows (when (wrong_arity (after constant d) opening.lexeme) kind.WrongArity) _ a.1 in
    let f = or_parts (wrong_after constant opening.lexeme) (wrong_count d.applications opening.lexeme) (not_when _ kind.WrongArity b.0) in
    true≢false (sym opening.matched ∙ f.0)

-- a symbol with arguments
pub record IsFunction (m : Meaning) : Type 0 where
  pub sym : ℕ
  pub less : ℕ
  pub is : m ≡ a_symbol sym (suc less)

opens_by : {p : Role} → IsPattern p → (m : Meaning) (opening : Token terminal.OpenParen) (d e : Declared) (end : End) (rest : List Label) → fits p m d ≡ true
    → calm (judge end (named p m d) (label opening ∷ rest)) ≡ Ok e → IsFunction m
opens_by k unknown opening d e end rest f h = cc
opens_by {p = p} k (a_variable v) opening d e end rest f h =
    absurd (leaf_opens (placed p (shape.Var v) (binds p v d)) opening (calm_unless (row (Some terminal.OpenParen) (named p (a_variable v) d) opening.lexeme) opening.lexeme _ e h))
opens_by {p = p} k (a_state q) opening d e end rest f h =
    absurd (leaf_opens (uses p q (placed p (shape.State q) d)) opening (calm_unless (row (Some terminal.OpenParen) (named p (a_state q) d) opening.lexeme) opening.lexeme _ e h))
opens_by {p = p} k (a_symbol g zero) opening d e end rest f h =
    absurd (constant_opens (placed p (shape.App g []) (begins_transition p g d)) opening (calm_unless (row (Some terminal.OpenParen) (named p (a_symbol g zero) d) opening.lexeme) opening.lexeme _ e h))
opens_by k (a_symbol g (suc n)) opening d e end rest f h = record { sym = g; less = n; is = refl }

-- a name after which a parenthesis opens
pub record IsOpened {p : Role} (n : Token (terminal.Named p)) (d : Declared) : Type 0 where
  pub name : NameFits p (text_of n) d
  pub symbol : IsFunction (stands_for (names_at p d) (text_of n))

pub opens_only : {p : Role} → IsPattern p → (n : Token (terminal.Named p)) (opening : Token terminal.OpenParen) (d e : Declared) (end : End) (rest : List Label)
    → settled end d (label n ∷ label opening ∷ rest) ≡ Ok e → IsOpened n d
opens_only {p = p} k n opening d e end rest h =
    let r = settled_row end d e (label n) (label opening ∷ rest) h in
    let f = name_only k n d r in
    let m = stands_for (names_at p d) (text_of n) in
    record {
      name = f;
      symbol = opens_by k m opening d e end rest f.allowed
          (sym (settled_step end d (label n) (label opening ∷ rest) r ∙ ap (λ z. calm (judge end z (label opening ∷ rest))) (name_adds k (text_of n) d)) ∙ h);
    }

-- ---- marks

count_comma : (a b x y : Bool) → a ≡ false → y ≡ false → ((a && b) || (x && y)) ≡ false
count_comma a b true y e f = or_from _ _ (ap (λ z. z && b) e) f
count_comma a b false y e f = or_from _ _ (ap (λ z. z && b) e) refl

comma_row : (d : Declared) (mark : Token terminal.Comma) → wrong_count d.applications mark.lexeme ≡ false → row (Some terminal.Comma) (forgets d) mark.lexeme ≡ None
unfolding passed misnamed
comma_row d mark h =
    plain_row terminal.Comma d mark.lexeme (mark_plain mark.lexeme _ mark.matched (apart terminal.Comma terminal.Approximation mark.lexeme refl mark.matched)) h refl

-- a comma before the last argument
pub comma_fine : (p : Role) (f n : ℕ) (args : List Shape) (d : Declared) (mark : Token terminal.Comma) → length args < n
    → (end : End) (rest : List Label) → NotOpening rest → settled end (inside p f n args d) (label mark ∷ rest) ≡ settled end (inside p f n args d) rest
unfolding adds
comma_fine p f n args d mark h end rest clear =
    let x = mark.lexeme in
    settled_on end (inside p f n args d) (label mark) rest
    (comma_row (inside p f n args d) mark
    (count_comma (matches terminal.CloseParen x) _ (matches terminal.Comma x) _ (apart terminal.Comma terminal.CloseParen x refl mark.matched) (lt-leb n (length args) h)))
    tt clear

pub comma_only : (p : Role) (f n : ℕ) (args : List Shape) (d e : Declared) (mark : Token terminal.Comma) (end : End) (rest : List Label)
    → settled end (inside p f n args d) (label mark ∷ rest) ≡ Ok e → length args < n
comma_only p f n args d e mark end rest h =
    let x = mark.lexeme in
    let a = no_row_at terminal.Comma (inside p f n args d) x (settled_row end (inside p f n args d) e (label mark) rest h) in
    let b = or_parts (matches terminal.CloseParen x && nat_lt (length args) n) (matches terminal.Comma x && nat_le n (length args)) a.count in
    leb-false n (length args) (sym (ap (λ z. z && nat_le n (length args)) mark.matched) ∙ b.1)

-- the parenthesis that closes an application
close_row : (d : Declared) (closing : Token terminal.CloseParen) → wrong_count d.applications closing.lexeme ≡ false → row (Some terminal.CloseParen) (forgets d) closing.lexeme ≡ None
unfolding passed misnamed
close_row d closing h =
    plain_row terminal.CloseParen d closing.lexeme (mark_plain closing.lexeme _ closing.matched (apart terminal.CloseParen terminal.Approximation closing.lexeme refl closing.matched)) h refl

count_close : (a b x y : Bool) → b ≡ false → x ≡ false → ((a && b) || (x && y)) ≡ false
count_close true b x y e f = or_from _ _ e (ap (λ z. z && y) f)
count_close false b x y e f = ap (λ z. z && y) f

quiet_placed : (p : Role) (s : Shape) (d : Declared) → IsQuiet (placed p s (forgets d)).last
quiet_placed p s d = subst IsQuiet (sym (ap (λ (z : Declared). z.last) (placed_after p s d any))) tt

pub close_fine : (p : Role) (f n : ℕ) (args : List Shape) (d : Declared) (closing : Token terminal.CloseParen) → n ≤ length args
    → (end : End) (rest : List Label) → NotOpening rest → settled end (inside p f n args d) (label closing ∷ rest) ≡ settled end (placed p (shape.App f args) d) rest
unfolding adds
close_fine p f n args d closing h end rest clear =
    let x = closing.lexeme in
    settled_on end (inside p f n args d) (label closing) rest
    (close_row (inside p f n args d) closing
    (count_close (matches terminal.CloseParen x) _ (matches terminal.Comma x) _ (le-ltb (length args) n h) (apart terminal.CloseParen terminal.Comma x refl closing.matched)))
    (quiet_placed p (shape.App f args) d) clear
    ∙ ap (λ z. settled end z rest) (placed_after p (shape.App f args) d any)

pub close_only : (p : Role) (f n : ℕ) (args : List Shape) (d e : Declared) (closing : Token terminal.CloseParen) (end : End) (rest : List Label)
    → settled end (inside p f n args d) (label closing ∷ rest) ≡ Ok e → n ≤ length args
close_only p f n args d e closing end rest h =
    let x = closing.lexeme in
    let a = no_row_at terminal.CloseParen (inside p f n args d) x (settled_row end (inside p f n args d) e (label closing) rest h) in
    let b = or_parts (matches terminal.CloseParen x && nat_lt (length args) n) (matches terminal.Comma x && nat_le n (length args)) a.count in
    ltb-false (length args) n (sym (ap (λ z. z && nat_lt (length args) n) closing.matched) ∙ b.0)
