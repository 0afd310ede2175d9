-- The rows of names that are declared.
use Rattle.std.proofs.Common.{◌≡◌, ℕ, ◌<◌, ◌≤◌, length, arith, Bool, true, false, ◌||◌, List, ◌++◌, Option, Some, None, refl, sym, ◌∙◌}
use Rattle.std.specs.Prelude.{option_map, nat_lt, nat_le, is_some, position}
use Rattle.std.specs.Str.{bytes_eq}
use Rattle.std.proofs.lemmas.Bool.Decides.{nat_tests}
use Rattle.std.proofs.lemmas.List.Folds.{list_any-append}
use Rattle.timbuk_grammar.specs.declared.terminal.Role.{Role}
use Rattle.timbuk_grammar.specs.declared.terminal.Role.TheVariants as role
use Rattle.timbuk_grammar.specs.declared.terminal.Terminal.TheVariants as terminal
use Rattle.spec_text.specs.declared.fault.SpecKind.TheVariants as kind
use Rattle.spec_text.specs.declared.fault.LimitName.{LimitName}
use Rattle.spec_text.specs.declared.fault.LimitName.TheVariants as limit
use Rattle.spec_text.specs.Declarations.{Text, Declared, meaning, value_of}
use Rattle.spec_text.specs.Rows.{or, when, passed, misnamed, over, is_double, is_in}
use Rattle.timbuk_reader.proofs.parsing.Tokens.{use_row}
use Rattle.spec_text.specs.lemmas.Variables.{is_some_position}

-- the places in which names are declared
abbrev pub Declares : Role → Type 0
Declares role.Symbol = Unit {0}
Declares role.Variable = Unit {0}
Declares role.Title = Unit {0}
Declares role.State = Unit {0}
Declares role.ApproximationState = Unit {0}
Declares _ = ⊥

-- the rows of a declared name
declared_row : (p : Role) (text : Text) (d : Declared) → Declares p
    → use_row (terminal.Named p) text d ≡ or (option_map kind.Limit (or (when (nat_lt 255 (length text)) limit.NameBytes) (over (terminal.Named p) text d))) (or (when (is_double (terminal.Named p) text d) kind.DoubleName) None)
unfolding passed misnamed meaning
declared_row role.Symbol text d h = refl
declared_row role.Variable text d h = refl
declared_row role.Title text d h = refl
declared_row role.State text d h = refl
declared_row role.ApproximationState text d h = refl
declared_row _ text d h = absurd h

short_text : (text : Text) → length text ≤ 255 → nat_lt 255 (length text) ≡ false
short_text text h = grind (arith, nat_tests)

-- a name beyond a limit
pub declared_over : (p : Role) (text : Text) (d : Declared) (l : LimitName) → Declares p → length text ≤ 255 → over (terminal.Named p) text d ≡ Some l → use_row (terminal.Named p) text d ≡ Some (kind.Limit l)
declared_over p text d l h short e = declared_row p text d h ∙ rw (short_text text short, e) refl

-- a name that is declared twice
pub declared_double : (p : Role) (text : Text) (d : Declared) → Declares p → length text ≤ 255 → over (terminal.Named p) text d ≡ None → is_double (terminal.Named p) text d ≡ true → use_row (terminal.Named p) text d ≡ Some kind.DoubleName
declared_double p text d h short e f = declared_row p text d h ∙ rw (short_text text short, e, f) refl

-- a new name
pub declared_new : (p : Role) (text : Text) (d : Declared) → Declares p → length text ≤ 255 → over (terminal.Named p) text d ≡ None → is_double (terminal.Named p) text d ≡ false → use_row (terminal.Named p) text d ≡ None
declared_new p text d h short e f = declared_row p text d h ∙ rw (short_text text short, e, f) refl

-- ---- limits and names that are there

pub reached : (most count : ℕ) (l : LimitName) → most ≤ count → when (nat_le most count) l ≡ Some l
reached most count l h = let e : nat_le most count ≡ true = grind (arith, nat_tests) in rw e refl

pub below : (most count : ℕ) (l : LimitName) → count < most → when (nat_le most count) l ≡ None
below most count l h = let e : nat_le most count ≡ false = grind (arith, nat_tests) in rw e refl

-- the test for a name, and its place
pub is_in-position : (names : List Text) (text : Text) → is_in names text ≡ is_some (position (bytes_eq text) names)
is_in-position names text = sym (is_some_position (bytes_eq text) names)

-- the same of two lists
pub is_in-append : (xs ys : List Text) (text : Text) → is_in (xs ++ ys) text ≡ (is_in xs text || is_in ys text)
is_in-append xs ys text = list_any-append (λ name. bytes_eq text name) xs ys

no_place : (o : Option ℕ) → is_some o ≡ false → o ≡ None
no_place None e = refl
no_place (Some n) e = cc

or_neither : (a b : Bool) → (a || b) ≡ false → (a ≡ false) × (b ≡ false)
or_neither true b e = cc
or_neither false b e = (refl, e)

-- a name that is not there has no place
pub no_position : (names : List Text) (text : Text) → is_in names text ≡ false → position (bytes_eq text) names ≡ None
no_position names text e = no_place (position (bytes_eq text) names) (sym (is_in-position names text) ∙ e)

-- a name that is in neither list
pub is_in-neither : (xs ys : List Text) (text : Text) → is_in (xs ++ ys) text ≡ false → (is_in xs text ≡ false) × (is_in ys text ≡ false)
is_in-neither xs ys text e = or_neither (is_in xs text) (is_in ys text) (sym (is_in-append xs ys text) ∙ e)

-- ---- arities

pub large_number : (text : Text) (d : Declared) → length text ≤ 255 → 16 < value_of text → use_row terminal.Number text d ≡ Some (kind.Limit limit.Arity)
unfolding passed
large_number text d short h = let e : nat_lt 16 (value_of text) ≡ true = grind (arith, nat_tests) in rw (short_text text short, e) refl

pub small_number : (text : Text) (d : Declared) → length text ≤ 255 → value_of text ≤ 16 → use_row terminal.Number text d ≡ None
unfolding passed misnamed
small_number text d short h = let e : nat_lt 16 (value_of text) ≡ false = grind (arith, nat_tests) in rw (short_text text short, e) refl
