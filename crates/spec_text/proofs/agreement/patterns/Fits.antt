-- What fits in a pattern, and the rows at its names.
use Rattle.std.proofs.Common.{◌≡◌, ℕ, ◌+◌, Bool, true, false, not, ◌&&◌, ◌||◌, List, length, refl, ap, sym, ◌∙◌, subst}
use Rattle.std.specs.Prelude.{nat_lt, nat_le, Some, None, option_map}
use Rattle.std.proofs.lemmas.Bool.{and_parts, and_right, not-true}
use Rattle.timbuk_lex.specs.declared.lexeme.Lexeme.{Lexeme}
use Rattle.timbuk_grammar.specs.declared.terminal.Role.{Role}
use Rattle.timbuk_grammar.specs.declared.terminal.Role.TheVariants as role
use Rattle.timbuk_grammar.specs.declared.terminal.Terminal.TheVariants as terminal
use Rattle.timbuk_grammar.specs.Trees.{Token}
use Rattle.spec_text.specs.declared.fault.SpecKind.TheVariants as kind
use Rattle.spec_text.specs.declared.fault.LimitName.TheVariants as limit
use Rattle.spec_text.specs.Source.{text_of}
use Rattle.spec_text.specs.Naming.{stands_for}
use Rattle.spec_text.specs.Declarations.{Text, Declared, Meaning, unknown, a_variable, a_state, a_symbol, meaning, has}
use Rattle.spec_text.specs.Rows.{row, when, at_terminal, long_name, too_deep, one_too_many, over, is_first, passed, is_use, is_unknown, is_double, variable_left, stands_twice, is_free, misnamed}
use Rattle.spec_text.proofs.agreement.tokens.Last.{forgets}
use Rattle.spec_text.proofs.agreement.patterns.Names.{name_counts, IsPattern, in_equation_left, in_equation_right, in_left, in_right, in_whole, meaning_is, name_plain, names_at, no_row_at, no_row_yet, no_rows, none_mapped, not_when, plain_row, when_not}

-- ---- what fits in a pattern

-- the variable stands in a left side before
abbrev pub is_twice : Role → List ℕ → ℕ → Bool
is_twice role.LeftSide bound v = has bound v
is_twice _ bound v = false

-- the variable stands in a right side, and not in the left one
abbrev pub is_unbound : Role → List ℕ → ℕ → Bool
is_unbound role.RightSide bound v = not (has bound v)
is_unbound _ bound v = false

-- the variable would be the 17th
abbrev pub is_crowded : List ℕ → List ℕ → ℕ → Bool
is_crowded bound own v = not (has bound v || has own v) && nat_le 16 (length bound + length own)

-- the variable may stand after these
abbrev pub takes : Role → List ℕ → List ℕ → ℕ → Bool
takes p bound own v = not (is_crowded bound own v) && (not (is_twice p bound v) && not (is_unbound p bound v))

-- what a name means may stand in a pattern
abbrev pub fits : Role → Meaning → Declared → Bool
fits p unknown d = false
fits p (a_variable v) d = takes p d.bound d.own v
fits p (a_state q) d = true
fits p (a_symbol f n) d = not (nat_lt 0 n && nat_le 100 (length d.applications))

abbrev pub is_variable : Meaning → Bool
is_variable (a_variable v) = true
is_variable _ = false

-- and it may begin the pattern
abbrev pub starts : Role → Meaning → Declared → Bool
starts role.LeftSide m d = not (is_first d && nat_le 4096 (length d.rules)) && not (is_variable m && is_first d)
starts role.EquationLeft m d = not (is_first d && nat_le 1024 (length d.equations))
starts _ m d = true

-- the word isn't too long for a name
abbrev pub short : Text → Bool
short text = not (nat_lt 255 (length text))

-- no row fits a name with this meaning
pub record NameRows (p : Role) (m : Meaning) (text : Text) (d : Declared) : Type 0 where
  pub long : nat_lt 255 (length text) ≡ false
  pub deep : too_deep m d ≡ None
  pub many : one_too_many m d ≡ None
  pub within : over (terminal.Named p) text d ≡ None
  pub known : (is_use (terminal.Named p) && is_unknown m) ≡ false
  pub inner : variable_left (terminal.Named p) m d ≡ false
  pub once : stands_twice (terminal.Named p) m d ≡ false
  pub bound : is_free (terminal.Named p) m d ≡ false

name_rows : (p : Role) (x : Lexeme) (d : Declared) → at_terminal (Some (terminal.Named p)) x d ≡ None → NameRows p (meaning d p x.text) x.text d
unfolding passed misnamed
name_rows p x d e =
    let a = no_rows (option_map kind.Limit (passed (terminal.Named p) x.text d)) _ e in
    let l = none_mapped kind.Limit (passed (terminal.Named p) x.text d) a.0 in
    let b = no_rows (long_name (terminal.Named p) x.text) _ l in
    let c = no_rows (too_deep (meaning d p x.text) d) _ b.1 in
    let f = no_rows (one_too_many (meaning d p x.text) d) _ c.1 in
    let g = no_rows (when (is_use (terminal.Named p) && is_unknown (meaning d p x.text)) kind.UnknownName) _ a.1 in
    let h = no_rows (when (is_double (terminal.Named p) x.text d) kind.DoubleName) _ g.1 in
    let i = no_rows (when (variable_left (terminal.Named p) (meaning d p x.text) d) kind.VariableLeft) _ h.1 in
    let j = no_rows (when (stands_twice (terminal.Named p) (meaning d p x.text) d) kind.NotLeftLinear) _ i.1 in
    record {
      long = not_when _ _ b.0;
      deep = c.0;
      many = f.0;
      within = f.1;
      known = not_when _ _ g.0;
      inner = not_when _ _ i.0;
      once = not_when _ _ j.0;
      bound = not_when _ _ j.1;
    }

no_double : {p : Role} → IsPattern p → (text : Text) (d : Declared) → is_double (terminal.Named p) text d ≡ false
no_double in_left text d = refl
no_double in_right text d = refl
no_double in_equation_left text d = refl
no_double in_equation_right text d = refl
no_double in_whole text d = refl

from_rows : {p : Role} → IsPattern p → (x : Lexeme) (d : Declared) → NameRows p (meaning d p x.text) x.text d → at_terminal (Some (terminal.Named p)) x d ≡ None
unfolding passed misnamed
from_rows k x d r =
    no_row_yet _ _
    (ap (option_map kind.Limit) (no_row_yet _ _ (when_not _ limit.NameBytes r.long) (no_row_yet _ _ r.deep (no_row_yet _ _ r.many r.within))))
    (no_row_yet _ _ (when_not _ kind.UnknownName r.known)
    (no_row_yet _ _ (when_not _ kind.DoubleName (no_double k x.text d))
    (no_row_yet _ _ (when_not _ kind.VariableLeft r.inner)
    (no_row_yet _ _ (when_not _ kind.NotLeftLinear r.once)
    (when_not _ kind.FreeVariable r.bound)))))

-- ---- the rows, and what fits

takes_from : {p : Role} → IsPattern p → (v : ℕ) (text : Text) (d : Declared) → NameRows p (a_variable v) text d → takes p d.bound d.own v ≡ true
takes_from in_left v text d r = (λ i. not (not_when _ limit.Variables r.many i) && (not (r.once i) && true))
takes_from in_right v text d r = (λ i. not (not_when _ limit.Variables r.many i) && (true && not (r.bound i)))
takes_from in_equation_left v text d r = (λ i. not (not_when _ limit.Variables r.many i) && (true && true))
takes_from in_equation_right v text d r = (λ i. not (not_when _ limit.Variables r.many i) && (true && true))
takes_from in_whole v text d r = (λ i. not (not_when _ limit.Variables r.many i) && (true && true))

is_used : {p : Role} → IsPattern p → is_use (terminal.Named p) ≡ true
is_used in_left = refl
is_used in_right = refl
is_used in_equation_left = refl
is_used in_equation_right = refl
is_used in_whole = refl

fits_from : {p : Role} → IsPattern p → (m : Meaning) (text : Text) (d : Declared) → NameRows p m text d → fits p m d ≡ true
fits_from k unknown text d r = let h = is_used k in let e = r.known in cc
fits_from k (a_variable v) text d r = takes_from k v text d r
fits_from k (a_state q) text d r = refl
fits_from k (a_symbol f n) text d r = ap not (not_when _ limit.Nesting r.deep)

starts_from : {p : Role} → IsPattern p → (m : Meaning) (text : Text) (d : Declared) → NameRows p m text d → starts p m d ≡ true
starts_from in_left (a_variable v) text d r = (λ i. not (not_when _ limit.Rules r.within i) && not (r.inner i))
starts_from in_left unknown text d r = (λ i. not (not_when _ limit.Rules r.within i) && true)
starts_from in_left (a_state q) text d r = (λ i. not (not_when _ limit.Rules r.within i) && true)
starts_from in_left (a_symbol f n) text d r = (λ i. not (not_when _ limit.Rules r.within i) && true)
starts_from in_right m text d r = refl
starts_from in_equation_left m text d r = ap not (not_when _ limit.Equations r.within)
starts_from in_equation_right m text d r = refl
starts_from in_whole m text d r = refl

over_from : {p : Role} → IsPattern p → (m : Meaning) (text : Text) (d : Declared) → starts p m d ≡ true → over (terminal.Named p) text d ≡ None
over_from in_left m text d e = when_not _ limit.Rules (not-true _ (and_parts _ _ e).0)
over_from in_right m text d e = refl
over_from in_equation_left m text d e = when_not _ limit.Equations (not-true _ e)
over_from in_equation_right m text d e = refl
over_from in_whole m text d e = refl

inner_from : {p : Role} → IsPattern p → (m : Meaning) (d : Declared) → starts p m d ≡ true → variable_left (terminal.Named p) m d ≡ false
inner_from in_left (a_variable v) d e = not-true _ (and_parts _ _ e).1
inner_from in_left unknown d e = refl
inner_from in_left (a_state q) d e = refl
inner_from in_left (a_symbol f n) d e = refl
inner_from in_right m d e = refl
inner_from in_equation_left m d e = refl
inner_from in_equation_right m d e = refl
inner_from in_whole m d e = refl

once_from : {p : Role} → IsPattern p → (m : Meaning) (d : Declared) → fits p m d ≡ true → stands_twice (terminal.Named p) m d ≡ false
once_from in_left (a_variable v) d e = not-true _ (and_parts _ _ (and_parts _ _ e).1).0
once_from in_left unknown d e = refl
once_from in_left (a_state q) d e = refl
once_from in_left (a_symbol f n) d e = refl
once_from in_right m d e = refl
once_from in_equation_left m d e = refl
once_from in_equation_right m d e = refl
once_from in_whole m d e = refl

bound_from : {p : Role} → IsPattern p → (m : Meaning) (d : Declared) → fits p m d ≡ true → is_free (terminal.Named p) m d ≡ false
bound_from in_right (a_variable v) d e = not-true _ (and_parts true _ (and_parts (not (is_crowded d.bound d.own v)) _ e).1).1
bound_from in_right unknown d e = refl
bound_from in_right (a_state q) d e = refl
bound_from in_right (a_symbol f n) d e = refl
bound_from in_left m d e = refl
bound_from in_equation_left m d e = refl
bound_from in_equation_right m d e = refl
bound_from in_whole m d e = refl

deep_from : (p : Role) (m : Meaning) (d : Declared) → fits p m d ≡ true → too_deep m d ≡ None
deep_from p (a_symbol f n) d e = when_not _ limit.Nesting (not-true _ e)
deep_from p _ d e = refl

many_from : (p : Role) (m : Meaning) (d : Declared) → fits p m d ≡ true → one_too_many m d ≡ None
many_from p (a_variable v) d e = when_not _ limit.Variables (not-true _ (and_parts _ _ e).0)
many_from p _ d e = refl

known_from : (p : Role) (m : Meaning) (d : Declared) (used : Bool) → fits p m d ≡ true → (used && is_unknown m) ≡ false
known_from p unknown d used e = cc
known_from p (a_variable v) d used e = and_right used false refl
known_from p (a_state q) d used e = and_right used false refl
known_from p (a_symbol f n) d used e = and_right used false refl

rows_from : {p : Role} → IsPattern p → (m : Meaning) (text : Text) (d : Declared) → short text ≡ true → fits p m d ≡ true → starts p m d ≡ true → NameRows p m text d
rows_from {p = p} k m text d s e f = record {
  long = not-true _ s;
  deep = deep_from p m d e;
  many = many_from p m d e;
  within = over_from k m text d f;
  known = known_from p m d _ e;
  inner = inner_from k m d f;
  once = once_from k m d e;
  bound = bound_from k m d e;
}

-- whatever the last token was
fits_last : (p : Role) (m : Meaning) (d : Declared) → fits p m (forgets d) ≡ fits p m d
fits_last p unknown d = refl
fits_last p (a_variable v) d = refl
fits_last p (a_state q) d = refl
fits_last p (a_symbol f n) d = refl

starts_last : {p : Role} → IsPattern p → (m : Meaning) (d : Declared) → starts p m (forgets d) ≡ starts p m d
starts_last in_left m d = refl
starts_last in_right m d = refl
starts_last in_equation_left m d = refl
starts_last in_equation_right m d = refl
starts_last in_whole m d = refl

-- a name that stands well in a pattern
pub record NameFits (p : Role) (text : Text) (d : Declared) : Type 0 where
  pub is_short : short text ≡ true
  pub allowed : fits p (stands_for (names_at p d) text) d ≡ true
  pub start : starts p (stands_for (names_at p d) text) d ≡ true

-- no row fits such a name
pub name_fine : {p : Role} → IsPattern p → (n : Token (terminal.Named p)) (d : Declared) → NameFits p (text_of n) d → row (Some (terminal.Named p)) (forgets d) n.lexeme ≡ None
name_fine {p = p} k n d h =
    plain_row (terminal.Named p) d n.lexeme (name_plain n) (name_counts d.applications n)
    (from_rows k n.lexeme (forgets d) (subst (λ m. NameRows p m (text_of n) (forgets d)) (sym (meaning_is k (forgets d) (text_of n)))
    (rows_from k (stands_for (names_at p d) (text_of n)) (text_of n) (forgets d) h.is_short (fits_last p (stands_for (names_at p d) (text_of n)) d ∙ h.allowed) (starts_last k (stands_for (names_at p d) (text_of n)) d ∙ h.start))))

-- and a row fits any other
pub name_only : {p : Role} → IsPattern p → (n : Token (terminal.Named p)) (d : Declared) → row (Some (terminal.Named p)) (forgets d) n.lexeme ≡ None → NameFits p (text_of n) d
name_only {p = p} k n d e =
    let a = no_row_at (terminal.Named p) d n.lexeme e in
    let r = subst (λ m. NameRows p m (text_of n) (forgets d)) (meaning_is k (forgets d) (text_of n)) (name_rows p n.lexeme (forgets d) a.at) in
    record {
      is_short = ap not r.long;
      allowed = sym (fits_last p (stands_for (names_at p d) (text_of n)) d) ∙ fits_from k _ _ _ r;
      start = sym (starts_last k (stands_for (names_at p d) (text_of n)) d) ∙ starts_from k _ _ _ r;
    }
