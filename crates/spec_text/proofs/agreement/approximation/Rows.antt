-- The rows of the table at the tokens of an approximation.
use Rattle.std.proofs.Common.{◌≡◌, ℕ, ◌<◌, ◌≤◌, Bool, true, false, not, ◌&&◌, nat_lt, nat_le, List, [], ◌∷◌, ◌++◌, length, position, fold, Option, Some, None, All, Contains, unwrap_or, refl, sym, ap, subst, ◌∙◌}
use Rattle.std.specs.Str.{bytes_eq}
use Rattle.std.proofs.lemmas.Bool.{or_from, or_parts, and_left, and_right, ltb-false, leb-false, le-ltb, lt-leb}
use Rattle.std.proofs.lemmas.List.Elements.{All-contains}
use Rattle.std.proofs.lemmas.Option.{same_Some}
use Rattle.ranked_terms.specs.Names.{names_of, number_of, arity_of}
use Rattle.ranked_terms.specs.Terms.{with_variable as with_first}
use Rattle.ranked_terms.specs.declared.term.Shape.{Shape}
use Rattle.ranked_terms.specs.declared.term.Shape.TheVariants as shape
use Rattle.ta_core.specs.SpecRules.{shape_occurrences}
use Rattle.timbuk_lex.specs.declared.lexeme.Lexeme.{Lexeme}
use Rattle.timbuk_grammar.specs.declared.terminal.Role.{Role}
use Rattle.timbuk_grammar.specs.declared.terminal.Role.TheVariants as role
use Rattle.timbuk_grammar.specs.declared.terminal.Terminal.{Terminal}
use Rattle.timbuk_grammar.specs.declared.terminal.Terminal.TheVariants as terminal
use Rattle.timbuk_grammar.specs.Matching.{matches}
use Rattle.timbuk_grammar.specs.lemmas.Differ.{apart}
use Rattle.spec_text.specs.declared.fault.LimitName.{LimitName}
use Rattle.spec_text.specs.declared.fault.LimitName.TheVariants as limit
use Rattle.spec_text.specs.Declarations.{Text, Declared, Application, Last, constant, function, Meaning, unknown, a_symbol, no_head, or_else, as_symbol, as_variable, as_state, meaning}
use Rattle.spec_text.specs.Naming.{IsShort, Names, leaf_shape}
use Rattle.spec_text.specs.Rows.{row, or, when, wrong_arity, wrong_after, wrong_count, unexpected_after, expected, too_deep, one_too_many, passed, misnamed, is_unknown}
use Rattle.spec_text.proofs.agreement.tokens.Last.{IsQuiet, quiet_after}
use Rattle.spec_text.proofs.agreement.tokens.Runs.{or-none, or_parts_none, when-false, when_none, row-none, row_parts}
use Rattle.spec_text.proofs.agreement.names.Rows.{is_plain, opens, is_expected, passed_plain, misnamed_plain, is_name}
use Rattle.spec_text.proofs.agreement.names.Texts.{position_found, Contains-position}
use Rattle.spec_text.proofs.agreement.rules.Sides as sides
use Rattle.spec_text.proofs.agreement.approximation.Variables.{IsFew, too_many, room, few_with}
use Rattle.spec_text.specs.lemmas.Shapes.{occurs_var, occurs_state}
use Rattle.spec_text.proofs.agreement.patterns.Names.{counts_not}

-- ---- states

-- the state in a declaration: what is whole of it, its variables, what is applied, and the last token
abbrev pub amid : Declared → List Shape → List ℕ → List ℕ → List Application → Last → Declared
amid d shapes bound own applications l = record d { name = []; applications = applications; shapes = shapes; bound = bound; own = own; head = no_head; head_args = []; last = l }

-- the names that an approximation uses
abbrev pub names_at : Declared → Names
names_at d = record { symbols = d.symbols; variables = d.variables; states = d.initial.states }

-- names that are declared have at most 255 bytes
abbrev pub AreShort : Declared → Type 0
AreShort d = sides.AreShort (names_at d)

-- ---- the arity, and what may follow

-- a token that is no parenthesis and no comma
pub arity_right : (d : Declared) (x : Lexeme) → IsQuiet d.last → matches terminal.OpenParen x ≡ false → matches terminal.CloseParen x ≡ false → matches terminal.Comma x ≡ false → wrong_arity d x ≡ false
unfolding wrong_arity
arity_right d x q a b c = or_from _ _ (quiet_after d.last x q a) (counts_not d.applications x b c)

-- ---- words and marks

-- a word or a mark that is no parenthesis and no comma, and has no limit
abbrev pub is_simple : Terminal → Bool
is_simple terminal.States = true
is_simple terminal.Rules = true
is_simple terminal.Colon = true
is_simple terminal.Zero = true
is_simple terminal.Arrow = true
is_simple terminal.OpenBracket = true
is_simple terminal.CloseBracket = true
is_simple terminal.CloseEntries = true
is_simple _ = false

simple_apart : (t : Terminal) (x : Lexeme) → is_simple t ≡ true → matches t x ≡ true → (matches terminal.OpenParen x ≡ false) × (matches terminal.CloseParen x ≡ false) × (matches terminal.Comma x ≡ false)
simple_apart terminal.States x s e = (apart terminal.States terminal.OpenParen x refl e, apart terminal.States terminal.CloseParen x refl e, apart terminal.States terminal.Comma x refl e)
simple_apart terminal.Rules x s e = (apart terminal.Rules terminal.OpenParen x refl e, apart terminal.Rules terminal.CloseParen x refl e, apart terminal.Rules terminal.Comma x refl e)
simple_apart terminal.Colon x s e = (apart terminal.Colon terminal.OpenParen x refl e, apart terminal.Colon terminal.CloseParen x refl e, apart terminal.Colon terminal.Comma x refl e)
simple_apart terminal.Zero x s e = (apart terminal.Zero terminal.OpenParen x refl e, apart terminal.Zero terminal.CloseParen x refl e, apart terminal.Zero terminal.Comma x refl e)
simple_apart terminal.Arrow x s e = (apart terminal.Arrow terminal.OpenParen x refl e, apart terminal.Arrow terminal.CloseParen x refl e, apart terminal.Arrow terminal.Comma x refl e)
simple_apart terminal.OpenBracket x s e = (apart terminal.OpenBracket terminal.OpenParen x refl e, apart terminal.OpenBracket terminal.CloseParen x refl e, apart terminal.OpenBracket terminal.Comma x refl e)
simple_apart terminal.CloseBracket x s e = (apart terminal.CloseBracket terminal.OpenParen x refl e, apart terminal.CloseBracket terminal.CloseParen x refl e, apart terminal.CloseBracket terminal.Comma x refl e)
simple_apart terminal.CloseEntries x s e = (apart terminal.CloseEntries terminal.OpenParen x refl e, apart terminal.CloseEntries terminal.CloseParen x refl e, apart terminal.CloseEntries terminal.Comma x refl e)
simple_apart _ x s e = cc

simple_kind : (t : Terminal) → is_simple t ≡ true → (is_plain t ≡ true) × (opens t ≡ false) × (is_name t ≡ false)
simple_kind terminal.States s = (refl, refl, refl)
simple_kind terminal.Rules s = (refl, refl, refl)
simple_kind terminal.Colon s = (refl, refl, refl)
simple_kind terminal.Zero s = (refl, refl, refl)
simple_kind terminal.Arrow s = (refl, refl, refl)
simple_kind terminal.OpenBracket s = (refl, refl, refl)
simple_kind terminal.CloseBracket s = (refl, refl, refl)
simple_kind terminal.CloseEntries s = (refl, refl, refl)
simple_kind _ s = cc

simple_expected : (t : Terminal) (d : Declared) (x : Lexeme) → is_simple t ≡ true → matches t x ≡ true → expected (Some t) d x ≡ false
simple_expected terminal.States d x s e = is_expected terminal.States d x refl refl e
simple_expected terminal.Rules d x s e = is_expected terminal.Rules d x refl refl e
simple_expected terminal.Colon d x s e = is_expected terminal.Colon d x refl refl e
simple_expected terminal.Zero d x s e = is_expected terminal.Zero d x refl refl e
simple_expected terminal.Arrow d x s e = is_expected terminal.Arrow d x refl refl e
simple_expected terminal.OpenBracket d x s e = is_expected terminal.OpenBracket d x refl refl e
simple_expected terminal.CloseBracket d x s e = is_expected terminal.CloseBracket d x refl refl e
simple_expected terminal.CloseEntries d x s e = is_expected terminal.CloseEntries d x refl refl e
simple_expected _ d x s e = cc

pub simple_row : (t : Terminal) (d : Declared) (x : Lexeme) → IsQuiet d.last → is_simple t ≡ true → matches t x ≡ true → row (Some t) d x ≡ None
simple_row t d x q s e =
    let a = simple_apart t x s e in
    let k = simple_kind t s in
    row-none t d x e (arity_right d x q a.0 a.1 a.2) (simple_expected t d x s e) (passed_plain t x.text d k.0) (misnamed_plain t x.text d k.2)

-- after a symbol of an arity above 0 no such token may stand
pub no_simple_row : (t : Terminal) (d : Declared) (x : Lexeme) → d.last ≡ function → is_simple t ≡ true → matches t x ≡ true → row (Some t) d x ≡ None → ⊥
unfolding wrong_arity
no_simple_row t d x l s e h =
    let a : wrong_after d.last x ≡ false = (or_parts _ _ (row_parts t d x h).arity).0 in
    let b : not (matches terminal.OpenParen x) ≡ false = ap (λ l. wrong_after l x) (sym l) ∙ a in
    let c : not false ≡ false = ap not (sym (simple_apart t x s e).0) ∙ b in
    cc

-- ---- parentheses and commas

pub open_row : (d : Declared) (x : Lexeme) → d.last ≡ function → matches terminal.OpenParen x ≡ true → row (Some terminal.OpenParen) d x ≡ None
unfolding wrong_arity expected
open_row d x l e =
    row-none terminal.OpenParen d x e
    (or_from _ _ (ap (λ l. wrong_after l x) l ∙ ap not e) (counts_not d.applications x (apart terminal.OpenParen terminal.CloseParen x refl e) (apart terminal.OpenParen terminal.Comma x refl e)))
    (or_from _ _ (ap (λ l. unexpected_after l x) l) (and_left _ _ (apart terminal.OpenParen terminal.Approximation x refl e)))
    (passed_plain terminal.OpenParen x.text d refl)
    (misnamed_plain terminal.OpenParen x.text d refl)

-- after a symbol of arity 0 no parenthesis may open
pub no_open_row : (d : Declared) (x : Lexeme) → d.last ≡ constant → matches terminal.OpenParen x ≡ true → row (Some terminal.OpenParen) d x ≡ None → ⊥
unfolding wrong_arity
no_open_row d x l e h =
    let a : wrong_after d.last x ≡ false = (or_parts _ _ (row_parts terminal.OpenParen d x h).arity).0 in
    let b : matches terminal.OpenParen x ≡ false = ap (λ l. wrong_after l x) (sym l) ∙ a in
    let c : true ≡ false = sym e ∙ b in
    cc

-- in an application a comma may stand before the last argument, and the closing parenthesis behind it
module _ (d : Declared) (x : Lexeme) (a : Application) (outer : List Application) (innermost : d.applications ≡ a ∷ outer) (quiet : IsQuiet d.last) where
  counted : wrong_count (a ∷ outer) x ≡ false → matches terminal.OpenParen x ≡ false → wrong_arity d x ≡ false
  unfolding wrong_arity
  counted e f = or_from _ _ (quiet_after d.last x quiet f) (ap (λ z. wrong_count z x) innermost ∙ e)

  counts : wrong_arity d x ≡ false → wrong_count (a ∷ outer) x ≡ false
  unfolding wrong_arity
  counts e = ap (λ z. wrong_count z x) (sym innermost) ∙ (or_parts _ _ e).1

  pub comma_row : matches terminal.Comma x ≡ true → length a.args < a.arity → row (Some terminal.Comma) d x ≡ None
  comma_row e lt =
      row-none terminal.Comma d x e
      (counted (or_from _ _ (and_left _ _ (apart terminal.Comma terminal.CloseParen x refl e)) (and_right _ _ (lt-leb _ _ lt))) (apart terminal.Comma terminal.OpenParen x refl e))
      (is_expected terminal.Comma d x refl refl e)
      (passed_plain terminal.Comma x.text d refl)
      (misnamed_plain terminal.Comma x.text d refl)

  pub more_to_come : matches terminal.Comma x ≡ true → row (Some terminal.Comma) d x ≡ None → length a.args < a.arity
  more_to_come e h =
      let c = (or_parts _ _ (counts (row_parts terminal.Comma d x h).arity)).1 in
      leb-false a.arity (length a.args) (ap (λ b. b && nat_le a.arity (length a.args)) (sym e) ∙ c)

  pub close_row : matches terminal.CloseParen x ≡ true → a.arity ≤ length a.args → row (Some terminal.CloseParen) d x ≡ None
  close_row e le =
      row-none terminal.CloseParen d x e
      (counted (or_from _ _ (and_right _ _ (le-ltb _ _ le)) (and_left _ _ (apart terminal.CloseParen terminal.Comma x refl e))) (apart terminal.CloseParen terminal.OpenParen x refl e))
      (is_expected terminal.CloseParen d x refl refl e)
      (passed_plain terminal.CloseParen x.text d refl)
      (misnamed_plain terminal.CloseParen x.text d refl)

  pub all_there : matches terminal.CloseParen x ≡ true → row (Some terminal.CloseParen) d x ≡ None → a.arity ≤ length a.args
  all_there e h =
      let c = (or_parts _ _ (counts (row_parts terminal.CloseParen d x h).arity)).0 in
      ltb-false (length a.args) a.arity (ap (λ b. b && nat_lt (length a.args) a.arity) (sym e) ∙ c)

-- ---- names

pub name_arity : (p : Role) (d : Declared) (x : Lexeme) → IsQuiet d.last → matches (terminal.Named p) x ≡ true → wrong_arity d x ≡ false
name_arity p d x q e = arity_right d x q (apart (terminal.Named p) terminal.OpenParen x refl e) (apart (terminal.Named p) terminal.CloseParen x refl e) (apart (terminal.Named p) terminal.Comma x refl e)

short_at : (names : List Text) (text : Text) (q : ℕ) → All IsShort names → position (bytes_eq text) names ≡ Some q → IsShort text
short_at names text q h e = All-contains IsShort names text h (Contains-position names text q e)

-- ---- a variable or a state

abbrev leaf_by : Option ℕ → Option ℕ → Meaning
leaf_by v q = or_else (as_variable v) (as_state q)

-- what a name means where symbols may not stand
abbrev pub leaf_meaning : Declared → Text → Meaning
leaf_meaning d text = leaf_by (position (bytes_eq text) d.variables) (position (bytes_eq text) d.initial.states)

-- the shape that a meaning gives, with which there are few variables
pub record IsLeaf (m : Meaning) (variables : List ℕ) (s : Shape) : Type 0 where
  pub shape : leaf_shape m ≡ Some s
  pub few : IsFew (fold with_first variables (shape_occurrences s))

-- the limits of a name
abbrev leaf_limits : Meaning → Text → Declared → Option LimitName
leaf_limits m text d = or (when (nat_lt 255 (length text)) limit.NameBytes) (or (too_deep m d) (or (one_too_many m d) None))

module _ (d : Declared) (text : Text) (short : AreShort d) (few : IsFew (d.bound ++ d.own)) where
  fine_by : (v q : Option ℕ) (s : Shape) → position (bytes_eq text) d.variables ≡ v → position (bytes_eq text) d.initial.states ≡ q → IsLeaf (leaf_by v q) (d.bound ++ d.own) s → (leaf_limits (leaf_by v q) text d ≡ None) × (is_unknown (leaf_by v q) ≡ false)
  fine_by (Some v) q s e f h =
      let is : shape.Var v ≡ s = same_Some _ _ h.shape in
      let occurs : shape_occurrences s ≡ v ∷ [] = ap shape_occurrences (sym is) ∙ occurs_var v in
      let now : IsFew (with_first (d.bound ++ d.own) v) = subst (λ vs. IsFew (fold with_first (d.bound ++ d.own) vs)) occurs h.few in
      (or-none _ _ (when-false _ _ (le-ltb _ _ (short_at d.variables text v short.variables e))) (or-none _ _ (when-false _ _ (room d.bound d.own v few now)) refl), refl)
  fine_by None (Some q) s e f h = (or-none _ _ (when-false _ _ (le-ltb _ _ (short_at d.initial.states text q short.states f))) refl, refl)
  fine_by None None s e f h = let no = h.shape in cc

  only_by : (v q : Option ℕ) → leaf_limits (leaf_by v q) text d ≡ None → is_unknown (leaf_by v q) ≡ false → (s : Shape) × IsLeaf (leaf_by v q) (d.bound ++ d.own) s
  only_by (Some v) q h k =
      let free : too_many d.bound d.own v ≡ false = when_none _ _ (or_parts_none _ _ (or_parts_none _ _ h).1).0 in
      (shape.Var v, record { shape = refl; few = subst (λ vs. IsFew (fold with_first (d.bound ++ d.own) vs)) (sym (occurs_var v)) (few_with d.bound d.own v few free) })
  only_by None (Some q) h k = (shape.State q, record { shape = refl; few = subst (λ vs. IsFew (fold with_first (d.bound ++ d.own) vs)) (sym (occurs_state q)) few })
  only_by None None h k = cc

  pub leaf_fine : (s : Shape) → IsLeaf (leaf_meaning d text) (d.bound ++ d.own) s → (leaf_limits (leaf_meaning d text) text d ≡ None) × (is_unknown (leaf_meaning d text) ≡ false)
  leaf_fine s h = fine_by (position (bytes_eq text) d.variables) (position (bytes_eq text) d.initial.states) s refl refl h

  pub leaf_only : leaf_limits (leaf_meaning d text) text d ≡ None → is_unknown (leaf_meaning d text) ≡ false → (s : Shape) × IsLeaf (leaf_meaning d text) (d.bound ++ d.own) s
  leaf_only h k = only_by (position (bytes_eq text) d.variables) (position (bytes_eq text) d.initial.states) h k

module _ (d : Declared) (x : Lexeme) (short : AreShort d) (few : IsFew (d.bound ++ d.own)) (quiet : IsQuiet d.last) where
  pub at_row : matches (terminal.Named role.EntryAt) x ≡ true → (s : Shape) → IsLeaf (leaf_meaning d x.text) (d.bound ++ d.own) s → row (Some (terminal.Named role.EntryAt)) d x ≡ None
  unfolding passed misnamed meaning
  at_row e s h =
      let k = leaf_fine d x.text short few s h in
      row-none (terminal.Named role.EntryAt) d x e (name_arity role.EntryAt d x quiet e) (is_expected (terminal.Named role.EntryAt) d x refl refl e) k.0 (or-none _ _ (when-false _ _ k.1) refl)

  pub at_leaf : row (Some (terminal.Named role.EntryAt)) d x ≡ None → (s : Shape) × IsLeaf (leaf_meaning d x.text) (d.bound ++ d.own) s
  unfolding passed misnamed meaning
  at_leaf h =
      let r = row_parts (terminal.Named role.EntryAt) d x h in
      leaf_only d x.text short few r.limits (when_none _ _ (or_parts_none _ _ r.names).0)

  pub argument_row : matches (terminal.Named role.EntryArgument) x ≡ true → (s : Shape) → IsLeaf (leaf_meaning d x.text) (d.bound ++ d.own) s → row (Some (terminal.Named role.EntryArgument)) d x ≡ None
  unfolding passed misnamed meaning
  argument_row e s h =
      let k = leaf_fine d x.text short few s h in
      row-none (terminal.Named role.EntryArgument) d x e (name_arity role.EntryArgument d x quiet e) (is_expected (terminal.Named role.EntryArgument) d x refl refl e) k.0 (or-none _ _ (when-false _ _ k.1) refl)

  pub argument_leaf : row (Some (terminal.Named role.EntryArgument)) d x ≡ None → (s : Shape) × IsLeaf (leaf_meaning d x.text) (d.bound ++ d.own) s
  unfolding passed misnamed meaning
  argument_leaf h =
      let r = row_parts (terminal.Named role.EntryArgument) d x h in
      leaf_only d x.text short few r.limits (when_none _ _ (or_parts_none _ _ r.names).0)

-- ---- the symbol of an entry

-- what a name means where only symbols may stand
abbrev pub symbol_meaning : Declared → Text → Meaning
symbol_meaning d text = or_else (as_symbol d.symbols (number_of d.symbols text)) unknown

-- the symbol of one more entry
pub record IsHead (m : Meaning) (entries : ℕ) (f n : ℕ) : Type 0 where
  pub symbol : m ≡ a_symbol f n
  pub few : entries < 1024

module _ (d : Declared) (x : Lexeme) (short : AreShort d) (quiet : IsQuiet d.last) (none_open : d.applications ≡ []) where
  abbrev head_limits : Meaning → Option LimitName
  head_limits m = or (when (nat_lt 255 (length x.text)) limit.NameBytes) (or (too_deep m d) (or (one_too_many m d) (when (true && nat_le 1024 (length d.entries)) limit.Entries)))

  shallow : (n : ℕ) → (nat_lt 0 n && nat_le 100 (length d.applications)) ≡ false
  shallow n = and_right _ _ (ap (λ z. nat_le 100 (length z)) none_open)

  head_fine : (o : Option ℕ) (f n : ℕ) → number_of d.symbols x.text ≡ o → IsHead (or_else (as_symbol d.symbols o) unknown) (length d.entries) f n → (head_limits (or_else (as_symbol d.symbols o) unknown) ≡ None) × (is_unknown (or_else (as_symbol d.symbols o) unknown) ≡ false)
  head_fine None f n e h = let no = h.symbol in cc
  head_fine (Some g) f n e h =
      (or-none _ _ (when-false _ _ (le-ltb _ _ (short_at (names_of d.symbols) x.text g short.symbols e))) (or-none _ _ (when-false _ _ (shallow _)) (when-false _ _ (lt-leb _ _ h.few))), refl)

  head_only : (o : Option ℕ) → head_limits (or_else (as_symbol d.symbols o) unknown) ≡ None → is_unknown (or_else (as_symbol d.symbols o) unknown) ≡ false → (f : ℕ) × (n : ℕ) × IsHead (or_else (as_symbol d.symbols o) unknown) (length d.entries) f n
  head_only None h k = cc
  head_only (Some g) h k =
      (g, unwrap_or (arity_of d.symbols g) 0, record { symbol = refl; few = leb-false _ _ (when_none _ _ (or_parts_none _ _ (or_parts_none _ _ h).1).1) })

  pub head_row : matches (terminal.Named role.EntryHead) x ≡ true → (f n : ℕ) → IsHead (symbol_meaning d x.text) (length d.entries) f n → row (Some (terminal.Named role.EntryHead)) d x ≡ None
  unfolding passed misnamed meaning
  head_row e f n h =
      let k = head_fine (number_of d.symbols x.text) f n refl h in
      row-none (terminal.Named role.EntryHead) d x e (name_arity role.EntryHead d x quiet e) (is_expected (terminal.Named role.EntryHead) d x refl refl e) k.0 (or-none _ _ (when-false _ _ k.1) refl)

  pub head_symbol : row (Some (terminal.Named role.EntryHead)) d x ≡ None → (f : ℕ) × (n : ℕ) × IsHead (symbol_meaning d x.text) (length d.entries) f n
  unfolding passed misnamed meaning
  head_symbol h =
      let r = row_parts (terminal.Named role.EntryHead) d x h in
      head_only (number_of d.symbols x.text) r.limits (when_none _ _ (or_parts_none _ _ r.names).0)

-- ---- the state of an entry

module _ (d : Declared) (x : Lexeme) (short : AreShort d) (quiet : IsQuiet d.last) where
  pub target_row : matches (terminal.Named role.EntryTarget) x ≡ true → Contains d.initial.states x.text → row (Some (terminal.Named role.EntryTarget)) d x ≡ None
  unfolding passed misnamed meaning
  target_row e h =
      let found = position_found d.initial.states x.text h in
      row-none (terminal.Named role.EntryTarget) d x e (name_arity role.EntryTarget d x quiet e) (is_expected (terminal.Named role.EntryTarget) d x refl refl e)
      (or-none _ _ (when-false _ _ (le-ltb _ _ (All-contains IsShort d.initial.states x.text short.states h))) (ap (λ o. or (too_deep (as_state o) d) (or (one_too_many (as_state o) d) None)) found))
      (or-none _ _ (when-false _ _ (ap (λ o. is_unknown (as_state o)) found)) refl)

  pub target_state : row (Some (terminal.Named role.EntryTarget)) d x ≡ None → Contains d.initial.states x.text
  unfolding passed misnamed meaning
  target_state h = by (position (bytes_eq x.text) d.initial.states) refl (when_none _ _ (or_parts_none _ _ (row_parts (terminal.Named role.EntryTarget) d x h).names).0)
    where
      by : (o : Option ℕ) → position (bytes_eq x.text) d.initial.states ≡ o → is_unknown (as_state o) ≡ false → Contains d.initial.states x.text
      by None e k = cc
      by (Some q) e k = Contains-position d.initial.states x.text q e
