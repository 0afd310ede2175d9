-- The names of an approximation rule, each with what it declares exactly.
use Rattle.std.proofs.Common.{◌≡◌, ℕ, zero, suc, Bool, true, false, List, [], ◌∷◌, ◌++◌, length, position, fold, Option, Some, None, Contains, refl, sym, ap, subst, ◌∙◌}
use Rattle.std.specs.Prelude.{if◌then◌else◌}
use Rattle.std.specs.Str.{bytes_eq}
use Rattle.std.proofs.lemmas.List.{append-nil}
use Rattle.std.proofs.lemmas.Option.{same_Some}
use Rattle.ranked_terms.specs.Terms.{with_variable as with_first}
use Rattle.ranked_terms.specs.declared.term.Shape.{Shape}
use Rattle.ranked_terms.specs.declared.term.Shape.TheVariants as shape
use Rattle.trs_rules.specs.declared.entry.Entry.{Entry}
use Rattle.ta_core.specs.SpecRules.{shape_occurrences}
use Rattle.timbuk_grammar.specs.declared.terminal.Role.TheVariants as role
use Rattle.timbuk_grammar.specs.declared.terminal.Terminal.TheVariants as terminal
use Rattle.timbuk_grammar.specs.Trees.{Token}
use Rattle.spec_text.specs.Declarations.{Text, Declared, Application, Last, any, leaf, constant, function, Meaning, a_symbol, has, with_variable, or_else, as_variable, as_state, meaning, placed, named, adds}
use Rattle.spec_text.specs.Source.{text_of}
use Rattle.spec_text.specs.Naming.{leaf_shape, place_in}
use Rattle.spec_text.specs.Reading.{End}
use Rattle.spec_text.proofs.agreement.tokens.Labels.{Label, label}
use Rattle.spec_text.proofs.agreement.names.Texts.{position_found}
use Rattle.spec_text.proofs.agreement.tokens.Last.{IsQuiet}
use Rattle.spec_text.proofs.agreement.tokens.Exact.{IsTied, one_token, free_token, by_witness}
use Rattle.spec_text.proofs.agreement.approximation.Variables.{IsFew, own_after}
use Rattle.spec_text.specs.lemmas.Shapes.{occurs_var, occurs_state}
use Rattle.spec_text.proofs.agreement.patterns.Variables.{with_variable_is}
use Rattle.spec_text.proofs.agreement.approximation.Rows.{amid, AreShort, simple_row, IsLeaf, leaf_meaning, at_row, at_leaf, argument_row, argument_leaf, IsHead, symbol_meaning, head_row, head_symbol, target_row, target_state}

abbrev leaf_by : Option ℕ → Option ℕ → Meaning
leaf_by v q = or_else (as_variable v) (as_state q)

-- ---- the states behind the tokens

-- behind the name after the whole pattern
abbrev pub behind_at : Declared → List Shape → List ℕ → Shape → Declared
behind_at d shapes bound s = amid d (shapes ++ s ∷ []) (fold with_first bound (shape_occurrences s)) [] [] leaf

-- the symbol of an entry, of this arity, with these arguments so far
abbrev pub application : ℕ → ℕ → List Shape → Application
application f n args = record { role = role.EntryHead; sym = f; arity = n; args = args }

-- among the arguments of an entry
abbrev pub among : Declared → List Shape → List ℕ → ℕ → ℕ → List Shape → List ℕ → Last → Declared
among d shapes bound f n args own l = amid d shapes bound own (application f n args ∷ []) l

-- behind one of them
abbrev pub behind_argument : Declared → List Shape → List ℕ → ℕ → ℕ → List Shape → List ℕ → Shape → Declared
behind_argument d shapes bound f n args own s = among d shapes bound f n (args ++ s ∷ []) (own_after bound own (shape_occurrences s)) leaf

-- behind the symbol of an entry
abbrev pub behind_head : Declared → List Shape → List ℕ → ℕ → ℕ → Declared
behind_head d shapes bound f zero = amid d (shapes ++ shape.App f [] ∷ []) bound [] [] constant
behind_head d shapes bound f (suc n) = among d shapes bound f (suc n) [] [] function

abbrev pub entry_to : Declared → Shape → Shape → Shape → Text → Entry
entry_to d whole at node text = record { whole = whole; at = at; node = node; target = place_in d.initial.states text }

-- one more entry
abbrev pub with_entries : Declared → List Entry → Declared
with_entries d entries = record d { entries = d.entries ++ entries }

-- ---- the name after the whole pattern

module _ (d : Declared) (shapes : List Shape) (bound : List ℕ) (l : Last) where
  at_told : (v q : Option ℕ) (s : Shape) → leaf_shape (leaf_by v q) ≡ Some s → named role.EntryAt (leaf_by v q) (amid d shapes bound [] [] l) ≡ behind_at d shapes bound s
  at_told (Some v) q s h =
      let is : shape.Var v ≡ s = same_Some _ _ h in
      let variables : with_variable bound v ≡ fold with_first bound (shape_occurrences s) = with_variable_is bound v ∙ ap (fold with_first bound) (sym (ap shape_occurrences (sym is) ∙ occurs_var v)) in
      λ i. amid d (shapes ++ is i ∷ []) (variables i) [] [] leaf
  at_told None (Some q) s h =
      let is : shape.State q ≡ s = same_Some _ _ h in
      let variables : bound ≡ fold with_first bound (shape_occurrences s) = ap (fold with_first bound) (sym (ap shape_occurrences (sym is) ∙ occurs_state q)) in
      λ i. amid d (shapes ++ is i ∷ []) (variables i) [] [] leaf
  at_told None None s h = cc

  at_adds : (text : Text) (s : Shape) → leaf_shape (leaf_meaning d text) ≡ Some s → adds (terminal.Named role.EntryAt) text (amid d shapes bound [] [] l) ≡ behind_at d shapes bound s
  unfolding adds meaning
  at_adds text s h = at_told (position (bytes_eq text) d.variables) (position (bytes_eq text) d.initial.states) s h

  pub at_tied : {end : End} {K : List Label → Type 0} → AreShort d → IsQuiet l → IsFew bound → (v : Token (terminal.Named role.EntryAt))
      → IsTied end K (amid d shapes bound [] [] l) (label v ∷ []) ((s : Shape) × IsLeaf (leaf_meaning d (text_of v)) bound s) (λ w. behind_at d shapes bound w.0)
  at_tied short quiet few v =
      let all : IsFew (bound ++ []) = subst IsFew (sym (append-nil bound)) few in
      by_witness
      (one_token (amid d shapes bound [] [] l) v ((s : Shape) × IsLeaf (leaf_meaning d (text_of v)) (bound ++ []) s)
      (λ w. at_row (amid d shapes bound [] [] l) v.lexeme short all quiet v.matched w.0 w.1)
      (λ h. at_leaf (amid d shapes bound [] [] l) v.lexeme short all quiet h))
      (λ w. (w.0, subst (λ vs. IsLeaf (leaf_meaning d (text_of v)) vs w.0) (sym (append-nil bound)) w.1))
      (λ w. (w.0, subst (λ vs. IsLeaf (leaf_meaning d (text_of v)) vs w.0) (append-nil bound) w.1))
      (λ w. at_adds (text_of v) w.0 w.1.shape)
      (λ w. at_adds (text_of v) w.0 w.1.shape)

-- ---- an argument of an entry

module _ (d : Declared) (shapes : List Shape) (bound : List ℕ) (f n : ℕ) (args : List Shape) (own : List ℕ) (l : Last) where
  abbrev before_argument : Declared
  before_argument = among d shapes bound f n args own l

  -- what a variable adds, where it is bound or isn't
  abbrev variable_added : ℕ → Bool → Declared
  variable_added v b = record (placed role.EntryArgument (shape.Var v) (if b then before_argument else record before_argument { own = with_variable own v })) { last = leaf }

  own_told : (v : ℕ) (b : Bool) → variable_added v b ≡ among d shapes bound f n (args ++ shape.Var v ∷ []) (if b then own else with_variable own v) leaf
  own_told v true = refl
  own_told v false = refl

  argument_told : (v q : Option ℕ) (s : Shape) → leaf_shape (leaf_by v q) ≡ Some s → named role.EntryArgument (leaf_by v q) before_argument ≡ behind_argument d shapes bound f n args own s
  argument_told (Some v) q s h =
      let is : shape.Var v ≡ s = same_Some _ _ h in
      let variables : (if has bound v then own else with_variable own v) ≡ own_after bound own (shape_occurrences s) = ap (own_after bound own) (sym (ap shape_occurrences (sym is) ∙ occurs_var v)) in
      ◌∙◌ {a = variable_added v (has bound v)} (own_told v (has bound v)) (λ i. among d shapes bound f n (args ++ is i ∷ []) (variables i) leaf)
  argument_told None (Some q) s h =
      let is : shape.State q ≡ s = same_Some _ _ h in
      let variables : own ≡ own_after bound own (shape_occurrences s) = ap (own_after bound own) (sym (ap shape_occurrences (sym is) ∙ occurs_state q)) in
      λ i. among d shapes bound f n (args ++ is i ∷ []) (variables i) leaf
  argument_told None None s h = cc

  argument_adds : (text : Text) (s : Shape) → leaf_shape (leaf_meaning d text) ≡ Some s → adds (terminal.Named role.EntryArgument) text before_argument ≡ behind_argument d shapes bound f n args own s
  unfolding adds meaning
  argument_adds text s h = argument_told (position (bytes_eq text) d.variables) (position (bytes_eq text) d.initial.states) s h

  pub argument_tied : {end : End} {K : List Label → Type 0} → AreShort d → IsQuiet l → IsFew (bound ++ own) → (v : Token (terminal.Named role.EntryArgument))
      → IsTied end K (among d shapes bound f n args own l) (label v ∷ []) ((s : Shape) × IsLeaf (leaf_meaning d (text_of v)) (bound ++ own) s) (λ w. behind_argument d shapes bound f n args own w.0)
  argument_tied short quiet few v =
      by_witness
      (one_token before_argument v ((s : Shape) × IsLeaf (leaf_meaning d (text_of v)) (bound ++ own) s)
      (λ w. argument_row before_argument v.lexeme short few quiet v.matched w.0 w.1)
      (λ h. argument_leaf before_argument v.lexeme short few quiet h))
      (λ w. w)
      (λ w. w)
      (λ w. argument_adds (text_of v) w.0 w.1.shape)
      (λ w. argument_adds (text_of v) w.0 w.1.shape)

-- ---- the symbol of an entry, and its state

module _ (d : Declared) (shapes : List Shape) (bound : List ℕ) (l : Last) where
  head_told : (m : Meaning) (f n : ℕ) → m ≡ a_symbol f n → named role.EntryHead m (amid d shapes bound [] [] l) ≡ behind_head d shapes bound f n
  head_told m f zero e = ap (λ z. named role.EntryHead z (amid d shapes bound [] [] l)) e
  head_told m f (suc n) e = ap (λ z. named role.EntryHead z (amid d shapes bound [] [] l)) e

  head_adds : (text : Text) (f n : ℕ) → symbol_meaning d text ≡ a_symbol f n → adds (terminal.Named role.EntryHead) text (amid d shapes bound [] [] l) ≡ behind_head d shapes bound f n
  unfolding adds meaning
  head_adds text f n e = head_told (symbol_meaning d text) f n e

  pub head_tied : {end : End} {K : List Label → Type 0} → AreShort d → IsQuiet l → (v : Token (terminal.Named role.EntryHead))
      → IsTied end K (amid d shapes bound [] [] l) (label v ∷ []) ((f : ℕ) × (n : ℕ) × IsHead (symbol_meaning d (text_of v)) (length d.entries) f n) (λ w. behind_head d shapes bound w.0 w.1)
  head_tied short quiet v =
      by_witness
      (one_token (amid d shapes bound [] [] l) v ((f : ℕ) × (n : ℕ) × IsHead (symbol_meaning d (text_of v)) (length d.entries) f n)
      (λ w. head_row (amid d shapes bound [] [] l) v.lexeme short quiet refl v.matched w.0 w.1 w.2)
      (λ h. head_symbol (amid d shapes bound [] [] l) v.lexeme short quiet refl h))
      (λ w. w)
      (λ w. w)
      (λ w. head_adds (text_of v) w.0 w.1 w.2.symbol)
      (λ w. head_adds (text_of v) w.0 w.1 w.2.symbol)

module _ (d : Declared) (whole at node : Shape) (bound own : List ℕ) (l : Last) where
  abbrev before_target : Declared
  before_target = amid d (whole ∷ at ∷ node ∷ []) bound own [] l

  target_told : (o : Option ℕ) (q : ℕ) → o ≡ Some q → named role.EntryTarget (as_state o) before_target ≡ amid (with_entries d (record { whole = whole; at = at; node = node; target = q } ∷ [])) (whole ∷ at ∷ []) bound [] [] leaf
  target_told o q e = ap (λ z. named role.EntryTarget (as_state z) before_target) e

  target_adds : (text : Text) → Contains d.initial.states text → adds (terminal.Named role.EntryTarget) text before_target ≡ amid (with_entries d (entry_to d whole at node text ∷ [])) (whole ∷ at ∷ []) bound [] [] leaf
  unfolding adds meaning
  target_adds text h = target_told (position (bytes_eq text) d.initial.states) (place_in d.initial.states text) (position_found d.initial.states text h)

  pub target_tied : {end : End} {K : List Label → Type 0} → AreShort d → IsQuiet l → (v : Token (terminal.Named role.EntryTarget))
      → IsTied end K (amid d (whole ∷ at ∷ node ∷ []) bound own [] l) (label v ∷ []) (Contains d.initial.states (text_of v)) (λ w. amid (with_entries d (entry_to d whole at node (text_of v) ∷ [])) (whole ∷ at ∷ []) bound [] [] leaf)
  target_tied short quiet v =
      by_witness
      (one_token before_target v (Contains d.initial.states (text_of v))
      (λ w. target_row before_target v.lexeme short quiet v.matched w)
      (λ h. target_state before_target v.lexeme short quiet h))
      (λ w. w)
      (λ w. w)
      (λ w. target_adds (text_of v) w)
      (λ w. target_adds (text_of v) w)

-- ---- words and marks

module _ (d : Declared) (shapes : List Shape) (bound own : List ℕ) (applications : List Application) (l : Last) (quiet : IsQuiet l) where
  abbrev here : Declared
  here = amid d shapes bound own applications l

  pub open_bracket_tied : {end : End} {K : List Label → Type 0} → (v : Token terminal.OpenBracket) → IsTied end K (amid d shapes bound own applications l) (label v ∷ []) (Unit {0}) (λ w. amid d shapes bound own applications any)
  unfolding adds
  open_bracket_tied v = free_token here v (simple_row terminal.OpenBracket here v.lexeme quiet refl v.matched)

  pub arrow_tied : {end : End} {K : List Label → Type 0} → (v : Token terminal.Arrow) → IsTied end K (amid d shapes bound own applications l) (label v ∷ []) (Unit {0}) (λ w. amid d shapes bound own applications any)
  unfolding adds
  arrow_tied v = free_token here v (simple_row terminal.Arrow here v.lexeme quiet refl v.matched)

  pub close_bracket_tied : {end : End} {K : List Label → Type 0} → (v : Token terminal.CloseBracket) → IsTied end K (amid d shapes bound own applications l) (label v ∷ []) (Unit {0}) (λ w. amid d shapes bound own applications any)
  unfolding adds
  close_bracket_tied v = free_token here v (simple_row terminal.CloseBracket here v.lexeme quiet refl v.matched)

  pub close_entries_tied : {end : End} {K : List Label → Type 0} → (v : Token terminal.CloseEntries) → IsTied end K (amid d shapes bound own applications l) (label v ∷ []) (Unit {0}) (λ w. amid d [] [] [] applications any)
  unfolding adds
  close_entries_tied v = free_token here v (simple_row terminal.CloseEntries here v.lexeme quiet refl v.matched)
