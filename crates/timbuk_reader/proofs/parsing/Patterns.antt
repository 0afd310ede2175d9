-- Reading a pattern, one step at a time.
use Rattle.std.proofs.Common.{◌≡◌, ℕ, zero, suc, ◌<◌, arith, true, false, List, [], ◌∷◌, Some, None, Err, refl, ap, sym, ◌∙◌, subst}
use Rattle.ranked_terms.specs.declared.term.Shape.{Shape}
use Rattle.ranked_terms.specs.declared.term.Shape.TheVariants as shape
use Rattle.timbuk_lex.specs.declared.lexeme.Lexeme.{Lexeme}
use Rattle.timbuk_grammar.specs.declared.terminal.Role.{Role}
use Rattle.timbuk_grammar.specs.declared.terminal.Role.TheVariants as role
use Rattle.timbuk_grammar.specs.declared.terminal.Terminal.TheVariants as terminal
use Rattle.timbuk_grammar.specs.Grammar.{Part, one, many, ◌then◌, pattern, pattern_arguments}
use Rattle.spec_text.specs.declared.fault.SpecKind.{SpecKind}
use Rattle.spec_text.specs.declared.fault.SpecKind.TheVariants as kind
use Rattle.spec_text.specs.declared.fault.LimitName.TheVariants as limit
use Rattle.timbuk_reader.specs.declared.fault.SpecError.{SpecError}
use Rattle.timbuk_reader.specs.declared.fault.SpecError.TheVariants as error
use Rattle.timbuk_reader.specs.declared.state.Reader.{Reader}
use Rattle.spec_text.specs.Declarations.{Text, Declared, Application, Last, any, leaf, constant, function, Meaning, a_variable, a_state, a_symbol, meaning, with_variable, placed, binds, named, uses, begins_transition}
use Rattle.spec_text.specs.Reading.{End, outcome}
use Rattle.timbuk_reader.specs.View.{Open, declared, inside, state_of, end_of, as_error, refusal_at, refusal}
use Rattle.spec_text.specs.Reading.{settled, sees}
use Rattle.timbuk_reader.specs.Reads.{Stands, HasNoWord, missed, long}
use Rattle.timbuk_reader.specs.Patterns.{IsPatternRole, application, within, IsSpot, Builds, Breaks, Applies, Misapplies, pattern_fault, SameBut}
use Rattle.timbuk_reader.proofs.parsing.Parts.{pattern_front, then_head, maybe_skip}
use Rattle.timbuk_reader.proofs.parsing.Tokens.{use_row, row_other, long_row, step_on, step_fault}
use Rattle.spec_text.specs.lemmas.LastToken.{after, leaf_whole, constant_whole, IsWhole, read_after}
use Rattle.timbuk_reader.proofs.parsing.PatternNames.{fault_row, meaning_is, name_quiet, adds_named, pattern_missed, pattern_closed}
use Rattle.timbuk_reader.proofs.parsing.Arguments.{leaf_applied, constant_applied}

-- the arguments of a pattern begin with a `(`
abbrev pub argument_list : Role → Part
argument_list p = pattern p then many (one terminal.Comma then pattern p) then one terminal.CloseParen

module _ (p : Role) (pattern_place : IsPatternRole p) (r : Reader) (depth : ℕ) where
  -- a name that no row fits
  pub name_read : (u : Reader) (text : Text) (m : Meaning) (ps : List Part) (applications : List Application) (shapes : List Shape) → IsSpot p depth applications shapes → Stands (terminal.Named p) r text
      → meaning (state_of r) p text ≡ m → pattern_fault p m depth r ≡ None → (x : Lexeme) → r.tokens.now ≡ x ∷ u.tokens.now → end_of u ≡ end_of r
      → outcome (end_of r) (pattern p ∷ ps) (declared (within applications shapes) r) r.tokens.now ≡ outcome (end_of u) (pattern_arguments p ∷ ps) (named p m (declared (within applications shapes) r)) u.tokens.now
  name_read u text m ps applications shapes spot stands is none x tokens end =
      let d = declared (within applications shapes) r in
      let rest : stands.rest ≡ u.tokens.now = let e = sym stands.tokens ∙ tokens in cc in
      let row = row_other (terminal.Named p) d stands.token tt stands.matched (name_quiet p stands.token stands.matched d refl)
      ∙ ap (λ z. use_row (terminal.Named p) z d) stands.text_is ∙ fault_row r depth applications shapes spot.depth_is p text m pattern_place spot.first stands.short is ∙ none in
      ap (outcome (end_of r) (pattern p ∷ ps) d) stands.tokens
      ∙ step_on (pattern p ∷ ps) (terminal.Named p) (pattern_arguments p ∷ ps) (end_of r) d stands.token stands.rest (pattern_front p ps) stands.matched row
      ∙ (λ i. outcome (sym end i) (pattern_arguments p ∷ ps) ((adds_named p stands.token.text d pattern_place ∙ ap (λ z. named p (meaning d p z) d) stands.text_is ∙ ap (λ z. named p z d) (meaning_is r depth applications shapes spot.depth_is p text pattern_place ∙ is)) i) (rest i))

  -- a name that a row fits
  pub name_breaks : (text : Text) (m : Meaning) (k : SpecKind) (e : SpecError) → Stands (terminal.Named p) r text → meaning (state_of r) p text ≡ m → pattern_fault p m depth r ≡ Some k → e ≡ error.Fault (refusal k r) → Breaks p depth r e
  name_breaks text m k e stands is some told = record {
    by = λ ne ps applications shapes spot.
        let d = declared (within applications shapes) r in
        let row = row_other (terminal.Named p) d stands.token tt stands.matched (name_quiet p stands.token stands.matched d refl)
        ∙ ap (λ z. use_row (terminal.Named p) z d) stands.text_is ∙ fault_row r depth applications shapes spot.depth_is p text m pattern_place spot.first stands.short is ∙ some in
        ap (λ z. as_error (settled z)) (ap (outcome (end_of r) (pattern p ∷ ps) d) stands.tokens
        ∙ step_fault (pattern p ∷ ps) (terminal.Named p) (pattern_arguments p ∷ ps) (end_of r) d stands.token stands.rest k (pattern_front p ps) stands.matched row
        ∙ ap (λ xs. Err (refusal_at k (end_of r) xs)) (sym stands.tokens)) ∙ ap Err (sym told);
  }

  -- no name
  pub no_name_breaks : (e : SpecError) → HasNoWord (terminal.Named p) r e → (0 < depth → sees terminal.CloseParen r.tokens.now ≡ false) → Breaks p depth r e
  no_name_breaks e (missed m) c = record {
    by = λ ne ps applications shapes spot.
        ap (λ z. as_error (settled z)) (pattern_missed p ps (end_of r) (declared (within applications shapes) r) r.tokens.now refl spot.room m.unseen (λ h. c (subst (λ n. 0 < n) spot.depth_is h))) ∙ ap Err (sym m.told);
  }
  no_name_breaks e (long l told) c = record {
    by = λ ne ps applications shapes spot.
        let d = declared (within applications shapes) r in
        let row = row_other (terminal.Named p) d l.token tt l.matched (name_quiet p l.token l.matched d refl) ∙ long_row (terminal.Named p) l.token.text d tt l.long in
        ap (λ z. as_error (settled z)) (ap (outcome (end_of r) (pattern p ∷ ps) d) l.tokens
        ∙ step_fault (pattern p ∷ ps) (terminal.Named p) (pattern_arguments p ∷ ps) (end_of r) d l.token l.rest (kind.Limit limit.NameBytes) (pattern_front p ps) l.matched row
        ∙ ap (λ xs. Err (refusal_at (kind.Limit limit.NameBytes) (end_of r) xs)) (sym l.tokens)) ∙ ap Err (sym told);
  }

  -- a `)` that comes too early
  pub close_breaks : (e : SpecError) → 0 < depth → sees terminal.CloseParen r.tokens.now ≡ true → e ≡ error.Fault (refusal kind.WrongArity r) → Breaks p depth r e
  close_breaks e h seen told = record {
    by = λ ne ps applications shapes spot.
        ap (λ z. as_error (settled z)) (pattern_closed p ps (end_of r) (declared (within applications shapes) r) r.tokens.now refl spot.room (subst (λ n. 0 < n) (sym spot.depth_is) h) seen) ∙ ap Err (sym told);
  }

-- ---- behind a name without arguments

binds_is : (p : Role) (v : ℕ) (d : Declared) → IsPatternRole p → binds p v d ≡ record d { bound = with_variable d.bound v }
binds_is role.LeftSide v d h = refl
binds_is role.RightSide v d h = refl
binds_is role.EquationLeft v d h = refl
binds_is role.EquationRight v d h = refl
binds_is role.EntryWhole v d h = refl
binds_is _ v d h = absurd h

uses_is : (p : Role) (q : ℕ) (d : Declared) → IsPatternRole p → uses p q d ≡ d
uses_is role.LeftSide q d h = refl
uses_is role.RightSide q d h = refl
uses_is role.EquationLeft q d h = refl
uses_is role.EquationRight q d h = refl
uses_is role.EntryWhole q d h = refl
uses_is _ q d h = absurd h

begins_is : (p : Role) (f : ℕ) (d : Declared) → IsPatternRole p → begins_transition p f d ≡ d
begins_is role.LeftSide f d h = refl
begins_is role.RightSide f d h = refl
begins_is role.EquationLeft f d h = refl
begins_is role.EquationRight f d h = refl
begins_is role.EntryWhole f d h = refl
begins_is _ f d h = absurd h

-- no `(` follows
whole_read : (p : Role) (l : Last) → IsWhole l → (ps : List Part) (end : End) (d : Declared) (xs : List Lexeme) → sees terminal.OpenParen xs ≡ false → settled (outcome end (pattern_arguments p ∷ ps) (after l d) xs) ≡ settled (outcome end ps (after any d) xs)
whole_read p l w ps end d xs e =
    read_after l w end (pattern_arguments p ∷ ps) d xs e ∙ ap settled (maybe_skip (one terminal.OpenParen then argument_list p) terminal.OpenParen (then_head terminal.OpenParen (argument_list p)) end (after any d) ps xs e)

-- the same declarations, with other bound variables
pub same_but : (applications : List Application) (shapes : List Shape) (r u : Reader) → SameBut r u → declared (within applications shapes) u ≡ record (declared (within applications shapes) r) { bound = u.bound }
same_but applications shapes r u h = ap (inside (within applications shapes) u.bound) h.state

module _ (p : Role) (pattern_place : IsPatternRole p) (r u : Reader) (depth : ℕ) (text : Text) (stands : Stands (terminal.Named p) r text) (x : Lexeme) (tokens : r.tokens.now ≡ x ∷ u.tokens.now) (same : SameBut r u) where
  module _ (m : Meaning) (is : meaning (state_of r) p text ≡ m) (none : pattern_fault p m depth r ≡ None) where
    read : (ps : List Part) (applications : List Application) (shapes : List Shape) → IsSpot p depth applications shapes
        → outcome (end_of r) (pattern p ∷ ps) (declared (within applications shapes) r) r.tokens.now ≡ outcome (end_of u) (pattern_arguments p ∷ ps) (named p m (declared (within applications shapes) r)) u.tokens.now
    read ps applications shapes spot = name_read p pattern_place r depth u text m ps applications shapes spot stands is none x tokens same.end

  -- a variable
  pub variable_builds : (v : ℕ) → meaning (state_of r) p text ≡ a_variable v → pattern_fault p (a_variable v) depth r ≡ None → u.bound ≡ with_variable r.bound v → sees terminal.OpenParen u.tokens.now ≡ false → Builds p depth r (shape.Var v) u
  variable_builds v is none bound e = record {
    by = λ ps applications shapes spot.
        let d = declared (within applications shapes) r in
        let bound_d : binds p v d ≡ declared (within applications shapes) u = binds_is p v d pattern_place ∙ ap (λ b. record d { bound = b }) (sym bound) ∙ sym (same_but applications shapes r u same) in
        ap settled (read (a_variable v) is none ps applications shapes spot)
        ∙ whole_read p leaf leaf_whole ps (end_of u) (placed p (shape.Var v) (binds p v d)) u.tokens.now e
        ∙ ap (λ z. settled (outcome (end_of u) ps (after any (placed p (shape.Var v) z)) u.tokens.now)) bound_d;
  }

  module _ (still : u.bound ≡ r.bound) where
    same_d : (o : Open) → declared o r ≡ declared o u
    same_d o = sym (λ i. inside o (still i) (same.state i))

    -- a state
    pub state_builds : (q : ℕ) → meaning (state_of r) p text ≡ a_state q → pattern_fault p (a_state q) depth r ≡ None → sees terminal.OpenParen u.tokens.now ≡ false → Builds p depth r (shape.State q) u
    state_builds q is none e = record {
      by = λ ps applications shapes spot.
          let d = declared (within applications shapes) r in
          ap settled (read (a_state q) is none ps applications shapes spot)
          ∙ whole_read p leaf leaf_whole ps (end_of u) (uses p q (placed p (shape.State q) d)) u.tokens.now e
          ∙ ap (λ z. settled (outcome (end_of u) ps (after any z) u.tokens.now)) (uses_is p q (placed p (shape.State q) d) pattern_place ∙ ap (placed p (shape.State q)) (same_d (within applications shapes)));
    }

    -- a symbol without arguments
    pub constant_builds : (f : ℕ) → meaning (state_of r) p text ≡ a_symbol f zero → pattern_fault p (a_symbol f zero) depth r ≡ None → sees terminal.OpenParen u.tokens.now ≡ false → Builds p depth r (shape.App f []) u
    constant_builds f is none e = record {
      by = λ ps applications shapes spot.
          let d = declared (within applications shapes) r in
          ap settled (read (a_symbol f zero) is none ps applications shapes spot)
          ∙ whole_read p constant constant_whole ps (end_of u) (placed p (shape.App f []) (begins_transition p f d)) u.tokens.now e
          ∙ ap (λ z. settled (outcome (end_of u) ps (after any (placed p (shape.App f []) z)) u.tokens.now)) (begins_is p f d pattern_place ∙ same_d (within applications shapes));
    }

    applied_d : (f n : ℕ) (applications : List Application) (shapes : List Shape) → named p (a_symbol f (suc n)) (declared (within applications shapes) r) ≡ declared (record (within (application p f (suc n) [] ∷ applications) shapes) { last = function }) u
    applied_d f n applications shapes =
        ap (λ (z : Declared). record z { applications = application p f (suc n) [] ∷ applications; last = function }) (begins_is p f (declared (within applications shapes) r) pattern_place)
        ∙ same_d (record (within (application p f (suc n) [] ∷ applications) shapes) { last = function })

    -- a symbol with its arguments
    pub function_builds : (f n : ℕ) (args : List Shape) (v : Reader) → 0 < n → meaning (state_of r) p text ≡ a_symbol f n → pattern_fault p (a_symbol f n) depth r ≡ None → Applies p f n depth u args v → Builds p depth r (shape.App f args) v
    function_builds f zero args v pos is none h = absurd (omega arith)
    function_builds f (suc n) args v pos is none h = record {
      by = λ ps applications shapes spot.
          ap settled (read (a_symbol f (suc n)) is none ps applications shapes spot)
          ∙ ap (λ z. settled (outcome (end_of u) (pattern_arguments p ∷ ps) z u.tokens.now)) (applied_d f n applications shapes)
          ∙ h.by ps applications shapes spot.depth_is spot.first;
    }

    pub function_breaks : (f n : ℕ) (e : SpecError) → 0 < n → meaning (state_of r) p text ≡ a_symbol f n → pattern_fault p (a_symbol f n) depth r ≡ None → Misapplies p f n depth u e → Breaks p depth r e
    function_breaks f zero e pos is none h = absurd (omega arith)
    function_breaks f (suc n) e pos is none h = record {
      by = λ ne ps applications shapes spot.
          ap (λ z. as_error (settled z)) (read (a_symbol f (suc n)) is none ps applications shapes spot
          ∙ ap (λ z. outcome (end_of u) (pattern_arguments p ∷ ps) z u.tokens.now) (applied_d f n applications shapes))
          ∙ h.by ne ps applications shapes spot.depth_is spot.first;
    }

  -- a `(` behind a variable, a state, or a symbol without arguments
  pub variable_breaks : (v : ℕ) (e : SpecError) → meaning (state_of r) p text ≡ a_variable v → pattern_fault p (a_variable v) depth r ≡ None → sees terminal.OpenParen u.tokens.now ≡ true → e ≡ error.Fault (refusal kind.Expected u) → Breaks p depth r e
  variable_breaks v e is none seen told = record {
    by = λ ne ps applications shapes spot.
        ap (λ z. as_error (settled z)) (read (a_variable v) is none ps applications shapes spot ∙ leaf_applied (pattern_arguments p ∷ ps) (end_of u) (after leaf (placed p (shape.Var v) (binds p v (declared (within applications shapes) r)))) u.tokens.now refl seen) ∙ ap Err (sym told);
  }

  pub state_breaks : (q : ℕ) (e : SpecError) → meaning (state_of r) p text ≡ a_state q → pattern_fault p (a_state q) depth r ≡ None → sees terminal.OpenParen u.tokens.now ≡ true → e ≡ error.Fault (refusal kind.Expected u) → Breaks p depth r e
  state_breaks q e is none seen told = record {
    by = λ ne ps applications shapes spot.
        ap (λ z. as_error (settled z)) (read (a_state q) is none ps applications shapes spot ∙ leaf_applied (pattern_arguments p ∷ ps) (end_of u) (after leaf (uses p q (placed p (shape.State q) (declared (within applications shapes) r)))) u.tokens.now refl seen) ∙ ap Err (sym told);
  }

  pub constant_breaks : (f : ℕ) (e : SpecError) → meaning (state_of r) p text ≡ a_symbol f zero → pattern_fault p (a_symbol f zero) depth r ≡ None → sees terminal.OpenParen u.tokens.now ≡ true → e ≡ error.Fault (refusal kind.WrongArity u) → Breaks p depth r e
  constant_breaks f e is none seen told = record {
    by = λ ne ps applications shapes spot.
        ap (λ z. as_error (settled z)) (read (a_symbol f zero) is none ps applications shapes spot ∙ constant_applied (pattern_arguments p ∷ ps) (end_of u) (after constant (placed p (shape.App f []) (begins_transition p f (declared (within applications shapes) r)))) u.tokens.now refl seen) ∙ ap Err (sym told);
  }
