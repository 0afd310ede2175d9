-- What the functions that read approximations do.
use Rattle.std.specs.Prelude.{◌≡◌, ◌+◌, ◌<◌, ◌≤◌, ℕ, zero, suc, Bool, true, ◌||◌, if◌then◌else◌, nat_lt, List, [], ◌∷◌, ◌++◌, length, map, Some, IsTrue}
use Rattle.std.specs.List.{list_all}
use Rattle.ranked_terms.specs.Limits.{max_variables}
use Rattle.ranked_terms.specs.Names.{arity_of}
use Rattle.ranked_terms.specs.Terms.{joined}
use Rattle.ranked_terms.specs.declared.term.Shape.{Shape}
use Rattle.ranked_terms.specs.declared.term.Shape.TheVariants as shape
use Rattle.trs_rules.specs.declared.entry.Entry.{Entry}
use Rattle.ta_core.specs.SpecRules.{shape_is_over, shape_is_below, shape_occurrences}
use Rattle.timbuk_grammar.specs.declared.terminal.Role.{Role}
use Rattle.timbuk_grammar.specs.declared.terminal.Role.TheVariants as role
use Rattle.timbuk_grammar.specs.declared.terminal.Terminal.TheVariants as terminal
use Rattle.timbuk_grammar.specs.Grammar.{Part, one, ◌then◌, some, name, entry}
use Rattle.spec_text.specs.declared.fault.SpecKind.TheVariants as kind
use Rattle.timbuk_reader.specs.declared.fault.SpecError.{SpecError}
use Rattle.timbuk_reader.specs.declared.fault.SpecError.TheVariants as error
use Rattle.timbuk_reader.specs.declared.state.Reader.{Reader}
use Rattle.timbuk_reader.specs.declared.approximation.Form.{Form}
use Rattle.timbuk_reader.specs.declared.approximation.Leaf.{Leaf}
use Rattle.timbuk_reader.specs.declared.approximation.Leaf.TheVariants as leaf
use Rattle.timbuk_reader.specs.declared.approximation.StartedEntry.{StartedEntry}
use Rattle.spec_text.specs.Declarations.{Text, any, constant, function, Meaning, a_variable, a_state, meaning, has, with_variable, named}
use Rattle.spec_text.specs.Reading.{outcome}
use Rattle.timbuk_reader.specs.View.{Open, declared, state_of, end_of, from, refusal}
use Rattle.spec_text.specs.Reading.{settled, sees}
use Rattle.timbuk_reader.specs.Reads.{Stops, Stands}
use Rattle.timbuk_reader.specs.Patterns.{within, application}
use Rattle.timbuk_reader.specs.AutomatonReads.{IsReady}

-- ---- what stays

-- only the tokens are others
pub record OnlyTokens (old new : Reader) : Type 0 where
  pub state : state_of new ≡ state_of old
  pub bound : new.bound ≡ old.bound

-- only the entries and the tokens are others
pub record OnlyEntries (old new : Reader) : Type 0 where
  pub state : state_of new ≡ record (state_of old) { entries = new.entries }
  pub bound : new.bound ≡ old.bound

-- ---- what is open in an approximation rule

-- the form in front of the entries was read
abbrev pub formed : Form → Open
formed form = within [] (form.whole ∷ form.at ∷ [])

-- the symbol at the head of an entry was read, whose arguments come if it has some
abbrev pub headed_by : ℕ → StartedEntry → Open
headed_by zero e = record (within [] (e.form.whole ∷ e.form.at ∷ shape.App e.sym [] ∷ [])) { last = constant }
headed_by (suc n) e = record (within (application role.EntryHead e.sym (suc n) [] ∷ []) (e.form.whole ∷ e.form.at ∷ [])) { last = function }

abbrev pub headed : StartedEntry → Open
headed e = headed_by e.arity e

-- these of its arguments were read
abbrev pub arguing : StartedEntry → Open
arguing e = record (within (application role.EntryHead e.sym e.arity e.args ∷ []) (e.form.whole ∷ e.form.at ∷ [])) { own = e.own }

-- the node of an entry
abbrev pub node_of : StartedEntry → Shape
node_of e = shape.App e.sym e.args

-- all of them were read
abbrev pub argued : StartedEntry → Open
argued e = record (within [] (e.form.whole ∷ e.form.at ∷ node_of e ∷ [])) { own = e.own }

-- the entry with this target
abbrev pub entry_of : StartedEntry → ℕ → Entry
entry_of e target = record { whole = e.form.whole; at = e.form.at; node = node_of e; target = target }

-- ---- variables and states

-- the places in which a variable or a state stands
abbrev pub IsLeafRole : Role → Type 0
IsLeafRole role.EntryAt = Unit {0}
IsLeafRole role.EntryArgument = Unit {0}
IsLeafRole _ = ⊥

-- what its name means
abbrev pub leaf_meaning : Leaf → Meaning
leaf_meaning (leaf.Variable v) = a_variable v
leaf_meaning (leaf.State q) = a_state q

abbrev pub leaf_shape : Leaf → Shape
leaf_shape (leaf.Variable v) = shape.Var v
leaf_shape (leaf.State q) = shape.State q

-- a name was read that has this meaning
pub record ReadsName (p : Role) (old : Reader) (m : Meaning) (new : Reader) : Type 0 where
  pub by : (o : Open) → IsReady o old → (ps : List Part)
      → from o (name p ∷ ps) old ≡ settled (outcome (end_of new) ps (record (named p m (declared o new)) { last = any }) new.tokens.now)

-- no name can be read there
pub record StopsName (p : Role) (old : Reader) (e : SpecError) : Type 0 where
  pub by : (o : Open) → IsReady o old → Stops (name p) o old e

-- a declaration is open that binds variables, and has these of its own
pub record IsBinding (own : List ℕ) (o : Open) : Type 0 where
  pub binds : o.binds ≡ true
  pub own_is : o.own ≡ own

-- a variable or a state was read there
pub record ReadsLeaf (p : Role) (own : List ℕ) (old : Reader) (l : Leaf) (new : Reader) : Type 0 where
  pub by : (o : Open) → IsReady o old → IsBinding own o → (ps : List Part)
      → from o (name p ∷ ps) old ≡ settled (outcome (end_of new) ps (record (named p (leaf_meaning l) (declared o new)) { last = any }) new.tokens.now)

-- none can be read there
pub record StopsLeaf (p : Role) (own : List ℕ) (old : Reader) (e : SpecError) : Type 0 where
  pub by : (o : Open) → IsReady o old → IsBinding own o → Stops (name p) o old e

-- whether a variable may stand where these are bound and these are the entry's own
abbrev pub has_room : List ℕ → List ℕ → ℕ → Bool
has_room bound own v = has bound v || (has own v || nat_lt (length bound + length own) max_variables)

-- a variable that may stand there, or a state of the initial automaton or of the approximation
abbrev pub IsLeaf : List ℕ → Reader → Leaf → Type 0
IsLeaf own r (leaf.Variable v) = IsTrue (has_room r.bound own v)
IsLeaf own r (leaf.State q) = q < length r.initial.states

-- the name of such a variable or state comes next
pub record HasLeaf (p : Role) (own : List ℕ) (r : Reader) (l : Leaf) : Type 0 where
  pub text : Text
  pub stands : Stands (terminal.Named p) r text
  pub means : meaning (state_of r) p text ≡ leaf_meaning l
  pub fits : IsLeaf own r l

-- these bound variables with that of a leaf
abbrev pub with_leaf : List ℕ → Leaf → List ℕ
with_leaf bound (leaf.Variable v) = with_variable bound v
with_leaf bound (leaf.State q) = bound

-- an entry's own variables with those of a further argument, where these are bound
abbrev pub with_own : List ℕ → Leaf → List ℕ → List ℕ
with_own bound (leaf.Variable v) own = if has bound v then own else with_variable own v
with_own bound (leaf.State q) own = own

-- ---- what is valid

-- each is one of these
abbrev pub are_among : List ℕ → List ℕ → Bool
are_among bound vs = list_all (has bound) vs

-- The shape is over the signature, its states are there, and its variables are among these.
pub record IsPart (r : Reader) (variables : List ℕ) (s : Shape) : Type 0 where
  pub over : IsTrue (shape_is_over r.signature s)
  pub below : IsTrue (shape_is_below (length r.initial.states) s)
  pub among : IsTrue (are_among variables (shape_occurrences s))

-- both parts of a form are valid, with variables that are bound
pub record IsForm (r : Reader) (form : Form) : Type 0 where
  pub whole : IsPart r r.bound form.whole
  pub at : IsPart r r.bound form.at

-- arguments are valid, with variables that are among these
pub record AreArguments (r : Reader) (variables : List ℕ) (args : List Shape) : Type 0 where
  pub over : IsTrue (list_all (shape_is_over r.signature) args)
  pub below : IsTrue (list_all (shape_is_below (length r.initial.states)) args)
  pub among : IsTrue (are_among variables (joined (map shape_occurrences args)))

-- an entry is valid as far as it was read, with at most 16 variables, which are bound or its own
pub record IsStarted (r : Reader) (e : StartedEntry) : Type 0 where
  pub form : IsForm r e.form
  pub arity : arity_of r.signature e.sym ≡ Some e.arity
  pub args : AreArguments r (r.bound ++ e.own) e.args
  pub few : length r.bound + length e.own ≤ max_variables

-- the same head
pub record SameHead (old new : StartedEntry) : Type 0 where
  pub form : new.form ≡ old.form
  pub sym : new.sym ≡ old.sym
  pub arity : new.arity ≡ old.arity

-- the entry with a further argument
pub record AddsArgument (bound : List ℕ) (arg : Leaf) (old new : StartedEntry) : Type 0 where
  pub head : SameHead old new
  pub args : new.args ≡ old.args ++ leaf_shape arg ∷ []
  pub own : new.own ≡ with_own bound arg old.own

-- an entry of which the head was read
pub record IsNewEntry (form : Form) (e : StartedEntry) : Type 0 where
  pub form_is : e.form ≡ form
  pub args : e.args ≡ []
  pub own : e.own ≡ []

-- a `(` stands behind a symbol of arity 0, and that is reported
pub record HasArguments (r : Reader) (e : SpecError) : Type 0 where
  pub seen : sees terminal.OpenParen r.tokens.now ≡ true
  pub told : e ≡ error.Fault (refusal kind.WrongArity r)

-- ---- approximation rules

-- what follows the form of an approximation rule
abbrev pub form_entries : Part
form_entries = one terminal.Arrow then one terminal.OpenBracket then some entry then one terminal.CloseEntries
