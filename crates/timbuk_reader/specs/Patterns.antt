-- Reading a pattern, at any depth.
use Rattle.std.specs.Prelude.{◌≡◌, ◌≢◌, ◌<◌, ℕ, zero, true, false, not, ◌&&◌, ◌==◌, if◌then◌else◌, nat_lt, nat_le, List, [], ◌∷◌, map, length, Option, Some, None, option_map, Result, Ok, Err, IsTrue}
use Rattle.std.specs.List.{list_all}
use Rattle.ranked_terms.specs.Terms.{joined}
use Rattle.ta_core.specs.SpecRules.{shape_is_over, shape_is_below, shape_occurrences}
use Rattle.timbuk_lex.specs.declared.lexeme.Lexeme.{Lexeme}
use Rattle.ranked_terms.specs.declared.term.Shape.{Shape}
use Rattle.ranked_terms.specs.declared.term.Shape.TheVariants as shape
use Rattle.timbuk_grammar.specs.declared.terminal.Role.{Role}
use Rattle.timbuk_grammar.specs.declared.terminal.Role.TheVariants as role
use Rattle.timbuk_grammar.specs.declared.terminal.Terminal.TheVariants as terminal
use Rattle.timbuk_grammar.specs.Grammar.{Part, one, many, ◌then◌, pattern, pattern_arguments}
use Rattle.spec_text.specs.declared.fault.SpecKind.{SpecKind}
use Rattle.spec_text.specs.declared.fault.SpecKind.TheVariants as kind
use Rattle.spec_text.specs.declared.fault.LimitName.{LimitName}
use Rattle.spec_text.specs.declared.fault.LimitName.TheVariants as limit
use Rattle.spec_text.specs.Limits.{most}
use Rattle.timbuk_reader.specs.declared.fault.SpecError.{SpecError}
use Rattle.timbuk_reader.specs.declared.fault.SpecError.TheVariants as error
use Rattle.timbuk_reader.specs.declared.state.Reader.{Reader}
use Rattle.spec_text.specs.lemmas.Variables.{Binds}
use Rattle.spec_text.specs.Declarations.{Text, Application, any, function, Meaning, meaning, unknown, a_variable, a_symbol, has, placed}
use Rattle.spec_text.specs.Reading.{Outcome, outcome}
use Rattle.spec_text.specs.Rows.{or, when}
use Rattle.timbuk_reader.specs.View.{Open, closed, declared, state_of, end_of, from, as_error, refusal}
use Rattle.spec_text.specs.Reading.{settled, sees}
use Rattle.timbuk_reader.specs.Reads.{Missed, Stands}

-- the places of patterns
abbrev pub IsPatternRole : Role → Type 0
IsPatternRole role.LeftSide = Unit {0}
IsPatternRole role.RightSide = Unit {0}
IsPatternRole role.EquationLeft = Unit {0}
IsPatternRole role.EquationRight = Unit {0}
IsPatternRole role.EntryWhole = Unit {0}
IsPatternRole _ = ⊥

-- these applications are open, the innermost first, and these sides of the declaration are whole
abbrev pub within : List Application → List Shape → Open
within applications shapes = record closed { applications = applications; shapes = shapes; binds = true }

-- the innermost application lacks an argument
abbrev pub HasRoom : List Application → Type 0
HasRoom [] = Unit {0}
HasRoom (a ∷ outer) = length a.args < a.arity

-- no side stands before a left side
abbrev pub IsFirstSide : Role → List Shape → Type 0
IsFirstSide role.LeftSide shapes = shapes ≡ []
IsFirstSide role.EquationLeft shapes = shapes ≡ []
IsFirstSide _ shapes = Unit {0}

-- a pattern may stand below so many applications
pub record IsSpot (p : Role) (depth : ℕ) (applications : List Application) (shapes : List Shape) : Type 0 where
  pub depth_is : length applications ≡ depth
  pub room : HasRoom applications
  pub first : IsFirstSide p shapes

-- what is read behind a whole pattern
abbrev pub placed_from : Role → List Part → Shape → List Application → List Shape → Reader → Outcome
placed_from p ps s applications shapes r = settled (outcome (end_of r) ps (record (placed p s (declared (within applications shapes) r)) { last = any }) r.tokens.now)

-- a pattern was read
pub record Builds (p : Role) (depth : ℕ) (old : Reader) (s : Shape) (new : Reader) : Type 0 where
  pub by : (ps : List Part) (applications : List Application) (shapes : List Shape) → IsSpot p depth applications shapes
      → from (within applications shapes) (pattern p ∷ ps) old ≡ placed_from p ps s applications shapes new

-- a pattern has the first fault
pub record Breaks (p : Role) (depth : ℕ) (old : Reader) (e : SpecError) : Type 0 where
  pub by : e ≢ error.Memory → (ps : List Part) (applications : List Application) (shapes : List Shape) → IsSpot p depth applications shapes
      → as_error (from (within applications shapes) (pattern p ∷ ps) old) ≡ Err e

abbrev pub BuildsAt : Role → ℕ → Reader → Result Shape SpecError → Reader → Type 0
BuildsAt p depth old (Ok s) new = Builds p depth old s new
BuildsAt p depth old (Err e) new = Breaks p depth old e

-- ---- arguments

abbrev pub application : Role → ℕ → ℕ → List Shape → Application
application p f n args = record { role = p; sym = f; arity = n; args = args }

-- what is read behind the name of a symbol with arguments
abbrev pub applied_from : Role → ℕ → ℕ → List Part → List Application → List Shape → Reader → Outcome
applied_from p f n ps applications shapes r = from (record (within (application p f n [] ∷ applications) shapes) { last = function }) (pattern_arguments p ∷ ps) r

-- its arguments were read
pub record Applies (p : Role) (f n depth : ℕ) (old : Reader) (args : List Shape) (new : Reader) : Type 0 where
  pub by : (ps : List Part) (applications : List Application) (shapes : List Shape) → length applications ≡ depth → IsFirstSide p shapes
      → applied_from p f n ps applications shapes old ≡ placed_from p ps (shape.App f args) applications shapes new

-- its arguments have the first fault
pub record Misapplies (p : Role) (f n depth : ℕ) (old : Reader) (e : SpecError) : Type 0 where
  pub by : e ≢ error.Memory → (ps : List Part) (applications : List Application) (shapes : List Shape) → length applications ≡ depth → IsFirstSide p shapes
      → as_error (applied_from p f n ps applications shapes old) ≡ Err e

abbrev pub AppliesAll : {X : Type 0} → Role → ℕ → ℕ → ℕ → Reader → Result X SpecError → List Shape → Reader → Type 0
AppliesAll p f n depth old (Ok x) args new = Applies p f n depth old args new
AppliesAll p f n depth old (Err e) args new = Misapplies p f n depth old e

-- what may stand behind an argument
abbrev pub behind : Role → Part
behind p = many (one terminal.Comma then pattern p) then one terminal.CloseParen

abbrev pub filled_from : Role → ℕ → ℕ → List Shape → List Part → List Application → List Shape → Reader → Outcome
filled_from p f n args ps applications shapes r = from (within (application p f n args ∷ applications) shapes) (behind p ∷ ps) r

-- so many arguments were read
pub record Filled (p : Role) (f n depth : ℕ) (old : Reader) (args : List Shape) (new : Reader) : Type 0 where
  pub by : (ps : List Part) (applications : List Application) (shapes : List Shape) → length applications ≡ depth → IsFirstSide p shapes
      → applied_from p f n ps applications shapes old ≡ filled_from p f n args ps applications shapes new

-- ---- marks between arguments

-- no argument begins, though the symbol has some
pub record LacksArguments (r : Reader) (e : SpecError) : Type 0 where
  pub unseen : sees terminal.OpenParen r.tokens.now ≡ false
  pub told : e ≡ error.Fault (refusal kind.WrongArity r)

-- no further argument begins
pub data LacksArgument (r : Reader) (e : SpecError) : Type 0 where
  too_few : sees terminal.CloseParen r.tokens.now ≡ true → e ≡ error.Fault (refusal kind.WrongArity r) → LacksArgument r e
  no_comma : sees terminal.CloseParen r.tokens.now ≡ false → Missed terminal.Comma r e → LacksArgument r e

-- the arguments do not end
pub data LacksEnd (r : Reader) (e : SpecError) : Type 0 where
  too_many : sees terminal.Comma r.tokens.now ≡ true → e ≡ error.Fault (refusal kind.WrongArity r) → LacksEnd r e
  no_end : sees terminal.Comma r.tokens.now ≡ false → Missed terminal.CloseParen r e → LacksEnd r e

-- ---- the rows of a name in a pattern

-- the limit of rules or of equations, at the first name of a left side
abbrev pub side_limit : Role → ℕ → ℕ → ℕ → Option LimitName
side_limit role.LeftSide depth rules equations = when (depth == 0 && nat_le (most limit.Rules) rules) limit.Rules
side_limit role.EquationLeft depth rules equations = when (depth == 0 && nat_le (most limit.Equations) equations) limit.Equations
side_limit _ depth rules equations = None

-- the limit of the nesting, or of the variables, and then that one
abbrev pub pattern_limit : Meaning → ℕ → List ℕ → Option LimitName → Option LimitName
pattern_limit (a_symbol f arity) depth bound side = if nat_lt 0 arity && nat_le (most limit.Nesting) depth then Some limit.Nesting else side
pattern_limit (a_variable v) depth bound side = if not (has bound v) && nat_le (most limit.Variables) (length bound) then Some limit.Variables else side
pattern_limit _ depth bound side = side

-- a name that may not stand there
abbrev pub misuse : Role → Meaning → ℕ → List ℕ → Option SpecKind
misuse p unknown depth bound = Some kind.UnknownName
misuse role.LeftSide (a_variable v) depth bound = if depth == 0 then Some kind.VariableLeft else when (has bound v) kind.NotLeftLinear
misuse role.RightSide (a_variable v) depth bound = when (not (has bound v)) kind.FreeVariable
misuse p m depth bound = None

-- the first of them, below so many open applications
abbrev pub pattern_fault : Role → Meaning → ℕ → Reader → Option SpecKind
pattern_fault p m depth r = or (option_map kind.Limit (pattern_limit m depth r.bound (side_limit p depth (length r.rules) (length r.equations)))) (misuse p m depth r.bound)

-- ---- what is read

-- only the bound variables and the tokens are others
pub record SameBut (old new : Reader) : Type 0 where
  pub state : state_of new ≡ state_of old
  pub end : end_of new ≡ end_of old

-- the states that may stand in a pattern are those below this number
abbrev pub state_count : Role → Reader → ℕ
state_count role.EntryWhole r = length r.initial.states
state_count _ r = 0

-- the shape is over the signature, its states are few, and its variables may stand there
pub record Fits (p : Role) (old : Reader) (s : Shape) (new : Reader) : Type 0 where
  pub over : IsTrue (shape_is_over old.signature s)
  pub below : IsTrue (shape_is_below (state_count p old) s)
  pub binds : Binds p old.bound (shape_occurrences s) new.bound
  pub same : SameBut old new

-- the same of shapes
pub record AllFit (p : Role) (old : Reader) (args : List Shape) (new : Reader) : Type 0 where
  pub over : IsTrue (list_all (shape_is_over old.signature) args)
  pub below : IsTrue (list_all (shape_is_below (state_count p old)) args)
  pub binds : Binds p old.bound (joined (map shape_occurrences args)) new.bound
  pub same : SameBut old new

-- a left side is no variable
abbrev pub IsNoVariable : Role → ℕ → Shape → Type 0
IsNoVariable role.LeftSide zero (shape.Var v) = ⊥
IsNoVariable p depth s = Unit {0}

-- ---- a name without arguments

-- the next token was taken
pub record Advanced (old new : Reader) : Type 0 where
  pub token : Lexeme
  pub tokens : old.tokens.now ≡ token ∷ new.tokens.now
  pub state : state_of new ≡ state_of old
  pub bound : new.bound ≡ old.bound
  pub end : end_of new ≡ end_of old

-- a `(` follows, and that is reported
pub record AdvancesToParen (k : SpecKind) (old : Reader) (e : SpecError) (new : Reader) : Type 0 where
  pub advanced : Advanced old new
  pub seen : sees terminal.OpenParen new.tokens.now ≡ true
  pub told : e ≡ error.Fault (refusal k new)

-- a name is taken, behind which no `(` may follow
abbrev pub EndsName : {X : Type 0} → SpecKind → Reader → Result X SpecError → Reader → Type 0
EndsName k old (Ok u) new = Advanced old new × (sees terminal.OpenParen new.tokens.now ≡ false)
EndsName k old (Err e) new = AdvancesToParen k old e new

-- a name stands next that may stand there
pub record HasHead (p : Role) (depth : ℕ) (r : Reader) (m : Meaning) : Type 0 where
  pub text : Text
  pub stands : Stands (terminal.Named p) r text
  pub means : meaning (state_of r) p text ≡ m
  pub fits : pattern_fault p m depth r ≡ None
