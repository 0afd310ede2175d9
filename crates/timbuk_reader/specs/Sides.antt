-- Reading a side of a rule or of an equation.
use Rattle.std.specs.Prelude.{Result, Ok, Err, IsTrue}
use Rattle.ranked_terms.specs.Terms.{occurrences, pattern_is_over}
use Rattle.ranked_terms.specs.declared.term.Pattern.{Pattern}
use Rattle.timbuk_grammar.specs.declared.terminal.Role.{Role}
use Rattle.timbuk_grammar.specs.declared.terminal.Role.TheVariants as role
use Rattle.timbuk_reader.specs.declared.fault.SpecError.{SpecError}
use Rattle.timbuk_reader.specs.declared.state.Reader.{Reader}
use Rattle.spec_text.specs.Naming.{shape_of}
use Rattle.timbuk_reader.specs.Patterns.{Builds, Breaks, IsNoVariable, SameBut}
use Rattle.spec_text.specs.lemmas.Variables.{Binds}

-- the places of sides
abbrev pub IsSideRole : Role → Type 0
IsSideRole role.LeftSide = Unit {0}
IsSideRole role.RightSide = Unit {0}
IsSideRole role.EquationLeft = Unit {0}
IsSideRole role.EquationRight = Unit {0}
IsSideRole _ = ⊥

-- the pattern is over the signature, and its variables may stand there
pub record IsSide (p : Role) (old : Reader) (side : Pattern) (new : Reader) : Type 0 where
  pub builds : Builds p 0 old (shape_of side) new
  pub over : IsTrue (pattern_is_over old.signature side)
  pub binds : Binds p old.bound (occurrences side) new.bound
  pub no_variable : IsNoVariable p 0 (shape_of side)
  pub same : SameBut old new

abbrev pub ReadsSide : Role → Reader → Result Pattern SpecError → Reader → Type 0
ReadsSide p old (Ok side) new = IsSide p old side new
ReadsSide p old (Err e) new = Breaks p 0 old e
