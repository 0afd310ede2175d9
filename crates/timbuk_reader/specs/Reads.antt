-- What the reader's functions do: what was read is what the definition has, whatever stands behind it.
use Rattle.std.specs.Prelude.{◌≡◌, ◌≢◌, ◌<◌, ◌≤◌, true, false, List, [], ◌∷◌, length, None, Result, Ok, Err}
use Rattle.timbuk_lex.specs.declared.lexeme.Lexeme.{Lexeme}
use Rattle.timbuk_grammar.specs.declared.terminal.Terminal.{Terminal}
use Rattle.timbuk_grammar.specs.declared.terminal.Terminal.TheVariants as terminal
use Rattle.timbuk_grammar.specs.Matching.{matches}
use Rattle.timbuk_grammar.specs.Grammar.{Part}
use Rattle.spec_text.specs.declared.fault.SpecKind.TheVariants as kind
use Rattle.spec_text.specs.declared.fault.LimitName.TheVariants as limit
use Rattle.spec_text.specs.Limits.{most}
use Rattle.timbuk_reader.specs.declared.fault.SpecError.{SpecError}
use Rattle.timbuk_reader.specs.declared.fault.SpecError.TheVariants as error
use Rattle.timbuk_reader.specs.declared.state.Reader.{Reader}
use Rattle.ranked_terms.specs.Names.{Symbol, number_of}
use Rattle.ranked_terms.specs.Words.{IsNameText}
use Rattle.spec_text.specs.Declarations.{Text, any, nothing}
use Rattle.timbuk_reader.specs.View.{Open, closed, state_of, end_of, from, as_error, refusal}
use Rattle.spec_text.specs.Reading.{sees}

-- ---- parts

-- the part was read
pub record Advances (p : Part) (o : Open) (old : Reader) (q : Open) (new : Reader) : Type 0 where
  pub by : (ps : List Part) → from o (p ∷ ps) old ≡ from q ps new

-- the part has the first fault, unless the memory ran out
pub record Stops (p : Part) (o : Open) (old : Reader) (e : SpecError) : Type 0 where
  pub by : e ≢ error.Memory → (ps : List Part) → as_error (from o (p ∷ ps) old) ≡ Err e

-- The part was read, from one open declaration to the other, or has the first fault. That the memory ran out says nothing.
abbrev pub Reads : {X : Type 0} → Part → Open → Reader → Result X SpecError → Open → Reader → Type 0
Reads p o old (Ok x) q new = Advances p o old q new
Reads p o old (Err e) q new = Stops p o old e

-- what the one part gives from the one is what the other gives from the other
pub record Turns (p : Part) (old : Reader) (q : Part) (new : Reader) : Type 0 where
  pub by : (ps : List Part) → from closed (p ∷ ps) old ≡ from closed (q ∷ ps) new

-- ---- one token

-- no application is open, and no token before decides on this one
pub record IsCalm (o : Open) : Type 0 where
  pub applications : o.applications ≡ []
  pub last : o.last ≡ any

-- the terminals on which no row of names, limits or arguments speaks
abbrev pub IsMark : Terminal → Type 0
IsMark terminal.Trs = ⊥
IsMark terminal.Automaton = ⊥
IsMark terminal.Equations = ⊥
IsMark terminal.Approximation = ⊥
IsMark terminal.CloseParen = ⊥
IsMark terminal.CloseEntries = ⊥
IsMark (terminal.Named place) = ⊥
IsMark terminal.Number = ⊥
IsMark _ = Unit {0}

-- the terminals of names and arities
abbrev pub IsWordly : Terminal → Type 0
IsWordly (terminal.Named place) = Unit {0}
IsWordly terminal.Number = Unit {0}
IsWordly _ = ⊥

-- the next token is what the terminal stands for, and was taken
pub record Took (t : Terminal) (old new : Reader) : Type 0 where
  pub token : Lexeme
  pub matched : matches t token ≡ true
  pub tokens : old.tokens.now ≡ token ∷ new.tokens.now
  pub state : state_of new ≡ state_of old
  pub bound : new.bound ≡ old.bound
  pub end : end_of new ≡ end_of old

-- the next token isn't what the terminal stands for, and that is reported
pub record Missed (t : Terminal) (old : Reader) (e : SpecError) : Type 0 where
  pub unseen : sees t old.tokens.now ≡ false
  pub told : e ≡ error.Fault (refusal kind.Expected old)

-- a mark is taken or missed
abbrev pub Takes : {X : Type 0} → Terminal → Reader → Result X SpecError → Reader → Type 0
Takes t old (Ok x) new = Took t old new
Takes t old (Err e) new = Missed t old e

-- this short word stands next, at this terminal
pub record Stands (t : Terminal) (r : Reader) (text : Text) : Type 0 where
  pub token : Lexeme
  pub rest : List Lexeme
  pub tokens : r.tokens.now ≡ token ∷ rest
  pub matched : matches t token ≡ true
  pub text_is : token.text ≡ text
  pub short : length text ≤ most limit.NameBytes

-- a word that is too long stands next, at this terminal
pub record IsLong (t : Terminal) (r : Reader) : Type 0 where
  pub token : Lexeme
  pub rest : List Lexeme
  pub tokens : r.tokens.now ≡ token ∷ rest
  pub matched : matches t token ≡ true
  pub long : most limit.NameBytes < length token.text

-- no word stands next, or a long one, and that is reported
pub data HasNoWord (t : Terminal) (r : Reader) (e : SpecError) : Type 0 where
  missed : Missed t r e → HasNoWord t r e
  long : IsLong t r → e ≡ error.Fault (refusal (kind.Limit limit.NameBytes) r) → HasNoWord t r e

-- ---- the head of a text

-- nothing is declared but symbols and variables
pub record IsFresh (r : Reader) : Type 0 where
  pub state : state_of r ≡ record nothing { symbols = r.signature; variables = r.variables }

-- a name for a further symbol
pub record IsNewSymbol (signature : List Symbol) (name : Text) : Type 0 where
  pub text : IsNameText name
  pub absent : number_of signature name ≡ None
  pub room : length signature < most limit.Symbols
