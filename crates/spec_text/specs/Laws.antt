-- What is claimed of input texts (this project's own format).
use Rattle.std.specs.Prelude.{◌≡◌, ◌↔◌, ◌++◌, ℕ, List, Ok, Err}
use Rattle.std.specs.List.{IsDistinct}
use Rattle.std.specs.Str.{bytes_eq}
use Rattle.ranked_terms.specs.Names.{names_of}
use Rattle.ranked_terms.specs.SignatureRules.{IsSignature}
use Rattle.ta_core.specs.declared.spec.Spec.{Spec}
use Rattle.spec_text.specs.declared.fault.SpecFault.{SpecFault}
use Rattle.spec_text.specs.Declarations.{Declared}
use Rattle.spec_text.specs.Reading.{read}
use Rattle.spec_text.specs.SpecText.{SpecText}
use Rattle.spec_text.specs.Spelled.{IsSpecOf}
use Rattle.spec_text.specs.Faults.{SpecFaultAt}

-- the bytes are read to their end, and what they declare spells this spec
pub record IsRead (bytes : List ℕ) (spec : Spec) : Type 0 where
  pub declared : Declared
  pub no_fault : read bytes ≡ Ok declared
  pub spec_of : IsSpecOf declared spec

-- a text in which no row of the table of faults fits spells what is read in it
abbrev pub WhatIsReadIsSpelled : Type 0
WhatIsReadIsSpelled = (bytes : List ℕ) (spec : Spec) → IsRead bytes spec → SpecText bytes spec

-- and in a text that spells a spec no row fits, and that spec is read
abbrev pub WhatIsSpelledIsRead : Type 0
WhatIsSpelledIsRead = (bytes : List ℕ) (spec : Spec) → SpecText bytes spec → IsRead bytes spec

-- a text in which no row of the table of faults fits spells a spec
abbrev pub WhatHasNoFaultIsSpelled : Type 0
WhatHasNoFaultIsSpelled = (bytes : List ℕ) → ((f : SpecFault) → SpecFaultAt bytes f → ⊥) → (spec : Spec) × SpecText bytes spec

-- no text spells two specs
abbrev pub OneSpec : Type 0
OneSpec = (bytes : List ℕ) (a b : Spec) → SpecText bytes a → SpecText bytes b → a ≡ b

-- the fault that reading meets is the first one
abbrev pub FaultsAreFirst : Type 0
FaultsAreFirst = (bytes : List ℕ) (f : SpecFault) → (read bytes ≡ Err f) ↔ SpecFaultAt bytes f

-- a text that spells a specification has no fault
abbrev pub SpelledHasNoFault : Type 0
SpelledHasNoFault = (bytes : List ℕ) (spec : Spec) (f : SpecFault) → SpecText bytes spec → SpecFaultAt bytes f → ⊥

-- a text has at most one first fault
abbrev pub OneFirstFault : Type 0
OneFirstFault = (bytes : List ℕ) (f g : SpecFault) → SpecFaultAt bytes f → SpecFaultAt bytes g → f ≡ g

-- the symbols of a specification that a text spells are a signature, and no two symbols and variables have one name
abbrev pub SpelledNamesDiffer : Type 0
SpelledNamesDiffer = (bytes : List ℕ) (spec : Spec) → SpecText bytes spec → IsSignature spec.signature × IsDistinct bytes_eq (names_of spec.signature ++ spec.vars)
