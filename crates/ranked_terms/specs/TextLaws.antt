-- Laws of printed texts and of positions.
use Rattle.std.specs.Prelude.{◌≡◌, List, IsTrue}
use Rattle.ranked_terms.specs.Names.{Symbol}
use Rattle.ranked_terms.specs.SignatureRules.{IsSignature}
use Rattle.ranked_terms.specs.Terms.{is_over}
use Rattle.ranked_terms.specs.Positions.{is_narrow}
use Rattle.ranked_terms.specs.Texts.{term_text}
use Rattle.ranked_terms.specs.declared.term.Term.{Term}

-- terms over a signature with one text are one term
abbrev pub TextsDiffer : Type 0
TextsDiffer = (s : List Symbol) → IsSignature s → (t u : Term) → IsTrue (is_over s t) → IsTrue (is_over s u) → term_text s t ≡ term_text s u → t ≡ u

-- each argument of a term over a signature can be named by 32 bits
abbrev pub OverIsNarrow : Type 0
OverIsNarrow = (s : List Symbol) → IsSignature s → (t : Term) → IsTrue (is_over s t) → IsTrue (is_narrow t)
