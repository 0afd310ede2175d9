-- Pairs of a state and a low term with the terms' texts. These serve private contracts alone.
use Rattle.std.specs.Prelude.{◌≡◌, ℕ, List, map, All}
use Rattle.ranked_terms.specs.Names.{Symbol}
use Rattle.ranked_terms.specs.Texts.{term_text}
use Rattle.ranked_terms.specs.declared.term.Term.{Term}
use Rattle.term_store.specs.Store.{term_at}
use Rattle.derive_search.specs.declared.low_terms.Printed.{Printed}

-- the state and the identity
abbrev pub key_of : Printed → ℕ × ℕ
key_of e = (e.state, e.id)

-- the state and the term
abbrev pub named : List Term → Printed → ℕ × Term
named terms e = (e.state, term_at terms e.id)

-- the text is that of the term
abbrev pub HasText : List Symbol → List Term → Printed → Type 0
HasText signature terms e = e.text.items ≡ term_text signature (term_at terms e.id)

-- these pairs in this order, with the terms' texts
pub record ArePrinted (signature : List Symbol) (terms : List Term) (pairs : List (ℕ × ℕ)) (printed : List Printed) : Type 0 where
  pub are : map key_of printed ≡ pairs
  pub texts : All (HasText signature terms) printed
