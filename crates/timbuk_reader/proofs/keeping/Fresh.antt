-- Where nothing is declared but symbols and variables.
use Rattle.std.proofs.Common.{◌≡◌, true, List, [], ◌∷◌, refl, sym, ap, ◌∙◌}
use Rattle.std.specs.Prelude.{map}
use Rattle.ranked_terms.specs.Names.{Symbol}
use Rattle.ta_core.specs.SpecRules.{rules_are_over, equations_are_over, entries_are_over}
use Rattle.timbuk_reader.specs.declared.state.Reader.{Reader}
use Rattle.spec_text.specs.Declarations.{Declared, nothing}
use Rattle.timbuk_reader.specs.Kept.{trans_are_over}
use Rattle.timbuk_reader.specs.View.{state_of}
use Rattle.timbuk_reader.specs.Reads.{IsFresh}

nil_by : {A B : Type 0} (f : A → B) (xs : List A) → map f xs ≡ [] → xs ≡ []
nil_by f [] e = refl
nil_by f (x ∷ xs) e = cc

module _ (r : Reader) (signature : List Symbol) (h : IsFresh r) where
  pub fresh_rules : rules_are_over signature r.rules ≡ true
  fresh_rules = ap (rules_are_over signature) (nil_by _ r.rules (ap (λ (d : Declared). d.rules) h.state))

  pub fresh_equations : equations_are_over signature r.equations ≡ true
  fresh_equations = ap (equations_are_over signature) (nil_by _ r.equations (ap (λ (d : Declared). d.equations) h.state))

  pub fresh_entries : entries_are_over signature r.entries ≡ true
  fresh_entries = ap (entries_are_over signature) (ap (λ (d : Declared). d.entries) h.state)

  pub fresh_initial : trans_are_over signature r.initial.trans ≡ true
  fresh_initial = ap (trans_are_over signature) (ap (λ (d : Declared). d.initial.trans) h.state)

  pub fresh_second : trans_are_over signature r.second.trans ≡ true
  fresh_second = ap (trans_are_over signature) (ap (λ (d : Declared). d.second.trans) h.state)

-- a reader of the same state
pub fresh_same : (r u : Reader) → IsFresh r → state_of u ≡ state_of r → IsFresh u
fresh_same r u h e = record { state = e ∙ h.state ∙ (λ i. record nothing { symbols = (sym e i).symbols; variables = (sym e i).variables }) }
