-- Laws of derivations.
use Rattle.std.specs.Prelude.{◌≡◌, ◌↔◌, ℕ, List, length}
use Rattle.ranked_terms.specs.declared.term.Term.{Term}
use Rattle.trs_rules.specs.Rules.{RewriteRule}
use Rattle.trs_rules.specs.Counted.{LeadsIn}
use Rattle.trs_rules.specs.Derivations.{IsDerivation, LeadsTo}
use Rattle.trs_rules.specs.declared.derivation.Derivation.{Derivation}

-- a derivation of n steps leads from s to t
pub record IsDerivedIn (R : List RewriteRule) (n : ℕ) (s t : Term) : Type 0 where
  pub derivation : Derivation
  pub starts : derivation.start ≡ s
  pub count : length derivation.steps ≡ n
  pub steps : IsDerivation R derivation
  pub leads : LeadsTo derivation t

-- a derivation of n steps leads from s to t exactly where a chain of n steps does
abbrev pub DerivationsAreChains : Type 0
DerivationsAreChains = (R : List RewriteRule) (n : ℕ) (s t : Term) → IsDerivedIn R n s t ↔ LeadsIn R n s t
