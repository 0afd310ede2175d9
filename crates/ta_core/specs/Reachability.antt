-- Reachable and forbidden terms of a specification (Feuillade, Genet and Viet Triem Tong, JAR 2004; Genet and Rusu, JSC 2010).
use Rattle.ranked_terms.specs.declared.term.Term.{Term}
use Rattle.trs_rules.specs.Derivations.{IsDerivation, LeadsTo}
use Rattle.trs_rules.specs.Steps.{Leads}
use Rattle.trs_rules.specs.declared.derivation.Derivation.{Derivation}
use Rattle.ta_core.specs.Languages.{Language}
use Rattle.ta_core.specs.declared.spec.Spec.{Spec}

-- a chain of rewriting steps leads from a term of the initial language to this term, in whatever number of steps
pub record Reachable (spec : Spec) (t : Term) : Type 0 where
  pub start : Term
  pub begins : Language spec.signature spec.initial start
  pub leads : Leads spec.rules start t

-- the term is in the language of the forbidden automaton
abbrev pub Forbidden : Spec → Term → Type 0
Forbidden spec t = Language spec.signature spec.forbidden t

-- the derivation starts in the initial language, each of its steps is one, and it leads to a forbidden term
pub record Replays (spec : Spec) (d : Derivation) : Type 0 where
  pub starts : Language spec.signature spec.initial d.start
  pub steps : IsDerivation spec.rules d
  pub last : Term
  pub leads : LeadsTo d last
  pub forbidden : Forbidden spec last
