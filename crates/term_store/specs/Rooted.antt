-- Matching over the terms of a store: a binding has the identity of each variable's term. These serve private contracts alone.
use Rattle.std.specs.Prelude.{◌≢◌, ℕ, ◌<◌, List, [], ◌∷◌, map, length, All, Contains, Option, Some, None, ◌==◌, if◌then◌else◌}
use Rattle.ranked_terms.specs.Terms.{instance_of}
use Rattle.ranked_terms.specs.declared.term.Term.{Term}
use Rattle.ranked_terms.specs.declared.term.Pattern.{Pattern}
use Rattle.trs_rules.specs.Rules.{RewriteRule}
use Rattle.trs_rules.specs.Steps.{RootStep}
use Rattle.ranked_terms.specs.Matching.{Agrees, IsBoundBy, binding_of}
use Rattle.term_store.specs.Store.{term_at}
use Rattle.term_store.specs.Found.{IsFound, HasTerm}
use Rattle.term_store.specs.declared.found.Found.{Found}

-- the identity bound to a variable
abbrev pub id_of : List (ℕ × ℕ) → ℕ → Option ℕ
id_of [] v = None
id_of (e ∷ b) v = if v == e.0 then Some e.1 else id_of b v

-- the binding with the terms in place of their identities
abbrev pub named : List Term → List (ℕ × ℕ) → List (ℕ × Term)
named terms b = map (λ e. (e.0, term_at terms e.1)) b

-- each identity is there
abbrev pub AreIds : List Term → List (ℕ × ℕ) → Type 0
AreIds terms b = All (λ e. e.1 < length terms) b

-- the match has succeeded: the binding has that instance besides
pub record IsMatch (p : Pattern) (id : ℕ) (terms : List Term) (before after : List (ℕ × ℕ)) : Type 0 where
  pub bound : IsBoundBy p (term_at terms id) (named terms before) (named terms after)
  pub ids : AreIds terms after

-- no substitution that agrees with the binding makes p into t
abbrev pub IsNoMatch : Pattern → Term → List (ℕ × Term) → Type 0
IsNoMatch p t binding = (θ : ℕ → Term) → Agrees θ binding → instance_of θ p ≢ t

-- the instance of the pattern by a binding
abbrev pub instance_by : List Term → List (ℕ × ℕ) → Pattern → Term
instance_by terms b p = instance_of (binding_of (named terms b)) p

-- the list has steps from s, and leads to whatever s steps to at the root by one of these rules, which stand with their root symbols
pub record AreFoundBy (R : List RewriteRule) (s : Term) (terms : List Term) (tried : List (ℕ × ℕ)) (founds : List Found) : Type 0 where
  pub steps : All (IsFound R s terms) founds
  pub all : (f i : ℕ) (t : Term) → Contains tried (f, i) → RootStep R i s t → HasTerm founds terms t
