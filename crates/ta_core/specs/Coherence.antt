-- Coherence: when what an automaton accepts is what rewriting reaches modulo equations, and automata of which it always holds (Genet and Rusu, JSC 2010; these forms are this project's own).
use Rattle.std.specs.Prelude.{◌≡◌, ◌↔◌, ℕ, ◌<◌, List, [], All, Contains}
use Rattle.ranked_terms.specs.Terms.{config_of}
use Rattle.ranked_terms.specs.declared.term.Term.{Term}
use Rattle.trs_rules.specs.Rules.{RewriteRule, RewriteEquation}
use Rattle.trs_rules.specs.Modulo.{EqualModulo, Modulo}
use Rattle.ta_core.specs.TreeAutomaton.{TreeAutomaton}
use Rattle.ta_core.specs.Runs.{Runs, RunsPlain}
use Rattle.ta_core.specs.Acceptance.{image}
use Rattle.ta_core.specs.declared.trans.Trans.{Trans}

-- each state has a representative, which runs to it without epsilon transitions; whatever runs to it without epsilon transitions is equal to the
-- representative; whatever runs to it is reached from the representative
pub record IsCoherent (A : TreeAutomaton) (R : List RewriteRule) (E : List RewriteEquation) (m : ℕ → Term) : Type 0 where
  pub represents : (q : ℕ) → Contains A.states q → RunsPlain A (config_of (m q)) q
  pub equal : (q : ℕ) (t : Term) → Contains A.states q → RunsPlain A (config_of t) q → EqualModulo E (m q) t
  pub reached : (q : ℕ) (t : Term) → Contains A.states q → Runs A (config_of t) q → Modulo R E (m q) t

-- some final state of the one goes to the state
pub record IsFinalOf (A₀ : TreeAutomaton) (h : List ℕ) (q : ℕ) : Type 0 where
  pub origin : ℕ
  pub final : Contains A₀.finals origin
  pub goes : image h origin ≡ q

-- the representative of a state is equal to that of the state that it has become, and the final states are those that final states have become
pub record IsFaithful (E : List RewriteEquation) (A₀ : TreeAutomaton) (m₀ : ℕ → Term) (A : TreeAutomaton) (h : List ℕ) (m : ℕ → Term) : Type 0 where
  pub equal : (q : ℕ) → Contains A₀.states q → EqualModulo E (m₀ q) (m (image h q))
  pub finals : (q : ℕ) → Contains A.finals q ↔ IsFinalOf A₀ h q

-- exactly one transition leads to the state, and its arguments are smaller states
pub record HasOneTrans (A : TreeAutomaton) (q : ℕ) : Type 0 where
  pub trans : Trans
  pub has : Contains A.trans trans
  pub leads : trans.to ≡ q
  pub only : (t : Trans) → Contains A.trans t → t.to ≡ q → t ≡ trans
  pub smaller : All (λ p. p < q) trans.args

-- no epsilon transition, and to each state exactly one transition, whose arguments are all smaller states
pub record IsSingular (A : TreeAutomaton) : Type 0 where
  pub no_eps : A.eps ≡ []
  pub each : (q : ℕ) → Contains A.states q → HasOneTrans A q
