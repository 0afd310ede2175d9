-- Merging keeps coherence (Genet and Rusu, JSC 2010).
use Rattle.std.specs.Prelude.{ℕ, List}
use Rattle.std.specs.List.{Contains}
use Rattle.ranked_terms.specs.declared.term.Term.{Term}
use Rattle.trs_rules.specs.Rules.{RewriteRule, RewriteEquation}
use Rattle.trs_rules.specs.Modulo.{EqualModulo}
use Rattle.ta_core.specs.TreeAutomaton.{TreeAutomaton, IsSound}
use Rattle.ta_core.specs.Acceptance.{image}
use Rattle.ta_core.specs.Coherence.{IsCoherent}
use Rattle.eq_merge.specs.Quotients.{quotient, joining}
use Rattle.eq_merge.specs.Merging.{Forces, Merged}

-- a coherent automaton, with terms that are equal modulo the equations to the former ones at the states that these have become
pub record StaysEqual (A B : TreeAutomaton) (h : List ℕ) (R : List RewriteRule) (E : List RewriteEquation) (m : ℕ → Term) : Type 0 where
  pub terms : ℕ → Term
  pub coherent : IsCoherent B R E terms
  pub equal : (q : ℕ) → Contains A.states q → EqualModulo E (m q) (terms (image h q))

-- a coherent automaton becomes a coherent one, with equal representatives, whatever the rules
abbrev pub MergeKeepsCoherence : List RewriteEquation → TreeAutomaton → TreeAutomaton → List ℕ → Type 0
MergeKeepsCoherence E A B h = (R : List RewriteRule) (m : ℕ → Term) → IsCoherent A R E m → StaysEqual A B h R E m

-- if the two states are forced together
abbrev pub JoinKeepsCoherence : TreeAutomaton → ℕ → ℕ → TreeAutomaton → List ℕ → Type 0
JoinKeepsCoherence A p q B h = (E : List RewriteEquation) → Forces A E p q → MergeKeepsCoherence E A B h

-- ---- laws

-- joining two forced states keeps coherence, and so does merging
abbrev pub JoinsStayCoherent : Type 0
JoinsStayCoherent = (A : TreeAutomaton) (p q : ℕ) → IsSound A → JoinKeepsCoherence A p q (quotient A (joining A.next p q)) (joining A.next p q)

abbrev pub MergesStayCoherent : Type 0
MergesStayCoherent = (E : List RewriteEquation) (A B : TreeAutomaton) (h : List ℕ) → IsSound A → Merged E A B h → MergeKeepsCoherence E A B h
