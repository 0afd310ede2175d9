-- Laws of acceptance (Feuillade, Genet and Viet Triem Tong, JAR 2004).
use Rattle.std.specs.Prelude.{ℕ, List, All, IsTrue}
use Rattle.std.specs.List.{range_with_len}
use Rattle.ranked_terms.specs.Names.{Symbol}
use Rattle.ranked_terms.specs.Terms.{config_of, is_over}
use Rattle.ranked_terms.specs.declared.term.Term.{Term}
use Rattle.trs_rules.specs.Rules.{IsRule}
use Rattle.ta_core.specs.TreeAutomaton.{TreeAutomaton, IsSound}
use Rattle.ta_core.specs.Runs.{Runs}
use Rattle.ta_core.specs.Languages.{Accepts}
use Rattle.ta_core.specs.SpecRules.{automaton_is_over}
use Rattle.ta_core.specs.Reachability.{Reachable, Forbidden}
use Rattle.ta_core.specs.Acceptance.{IsContained, IsAccepted, image}
use Rattle.ta_core.specs.declared.spec.Spec.{Spec}

-- what runs to a state of a contained automaton runs to the state that it goes to
abbrev pub ContainedKeepsRuns : Type 0
ContainedKeepsRuns = (A₀ A : TreeAutomaton) (h : List ℕ) → IsContained A₀ A h → (t : Term) (q : ℕ) → Runs A₀ (config_of t) q → Runs A (config_of t) (image h q)

-- so the language of a contained automaton is contained
abbrev pub ContainedKeepsAccepted : Type 0
ContainedKeepsAccepted = (A₀ A : TreeAutomaton) (h : List ℕ) → IsContained A₀ A h → (t : Term) → Accepts A₀ t → Accepts A t

-- each automaton contains itself, by the map that moves no state
abbrev pub ContainsItself : Type 0
ContainsItself = (A : TreeAutomaton) → IsSound A → IsContained A A (range_with_len 0 A.next)

-- what an automaton over a signature accepts is over the signature
abbrev pub AcceptedTermsAreOver : Type 0
AcceptedTermsAreOver = (signature : List Symbol) (A : TreeAutomaton) → IsTrue (automaton_is_over signature A) → (t : Term) → Accepts A t → IsTrue (is_over signature t)

-- where an automaton is accepted, no term that is reachable from the initial language, in whatever number of steps, is forbidden
abbrev pub AcceptedIsSafe : Type 0
AcceptedIsSafe = (spec : Spec) (A : TreeAutomaton) (h : List ℕ) → IsSound A → All IsRule spec.rules → IsAccepted spec A h → (t : Term) → Reachable spec t → Forbidden spec t → ⊥
