-- Laws of steps and chains.
use Rattle.std.specs.Prelude.{◌≡◌, ◌≢◌, ◌↔◌, ℕ, List, [], ◌∷◌, ◌++◌, IsTrue, All}
use Rattle.ranked_terms.specs.Names.{Symbol}
use Rattle.ranked_terms.specs.Terms.{is_over, pattern_is_over}
use Rattle.ranked_terms.specs.declared.term.Term.{Term}
use Rattle.trs_rules.specs.Rules.{RewriteRule, IsRule}
use Rattle.trs_rules.specs.Steps.{StepAt, Step, Chain, Leads}

-- a step at a position is a step
abbrev pub PlacedStepsAreSteps : Type 0
PlacedStepsAreSteps = (R : List RewriteRule) (i : ℕ) (position : List ℕ) (s t : Term) → StepAt R i position s t → Step R s t

-- a step by some rule at some position
pub record SomeStepAt (R : List RewriteRule) (s t : Term) : Type 0 where
  pub rule : ℕ
  pub position : List ℕ
  pub step : StepAt R rule position s t

-- each step has a rule and a position
abbrev pub StepsArePlaced : Type 0
StepsArePlaced = (R : List RewriteRule) (s t : Term) → Step R s t → SomeStepAt R s t

-- a chain is a list that is not empty and of which each term steps to the next
abbrev pub ChainsAreTheirSteps : Type 0
ChainsAreTheirSteps = (R : List RewriteRule) (ts : List Term) → Chain R ts ↔ ((ts ≢ []) × ((before after : List Term) (s t : Term) → ts ≡ before ++ s ∷ t ∷ after → Step R s t))

-- a chain up to a term and a chain from it are one chain
abbrev pub ChainsAppend : Type 0
ChainsAppend = (R : List RewriteRule) (before after : List Term) (u : Term) → Chain R (before ++ u ∷ []) → Chain R (u ∷ after) → Chain R (before ++ u ∷ after)

-- a chain leads from each term to itself, from a term to what it steps to, and on from where another has led
abbrev pub LeadsToItself : Type 0
LeadsToItself = (R : List RewriteRule) (t : Term) → Leads R t t

abbrev pub StepsLead : Type 0
StepsLead = (R : List RewriteRule) (s t : Term) → Step R s t → Leads R s t

abbrev pub LeadsAreTransitive : Type 0
LeadsAreTransitive = (R : List RewriteRule) (s t u : Term) → Leads R s t → Leads R t u → Leads R s u

-- more rules keep the steps
abbrev pub MoreRulesKeepSteps : Type 0
MoreRulesKeepSteps = (R later : List RewriteRule) (s t : Term) → Step R s t → Step (R ++ later) s t

-- a rule over a signature
pub record IsRuleOver (signature : List Symbol) (rule : RewriteRule) : Type 0 where
  pub is_rule : IsRule rule
  pub left_is_over : IsTrue (pattern_is_over signature rule.left)
  pub right_is_over : IsTrue (pattern_is_over signature rule.right)

-- rules over a signature rewrite terms over it to terms over it
abbrev pub StepsStayOver : Type 0
StepsStayOver = (signature : List Symbol) (R : List RewriteRule) (s t : Term) → All (IsRuleOver signature) R → IsTrue (is_over signature s) → Step R s t → IsTrue (is_over signature t)

abbrev pub ChainsStayOver : Type 0
ChainsStayOver = (signature : List Symbol) (R : List RewriteRule) (s t : Term) → All (IsRuleOver signature) R → IsTrue (is_over signature s) → Leads R s t → IsTrue (is_over signature t)
