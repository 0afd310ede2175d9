-- Laws of stages and of the ends of completion.
use Rattle.std.specs.Prelude.{◌≡◌, ℕ, List, All}
use Rattle.ranked_terms.specs.Terms.{size_of}
use Rattle.ranked_terms.specs.declared.term.Term.{Term}
use Rattle.trs_rules.specs.Rules.{IsEquation}
use Rattle.ta_core.specs.TreeAutomaton.{TreeAutomaton}
use Rattle.ta_core.specs.declared.spec.Spec.{Spec}
use Rattle.ta_core.specs.declared.options.Options.{Options}
use Rattle.ta_clean.specs.declared.witness.Least.{Least}
use Rattle.ta_clean.specs.declared.witness.Least.TheVariants as least
use Rattle.completion.specs.Stages.{IsStage, Ends}
use Rattle.completion.specs.declared.end.StageEnd.{StageEnd}
use Rattle.completion.specs.declared.end.StageEnd.TheVariants as end

-- a stage is one automaton with one map
abbrev pub StagesAreOne : Type 0
StagesAreOne = (spec : Spec) (i : ℕ) (A B : TreeAutomaton) (h g : List ℕ) → IsStage spec i A h → IsStage spec i B g → (A ≡ B) × (h ≡ g)

-- an automaton and a map at the number
pub record HasStage (spec : Spec) (i : ℕ) : Type 0 where
  pub automaton : TreeAutomaton
  pub places : List ℕ
  pub stage : IsStage spec i automaton places

-- each number has a stage, since stages know no limit
abbrev pub StagesAreThere : Type 0
StagesAreThere = (spec : Spec) → All IsEquation spec.equations → (i : ℕ) → HasStage spec i

-- two terms of one size, or neither is told
pub data AreOneSize : Least → Least → Type 0 where
  terms : {t u : Term} → size_of t ≡ size_of u → AreOneSize (least.Term t) (least.Term u)
  large : AreOneSize least.Large least.Large

-- one end at one stage, but for the common term that is told
pub data AreOneEnd : StageEnd → StageEnd → Type 0 where
  meets : {i : ℕ} {v w : Least} → AreOneSize v w → AreOneEnd (end.Meets i v) (end.Meets i w)
  same : {e : StageEnd} → AreOneEnd e e

-- an end is one but for its common term
abbrev pub EndsAreOne : Type 0
EndsAreOne = (spec : Spec) (options : Options) (A B : TreeAutomaton) (h g : List ℕ) (d e : StageEnd) → Ends spec options A h d → Ends spec options B g e →
    (A ≡ B) × (h ≡ g) × AreOneEnd d e
