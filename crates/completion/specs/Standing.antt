-- Where completion stands, and what always holds of it.
use Rattle.std.specs.Prelude.{◌≡◌, ◌⊎◌, ℕ, ◌+◌, ◌<◌, ◌^◌, List, Option, Some, None, length, All, Contains}
use Rattle.trs_rules.specs.declared.sigma.Pair.{Pair}
use Rattle.ta_core.specs.TreeAutomaton.{TreeAutomaton, IsTransOf}
use Rattle.ta_core.specs.Acceptance.{image}
use Rattle.ta_core.specs.declared.trans.Trans.{Trans}
use Rattle.ta_core.specs.declared.spec.Spec.{Spec}
use Rattle.ta_core.specs.declared.options.Options.{Options}
use Rattle.ta_core.specs.Closure.{AreOpenPairs}
use Rattle.ta_clean.specs.declared.witness.Witness.{Witness}
use Rattle.ta_clean.specs.declared.witness.Witness.TheVariants as witness
use Rattle.ta_clean.specs.declared.witness.Least.{Least}
use Rattle.ta_clean.specs.declared.witness.Least.TheVariants as least
use Rattle.normalise.specs.Normalising.{NormalisedAll}
use Rattle.eq_merge.specs.Quotients.{renamed, followed}
use Rattle.eq_merge.specs.Merging.{Merged}
use Rattle.completion.specs.Stages.{IsStage, IsRound, EndsAt, GoesOn, GoesOnBefore, context_of}
use Rattle.completion.specs.declared.rounds.Turn.{Turn}
use Rattle.completion.specs.declared.rounds.Turn.TheVariants as turn

-- a specification, its options, an automaton, and which state each state of the first stage has become
pub record Standing : Type 0 where
  pub spec : Spec
  pub options : Options
  pub automaton : TreeAutomaton
  pub places : List ℕ

-- the map has a place for each state of the first stage, and each place is a state of the automaton
pub record HasPlaces (spec : Spec) (A : TreeAutomaton) (h : List ℕ) : Type 0 where
  pub each : length h ≡ spec.initial.next + spec.extra
  pub states : All (Contains A.states) h

-- ---- what the initial automaton has is there. This serves private contracts alone

abbrev pub Follows : TreeAutomaton → ℕ → ℕ → Type 0
Follows B p q = (p ≡ q) ⊎ Contains B.eps (p, q)

-- states, transitions, epsilon transitions and final states of the one are there in the other, by the map
pub record Carries (A B : TreeAutomaton) (h : List ℕ) : Type 0 where
  pub states : (q : ℕ) → Contains A.states q → Contains B.states (image h q)
  pub trans : (t : Trans) → IsTransOf A.states t → Contains A.trans t → Contains B.trans (renamed h t)
  pub eps : (p q : ℕ) → Contains A.states p → Contains A.states q → Contains A.eps (p, q) → Follows B (image h p) (image h q)
  pub finals : (q : ℕ) → Contains A.states q → Contains A.finals q → Contains B.finals (image h q)

-- it always holds of a core
pub record IsStanding (s : Standing) : Type 0 where
  pub places : HasPlaces s.spec s.automaton s.places
  pub carries : Carries s.spec.initial s.automaton s.places
  pub few_rules : length s.spec.rules < 2 ^ 32

-- ---- at work

-- it stands at the stage of the number, and nothing ends completion before
pub record StandsAt (s : Standing) (number : ℕ) : Type 0 where
  pub stage : IsStage s.spec number s.automaton s.places
  pub before : GoesOnBefore s.spec s.options number

-- what a witness shows, if it shows a term
abbrev pub told : Witness → Option Least
told witness.None = None
told (witness.Term t) = Some (least.Term t)
told witness.Large = Some least.Large

-- all open pairs, normalised one after the other, give the automaton
pub record IsResolved (s : Standing) (grown : TreeAutomaton) : Type 0 where
  pub pairs : List Pair
  pub are_open : AreOpenPairs s.automaton s.spec.rules pairs
  pub normalised : NormalisedAll (context_of s.spec s.places) s.automaton pairs grown

-- what there is to say at the number: an end, or nothing ends completion and the open pairs are normalised
abbrev pub Turns : Standing → ℕ → Turn → Type 0
Turns s number (turn.Ends e) = EndsAt s.spec s.options number s.automaton s.places e
Turns s number (turn.Grown grown) = GoesOn s.spec s.options number s.automaton s.places × IsResolved s grown

-- the automaton, merged, and the map, followed by what merging has made of each state
pub record IsMerged (s : Standing) (grown A : TreeAutomaton) (h : List ℕ) : Type 0 where
  pub classes : List ℕ
  pub merged : Merged s.spec.equations grown A classes
  pub places : h ≡ followed s.places classes

-- nothing ends completion at the number, and a round leads on
pub record IsPassed (s : Standing) (number : ℕ) (A : TreeAutomaton) (h : List ℕ) : Type 0 where
  pub goes_on : GoesOn s.spec s.options number s.automaton s.places
  pub round : IsRound s.spec s.automaton s.places A h

-- it is of this specification and these options, and stands at the stage of the number
pub record Reaches (spec : Spec) (options : Options) (s : Standing) (number : ℕ) : Type 0 where
  pub same_spec : s.spec ≡ spec
  pub same_options : s.options ≡ options
  pub stands : StandsAt s number
