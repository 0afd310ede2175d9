-- The stages of completion, and the ends of a bounded one (Feuillade, Genet and Viet Triem Tong, JAR 2004; Genet and Rusu, JSC 2010; the order of the pairs
-- of a round, the numbering of states and the limits are this project's own).
use Rattle.std.specs.Prelude.{◌≡◌, ◌≢◌, ℕ, ◌+◌, ◌<◌, ◌≤◌, List, ◌++◌, length}
use Rattle.std.specs.List.{range_with_len}
use Rattle.ranked_terms.specs.declared.term.Term.{Term}
use Rattle.trs_rules.specs.declared.sigma.Pair.{Pair}
use Rattle.ta_core.specs.TreeAutomaton.{TreeAutomaton}
use Rattle.ta_core.specs.Languages.{Language}
use Rattle.ta_core.specs.Reachability.{Forbidden}
use Rattle.ta_core.specs.Acceptance.{Misses}
use Rattle.ta_core.specs.Closure.{Closed, AreOpenPairs}
use Rattle.ta_core.specs.declared.spec.Spec.{Spec}
use Rattle.ta_core.specs.declared.options.Options.{Options}
use Rattle.ta_clean.specs.Least.{IsSmallest, IsLarge}
use Rattle.ta_clean.specs.declared.witness.Least.{Least}
use Rattle.ta_clean.specs.declared.witness.Least.TheVariants as least
use Rattle.normalise.specs.Normalising.{Context, by, NormalisedAll, NeedMoreFor}
use Rattle.eq_merge.specs.Quotients.{apart, followed}
use Rattle.eq_merge.specs.Merging.{Merged}
use Rattle.completion.specs.declared.end.StageEnd.{StageEnd}
use Rattle.completion.specs.declared.end.StageEnd.TheVariants as end

-- ---- stages

-- the initial automaton with the approximation's states after its own
abbrev pub started : Spec → TreeAutomaton
started spec = record spec.initial { states = spec.initial.states ++ range_with_len spec.initial.next spec.extra; next = spec.initial.next + spec.extra }

-- pairs of the specification are normalised by its entries and rules; the states that entries name are read through the map
abbrev pub context_of : Spec → List ℕ → Context
context_of spec h = by spec.entries h spec.rules

-- one round: all open pairs are normalised in their order, each whether or not an earlier one has closed it meanwhile, and then the automaton is merged; the
-- map is followed by what merging has made of each state
pub record IsRound (spec : Spec) (A : TreeAutomaton) (h : List ℕ) (B : TreeAutomaton) (g : List ℕ) : Type 0 where
  pub pairs : List Pair
  pub are_open : AreOpenPairs A spec.rules pairs
  pub grown : TreeAutomaton
  pub normalised : NormalisedAll (context_of spec h) A pairs grown
  pub classes : List ℕ
  pub merged : Merged spec.equations grown B classes
  pub places : g ≡ followed h classes

-- the stage of a number: its automaton, and which state each state of the first stage has become. Stages know no limit
pub data IsStage (spec : Spec) : ℕ → TreeAutomaton → List ℕ → Type 0 where
  start : IsStage spec 0 (started spec) (apart (started spec).next)
  round : {i : ℕ} {A B : TreeAutomaton} {h g : List ℕ} → IsStage spec i A h → IsRound spec A h B g → IsStage spec (i + 1) B g

-- ---- common terms

-- the ground term is in the language of the automaton, and forbidden
pub record IsMet (spec : Spec) (A : TreeAutomaton) (t : Term) : Type 0 where
  pub accepted : Language spec.signature A t
  pub forbidden : Forbidden spec t

-- such a term of least size, or that there is one and each has more than 1,024 symbols
abbrev pub IsLeastMet : Spec → TreeAutomaton → Least → Type 0
IsLeastMet spec A (least.Term t) = IsSmallest (IsMet spec A) t
IsLeastMet spec A least.Large = IsLarge (IsMet spec A)

-- ---- ends

-- what may end a bounded completion at stage i, the first that holds in this order: a common term; no open pair; no round is left; more open pairs than the
-- limit; a round in which a fresh state is needed while `next` is at the limit
pub data EndsAt (spec : Spec) (options : Options) (i : ℕ) (A : TreeAutomaton) (h : List ℕ) : StageEnd → Type 0 where
  meets : {w : Least} → IsLeastMet spec A w → EndsAt spec options i A h (end.Meets i w)
  closed : Misses spec.signature A spec.forbidden → Closed A spec.rules → EndsAt spec options i A h (end.Closed i)
  rounds : Misses spec.signature A spec.forbidden → (Closed A spec.rules → ⊥) → i ≡ options.rounds → EndsAt spec options i A h (end.Rounds i)
  pairs : {pairs : List Pair} → Misses spec.signature A spec.forbidden → i ≢ options.rounds → AreOpenPairs A spec.rules pairs → options.pairs < length pairs →
      EndsAt spec options i A h (end.Pairs i)
  states : {pairs : List Pair} → Misses spec.signature A spec.forbidden → i ≢ options.rounds → AreOpenPairs A spec.rules pairs → length pairs ≤ options.pairs →
      NeedMoreFor (context_of spec h) options.states A pairs → EndsAt spec options i A h (end.States i)

-- nothing ends completion at this stage
abbrev pub GoesOn : Spec → Options → ℕ → TreeAutomaton → List ℕ → Type 0
GoesOn spec options i A h = (e : StageEnd) → EndsAt spec options i A h e → ⊥

-- nothing ends completion at any stage before this number
abbrev pub GoesOnBefore : Spec → Options → ℕ → Type 0
GoesOnBefore spec options n = (j : ℕ) (B : TreeAutomaton) (g : List ℕ) → j < n → IsStage spec j B g → GoesOn spec options j B g

-- completion ends at this automaton and this map, those of the least stage at which something ends it
pub record Ends (spec : Spec) (options : Options) (A : TreeAutomaton) (h : List ℕ) (e : StageEnd) : Type 0 where
  pub number : ℕ
  pub within : number ≤ options.rounds
  pub stage : IsStage spec number A h
  pub ends : EndsAt spec options number A h e
  pub least : GoesOnBefore spec options number
