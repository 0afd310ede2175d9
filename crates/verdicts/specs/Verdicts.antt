-- The verdict on a specification (Feuillade, Genet and Viet Triem Tong, JAR 2004; that the search comes first, the limits and when precision is noted are
-- this project's own).
use Rattle.std.specs.Prelude.{◌≡◌, ◌↔◌, ℕ, Bool, false, IsTrue, List, take}
use Rattle.ta_core.specs.TreeAutomaton.{TreeAutomaton}
use Rattle.ta_core.specs.Coherence.{IsSingular}
use Rattle.ta_core.specs.declared.spec.Spec.{Spec}
use Rattle.ta_core.specs.declared.options.Options.{Options}
use Rattle.trs_rules.specs.declared.derivation.Derivation.{Derivation}
use Rattle.derive_search.specs.Search.{SearchAnswer}
use Rattle.derive_search.specs.declared.bounded.SearchEnd.{SearchEnd}
use Rattle.derive_search.specs.declared.bounded.SearchEnd.TheVariants as search
use Rattle.completion.specs.Stages.{Ends}
use Rattle.completion.specs.declared.end.StageEnd.{StageEnd}
use Rattle.completion.specs.declared.end.StageEnd.TheVariants as end
use Rattle.cert_text.specs.declared.outcome.Reason.{Reason}
use Rattle.cert_text.specs.declared.outcome.Reason.TheVariants as reason
use Rattle.cert_text.specs.declared.outcome.Mark.{Mark}
use Rattle.cert_text.specs.declared.outcome.Mark.TheVariants as mark
use Rattle.cert_text.specs.declared.outcome.Outcome.{Outcome}
use Rattle.cert_text.specs.declared.outcome.Outcome.TheVariants as outcome

-- how the search ends where an outcome has this mark of it
abbrev pub search_end : Mark → SearchEnd
search_end (mark.Exhausted steps) = search.Exhausted steps
search_end (mark.Over steps) = search.Over steps

-- how completion ends where an outcome has this reason
abbrev pub stage_end : Reason → StageEnd
stage_end (reason.Meets i least) = end.Meets i least
stage_end (reason.Rounds i) = end.Rounds i
stage_end (reason.Pairs i) = end.Pairs i
stage_end (reason.States i) = end.States i

-- when it is noted that each term of the automaton is reached modulo the equations: the initial automaton is singular, and there is no approximation
pub record IsPrecise (spec : Spec) : Type 0 where
  pub singular : IsSingular spec.initial
  pub exact : spec.approximated ≡ false

-- A derivation of a forbidden term that the search finds. Where it finds none, the least stage at which something ends completion: if it is closed, its number, its
-- automaton, and its map, cut to the initial automaton's own states; and else why it ends and how the search did.
pub data Verdict (spec : Spec) (options : Options) : Outcome → Type 0 where
  reachable : {d : Derivation} → SearchAnswer spec options (search.Found d) → Verdict spec options (outcome.Reachable d)
  unreachable : {i : ℕ} {precise : Bool} {A : TreeAutomaton} (m : Mark) (h : List ℕ) → SearchAnswer spec options (search_end m) → Ends spec options A h (end.Closed i)
      → (IsTrue precise ↔ IsPrecise spec) → Verdict spec options (outcome.Unreachable i precise A (take spec.initial.next h))
  undecided : {m : Mark} {why : Reason} (A : TreeAutomaton) (h : List ℕ) → SearchAnswer spec options (search_end m) → Ends spec options A h (stage_end why)
      → Verdict spec options (outcome.Undecided why m)
