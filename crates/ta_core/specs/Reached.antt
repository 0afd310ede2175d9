-- Sets of states on the way to the states of a run. `ReachedFrom` is what `closure_of` answers by; the others serve private contracts alone.
use Rattle.std.specs.Prelude.{ℕ, List}
use Rattle.std.specs.List.{Contains, AllZip}
use Rattle.ta_core.specs.TreeAutomaton.{TreeAutomaton, trans_of}
use Rattle.ta_core.specs.Runs.{Reaches}
use Rattle.ta_core.specs.declared.trans.Trans.{Trans}

-- by epsilon transitions alone, in any number of steps, from a member of the list
pub record ReachedFrom (A : TreeAutomaton) (from : List ℕ) (q : ℕ) : Type 0 where
  pub start : ℕ
  pub starts : Contains from start
  pub reaches : Reaches A start q

-- by a transition of the symbol, from states of which each is a member of the list at its place
pub record HasTransInto (trans : List Trans) (sym : ℕ) (sets : List (List ℕ)) (q : ℕ) : Type 0 where
  pub args : List ℕ
  pub fit : AllZip Contains sets args
  pub has : Contains trans (trans_of sym args q)

-- by such a transition, and on by epsilon transitions
pub record EntersAndReaches (A : TreeAutomaton) (sym : ℕ) (sets : List (List ℕ)) (q : ℕ) : Type 0 where
  pub target : ℕ
  pub enters : HasTransInto A.trans sym sets target
  pub reaches : Reaches A target q
