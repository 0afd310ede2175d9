-- How much room the check of a specification and an automaton takes.
use Rattle.std.specs.Prelude.{◌≡◌, ℕ, ◌+◌, ◌^◌, ◌<◌, ◌≤◌, All, max, List, [], ◌∷◌, length}
use Rattle.ranked_terms.specs.declared.term.Pattern.{Pattern}
use Rattle.ranked_terms.specs.declared.term.Pattern.TheOpen as pattern
use Rattle.ranked_terms.specs.declared.term.Pattern.TheFolds.{fold-Pattern}
use Rattle.trs_rules.specs.Rules.{RewriteRule}
use Rattle.ta_core.specs.TreeAutomaton.{TreeAutomaton}
use Rattle.ta_core.specs.declared.trans.Trans.{Trans}
use Rattle.ta_core.specs.declared.spec.Spec.{Spec}
use Rattle.ta_clean.specs.Uses.{places_of}

-- sets at one time of so many states; tables of what epsilon transitions lead to, from so many states and back, and so many of them turned round; and marks for pairs of states of the automaton and the forbidden one, with the argument places of both
pub record Sizes : Type 0 where
  pub sets : ℕ
  pub states : ℕ
  pub reached : ℕ
  pub reached_back : ℕ
  pub turned : ℕ
  pub paired_states : ℕ
  pub places : ℕ
  pub forbidden_states : ℕ
  pub forbidden_places : ℕ

-- the sets that are held while a pattern is gone over: those of the arguments before the one that is gone over, and one for the pattern itself
abbrev pub sets_from : List ℕ → ℕ
sets_from [] = 0
sets_from (n ∷ ns) = max n (sets_from ns + 1)

abbrev pub sets_step : pattern.Pattern-F ℕ → ℕ
sets_step (pattern.Var v) = 1
sets_step (pattern.App sym args) = sets_from args + 1

abbrev pub sets_of : Pattern → ℕ
sets_of = fold-Pattern ℕ sets_step

-- the most for an assignment: the right side is gone over while the set of the left side is held
abbrev pub sets_of_sides : RewriteRule → ℕ
sets_of_sides rule = max (sets_of rule.left) (sets_of rule.right + 1)

-- the most that a rule takes: for each variable a set of the states that are tried for it is held
abbrev pub sets_of_rules : List RewriteRule → ℕ
sets_of_rules [] = 0
sets_of_rules (rule ∷ R) = max (length rule.vars + sets_of_sides rule) (sets_of_rules R)

-- places in these lists fit the numbers of the answers
pub record IsCountable (spec : Spec) : Type 0 where
  pub trans : length spec.initial.trans < 2 ^ 32
  pub eps : length spec.initial.eps < 2 ^ 32
  pub rules : length spec.rules < 2 ^ 32

-- only an automaton with epsilon transitions needs tables of what they lead to
pub record HasTables (room : Sizes) (A : TreeAutomaton) : Type 0 where
  pub reached : ¬ (length A.eps ≡ 0) → A.next ≤ room.reached
  pub reached_back : ¬ (length A.eps ≡ 0) → A.next ≤ room.reached_back
  pub turned : length A.eps ≤ room.turned

-- a room of at least these sizes is enough
pub record Fits (room : Sizes) (spec : Spec) (A : TreeAutomaton) : Type 0 where
  pub countable : IsCountable spec
  -- one set for an epsilon transition that is to be contained
  pub some : 0 < room.sets
  -- one set for each argument of a transition that is to be contained, and one for its target
  pub arguments : All (λ (t : Trans). length t.args < room.sets) spec.initial.trans
  pub sets : sets_of_rules spec.rules ≤ room.sets
  pub states : A.next ≤ room.states
  pub tables : HasTables room A
  pub paired_states : A.next ≤ room.paired_states
  pub places : places_of A.trans ≤ room.places
  pub forbidden_states : spec.forbidden.next ≤ room.forbidden_states
  pub forbidden_places : places_of spec.forbidden.trans ≤ room.forbidden_places
