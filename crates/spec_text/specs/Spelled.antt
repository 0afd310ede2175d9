-- The specification that whole declarations spell (this project's own format).
use Rattle.std.specs.Prelude.{◌≡◌, ℕ, ◌-◌, ◌==◌, nat_lt, map, length, filter, not, All}
use Rattle.std.specs.List.{range_with_len}
use Rattle.std.specs.Ordering.{nat_cmp}
use Rattle.trs_rules.specs.Rules.{IsRule, IsEquation}
use Rattle.ta_core.specs.TreeAutomaton.{TreeAutomaton, trans_cmp, pair_cmp}
use Rattle.ta_core.specs.declared.spec.Spec.{Spec}
use Rattle.spec_text.specs.Declarations.{Declared, Started}
use Rattle.spec_text.specs.Naming.{shape_of}
use Rattle.spec_text.specs.SpecText.{IsAscendingSet}

-- the automaton of so many states, with what is declared of it
pub record IsAutomatonOf (count : ℕ) (a : Started) (A : TreeAutomaton) : Type 0 where
  pub states_are : A.states ≡ range_with_len 0 count
  pub next_is : A.next ≡ count
  pub finals_are : IsAscendingSet nat_cmp A.finals a.finals
  pub trans_are : IsAscendingSet trans_cmp A.trans a.trans
  pub eps_are : IsAscendingSet pair_cmp A.eps (filter (λ e. not (e.0 == e.1)) a.eps)

-- The spec that has just what is declared. The approximation's states are no states of its initial automaton.
pub record IsSpecOf (d : Declared) (spec : Spec) : Type 0 where
  pub signature : spec.signature ≡ d.symbols
  pub vars : spec.vars ≡ d.variables
  pub rules : map (λ r. (shape_of r.left, shape_of r.right)) spec.rules ≡ d.rules
  pub are_rules : All IsRule spec.rules
  pub equations : map (λ e. (shape_of e.left, shape_of e.right)) spec.equations ≡ d.equations
  pub are_equations : All IsEquation spec.equations
  pub entries : spec.entries ≡ d.entries
  pub extra : spec.extra ≡ d.extra
  pub approximated : spec.approximated ≡ nat_lt 0 d.approximations
  pub initial : IsAutomatonOf (length d.initial.states - d.extra) d.initial spec.initial
  pub forbidden : IsAutomatonOf (length d.second.states) d.second spec.forbidden
