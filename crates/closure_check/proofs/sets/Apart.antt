-- The least state at which an assignment is open.
use Rattle.std.proofs.Common.{◌≡◌, ◌↔◌, ℕ, List, Option, Some, None, IfSome, IfNone, All, Contains, subst}
use Rattle.std.proofs.lemmas.List.Elements.{All-map, All-weaker}
use Rattle.ranked_terms.specs.Terms.{assigned}
use Rattle.ranked_terms.specs.declared.term.Pattern.{Pattern}
use Rattle.trs_rules.specs.Rules.{RewriteRule}
use Rattle.ta_core.specs.TreeAutomaton.{TreeAutomaton}
use Rattle.ta_core.specs.Runs.{Runs}
use Rattle.ta_core.specs.Closure.{state_in}
use Rattle.list_laws.specs.Listings.{IsFirst}
use Rattle.closure_check.specs.Searching.{IsApart, IsShared, Opens, Settles, OpensFirst, with_states}
use Rattle.closure_check.proofs.firsts.FirstMembers.{first_mapped}
use Rattle.closure_check.proofs.triples.Walks.{Ends}

pub apart_at : (xs ys states : List ℕ) (q : ℕ) → Contains xs q → (Contains ys q → ⊥) → Ends (IsShared xs ys) states q → IsFirst (IsApart xs ys) (IsShared xs ys) states q
apart_at xs ys states q one other ends = record { before = ends.before; after = ends.after; splits = ends.splits; is = record { one = one; other = other }; earlier = ends.earlier }

-- the states to which a side runs with these states for the variables
abbrev pub AreRuns : TreeAutomaton → List ℕ → List ℕ → Pattern → List ℕ → Type 0
AreRuns A vars states side all = (q : ℕ) → Contains all q ↔ Runs A (assigned (state_in vars states) side) q

module _ (A : TreeAutomaton) (rule : RewriteRule) (σ lefts rights : List ℕ) (left : AreRuns A rule.vars σ rule.left lefts) (right : AreRuns A rule.vars σ rule.right rights) where
  opens : (q : ℕ) → IsApart lefts rights q → Opens A rule (σ, q)
  opens q apart = record { left = (left q).0 apart.one; right = λ r. apart.other ((right q).1 r) }

  settles : (q : ℕ) → IsShared lefts rights q → Settles A rule (σ, q)
  settles q shared r = (right q).0 (shared ((left q).1 r))

  pub open_at : (states : List ℕ) (r : Option ℕ) → states ≡ A.states → IfSome r (IsFirst (IsApart lefts rights) (IsShared lefts rights) states) → IfSome r (λ q. OpensFirst A rule (with_states A σ) (σ, q))
  open_at states None is h = h
  open_at states (Some q) is h = first_mapped (λ q. (σ, q)) opens settles A.states q (subst (λ qs. IsFirst (IsApart lefts rights) (IsShared lefts rights) qs q) is h)

  pub settled_if_none : (states : List ℕ) (r : Option ℕ) → states ≡ A.states → IfNone r (All (IsShared lefts rights) states) → IfNone r (All (Settles A rule) (with_states A σ))
  settled_if_none states (Some q) is h = h
  settled_if_none states None is h = All-map (Settles A rule) (λ q. (σ, q)) A.states (All-weaker (IsShared lefts rights) (λ q. Settles A rule (σ, q)) settles A.states (subst (All (IsShared lefts rights)) is h))

pub side_is : (A : TreeAutomaton) (vars vars' σ all : List ℕ) (side side' : Pattern) → vars ≡ vars' → side ≡ side' → AreRuns A vars σ side all → AreRuns A vars' σ side' all
side_is A vars vars' σ all side side' v s runs = subst (λ vs. AreRuns A vs σ side' all) v (subst (λ p. AreRuns A vars σ p all) s runs)
