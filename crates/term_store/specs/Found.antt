-- Steps that were found from a term of a store (Baader and Nipkow, Term Rewriting and All That, section 4.2; the form is this project's own).
use Rattle.std.specs.Prelude.{◌≡◌, ℕ, ◌+◌, ◌<◌, ◌≤◌, List, [], ◌∷◌, ◌++◌, length, All, Contains, slice_get, slice_set, Some}
use Rattle.std.specs.Prelude.{◌⊎◌}
use Rattle.ranked_terms.specs.Terms.{size_of}
use Rattle.ranked_terms.specs.declared.term.Term.{Term}
use Rattle.trs_rules.specs.Rules.{RewriteRule}
use Rattle.trs_rules.specs.Steps.{StepAt}
use Rattle.term_store.specs.Store.{term_at, applied}
use Rattle.term_store.specs.declared.found.Found.{Found}

-- a position from its end to the root
abbrev pub turned : List ℕ → List ℕ
turned [] = []
turned (k ∷ position) = turned position ++ k ∷ []

-- it is a step from s to the term at its place
pub record IsFound (R : List RewriteRule) (s : Term) (terms : List Term) (f : Found) : Type 0 where
  pub there : f.term < length terms
  pub position : List ℕ
  pub back : f.back ≡ turned position
  pub step : StepAt R f.rule position s (term_at terms f.term)

-- one of the steps leads to t
pub record HasTerm (founds : List Found) (terms : List Term) (t : Term) : Type 0 where
  pub found : Found
  pub member : Contains founds found
  pub is : term_at terms found.term ≡ t

-- the list has steps from s, and leads to whatever s steps to
pub record AreFound (R : List RewriteRule) (s : Term) (terms : List Term) (founds : List Found) : Type 0 where
  pub steps : All (IsFound R s terms) founds
  pub all : (i : ℕ) (position : List ℕ) (t : Term) → StepAt R i position s t → HasTerm founds terms t

-- s steps to a term of more than 1,024 symbols
pub record StepsToLarge (R : List RewriteRule) (s : Term) : Type 0 where
  pub rule : ℕ
  pub position : List ℕ
  pub to : Term
  pub step : StepAt R rule position s to
  pub large : 1024 < size_of to

-- ---- steps up to an argument, and steps of an argument as steps of the whole term. These serve private contracts alone

-- the position is the root, or lies in one of the first arguments
abbrev pub IsUpTo : ℕ → List ℕ → Type 0
IsUpTo count [] = Unit {0}
IsUpTo count (k ∷ position) = k ≤ count

-- the list has steps from s, and leads to whatever s steps to at the root or in one of its first arguments
pub record AreFoundUpTo (R : List RewriteRule) (s : Term) (terms : List Term) (count : ℕ) (founds : List Found) : Type 0 where
  pub steps : All (IsFound R s terms) founds
  pub all : (i : ℕ) (position : List ℕ) (t : Term) → IsUpTo count position → StepAt R i position s t → HasTerm founds terms t

-- the term with the argument at the place changed as the step says
abbrev pub changed : List Term → ℕ → List ℕ → ℕ → Found → Term
changed terms sym args place found = applied terms sym (slice_set args place found.term)

-- the step of the argument, as a step of the whole term
pub record IsLiftOf (sym : ℕ) (args : List ℕ) (place : ℕ) (before after : List Term) (below lifted : Found) : Type 0 where
  pub rule : lifted.rule ≡ below.rule
  pub back : lifted.back ≡ below.back ++ (place + 1) ∷ []
  pub is : slice_get after lifted.term ≡ Some (changed before sym args place below)

-- a step of the list, as a step of the whole term
pub record LiftsOne (sym : ℕ) (args : List ℕ) (place : ℕ) (before after : List Term) (below : List Found) (lifted : Found) : Type 0 where
  pub step : Found
  pub member : Contains below step
  pub is : IsLiftOf sym args place before after step lifted

-- a step of the whole term that is one of the list
pub record IsLiftedIn (sym : ℕ) (args : List ℕ) (place : ℕ) (before after : List Term) (new : List Found) (step : Found) : Type 0 where
  pub lifted : Found
  pub member : Contains new lifted
  pub is : IsLiftOf sym args place before after step lifted

-- the new list has the old steps, all of these as steps of the whole term, and nothing else
pub record AreLifted (sym : ℕ) (args : List ℕ) (place : ℕ) (before after : List Term) (below old new : List Found) : Type 0 where
  pub kept : (f : Found) → Contains old f → Contains new f
  pub all : (f : Found) → Contains below f → IsLiftedIn sym args place before after new f
  pub only : (f : Found) → Contains new f → Contains old f ⊎ LiftsOne sym args place before after below f

-- one of them would lead to a term of more than 1,024 symbols
pub record HasLargeLift (sym : ℕ) (args : List ℕ) (place : ℕ) (before : List Term) (below : List Found) : Type 0 where
  pub step : Found
  pub member : Contains below step
  pub large : 1024 < size_of (changed before sym args place step)
