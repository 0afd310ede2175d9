-- How the list of reached terms grows: the terms by their identities, and beside each where it came from. These serve private contracts alone.
use Rattle.std.specs.Prelude.{◌≡◌, ◌↔◌, ◌⊎◌, ℕ, ◌+◌, ◌<◌, ◌≤◌, List, ◌∷◌, [], ◌++◌, map, length, All, Contains, slice_get, Option, Some, None, nat_eq}
use Rattle.std.specs.List.{AllZip, IsDistinct}
use Rattle.ranked_terms.specs.Terms.{size_of}
use Rattle.ranked_terms.specs.declared.term.Term.{Term}
use Rattle.trs_rules.specs.Rules.{RewriteRule}
use Rattle.trs_rules.specs.Steps.{StepAt, Step}
use Rattle.trs_rules.specs.declared.derivation.Derivation.{Derivation}
use Rattle.trs_rules.specs.Derivations.{IsDerivation, LeadsTo}
use Rattle.ta_core.specs.Languages.{Accepts}
use Rattle.ta_core.specs.Reachability.{Forbidden}
use Rattle.ta_core.specs.declared.spec.Spec.{Spec}
use Rattle.ta_core.specs.declared.options.Options.{Options}
use Rattle.term_store.specs.Store.{term_at, IsStore}
use Rattle.term_store.specs.Found.{turned}
use Rattle.derive_search.specs.Starts.{AreTooMany}
use Rattle.derive_search.specs.Search.{IsStart, GoesOnTo}
use Rattle.derive_search.specs.Levels.{AreLevels}
use Rattle.term_store.specs.declared.found.Found.{Found}
use Rattle.derive_search.specs.declared.growth.Origin.{Origin}

-- the terms of these identities
abbrev pub terms_in : List Term → List ℕ → List Term
terms_in terms ids = map (term_at terms) ids

-- ---- one identity, and those of a list of steps

-- the identity was there, or it is the last one now, with its origin
abbrev pub AddsOne : ℕ → Option Origin → List ℕ → List (Option Origin) → List ℕ → List (Option Origin) → Type 0
AddsOne id origin ids origins ids' origins' =
    (Contains ids id × (ids' ≡ ids) × (origins' ≡ origins)) ⊎ ((ids' ≡ ids ++ id ∷ []) × (origins' ≡ origins ++ origin ∷ []))

-- the identity and the origin are those of a step of the list from the parent
pub record IsStepOf (parent : ℕ) (founds : List Found) (id : ℕ) (o : Option Origin) : Type 0 where
  pub found : Found
  pub member : Contains founds found
  pub is_id : id ≡ found.term
  pub is_origin : o ≡ Some (record { parent = parent; rule = found.rule; back = found.back })

-- what is new are steps of the list
pub record AreAdded (parent : ℕ) (founds : List Found) (ids : List ℕ) (origins : List (Option Origin)) (ids' : List ℕ) (origins' : List (Option Origin)) : Type 0 where
  pub more : List ℕ
  pub more_origins : List (Option Origin)
  pub ids_are : ids' ≡ ids ++ more
  pub origins_are : origins' ≡ origins ++ more_origins
  pub each : AllZip (IsStepOf parent founds) more more_origins

-- ---- a level

-- the origin tells a step to t from one of the terms, which stands no earlier than the place
pub record IsStepOrigin (R : List RewriteRule) (ts : List Term) (first : ℕ) (t : Term) (o : Option Origin) : Type 0 where
  pub origin : Origin
  pub is : o ≡ Some origin
  pub late : first ≤ origin.parent
  pub from : Term
  pub is_from : slice_get ts origin.parent ≡ Some from
  pub position : List ℕ
  pub back : origin.back ≡ turned position
  pub step : StepAt R origin.rule position from t

-- what is new are steps from the terms from one place on
pub record AreGrown (R : List RewriteRule) (ts : List Term) (first : ℕ) (terms : List Term) (ids : List ℕ) (origins : List (Option Origin)) (ids' : List ℕ) (origins' : List (Option Origin)) : Type 0 where
  pub more : List ℕ
  pub more_origins : List (Option Origin)
  pub ids_are : ids' ≡ ids ++ more
  pub origins_are : origins' ≡ origins ++ more_origins
  pub there : All (λ a. a < length terms) ids'
  pub each : AllZip (λ id o. IsStepOrigin R ts first (term_at terms id) o) more more_origins

-- whatever the terms of these places step to is there
abbrev pub AreClosed : List RewriteRule → List Term → ℕ → ℕ → List Term → Type 0
AreClosed R ts first last all = (place : ℕ) (s t : Term) → first ≤ place → place < last → slice_get ts place ≡ Some s → Step R s t → Contains all t

-- one of the terms from a place on steps to a term of more than 1,024 symbols
pub record GrowsLarge (R : List RewriteRule) (ts : List Term) (first : ℕ) : Type 0 where
  pub place : ℕ
  pub late : first ≤ place
  pub from : Term
  pub is_from : slice_get ts place ≡ Some from
  pub to : Term
  pub step : Step R from to
  pub large : 1024 < size_of to

-- each is there once, and there is one more than the limit
pub record IsOneTooMany (limit : ℕ) (ids : List ℕ) : Type 0 where
  pub many : length ids ≡ limit + 1
  pub distinct : IsDistinct nat_eq ids

-- ---- from where each term came

-- the term of the place was reached by so many steps
pub data ComesFrom (R : List RewriteRule) (ts : List Term) (origins : List (Option Origin)) : ℕ → ℕ → Type 0 where
  start : (place : ℕ) → slice_get origins place ≡ Some None → ComesFrom R ts origins place 0
  step : (place n : ℕ) (t : Term) (o : Option Origin) → slice_get ts place ≡ Some t → slice_get origins place ≡ Some o → (h : IsStepOrigin R ts 0 t o) → h.origin.parent < place
      → ComesFrom R ts origins h.origin.parent n → ComesFrom R ts origins place (n + 1)

-- parents stand before
abbrev pub AreEarlier : List (Option Origin) → Type 0
AreEarlier origins = (place : ℕ) (o : Origin) → slice_get origins place ≡ Some (Some o) → o.parent < place

-- a derivation by so many steps from a term without an origin to the term of the place
pub record DerivesTo (R : List RewriteRule) (ts : List Term) (origins : List (Option Origin)) (place n : ℕ) (d : Derivation) : Type 0 where
  pub first : ℕ
  pub is_first : slice_get ts first ≡ Some d.start
  pub no_origin : slice_get origins first ≡ Some None
  pub count : length d.steps ≡ n
  pub steps : IsDerivation R d
  pub last : Term
  pub is_last : slice_get ts place ≡ Some last
  pub leads : LeadsTo d last

-- ---- the search before the last level is tested

pub record IsLevel (spec : Spec) (options : Options) (steps : ℕ) (terms : List Term) (ids : List ℕ) (origins : List (Option Origin)) (first : ℕ) : Type 0 where
  pub store : IsStore terms
  pub there : All (λ a. a < length terms) ids
  pub older : List Term
  pub last : List Term
  pub split : terms_in terms ids ≡ older ++ last
  pub first_is : first ≡ length older
  pub levels : AreLevels spec options.height steps older last
  pub few : length ids ≤ options.terms
  pub fits : AreTooMany spec.initial options.height options.terms → ⊥
  pub goes : GoesOnTo spec options steps
  pub tested : All (λ t. Forbidden spec t → ⊥) older
  pub count : length origins ≡ length ids
  pub earlier : AreEarlier origins
  pub starts : (place : ℕ) (t : Term) → slice_get (terms_in terms ids) place ≡ Some t → slice_get origins place ≡ Some None → IsStart spec options.height t
  pub depths : (place : ℕ) → place < length ids → (n : ℕ) × (n ≤ steps) × ComesFrom spec.rules (terms_in terms ids) origins place n

-- the starts as identities
pub record AreStarts (spec : Spec) (options : Options) (terms : List Term) (ids : List ℕ) : Type 0 where
  pub exact : (t : Term) → Contains (terms_in terms ids) t ↔ IsStart spec options.height t
  pub there : All (λ a. a < length terms) ids
  pub few : length ids ≤ options.terms
  pub fits : AreTooMany spec.initial options.height options.terms → ⊥

-- no term from the place on is accepted
abbrev pub NoneAccepted : Spec → List Term → ℕ → Type 0
NoneAccepted spec ts first = (place : ℕ) (t : Term) → first ≤ place → slice_get ts place ≡ Some t → Accepts spec.forbidden t → ⊥

-- one is, and this derivation leads to it
pub record IsHit (spec : Spec) (ts : List Term) (origins : List (Option Origin)) (first : ℕ) (d : Derivation) : Type 0 where
  pub place : ℕ
  pub late : first ≤ place
  pub term : Term
  pub is_term : slice_get ts place ≡ Some term
  pub accepted : Accepts spec.forbidden term
  pub derives : (n : ℕ) → ComesFrom spec.rules ts origins place n → DerivesTo spec.rules ts origins place n d
