-- How the search ends depends on some options alone.
use Rattle.std.proofs.Common.{◌≡◌, ◌⊎◌, ℕ, ◌+◌, ◌≤◌, length, sym, subst}
use Rattle.ranked_terms.specs.Terms.{height_of}
use Rattle.ranked_terms.specs.declared.term.Term.{Term}
use Rattle.ta_core.specs.declared.spec.Spec.{Spec}
use Rattle.ta_core.specs.declared.options.Options.{Options}
use Rattle.list_laws.specs.Listings.{HasMoreThan}
use Rattle.derive_search.specs.Starts.{AreTooMany, HasLarge}
use Rattle.derive_search.specs.Search.{Reached, ReachesForbidden, IsOver, GoesOnTo, SearchAnswer}
use Rattle.derive_search.specs.declared.bounded.SearchEnd.{SearchEnd}
use Rattle.derive_search.specs.declared.bounded.SearchEnd.TheVariants as search

-- the limits are passed, by a height and a number of terms
abbrev Passes : Spec → ℕ → ℕ → ℕ → Type 0
Passes spec n height terms = AreTooMany spec.initial height terms ⊎ (HasMoreThan terms (Reached spec height n) ⊎ HasLarge (λ (t : Term). t) (Reached spec height n))

module _ (spec : Spec) (o p : Options) (height : o.height ≡ p.height) (terms : o.terms ≡ p.terms) where
  over_there : (n : ℕ) → IsOver spec o n → IsOver spec p n
  over_there n over = subst (λ t. Passes spec n p.height t) terms (subst (λ h. Passes spec n h o.terms) height over)

  reaches_there : (n : ℕ) → ReachesForbidden spec o n → ReachesForbidden spec p n
  reaches_there n r = record { term = r.term; reached = subst (λ h. Reached spec h n r.term) height r.reached; forbidden = r.forbidden }

goes_there : (spec : Spec) (o p : Options) → o.height ≡ p.height → o.terms ≡ p.terms → (n : ℕ) → GoesOnTo spec o n → GoesOnTo spec p n
goes_there spec o p height terms n goes i less =
    ((λ over. (goes i less).0 (over_there spec p o (sym height) (sym terms) i over)), (λ r. (goes i less).1 (reaches_there spec p o (sym height) (sym terms) i r)))

pub searched_by_limits : (spec : Spec) (o p : Options) → o.steps ≡ p.steps → o.height ≡ p.height → o.terms ≡ p.terms → {e : SearchEnd} → SearchAnswer spec o e → SearchAnswer spec p e
searched_by_limits spec o p steps height terms (SearchAnswer.exhausted goes) =
    subst (λ n. SearchAnswer spec p (search.Exhausted n)) (sym steps)
    (SearchAnswer.exhausted (subst (λ n. GoesOnTo spec p (n + 1)) steps (goes_there spec o p height terms (o.steps + 1) goes)))
searched_by_limits spec o p steps height terms (SearchAnswer.over j few goes over) =
    SearchAnswer.over j (subst (λ n. j ≤ n) steps few) (goes_there spec o p height terms j goes) (over_there spec o p height terms j over)
searched_by_limits spec o p steps height terms (SearchAnswer.found d few goes within low replays) =
    SearchAnswer.found d (subst (λ n. length d.steps ≤ n) steps few) (goes_there spec o p height terms (length d.steps) goes)
    (λ over. within (over_there spec p o (sym height) (sym terms) (length d.steps) over)) (subst (λ n. height_of d.start ≤ n) height low) replays
