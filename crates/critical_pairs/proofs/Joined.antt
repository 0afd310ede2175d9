-- Ascending lists of whatever has a property, one behind the other, and parts of a list.
use Rattle.std.proofs.Common.{◌≡◌, ◌⊎◌, ◌↔◌, List, [], ◌++◌, inl, inr, ⊎_elim}
use Rattle.std.specs.declared.cmp.Ordering.{Ordering}
use Rattle.std.specs.declared.cmp.Ordering.TheVariants.{Less}
use Rattle.std.specs.List.Sorted.{IsStrictlySortedBy}
use Rattle.std.proofs.lemmas.List.Elements.{Contains-append_left, Contains-append_right, Contains-append_cases}
use Rattle.list_laws.specs.Listings.{IsListing}
use Rattle.list_laws.proofs.Ascending.{ascends-append}
use Rattle.list_laws.proofs.Members.{none}

pub listing_none : {X : Type 0} {c : X → X → Ordering} {P : X → Type 0} → IsStrictlySortedBy c [] → ((x : X) → P x → ⊥) → IsListing c P []
listing_none s never = record { ascends = s; exact = λ x. (λ m. absurd (none x m), λ p. absurd (never x p)) }

-- another wording of the property
pub listing_by : {X : Type 0} {c : X → X → Ordering} {P Q : X → Type 0} → ((x : X) → P x ↔ Q x) → (xs : List X) → IsListing c P xs → IsListing c Q xs
listing_by same xs l = record { ascends = l.ascends; exact = λ x. (λ m. (same x).0 ((l.exact x).0 m), λ q. (l.exact x).1 ((same x).1 q)) }

-- whatever has the one comes before whatever has the other
pub listing_append : {X : Type 0} {c : X → X → Ordering} {P Q : X → Type 0} (xs ys : List X) → IsListing c P xs → IsListing c Q ys → ((x y : X) → P x → Q y → c x y ≡ Less) →
    IsListing c (λ x. P x ⊎ Q x) (xs ++ ys)
listing_append {c = c} xs ys a b below = record {
  ascends = ascends-append c xs ys a.ascends b.ascends (λ x y m n. below x y ((a.exact x).0 m) ((b.exact y).0 n));
  exact = λ x. (
    λ m. ⊎_elim (λ l. inl ((a.exact x).0 l)) (λ r. inr ((b.exact x).0 r)) (Contains-append_cases xs ys x m),
    ⊎_elim (λ p. Contains-append_left xs ys x ((a.exact x).1 p)) (λ q. Contains-append_right xs ys x ((b.exact x).1 q)),
  );
}
