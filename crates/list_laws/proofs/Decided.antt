-- Whatever is decided, and has all of it in some list, has a listing.
use Rattle.std.proofs.Common.{◌≡◌, ◌↔◌, ℕ, Bool, true, false, ◌==◌, List, [], ◌∷◌, IsTrue, Contains, refl, sym, subst, inl, inr, ⊎_elim, true≢false}
use Rattle.std.specs.declared.cmp.Ordering.{Ordering}
use Rattle.std.specs.Ordering.{nat_cmp}
use Rattle.std.specs.Cmp.{IsTotalOrder}
use Rattle.std.specs.List.{AllZip, list_any}
use Rattle.std.specs.BTreeSet.{insert_key}
use Rattle.std.proofs.lemmas.Bool.{eqb-true, eqb-false}
use Rattle.std.proofs.lemmas.Map.Lookups.{CmpEqualImpliesEq}
use Rattle.list_laws.specs.Lists.{Decided}
use Rattle.list_laws.specs.Listings.{IsListing}
use Rattle.list_laws.proofs.Members.{here, there, parts, none, is_member}
use Rattle.list_laws.proofs.Inserting.{inserted, kept, was}
use Rattle.list_laws.proofs.Places.{nothing_ascends, sorted_insert_key}

-- ---- decisions

pub from_test : {P : Type 0} (b : Bool) → IsTrue b ↔ P → Decided P
from_test true h = inl (h.0 refl)
from_test false h = inr (λ p. absurd (true≢false (sym (h.1 p))))

pub both : {P Q : Type 0} → Decided P → Decided Q → Decided (P × Q)
both (inl p) (inl q) = inl (p, q)
both (inl p) (inr n) = inr (λ h. n h.1)
both (inr n) d = inr (λ h. n h.0)

pub same_number : (a b : ℕ) → Decided (a ≡ b)
same_number a b = go (a == b) refl
  where
    go : (r : Bool) → (a == b) ≡ r → Decided (a ≡ b)
    go true e = inl (eqb-true a b e)
    go false e = inr (eqb-false a b e)

pub member : (xs : List ℕ) (q : ℕ) → Decided (Contains xs q)
member xs q = from_test (list_any (λ y. q == y) xs) (is_member xs q (list_any (λ y. q == y) xs) refl)

pub members : (sets : List (List ℕ)) (qs : List ℕ) → Decided (AllZip Contains sets qs)
members [] [] = inl tt
members [] (q ∷ qs) = inr (λ z. z)
members (s ∷ sets) [] = inr (λ z. z)
members (s ∷ sets) (q ∷ qs) = both (member s q) (members sets qs)

-- ---- the same members in ascending order

module _ {X : Type 0} {R : X → X → Ordering} (o : IsTotalOrder R) (exact : CmpEqualImpliesEq R) where
  pub listing_of_members : (xs : List X) → (ys : List X) × IsListing R (Contains xs) ys
  listing_of_members [] = ([], record { ascends = nothing_ascends R; exact = λ x. (λ c. c, λ c. c) })
  listing_of_members (x ∷ xs) =
      let rest = listing_of_members xs in (
        insert_key R rest.0 x,
        record {
          ascends = sorted_insert_key o rest.0 x rest.1.ascends;
          exact = λ y. (
            λ c. ⊎_elim (λ before. there x y xs ((rest.1.exact y).0 before)) (λ same. subst (Contains (x ∷ xs)) same (here x xs)) (was o exact rest.0 x y c),
            λ c. ⊎_elim (λ same. subst (Contains (insert_key R rest.0 x)) same (inserted o exact rest.0 x)) (λ later. kept o exact rest.0 x y ((rest.1.exact y).1 later)) (parts x y xs c),
          );
        },
      )

-- those of a list that have a property
kept_by : {X : Type 0} {P : X → Type 0} → ((x : X) → Decided (P x)) → (all : List X) → (xs : List X) × ((x : X) → Contains xs x ↔ (Contains all x × P x))
kept_by decide [] = ([], λ x. (λ c. absurd (none x c), λ h. absurd (none x h.0)))
kept_by {X} {P} decide (y ∷ all) = one_more (kept_by decide all)
  where
    one_more : (xs : List X) × ((x : X) → Contains xs x ↔ (Contains all x × P x)) → (xs : List X) × ((x : X) → Contains xs x ↔ (Contains (y ∷ all) x × P x))
    one_more rest = ⊎_elim
        (λ yes. (
          y ∷ rest.0,
          λ x. (
            λ c. ⊎_elim (λ same. subst (λ x. Contains (y ∷ all) x × P x) same (here y all, yes)) (λ later. let h = (rest.1 x).0 later in (there y x all h.0, h.1)) (parts y x rest.0 c),
            λ h. ⊎_elim (λ same. subst (Contains (y ∷ rest.0)) same (here y rest.0)) (λ later. there y x rest.0 ((rest.1 x).1 (later, h.1))) (parts y x all h.0),
          ),
        ))
        (λ no. (
          rest.0,
          λ x. (
            λ c. let h = (rest.1 x).0 c in (there y x all h.0, h.1),
            λ h. ⊎_elim (λ same. absurd (no (subst P (sym same) h.1))) (λ later. (rest.1 x).1 (later, h.1)) (parts y x all h.0),
          ),
        ))
        (decide y)

pub listing_by : {X : Type 0} {R : X → X → Ordering} {P Q : X → Type 0} → ((x : X) → P x ↔ Q x) → (xs : List X) → IsListing R P xs → IsListing R Q xs
listing_by same xs l = record { ascends = l.ascends; exact = λ x. (λ c. (same x).0 ((l.exact x).0 c), λ q. (l.exact x).1 ((same x).1 q)) }

-- what is decided, and has all of it in some list, has a listing
pub listing_of_decided : {X : Type 0} {R : X → X → Ordering} (o : IsTotalOrder R) (exact : CmpEqualImpliesEq R) {P : X → Type 0} → ((x : X) → Decided (P x)) → (all : List X) →
    ((x : X) → P x → Contains all x) → (xs : List X) × IsListing R P xs
listing_of_decided o exact decide all has =
    let kept = kept_by decide all in
    let listing = listing_of_members o exact kept.0 in
    (listing.0, listing_by (λ x. (λ c. ((kept.1 x).0 c).1, λ p. (kept.1 x).1 (has x p, p))) listing.0 listing.1)

-- what has a listing is decided
pub decided_by_listing : {P : ℕ → Type 0} (xs : List ℕ) → IsListing nat_cmp P xs → (q : ℕ) → Decided (P q)
decided_by_listing xs l q = ⊎_elim (λ c. inl ((l.exact q).0 c)) (λ no. inr (λ p. no ((l.exact q).1 p))) (member xs q)

-- some member has it, or none
pub some_member : {X : Type 0} {P : X → Type 0} → ((x : X) → Decided (P x)) → (xs : List X) → Decided ((x : X) × Contains xs x × P x)
some_member decide [] = inr (λ h. none h.0 h.1)
some_member {P = P} decide (x ∷ xs) =
    ⊎_elim
    (λ yes. inl (x, here x xs, yes))
    (λ no. ⊎_elim
    (λ later. inl (later.0, there x later.0 xs later.1, later.2))
    (λ nowhere. inr (λ h. ⊎_elim (λ same. no (subst P (sym same) h.2)) (λ later. nowhere (h.0, later, h.2)) (parts x h.0 xs h.1)))
    (some_member decide xs))
    (decide x)
