-- First members of lists.
use Rattle.std.proofs.Common.{◌≡◌, List, ◌∷◌, ◌++◌, map, All, Contains, sym, ap, subst, ◌∙◌, append_assoc}
use Rattle.std.proofs.lemmas.List.{map-append}
use Rattle.std.proofs.lemmas.List.Elements.{All-append, All-map, All-weaker, All-contains, Contains-append_right}
use Rattle.list_laws.proofs.Members.{here}
use Rattle.list_laws.specs.Listings.{IsFirst}

module _ {X : Type 0} {Is Not : X → Type 0} where
  -- behind elements that are none
  pub first_later : (xs ys : List X) (x : X) → All Not xs → IsFirst Is Not ys x → IsFirst Is Not (xs ++ ys) x
  first_later xs ys x none first = record {
    before = xs ++ first.before;
    after = first.after;
    splits = ap (λ l. xs ++ l) first.splits ∙ sym (append_assoc xs first.before (x ∷ first.after));
    is = first.is;
    earlier = All-append Not xs first.before none first.earlier;
  }

  -- before whatever elements
  pub first_sooner : (xs ys : List X) (x : X) → IsFirst Is Not xs x → IsFirst Is Not (xs ++ ys) x
  first_sooner xs ys x first = record {
    before = first.before;
    after = first.after ++ ys;
    splits = ap (λ l. l ++ ys) first.splits ∙ append_assoc first.before (x ∷ first.after) ys;
    is = first.is;
    earlier = first.earlier;
  }

  -- in the midst of a list
  pub first_amid : (all xs ys zs : List X) (x : X) → all ≡ xs ++ (ys ++ zs) → All Not xs → IsFirst Is Not ys x → IsFirst Is Not all x
  first_amid all xs ys zs x e none first = subst (λ l. IsFirst Is Not l x) (sym e) (first_later xs (ys ++ zs) x none (first_sooner ys zs x first))

  -- a list has no first one where it has none
  pub first_or_none : ((x : X) → Is x → Not x → ⊥) → (xs : List X) (x : X) → IsFirst Is Not xs x → All Not xs → ⊥
  first_or_none both xs x first none =
      both x first.is (All-contains Not xs x none (subst (λ l. Contains l x) (sym first.splits) (Contains-append_right first.before (x ∷ first.after) x (here x first.after))))

module _ {X Y : Type 0} {Is Not : X → Type 0} {Is' Not' : Y → Type 0} where
  pub first_mapped : (f : X → Y) → ((x : X) → Is x → Is' (f x)) → ((x : X) → Not x → Not' (f x)) → (xs : List X) (x : X) → IsFirst Is Not xs x → IsFirst Is' Not' (map f xs) (f x)
  first_mapped f is not xs x first = record {
    before = map f first.before;
    after = map f first.after;
    splits = ap (map f) first.splits ∙ map-append f first.before (x ∷ first.after);
    is = is x first.is;
    earlier = All-map Not' f first.before (All-weaker Not (λ x. Not' (f x)) not first.before first.earlier);
  }
