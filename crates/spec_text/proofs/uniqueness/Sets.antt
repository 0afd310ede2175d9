-- A set is one ascending list.
use Rattle.std.proofs.Common.{◌≡◌, ◌↔◌, List, [], ◌∷◌, refl, sym, ap, ◌∙◌, subst, ⊎_elim}
use Rattle.std.specs.declared.cmp.Ordering.{Ordering}
use Rattle.std.specs.declared.cmp.Ordering.TheVariants.{Less, Equal, Greater}
use Rattle.std.specs.Cmp.{IsTotalOrder}
use Rattle.std.specs.List.{Contains}
use Rattle.std.specs.List.Sorted.{IsStrictlySortedBy}
use Rattle.std.specs.Ordering.{ordering_reverse}
use Rattle.std.proofs.lemmas.Cmp.{tied_itself}
use Rattle.std.proofs.lemmas.List.Elements.{All-contains}
use Rattle.std.proofs.lemmas.Map.Keys.{sorted_tail}
use Rattle.std.proofs.lemmas.Map.Views.{All-after_first}
use Rattle.list_laws.proofs.Members.{here, there, parts, none}
use Rattle.spec_text.specs.SpecText.{IsAscendingSet}

module _ {K : Type 0} {R : K → K → Ordering} (o : IsTotalOrder R) where
  below_rest : (x y : K) (xs : List K) → IsStrictlySortedBy R (x ∷ xs) → Contains xs y → R x y ≡ Less
  below_rest x y xs ascends c = All-contains (λ q. R x q ≡ Less) xs y (All-after_first R x xs ascends) c

  not_below_itself : (x y : K) → x ≡ y → R x y ≡ Less → ⊥
  not_below_itself x y e less =
      let no : Equal ≡ Less = sym (tied_itself o x) ∙ (ap (R x) e ∙ less) in
      cc

  not_both_below : (x y : K) → R x y ≡ Less → R y x ≡ Less → ⊥
  not_both_below x y e f =
      let no : Less ≡ Greater = sym e ∙ (o.antisymm x y ∙ ap ordering_reverse f) in
      cc

  -- the least of both
  same_least : (x y : K) (xs ys : List K) → IsStrictlySortedBy R (x ∷ xs) → IsStrictlySortedBy R (y ∷ ys) → Contains (x ∷ xs) y → Contains (y ∷ ys) x → x ≡ y
  same_least x y xs ys h k c d =
      ⊎_elim
      (λ e. e)
      (λ later. ⊎_elim (λ e. sym e) (λ after. absurd (not_both_below x y (below_rest x y xs h later) (below_rest y x ys k after))) (parts y x ys d))
      (parts x y xs c)

  -- a member behind the least of both
  behind_least : (x z : K) (xs ys : List K) → IsStrictlySortedBy R (x ∷ xs) → Contains xs z → Contains (x ∷ ys) z → Contains ys z
  behind_least x z xs ys h c d = ⊎_elim (λ e. absurd (not_below_itself x z e (below_rest x z xs h c))) (λ later. later) (parts x z ys d)

  pub same_ascending : (xs ys : List K) → IsStrictlySortedBy R xs → IsStrictlySortedBy R ys → ((x : K) → Contains xs x ↔ Contains ys x) → xs ≡ ys
  same_ascending [] [] h k same = refl
  same_ascending [] (y ∷ ys) h k same = absurd (none y ((same y).1 (here y ys)))
  same_ascending (x ∷ xs) [] h k same = absurd (none x ((same x).0 (here x xs)))
  same_ascending (x ∷ xs) (y ∷ ys) h k same =
      let least = same_least x y xs ys h k ((same y).1 (here y ys)) ((same x).0 (here x xs)) in
      let forth : (z : K) → Contains xs z → Contains ys z = λ z c. behind_least x z xs ys h c (subst (λ w. Contains (w ∷ ys) z) (sym least) ((same z).0 (there x z xs c))) in
      let back : (z : K) → Contains ys z → Contains xs z = λ z c. behind_least y z ys xs k c (subst (λ w. Contains (w ∷ xs) z) least ((same z).1 (there y z ys c))) in
      let rest = same_ascending xs ys (sorted_tail R x xs h) (sorted_tail R y ys k) (λ z. (forth z, back z)) in
      λ i. least i ∷ rest i

  pub same_set : (xs ys members : List K) → IsAscendingSet R xs members → IsAscendingSet R ys members → xs ≡ ys
  same_set xs ys members h k = same_ascending xs ys h.ascends k.ascends (λ x. (λ c. (k.members x).1 ((h.members x).0 c), λ c. (h.members x).1 ((k.members x).0 c)))
