-- Members of lists that are mapped or filtered.
use Rattle.std.proofs.Common.{◌≡◌, Bool, true, false, cond, List, [], ◌∷◌, map, refl, sym, ap, ◌∙◌, subst, ⊎_elim}
use Rattle.std.specs.List.{Contains, filter}
use Rattle.list_laws.proofs.Members.{here, there, none, parts, map_has}

pub image_in : {X Y : Type 0} (f : X → Y) (xs : List X) (x : X) → Contains xs x → Contains (map f xs) (f x)
image_in f xs x c = map_has f xs x (f x) c refl

module _ {X : Type 0} (p : X → Bool) where
  keep_has : (z x : X) (xs : List X) (b : Bool) → Contains (filter p xs) x → Contains (cond b (z ∷ filter p xs) (filter p xs)) x
  keep_has z x xs true c = there z x (filter p xs) c
  keep_has z x xs false c = c

  pub filter_has : (xs : List X) (x : X) → Contains xs x → p x ≡ true → Contains (filter p xs) x
  filter_has [] x c e = absurd (none x c)
  filter_has (z ∷ xs) x c e =
      ⊎_elim
      (λ same. subst (λ b. Contains (cond b (z ∷ filter p xs) (filter p xs)) x) (sym (ap p same ∙ e)) (subst (Contains (z ∷ filter p xs)) same (here z (filter p xs))))
      (λ later. keep_has z x xs (p z) (filter_has xs x later e)) (parts z x xs c)

  abbrev Passed : List X → X → Type 0
  Passed xs x = Contains xs x × (p x ≡ true)

  keep_had : (z x : X) (xs : List X) (b : Bool) → p z ≡ b → (Contains (filter p xs) x → Passed xs x) → Contains (cond b (z ∷ filter p xs) (filter p xs)) x → Passed (z ∷ xs) x
  keep_had z x xs true e rest c =
      ⊎_elim (λ same. (subst (Contains (z ∷ xs)) same (here z xs), subst (λ w. p w ≡ true) same e)) (λ later. let h = rest later in (there z x xs h.0, h.1)) (parts z x (filter p xs) c)
  keep_had z x xs false e rest c = let h = rest c in (there z x xs h.0, h.1)

  pub filter_had : (xs : List X) (x : X) → Contains (filter p xs) x → Passed xs x
  filter_had [] x c = absurd (none x c)
  filter_had (z ∷ xs) x c = keep_had z x xs (p z) refl (filter_had xs x) c
