-- The states of a list that are no members of a set, one more state after the other.
use Rattle.std.proofs.Common.{◌≡◌, ◌↔◌, ◌<◌, ◌+◌, ℕ, Bool, true, false, ◌==◌, not, cond, IsTrue, List, [], ◌∷◌, ◌++◌, length, get_or, take, refl, sym, ap, ◌∙◌, subst, ⊎_elim, Contains, true≢false}
use Rattle.std.specs.List.{filter, list_any}
use Rattle.std.proofs.lemmas.List.{append-nil}
use Rattle.std.proofs.lemmas.List.Elements.{filter_more}
use Rattle.list_laws.proofs.Members.{here, there, parts, none}
use Rattle.list_laws.proofs.Members.{is_member}

equal : (a b : Bool) → (a ≡ true → b ≡ true) → (b ≡ true → a ≡ true) → a ≡ b
equal true b f g = sym (f refl)
equal false true f g = g refl
equal false false f g = refl

-- the state is no member of the set
abbrev pub misses : List ℕ → ℕ → Bool
misses set q = not (list_any (λ y. q == y) set)

module _ (set : List ℕ) where
  missed : (q : ℕ) (found : Bool) → IsTrue found ↔ Contains set q → misses set q ≡ not found
  missed q found is =
      let m = is_member set q (list_any (λ y. q == y) set) refl in
      ap not (equal (list_any (λ y. q == y) set) found (λ t. is.1 (m.0 t)) (λ t. m.1 (is.0 t)))

  -- one more state, which is kept or left out
  pub one_more : (states : List ℕ) (i : ℕ) (others next : List ℕ) (found : Bool) → i < length states → others ≡ filter (misses set) (take i states) → IsTrue found ↔ Contains set (get_or states i 0) →
      next ≡ others ++ cond (not found) (get_or states i 0 ∷ []) [] → next ≡ filter (misses set) (take (i + 1) states)
  one_more states i others next found l e is n =
      let q = get_or states i 0 in
      n ∙ (ap (λ xs. xs ++ cond (not found) (q ∷ []) []) e ∙ (ap (λ b. filter (misses set) (take i states) ++ cond b (q ∷ []) []) (sym (missed q found is)) ∙ sym (filter_more (misses set) states i 0 l)))

  pub kept : (q : ℕ) (others next : List ℕ) (found : Bool) → found ≡ false → next ≡ others ++ q ∷ [] → next ≡ others ++ cond (not found) (q ∷ []) []
  kept q others next found e n = n ∙ ap (λ b. others ++ cond (not b) (q ∷ []) []) (sym e)

  pub left_out : (q : ℕ) (others next : List ℕ) (found : Bool) → found ≡ true → next ≡ others → next ≡ others ++ cond (not found) (q ∷ []) []
  left_out q others next found e n = n ∙ (sym (append-nil others) ∙ ap (λ b. others ++ cond (not b) (q ∷ []) []) (sym e))

  -- ---- members

  no_member : (q : ℕ) → misses set q ≡ true → Contains set q → ⊥
  no_member q e c = true≢false (sym e ∙ ap not ((is_member set q (list_any (λ y. q == y) set) refl).1 c))

  member : (q : ℕ) → misses set q ≡ false → Contains set q
  member q e = (is_member set q (list_any (λ y. q == y) set) refl).0 (go (list_any (λ y. q == y) set) e)
    where
      go : (b : Bool) → not b ≡ false → b ≡ true
      go true e = refl
      go false e = sym e

  filtered : (states : List ℕ) (q : ℕ) → Contains (filter (misses set) states) q ↔ (Contains states q × (Contains set q → ⊥))
  filtered [] q = (λ c. absurd (none q c), λ h. absurd (none q h.0))
  filtered (x ∷ xs) q = go (filtered xs q) (misses set x) refl
    where
      go : Contains (filter (misses set) xs) q ↔ (Contains xs q × (Contains set q → ⊥)) → (b : Bool) → misses set x ≡ b →
          Contains (cond b (x ∷ filter (misses set) xs) (filter (misses set) xs)) q ↔ (Contains (x ∷ xs) q × (Contains set q → ⊥))
      go rest true e = (
        λ c. ⊎_elim (λ same. (subst (Contains (x ∷ xs)) same (here x xs), subst (λ y. Contains set y → ⊥) same (no_member x e))) (λ later. let h = rest.0 later in (there x q xs h.0, h.1)) (parts x q (filter (misses set) xs) c),
        λ h. ⊎_elim (λ same. subst (Contains (x ∷ filter (misses set) xs)) same (here x (filter (misses set) xs))) (λ later. there x q (filter (misses set) xs) (rest.1 (later, h.1))) (parts x q xs h.0),
      )
      go rest false e = (
        λ c. let h = rest.0 c in (there x q xs h.0, h.1),
        λ h. ⊎_elim (λ same. absurd (h.1 (subst (Contains set) same (member x e)))) (λ later. rest.1 (later, h.1)) (parts x q xs h.0),
      )

  pub outside_members : (states others : List ℕ) → others ≡ filter (misses set) states → (q : ℕ) → Contains others q ↔ (Contains states q × (Contains set q → ⊥))
  outside_members states others e q = subst (λ xs. Contains xs q ↔ (Contains states q × (Contains set q → ⊥))) (sym e) (filtered states q)

-- by what the members of the set have
pub missed_by : {A B C D : Type 0} → A ↔ (B × (C → ⊥)) → C ↔ D → A ↔ (B × (D → ⊥))
missed_by a s = (λ x. let h = a.0 x in (h.0, λ d. h.1 (s.1 d)), λ h. a.1 (h.0, λ x. h.1 (s.0 x)))
