-- How pairs are grouped by their states, and what is chosen of a group.
use Rattle.std.proofs.Common.{◌≡◌, ◌⊎◌, ℕ, zero, suc, ◌+◌, ◌<◌, ◌≤◌, Bool, true, false, ◌==◌, ◌||◌, List, [], ◌∷◌, map, take, length, slice_get, Some, refl, sym, ap, subst, ◌∙◌, inl, inr, ⊎_elim, leb, leb-false, arith}
use Rattle.std.specs.Prelude.{IsTrue}
use Rattle.std.specs.List.{All, AllZip, Contains}
use Rattle.std.proofs.lemmas.Bool.{eqb-true, eq-eqb, cases_lt}
use Rattle.std.proofs.lemmas.List.Elements.{Contains-append_left, Contains-push, Contains-push_cases}
use Rattle.std.proofs.lemmas.Option.{slice_get_within}
use Rattle.list_laws.proofs.Members.{none}
use Rattle.ranked_terms.specs.declared.term.Term.{Term}
use Rattle.term_store.specs.Store.{term_at}
use Rattle.derive_search.specs.LowPairs.{named_pairs, known_at, IsGrouped, AddsKnown, IsChoice}
use Rattle.derive_search.proofs.SearchLaws.{last_or, same_some}
use Rattle.derive_search.proofs.GrowthLaws.{is_member, at_member}
use Rattle.derive_search.proofs.pairs.LowPairLaws.{in_named, pair_of}

pub at_empty : (known : List (List (ℕ × Bool))) (q : ℕ) → All (λ list. list ≡ []) known → known_at known q ≡ []
at_empty [] q h = refl
at_empty (x ∷ known) zero h = h 0 [] (omega arith)
at_empty (x ∷ known) (suc q) h = at_empty known q (λ k d l. h (suc k) d (omega (arith, l)))

pub nothing_known : (pairs : List (ℕ × ℕ)) (first : ℕ) (known : List (List (ℕ × Bool))) → All (λ list. list ≡ []) known → IsGrouped pairs first 0 known
nothing_known pairs first known empty = record {
  each = λ k q id l e. absurd (omega (arith, l));
  only = λ q id fresh c. absurd (none (id, fresh) (subst (λ xs. Contains xs (id, fresh)) (at_empty known q empty) c));
}

-- one pair more
module _ (pairs : List (ℕ × ℕ)) (first n : ℕ) (old new : List (List (ℕ × Bool))) (state id : ℕ) (fresh : Bool) (is : slice_get pairs n ≡ Some (state, id)) (marked : first ≤ n → IsTrue fresh) (adds : AddsKnown state (id, fresh) old new) where
  kept : (q x : ℕ) (b : Bool) → Contains (known_at old q) (x, b) → Contains (known_at new q) (x, b)
  kept q x b c = go (q == state) refl
    where
      go : (r : Bool) → (q == state) ≡ r → Contains (known_at new q) (x, b)
      go true e = let q_is = eqb-true q state e in
          subst (λ xs. Contains xs (x, b)) (sym (ap (known_at new) q_is ∙ adds.here)) (Contains-append_left (known_at old state) ((id, fresh) ∷ []) (x, b) (subst (λ q. Contains (known_at old q) (x, b)) q_is c))
      go false e = subst (λ xs. Contains xs (x, b)) (sym (adds.others q (λ h. let t : (q == state) ≡ true = eq-eqb q state h in cc))) c

  pub one_known : IsGrouped pairs first n old → IsGrouped pairs first (n + 1) new
  one_known g = record {
    each = λ k q x l e. ⊎_elim
        (λ less. let h = g.each k q x less e in (h.0, h.1, kept q x h.0 h.2))
        (λ same.
        let p : (state, id) ≡ (q, x) = same_some (state, id) (q, x) (sym is ∙ (ap (slice_get pairs) (sym same) ∙ e)) in
        (fresh, (λ m. marked (omega (arith, m, same))), subst (λ (p : ℕ × ℕ). Contains (known_at new p.0) (p.1, fresh)) p (subst (λ xs. Contains xs (id, fresh)) (sym adds.here) (Contains-push (known_at old state) (id, fresh)))))
        (last_or k n l);
    only = λ q x b c. go q x b c (q == state) refl;
  }
    where
      go : (q x : ℕ) (b : Bool) → Contains (known_at new q) (x, b) → (r : Bool) → (q == state) ≡ r → Contains pairs (q, x)
      go q x b c true e =
          let q_is = eqb-true q state e in ⊎_elim
          (λ before. g.only q x b (subst (λ q. Contains (known_at old q) (x, b)) (sym q_is) before))
          (λ here. subst (Contains pairs) (λ i. (sym q_is i, (ap (λ (y : ℕ × Bool). y.0) here) i)) (is_member pairs n (state, id) is))
          (Contains-push_cases (known_at old state) (id, fresh) (x, b) (subst (λ xs. Contains xs (x, b)) (ap (known_at new) q_is ∙ adds.here) c))
      go q x b c false e = g.only q x b (subst (λ xs. Contains xs (x, b)) (adds.others q (λ h. let t : (q == state) ≡ true = eq-eqb q state h in cc)) c)

pub whole_group : (pairs : List (ℕ × ℕ)) (first n : ℕ) (known : List (List (ℕ × Bool))) → length pairs ≤ n → IsGrouped pairs first n known → IsGrouped pairs first (length pairs) known
whole_group pairs first n known enough g = record { each = λ k q id l e. g.each k q id (omega (arith, l, enough)) e; only = g.only }

pub le_test : (a b : ℕ) → a ≤ b → IsTrue (leb a b)
le_test a b l = go (leb a b) refl
  where
    go : (r : Bool) → leb a b ≡ r → IsTrue r
    go true e = refl
    go false e = absurd (omega (arith, leb-false a b e, l))

-- ---- choices for the terms of a transition

-- a pair that is there, by the place of its first time
placed_pair : (terms : List Term) (pairs : List (ℕ × ℕ)) (q : ℕ) (t : Term) → Contains (named_pairs terms pairs) (q, t) → (k : ℕ) × (id : ℕ) × (slice_get pairs k ≡ Some (q, id)) × (term_at terms id ≡ t)
placed_pair terms pairs q t c = let h = pair_of terms pairs q t c in let k = at_member pairs (q, h.0) h.1 in (k.0, h.0, k.1, h.2)

take_has : {X : Type 0} (xs : List X) (n k : ℕ) (x : X) → slice_get xs k ≡ Some x → k < n → Contains (take n xs) x
take_has [] n k x e l = cc
take_has (y ∷ xs) zero k x e l = absurd (omega (arith, l))
take_has (y ∷ xs) (suc n) zero x e l = (0, omega arith, same_some y x e)
take_has (y ∷ xs) (suc n) (suc k) x e l = let h = take_has xs n k x e (omega (arith, l)) in (suc h.0, omega (arith, h.1), h.2)

or_true : (a b : Bool) → IsTrue b → IsTrue (a || b)
or_true true b t = refl
or_true false b t = t

or_before : (a b : Bool) → IsTrue a → IsTrue (a || b)
or_before true b t = refl
or_before false b t = cc

module _ (terms : List Term) (pairs : List (ℕ × ℕ)) (first : ℕ) (known : List (List (ℕ × Bool))) (group : IsGrouped pairs first (length pairs) known) where
  abbrev Old : List ℕ → List Term → Type 0
  Old states args = AllZip (λ q u. Contains (named_pairs terms (take first pairs)) (q, u)) states args

  -- a choice for terms that are there, unless all are old and none has to be new
  pub choose : (fresh : Bool) (states : List ℕ) (args : List Term) → AllZip (λ q u. Contains (named_pairs terms pairs) (q, u)) states args
      → (ids : List ℕ) × (map (term_at terms) ids ≡ args) × (IsChoice known fresh states ids ⊎ ((IsTrue fresh → ⊥) × Old states args))
  choose true [] [] z = ([], refl, inl refl)
  choose false [] [] z = ([], refl, inr (λ t. cc, tt))
  choose fresh [] (u ∷ args) z = absurd z
  choose fresh (q ∷ states) [] z = absurd z
  choose fresh (q ∷ states) (u ∷ args) z =
      let p = placed_pair terms pairs q u z.0 in
      let k = group.each p.0 q p.1 (slice_get_within pairs p.0 (q, p.1) p.2) p.2 in
      let rest = choose (fresh || k.0) states args z.1 in (
        p.1 ∷ rest.0,
        (λ i. p.3 i ∷ rest.1 i),
        ⊎_elim
            (λ c. inl (k.0, k.2, c))
            (λ n. inr (
              (λ t. n.0 (or_before fresh k.0 t)),
              (
                ⊎_elim
                    (λ old. subst (λ u. Contains (named_pairs terms (take first pairs)) (q, u)) p.3 (in_named terms (take first pairs) (q, p.1) (take_has pairs first p.0 (q, p.1) p.2 old)))
                    (λ new. absurd (n.0 (or_true fresh k.0 (k.1 new))))
                    (cases_lt p.0 first),
                n.1,
              ),
            ))
            rest.2,
      )

  -- and what is chosen is there
  pub chosen_there : (fresh : Bool) (states ids : List ℕ) → IsChoice known fresh states ids → AllZip (λ q u. Contains (named_pairs terms pairs) (q, u)) states (map (term_at terms) ids)
  chosen_there fresh [] [] c = tt
  chosen_there fresh [] (id ∷ ids) c = absurd c
  chosen_there fresh (q ∷ states) [] c = absurd c
  chosen_there fresh (q ∷ states) (id ∷ ids) c = (in_named terms pairs (q, id) (group.only q id c.0 c.1), chosen_there (fresh || c.0) states ids c.2)
