-- Those of a group that are new stand behind the older ones, which are left out where the last argument alone is to choose.
use Rattle.std.proofs.Common.{◌≡◌, ℕ, ◌+◌, ◌-◌, ◌<◌, ◌≤◌, Bool, true, false, ◌==◌, ◌||◌, not, if◌then◌else◌, ltb, leb, List, [], ◌∷◌, ◌++◌, drop, length, get_or, refl, sym, ap, subst, ◌∙◌, ⊎_elim, length-append, arith}
use Rattle.std.specs.List.{All, Contains}
use Rattle.std.specs.List.Sorted.{IsNonDecreasingBy, IsPartitionedBy}
use Rattle.std.proofs.lemmas.Bool.{eqb-true, eq-eqb, leb-true, leb-false, ltb-false}
use Rattle.std.proofs.lemmas.List.{drop_all}
use Rattle.std.proofs.lemmas.List.Elements.{Contains-push_cases}
use Rattle.std.proofs.lemmas.List.Sorted.{IsNonDecreasingBy-push, IsNonDecreasingBy-short, IsPartitionedBy-ltb}
use Rattle.list_laws.proofs.Members.{none}
use Rattle.ranked_terms.specs.declared.term.Term.{Term}
use Rattle.derive_search.specs.LowPairs.{known_at, mark, IsSplit, AddsKnown, IsChoice, IsChosen}
use Rattle.derive_search.proofs.pairs.LowPairLaws.{member_at}
use Rattle.derive_search.proofs.pairs.KnownLaws.{at_empty}

-- ---- the groups

pub nothing_split : (first : ℕ) (known : List (List (ℕ × Bool))) → All (λ list. list ≡ []) known → IsSplit first 0 known
nothing_split first known empty = record {
  ordered = λ q. subst (IsNonDecreasingBy mark) (sym (at_empty known q empty)) (IsNonDecreasingBy-short mark [] (omega arith));
  old = λ l q e c. absurd (none e (subst (λ xs. Contains xs e) (at_empty known q empty) c));
}

at_most_one : (b : Bool) → (if b then 1 else 0) ≤ 1
at_most_one true = omega arith
at_most_one false = omega arith

unmarked : (e : ℕ × Bool) → e.1 ≡ false → mark e ≡ 0
unmarked e h = ap (λ (b : Bool). if b then 1 else 0) h

-- one pair more
module _ (first n : ℕ) (old new : List (List (ℕ × Bool))) (state id : ℕ) (adds : AddsKnown state (id, leb first n) old new) (s : IsSplit first n old) where
  last_of : (list : List (ℕ × Bool)) → list ≡ known_at old state → (d : ℕ × Bool) → 0 < length list → mark (get_or list (length list - 1) d) ≤ mark (id, leb first n)
  last_of list is d l = go (leb first n) refl
    where
      last : ℕ × Bool
      last = get_or list (length list - 1) d

      go : (b : Bool) → leb first n ≡ b → mark last ≤ (if b then 1 else 0)
      go true e = at_most_one last.1
      go false e =
          let before = leb-false first n e in
          let there : Contains (known_at old state) last = subst (λ xs. Contains xs last) is (member_at list (length list - 1) d (omega (arith, l))) in
          let zero : mark last ≡ 0 = unmarked last (s.old (omega (arith, before)) state last there) in omega (arith, zero)

  ordered_at : (q : ℕ) (b : Bool) → (q == state) ≡ b → IsNonDecreasingBy mark (known_at new q)
  ordered_at q true e =
      subst (IsNonDecreasingBy mark) (sym (ap (known_at new) (eqb-true q state e) ∙ adds.here))
      (IsNonDecreasingBy-push mark (known_at old state) (id, leb first n) (s.ordered state) (last_of (known_at old state) refl))
  ordered_at q false e = subst (IsNonDecreasingBy mark) (sym (adds.others q (λ h. let t : (q == state) ≡ true = eq-eqb q state h in cc))) (s.ordered q)

  not_marked : n < first → (b : Bool) → leb first n ≡ b → leb first n ≡ false
  not_marked l true e = let m = leb-true first n e in absurd (omega (arith, l, m))
  not_marked l false e = e

  old_at : n + 1 ≤ first → (q : ℕ) (e : ℕ × Bool) → Contains (known_at new q) e → (b : Bool) → (q == state) ≡ b → e.1 ≡ false
  old_at l q e c true same = ⊎_elim
      (λ before. s.old (omega (arith, l)) state e before)
      (λ here. sym (ap (λ (x : ℕ × Bool). x.1) here) ∙ not_marked (omega (arith, l)) (leb first n) refl)
      (Contains-push_cases (known_at old state) (id, leb first n) e (subst (λ xs. Contains xs e) (ap (known_at new) (eqb-true q state same) ∙ adds.here) c))
  old_at l q e c false other = s.old (omega (arith, l)) q e (subst (λ xs. Contains xs e) (adds.others q (λ h. let t : (q == state) ≡ true = eq-eqb q state h in cc)) c)

  pub one_split : IsSplit first (n + 1) new
  one_split = record { ordered = λ q. ordered_at q (q == state) refl; old = λ l q e c. old_at l q e c (q == state) refl }

-- ---- the first one that is tried

not_is : (b : Bool) → not b ≡ ltb (if b then 1 else 0) 1
not_is true = refl
not_is false = refl

pub parted : (xs : List (ℕ × Bool)) → IsNonDecreasingBy mark xs → IsPartitionedBy (λ (e : ℕ × Bool). not e.1) xs
parted xs rises i j d l m h =
    not_is (get_or xs i d).1 ∙ IsPartitionedBy-ltb mark xs 1 rises i j d l m (sym (not_is (get_or xs j d).1) ∙ h)

pub not_true : (b : Bool) → not b ≡ true → b ≡ false
not_true true h = cc
not_true false h = refl

neither : (a b : Bool) → (a || b) ≡ false → (a ≡ false) × (b ≡ false)
neither true b h = cc
neither false b h = (refl, h)

both_false : (a b : Bool) → a ≡ false → b ≡ false → (a || b) ≡ false
both_false true b h k = cc
both_false false b h k = k

-- a choice that is whole, and has nothing new
no_choice : (known : List (List (ℕ × Bool))) (b : Bool) (states ids : List ℕ) → states ≡ [] → b ≡ false → IsChoice known b states ids → ⊥
no_choice known b [] [] e h c = cc
no_choice known b [] (id ∷ ids) e h c = absurd c
no_choice known b (q ∷ states) ids e h c = cc

-- what is left out makes nothing
pub left_out : (terms : List Term) (f : ℕ) (chosen : List ℕ) (known : List (List (ℕ × Bool))) (fresh : Bool) (args reached : List ℕ) (e : ℕ × Bool) → (place count : ℕ) → place ≡ length chosen → count ≡ length args
    → (fresh || ltb (place + 1) count) ≡ false → e.1 ≡ false
    → (pair : ℕ × Term) → IsChosen terms f (chosen ++ e.0 ∷ []) known (fresh || e.1) (drop (length (chosen ++ e.0 ∷ [])) args) reached pair → ⊥
left_out terms f chosen known fresh args reached e place count at size none_new old pair h =
    let two = neither fresh (ltb (place + 1) count) none_new in
    let last = ltb-false (place + 1) count two.1 in
    let longer : length (chosen ++ e.0 ∷ []) ≡ length chosen + 1 = length-append chosen (e.0 ∷ []) in
    no_choice known (fresh || e.1) (drop (length (chosen ++ e.0 ∷ [])) args) h.ids (drop_all (length (chosen ++ e.0 ∷ [])) args (omega (arith, last, at, size, longer))) (both_false fresh e.1 two.0 old) h.choice
