-- The list of the variables of a pattern has each once, in order of first occurrence.
-- Nobody has to believe this: it is proved, for the proofs of the crates above.
use Rattle.std.proofs.Common.{◌≡◌, ℕ, Bool, true, false, not, nat_eq, ◌==◌, ◌||◌, if◌then◌else◌, cond, List, [], ◌∷◌, ◌++◌, fold, filter, Contains, ◌⊎◌, inl, inr, refl, sym, ap, subst, ◌∙◌, true≢false, append-nil}
use Rattle.std.specs.List.{IsDistinct, AllByRecursion, list_any}
use Rattle.std.proofs.lemmas.Bool.{eqb-true, eq-eqb}
use Rattle.std.proofs.lemmas.List.Elements.{Contains-append_left, Contains-append_right, Contains-append_cases, Contains-push, Contains-push_cases, filter-append}
use Rattle.std.proofs.lemmas.Map.Views.{Contains-from_any}
use Rattle.list_laws.proofs.Members.{none}
use Rattle.list_laws.proofs.Tests.{neither}
use Rattle.ranked_terms.specs.Terms.{with_variable, firsts, occurrences, variables_of}
use Rattle.ranked_terms.specs.declared.term.Pattern.{Pattern}

-- ---- each once

turned_by : (v w : ℕ) (r : Bool) → (w == v) ≡ r → (v == w) ≡ false → r ≡ false
turned_by v w true e h = absurd (true≢false (sym (eq-eqb v w (sym (eqb-true w v e))) ∙ h))
turned_by v w false e h = refl

turned : (v w : ℕ) → (v == w) ≡ false → (w == v) ≡ false
turned v w h = turned_by v w (w == v) refl h

apart-push : (x v : ℕ) (xs : List ℕ) → AllByRecursion (λ y. nat_eq x y ≡ false) xs → nat_eq x v ≡ false → AllByRecursion (λ y. nat_eq x y ≡ false) (xs ++ v ∷ [])
apart-push x v [] h e = (e, tt)
apart-push x v (y ∷ ys) h e = (h.0, apart-push x v ys h.1 e)

distinct-push : (xs : List ℕ) (v : ℕ) → IsDistinct nat_eq xs → list_any (λ w. v == w) xs ≡ false → IsDistinct nat_eq (xs ++ v ∷ [])
unfolding IsDistinct
distinct-push [] v d h = (tt, tt)
distinct-push (x ∷ xs) v d h =
    let n = neither (v == x) (list_any (λ w. v == w) xs) h in
    (apart-push x v xs d.0 (turned v x n.0), distinct-push xs v d.1 n.1)

distinct_by : (vs : List ℕ) (v : ℕ) (b : Bool) → list_any (λ w. v == w) vs ≡ b → IsDistinct nat_eq vs → IsDistinct nat_eq (if b then vs else (vs ++ v ∷ []))
distinct_by vs v true e d = d
distinct_by vs v false e d = distinct-push vs v d e

distinct_from : (vs xs : List ℕ) → IsDistinct nat_eq vs → IsDistinct nat_eq (fold with_variable vs xs)
distinct_from vs [] d = d
distinct_from vs (x ∷ xs) d = distinct_from (with_variable vs x) xs (distinct_by vs x (list_any (λ w. x == w) vs) refl d)

none_twice : IsDistinct nat_eq []
unfolding IsDistinct
none_twice = tt

pub variables_of-distinct : (p : Pattern) → IsDistinct nat_eq (variables_of p)
variables_of-distinct p = distinct_from [] (occurrences p) none_twice

-- ---- the same variables

came_by : (vs : List ℕ) (x v : ℕ) (b : Bool) → Contains (if b then vs else (vs ++ x ∷ [])) v → Contains vs v ⊎ Contains (x ∷ []) v
came_by vs x v true h = inl h
came_by vs x v false h = Contains-append_cases vs (x ∷ []) v h

came : (vs xs : List ℕ) (v : ℕ) → Contains (fold with_variable vs xs) v → Contains vs v ⊎ Contains xs v
came vs [] v h = inl h
came vs (x ∷ xs) v h =
    elim (came (with_variable vs x) xs v h) [
      | inl a ↦ elim (came_by vs x v (list_any (λ w. x == w) vs) a) [
        | inl b ↦ inl b
        | inr b ↦ inr (Contains-append_left (x ∷ []) xs v b)
      ]
      | inr a ↦ inr (Contains-append_right (x ∷ []) xs v a)
    ]

kept_by : (vs : List ℕ) (x v : ℕ) (b : Bool) → Contains vs v → Contains (if b then vs else (vs ++ x ∷ [])) v
kept_by vs x v true h = h
kept_by vs x v false h = Contains-append_left vs (x ∷ []) v h

kept : (vs xs : List ℕ) (v : ℕ) → Contains vs v → Contains (fold with_variable vs xs) v
kept vs [] v h = h
kept vs (x ∷ xs) v h = kept (with_variable vs x) xs v (kept_by vs x v (list_any (λ w. x == w) vs) h)

taken_by : (vs : List ℕ) (x : ℕ) (b : Bool) → list_any (λ w. x == w) vs ≡ b → Contains (if b then vs else (vs ++ x ∷ [])) x
taken_by vs x true e = Contains-from_any {eq = nat_eq} eqb-true x vs e
taken_by vs x false e = Contains-push vs x

only_one : (x v : ℕ) → Contains (x ∷ []) v → x ≡ v
only_one x v h = elim (Contains-push_cases [] x v h) [ inl a ↦ absurd (none v a) | inr e ↦ e ]

taken : (vs xs : List ℕ) (v : ℕ) → Contains xs v → Contains (fold with_variable vs xs) v
taken vs [] v h = absurd (none v h)
taken vs (x ∷ xs) v h =
    elim (Contains-append_cases (x ∷ []) xs v h) [
      | inl a ↦ kept (with_variable vs x) xs v (subst (Contains (with_variable vs x)) (only_one x v a) (taken_by vs x (list_any (λ w. x == w) vs) refl))
      | inr a ↦ taken (with_variable vs x) xs v a
    ]

pub variables_of-occurs : (p : Pattern) (v : ℕ) → Contains (variables_of p) v → Contains (occurrences p) v
variables_of-occurs p v h = elim (came [] (occurrences p) v h) [ inl a ↦ absurd (none v a) | inr a ↦ a ]

pub occurrences-in_variables_of : (p : Pattern) (v : ℕ) → Contains (occurrences p) v → Contains (variables_of p) v
occurrences-in_variables_of p v h = taken [] (occurrences p) v h

-- ---- in order of first occurrence

-- whether a list has a number, where another one is left out
module _ (v w : ℕ) (unlike : (v == w) ≡ false) where
  kept_apart : (x : ℕ) (r : Bool) → (w == x) ≡ r → (v == x) ≡ true → r ≡ false
  kept_apart x true e h =
      let k : (v == w) ≡ true = eq-eqb v w (eqb-true v x h ∙ sym (eqb-true w x e)) in
      absurd (true≢false (sym k ∙ unlike))
  kept_apart x false e h = refl

  one_left : (x : ℕ) (xs : List ℕ) (r : Bool) → (v == x) ≡ r → list_any (λ y. w == y) (cond (not r) (x ∷ xs) xs) ≡ ((w == x) || list_any (λ y. w == y) xs)
  one_left x xs true e = ap (λ b. b || list_any (λ y. w == y) xs) (sym (kept_apart x (w == x) refl e))
  one_left x xs false e = refl

  any_left : (xs : List ℕ) → list_any (λ y. w == y) (filter (λ y. not (v == y)) xs) ≡ list_any (λ y. w == y) xs
  any_left [] = refl
  any_left (x ∷ xs) =
      one_left x (filter (λ y. not (v == y)) xs) (v == x) refl ∙ ap (λ b. (w == x) || b) (any_left xs)

abbrev others : ℕ → List ℕ → List ℕ
others v xs = filter (λ y. not (v == y)) xs

-- one more variable, which is v or another one
same_more : (v w : ℕ) (vs : List ℕ) (b : Bool) → (v == w) ≡ true → others v (if b then vs else (vs ++ w ∷ [])) ≡ others v vs
same_more v w vs true e = refl
same_more v w vs false e =
    filter-append (λ y. not (v == y)) vs (w ∷ []) ∙ (ap (λ b. others v vs ++ cond (not b) (w ∷ []) []) e ∙ append-nil (others v vs))

other_more : (v w : ℕ) (vs : List ℕ) (b : Bool) → (v == w) ≡ false → others v (if b then vs else (vs ++ w ∷ [])) ≡ (if b then others v vs else (others v vs ++ w ∷ []))
other_more v w vs true e = refl
other_more v w vs false e = filter-append (λ y. not (v == y)) vs (w ∷ []) ∙ ap (λ b. others v vs ++ cond (not b) (w ∷ []) []) e

more_by : (v w : ℕ) (vs : List ℕ) (r : Bool) → (v == w) ≡ r → with_variable (v ∷ others v vs) w ≡ v ∷ others v (with_variable vs w)
more_by v w vs true e =
    ap (λ b. if b || list_any (λ y. w == y) (others v vs) then v ∷ others v vs else ((v ∷ others v vs) ++ w ∷ [])) (eq-eqb w v (sym (eqb-true v w e)))
    ∙ ap (λ l. v ∷ l) (sym (same_more v w vs (list_any (λ y. w == y) vs) e))
more_by v w vs false e =
    ap (λ b. if b || list_any (λ y. w == y) (others v vs) then v ∷ others v vs else ((v ∷ others v vs) ++ w ∷ [])) (turned v w e)
    ∙ (ap (λ b. if b then v ∷ others v vs else ((v ∷ others v vs) ++ w ∷ [])) (any_left v w e vs)
    ∙ (moved (list_any (λ y. w == y) vs) ∙ ap (λ l. v ∷ l) (sym (other_more v w vs (list_any (λ y. w == y) vs) e))))
  where
    moved : (b : Bool) → (if b then v ∷ others v vs else ((v ∷ others v vs) ++ w ∷ [])) ≡ v ∷ (if b then others v vs else (others v vs ++ w ∷ []))
    moved true = refl
    moved false = refl

firsts_from : (v : ℕ) (vs xs : List ℕ) → fold with_variable (v ∷ others v vs) xs ≡ v ∷ others v (fold with_variable vs xs)
firsts_from v vs [] = refl
firsts_from v vs (x ∷ xs) = ap (λ l. fold with_variable l xs) (more_by v x vs (v == x) refl) ∙ firsts_from v (with_variable vs x) xs

-- the first comes first, and then the others of the rest, in their order
pub firsts-cons : (v : ℕ) (vs : List ℕ) → firsts (v ∷ vs) ≡ v ∷ filter (λ w. not (v == w)) (firsts vs)
firsts-cons v vs = firsts_from v [] vs
