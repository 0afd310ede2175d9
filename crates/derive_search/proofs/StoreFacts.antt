-- What stays as a store grows, and how its places tell its terms apart; answers by cases.
use Rattle.std.proofs.Common.{◌≡◌, ℕ, zero, suc, ◌<◌, ◌≤◌, ◌⊎◌, Bool, true, false, ◌==◌, List, [], ◌∷◌, ◌++◌, length, get_or, slice_get, Option, Some, None, refl, sym, ap, subst, ◌∙◌, inl, inr, ⊎_elim, append_assoc, append-nil, length-append, arith}
use Rattle.std.proofs.lemmas.Bool.{eqb-true, eq-eqb}
use Rattle.std.specs.Prelude.{MatchBool, MatchOption}
use Rattle.std.specs.List.{All}
use Rattle.ranked_terms.specs.Terms.{node}
use Rattle.ranked_terms.specs.declared.term.Term.{Term}
use Rattle.term_store.specs.Store.{term_at, IsStore, Keeps}

pub below : (m n : ℕ) (places : List ℕ) → m ≤ n → All (λ a. a < m) places → All (λ a. a < n) places
below m n places l h = λ k d i. let x = h k d i in omega (arith, x, l)

pub slice_get-front : {X : Type 0} (xs ys : List X) (i : ℕ) (x : X) → slice_get xs i ≡ Some x → slice_get (xs ++ ys) i ≡ Some x
slice_get-front [] ys i x e = cc
slice_get-front (y ∷ xs) ys zero x e = e
slice_get-front (y ∷ xs) ys (suc i) x e = slice_get-front xs ys i x e

get_or-front : {X : Type 0} (xs ys : List X) (i : ℕ) (d : X) → i < length xs → get_or (xs ++ ys) i d ≡ get_or xs i d
get_or-front [] ys i d l = absurd (omega (arith, l))
get_or-front (x ∷ xs) ys zero d l = refl
get_or-front (x ∷ xs) ys (suc i) d l = get_or-front xs ys i d (omega (arith, l))

-- ---- a store grows at its end

pub keeps_itself : (terms : List Term) → Keeps terms terms
keeps_itself terms = ([], sym (append-nil terms))

pub keeps_more : (a b c : List Term) → Keeps a b → Keeps b c → Keeps a c
keeps_more a b c k l = (k.0 ++ l.0, l.1 ∙ (ap (λ x. x ++ l.0) k.1 ∙ append_assoc a k.0 l.0))

pub length-keeps : (a b : List Term) → Keeps a b → length a ≤ length b
length-keeps a b k = omega (arith, ap length k.1, length-append a k.0)

pub term_at_stays : (a b : List Term) → Keeps a b → (i : ℕ) → i < length a → term_at b i ≡ term_at a i
term_at_stays a b k i l = ap (λ ts. get_or ts i (node 0 [])) k.1 ∙ get_or-front a k.0 i (node 0 []) l

-- places with one term are one
pub same_ids : (terms : List Term) → IsStore terms → (i j : ℕ) → i < length terms → j < length terms → term_at terms i ≡ term_at terms j → i ≡ j
same_ids terms store i j l k e = go (i == j) refl
  where
    go : (b : Bool) → (i == j) ≡ b → i ≡ j
    go true h = eqb-true i j h
    go false h = absurd (apart (order i j (λ q. let x : (i == j) ≡ true = eq-eqb i j q in cc)))
      where
        order : (i j : ℕ) → (i ≡ j → ⊥) → (i < j) ⊎ (j < i)
        order zero zero n = absurd (n refl)
        order zero (suc j) n = inl (omega arith)
        order (suc i) zero n = inr (omega arith)
        order (suc i) (suc j) n = ⊎_elim (λ l. inl (omega (arith, l))) (λ l. inr (omega (arith, l))) (order i j (λ e. n (ap suc e)))

        apart : (i < j) ⊎ (j < i) → ⊥
        apart (inl less) = store.distinct i j (node 0 []) less k e
        apart (inr more) = store.distinct j i (node 0 []) more l (sym e)

-- ---- answers by cases

pub when_true : (A B : Type 0) (r : Bool) → r ≡ true → MatchBool r A B → A
when_true A B true e h = h
when_true A B false e h = cc

pub when_false : (A B : Type 0) (r : Bool) → r ≡ false → MatchBool r A B → B
when_false A B true e h = cc
when_false A B false e h = h

pub when_none : {X : Type 0} (A : Type 0) (P : X → Type 0) (o : Option X) → o ≡ None → MatchOption o A P → A
when_none A P None e h = h
when_none A P (Some x) e h = cc

pub when_some : {X : Type 0} (A : Type 0) (P : X → Type 0) (o : Option X) (x : X) → o ≡ Some x → MatchOption o A P → P x
when_some A P None x e h = cc
when_some A P (Some y) x e h = let q : y ≡ x = cc in subst P q h

pub match_by : {A B C D : Type 0} (r : Bool) → (A → C) → (B → D) → MatchBool r A B → MatchBool r C D
match_by true f g h = f h
match_by false f g h = g h
