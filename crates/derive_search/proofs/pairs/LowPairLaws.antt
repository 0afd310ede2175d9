-- How pairs are added, and what was made of choices.
use Rattle.std.proofs.Common.{◌≡◌, ℕ, suc, ◌+◌, ◌<◌, ◌≤◌, Bool, true, false, ◌&&◌, List, [], ◌∷◌, ◌++◌, length, get_or, refl, sym, ap, subst, ◌∙◌, inl, inr, ⊎_elim, append_assoc, append-nil, length-append, arith}
use Rattle.std.specs.List.{Contains, list_any}
use Rattle.std.proofs.lemmas.List.{get_or_default}
use Rattle.std.proofs.lemmas.List.Elements.{Contains-append_left, Contains-push, All-head, All-tail, All-cons}
use Rattle.std.proofs.lemmas.Map.Views.{Contains-from_any}
use Rattle.indexmap.specs.IndexSet.{insert_key}
use Rattle.list_laws.proofs.Members.{parts, none}
use Rattle.ranked_terms.specs.declared.term.Term.{Term}
use Rattle.term_store.specs.Store.{term_at, Keeps}
use Rattle.derive_search.specs.LowPairs.{named_pairs, ArePlaced, AddsPair, Grows}
use Rattle.derive_search.proofs.StoreFacts.{keeps_itself, keeps_more, length-keeps, term_at_stays}
use Rattle.derive_search.proofs.GrowthLaws.{append_cases}

-- ---- one pair

first : (a b : Bool) → (a && b) ≡ true → a ≡ true
first true b h = refl
first false b h = h

second : (a b : Bool) → (a && b) ≡ true → b ≡ true
second true b h = h
second false b h = cc

pub added : (E : ℕ × ℕ → ℕ × ℕ → Bool) → ((x y : ℕ × ℕ) → E x y ≡ true → x ≡ y) → (old : List (ℕ × ℕ)) (p : ℕ × ℕ) (new : List (ℕ × ℕ)) → new ≡ insert_key E old p → AddsPair p old new
added E told old p new is = subst (AddsPair p old) (sym is) (go (list_any (E p) old) refl)
  where
    go : (b : Bool) → list_any (E p) old ≡ b → AddsPair p old (insert_key E old p)
    go true e = rw e (inl (Contains-from_any {eq = E} told p old e, refl))
    go false e = rw e (inr refl)

pub same_pair : (x y : ℕ × ℕ) → (nat_test : Bool) → (rest : Bool) → (nat_test ≡ true → x.0 ≡ y.0) → (rest ≡ true → x.1 ≡ y.1) → (nat_test && rest) ≡ true → x ≡ y
same_pair x y a b f g h = let e = f (first a b h) in let k = g (second a b h) in λ i. (e i, k i)

-- ---- lists of pairs

pub named-append : (terms : List Term) (xs ys : List (ℕ × ℕ)) → named_pairs terms (xs ++ ys) ≡ named_pairs terms xs ++ named_pairs terms ys
named-append terms [] ys = refl
named-append terms (x ∷ xs) ys = ap (λ ps. (x.0, term_at terms x.1) ∷ ps) (named-append terms xs ys)

pub named_stay : (a b : List Term) → Keeps a b → (pairs : List (ℕ × ℕ)) → ArePlaced a pairs → named_pairs b pairs ≡ named_pairs a pairs
named_stay a b k [] h = refl
named_stay a b k (x ∷ pairs) h =
    let e = term_at_stays a b k x.1 (All-head (λ (p : ℕ × ℕ). p.1 < length a) x pairs h) in
    let es = named_stay a b k pairs (All-tail (λ (p : ℕ × ℕ). p.1 < length a) x pairs h) in
    λ i. (x.0, e i) ∷ es i

pub placed_stay : (a b : List Term) → Keeps a b → (pairs : List (ℕ × ℕ)) → ArePlaced a pairs → ArePlaced b pairs
placed_stay a b k pairs h = λ i d l. let x = h i d l in let w = length-keeps a b k in omega (arith, x, w)

pub placed_append : (a : List Term) (xs ys : List (ℕ × ℕ)) → ArePlaced a xs → ArePlaced a ys → ArePlaced a (xs ++ ys)
placed_append a [] ys h k = k
placed_append a (x ∷ xs) ys h k = All-cons (λ (p : ℕ × ℕ). p.1 < length a) x (xs ++ ys) (All-head (λ (p : ℕ × ℕ). p.1 < length a) x xs h) (placed_append a xs ys (All-tail (λ (p : ℕ × ℕ). p.1 < length a) x xs h) k)

pub in_named : (terms : List Term) (pairs : List (ℕ × ℕ)) (p : ℕ × ℕ) → Contains pairs p → Contains (named_pairs terms pairs) (p.0, term_at terms p.1)
in_named terms [] p c = absurd (none p c)
in_named terms (x ∷ pairs) p c = ⊎_elim (λ e. (0, omega arith, ap (λ (y : ℕ × ℕ). (y.0, term_at terms y.1)) e)) (λ r. let h = in_named terms pairs p r in (suc h.0, omega (arith, h.1), h.2)) (parts x p pairs c)

pub pair_of : (terms : List Term) (pairs : List (ℕ × ℕ)) (q : ℕ) (t : Term) → Contains (named_pairs terms pairs) (q, t) → (id : ℕ) × Contains pairs (q, id) × (term_at terms id ≡ t)
pair_of terms [] q t c = absurd (none (q, t) c)
pair_of terms (x ∷ pairs) q t c = ⊎_elim
    (λ e. (x.1, (0, omega arith, (λ i. ((ap (λ (y : ℕ × Term). y.0) e) i, x.1))), ap (λ (y : ℕ × Term). y.1) e))
    (λ r. let h = pair_of terms pairs q t r in (h.0, (suc h.1.0, omega (arith, h.1.1), h.1.2), h.2))
    (parts (x.0, term_at terms x.1) (q, t) (named_pairs terms pairs) c)

-- ---- growth

module _ (Q : ℕ × Term → Type 0) where
  pub grows_not : (terms : List Term) (pairs : List (ℕ × ℕ)) → Grows terms terms pairs pairs Q
  grows_not terms pairs = record { keeps = keeps_itself terms; more = []; is = sym (append-nil pairs); there = λ k d l. absurd (omega (arith, l)); only = λ p c. absurd (none p c) }

  -- a store that grows alone
  pub grows_store : (a b : List Term) (pairs : List (ℕ × ℕ)) → Keeps a b → Grows a b pairs pairs Q
  grows_store a b pairs k = record { keeps = k; more = []; is = sym (append-nil pairs); there = λ k d l. absurd (omega (arith, l)); only = λ p c. absurd (none p c) }

  pub grows_more : (a b c : List Term) (old mid new : List (ℕ × ℕ)) → Grows a b old mid Q → Grows b c mid new Q → Grows a c old new Q
  grows_more a b c old mid new g h = record {
    keeps = keeps_more a b c g.keeps h.keeps;
    more = g.more ++ h.more;
    is = h.is ∙ (ap (λ x. x ++ h.more) g.is ∙ append_assoc old g.more h.more);
    there = placed_append c g.more h.more (placed_stay b c h.keeps g.more g.there) h.there;
    only = λ p m. ⊎_elim
        (λ l. g.only p (subst (λ xs. Contains xs p) (named_stay b c h.keeps g.more g.there) l))
        (λ r. h.only p r)
        (append_cases (named_pairs c g.more) (named_pairs c h.more) p (subst (λ xs. Contains xs p) (named-append c g.more h.more) m));
  }

  pub has_stays : (b c : List Term) (mid new : List (ℕ × ℕ)) → ArePlaced b mid → Grows b c mid new Q → (pair : ℕ × Term) → Contains (named_pairs b mid) pair → Contains (named_pairs c new) pair
  has_stays b c mid new placed h p m =
      subst (λ xs. Contains (named_pairs c xs) p) (sym h.is) (subst (λ xs. Contains xs p) (sym (named-append c mid h.more))
      (Contains-append_left (named_pairs c mid) (named_pairs c h.more) p (subst (λ xs. Contains xs p) (sym (named_stay b c h.keeps mid placed)) m)))

  pub placed_now : (a b : List Term) (old new : List (ℕ × ℕ)) → ArePlaced a old → Grows a b old new Q → ArePlaced b new
  placed_now a b old new placed g = subst (ArePlaced b) (sym g.is) (placed_append b old g.more (placed_stay a b g.keeps old placed) g.there)

pub grows_by : (Q P : ℕ × Term → Type 0) → ((pair : ℕ × Term) → Q pair → P pair) → (a b : List Term) (old new : List (ℕ × ℕ)) → Grows a b old new Q → Grows a b old new P
grows_by Q P f a b old new g = record { keeps = g.keeps; more = g.more; is = g.is; there = g.there; only = λ p c. f p (g.only p c) }

-- one pair more
pub grows_one : (Q : ℕ × Term → Type 0) (terms : List Term) (old new : List (ℕ × ℕ)) (q id : ℕ) → id < length terms → Q (q, term_at terms id) → AddsPair (q, id) old new → Grows terms terms old new Q
grows_one Q terms old new q id l is a = ⊎_elim
    (λ h. subst (λ ps. Grows terms terms old ps Q) (sym h.1) (grows_not Q terms old))
    (λ e. record {
      keeps = keeps_itself terms;
      more = (q, id) ∷ [];
      is = e;
      there = All-cons (λ (p : ℕ × ℕ). p.1 < length terms) (q, id) [] l (λ k d m. absurd (omega (arith, m)));
      only = λ p c. ⊎_elim (λ e. subst Q e is) (λ c. absurd (none p c)) (parts (q, term_at terms id) p [] c);
    }) a

pub one_is_there : (old new : List (ℕ × ℕ)) (p : ℕ × ℕ) → AddsPair p old new → Contains new p
one_is_there old new p a = ⊎_elim (λ h. subst (λ ps. Contains ps p) (sym h.1) h.0) (λ e. subst (λ ps. Contains ps p) (sym e) (Contains-push old p)) a

pub one_length : (old new : List (ℕ × ℕ)) (p : ℕ × ℕ) → AddsPair p old new → length new ≤ length old + 1
one_length old new p a = ⊎_elim (λ h. omega (arith, ap length h.1)) (λ e. omega (arith, ap length e, length-append old (p ∷ []))) a

pub added_stays : (old new : List (ℕ × ℕ)) (p : ℕ × ℕ) → AddsPair p old new → (x : ℕ × ℕ) → Contains old x → Contains new x
added_stays old new p a x c = ⊎_elim (λ h. subst (λ ps. Contains ps x) (sym h.1) c) (λ e. subst (λ ps. Contains ps x) (sym e) (Contains-append_left old (p ∷ []) x c)) a

pub member_at : {X : Type 0} (xs : List X) (k : ℕ) (d : X) → k < length xs → Contains xs (get_or xs k d)
member_at xs k d l = (k, l, get_or_default xs k (get_or xs k d) d l)
