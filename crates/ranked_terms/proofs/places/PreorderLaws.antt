-- The positions of a term in preorder.
use Rattle.std.proofs.Common.{◌≡◌, ◌↔◌, ◌⊎◌, inl, inr, ℕ, zero, suc, ◌+◌, ◌^◌, ◌<◌, ◌≤◌, Bool, true, true≢false, ◌&&◌, List, [], ◌∷◌, ◌++◌, map, length, take, get_or, refl, sym, ap, subst, ◌∙◌, arith, append_assoc, append-nil, length-take}
use Rattle.std.specs.List.{AllByRecursion, Contains, list_all}
use Rattle.std.specs.Prelude.{All, IsTrue, nat_lt}
use borrow.Author.Tests.{ltb-true}
use Rattle.std.specs.Cmp.{ranks, first_so, second_so}
use Rattle.std.specs.Cmp.Lexicographic.{slice_cmp}
use Rattle.std.specs.List.Sorted.{IsStrictlySortedBy}
use Rattle.std.specs.Ordering.{MatchOrdering, nat_cmp, ordering_then}
use Rattle.std.specs.declared.cmp.Ordering.{Ordering}
use Rattle.std.specs.declared.cmp.Ordering.TheVariants.{Less, Equal, Greater}
use Rattle.std.proofs.lemmas.List.{length-map, take_more, take_all}
use Rattle.std.proofs.lemmas.Bool.{eqb-true}
use Rattle.std.proofs.lemmas.Bool.Decides.{nat_tests}
use Rattle.std.proofs.lemmas.List.Elements.{All-head, All-tail, Contains-append_left, Contains-append_right, Contains-append_cases}
use Rattle.std.proofs.lemmas.List.Folds.{list_all-map}
use Rattle.ranked_terms.specs.Names.{Symbol}
use Rattle.ranked_terms.specs.SignatureRules.{IsSignature, IsSymbol}
use Rattle.ranked_terms.specs.Terms.{node, is_over, is_symbol}
use Rattle.ranked_terms.specs.Positions.{HasPosition, is_narrow, is_narrow_step, positions_below, positions_of, positions_step}
use Rattle.ranked_terms.specs.declared.term.Term.{Term}
use Rattle.ranked_terms.specs.declared.term.Term.TheFolds.{fold-roll-Term}
use Rattle.ranked_terms.specs.declared.term.Term.TheViews.{out-Term}
use Rattle.ranked_terms.specs.lemmas.TermLaws.{is_over_node, node_args, node_out, term_induction}
use Rattle.ranked_terms.proofs.places.PositionLaws.{args_of}

pub positions_node : (f : ℕ) (ts : List Term) → positions_of (node f ts) ≡ [] ∷ positions_below 1 (map positions_of ts)
positions_node f ts = fold-roll-Term (List (List ℕ)) positions_step (record { sym = f; args = ts })

-- ---- members

here : {X : Type 0} (x : X) (xs : List X) → Contains (x ∷ xs) x
here x xs = (0, omega arith, refl)

later : {X : Type 0} (x y : X) (xs : List X) → Contains xs y → Contains (x ∷ xs) y
later x y xs c = (suc c.0, (let l = c.1 in omega (arith, l)), c.2)

first_or_later : {X : Type 0} (x y : X) (xs : List X) → Contains (x ∷ xs) y → (x ≡ y) ⊎ Contains xs y
first_or_later x y xs (zero, l, e) = inl e
first_or_later x y xs (suc n, l, e) = inr (n, omega (arith, l), e)

not_in_none : {X A : Type 0} (y : X) → Contains [] y → A
not_in_none y c = let l = c.1 in absurd (omega (arith, l))

Contains-map : {X Y : Type 0} (f : X → Y) (xs : List X) (x : X) → Contains xs x → Contains (map f xs) (f x)
Contains-map f [] x c = not_in_none x c
Contains-map f (y ∷ xs) x c = elim (first_or_later y x xs c) [
  | inl e ↦ subst (λ z. Contains (f y ∷ map f xs) (f z)) e (here (f y) (map f xs))
  | inr d ↦ later (f y) (f x) (map f xs) (Contains-map f xs x d)
]

from_map : {X Y : Type 0} (f : X → Y) (xs : List X) (y : Y) → Contains (map f xs) y → (x : X) × Contains xs x × (f x ≡ y)
from_map f [] y c = not_in_none y c
from_map f (x ∷ xs) y c = elim (first_or_later (f x) y (map f xs) c) [
  | inl e ↦ (x, here x xs, e)
  | inr d ↦ let r = from_map f xs y d in (r.0, later x r.0 xs r.1, r.2)
]

-- ---- the positions are those of the subterms

below_has : (k : ℕ) (before : List Term) (v : Term) (after : List Term) (q : List ℕ) → Contains (positions_of v) q → Contains (positions_below k (map positions_of (before ++ v ∷ after))) ((k + length before) ∷ q)
below_has k [] v after q c =
    let e : k + 0 ≡ k = omega arith in
    subst (λ n. Contains (positions_below k (map positions_of (v ∷ after))) (n ∷ q)) (sym e)
    (Contains-append_left (map (λ p. k ∷ p) (positions_of v)) (positions_below (suc k) (map positions_of after)) (k ∷ q) (Contains-map (λ p. k ∷ p) (positions_of v) q c))
below_has k (b ∷ before) v after q c =
    let e : k + suc (length before) ≡ suc k + length before = omega arith in
    subst (λ n. Contains (positions_below k (map positions_of (b ∷ before ++ v ∷ after))) (n ∷ q)) (sym e)
    (Contains-append_right (map (λ p. k ∷ p) (positions_of b)) (positions_below (suc k) (map positions_of (before ++ v ∷ after))) ((suc k + length before) ∷ q) (below_has (suc k) before v after q c))

record Below (k : ℕ) (ts : List Term) (p : List ℕ) : Type 0 where
  before : List Term
  v : Term
  after : List Term
  q : List ℕ
  splits : ts ≡ before ++ v ∷ after
  is : p ≡ (k + length before) ∷ q
  has : Contains (positions_of v) q

from_below : (k : ℕ) (ts : List Term) (p : List ℕ) → Contains (positions_below k (map positions_of ts)) p → Below k ts p
from_below k [] p c = not_in_none p c
from_below k (t ∷ ts) p c = elim (Contains-append_cases (map (λ p. k ∷ p) (positions_of t)) (positions_below (suc k) (map positions_of ts)) p c) [
  | inl a ↦
      let r = from_map (λ (p : List ℕ). k ∷ p) (positions_of t) p a in
      let e : k + 0 ≡ k = omega arith in
      record { before = []; v = t; after = ts; q = r.0; splits = refl; is = sym r.2 ∙ ap (λ n. n ∷ r.0) (sym e); has = r.1 }
  | inr b ↦
      let r = from_below (suc k) ts p b in
      let e : k + suc (length r.before) ≡ suc k + length r.before = omega arith in
      record { before = t ∷ r.before; v = r.v; after = r.after; q = r.q; splits = ap (λ xs. t ∷ xs) r.splits; is = r.is ∙ ap (λ n. n ∷ r.q) (sym e); has = r.has }
]

abbrev IsExact : Term → Type 0
IsExact t = (p : List ℕ) → Contains (positions_of t) p ↔ HasPosition t p

exact_at : (ts before : List Term) (v : Term) (after : List Term) → AllByRecursion IsExact ts → ts ≡ before ++ v ∷ after → IsExact v
exact_at [] [] v after h e = cc
exact_at [] (b ∷ before) v after h e = cc
exact_at (t ∷ ts) [] v after h e = let s : t ≡ v = cc in subst IsExact s h.0
exact_at (t ∷ ts) (b ∷ before) v after h e = let s : ts ≡ before ++ v ∷ after = cc in exact_at ts before v after h.1 s

from_node : (f : ℕ) (ts : List Term) → AllByRecursion IsExact ts → (p : List ℕ) → Contains ([] ∷ positions_below 1 (map positions_of ts)) p → HasPosition (node f ts) p
from_node f ts each p c = elim (first_or_later [] p (positions_below 1 (map positions_of ts)) c) [
  | inl e ↦ subst (HasPosition (node f ts)) e (node f ts, refl)
  | inr b ↦
      let r = from_below 1 ts p b in
      let sub = (exact_at ts r.before r.v r.after each r.splits r.q).0 r.has in
      let place : 1 + length r.before ≡ length r.before + 1 = omega arith in
      subst (HasPosition (node f ts)) (sym r.is) (sub.0, (r.v, record { sym = f; before = r.before; after = r.after; place = place; is = ap (node f) r.splits }, sub.1))
]

to_node : (f : ℕ) (ts : List Term) → AllByRecursion IsExact ts → (p : List ℕ) → HasPosition (node f ts) p → Contains ([] ∷ positions_below 1 (map positions_of ts)) p
to_node f ts each [] h = here [] (positions_below 1 (map positions_of ts))
to_node f ts each (k ∷ q) h =
    let a = h.1.1 in
    let v = h.1.0 in
    let splits : ts ≡ a.before ++ v ∷ a.after = node_args f a.sym ts (a.before ++ v ∷ a.after) a.is in
    let has = (exact_at ts a.before v a.after each splits q).1 (h.0, h.1.2) in
    let place : 1 + length a.before ≡ k = (let p = a.place in omega (arith, p)) in
    later [] (k ∷ q) (positions_below 1 (map positions_of ts))
    (subst (λ us. Contains (positions_below 1 (map positions_of us)) (k ∷ q)) (sym splits)
    (subst (λ n. Contains (positions_below 1 (map positions_of (a.before ++ v ∷ a.after))) (n ∷ q)) place (below_has 1 a.before v a.after q has)))

pub positions_exact : (t : Term) → IsExact t
positions_exact = term_induction IsExact (λ f ts each p. (
  λ c. from_node f ts each p (subst (λ ps. Contains ps p) (positions_node f ts) c),
  λ h. subst (λ ps. Contains ps p) (sym (positions_node f ts)) (to_node f ts each p h),
))

-- ---- they ascend

abbrev order : List ℕ → List ℕ → Ordering
order = slice_cmp nat_cmp

same_by : (k : ℕ) (o : Ordering) → MatchOrdering o (k < k) (k ≡ k) (k < k) → o ≡ Equal
same_by k Less h = absurd (omega (arith, h))
same_by k Equal h = refl
same_by k Greater h = absurd (omega (arith, h))

less_by : (j k : ℕ) (o : Ordering) → j < k → MatchOrdering o (j < k) (j ≡ k) (k < j) → o ≡ Less
less_by j k Less l h = refl
less_by j k Equal l h = absurd (omega (arith, h, l))
less_by j k Greater l h = absurd (omega (arith, h, l))

under : (k : ℕ) (p q : List ℕ) → order p q ≡ Less → order (k ∷ p) (k ∷ q) ≡ Less
under k p q e = ap (λ o. ordering_then o (order p q)) (same_by k (nat_cmp k k) (ranks k k)) ∙ e

before_next : (j k : ℕ) (p q : List ℕ) → j < k → order (j ∷ p) (k ∷ q) ≡ Less
before_next j k p q l = ap (λ o. ordering_then o (order p q)) (less_by j k (nat_cmp j k) l (ranks j k))

-- the head of the list is at least k
abbrev Heads : ℕ → List ℕ → Type 0
Heads k [] = ⊥
Heads k (j ∷ p) = k ≤ j

all_map : {X Y : Type 0} (f : X → Y) (P : Y → Type 0) (Q : X → Type 0) → ((x : X) → Q x → P (f x)) → (xs : List X) → AllByRecursion Q xs → AllByRecursion P (map f xs)
all_map f P Q to [] h = tt
all_map f P Q to (x ∷ xs) h = (to x h.0, all_map f P Q to xs h.1)

all_weaker : {X : Type 0} (P Q : X → Type 0) → ((x : X) → Q x → P x) → (xs : List X) → AllByRecursion Q xs → AllByRecursion P xs
all_weaker P Q to [] h = tt
all_weaker P Q to (x ∷ xs) h = (to x h.0, all_weaker P Q to xs h.1)

all_append : {X : Type 0} (P : X → Type 0) (xs ys : List X) → AllByRecursion P xs → AllByRecursion P ys → AllByRecursion P (xs ++ ys)
all_append P [] ys h k = k
all_append P (x ∷ xs) ys h k = (h.0, all_append P xs ys h.1 k)

all_such : {X : Type 0} (P : X → Type 0) → ((x : X) → P x) → (xs : List X) → AllByRecursion P xs
all_such P h [] = tt
all_such P h (x ∷ xs) = (h x, all_such P h xs)

heads_raise : (k : ℕ) (p : List ℕ) → Heads (suc k) p → Heads k p
heads_raise k [] h = h
heads_raise k (j ∷ p) h = omega (arith, h)

heads_below : (k : ℕ) (pss : List (List (List ℕ))) → AllByRecursion (Heads k) (positions_below k pss)
heads_below k [] = tt
heads_below k (ps ∷ pss) =
    all_append (Heads k) (map (λ p. k ∷ p) ps) (positions_below (suc k) pss)
    (all_map (λ p. k ∷ p) (Heads k) (λ p. Unit {0}) (λ p u. omega arith) ps (all_such (λ p. Unit {0}) (λ p. tt) ps))
    (all_weaker (Heads k) (Heads (suc k)) (heads_raise k) (positions_below (suc k) pss) (heads_below (suc k) pss))

sorted-append : {X : Type 0} (c : X → X → Ordering) (xs ys : List X) → IsStrictlySortedBy c xs → IsStrictlySortedBy c ys → AllByRecursion (λ x. AllByRecursion (λ y. c x y ≡ Less) ys) xs → IsStrictlySortedBy c (xs ++ ys)
unfolding IsStrictlySortedBy
sorted-append c [] ys h k all = k
sorted-append c (x ∷ xs) ys h k all = (all_append (λ y. c x y ≡ Less) xs ys h.0 all.0, sorted-append c xs ys h.1 k all.1)

sorted-under : (k : ℕ) (ps : List (List ℕ)) → IsStrictlySortedBy order ps → IsStrictlySortedBy order (map (λ p. k ∷ p) ps)
unfolding IsStrictlySortedBy
sorted-under k [] h = h
sorted-under k (p ∷ ps) h = (all_map (λ q. k ∷ q) (λ q. order (k ∷ p) q ≡ Less) (λ q. order p q ≡ Less) (λ q e. under k p q e) ps h.0, sorted-under k ps h.1)

after_head : (k : ℕ) (p q : List ℕ) → Heads (suc k) q → order (k ∷ p) q ≡ Less
after_head k p [] h = absurd h
after_head k p (j ∷ q) h = before_next k j p q (omega (arith, h))

sorted-below : (k : ℕ) (pss : List (List (List ℕ))) → AllByRecursion (IsStrictlySortedBy order) pss → IsStrictlySortedBy order (positions_below k pss)
unfolding IsStrictlySortedBy
sorted-below k [] h = tt
sorted-below k (ps ∷ pss) h =
    sorted-append order (map (λ p. k ∷ p) ps) (positions_below (suc k) pss) (sorted-under k ps h.0) (sorted-below (suc k) pss h.1)
    (all_map (λ p. k ∷ p) (λ x. AllByRecursion (λ y. order x y ≡ Less) (positions_below (suc k) pss)) (λ p. Unit {0})
    (λ p u. all_weaker (λ y. order (k ∷ p) y ≡ Less) (Heads (suc k)) (after_head k p) (positions_below (suc k) pss) (heads_below (suc k) pss))
    ps (all_such (λ p. Unit {0}) (λ p. tt) ps))

after_root : (k : ℕ) (q : List ℕ) → Heads k q → order [] q ≡ Less
after_root k [] h = absurd h
after_root k (j ∷ q) h = refl

sorted-node : (pss : List (List (List ℕ))) → AllByRecursion (IsStrictlySortedBy order) pss → IsStrictlySortedBy order ([] ∷ positions_below 1 pss)
unfolding IsStrictlySortedBy
sorted-node pss h = (all_weaker (λ q. order [] q ≡ Less) (Heads 1) (after_root 1) (positions_below 1 pss) (heads_below 1 pss), sorted-below 1 pss h)

pub positions_ascend : (t : Term) → IsStrictlySortedBy order (positions_of t)
positions_ascend = term_induction (λ t. IsStrictlySortedBy order (positions_of t)) (λ f ts each.
    subst (IsStrictlySortedBy order) (sym (positions_node f ts))
    (sorted-node (map positions_of ts) (all_map positions_of (IsStrictlySortedBy order) (λ t. IsStrictlySortedBy order (positions_of t)) (λ t h. h) ts each)))

-- ---- narrow terms

pub narrow_node : (f : ℕ) (ts : List Term) → is_narrow (node f ts) ≡ (nat_lt (length ts) (2 ^ 32) && list_all is_narrow ts)
narrow_node f ts =
    fold-roll-Term Bool is_narrow_step (record { sym = f; args = ts })
    ∙ (λ i. nat_lt (length-map ts is_narrow i) (2 ^ 32) && list_all-map (λ b. b) is_narrow ts i)

narrow_at : (ts : List Term) (i : ℕ) (t : Term) → list_all is_narrow ts ≡ true → i < length ts → t ≡ get_or ts i t → is_narrow t ≡ true
narrow_at [] i t h l e = absurd (omega (arith, l))
narrow_at (u ∷ ts) zero t h l e = ap is_narrow e ∙ first_so (is_narrow u) (list_all is_narrow ts) h
narrow_at (u ∷ ts) (suc i) t h l e = narrow_at ts i t (second_so (is_narrow u) (list_all is_narrow ts) h) (omega (arith, l)) e

pub narrow_parts : (t : Term) → IsTrue (is_narrow t) → (length (args_of t) < 2 ^ 32) × (list_all is_narrow (args_of t) ≡ true)
narrow_parts t h =
    let e = sym (narrow_node (out-Term t).sym (args_of t)) ∙ (ap is_narrow (node_out t) ∙ h) in
    (ltb-true (length (args_of t)) (2 ^ 32) (first_so (nat_lt (length (args_of t)) (2 ^ 32)) (list_all is_narrow (args_of t)) e), second_so (nat_lt (length (args_of t)) (2 ^ 32)) (list_all is_narrow (args_of t)) e)

pub narrow_argument : (t : Term) (ts : List Term) (i : ℕ) (u : Term) → IsTrue (is_narrow t) → ts ≡ args_of t → i < length ts → u ≡ get_or ts i u → IsTrue (is_narrow u)
narrow_argument t ts i u h e l is = narrow_at ts i u (subst (λ us. list_all is_narrow us ≡ true) (sym e) (narrow_parts t h).1) l is

-- ---- one argument more

below-append : (k : ℕ) (pss qss : List (List (List ℕ))) → positions_below k (pss ++ qss) ≡ positions_below k pss ++ positions_below (k + length pss) qss
below-append k [] qss = let e : k ≡ k + 0 = omega arith in ap (λ n. positions_below n qss) e
below-append k (ps ∷ pss) qss =
    let e : suc k + length pss ≡ k + suc (length pss) = omega arith in
    ap (λ qs. map (λ p. k ∷ p) ps ++ qs) (below-append (suc k) pss qss ∙ ap (λ n. positions_below (suc k) pss ++ positions_below n qss) e)
    ∙ sym (append_assoc (map (λ p. k ∷ p) ps) (positions_below (suc k) pss) (positions_below (k + suc (length pss)) qss))

map-append : {X Y : Type 0} (f : X → Y) (xs ys : List X) → map f (xs ++ ys) ≡ map f xs ++ map f ys
map-append f [] ys = refl
map-append f (x ∷ xs) ys = ap (λ zs. f x ∷ zs) (map-append f xs ys)

paths-down : (path : List ℕ) (k : ℕ) (ps : List (List ℕ)) → map (λ p. (path ++ k ∷ []) ++ p) ps ≡ map (λ p. path ++ p) (map (λ p. k ∷ p) ps)
paths-down path k [] = refl
paths-down path k (p ∷ ps) = (λ i. append_assoc path (k ∷ []) p i ∷ paths-down path k ps i)

-- what is found once the argument at place i has been walked
pub found_more : (path : List ℕ) (old before after : List (List ℕ)) (ts : List Term) (i : ℕ) (t : Term) → i < length ts → t ≡ get_or ts i t
    → before ≡ old ++ map (λ p. path ++ p) ([] ∷ positions_below 1 (map positions_of (take i ts)))
    → after ≡ before ++ map (λ p. (path ++ (i + 1) ∷ []) ++ p) (positions_of t)
    → after ≡ old ++ map (λ p. path ++ p) ([] ∷ positions_below 1 (map positions_of (take (i + 1) ts)))
found_more path old before after ts i t l is h e =
    let put : List (List ℕ) → List (List ℕ) = map (λ p. path ++ p) in
    let front = [] ∷ positions_below 1 (map positions_of (take i ts)) in
    let last = map (λ p. (i + 1) ∷ p) (positions_of t) in
    let places : 1 + length (map positions_of (take i ts)) ≡ i + 1 = omega (arith, length-map (take i ts) positions_of, length-take i ts, l) in
    let whole : front ++ last ≡ [] ∷ positions_below 1 (map positions_of (take (i + 1) ts)) =
    ap (λ ps. [] ∷ ps) (sym (
    ap (λ us. positions_below 1 (map positions_of us)) (take_more ts i t l ∙ ap (λ u. take i ts ++ u ∷ []) (sym is))
    ∙ (ap (positions_below 1) (map-append positions_of (take i ts) (t ∷ []))
    ∙ (below-append 1 (map positions_of (take i ts)) (positions_of t ∷ [])
    ∙ (ap (λ n. positions_below 1 (map positions_of (take i ts)) ++ positions_below n (positions_of t ∷ [])) places
    ∙ ap (λ qs. positions_below 1 (map positions_of (take i ts)) ++ qs) (append-nil last)))))) in
    e ∙ ((λ j. h j ++ paths-down path (i + 1) (positions_of t) j)
    ∙ (append_assoc old (map (λ p. path ++ p) front) (map (λ p. path ++ p) last)
    ∙ ap (λ ps. old ++ ps) (sym (map-append (λ p. path ++ p) front last) ∙ ap (map (λ p. path ++ p)) whole)))

pub found_all : (path : List ℕ) (old found : List (List ℕ)) (t : Term) (ts : List Term) (i : ℕ) → ts ≡ args_of t → length ts ≤ i
    → found ≡ old ++ map (λ p. path ++ p) ([] ∷ positions_below 1 (map positions_of (take i ts))) → found ≡ old ++ map (λ p. path ++ p) (positions_of t)
found_all path old found t ts i e l h =
    h ∙ ap (λ ps. old ++ map (λ p. path ++ p) ps) (
    ap (λ us. [] ∷ positions_below 1 (map positions_of us)) (take_all i ts l ∙ e)
    ∙ (sym (positions_node (out-Term t).sym (args_of t)) ∙ ap positions_of (node_out t)))

pub found_first : (path : List ℕ) (old found : List (List ℕ)) → found ≡ old ++ path ∷ [] → found ≡ old ++ map (λ p. path ++ p) ([] ∷ positions_below 1 (map positions_of []))
found_first path old found e = e ∙ ap (λ p. old ++ p ∷ []) (sym (append-nil path))

nothing_before : (ps : List (List ℕ)) → map (λ p. [] ++ p) ps ≡ ps
nothing_before [] = refl
nothing_before (p ∷ ps) = ap (λ qs. p ∷ qs) (nothing_before ps)

-- from the root on
pub found_whole : (path : List ℕ) (old found : List (List ℕ)) (t : Term) → path ≡ [] → old ≡ [] → found ≡ old ++ map (λ p. path ++ p) (positions_of t) → found ≡ positions_of t
found_whole path old found t e o h = h ∙ ((λ i. o i ++ map (λ p. e i ++ p) (positions_of t)) ∙ nothing_before (positions_of t))

-- ---- terms over a signature are narrow

few_by : (s : List Symbol) → All IsSymbol s → (f count : ℕ) → is_symbol s f count ≡ true → count ≤ 16
few_by [] all f count e = absurd (true≢false (sym e))
few_by (x ∷ s) all zero count e = let few = (All-head IsSymbol x s all).arity in let same : count ≡ x.1 = eqb-true count x.1 e in omega (arith, few, same)
few_by (x ∷ s) all (suc f) count e = few_by s (All-tail IsSymbol x s all) f count e

all_narrow : (s : List Symbol) (ts : List Term) → AllByRecursion (λ t. is_over s t ≡ true → is_narrow t ≡ true) ts → list_all (is_over s) ts ≡ true → list_all is_narrow ts ≡ true
all_narrow s [] h e = refl
all_narrow s (t ∷ ts) h e =
    (λ i. h.0 (first_so (is_over s t) (list_all (is_over s) ts) e) i && all_narrow s ts h.1 (second_so (is_over s t) (list_all (is_over s) ts) e) i)

pub over_is_narrow : (s : List Symbol) → IsSignature s → (t : Term) → is_over s t ≡ true → is_narrow t ≡ true
over_is_narrow s valid = term_induction (λ t. is_over s t ≡ true → is_narrow t ≡ true) (λ f ts each over.
    let h = sym (is_over_node s f ts) ∙ over in
    let few = few_by s valid.symbols f (length ts) (first_so (is_symbol s f (length ts)) (list_all (is_over s) ts) h) in
    let less : length ts < 2 ^ 32 = omega (arith, few) in
    narrow_node f ts ∙ (λ i. ltb-complete (length ts) less i && all_narrow s ts each (second_so (is_symbol s f (length ts)) (list_all (is_over s) ts) h) i))
  where
    ltb-complete : (n : ℕ) → n < 2 ^ 32 → nat_lt n (2 ^ 32) ≡ true
    ltb-complete n l = grind (arith, nat_tests)
