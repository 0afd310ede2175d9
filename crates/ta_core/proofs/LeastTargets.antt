-- Least targets in lists of transitions that ascend, and in what is kept aside.
use Rattle.std.proofs.Common.{◌≡◌, ℕ, ◌<◌, ◌≤◌, ◌⊎◌, false, List, [], ◌∷◌, ◌++◌, length, get_or, Option, Some, None, Contains, IfSome, IfNone, refl, sym, ap, subst, ◌∙◌, ⊎_elim, inl, inr, min, arith, Result, Ok, Err, true≢false, BTreeSet}
use Rattle.std.proofs.lemmas.Bool.{cases_lt}
use Rattle.std.proofs.lemmas.Bool.Decides.{nat_tests}
use Rattle.std.specs.declared.cmp.Ordering.{Ordering}
use Rattle.std.specs.declared.cmp.Ordering.TheVariants.{Less, Equal, Greater}
use Rattle.std.specs.Ordering.{is_gt, nat_cmp, ordering_then, ordering_reverse}
use Rattle.std.specs.Cmp.{IsTotalOrder}
use Rattle.std.specs.Cmp.Lexicographic.{slice_cmp}
use Rattle.std.specs.declared.ops.Bound.TheVariants.{Included, Unbounded}
use Rattle.std.specs.BTreeSet.{IsKeyRangeOf, IsKeyInRange}
use Rattle.std.specs.List.{AllWithin, HoldsAt, slice_get}
use Rattle.std.specs.List.Sorted.{IsStrictlySortedBy, IsSearchInRange, IsBinarySearchResult}
use Rattle.std.proofs.Math.Nat.{eq-or-lt_of_le}
use Rattle.std.proofs.lemmas.Map.Keys.{Less-from_sorted}
use Rattle.std.proofs.lemmas.Map.Views.{btree_set_contains_iff}
use Rattle.list_laws.proofs.Places.{searchable}
use Rattle.std.proofs.lemmas.Cmp.{nat_cmp_total, nat_list_cmp_total, tied_itself}
use Rattle.std.proofs.lemmas.List.{get_or_default}
use Rattle.std.proofs.lemmas.List.Elements.{Contains-append_left, Contains-append_right, Contains-append_cases, Contains-get_or}
use Rattle.std.proofs.lemmas.Map.Lookups.{CmpEqualImpliesEq, exact_unsigned, exact_bytes}
use Rattle.ta_core.specs.declared.trans.Trans.{Trans}
use Rattle.ta_core.specs.TreeAutomaton.{TreeAutomaton, trans_of, trans_cmp}
use Rattle.ta_core.specs.lemmas.Orders.{trans_total, trans_exact}
use Rattle.ta_core.specs.KeptAside.{grown_by, IsLeastOf, HasNone, IsNext, lesser}
use Rattle.ta_core.specs.Growth.{IsLeastTarget, HasNoTarget}
use Rattle.list_laws.specs.InOrder.{in_order}
use Rattle.list_laws.proofs.InOrder.{in_order_has, in_order_had}

-- ---- orders

then_first : (r s : Ordering) → is_gt (ordering_then r s) ≡ false → is_gt r ≡ false
then_first Less s e = refl
then_first Equal s e = refl
then_first Greater s e = e

then_second : (r s : Ordering) → r ≡ Equal → is_gt (ordering_then r s) ≡ false → is_gt s ≡ false
then_second r s same e = subst (λ r. is_gt (ordering_then r s) ≡ false) same e

module _ {K : Type 0} {R : K → K → Ordering} (o : IsTotalOrder R) (exact : CmpEqualImpliesEq R) where
  squeezed : (a b : K) → is_gt (R a b) ≡ false → is_gt (R b a) ≡ false → R a b ≡ Equal
  squeezed a b e f = by (R a b) refl
    where
      by : (r : Ordering) → R a b ≡ r → R a b ≡ Equal
      by Less h = let k : R b a ≡ Greater = o.antisymm b a ∙ ap ordering_reverse h in absurd (cc)
      by Equal h = h
      by Greater h = absurd (cc)

  -- not greater, by the order of the list
  not_gt : (a b : K) → R a b ≡ Less → is_gt (R a b) ≡ false
  not_gt a b e = ap is_gt e

  not_gt_self : (a b : K) → a ≡ b → is_gt (R a b) ≡ false
  not_gt_self a b e = ap is_gt (ap (R a) (sym e) ∙ tied_itself o a)

-- what stands between the key and one of its transitions is one of its transitions
between : (key t : Trans) (q : ℕ) → is_gt (trans_cmp key t) ≡ false → is_gt (trans_cmp t (trans_of key.sym key.args q)) ≡ false → (t.sym ≡ key.sym) × (t.args ≡ key.args)
between key t q low high =
    let a = squeezed nat_cmp_total exact_unsigned key.sym t.sym (then_first (nat_cmp key.sym t.sym) _ low) (then_first (nat_cmp t.sym key.sym) _ high) in
    let same : t.sym ≡ key.sym = sym (exact_unsigned key.sym t.sym a) in
    let b : nat_cmp t.sym key.sym ≡ Equal = ap (nat_cmp t.sym) (sym same) ∙ tied_itself nat_cmp_total t.sym in
    let low' = then_second (nat_cmp key.sym t.sym) (ordering_then (slice_cmp nat_cmp key.args t.args) (nat_cmp key.to t.to)) a low in
    let high' = then_second (nat_cmp t.sym key.sym) (ordering_then (slice_cmp nat_cmp t.args key.args) (nat_cmp t.to q)) b high in
    let d = squeezed nat_list_cmp_total exact_bytes key.args t.args (then_first (slice_cmp nat_cmp key.args t.args) _ low') (then_first (slice_cmp nat_cmp t.args key.args) _ high') in
    (same, sym (exact_bytes key.args t.args d))

-- among the key's transitions the order is that of the targets
targets_ordered : (f : ℕ) (ps : List ℕ) (p q : ℕ) → is_gt (trans_cmp (trans_of f ps p) (trans_of f ps q)) ≡ false → p ≤ q
targets_ordered f ps p q e =
    let rest = ordering_then (slice_cmp nat_cmp ps ps) (nat_cmp p q) in
    let a = then_second (nat_cmp f f) rest (tied_itself nat_cmp_total f) e in
    let b = then_second (slice_cmp nat_cmp ps ps) (nat_cmp p q) (tied_itself nat_list_cmp_total ps) a in
    not_above p q b
  where
    not_above : (a b : ℕ) → is_gt (nat_cmp a b) ≡ false → a ≤ b
    not_above a b e = grind (arith, nat_tests, e)

-- the first transition from the key on tells the least target
pub next_tells : (ts : List Trans) (key t : Trans) (found : Option ℕ) → IsNext ts key t → IfSome found (λ p. t ≡ trans_of key.sym key.args p) →
    IfNone found ((p : ℕ) → t ≡ trans_of key.sym key.args p → ⊥) → IsLeastOf ts key found
next_tells ts key t (Some p) next is never = record {
  has = subst (Contains ts) is next.has;
  least = λ q c. targets_ordered key.sym key.args p q (subst (λ x. is_gt (trans_cmp x (trans_of key.sym key.args q)) ≡ false) is (next.before q c));
}
next_tells ts key t None next is never = λ q c.
    let h = between key t q next.on (next.before q c) in
    never t.to (λ i. trans_of (h.0 i) (h.1 i) t.to)

-- of two lists the lesser one
pub lesser_of_both : (xs ys all : List Trans) (key : Trans) (a b : Option ℕ) → ((t : Trans) → Contains all t → Contains xs t ⊎ Contains ys t) → ((t : Trans) → Contains xs t → Contains all t) → ((t : Trans) → Contains ys t → Contains all t) →
    IsLeastOf xs key a → IsLeastOf ys key b → IsLeastOf all key (lesser a b)
lesser_of_both xs ys all key (Some p) (Some q) split left right h k = record {
  has = by (cases_lt p q);
  least = λ r c. ⊎_elim (λ i. omega (arith, h.least r i)) (λ i. omega (arith, k.least r i)) (split (trans_of key.sym key.args r) c);
}
  where
    by : (p < q) ⊎ (q ≤ p) → Contains all (trans_of key.sym key.args (min p q))
    by (inl e) = let m : p ≡ min p q = omega (arith, e) in subst (λ r. Contains all (trans_of key.sym key.args r)) m (left (trans_of key.sym key.args p) h.has)
    by (inr e) = let m : q ≡ min p q = omega (arith, e) in subst (λ r. Contains all (trans_of key.sym key.args r)) m (right (trans_of key.sym key.args q) k.has)
lesser_of_both xs ys all key (Some p) None split left right h k = record {
  has = left (trans_of key.sym key.args p) h.has;
  least = λ r c. ⊎_elim (λ i. h.least r i) (λ i. absurd (k r i)) (split (trans_of key.sym key.args r) c);
}
lesser_of_both xs ys all key None (Some q) split left right h k = record {
  has = right (trans_of key.sym key.args q) k.has;
  least = λ r c. ⊎_elim (λ i. absurd (h r i)) (λ i. k.least r i) (split (trans_of key.sym key.args r) c);
}
lesser_of_both xs ys all key None None split left right h k = λ r c. ⊎_elim (λ i. h r i) (λ i. k r i) (split (trans_of key.sym key.args r) c)

-- of the whole automaton
pub least_of_grown : (A : TreeAutomaton) (fresh : ℕ) (trans : List Trans) (eps : List (ℕ × ℕ)) (key : Trans) (a b : Option ℕ) → IsLeastOf A.trans key a → IsLeastOf trans key b →
    IsLeastOf (grown_by A fresh trans eps).trans key (lesser a b)
least_of_grown A fresh trans eps key a b h k =
    lesser_of_both A.trans trans (in_order trans_cmp (A.trans ++ trans)) key a b
    (λ t c. Contains-append_cases A.trans trans t (in_order_had trans_total trans_exact (A.trans ++ trans) t c))
    (λ t c. in_order_has trans_total trans_exact (A.trans ++ trans) t (Contains-append_left A.trans trans t c))
    (λ t c. in_order_has trans_total trans_exact (A.trans ++ trans) t (Contains-append_right A.trans trans t c)) h k

pub as_target : (A : TreeAutomaton) (f : ℕ) (ps : List ℕ) (found : Option ℕ) → IsLeastOf A.trans (trans_of f ps 0) found → IfSome found (IsLeastTarget A f ps)
as_target A f ps (Some p) h = record { has = h.has; least = h.least }
as_target A f ps None h = tt

pub as_none : (A : TreeAutomaton) (f : ℕ) (ps : List ℕ) (found : Option ℕ) → IsLeastOf A.trans (trans_of f ps 0) found → IfNone found (HasNoTarget A f ps)
as_none A f ps (Some p) h = tt
as_none A f ps None h = h

-- ---- where the key stands in a list that ascends

pub record Gap (ts : List Trans) (key : Trans) (at : ℕ) : Type 0 where
  pub below : (k : ℕ) (d : Trans) → k < at → k < length ts → trans_cmp (get_or ts k d) key ≡ Less
  pub on : (k : ℕ) (d : Trans) → at ≤ k → k < length ts → is_gt (trans_cmp key (get_or ts k d)) ≡ false

gap_found : (ts : List Trans) (key : Trans) (i : ℕ) → IsStrictlySortedBy trans_cmp ts → i < length ts → HoldsAt (λ y. trans_cmp y key ≡ Equal) ts i → Gap ts key i
gap_found ts key i s in_list is = record {
  below = λ k d l m. subst (λ x. trans_cmp (get_or ts k d) x ≡ Less) (trans_exact (get_or ts i d) key (is d)) (Less-from_sorted trans_cmp ts k i d s l in_list);
  on = λ k d l m. ⊎_elim
      (λ same. not_gt_self trans_total trans_exact key (get_or ts k d) (sym (trans_exact (get_or ts i d) key (is d)) ∙ ap (λ j. get_or ts j d) same))
      (λ later. not_gt trans_total trans_exact key (get_or ts k d) (subst (λ x. trans_cmp x (get_or ts k d) ≡ Less) (trans_exact (get_or ts i d) key (is d)) (Less-from_sorted trans_cmp ts i k d s later m)))
      (eq-or-lt_of_le l);
}

gap_between : (ts : List Trans) (key : Trans) (i : ℕ) → AllWithin (λ y. trans_cmp y key ≡ Less) ts 0 i → AllWithin (λ y. trans_cmp y key ≡ Greater) ts i (length ts) → Gap ts key i
gap_between ts key i before after = record {
  below = λ k d l m. before k d (omega arith) l;
  on = λ k d l m. not_gt trans_total trans_exact key (get_or ts k d) (trans_total.antisymm key (get_or ts k d) ∙ ap ordering_reverse (after k d l m));
}

pub gap_at : (ts : List Trans) (key : Trans) (r : Result ℕ ℕ) (at : ℕ) → IsStrictlySortedBy trans_cmp ts → IsSearchInRange r (length ts) → IsBinarySearchResult (λ y. trans_cmp y key) ts r →
    (r ≡ Ok at) ⊎ (r ≡ Err at) → Gap ts key at
gap_at ts key r at s bound position is =
    ⊎_elim
    (λ e. gap_found ts key at s (subst (λ r. IsSearchInRange r (length ts)) e bound) (subst (λ r. IsBinarySearchResult (λ y. trans_cmp y key) ts r) e position))
    (λ e. let position' : IsBinarySearchResult (λ y. trans_cmp y key) ts (Err at) = subst (λ r. IsBinarySearchResult (λ y. trans_cmp y key) ts r) e position in
    let h = position' (searchable trans_total ts key s) in gap_between ts key at h.0 h.1) is

-- the key stands at or before each of its transitions
not_before_key : (key : Trans) (q : ℕ) → key.to ≡ 0 → trans_cmp (trans_of key.sym key.args q) key ≡ Less → ⊥
not_before_key key q zero' e =
    let rest = ordering_then (slice_cmp nat_cmp key.args key.args) (nat_cmp q key.to) in
    let a = subst (λ r. ordering_then r rest ≡ Less) (tied_itself nat_cmp_total key.sym) e in
    let b = subst (λ r. ordering_then r (nat_cmp q key.to) ≡ Less) (tied_itself nat_list_cmp_total key.args) a in
    below_zero q key.to zero' b
  where
    below_zero : (a b : ℕ) → b ≡ 0 → nat_cmp a b ≡ Less → ⊥
    below_zero a b e h = let k : a < b = grind (arith, nat_tests, h) in omega (arith, k, e)

key_first : (key : Trans) (q : ℕ) → key.to ≡ 0 → is_gt (trans_cmp key (trans_of key.sym key.args q)) ≡ false
key_first key q zero' = by (trans_cmp key (trans_of key.sym key.args q)) refl
  where
    by : (r : Ordering) → trans_cmp key (trans_of key.sym key.args q) ≡ r → is_gt r ≡ false
    by Less h = refl
    by Equal h = refl
    by Greater h = absurd (not_before_key key q zero' (trans_total.antisymm (trans_of key.sym key.args q) key ∙ ap ordering_reverse h))

pub next_at : (ts : List Trans) (key t d : Trans) (at : ℕ) → IsStrictlySortedBy trans_cmp ts → key.to ≡ 0 → Gap ts key at → at < length ts → t ≡ get_or ts at d → IsNext ts key t
next_at ts key t d at s zero' gap in_list is = record {
  has = subst (Contains ts) (sym is) (Contains-get_or ts at d in_list);
  on = subst (λ x. is_gt (trans_cmp key x) ≡ false) (sym is) (gap.on at d (omega arith) in_list);
  before = λ q c.
      let x = trans_of key.sym key.args q in
      let k = c.0 in
      ⊎_elim (λ early. absurd (not_before_key key q zero' (subst (λ y. trans_cmp y key ≡ Less) c.2 (gap.below k x early c.1))))
      (λ late. ⊎_elim (λ same. not_gt_self trans_total trans_exact t x (is ∙ (get_or_default ts at d x in_list ∙ (ap (λ j. get_or ts j x) same ∙ c.2))))
      (λ later. not_gt trans_total trans_exact t x
      (subst (λ y. trans_cmp y x ≡ Less) (sym (is ∙ get_or_default ts at d x in_list)) (subst (λ y. trans_cmp (get_or ts at x) y ≡ Less) c.2 (Less-from_sorted trans_cmp ts at k x s later c.1))))
      (eq-or-lt_of_le late)) (cases_lt k at);
}

pub none_past : (ts : List Trans) (key : Trans) (at : ℕ) → key.to ≡ 0 → Gap ts key at → length ts ≤ at → HasNone ts key
none_past ts key at zero' gap past = λ q c.
    let inside : c.0 < length ts = c.1 in
    not_before_key key q zero' (subst (λ y. trans_cmp y key ≡ Less) c.2 (gap.below c.0 (trans_of key.sym key.args q) (omega (arith, inside, past)) inside))

-- ---- the same of a set

pub next_in_set : (s : BTreeSet Trans) (key t : Trans) (rest : List Trans) (r : List Trans) → key.to ≡ 0 → IsKeyRangeOf trans_cmp (Included key) Unbounded s r → r ≡ t ∷ rest → IsNext s.keys key t
next_in_set s key t rest r zero' of is =
    let first = subst (λ r. IfSome (slice_get r 0) (IsKeyInRange trans_cmp (Included key) Unbounded s)) is of.1 in
    record {
      has = (btree_set_contains_iff trans_total trans_exact s t).0 first.1;
      on = first.0.0;
      before = λ q c.
          let x = trans_of key.sym key.args q in
          subst (λ r. IfSome (slice_get r 0) (λ k. is_gt (trans_cmp k x) ≡ false)) is
          (of.2 x (key_first key q zero', tt) ((btree_set_contains_iff trans_total trans_exact s x).1 c));
    }

pub none_in_set : (s : BTreeSet Trans) (key : Trans) (r : List Trans) → key.to ≡ 0 → IsKeyRangeOf trans_cmp (Included key) Unbounded s r → r ≡ [] → HasNone s.keys key
none_in_set s key r zero' of is = λ q c.
    let x = trans_of key.sym key.args q in
    let e = of.5 is x (key_first key q zero', tt) in
    true≢false (sym ((btree_set_contains_iff trans_total trans_exact s x).1 c) ∙ e)
