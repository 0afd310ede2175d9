-- A quotient is an automaton; the quotient of a quotient is one quotient.
use Rattle.std.proofs.Common.{◌≡◌, ℕ, ◌≤◌, ◌<◌, ◌==◌, Bool, true, false, true≢false, not, cond, List, [], ◌∷◌, map, length, Contains, refl, sym, ap, subst, ◌∙◌, arith}
use Rattle.std.specs.declared.cmp.Ordering.{Ordering}
use Rattle.std.specs.Cmp.{IsTotalOrder}
use Rattle.std.specs.List.{filter}
use Rattle.std.proofs.lemmas.Cmp.{nat_cmp_total}
use Rattle.std.proofs.lemmas.Map.Lookups.{CmpEqualImpliesEq, exact_unsigned}
use Rattle.std.proofs.lemmas.List.{length-map, get_or-map}
use Rattle.std.proofs.lemmas.List.Elements.{All-weaker, All-contains, All-map}
use Rattle.list_laws.proofs.Members.{here, there, all_from_members, map_had}
use Rattle.list_laws.specs.InOrder.{in_order}
use Rattle.list_laws.proofs.InOrder.{in_order_has, in_order_had, in_order_ascends, same_set}
use Rattle.ta_core.specs.declared.trans.Trans.{Trans}
use Rattle.ta_core.specs.TreeAutomaton.{TreeAutomaton, IsSound, IsTransOf, IsEpsOf, trans_of}
use Rattle.ta_core.specs.Acceptance.{image}
use Rattle.ta_core.specs.lemmas.Orders.{trans_total, trans_exact, pair_total, pair_exact}
use Rattle.eq_merge.specs.Quotients.{AreLeasts, quotient, renamed, renamed_eps, moves, followed}
use Rattle.eq_merge.proofs.quotients.Filtered.{image_in, filter_has, filter_had}
use Rattle.eq_merge.proofs.quotients.Survival.{is_same, state_survives}

pub same_from_test : (p q : ℕ) → (p == q) ≡ true → p ≡ q
same_from_test p q e = grind (arith, e)

pub not_same : (p q : ℕ) → (p ≡ q → ⊥) → not (p == q) ≡ true
not_same p q h = by (p == q) refl
  where
    by : (b : Bool) → (p == q) ≡ b → not (p == q) ≡ true
    by true e = absurd (h (same_from_test p q e))
    by false e = ap not e

pub differ : (p q : ℕ) → not (p == q) ≡ true → p ≡ q → ⊥
differ p q t e = absurd (true≢false (sym t ∙ ap not (is_same p q e)))

-- ---- a quotient is an automaton

abbrev pub Origin : (A : TreeAutomaton) → List ℕ → ℕ × ℕ → Type 0
Origin A h e = (o : ℕ × ℕ) × Contains A.eps o × (renamed_eps h o ≡ e) × (moves e ≡ true)

pub eps_had : (A : TreeAutomaton) (h : List ℕ) (e : ℕ × ℕ) → Contains (quotient A h).eps e → Origin A h e
eps_had A h e c =
    let f = filter_had moves (map (renamed_eps h) A.eps) e (in_order_had pair_total pair_exact (filter moves (map (renamed_eps h) A.eps)) e c) in
    let m = map_had (renamed_eps h) A.eps e f.0 in
    (m.0, m.1, m.2, f.1)

pub eps_has : (A : TreeAutomaton) (h : List ℕ) (o : ℕ × ℕ) → Contains A.eps o → (image h o.0 ≡ image h o.1 → ⊥) → Contains (quotient A h).eps (renamed_eps h o)
eps_has A h o c d =
    in_order_has pair_total pair_exact (filter moves (map (renamed_eps h) A.eps)) (renamed_eps h o)
    (filter_has moves (map (renamed_eps h) A.eps) (renamed_eps h o) (image_in (renamed_eps h) A.eps o c) (not_same (image h o.0) (image h o.1) d))

pub trans_had : (A : TreeAutomaton) (h : List ℕ) (t : Trans) → Contains (quotient A h).trans t → (o : Trans) × Contains A.trans o × (renamed h o ≡ t)
trans_had A h t c = map_had (renamed h) A.trans t (in_order_had trans_total trans_exact (map (renamed h) A.trans) t c)

pub finals_had : (A : TreeAutomaton) (h : List ℕ) (q : ℕ) → Contains (quotient A h).finals q → (o : ℕ) × Contains A.finals o × (image h o ≡ q)
finals_had A h q c = map_had (image h) A.finals q (in_order_had nat_cmp_total exact_unsigned (map (image h) A.finals) q c)

-- a state of a quotient is a state, and the least of its class
pub state_had : (A : TreeAutomaton) (h : List ℕ) (q : ℕ) → Contains (quotient A h).states q → Contains A.states q × (image h q ≡ q)
state_had A h q c = let f = filter_had (λ p. image h p == p) A.states q c in (f.0, same_from_test (image h q) q f.1)

module _ {A : TreeAutomaton} (sound : IsSound A) where
  pub state_below : (q : ℕ) → Contains A.states q → q < A.next
  state_below q c = All-contains (λ q. q < A.next) A.states q sound.below c

  pub trans_is : (t : Trans) → Contains A.trans t → IsTransOf A.states t
  trans_is t c = All-contains (IsTransOf A.states) A.trans t sound.trans c

  pub eps_is : (e : ℕ × ℕ) → Contains A.eps e → IsEpsOf A.states e
  eps_is e c = All-contains (IsEpsOf A.states) A.eps e sound.eps c

  pub final_is : (q : ℕ) → Contains A.finals q → Contains A.states q
  final_is q c = All-contains (Contains A.states) A.finals q sound.finals c

  pub quotient_sound : (h : List ℕ) → AreLeasts A h → IsSound (quotient A h)
  quotient_sound h leasts = record {
    below = all_from_members (λ q. q < A.next) (quotient A h).states (λ q c. state_below q (state_had A h q c).0);
    finals = all_from_members (Contains (quotient A h).states) (quotient A h).finals (λ q c.
        let o = finals_had A h q c in
        subst (Contains (quotient A h).states) o.2 (state_survives leasts o.0 (final_is o.0 o.1)));
    trans = all_from_members (IsTransOf (quotient A h).states) (quotient A h).trans (λ t c.
        let o = trans_had A h t c in
        let is = trans_is o.0 o.1 in
        subst (IsTransOf (quotient A h).states) o.2 (record {
          args = All-map (Contains (quotient A h).states) (image h) o.0.args (All-weaker (Contains A.states) (λ q. Contains (quotient A h).states (image h q)) (state_survives leasts) o.0.args is.args);
          to = state_survives leasts o.0.to is.to;
        }));
    eps = all_from_members (IsEpsOf (quotient A h).states) (quotient A h).eps (λ e c.
        let o = eps_had A h e c in
        let is = eps_is o.0 o.1 in
        record {
          from = subst (λ (x : ℕ × ℕ). Contains (quotient A h).states x.0) o.2 (state_survives leasts o.0.0 is.from);
          to = subst (λ (x : ℕ × ℕ). Contains (quotient A h).states x.1) o.2 (state_survives leasts o.0.1 is.to);
          moves = differ e.0 e.1 o.3;
        });
  }

-- ---- one after the other

pub image_followed : (f g : List ℕ) (q : ℕ) → q < length f → image (followed f g) q ≡ image g (image f q)
image_followed f g q below = get_or-map (image g) f q 0 0 below

-- lists in order of what two lists have in common
module _ {X Y : Type 0} {R : Y → Y → Ordering} (o : IsTotalOrder R) (exact : CmpEqualImpliesEq R) (F : X → Y) (G : Y → Y) (H : X → Y) where
  pub twice : (xs : List X) → ((x : X) → Contains xs x → G (F x) ≡ H x) → in_order R (map G (in_order R (map F xs))) ≡ in_order R (map H xs)
  twice xs same =
      let once = map F xs in
      same_set o exact (in_order R (map G (in_order R once))) (in_order R (map H xs)) (in_order_ascends o (map G (in_order R once))) (in_order_ascends o (map H xs))
      (λ z c.
      let a = map_had G (in_order R once) z (in_order_had o exact (map G (in_order R once)) z c) in
      let b = map_had F xs a.0 (in_order_had o exact once a.0 a.1) in
      let e : H b.0 ≡ z = sym (same b.0 b.1) ∙ (ap G b.2 ∙ a.2) in
      in_order_has o exact (map H xs) z (subst (Contains (map H xs)) e (image_in H xs b.0 b.1)))
      (λ z c.
      let a = map_had H xs z (in_order_had o exact (map H xs) z c) in
      let e : G (F a.0) ≡ z = same a.0 a.1 ∙ a.2 in
      in_order_has o exact (map G (in_order R once)) z
      (subst (Contains (map G (in_order R once))) e (image_in G (in_order R once) (F a.0) (in_order_has o exact once (F a.0) (image_in F xs a.0 a.1)))))

  -- the same of what passes a test, where what fails it still fails it later
  pub twice_passed : (p : Y → Bool) → ((y : Y) → p (G y) ≡ true → p y ≡ true) → (xs : List X) → ((x : X) → Contains xs x → G (F x) ≡ H x) →
      in_order R (filter p (map G (in_order R (filter p (map F xs))))) ≡ in_order R (filter p (map H xs))
  twice_passed p early xs same =
      let once = filter p (map F xs) in
      let both = filter p (map G (in_order R once)) in
      let all = filter p (map H xs) in
      same_set o exact (in_order R both) (in_order R all) (in_order_ascends o both) (in_order_ascends o all)
      (λ z c.
      let passed = filter_had p (map G (in_order R once)) z (in_order_had o exact both z c) in
      let a = map_had G (in_order R once) z passed.0 in
      let first = filter_had p (map F xs) a.0 (in_order_had o exact once a.0 a.1) in
      let b = map_had F xs a.0 first.0 in
      let e : H b.0 ≡ z = sym (same b.0 b.1) ∙ (ap G b.2 ∙ a.2) in
      in_order_has o exact all z (filter_has p (map H xs) z (subst (Contains (map H xs)) e (image_in H xs b.0 b.1)) passed.1))
      (λ z c.
      let passed = filter_had p (map H xs) z (in_order_had o exact all z c) in
      let a = map_had H xs z passed.0 in
      let e : G (F a.0) ≡ z = same a.0 a.1 ∙ a.2 in
      let first : p (F a.0) ≡ true = early (F a.0) (subst (λ y. p y ≡ true) (sym e) passed.1) in
      let mid : Contains (in_order R once) (F a.0) = in_order_has o exact once (F a.0) (filter_has p (map F xs) (F a.0) (image_in F xs a.0 a.1) first) in
      in_order_has o exact both z (filter_has p (map G (in_order R once)) z (subst (Contains (map G (in_order R once))) e (image_in G (in_order R once) (F a.0) mid)) passed.1))

-- lists of images
images_twice : (f g : List ℕ) (qs : List ℕ) → ((q : ℕ) → Contains qs q → image g (image f q) ≡ image (followed f g) q) → map (image g) (map (image f) qs) ≡ map (image (followed f g)) qs
images_twice f g [] h = refl
images_twice f g (q ∷ qs) h = λ i. h q (here q qs) i ∷ images_twice f g qs (λ p c. h p (there q p qs c)) i

-- a test after a test is one test
module _ {X : Type 0} (p q r : X → Bool) where
  tests : (x : X) (xs : List X) (a b : Bool) → p x ≡ a → cond a (q x) false ≡ b → filter q (cond a (x ∷ filter p xs) (filter p xs)) ≡ cond b (x ∷ filter q (filter p xs)) (filter q (filter p xs))
  tests x xs true b e h = ap (λ b. cond b (x ∷ filter q (filter p xs)) (filter q (filter p xs))) h
  tests x xs false b e h = ap (λ b. cond b (x ∷ filter q (filter p xs)) (filter q (filter p xs))) h

  pub filter_twice : (xs : List X) → ((x : X) → Contains xs x → cond (p x) (q x) false ≡ r x) → filter q (filter p xs) ≡ filter r xs
  filter_twice [] h = refl
  filter_twice (x ∷ xs) h =
      tests x xs (p x) (r x) refl (h x (here x xs))
      ∙ ap (λ ys. cond (r x) (x ∷ ys) ys) (filter_twice xs (λ y c. h y (there x y xs c)))

module _ {A : TreeAutomaton} (sound : IsSound A) {f g : List ℕ} (first : AreLeasts A f) (second : AreLeasts (quotient A f) g) where
  below_length : (q : ℕ) → q < A.next → q < length f
  below_length q below = omega (arith, first.each)

  pub at_number : (q : ℕ) → q < A.next → image (followed f g) q ≡ image g (image f q)
  at_number q below = image_followed f g q (below_length q below)

  pub at_state : (q : ℕ) → Contains A.states q → image (followed f g) q ≡ image g (image f q)
  at_state q c = at_number q (state_below sound q c)

  -- after both, a state of the second quotient
  last_state : (q : ℕ) → Contains A.states q → Contains (quotient A f).states (image g (image f q))
  last_state q c = second.states (image f q) (state_survives first q c)

  pub followed_leasts : AreLeasts A (followed f g)
  followed_leasts = record {
    each = length-map f (image g) ∙ first.each;
    states = λ q c. subst (Contains A.states) (sym (at_state q c)) (state_had A f (image g (image f q)) (last_state q c)).0;
    in_class = λ q c.
        let r = image g (image f q) in
        let had = state_had A f r (last_state q c) in
        ap (image (followed f g)) (at_state q c) ∙ (at_state r had.0 ∙ (ap (image g) had.1 ∙ (second.in_class (image f q) (state_survives first q c) ∙ sym (at_state q c))));
    least = λ q c. omega (arith, at_state q c, second.least (image f q) (state_survives first q c), first.least q c);
    others = λ q below never.
        at_number q below ∙ (ap (image g) (first.others q below never) ∙ second.others q below (λ c. never (state_had A f q c).0));
  }

  one_test : (q : ℕ) → Contains A.states q → cond (image f q == q) (image g q == q) false ≡ (image (followed f g) q == q)
  one_test q c = by (image f q == q) refl
    where
      by : (b : Bool) → (image f q == q) ≡ b → cond b (image g q == q) false ≡ (image (followed f g) q == q)
      by true e = ap (λ x. x == q) (sym (at_state q c ∙ ap (image g) (same_from_test (image f q) q e)))
      by false e = other (image (followed f g) q == q) refl
        where
          other : (b : Bool) → (image (followed f g) q == q) ≡ b → false ≡ b
          other false h = refl
          other true h =
              let s = same_from_test (image (followed f g) q) q h in
              let l : q ≤ image f q = omega (arith, at_state q c, s, second.least (image f q) (state_survives first q c)) in
              let k : image f q ≡ q = omega (arith, l, first.least q c) in
              absurd (true≢false (sym (is_same (image f q) q k) ∙ e))

  renamed_twice : (t : Trans) → Contains A.trans t → renamed g (renamed f t) ≡ renamed (followed f g) t
  renamed_twice t c =
      let is = trans_is sound t c in
      λ i. trans_of t.sym (images_twice f g t.args (λ q d. sym (at_state q (All-contains (Contains A.states) t.args q is.args d))) i) (sym (at_state t.to is.to) i)

  eps_twice : (e : ℕ × ℕ) → Contains A.eps e → renamed_eps g (renamed_eps f e) ≡ renamed_eps (followed f g) e
  eps_twice e c = let is = eps_is sound e c in λ i. (sym (at_state e.0 is.from) i, sym (at_state e.1 is.to) i)

  moves_early : (e : ℕ × ℕ) → moves (renamed_eps g e) ≡ true → moves e ≡ true
  moves_early e m = not_same e.0 e.1 (λ same. differ (image g e.0) (image g e.1) m (ap (image g) same))

  pub quotient_twice : quotient (quotient A f) g ≡ quotient A (followed f g)
  quotient_twice = λ i. record {
    states = filter_twice (λ q. image f q == q) (λ q. image g q == q) (λ q. image (followed f g) q == q) A.states one_test i;
    next = A.next;
    finals = twice nat_cmp_total exact_unsigned (image f) (image g) (image (followed f g)) A.finals (λ q c. sym (at_state q (final_is sound q c))) i;
    trans = twice trans_total trans_exact (renamed f) (renamed g) (renamed (followed f g)) A.trans renamed_twice i;
    eps = twice_passed pair_total pair_exact (renamed_eps f) (renamed_eps g) (renamed_eps (followed f g)) moves moves_early A.eps eps_twice i;
  }
