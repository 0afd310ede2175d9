-- Two terms that are the same but for one argument of each.
use Rattle.std.proofs.Common.{◌≡◌, ◌≢◌, ◌↔◌, ◌⊎◌, inl, inr, ℕ, suc, ◌+◌, ◌-◌, ◌<◌, ◌≤◌, Bool, true, false, ◌&&◌, List, [], ◌∷◌, ◌++◌, length, take, drop, get_or, refl, sym, ap, subst, ◌∙◌, arith, length-append, length-take, length-drop, Option, Some, None}
use Rattle.std.specs.Cmp.Lexicographic.{pointwise}
use Rattle.std.proofs.lemmas.List.{get_or_default, drop_more, take-append-drop, take_all, drop_all}
use Rattle.std.proofs.Math.Seq.{take-append_seam}
use Rattle.ranked_terms.specs.Terms.{node}
use Rattle.ranked_terms.specs.Positions.{InArgument, IsSameBut, SubtermAt, ReplacedAt}
use Rattle.ranked_terms.specs.declared.term.Term.{Term}
use Rattle.ranked_terms.specs.declared.term.Term.TheViews.{out-Term}
use Rattle.ranked_terms.specs.lemmas.TermLaws.{node_out, out_node}
use Rattle.ranked_terms.specs.lemmas.EqLaws.{eq, eq-same, same-eq}
use Rattle.ranked_terms.proofs.places.PositionLaws.{args_of, argument_is, args_are, drop-seam, one_down}

-- ---- equal lists of terms

both : (a b : Bool) → (a && b) ≡ true → (a ≡ true) × (b ≡ true)
both true b h = (refl, h)
both false b h = cc

pub lists-same : (ts us : List Term) → pointwise eq ts us ≡ true → ts ≡ us
lists-same [] [] h = refl
lists-same [] (u ∷ us) h = cc
lists-same (t ∷ ts) [] h = cc
lists-same (t ∷ ts) (u ∷ us) h =
    let p = both (eq t u) (pointwise eq ts us) h in
    (λ i. eq-same t u p.0 i ∷ lists-same ts us p.1 i)

same-lists-self : (ts : List Term) → pointwise eq ts ts ≡ true
same-lists-self [] = refl
same-lists-self (t ∷ ts) = (λ i. same-eq t t refl i && same-lists-self ts i)

pub same-lists : (ts us : List Term) → ts ≡ us → pointwise eq ts us ≡ true
same-lists ts us e = subst (λ vs. pointwise eq ts vs ≡ true) e (same-lists-self ts)

-- ---- the parts of terms that are the same but for one argument

pub record AreSameBut (k : ℕ) (s t : Term) : Type 0 where
  pub symbol : (out-Term s).sym ≡ (out-Term t).sym
  pub count : length (args_of s) ≡ length (args_of t)
  pub some : 1 ≤ k
  pub few : k ≤ length (args_of s)
  pub front : take (k - 1) (args_of s) ≡ take (k - 1) (args_of t)
  pub back : drop k (args_of s) ≡ drop k (args_of t)

-- a term is its symbol and its arguments before, at and after a place
split_at : (k : ℕ) (t a : Term) → 1 ≤ k → k ≤ length (args_of t) → a ≡ get_or (args_of t) (k - 1) a → t ≡ node (out-Term t).sym (take (k - 1) (args_of t) ++ a ∷ drop k (args_of t))
split_at k t a l m is =
    sym (node_out t) ∙ ap (node (out-Term t).sym) (
    sym (take-append-drop (k - 1) (args_of t))
    ∙ (ap (λ us. take (k - 1) (args_of t) ++ us) (drop_more (args_of t) (k - 1) a (omega (arith, l, m)))
    ∙ ((λ i. take (k - 1) (args_of t) ++ sym is i ∷ drop (next i) (args_of t)))))
  where
    next : (k - 1) + 1 ≡ k
    next = omega (arith, l)

module _ (k : ℕ) (s t : Term) where
  parts_from : (Q : Term → Term → Type 0) → AreSameBut k s t → (a b : Term) → a ≡ get_or (args_of s) (k - 1) a → b ≡ get_or (args_of t) (k - 1) b → Q a b → InArgument Q k s t
  parts_from Q h a b is_a is_b q = record {
    sym = (out-Term s).sym;
    before = take (k - 1) (args_of s);
    u = a;
    v = b;
    after = drop k (args_of s);
    place = let l = h.some in let m = h.few in omega (arith, l, m, length-take (k - 1) (args_of s));
    from = split_at k s a h.some h.few is_a;
    to = split_at k t b h.some (subst (λ n. k ≤ n) h.count h.few) is_b ∙ (λ i. node (sym h.symbol i) (sym h.front i ++ b ∷ sym h.back i));
    changes = q;
  }

  parts_of : (Q : Term → Term → Type 0) → InArgument Q k s t → AreSameBut k s t
  parts_of Q h = record {
    symbol = ap (λ x. (out-Term x).sym) h.from ∙ (ap (λ o. o.sym) (out_node h.sym (h.before ++ h.u ∷ h.after)) ∙ (sym (ap (λ o. o.sym) (out_node h.sym (h.before ++ h.v ∷ h.after))) ∙ sym (ap (λ x. (out-Term x).sym) h.to)));
    count = ap length of_s ∙ (length-append h.before (h.u ∷ h.after) ∙ (sym (length-append h.before (h.v ∷ h.after)) ∙ sym (ap length of_t)));
    some = let p = h.place in omega (arith, p);
    few = let p = h.place in omega (arith, p, ap length of_s, length-append h.before (h.u ∷ h.after));
    front = (λ i. take (less i) (of_s i)) ∙ (take-append_seam h.before (h.u ∷ h.after) ∙ (sym (take-append_seam h.before (h.v ∷ h.after)) ∙ (λ i. take (sym less i) (sym of_t i))));
    back = (λ i. drop (next i) (of_s i)) ∙ (drop-seam h.before h.u h.after ∙ (sym (drop-seam h.before h.v h.after) ∙ (λ i. drop (sym next i) (sym of_t i))));
  }
    where
      of_s : args_of s ≡ h.before ++ h.u ∷ h.after
      of_s = args_are s h.sym (h.before ++ h.u ∷ h.after) h.from

      of_t : args_of t ≡ h.before ++ h.v ∷ h.after
      of_t = args_are t h.sym (h.before ++ h.v ∷ h.after) h.to

      less : k - 1 ≡ length h.before
      less = let p = h.place in omega (arith, p)

      next : k ≡ suc (length h.before)
      next = let p = h.place in omega (arith, p)

  pub same_but : AreSameBut k s t → IsSameBut k s t
  same_but h = parts_from (λ u v. Unit {0}) h (get_or (args_of s) (k - 1) s) (get_or (args_of t) (k - 1) t) (read (args_of s) s h.few) (read (args_of t) t (subst (λ n. k ≤ n) h.count h.few)) tt
    where
      read : (ts : List Term) (d : Term) → k ≤ length ts → get_or ts (k - 1) d ≡ get_or ts (k - 1) (get_or ts (k - 1) d)
      read ts d l = let e = h.some in get_or_default ts (k - 1) d (get_or ts (k - 1) d) (omega (arith, l, e))

  pub are_same_but : IsSameBut k s t → AreSameBut k s t
  are_same_but = parts_of (λ u v. Unit {0})

  -- what holds of the two arguments
  pub in_argument : (Q : Term → Term → Type 0) (a b : Term) → IsSameBut k s t → a ≡ get_or (args_of s) (k - 1) a → b ≡ get_or (args_of t) (k - 1) b → InArgument Q k s t ↔ Q a b
  in_argument Q a b h is_a is_b = (
    λ r.
        let x = argument_is k s r.u a (record { sym = r.sym; before = r.before; after = r.after; place = r.place; is = r.from }) in
        let y = argument_is k t r.v b (record { sym = r.sym; before = r.before; after = r.after; place = r.place; is = r.to }) in
        subst (λ z. Q z b) (sym x.2 ∙ sym is_a) (subst (Q r.u) (sym y.2 ∙ sym is_b) r.changes),
    λ q. parts_from Q (are_same_but h) a b is_a is_b q,
  )

-- ---- as the code takes them apart

module _ (k : ℕ) (s t : Term) (ss ts : List Term) (is_s : ss ≡ args_of s) (is_t : ts ≡ args_of t) where
  pub not_same_but : ((out-Term s).sym ≢ (out-Term t).sym) ⊎ ((length ss ≢ length ts) ⊎ ((k ≡ 0) ⊎ (length ss < k))) → IsSameBut k s t → ⊥
  not_same_but n h =
      let p = are_same_but k s t h in
      let some = p.some in
      elim n [
        | inl d ↦ d p.symbol
        | inr n ↦ elim n [
          | inl d ↦ d (ap length is_s ∙ (p.count ∙ sym (ap length is_t)))
          | inr n ↦ elim n [
            | inl z ↦ omega (arith, z, some)
            | inr l ↦ omega (arith, l, p.few, ap length is_s)
          ]
        ]
      ]

  pub fronts_same : IsSameBut k s t → take (k - 1) ss ≡ take (k - 1) ts
  fronts_same h = ap (take (k - 1)) is_s ∙ ((are_same_but k s t h).front ∙ ap (take (k - 1)) (sym is_t))

  pub backs_same : IsSameBut k s t → drop k ss ≡ drop k ts
  backs_same h = ap (drop k) is_s ∙ ((are_same_but k s t h).back ∙ ap (drop k) (sym is_t))

  rest_is : (us : List Term) → k ≤ length us → take (length us - k) (drop k us) ≡ drop k us
  rest_is us l = take_all (length us - k) (drop k us) (omega (arith, length-drop k us))

  -- and as slices
  pub slices_same : length ss ≡ length ts → k ≤ length ss → drop k ss ≡ drop k ts ↔ (take (length ss - k) (drop k ss) ≡ take (length ts - k) (drop k ts))
  slices_same n l =
      let a = rest_is ss l in let b = rest_is ts (subst (λ m. k ≤ m) n l) in
      (λ e. a ∙ (e ∙ sym b), λ e. sym a ∙ (e ∙ b))

  pub is_same_but_by : (out-Term s).sym ≡ (out-Term t).sym → length ss ≡ length ts → 1 ≤ k → k ≤ length ss → take (k - 1) ss ≡ take (k - 1) ts → drop k ss ≡ drop k ts → IsSameBut k s t
  is_same_but_by symbol count some few front back = same_but k s t (record {
    symbol = symbol;
    count = sym (ap length is_s) ∙ (count ∙ ap length is_t);
    some = some;
    few = subst (λ n. k ≤ n) (ap length is_s) few;
    front = ap (take (k - 1)) (sym is_s) ∙ (front ∙ ap (take (k - 1)) is_t);
    back = ap (drop k) (sym is_s) ∙ (back ∙ ap (drop k) is_t);
  })

-- ---- one argument further down

module _ (k : ℕ) (position : List ℕ) (s t a b : Term) (h : IsSameBut k s t) (is_a : a ≡ get_or (args_of s) (k - 1) a) (is_b : b ≡ get_or (args_of t) (k - 1) b) where
  pub change_down : (u v : Term) → (SubtermAt (k ∷ position) s u × ReplacedAt v (k ∷ position) s t) ↔ (SubtermAt position a u × ReplacedAt v position a b)
  change_down u v =
      let parts = are_same_but k s t h in
      let one = one_down k position s a u parts.some parts.few is_a in
      let two = in_argument k s t (ReplacedAt v position) a b h is_a is_b in
      (λ p. (one.0 p.0, two.0 p.1), λ p. (one.1 p.0, two.1 p.1))

-- where they differ elsewhere, nothing is replaced
pub not_replaced_by : (k : ℕ) (position : List ℕ) (s t v : Term) → (IsSameBut k s t → ⊥) → ReplacedAt v (k ∷ position) s t → ⊥
not_replaced_by k position s t v n r = n (record { sym = r.sym; before = r.before; u = r.u; v = r.v; after = r.after; place = r.place; from = r.from; to = r.to; changes = tt })

pub next_change : (ks : List ℕ) (i d : ℕ) (s t u v : Term) → i < length ks → (SubtermAt (drop i ks) s u × ReplacedAt v (drop i ks) s t) ↔ (SubtermAt (get_or ks i d ∷ drop (i + 1) ks) s u × ReplacedAt v (get_or ks i d ∷ drop (i + 1) ks) s t)
next_change ks i d s t u v l =
    let e = drop_more ks i d l in
    (subst (λ p. SubtermAt p s u × ReplacedAt v p s t) e, subst (λ p. SubtermAt p s u × ReplacedAt v p s t) (sym e))

same_pair : (s t u v : Term) → ◌≡◌ {A = Option (Term × Term)} (Some (s, t)) (Some (u, v)) → (s ≡ u) × (t ≡ v)
same_pair s t u v e =
    let h : ◌≡◌ {A = Term × Term} (s, t) (u, v) = cc in
    (ap (λ (p : Term × Term). p.0) h, ap (λ (p : Term × Term). p.1) h)

-- at the end of the position
pub change_here : (ks : List ℕ) (i : ℕ) (s t u v : Term) → length ks ≤ i → (◌≡◌ {A = Option (Term × Term)} (Some (s, t)) (Some (u, v))) ↔ (SubtermAt (drop i ks) s u × ReplacedAt v (drop i ks) s t)
change_here ks i s t u v l =
    let e : drop i ks ≡ [] = drop_all i ks l in (
      λ h. let p = same_pair s t u v h in subst (λ at. SubtermAt at s u × ReplacedAt v at s t) (sym e) (sym p.0, p.1),
      λ h. let p = subst (λ at. SubtermAt at s u × ReplacedAt v at s t) e h in let a : u ≡ s = p.0 in let b : t ≡ v = p.1 in (λ j. Some (sym a j, b j)),
    )

pub no_pair : {X A : Type 0} (x : X) → None ≡ Some x → A
no_pair x e = cc
