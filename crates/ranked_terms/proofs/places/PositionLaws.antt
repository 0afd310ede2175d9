-- One step down a position.
use Rattle.std.proofs.Common.{◌≡◌, ◌↔◌, ◌⊎◌, ℕ, suc, ◌+◌, ◌-◌, ◌<◌, ◌≤◌, List, [], ◌∷◌, ◌++◌, length, take, drop, get_or, refl, sym, ap, subst, ◌∙◌, arith, length-append, length-take, inl, inr}
use Rattle.std.proofs.lemmas.List.{drop_more, take-append-drop}
use Rattle.ranked_terms.specs.Terms.{node}
use Rattle.ranked_terms.specs.declared.term.Term.{Term}
use Rattle.ranked_terms.specs.declared.term.Term.TheViews.{out-Term}
use Rattle.ranked_terms.specs.lemmas.TermLaws.{node_out, out_node, node_sym}
use Rattle.std.proofs.Common.{Some, None}
use Rattle.std.proofs.Math.Seq.{take-append_seam}
use Rattle.ranked_terms.specs.Positions.{InArgument}
use Rattle.ranked_terms.specs.Positions.{Argument, SubtermAt, ReplacedAt}

abbrev pub args_of : Term → List Term
args_of t = (out-Term t).args

at_seam : (before : List Term) (v : Term) (after : List Term) (d : Term) → get_or (before ++ v ∷ after) (length before) d ≡ v
at_seam [] v after d = refl
at_seam (x ∷ before) v after d = at_seam before v after d

pub args_are : (t : Term) (f : ℕ) (ts : List Term) → t ≡ node f ts → args_of t ≡ ts
args_are t f ts e = ap args_of e ∙ ap (λ o. o.args) (out_node f ts)

-- an argument is the one at its place
pub argument_is : (k : ℕ) (t v d : Term) → Argument k t v → (k ≤ length (args_of t)) × (1 ≤ k) × (get_or (args_of t) (k - 1) d ≡ v)
argument_is k t v d a =
    let e = args_are t a.sym (a.before ++ v ∷ a.after) a.is in
    let p = a.place in (
      omega (arith, p, ap length e, length-append a.before (v ∷ a.after)),
      omega (arith, p),
      ap (λ ts. get_or ts (k - 1) d) e ∙ (ap (λ n. get_or (a.before ++ v ∷ a.after) n d) (let q : k - 1 ≡ length a.before = omega (arith, p) in q) ∙ at_seam a.before v a.after d),
    )

pub argument_at : (k : ℕ) (t d : Term) → 1 ≤ k → k ≤ length (args_of t) → Argument k t (get_or (args_of t) (k - 1) d)
argument_at k t d l m =
    let ts = args_of t in
    let lt : k - 1 < length ts = omega (arith, l, m) in
    record {
      sym = (out-Term t).sym;
      before = take (k - 1) ts;
      after = drop ((k - 1) + 1) ts;
      place = omega (arith, l, m, length-take (k - 1) ts);
      is = sym (node_out t) ∙ ap (node (out-Term t).sym) (sym (take-append-drop (k - 1) ts) ∙ ap (λ us. take (k - 1) ts ++ us) (drop_more ts (k - 1) d lt));
    }

pub one_down : (k : ℕ) (position : List ℕ) (t a u : Term) → 1 ≤ k → k ≤ length (args_of t) → a ≡ get_or (args_of t) (k - 1) a → SubtermAt (k ∷ position) t u ↔ SubtermAt position a u
one_down k position t a u l m is = (
  λ h. subst (λ v. SubtermAt position v u) (sym (argument_is k t h.0 a h.1).2 ∙ sym is) h.2,
  λ h. (a, subst (Argument k t) (sym is) (argument_at k t a l m), h),
)

pub no_argument : (k : ℕ) (position : List ℕ) (t u : Term) → (k ≡ 0) ⊎ (length (args_of t) < k) → SubtermAt (k ∷ position) t u → ⊥
no_argument k position t u n h = let a = argument_is k t h.0 u h.1 in elim n [ inl z ↦ omega (arith, z, a.1) | inr m ↦ omega (arith, m, a.0) ]

pub next_number : (ks : List ℕ) (i d : ℕ) (t u : Term) → i < length ks → SubtermAt (drop i ks) t u ↔ SubtermAt (get_or ks i d ∷ drop (i + 1) ks) t u
next_number ks i d t u l = let e = drop_more ks i d l in (subst (λ p. SubtermAt p t u) e, subst (λ p. SubtermAt p t u) (sym e))

-- ---- a replaced argument

none_some : {X A : Type 0} (x : X) → None ≡ Some x → A
none_some x e = cc

same_some : {X : Type 0} (x y : X) → Some x ≡ Some y → x ≡ y
same_some x y e = cc

pub drop-seam : (before : List Term) (v : Term) (after : List Term) → drop (suc (length before)) (before ++ v ∷ after) ≡ after
drop-seam [] v after = refl
drop-seam (x ∷ before) v after = drop-seam before v after

module _ (v : Term) (k : ℕ) (position : List ℕ) (t a : Term) where
  as_argument : (Q : Term → Term → Type 0) (u : Term) → (r : InArgument Q k t u) → Argument k t r.u
  as_argument Q u r = record { sym = r.sym; before = r.before; after = r.after; place = r.place; is = r.from }

  pub no_place : (k ≡ 0) ⊎ (length (args_of t) < k) → (u : Term) → (None ≡ Some u) ↔ ReplacedAt v (k ∷ position) t u
  no_place n u = (λ e. none_some u e, λ r. let b = argument_is k t r.u r.u (as_argument (ReplacedAt v position) u r) in absurd (elim n [ inl z ↦ omega (arith, z, b.1) | inr m ↦ omega (arith, m, b.0) ]))

  module _ (l : 1 ≤ k) (m : k ≤ length (args_of t)) (is : a ≡ get_or (args_of t) (k - 1) a) where
    pub not_replaced : ((x : Term) → (None ≡ Some x) ↔ ReplacedAt v position a x) → (u : Term) → (None ≡ Some u) ↔ ReplacedAt v (k ∷ position) t u
    not_replaced h u = (
      λ e. none_some u e,
      λ r. let b = argument_is k t r.u a (as_argument (ReplacedAt v position) u r) in
          none_some r.v ((h r.v).1 (subst (λ x. ReplacedAt v position x r.v) (sym b.2 ∙ sym is) r.changes)),
    )

    pub is_replaced : (w : Term) → ((x : Term) → (Some w ≡ Some x) ↔ ReplacedAt v position a x) → (u : Term) → (Some (node (out-Term t).sym (take (k - 1) (args_of t) ++ w ∷ drop k (args_of t))) ≡ Some u) ↔ ReplacedAt v (k ∷ position) t u
    is_replaced w h u = (
      λ e.
          let b = argument_at k t a l m in
          record {
            sym = (out-Term t).sym;
            before = take (k - 1) (args_of t);
            u = a;
            v = w;
            after = drop k (args_of t);
            place = omega (arith, l, m, length-take (k - 1) (args_of t));
            from = sym (node_out t) ∙ ap (node (out-Term t).sym) (whole ∙ ap (λ x. take (k - 1) (args_of t) ++ x ∷ drop k (args_of t)) (sym is));
            to = sym (same_some (node (out-Term t).sym (take (k - 1) (args_of t) ++ w ∷ drop k (args_of t))) u e);
            changes = (h w).0 refl;
          },
      λ r.
          let b = argument_is k t r.u a (as_argument (ReplacedAt v position) u r) in
          let e = args_are t r.sym (r.before ++ r.u ∷ r.after) r.from in
          let p = r.place in
          let wv = same_some w r.v ((h r.v).1 (subst (λ x. ReplacedAt v position x r.v) (sym b.2 ∙ sym is) r.changes)) in
          let f : (out-Term t).sym ≡ r.sym = node_sym (out-Term t).sym r.sym (args_of t) (r.before ++ r.u ∷ r.after) (node_out t ∙ r.from) in
          let front : take (k - 1) (args_of t) ≡ r.before = (λ i. take (at_place p i) (e i)) ∙ take-append_seam r.before (r.u ∷ r.after) in
          let back : drop k (args_of t) ≡ r.after = (λ i. drop (at_next p i) (e i)) ∙ drop-seam r.before r.u r.after in
          ap Some ((λ i. node (f i) (front i ++ wv i ∷ back i)) ∙ sym r.to),
    )
      where
        at_place : {n : ℕ} → k ≡ n + 1 → k - 1 ≡ n
        at_place e = omega (arith, e)

        at_next : {n : ℕ} → k ≡ n + 1 → k ≡ suc n
        at_next e = omega (arith, e)

        whole : args_of t ≡ take (k - 1) (args_of t) ++ get_or (args_of t) (k - 1) a ∷ drop k (args_of t)
        whole = sym (take-append-drop (k - 1) (args_of t)) ∙ (ap (λ us. take (k - 1) (args_of t) ++ us) (drop_more (args_of t) (k - 1) a (omega (arith, l, m)))
            ∙ ap (λ n. take (k - 1) (args_of t) ++ get_or (args_of t) (k - 1) a ∷ drop n (args_of t)) (let q : (k - 1) + 1 ≡ k = omega (arith, l) in q))
