-- Laws of bindings, and the steps of a match.
use Rattle.std.proofs.Common.{◌≡◌, ◌≢◌, ◌↔◌, ℕ, zero, suc, ◌+◌, ◌<◌, ◌≤◌, Bool, true, false, ◌==◌, ◌||◌, if◌then◌else◌, List, [], ◌∷◌, ◌++◌, map, length, take, drop, get_or, Option, Some, None, refl, sym, ap, subst, ◌∙◌, append_assoc, append-nil, length-append, length-take, arith}
use Rattle.std.specs.Borrow.{Bor}
use Rattle.std.specs.Prelude.{IsTrue, MatchBool}
use Rattle.std.proofs.Math.Seq.{take-append_seam}
use Rattle.std.proofs.Math.ListN.{get_or-map}
use Rattle.std.proofs.lemmas.List.{length-map, take-map, get_or_read}
use Rattle.std.proofs.lemmas.Bool.{eqb-true, eq-eqb}
use Rattle.std.proofs.lemmas.List.{take_more, drop_more, take-append-drop}
use Rattle.ranked_terms.specs.Terms.{node, instance_of, joined, with_variable, occurrences}
use Rattle.ranked_terms.specs.declared.term.Term.TheViews.{out-Term}
use Rattle.ranked_terms.specs.Matching.{filled, is_in, with_variables, bound_in, Agrees, lookup, IsBoundBy, IsRefused}
use Rattle.ranked_terms.specs.declared.term.Term.{Term}
use Rattle.ranked_terms.specs.declared.term.Pattern.{Pattern}
use Rattle.ranked_terms.specs.declared.term.Pattern.TheVariants.{Var, App}
use Rattle.ranked_terms.specs.lemmas.TermLaws.{instance_var, instance_app, occurrences_var, occurrences_app, node_args, node_sym, node_out}

-- ---- slots

filled-le : (xs : List (Option (ℕ × Bor Term))) → length (filled xs) ≤ length xs
filled-le [] = omega arith
filled-le (None ∷ xs) = omega (arith, filled-le xs)
filled-le (Some e ∷ xs) = omega (arith, filled-le xs)

pub filled-append : (xs ys : List (Option (ℕ × Bor Term))) → filled (xs ++ ys) ≡ filled xs ++ filled ys
filled-append [] ys = refl
filled-append (None ∷ xs) ys = filled-append xs ys
filled-append (Some e ∷ xs) ys = ap (λ zs. (e.0, e.1.now) ∷ zs) (filled-append xs ys)

pub filled_front : (xs : List (Option (ℕ × Bor Term))) (n m : ℕ) → n ≤ m → length (filled (take m xs)) ≡ m → (filled (take n xs) ≡ take n (filled (take m xs))) × (length (filled (take n xs)) ≡ n)
filled_front [] zero m h e = (refl, refl)
filled_front [] (suc n) zero h e = absurd (omega arith)
filled_front [] (suc n) (suc m) h e = absurd (omega arith)
filled_front (x ∷ xs) zero m h e = (refl, refl)
filled_front (x ∷ xs) (suc n) zero h e = absurd (omega arith)
filled_front (None ∷ xs) (suc n) (suc m) h e = absurd (omega (arith, filled-le (take m xs), length-take m xs, e))
filled_front (Some s ∷ xs) (suc n) (suc m) h e =
    let p = filled_front xs n m (omega arith) (omega (arith, e)) in
    (ap (λ zs. (s.0, s.1.now) ∷ zs) p.0, ap suc p.1)

if_true : {A : Type 0} (b : Bool) (x y : A) → b ≡ true → (if b then x else y) ≡ x
if_true true x y h = refl
if_true false x y h = cc

if_false : {A : Type 0} (b : Bool) (x y : A) → b ≡ false → (if b then x else y) ≡ y
if_false true x y h = cc
if_false false x y h = refl

past : (t : Bool) (u : Term) (o p : Option Term) → (o ≡ None → p ≡ o) → (if t then Some u else o) ≡ None → (if t then Some u else p) ≡ (if t then Some u else o)
past true u o p k h = refl
past false u o p k h = k h

not_here : (t : Bool) (u : Term) (o : Option Term) → (if t then Some u else o) ≡ None → (t ≡ false) × (o ≡ None)
not_here true u o h = cc
not_here false u o h = (refl, h)

pub lookup-append : (a b : List (ℕ × Term)) (v : ℕ) → lookup a v ≡ None → lookup (a ++ b) v ≡ lookup b v
lookup-append [] b v h = refl
lookup-append (e ∷ a) b v h =
    let p = not_here (v == e.0) e.1 (lookup a v) h in
    if_false (v == e.0) (Some e.1) (lookup (a ++ b) v) p.0 ∙ lookup-append a b v p.1

pub lookup_here : (a b : List (ℕ × Term)) (v : ℕ) (t : Term) → lookup a v ≡ None → lookup (a ++ (v, t) ∷ b) v ≡ Some t
lookup_here a b v t h = lookup-append a ((v, t) ∷ b) v h ∙ if_true (v == v) (Some t) (lookup b v) (eq-eqb v v refl)

-- ---- one variable

pub instance_of_var : (θ : ℕ → Term) (v : ℕ) → instance_of θ (Var v) ≡ θ v
instance_of_var = instance_var

pub instance_of_app : (θ : ℕ → Term) (f : ℕ) (ps : List Pattern) → instance_of θ (App f ps) ≡ node f (map (instance_of θ) ps)
instance_of_app = instance_app

abbrev pub sym_of : Term → ℕ
sym_of t = (out-Term t).sym

abbrev pub args_of : Term → List Term
args_of t = (out-Term t).args

found : (r s : Bool) (u : Term) (o : Option Term) (t : Term) → (if r then Some u else o) ≡ Some t → (o ≡ Some t → s ≡ true) → (r || s) ≡ true
found true s u o t h k = refl
found false s u o t h k = k h

is_in-append : (v : ℕ) (b : List (ℕ × Term)) (t : Term) → lookup b v ≡ Some t → is_in v (bound_in b) ≡ true
is_in-append v [] t h = cc
is_in-append v (e ∷ b) t h = found (v == e.0) (is_in v (bound_in b)) e.1 (lookup b v) t h (is_in-append v b t)

one_of : {x t u : Term} {o : Option Term} (r : Bool) → (r ≡ true → x ≡ u) → (if r then Some u else o) ≡ Some t → (o ≡ Some t → x ≡ t) → x ≡ t
one_of true k h l = let e : _ ≡ _ = k refl in cc
one_of false k h l = l h

-- a binding that has v gives it one term, under each substitution that agrees
pub agrees_at : (θ : ℕ → Term) (b : List (ℕ × Term)) (v : ℕ) (t : Term) → lookup b v ≡ Some t → Agrees θ b → θ v ≡ t
agrees_at θ [] v t h a = cc
agrees_at θ (e ∷ b) v t h a = one_of (v == e.0) (λ k. ap θ (eqb-true v e.0 k) ∙ a.0) h (λ k. agrees_at θ b v t k a.1)

pub Agrees-append : (θ : ℕ → Term) (a b : List (ℕ × Term)) → Agrees θ (a ++ b) ↔ (Agrees θ a × Agrees θ b)
Agrees-append θ [] b = (λ h. (tt, h), λ h. h.1)
Agrees-append θ (e ∷ a) b =
    let k = Agrees-append θ a b in
    (λ h. let p = k.0 h.1 in ((h.0, p.0), p.1), λ h. (h.0.0, k.1 (h.0.1, h.1)))

-- the same of each argument of a node
pub record MatchedAll (ps : List Pattern) (ts : List Term) (old new : List (ℕ × Term)) : Type 0 where
  pub exactly : (θ : ℕ → Term) → Agrees θ new ↔ (Agrees θ old × (map (instance_of θ) ps ≡ ts))
  pub bound : bound_in new ≡ with_variables (bound_in old) (joined (map occurrences ps))
  pub kept : (more : List (ℕ × Term)) × (new ≡ old ++ more)

-- ---- a walk over the slots

pub filled_found : (xs : List (Option (ℕ × Bor Term))) (i v w : ℕ) (t : Bor Term) (x : Option (ℕ × Bor Term)) → i < length xs → lookup (filled (take i xs)) v ≡ None → w ≡ v → x ≡ get_or xs i x → x ≡ Some (w, t) → lookup (filled xs) v ≡ Some t.now
filled_found xs i v w t x lt none same is was =
    let whole : take i xs ++ (x ∷ drop (i + 1) xs) ≡ xs = ap (λ y. take i xs ++ (y ∷ drop (i + 1) xs)) is ∙ (ap (λ ys. take i xs ++ ys) (sym (drop_more xs i x lt)) ∙ take-append-drop i xs) in
    let split = filled-append (take i xs) (x ∷ drop (i + 1) xs) in
    let there : filled (x ∷ drop (i + 1) xs) ≡ (v, t.now) ∷ filled (drop (i + 1) xs) = ap (λ y. filled (y ∷ drop (i + 1) xs)) was ∙ ap (λ k. (k, t.now) ∷ filled (drop (i + 1) xs)) same in
    ap (λ ys. lookup (filled ys) v) (sym whole) ∙ (ap (λ b. lookup b v) (split ∙ ap (λ b. filled (take i xs) ++ b) there) ∙ lookup_here (filled (take i xs)) (filled (drop (i + 1) xs)) v t.now none)

pub filled_passed : (xs : List (Option (ℕ × Bor Term))) (i v : ℕ) (x : Option (ℕ × Bor Term)) → i < length xs → lookup (filled (take i xs)) v ≡ None → x ≡ get_or xs i x → lookup (filled (x ∷ [])) v ≡ None → lookup (filled (take (i + 1) xs)) v ≡ None
filled_passed xs i v x lt none is passed =
    ap (λ ys. lookup (filled ys) v) (take_more xs i x lt ∙ ap (λ y. take i xs ++ y ∷ []) (sym is)) ∙ (ap (λ b. lookup b v) (filled-append (take i xs) (x ∷ [])) ∙ (lookup-append (filled (take i xs)) (filled (x ∷ [])) v none ∙ passed))

pub filled_empty : (v : ℕ) (x : Option (ℕ × Bor Term)) → x ≡ None → lookup (filled (x ∷ [])) v ≡ None
filled_empty v x e = ap (λ y. lookup (filled (y ∷ [])) v) e

differs : (r : Bool) → (r ≡ true → ⊥) → r ≡ false
differs true h = absurd (h refl)
differs false h = refl

pub filled_other : (v w : ℕ) (t : Bor Term) (x : Option (ℕ × Bor Term)) → x ≡ Some (w, t) → w ≢ v → lookup (filled (x ∷ [])) v ≡ None
filled_other v w t x e n = ap (λ y. lookup (filled (y ∷ [])) v) e ∙ if_false (v == w) (Some t.now) None (differs (v == w) (λ k. n (sym (eqb-true v w k))))

-- ---- one variable is matched

absent_at : (r s : Bool) (u : Term) (o : Option Term) → (if r then Some u else o) ≡ None → (o ≡ None → s ≡ false) → (r || s) ≡ false
absent_at true s u o h k = cc
absent_at false s u o h k = k h

pub is_in-absent : (v : ℕ) (b : List (ℕ × Term)) → lookup b v ≡ None → is_in v (bound_in b) ≡ false
is_in-absent v [] h = refl
is_in-absent v (e ∷ b) h = absent_at (v == e.0) (is_in v (bound_in b)) e.1 (lookup b v) h (is_in-absent v b)

pub bound_in-append : (a b : List (ℕ × Term)) → bound_in (a ++ b) ≡ bound_in a ++ bound_in b
bound_in-append [] b = refl
bound_in-append (e ∷ a) b = ap (λ vs. e.0 ∷ vs) (bound_in-append a b)

with_known : (v : ℕ) (b : List (ℕ × Term)) (t : Term) → lookup b v ≡ Some t → with_variable (bound_in b) v ≡ bound_in b
with_known v b t h = if_true (is_in v (bound_in b)) (bound_in b) (bound_in b ++ v ∷ []) (is_in-append v b t h)

pub with_new : (v : ℕ) (b : List (ℕ × Term)) → lookup b v ≡ None → with_variable (bound_in b) v ≡ bound_in b ++ v ∷ []
with_new v b h = if_false (is_in v (bound_in b)) (bound_in b) (bound_in b ++ v ∷ []) (is_in-absent v b h)

found_same : (v : ℕ) (b : List (ℕ × Term)) (u t : Term) → lookup b v ≡ Some u → u ≡ t → IsBoundBy (Var v) t b b
found_same v b u t h e = record {
  exactly = λ θ. (λ a. (a, instance_of_var θ v ∙ (agrees_at θ b v u h a ∙ e)), λ p. p.0);
  bound = sym (ap (with_variables (bound_in b)) (occurrences_var v) ∙ with_known v b u h);
  kept = ([], sym (append-nil b));
}

found_other : (v : ℕ) (b : List (ℕ × Term)) (u t : Term) → lookup b v ≡ Some u → u ≢ t → IsRefused (Var v) t b b
found_other v b u t h n = record {
  none = λ θ a e. n (sym (agrees_at θ b v u h a) ∙ (sym (instance_of_var θ v) ∙ e));
  same = refl;
}

pub bind_found : (v : ℕ) (b : List (ℕ × Term)) (u t : Term) (r : Bool) → lookup b v ≡ Some u → IsTrue r ↔ (u ≡ t) → MatchBool r (IsBoundBy (Var v) t b b) (IsRefused (Var v) t b b)
bind_found v b u t true h k = found_same v b u t h (k.0 refl)
bind_found v b u t false h k = found_other v b u t h (λ e. let x : IsTrue false = k.1 e in cc)

pub bind_new : (v : ℕ) (b : List (ℕ × Term)) (t : Term) → lookup b v ≡ None → IsBoundBy (Var v) t b (b ++ (v, t) ∷ [])
bind_new v b t h = record {
  exactly = λ θ. let k = Agrees-append θ b ((v, t) ∷ []) in
      (λ a. let p = k.0 a in (p.0, instance_of_var θ v ∙ p.1.0), λ p. k.1 (p.0, (sym (instance_of_var θ v) ∙ p.1, tt)));
  bound = bound_in-append b ((v, t) ∷ []) ∙ sym (ap (with_variables (bound_in b)) (occurrences_var v) ∙ with_new v b h);
  kept = ((v, t) ∷ [], refl);
}

-- ---- the arguments are matched one by one

pub with_variables-append : (vs xs ys : List ℕ) → with_variables vs (xs ++ ys) ≡ with_variables (with_variables vs xs) ys
with_variables-append vs [] ys = refl
with_variables-append vs (x ∷ xs) ys = with_variables-append (with_variable vs x) xs ys

with_variable-length : (vs : List ℕ) (v : ℕ) (r : Bool) → length vs ≤ length (if r then vs else (vs ++ v ∷ []))
with_variable-length vs v true = omega arith
with_variable-length vs v false = omega (arith, length-append vs (v ∷ []))

with_variables-length : (vs ws : List ℕ) → length vs ≤ length (with_variables vs ws)
with_variables-length vs [] = omega arith
with_variables-length vs (w ∷ ws) = omega (arith, with_variable-length vs w (is_in w vs), with_variables-length (with_variable vs w) ws)

occurrences_all-append : (ps qs : List Pattern) → joined (map occurrences (ps ++ qs)) ≡ joined (map occurrences ps) ++ joined (map occurrences qs)
occurrences_all-append [] qs = refl
occurrences_all-append (p ∷ ps) qs =
    ap (λ vs. occurrences p ++ vs) (occurrences_all-append ps qs) ∙ sym (append_assoc (occurrences p) (joined (map occurrences ps)) (joined (map occurrences qs)))

instances-append : (θ : ℕ → Term) (ps qs : List Pattern) → map (instance_of θ) (ps ++ qs) ≡ map (instance_of θ) ps ++ map (instance_of θ) qs
instances-append θ [] qs = refl
instances-append θ (p ∷ ps) qs = ap (λ ts. instance_of θ p ∷ ts) (instances-append θ ps qs)

last_same : (xs ys : List Term) (x y : Term) → xs ++ x ∷ [] ≡ ys ++ y ∷ [] → (xs ≡ ys) × (x ≡ y)
last_same [] [] x y e = (refl, cc)
last_same [] (b ∷ []) x y e = cc
last_same [] (b ∷ (d ∷ ys)) x y e = cc
last_same (a ∷ []) [] x y e = cc
last_same (a ∷ (d ∷ xs)) [] x y e = cc
last_same (a ∷ xs) (b ∷ ys) x y e =
    let h : a ≡ b = cc in let t : xs ++ x ∷ [] ≡ ys ++ y ∷ [] = cc in
    let p = last_same xs ys x y t in ((λ i. h i ∷ p.0 i), p.1)

pub all_start : (b : List (ℕ × Term)) → MatchedAll [] [] b b
all_start b = record { exactly = λ θ. (λ a. (a, refl), λ p. p.0); bound = refl; kept = ([], sym (append-nil b)) }

all_more : (ps : List Pattern) (ts : List Term) (p : Pattern) (t : Term) (b₀ b b' : List (ℕ × Term)) → MatchedAll ps ts b₀ b → IsBoundBy p t b b' → MatchedAll (ps ++ p ∷ []) (ts ++ t ∷ []) b₀ b'
all_more ps ts p t b₀ b b' all one = record {
  exactly = λ θ.
      let m = instances-append θ ps (p ∷ []) in (
        λ a. let q = (one.exactly θ).0 a in let r = (all.exactly θ).0 q.0 in (r.0, m ∙ (λ i. r.1 i ++ q.1 i ∷ [])),
        λ q. let s = last_same (map (instance_of θ) ps) ts (instance_of θ p) t (sym m ∙ q.1) in (one.exactly θ).1 ((all.exactly θ).1 (q.0, s.0), s.1),
      );
  bound = one.bound ∙ (ap (λ vs. with_variables vs (occurrences p)) all.bound
      ∙ (sym (with_variables-append (bound_in b₀) (joined (map occurrences ps)) (occurrences p))
      ∙ ap (with_variables (bound_in b₀)) (sym (occurrences_all-append ps (p ∷ []) ∙ ap (λ vs. joined (map occurrences ps) ++ vs) (append-nil (occurrences p))))));
  kept = (all.kept.0 ++ one.kept.0, one.kept.1 ∙ (ap (λ x. x ++ one.kept.0) all.kept.1 ∙ append_assoc b₀ all.kept.0 one.kept.0));
}

pub all_whole : (f : ℕ) (ps : List Pattern) (ts : List Term) (b₀ b : List (ℕ × Term)) → MatchedAll ps ts b₀ b → IsBoundBy (App f ps) (node f ts) b₀ b
all_whole f ps ts b₀ b all = record {
  exactly = λ θ. let e = instance_of_app θ f ps in
      (λ a. let q = (all.exactly θ).0 a in (q.0, e ∙ ap (node f) q.1), λ q. (all.exactly θ).1 (q.0, node_args f f _ _ (sym e ∙ q.1)));
  bound = all.bound ∙ ap (with_variables (bound_in b₀)) (sym (occurrences_app f ps));
  kept = all.kept;
}

pub mismatch : (f g : ℕ) (ps : List Pattern) (ts : List Term) (b : List (ℕ × Term)) → (f ≡ g → length ps ≡ length ts → ⊥) → IsRefused (App f ps) (node g ts) b b
mismatch f g ps ts b n = record {
  none = λ θ a e. let h = sym (instance_of_app θ f ps) ∙ e in n (node_sym f g _ _ h) (sym (length-map ps (instance_of θ)) ∙ ap length (node_args f g _ _ h));
  same = refl;
}

module _ (f : ℕ) (ps : List Pattern) (ts : List Term) (i : ℕ) (p : Pattern) (t : Term) (b₀ b b' : List (ℕ × Term))
    (all : MatchedAll (take i ps) (take i ts) b₀ b) (at_p : i < length ps) (at_t : i < length ts) (is_p : p ≡ get_or ps i p) (is_t : t ≡ get_or ts i t) where
  pub all_step : IsBoundBy p t b b' → MatchedAll (take (i + 1) ps) (take (i + 1) ts) b₀ b'
  all_step one =
      let e = take_more ps i p at_p ∙ ap (λ x. take i ps ++ x ∷ []) (sym is_p) in
      let h = take_more ts i t at_t ∙ ap (λ x. take i ts ++ x ∷ []) (sym is_t) in
      subst (λ xs. MatchedAll xs (take (i + 1) ts) b₀ b') (sym e) (subst (λ ys. MatchedAll (take i ps ++ p ∷ []) ys b₀ b') (sym h) (all_more (take i ps) (take i ts) p t b₀ b b' all one))

  split_p : (take i ps ++ (p ∷ drop (i + 1) ps)) ≡ ps
  split_p = ap (λ x. take i ps ++ (x ∷ drop (i + 1) ps)) is_p ∙ (ap (λ xs. take i ps ++ xs) (sym (drop_more ps i p at_p)) ∙ take-append-drop i ps)

  pub all_room : length (with_variables (bound_in b₀) (occurrences (App f ps))) ≤ 16 → length (with_variables (bound_in b) (occurrences p)) ≤ 16
  all_room room =
      let vs = joined (map occurrences (take i ps)) in let rest = joined (map occurrences (drop (i + 1) ps)) in
      let e : with_variables (with_variables (bound_in b) (occurrences p)) rest ≡ with_variables (bound_in b₀) (occurrences (App f ps)) =
      ap (λ ws. with_variables (with_variables ws (occurrences p)) rest) all.bound
      ∙ (sym (with_variables-append (with_variables (bound_in b₀) vs) (occurrences p) rest)
      ∙ (sym (with_variables-append (bound_in b₀) vs (occurrences p ++ rest))
      ∙ ap (with_variables (bound_in b₀)) (sym (occurrences_all-append (take i ps) (p ∷ drop (i + 1) ps)) ∙ (ap (λ xs. joined (map occurrences xs)) split_p ∙ sym (occurrences_app f ps))))) in
      omega (arith, with_variables-length (with_variables (bound_in b) (occurrences p)) rest, ap length e, room)

  front_same : (θ : ℕ → Term) → map (instance_of θ) ps ≡ ts → (map (instance_of θ) (take i ps) ≡ take i ts) × (instance_of θ p ≡ t)
  front_same θ e = (
    sym (take-map (instance_of θ) i ps) ∙ ap (take i) e,
    ap (instance_of θ) is_p ∙ (sym (get_or-map (instance_of θ) ps i p) ∙ (ap (λ xs. get_or xs i (instance_of θ p)) e ∙ sym (get_or_read ts i t at_t is_t (instance_of θ p)))),
  )

  pub all_refused : IsRefused p t b b' → IsRefused (App f ps) (node f ts) b₀ (take (length b₀) b')
  all_refused bad = record {
    none = λ θ a e. let s = front_same θ (node_args f f _ _ (sym (instance_of_app θ f ps) ∙ e)) in bad.none θ ((all.exactly θ).1 (a, s.0)) s.1;
    same = ap (take (length b₀)) (bad.same ∙ all.kept.1) ∙ take-append_seam b₀ all.kept.0;
  }

pub room_for_new : (v : ℕ) (b : List (ℕ × Term)) → lookup b v ≡ None → length (with_variable (bound_in b) v) ≤ 16 → length b < 16
room_for_new v b h room = omega (arith, ap length (with_new v b h), length-append (bound_in b) (v ∷ []), length-map b (λ (e : ℕ × Term). e.0), room)

-- a pattern and a term as the code takes them apart
pub record Opened (p : Pattern) (t : Term) (f : ℕ) (ps : List Pattern) (ts : List Term) : Type 0 where
  pub whole_p : App f ps ≡ p
  pub whole_t : node f ts ≡ t

pub opened : (p : Pattern) (t : Term) (f : ℕ) (args ps : List Pattern) (ts : List Term) → p ≡ App f args → ps ≡ args → f ≡ sym_of t → ts ≡ args_of t → Opened p t f ps ts
opened p t f args ps ts is e h k = record {
  whole_p = ap (App f) e ∙ sym is;
  whole_t = (λ i. node (h i) (k i)) ∙ node_out t;
}

pub matched_whole : (p : Pattern) (t : Term) (f : ℕ) (ps : List Pattern) (ts : List Term) (b₀ b : List (ℕ × Term)) → Opened p t f ps ts → MatchedAll ps ts b₀ b → IsBoundBy p t b₀ b
matched_whole p t f ps ts b₀ b o m =
    subst (λ x. IsBoundBy x t b₀ b) o.whole_p (subst (λ y. IsBoundBy (App f ps) y b₀ b) o.whole_t (all_whole f ps ts b₀ b m))

pub refused_whole : (p : Pattern) (t : Term) (f : ℕ) (ps : List Pattern) (ts : List Term) (b₀ b : List (ℕ × Term)) → Opened p t f ps ts → IsRefused (App f ps) (node f ts) b₀ b → IsRefused p t b₀ b
refused_whole p t f ps ts b₀ b o m =
    subst (λ x. IsRefused x t b₀ b) o.whole_p (subst (λ y. IsRefused (App f ps) y b₀ b) o.whole_t m)

pub ruleset adding = (with_variables-append, occurrences_var, occurrences_app)

pub adding_more : (ps : List Pattern) (i : ℕ) (p : Pattern) (vs vs' whole : List ℕ) → i < length ps → p ≡ get_or ps i p → vs' ≡ with_variables vs (occurrences p) →
    with_variables vs (joined (map occurrences (drop i ps))) ≡ whole → with_variables vs' (joined (map occurrences (drop (i + 1) ps))) ≡ whole
adding_more ps i p vs vs' whole lt is e h =
    let rest = joined (map occurrences (drop (i + 1) ps)) in
    ap (λ x. with_variables x rest) e ∙ (sym (with_variables-append vs (occurrences p) rest)
    ∙ (ap (λ q. with_variables vs (occurrences q ++ rest)) is ∙ (ap (λ qs. with_variables vs (joined (map occurrences qs))) (sym (drop_more ps i p lt)) ∙ h)))
