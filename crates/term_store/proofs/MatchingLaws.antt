-- Laws of bindings, and the steps of a match.
use Rattle.std.proofs.Common.{◌≡◌, ◌≢◌, ◌↔◌, ℕ, ◌+◌, ◌<◌, Bool, true, false, ◌==◌, ◌||◌, if◌then◌else◌, List, [], ◌∷◌, ◌++◌, map, length, take, get_or, Option, Some, None, refl, sym, ap, subst, ◌∙◌, append_assoc, append-nil}
use Rattle.std.specs.Prelude.{IsTrue, MatchBool}
use Rattle.std.proofs.Math.Seq.{take-append_seam}
use Rattle.std.proofs.Math.ListN.{get_or-map}
use Rattle.std.proofs.lemmas.List.{length-map, take-map, get_or_read, take_more}
use Rattle.std.proofs.lemmas.Bool.{eqb-true, eq-eqb}
use Rattle.ranked_terms.specs.Terms.{node, instance_of, joined, with_variable, occurrences}
use Rattle.ranked_terms.specs.Matching.{is_in, with_variables, bound_in, Agrees, lookup, binding_of, or_constant, Once, IsBoundBy, IsRefused}
use Rattle.ranked_terms.specs.declared.term.Term.{Term}
use Rattle.ranked_terms.specs.declared.term.Pattern.{Pattern}
use Rattle.ranked_terms.specs.declared.term.Pattern.TheVariants.{Var, App}
use Rattle.ranked_terms.specs.lemmas.TermLaws.{instance_var, instance_app, occurrences_var, occurrences_app, node_args, node_sym}

if_true : {A : Type 0} (b : Bool) (x y : A) → b ≡ true → (if b then x else y) ≡ x
if_true true x y h = refl
if_true false x y h = cc

if_false : {A : Type 0} (b : Bool) (x y : A) → b ≡ false → (if b then x else y) ≡ y
if_false true x y h = cc
if_false false x y h = refl

not_here : (t : Bool) (u : Term) (o : Option Term) → (if t then Some u else o) ≡ None → (t ≡ false) × (o ≡ None)
not_here true u o h = cc
not_here false u o h = (refl, h)

pub lookup-append : (a b : List (ℕ × Term)) (v : ℕ) → lookup a v ≡ None → lookup (a ++ b) v ≡ lookup b v
lookup-append [] b v h = refl
lookup-append (e ∷ a) b v h =
    let p = not_here (v == e.0) e.1 (lookup a v) h in
    if_false (v == e.0) (Some e.1) (lookup (a ++ b) v) p.0 ∙ lookup-append a b v p.1

pub lookup_here : (a b : List (ℕ × Term)) (v : ℕ) (t : Term) → lookup a v ≡ None → lookup (a ++ (v, t) ∷ b) v ≡ Some t
lookup_here a b v t h = lookup-append a ((v, t) ∷ b) v h ∙ if_true (v == v) (Some t) (lookup b v) (eq-eqb v v refl)

-- ---- one variable

found : (r s : Bool) (u : Term) (o : Option Term) (t : Term) → (if r then Some u else o) ≡ Some t → (o ≡ Some t → s ≡ true) → (r || s) ≡ true
found true s u o t h k = refl
found false s u o t h k = k h

is_in-append : (v : ℕ) (b : List (ℕ × Term)) (t : Term) → lookup b v ≡ Some t → is_in v (bound_in b) ≡ true
is_in-append v [] t h = cc
is_in-append v (e ∷ b) t h = found (v == e.0) (is_in v (bound_in b)) e.1 (lookup b v) t h (is_in-append v b t)

one_of : {x t u : Term} {o : Option Term} (r : Bool) → (r ≡ true → x ≡ u) → (if r then Some u else o) ≡ Some t → (o ≡ Some t → x ≡ t) → x ≡ t
one_of true k h l = let e : _ ≡ _ = k refl in cc
one_of false k h l = l h

-- a binding that has v gives it one term, under each substitution that agrees
pub agrees_at : (θ : ℕ → Term) (b : List (ℕ × Term)) (v : ℕ) (t : Term) → lookup b v ≡ Some t → Agrees θ b → θ v ≡ t
agrees_at θ [] v t h a = cc
agrees_at θ (e ∷ b) v t h a = one_of (v == e.0) (λ k. ap θ (eqb-true v e.0 k) ∙ a.0) h (λ k. agrees_at θ b v t k a.1)

pub Agrees-append : (θ : ℕ → Term) (a b : List (ℕ × Term)) → Agrees θ (a ++ b) ↔ (Agrees θ a × Agrees θ b)
Agrees-append θ [] b = (λ h. (tt, h), λ h. h.1)
Agrees-append θ (e ∷ a) b =
    let k = Agrees-append θ a b in
    (λ h. let p = k.0 h.1 in ((h.0, p.0), p.1), λ h. (h.0.0, k.1 (h.0.1, h.1)))

-- the same of each argument of a node
pub record MatchedAll (ps : List Pattern) (ts : List Term) (old new : List (ℕ × Term)) : Type 0 where
  pub exactly : (θ : ℕ → Term) → Agrees θ new ↔ (Agrees θ old × (map (instance_of θ) ps ≡ ts))
  pub bound : bound_in new ≡ with_variables (bound_in old) (joined (map occurrences ps))
  pub kept : (more : List (ℕ × Term)) × (new ≡ old ++ more)

-- ---- one variable is matched

absent_at : (r s : Bool) (u : Term) (o : Option Term) → (if r then Some u else o) ≡ None → (o ≡ None → s ≡ false) → (r || s) ≡ false
absent_at true s u o h k = cc
absent_at false s u o h k = k h

pub is_in-absent : (v : ℕ) (b : List (ℕ × Term)) → lookup b v ≡ None → is_in v (bound_in b) ≡ false
is_in-absent v [] h = refl
is_in-absent v (e ∷ b) h = absent_at (v == e.0) (is_in v (bound_in b)) e.1 (lookup b v) h (is_in-absent v b)

pub bound_in-append : (a b : List (ℕ × Term)) → bound_in (a ++ b) ≡ bound_in a ++ bound_in b
bound_in-append [] b = refl
bound_in-append (e ∷ a) b = ap (λ vs. e.0 ∷ vs) (bound_in-append a b)

with_known : (v : ℕ) (b : List (ℕ × Term)) (t : Term) → lookup b v ≡ Some t → with_variable (bound_in b) v ≡ bound_in b
with_known v b t h = if_true (is_in v (bound_in b)) (bound_in b) (bound_in b ++ v ∷ []) (is_in-append v b t h)

pub with_new : (v : ℕ) (b : List (ℕ × Term)) → lookup b v ≡ None → with_variable (bound_in b) v ≡ bound_in b ++ v ∷ []
with_new v b h = if_false (is_in v (bound_in b)) (bound_in b) (bound_in b ++ v ∷ []) (is_in-absent v b h)

found_same : (v : ℕ) (b : List (ℕ × Term)) (u t : Term) → lookup b v ≡ Some u → u ≡ t → IsBoundBy (Var v) t b b
found_same v b u t h e = record {
  exactly = λ θ. (λ a. (a, instance_var θ v ∙ (agrees_at θ b v u h a ∙ e)), λ p. p.0);
  bound = sym (ap (with_variables (bound_in b)) (occurrences_var v) ∙ with_known v b u h);
  kept = ([], sym (append-nil b));
}

found_other : (v : ℕ) (b : List (ℕ × Term)) (u t : Term) → lookup b v ≡ Some u → u ≢ t → IsRefused (Var v) t b b
found_other v b u t h n = record {
  none = λ θ a e. n (sym (agrees_at θ b v u h a) ∙ (sym (instance_var θ v) ∙ e));
  same = refl;
}

pub bind_found : (v : ℕ) (b : List (ℕ × Term)) (u t : Term) (r : Bool) → lookup b v ≡ Some u → IsTrue r ↔ (u ≡ t) → MatchBool r (IsBoundBy (Var v) t b b) (IsRefused (Var v) t b b)
bind_found v b u t true h k = found_same v b u t h (k.0 refl)
bind_found v b u t false h k = found_other v b u t h (λ e. let x : IsTrue false = k.1 e in cc)

pub bind_new : (v : ℕ) (b : List (ℕ × Term)) (t : Term) → lookup b v ≡ None → IsBoundBy (Var v) t b (b ++ (v, t) ∷ [])
bind_new v b t h = record {
  exactly = λ θ. let k = Agrees-append θ b ((v, t) ∷ []) in
      (λ a. let p = k.0 a in (p.0, instance_var θ v ∙ p.1.0), λ p. k.1 (p.0, (sym (instance_var θ v) ∙ p.1, tt)));
  bound = bound_in-append b ((v, t) ∷ []) ∙ sym (ap (with_variables (bound_in b)) (occurrences_var v) ∙ with_new v b h);
  kept = ((v, t) ∷ [], refl);
}

-- ---- the arguments are matched one by one

pub with_variables-append : (vs xs ys : List ℕ) → with_variables vs (xs ++ ys) ≡ with_variables (with_variables vs xs) ys
with_variables-append vs [] ys = refl
with_variables-append vs (x ∷ xs) ys = with_variables-append (with_variable vs x) xs ys

occurrences_all-append : (ps qs : List Pattern) → joined (map occurrences (ps ++ qs)) ≡ joined (map occurrences ps) ++ joined (map occurrences qs)
occurrences_all-append [] qs = refl
occurrences_all-append (p ∷ ps) qs =
    ap (λ vs. occurrences p ++ vs) (occurrences_all-append ps qs) ∙ sym (append_assoc (occurrences p) (joined (map occurrences ps)) (joined (map occurrences qs)))

instances-append : (θ : ℕ → Term) (ps qs : List Pattern) → map (instance_of θ) (ps ++ qs) ≡ map (instance_of θ) ps ++ map (instance_of θ) qs
instances-append θ [] qs = refl
instances-append θ (p ∷ ps) qs = ap (λ ts. instance_of θ p ∷ ts) (instances-append θ ps qs)

last_same : (xs ys : List Term) (x y : Term) → xs ++ x ∷ [] ≡ ys ++ y ∷ [] → (xs ≡ ys) × (x ≡ y)
last_same [] [] x y e = (refl, cc)
last_same [] (b ∷ []) x y e = cc
last_same [] (b ∷ (d ∷ ys)) x y e = cc
last_same (a ∷ []) [] x y e = cc
last_same (a ∷ (d ∷ xs)) [] x y e = cc
last_same (a ∷ xs) (b ∷ ys) x y e =
    let h : a ≡ b = cc in let t : xs ++ x ∷ [] ≡ ys ++ y ∷ [] = cc in
    let p = last_same xs ys x y t in ((λ i. h i ∷ p.0 i), p.1)

pub all_start : (b : List (ℕ × Term)) → MatchedAll [] [] b b
all_start b = record { exactly = λ θ. (λ a. (a, refl), λ p. p.0); bound = refl; kept = ([], sym (append-nil b)) }

all_more : (ps : List Pattern) (ts : List Term) (p : Pattern) (t : Term) (b₀ b b' : List (ℕ × Term)) → MatchedAll ps ts b₀ b → IsBoundBy p t b b' → MatchedAll (ps ++ p ∷ []) (ts ++ t ∷ []) b₀ b'
all_more ps ts p t b₀ b b' all one = record {
  exactly = λ θ.
      let m = instances-append θ ps (p ∷ []) in (
        λ a. let q = (one.exactly θ).0 a in let r = (all.exactly θ).0 q.0 in (r.0, m ∙ (λ i. r.1 i ++ q.1 i ∷ [])),
        λ q. let s = last_same (map (instance_of θ) ps) ts (instance_of θ p) t (sym m ∙ q.1) in (one.exactly θ).1 ((all.exactly θ).1 (q.0, s.0), s.1),
      );
  bound = one.bound ∙ (ap (λ vs. with_variables vs (occurrences p)) all.bound
      ∙ (sym (with_variables-append (bound_in b₀) (joined (map occurrences ps)) (occurrences p))
      ∙ ap (with_variables (bound_in b₀)) (sym (occurrences_all-append ps (p ∷ []) ∙ ap (λ vs. joined (map occurrences ps) ++ vs) (append-nil (occurrences p))))));
  kept = (all.kept.0 ++ one.kept.0, one.kept.1 ∙ (ap (λ x. x ++ one.kept.0) all.kept.1 ∙ append_assoc b₀ all.kept.0 one.kept.0));
}

pub all_whole : (f : ℕ) (ps : List Pattern) (ts : List Term) (b₀ b : List (ℕ × Term)) → MatchedAll ps ts b₀ b → IsBoundBy (App f ps) (node f ts) b₀ b
all_whole f ps ts b₀ b all = record {
  exactly = λ θ. let e = instance_app θ f ps in
      (λ a. let q = (all.exactly θ).0 a in (q.0, e ∙ ap (node f) q.1), λ q. (all.exactly θ).1 (q.0, node_args f f _ _ (sym e ∙ q.1)));
  bound = all.bound ∙ ap (with_variables (bound_in b₀)) (sym (occurrences_app f ps));
  kept = all.kept;
}

pub mismatch : (f g : ℕ) (ps : List Pattern) (ts : List Term) (b : List (ℕ × Term)) → (f ≡ g → length ps ≡ length ts → ⊥) → IsRefused (App f ps) (node g ts) b b
mismatch f g ps ts b n = record {
  none = λ θ a e. let h = sym (instance_app θ f ps) ∙ e in n (node_sym f g _ _ h) (sym (length-map ps (instance_of θ)) ∙ ap length (node_args f g _ _ h));
  same = refl;
}

module _ (f : ℕ) (ps : List Pattern) (ts : List Term) (i : ℕ) (p : Pattern) (t : Term) (b₀ b b' : List (ℕ × Term))
    (all : MatchedAll (take i ps) (take i ts) b₀ b) (at_p : i < length ps) (at_t : i < length ts) (is_p : p ≡ get_or ps i p) (is_t : t ≡ get_or ts i t) where
  pub all_step : IsBoundBy p t b b' → MatchedAll (take (i + 1) ps) (take (i + 1) ts) b₀ b'
  all_step one =
      let e = take_more ps i p at_p ∙ ap (λ x. take i ps ++ x ∷ []) (sym is_p) in
      let h = take_more ts i t at_t ∙ ap (λ x. take i ts ++ x ∷ []) (sym is_t) in
      subst (λ xs. MatchedAll xs (take (i + 1) ts) b₀ b') (sym e) (subst (λ ys. MatchedAll (take i ps ++ p ∷ []) ys b₀ b') (sym h) (all_more (take i ps) (take i ts) p t b₀ b b' all one))

  front_same : (θ : ℕ → Term) → map (instance_of θ) ps ≡ ts → (map (instance_of θ) (take i ps) ≡ take i ts) × (instance_of θ p ≡ t)
  front_same θ e = (
    sym (take-map (instance_of θ) i ps) ∙ ap (take i) e,
    ap (instance_of θ) is_p ∙ (sym (get_or-map (instance_of θ) ps i p) ∙ (ap (λ xs. get_or xs i (instance_of θ p)) e ∙ sym (get_or_read ts i t at_t is_t (instance_of θ p)))),
  )

  pub all_refused : IsRefused p t b b' → IsRefused (App f ps) (node f ts) b₀ (take (length b₀) b')
  all_refused bad = record {
    none = λ θ a e. let s = front_same θ (node_args f f _ _ (sym (instance_app θ f ps) ∙ e)) in bad.none θ ((all.exactly θ).1 (a, s.0)) s.1;
    same = ap (take (length b₀)) (bad.same ∙ all.kept.1) ∙ take-append_seam b₀ all.kept.0;
  }

-- ---- a binding with no variable twice agrees with the substitution that it stands for

neither : (a b : Bool) → (a || b) ≡ false → (a ≡ false) × (b ≡ false)
neither true b h = cc
neither false b h = (refl, h)

either : (a b : Bool) → a ≡ false → b ≡ false → (a || b) ≡ false
either true b h k = cc
either false b h k = k

test_at : (v w : ℕ) (r : Bool) → (v == w) ≡ r → (w == v) ≡ false → r ≡ false
test_at v w true e h = let k : (w == v) ≡ true = eq-eqb w v (sym (eqb-true v w e)) in cc
test_at v w false e h = refl

same_test : (v w : ℕ) → (w == v) ≡ false → (v == w) ≡ false
same_test v w h = test_at v w (v == w) refl h

is_in-push : (v : ℕ) (vs : List ℕ) (w : ℕ) → is_in v vs ≡ false → (v == w) ≡ false → is_in v (vs ++ w ∷ []) ≡ false
is_in-push v [] w h k = either (v == w) false k refl
is_in-push v (x ∷ vs) w h k =
    let p = neither (v == x) (is_in v vs) h in either (v == x) (is_in v (vs ++ w ∷ [])) p.0 (is_in-push v vs w p.1 k)

Once-push : (vs : List ℕ) (w : ℕ) → Once vs → is_in w vs ≡ false → Once (vs ++ w ∷ [])
Once-push [] w o h = (refl, tt)
Once-push (v ∷ vs) w o h =
    let p = neither (w == v) (is_in w vs) h in (is_in-push v vs w o.0 (same_test v w p.0), Once-push vs w o.1 p.1)

Once-at : (vs : List ℕ) (w : ℕ) (r : Bool) → is_in w vs ≡ r → Once vs → Once (if r then vs else (vs ++ w ∷ []))
Once-at vs w true h o = o
Once-at vs w false h o = Once-push vs w o h

Once-with : (vs ws : List ℕ) → Once vs → Once (with_variables vs ws)
Once-with vs [] o = o
Once-with vs (w ∷ ws) o = Once-with (with_variable vs w) ws (Once-at vs w (is_in w vs) refl o)

at_here : (r : Bool) (t : Term) (o : Option Term) → r ≡ true → or_constant (if r then Some t else o) ≡ t
at_here true t o h = refl
at_here false t o h = cc

passed_by : (r : Bool) (t : Term) (o : Option Term) → r ≡ false → or_constant (if r then Some t else o) ≡ or_constant o
passed_by true t o h = cc
passed_by false t o h = refl

agrees_past : (e : ℕ × Term) (b c : List (ℕ × Term)) → is_in e.0 (bound_in c) ≡ false → Agrees (binding_of b) c → Agrees (binding_of (e ∷ b)) c
agrees_past e b [] n a = tt
agrees_past e b (x ∷ c) n a =
    let p = neither (e.0 == x.0) (is_in e.0 (bound_in c)) n in
    (passed_by (x.0 == e.0) e.1 (lookup b x.0) (same_test x.0 e.0 p.0) ∙ a.0, agrees_past e b c p.1 a.1)

pub own_agrees : (b : List (ℕ × Term)) → Once (bound_in b) → Agrees (binding_of b) b
own_agrees [] o = tt
own_agrees (e ∷ b) o = (at_here (e.0 == e.0) e.1 (lookup b e.0) (eq-eqb e.0 e.0 refl), agrees_past e b b o.0 (own_agrees b o.1))

-- a match from nothing gives a substitution that makes the pattern the term
pub matched_instance : (p : Pattern) (t : Term) (b : List (ℕ × Term)) → IsBoundBy p t [] b → instance_of (binding_of b) p ≡ t
matched_instance p t b m =
    ((m.exactly (binding_of b)).0 (own_agrees b (subst Once (sym m.bound) (Once-with [] (occurrences p) tt)))).1
