-- The instance that a binding makes, and the greatest height of terms.
use Rattle.std.proofs.Common.{◌≡◌, ℕ, zero, suc, ◌+◌, ◌-◌, ◌<◌, ◌≤◌, max, min, Bool, true, false, true≢false, ◌==◌, ◌||◌, List, [], ◌∷◌, ◌++◌, map, length, take, get_or, Option, Some, None, refl, sym, ap, subst, ◌∙◌, arith}
use Rattle.std.specs.List.{Contains}
use Rattle.std.specs.Prelude.{All, cond}
use Rattle.std.specs.Cmp.{ranks}
use Rattle.std.specs.Ordering.{MatchOrdering, is_lt, nat_cmp, ord_max}
use Rattle.std.specs.declared.cmp.Ordering.{Ordering}
use Rattle.std.specs.declared.cmp.Ordering.TheVariants.{Less, Equal, Greater}
use Rattle.std.proofs.lemmas.Bool.{eq-eqb}
use Rattle.std.proofs.lemmas.List.{take_more, take_all}
use Rattle.std.proofs.lemmas.List.Elements.{All-contains_itself, All-weaker, Contains-append_left, Contains-append_right}
use Rattle.ranked_terms.specs.Terms.{node, greatest, height_of, instance_of, joined, occurrences}
use Rattle.ranked_terms.specs.Matching.{Agrees, binding_of, bound_in, is_in, lookup, or_constant, Once, IsInstanceBy}
use Rattle.ranked_terms.specs.declared.term.Term.{Term}
use Rattle.ranked_terms.specs.declared.term.Term.TheViews.{out-Term}
use Rattle.ranked_terms.specs.declared.term.Pattern.{Pattern}
use Rattle.ranked_terms.specs.declared.term.Pattern.TheVariants.{Var, App}
use Rattle.ranked_terms.specs.lemmas.TermLaws.{instance_var, instance_app, height_node, node_out, occurrences_var, occurrences_app}
use Rattle.ranked_terms.specs.lemmas.InstanceLaws.{instance_of-agree}
use Rattle.ranked_terms.proofs.bindings.MatchingLaws.{agrees_at, is_in-absent}
use Rattle.ranked_terms.proofs.bindings.BindingLaws.{own_agrees}

-- ---- bound variables

either_left : (a b : Bool) → a ≡ true → (a || b) ≡ true
either_left true b h = refl
either_left false b h = cc

either_right : (a b : Bool) → b ≡ true → (a || b) ≡ true
either_right true b h = refl
either_right false b h = h

is_among : (v : ℕ) (vs : List ℕ) (n : ℕ) → n < length vs → get_or vs n v ≡ v → is_in v vs ≡ true
is_among v [] n l e = absurd (omega (arith, l))
is_among v (w ∷ vs) zero l e = either_left (v == w) (is_in v vs) (eq-eqb v w (sym e))
is_among v (w ∷ vs) (suc n) l e = either_right (v == w) (is_in v vs) (is_among v vs n (omega (arith, l)) e)

-- a bound variable is found
pub bound_is_some : (v : ℕ) (b : List (ℕ × Term)) → Contains (bound_in b) v → lookup b v ≡ None → ⊥
bound_is_some v b c n = true≢false (sym (is_among v (bound_in b) c.0 c.1 c.2) ∙ is_in-absent v b n)

agree_by : (θ η : ℕ → Term) (b : List (ℕ × Term)) (v : ℕ) (o : Option Term) → lookup b v ≡ o → (o ≡ None → ⊥) → Agrees θ b → Agrees η b → θ v ≡ η v
agree_by θ η b v None e n a c = absurd (n refl)
agree_by θ η b v (Some t) e n a c = agrees_at θ b v t e a ∙ sym (agrees_at η b v t e c)

-- two substitutions that agree with a binding agree at what is bound
pub agree_at : (θ η : ℕ → Term) (b : List (ℕ × Term)) (v : ℕ) → Contains (bound_in b) v → Agrees θ b → Agrees η b → θ v ≡ η v
agree_at θ η b v c = agree_by θ η b v (lookup b v) refl (bound_is_some v b c)

-- the variables of an argument are among those of the whole
joined_has : (v : ℕ) (ps : List Pattern) (i : ℕ) (q : Pattern) → i < length ps → q ≡ get_or ps i q → Contains (occurrences q) v → Contains (joined (map occurrences ps)) v
joined_has v [] i q l e c = absurd (omega (arith, l))
joined_has v (p ∷ ps) zero q l e c = Contains-append_left (occurrences p) (joined (map occurrences ps)) v (subst (λ x. Contains (occurrences x) v) e c)
joined_has v (p ∷ ps) (suc i) q l e c = Contains-append_right (occurrences p) (joined (map occurrences ps)) v (joined_has v ps i q (omega (arith, l)) e c)

pub argument_has : (v : ℕ) (p : Pattern) (f : ℕ) (args ps : List Pattern) (i : ℕ) (q : Pattern) → p ≡ App f args → ps ≡ args → i < length ps → q ≡ get_or ps i q → Contains (occurrences q) v → Contains (occurrences p) v
argument_has v p f args ps i q is e l at c =
    subst (λ vs. Contains vs v) (sym (ap occurrences is ∙ (ap (λ qs. occurrences (App f qs)) (sym e) ∙ occurrences_app f ps))) (joined_has v ps i q l at c)

pub var_has : (v : ℕ) (p : Pattern) → p ≡ Var v → Contains (occurrences p) v
var_has v p is = subst (λ vs. Contains vs v) (sym (ap occurrences is ∙ occurrences_var v)) (0, omega arith, refl)

-- the variable's term
pub var_instance : (p : Pattern) (v : ℕ) (b : List (ℕ × Term)) (t : Term) → p ≡ Var v → Some t ≡ lookup b v → t ≡ instance_of (binding_of b) p
var_instance p v b t is e = ap or_constant e ∙ (sym (instance_var (binding_of b) v) ∙ ap (instance_of (binding_of b)) (sym is))

every : (P : ℕ → Type 0) (vs : List ℕ) → ((v : ℕ) → Contains vs v → P v) → All P vs
every P vs h = All-weaker (Contains vs) P h vs (All-contains_itself vs)

pub is_instance_by : (p : Pattern) (b : List (ℕ × Term)) (t : Term) → Once (bound_in b) → ((v : ℕ) → Contains (occurrences p) v → Contains (bound_in b) v)
    → t ≡ instance_of (binding_of b) p → IsInstanceBy p b t
is_instance_by p b t once all e = record {
  some = record { θ = binding_of b; agrees = own_agrees b once; is = e };
  each = λ θ a. e ∙ instance_of-agree (binding_of b) θ p (every (λ v. binding_of b v ≡ θ v) (occurrences p) (λ v c. agree_at (binding_of b) θ b v (all v c) (own_agrees b once) a));
}

-- ---- instances of arguments, one by one

instances-append : (f : Pattern → Term) (ps qs : List Pattern) → map f (ps ++ qs) ≡ map f ps ++ map f qs
instances-append f [] qs = refl
instances-append f (p ∷ ps) qs = ap (λ ts. f p ∷ ts) (instances-append f ps qs)

pub instances_more : (f : Pattern → Term) (ps : List Pattern) (i : ℕ) (p : Pattern) (old new : List Term) (x : Term) → i < length ps → p ≡ get_or ps i p
    → old ≡ map f (take i ps) → x ≡ f p → new ≡ old ++ x ∷ [] → new ≡ map f (take (i + 1) ps)
instances_more f ps i p old new x l e is at h =
    h ∙ ((λ j. is j ++ at j ∷ []) ∙ (sym (instances-append f (take i ps) (p ∷ [])) ∙ ap (map f) (sym (take_more ps i p l ∙ ap (λ q. take i ps ++ q ∷ []) (sym e)))))

pub instances_all : (b : List (ℕ × Term)) (p : Pattern) (f : ℕ) (args ps : List Pattern) (i : ℕ) (ts : List Term) → p ≡ App f args → ps ≡ args → length ps ≤ i
    → ts ≡ map (instance_of (binding_of b)) (take i ps) → node f ts ≡ instance_of (binding_of b) p
instances_all b p f args ps i ts is e l h =
    ap (node f) (h ∙ ap (map (instance_of (binding_of b))) (take_all i ps l ∙ e)) ∙ (sym (instance_app (binding_of b) f args) ∙ ap (instance_of (binding_of b)) (sym is))

-- ---- heights

greatest-append : (ns ms : List ℕ) → greatest (ns ++ ms) ≡ max (greatest ns) (greatest ms)
greatest-append [] ms = omega arith
greatest-append (n ∷ ns) ms = omega (arith, greatest-append ns ms)

heights-append : (ts us : List Term) → map height_of (ts ++ us) ≡ map height_of ts ++ map height_of us
heights-append [] us = refl
heights-append (t ∷ ts) us = ap (λ ns. height_of t ∷ ns) (heights-append ts us)

pub greatest_more : (ts : List Term) (i : ℕ) (t : Term) → i < length ts → t ≡ get_or ts i t → greatest (map height_of (take (i + 1) ts)) ≡ max (greatest (map height_of (take i ts))) (height_of t)
greatest_more ts i t l e =
    let h = ap (λ xs. greatest (map height_of xs)) (take_more ts i t l ∙ ap (λ x. take i ts ++ x ∷ []) (sym e))
    ∙ (ap greatest (heights-append (take i ts) (t ∷ [])) ∙ greatest-append (map height_of (take i ts)) (height_of t ∷ [])) in
    omega (arith, h)

pub height_capped : (t : Term) (i : ℕ) (ts : List Term) (highest cap : ℕ) → ts ≡ (out-Term t).args → length ts ≤ i → highest ≡ min (greatest (map height_of (take i ts))) (cap - 1) → 0 < cap → highest + 1 ≡ min (height_of t) cap
height_capped t i ts highest cap e l h some =
    let k : highest ≡ min (greatest (map height_of (out-Term t).args)) (cap - 1) = h ∙ ap (λ us. min (greatest (map height_of us)) (cap - 1)) (take_all i ts l ∙ e) in
    let n : height_of t ≡ greatest (map height_of (out-Term t).args) + 1 = ap height_of (sym (node_out t)) ∙ height_node (out-Term t).sym (out-Term t).args in
    omega (arith, k, n)

max_by : (a b : ℕ) (o : Ordering) → MatchOrdering o (b < a) (b ≡ a) (a < b) → cond (is_lt o) a b ≡ max a b
max_by a b Less h = omega (arith, h)
max_by a b Equal h = omega (arith, h)
max_by a b Greater h = omega (arith, h)

pub max_is : (a b : ℕ) → ord_max nat_cmp a b ≡ max a b
max_is a b = max_by a b (nat_cmp b a) (ranks b a)
