-- A binding with no variable twice agrees with the substitution that it stands for.
use Rattle.std.proofs.Common.{◌≡◌, ℕ, Bool, true, false, ◌==◌, ◌||◌, if◌then◌else◌, List, [], ◌∷◌, ◌++◌, Option, Some, refl, sym, subst, ◌∙◌}
use Rattle.std.proofs.lemmas.Bool.{eq-eqb, eqb-true}
use Rattle.ranked_terms.specs.Terms.{instance_of, occurrences, with_variable}
use Rattle.std.specs.Prelude.{IsTrue, MatchBool, ◌↔◌}
use Rattle.std.proofs.Common.{zero, suc, take, None}
use Rattle.ranked_terms.proofs.bindings.MatchingLaws.{is_in-absent, bound_in-append}
use Rattle.ranked_terms.specs.Matching.{is_in, with_variables, bound_in, Agrees, lookup, binding_of, or_constant, Once, IsBoundBy, IsRefused, IsInstance}
use Rattle.ranked_terms.specs.declared.term.Term.{Term}
use Rattle.ranked_terms.specs.declared.term.Pattern.{Pattern}

neither : (a b : Bool) → (a || b) ≡ false → (a ≡ false) × (b ≡ false)
neither true b h = cc
neither false b h = (refl, h)

either : (a b : Bool) → a ≡ false → b ≡ false → (a || b) ≡ false
either true b h k = cc
either false b h k = k

test_at : (v w : ℕ) (r : Bool) → (v == w) ≡ r → (w == v) ≡ false → r ≡ false
test_at v w true e h = let k : (w == v) ≡ true = eq-eqb w v (sym (eqb-true v w e)) in cc
test_at v w false e h = refl

same_test : (v w : ℕ) → (w == v) ≡ false → (v == w) ≡ false
same_test v w h = test_at v w (v == w) refl h

is_in-push : (v : ℕ) (vs : List ℕ) (w : ℕ) → is_in v vs ≡ false → (v == w) ≡ false → is_in v (vs ++ w ∷ []) ≡ false
is_in-push v [] w h k = either (v == w) false k refl
is_in-push v (x ∷ vs) w h k =
    let p = neither (v == x) (is_in v vs) h in either (v == x) (is_in v (vs ++ w ∷ [])) p.0 (is_in-push v vs w p.1 k)

Once-push : (vs : List ℕ) (w : ℕ) → Once vs → is_in w vs ≡ false → Once (vs ++ w ∷ [])
Once-push [] w o h = (refl, tt)
Once-push (v ∷ vs) w o h =
    let p = neither (w == v) (is_in w vs) h in (is_in-push v vs w o.0 (same_test v w p.0), Once-push vs w o.1 p.1)

Once-at : (vs : List ℕ) (w : ℕ) (r : Bool) → is_in w vs ≡ r → Once vs → Once (if r then vs else (vs ++ w ∷ []))
Once-at vs w true h o = o
Once-at vs w false h o = Once-push vs w o h

Once-with : (vs ws : List ℕ) → Once vs → Once (with_variables vs ws)
Once-with vs [] o = o
Once-with vs (w ∷ ws) o = Once-with (with_variable vs w) ws (Once-at vs w (is_in w vs) refl o)

at_here : (r : Bool) (t : Term) (o : Option Term) → r ≡ true → or_constant (if r then Some t else o) ≡ t
at_here true t o h = refl
at_here false t o h = cc

not_here : (r : Bool) (t : Term) (o : Option Term) → r ≡ false → or_constant (if r then Some t else o) ≡ or_constant o
not_here true t o h = cc
not_here false t o h = refl

agrees_past : (e : ℕ × Term) (b c : List (ℕ × Term)) → is_in e.0 (bound_in c) ≡ false → Agrees (binding_of b) c → Agrees (binding_of (e ∷ b)) c
agrees_past e b [] n a = tt
agrees_past e b (x ∷ c) n a =
    let p = neither (e.0 == x.0) (is_in e.0 (bound_in c)) n in
    (not_here (x.0 == e.0) e.1 (lookup b x.0) (same_test x.0 e.0 p.0) ∙ a.0, agrees_past e b c p.1 a.1)

pub own_agrees : (b : List (ℕ × Term)) → Once (bound_in b) → Agrees (binding_of b) b
own_agrees [] o = tt
own_agrees (e ∷ b) o = (at_here (e.0 == e.0) e.1 (lookup b e.0) (eq-eqb e.0 e.0 refl), agrees_past e b b o.0 (own_agrees b o.1))

-- a match from nothing gives a substitution that makes the pattern the term
pub matched_instance : (p : Pattern) (t : Term) (b : List (ℕ × Term)) → IsBoundBy p t [] b → instance_of (binding_of b) p ≡ t
matched_instance p t b m =
    ((m.exactly (binding_of b)).0 (own_agrees b (subst Once (sym m.bound) (Once-with [] (occurrences p) tt)))).1

-- ---- a binding keeps each variable once

pub Once-bound : (b : List (ℕ × Term)) (v : ℕ) (t : Term) → Once (bound_in b) → lookup b v ≡ None → Once (bound_in (b ++ (v, t) ∷ []))
Once-bound b v t o n = subst Once (sym (bound_in-append b ((v, t) ∷ []))) (Once-push (bound_in b) v o (is_in-absent v b n))

is_in-take : (v : ℕ) (b : List (ℕ × Term)) (n : ℕ) → is_in v (bound_in b) ≡ false → is_in v (bound_in (take n b)) ≡ false
is_in-take v b zero h = refl
is_in-take v [] (suc n) h = refl
is_in-take v (e ∷ b) (suc n) h = let p = neither (v == e.0) (is_in v (bound_in b)) h in either (v == e.0) (is_in v (bound_in (take n b))) p.0 (is_in-take v b n p.1)

pub Once-take : (b : List (ℕ × Term)) (n : ℕ) → Once (bound_in b) → Once (bound_in (take n b))
Once-take b zero o = tt
Once-take [] (suc n) o = tt
Once-take (e ∷ b) (suc n) o = (is_in-take e.0 b n o.0, Once-take b n o.1)

-- what is left of a binding that binds each variable once has a substitution of its own
pub has_instance : (p : Pattern) (t : Term) (b b' : List (ℕ × Term)) → Once (bound_in b) → IsBoundBy p t b b' → IsInstance p t b
has_instance p t b b' o m =
    let θ = binding_of b' in
    let both = (m.exactly θ).0 (own_agrees b' (subst Once (sym m.bound) (Once-with (bound_in b) (occurrences p) o))) in
    record { θ = θ; agrees = both.0; is = sym both.1 }

pub decided : (r : Bool) (p : Pattern) (t : Term) (b b' : List (ℕ × Term)) → Once (bound_in b) → MatchBool r (IsBoundBy p t b b') (IsRefused p t b b') → IsTrue r ↔ IsInstance p t b
decided true p t b b' o m = (λ _. has_instance p t b b' o m, λ _. refl)
decided false p t b b' o m = (λ h. absurd (cc), λ i. absurd (m.none i.θ i.agrees (sym i.is)))
