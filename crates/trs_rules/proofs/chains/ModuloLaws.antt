-- Chains inside a term, and equations in both directions.
use Rattle.std.proofs.Common.{◌≡◌, ℕ, zero, suc, ◌-◌, List, [], ◌∷◌, ◌++◌, length, slice_get, Some, refl, sym, ap, subst, ◌∙◌, arith, ⊎_elim}
use Rattle.std.specs.List.{AllZip, Contains}
use Rattle.list_laws.proofs.Ends.{last_cons}
use Rattle.list_laws.proofs.Members.{none, parts}
use Rattle.ranked_terms.specs.Terms.{node, instance_of}
use Rattle.ranked_terms.specs.declared.term.Term.{Term}
use Rattle.trs_rules.specs.Rules.{RewriteRule, RewriteEquation}
use Rattle.trs_rules.specs.Steps.{Step, at_root, inside, Chain, one, more, Leads}
use Rattle.trs_rules.specs.Modulo.{onwards, backwards, both_ways, EqualModulo, Modulo, ArgumentsLead, SidesAreEqual, EqualIsSymmetric, EqualIsModulo, LeadsIsModulo}
use Rattle.trs_rules.proofs.steps.StepLaws.{leads_to_itself, steps_lead, leads_are_transitive, step_kept}

-- ---- an induction

module _ {R : List RewriteRule} (P : Term → Term → Type 0) (here : (t : Term) → P t t) (on : (s t u : Term) → Step R s t → P t u → P s u) where
  chain_gives : {ts : List Term} → Chain R ts → (s t : Term) → slice_get ts 0 ≡ Some s → slice_get ts (length ts - 1) ≡ Some t → P s t
  chain_gives (one x) s t b e =
      let same : s ≡ t = cc in
      subst (P s) same (here s)
  chain_gives (more {s = x} {t = y} {ts = ts} h c) s t b e =
      let same : x ≡ s = cc in
      on s y t (subst (λ x. Step R x y) same h) (chain_gives c y t refl (sym (last_cons x (y ∷ ts) (omega arith)) ∙ e))

  leads_gives : (s t : Term) → Leads R s t → P s t
  leads_gives s t l = chain_gives l.chain s t l.begins l.ends

-- ---- inside a term

step_on : {R : List RewriteRule} {s t u : Term} → Step R s t → Leads R t u → Leads R s u
step_on {R = R} {s = s} {t = t} {u = u} h l = leads_are_transitive R s t u (steps_lead R s t h) l

leads_inside : (R : List RewriteRule) (f : ℕ) (before after : List Term) (s t : Term) → Leads R s t → Leads R (node f (before ++ s ∷ after)) (node f (before ++ t ∷ after))
leads_inside R f before after =
    leads_gives (λ s t. Leads R (node f (before ++ s ∷ after)) (node f (before ++ t ∷ after))) (λ t. leads_to_itself R (node f (before ++ t ∷ after)))
    (λ s t u h l. step_on (inside f before after h) l)

one_further : {X : Type 0} (before : List X) (x : X) (after : List X) → (before ++ x ∷ []) ++ after ≡ before ++ x ∷ after
one_further [] x after = refl
one_further (y ∷ before) x after = ap (λ l. y ∷ l) (one_further before x after)

leads_from : (R : List RewriteRule) (f : ℕ) (before ss ts : List Term) → AllZip (Leads R) ss ts → Leads R (node f (before ++ ss)) (node f (before ++ ts))
leads_from R f before [] [] h = leads_to_itself R (node f (before ++ []))
leads_from R f before [] (t ∷ ts) h = absurd h
leads_from R f before (s ∷ ss) [] h = absurd h
leads_from R f before (s ∷ ss) (t ∷ ts) h =
    leads_are_transitive R (node f (before ++ s ∷ ss)) (node f (before ++ t ∷ ss)) (node f (before ++ t ∷ ts)) (leads_inside R f before ss s t h.0)
    (subst (λ l. Leads R (node f l) (node f (before ++ t ∷ ts))) (one_further before t ss)
    (subst (λ l. Leads R (node f ((before ++ t ∷ []) ++ ss)) (node f l)) (one_further before t ts) (leads_from R f (before ++ t ∷ []) ss ts h.1)))

pub arguments_lead : ArgumentsLead
arguments_lead R f ss ts h = leads_from R f [] ss ts h

-- ---- more rules

behind : {X : Type 0} (xs ys : List X) (i : ℕ) (x : X) → slice_get ys i ≡ Some x → (j : ℕ) × (slice_get (xs ++ ys) j ≡ Some x)
behind [] ys i x e = (i, e)
behind (y ∷ xs) ys i x e = let h = behind xs ys i x e in (suc h.0, h.1)

step_behind : (R later : List RewriteRule) {s t : Term} → Step later s t → Step (R ++ later) s t
step_behind R later (at_root i h) = let k = behind R later i h.rule h.is_rule in at_root k.0 (record { rule = h.rule; is_rule = k.1; θ = h.θ; from = h.from; to = h.to })
step_behind R later (inside f before after h) = inside f before after (step_behind R later h)

pub equal_is_modulo : EqualIsModulo
equal_is_modulo R E = leads_gives (Modulo R E) (leads_to_itself (R ++ both_ways E)) (λ s t u h l. step_on (step_behind R (both_ways E) h) l)

pub leads_is_modulo : LeadsIsModulo
leads_is_modulo R E = leads_gives (Modulo R E) (leads_to_itself (R ++ both_ways E)) (λ s t u h l. step_on (step_kept R (both_ways E) h) l)

-- ---- both ways

abbrev turned : RewriteRule → RewriteRule
turned r = record { left = r.right; right = r.left; vars = r.vars }

abbrev Place : List RewriteEquation → RewriteRule → Type 0
Place E r = (j : ℕ) × (slice_get (both_ways E) j ≡ Some r)

other_way : (E : List RewriteEquation) (i : ℕ) (r : RewriteRule) → slice_get (both_ways E) i ≡ Some r → Place E (turned r)
other_way [] i r e = cc
other_way (x ∷ E) zero r e =
    let same : onwards x ≡ r = cc in
    (1, ap (λ (r : RewriteRule). Some (turned r)) same)
other_way (x ∷ E) (suc zero) r e =
    let same : backwards x ≡ r = cc in
    (0, ap (λ (r : RewriteRule). Some (turned r)) same)
other_way (x ∷ E) (suc (suc i)) r e = let h = other_way E i r e in (suc (suc h.0), h.1)

step_back : (E : List RewriteEquation) {s t : Term} → Step (both_ways E) s t → Step (both_ways E) t s
step_back E (at_root i h) = let o = other_way E i h.rule h.is_rule in at_root o.0 (record { rule = turned h.rule; is_rule = o.1; θ = h.θ; from = h.to; to = h.from })
step_back E (inside f before after h) = inside f before after (step_back E h)

pub equal_is_symmetric : EqualIsSymmetric
equal_is_symmetric E = leads_gives (λ s t. EqualModulo E t s) (leads_to_itself (both_ways E)) (λ s t u h l.
    leads_are_transitive (both_ways E) u t s l (steps_lead (both_ways E) t s (step_back E h)))

-- an equation of the list is among them
place_of : (E : List RewriteEquation) (e : RewriteEquation) → Contains E e → Place E (onwards e)
place_of [] e c = absurd (none e c)
place_of (x ∷ E) e c =
    ⊎_elim (λ same. (0, ap (λ (x : RewriteEquation). Some (onwards x)) same)) (λ later. let h = place_of E e later in (suc (suc h.0), h.1)) (parts x e E c)

pub sides_are_equal : SidesAreEqual
sides_are_equal E e θ c =
    let h = place_of E e c in
    let s : Term = instance_of θ e.left in
    let t : Term = instance_of θ e.right in
    steps_lead (both_ways E) s t (at_root h.0 (record { rule = onwards e; is_rule = h.1; θ = θ; from = refl; to = refl }))
