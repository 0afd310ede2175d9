-- Steps at positions are steps and the other way round; chains append.
use Rattle.std.proofs.Common.{◌≡◌, ◌≢◌, ℕ, zero, suc, ◌+◌, ◌-◌, List, [], ◌∷◌, ◌++◌, length, slice_get, Some, refl, sym, ap, subst, ◌∙◌}
use Rattle.ranked_terms.specs.Terms.{node}
use Rattle.ranked_terms.specs.declared.term.Term.{Term}
use Rattle.trs_rules.specs.Rules.{RewriteRule}
use Rattle.trs_rules.specs.Steps.{Step, at_root, inside, Chain, one, more, Leads}
use Rattle.list_laws.proofs.Ends.{last_append, cut_last, first_append}
use Rattle.trs_rules.specs.Laws.{PlacedStepsAreSteps, SomeStepAt, StepsArePlaced, ChainsAreTheirSteps, ChainsAppend, LeadsToItself, StepsLead, LeadsAreTransitive, MoreRulesKeepSteps}

-- ---- steps

pub placed_steps_are_steps : PlacedStepsAreSteps
placed_steps_are_steps R i [] s t h = at_root i h
placed_steps_are_steps R i (k ∷ position) s t h =
    subst (λ x. Step R x t) (sym h.from) (subst (λ y. Step R (node h.sym (h.before ++ h.u ∷ h.after)) y) (sym h.to)
    (inside h.sym h.before h.after (placed_steps_are_steps R i position h.u h.v h.changes)))

pub step_is_placed : (R : List RewriteRule) {s t : Term} → Step R s t → SomeStepAt R s t
step_is_placed R (at_root i h) = record { rule = i; position = []; step = h }
step_is_placed R (inside {u} {v} f before after h) =
    let r = step_is_placed R h in
    record {
      rule = r.rule;
      position = (length before + 1) ∷ r.position;
      step = record { sym = f; before = before; u = u; v = v; after = after; place = refl; from = refl; to = refl; changes = r.step };
    }

pub steps_are_placed : StepsArePlaced
steps_are_placed R s t h = step_is_placed R h

slice_get-append : {A : Type 0} (xs ys : List A) (i : ℕ) (x : A) → slice_get xs i ≡ Some x → slice_get (xs ++ ys) i ≡ Some x
slice_get-append [] ys i x e = cc
slice_get-append (y ∷ xs) ys zero x e = e
slice_get-append (y ∷ xs) ys (suc i) x e = slice_get-append xs ys i x e

pub step_kept : (R later : List RewriteRule) {s t : Term} → Step R s t → Step (R ++ later) s t
step_kept R later (at_root i h) = at_root i (record { rule = h.rule; is_rule = slice_get-append R later i h.rule h.is_rule; θ = h.θ; from = h.from; to = h.to })
step_kept R later (inside f before after h) = inside f before after (step_kept R later h)

pub more_rules_keep_steps : MoreRulesKeepSteps
more_rules_keep_steps R later s t h = step_kept R later h

-- ---- chains

pub chain_is_some : (R : List RewriteRule) {ts : List Term} → Chain R ts → ts ≢ []
chain_is_some R (one t) = λ e. cc
chain_is_some R (more h c) = λ e. cc

-- the terms of a chain step to the next
pub chain_neighbours : (R : List RewriteRule) {ts : List Term} → Chain R ts → (before after : List Term) (s t : Term) → ts ≡ before ++ s ∷ t ∷ after → Step R s t
chain_neighbours R (one x) [] after s t e = cc
chain_neighbours R (one x) (b ∷ []) after s t e = cc
chain_neighbours R (one x) (b ∷ c ∷ before) after s t e = cc
chain_neighbours R (more {s = x} {t = y} {ts = ts} h c) [] after s t e =
    let p : x ≡ s = cc in
    let q : y ≡ t = cc in
    subst (λ z. Step R z t) p (subst (λ z. Step R x z) q h)
chain_neighbours R (more {s = x} {t = y} {ts = ts} h c) (b ∷ before) after s t e =
    let p : y ∷ ts ≡ before ++ s ∷ t ∷ after = cc in
    chain_neighbours R c before after s t p

pub chain_of_neighbours : (R : List RewriteRule) (x : Term) (ts : List Term) → ((before after : List Term) (s t : Term) → x ∷ ts ≡ before ++ s ∷ t ∷ after → Step R s t) → Chain R (x ∷ ts)
chain_of_neighbours R x [] h = one x
chain_of_neighbours R x (y ∷ ts) h =
    more (h [] ts x y refl) (chain_of_neighbours R y ts (λ before after s t e. h (x ∷ before) after s t (ap (λ zs. x ∷ zs) e)))

neighbours_chain : (R : List RewriteRule) (ts : List Term) → ts ≢ [] → ((before after : List Term) (s t : Term) → ts ≡ before ++ s ∷ t ∷ after → Step R s t) → Chain R ts
neighbours_chain R [] some h = absurd (some refl)
neighbours_chain R (x ∷ ts) some h = chain_of_neighbours R x ts h

pub chains_are_their_steps : ChainsAreTheirSteps
chains_are_their_steps R ts = (λ c. (chain_is_some R c, chain_neighbours R c), λ p. neighbours_chain R ts p.0 p.1)

chain_append : (R : List RewriteRule) (after : List Term) (u : Term) → Chain R (u ∷ after) → (x : Term) (before : List Term) → Chain R (x ∷ before ++ u ∷ []) → Chain R (x ∷ before ++ u ∷ after)
chain_append R after u d x [] (more h c) = more h d
chain_append R after u d x (y ∷ before) (more h c) = more h (chain_append R after u d y before c)

pub chains_append : ChainsAppend
chains_append R [] after u c d = d
chains_append R (x ∷ before) after u c d = chain_append R after u d x before c

-- ---- chains that lead somewhere

join_leads : (R : List RewriteRule) (xs ys : List Term) (s t u : Term) → Chain R xs → slice_get xs 0 ≡ Some s → slice_get xs (length xs - 1) ≡ Some t →
    Chain R ys → slice_get ys 0 ≡ Some t → slice_get ys (length ys - 1) ≡ Some u → Leads R s u
join_leads R [] ys s t u c b e d f l = absurd (chain_is_some R c refl)
join_leads R (x ∷ xs) [] s t u c b e d f l = absurd (chain_is_some R d refl)
join_leads R (x ∷ xs) (y ∷ ys) s t u c b e d f l =
    let k = cut_last x xs t e in
    let h : y ≡ t = cc in
    record {
      terms = k.0 ++ t ∷ ys;
      chain = chains_append R k.0 ys t (subst (Chain R) k.1 c) (subst (λ z. Chain R (z ∷ ys)) h d);
      begins = first_append k.0 t ys ∙ (ap (λ zs. slice_get zs 0) (sym k.1) ∙ b);
      ends = last_append k.0 t ys ∙ (ap (λ z. slice_get (z ∷ ys) (length (z ∷ ys) - 1)) (sym h) ∙ l);
    }

pub leads_are_transitive : LeadsAreTransitive
leads_are_transitive R s t u c d = join_leads R c.terms d.terms s t u c.chain c.begins c.ends d.chain d.begins d.ends

pub leads_to_itself : LeadsToItself
leads_to_itself R t = record { terms = t ∷ []; chain = one t; begins = refl; ends = refl }

pub steps_lead : StepsLead
steps_lead R s t h = record { terms = s ∷ t ∷ []; chain = more h (one t); begins = refl; ends = refl }
