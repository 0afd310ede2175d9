-- Steps at positions are steps and the other way round, and chains append: for proofs, what laws of the rules say of calls.
use Rattle.std.proofs.Common.{List, [], ◌∷◌, ◌++◌, length, ◌+◌, refl, sym, subst}
use Rattle.ranked_terms.specs.Terms.{node}
use Rattle.ranked_terms.specs.declared.term.Term.{Term}
use Rattle.trs_rules.specs.Rules.{RewriteRule}
use Rattle.trs_rules.specs.Steps.{Step, at_root, inside, Chain, more}
use Rattle.trs_rules.specs.Laws.{PlacedStepsAreSteps, SomeStepAt, StepsArePlaced, ChainsAppend}

pub placed_steps_are_steps : PlacedStepsAreSteps
placed_steps_are_steps R i [] s t h = at_root i h
placed_steps_are_steps R i (k ∷ position) s t h =
    subst (λ x. Step R x t) (sym h.from) (subst (λ y. Step R (node h.sym (h.before ++ h.u ∷ h.after)) y) (sym h.to)
    (inside h.sym h.before h.after (placed_steps_are_steps R i position h.u h.v h.changes)))

placed : (R : List RewriteRule) {s t : Term} → Step R s t → SomeStepAt R s t
placed R (at_root i h) = record { rule = i; position = []; step = h }
placed R (inside {u} {v} f before after h) =
    let r = placed R h in
    record {
      rule = r.rule;
      position = (length before + 1) ∷ r.position;
      step = record { sym = f; before = before; u = u; v = v; after = after; place = refl; from = refl; to = refl; changes = r.step };
    }

pub steps_are_placed : StepsArePlaced
steps_are_placed R s t h = placed R h

appended : (R : List RewriteRule) (after : List Term) (u : Term) → Chain R (u ∷ after) → (x : Term) (before : List Term) → Chain R (x ∷ before ++ u ∷ []) → Chain R (x ∷ before ++ u ∷ after)
appended R after u d x [] (more h c) = more h d
appended R after u d x (y ∷ before) (more h c) = more h (appended R after u d y before c)

pub chains_append : ChainsAppend
chains_append R [] after u c d = d
chains_append R (x ∷ before) after u c d = appended R after u d x before c
