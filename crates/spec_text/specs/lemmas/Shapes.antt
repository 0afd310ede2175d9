-- Shapes, one form at a time; and the shapes of patterns, which have the same variables and the same symbols.
-- (Nobody has to believe what stands here: it is proved, for the proofs of this crate and of those above.)
use Rattle.std.proofs.Common.{◌≡◌, ℕ, Bool, true, ◌&&◌, List, [], ◌∷◌, ◌++◌, map, length, refl, ap, sym, ◌∙◌}
use Rattle.std.specs.Prelude.{nat_lt}
use Rattle.std.specs.List.{list_all, AllByRecursion}
use Rattle.std.proofs.lemmas.List.{length-map}
use Rattle.ranked_terms.specs.Names.{Symbol}
use Rattle.ranked_terms.specs.Terms.{is_symbol, pattern_is_over, joined, occurrences}
use Rattle.ranked_terms.specs.declared.term.Pattern.{Pattern}
use Rattle.ranked_terms.specs.declared.term.Pattern.TheOpen as pattern_layer
use Rattle.ranked_terms.specs.declared.term.Pattern.TheVariants as pattern
use Rattle.ranked_terms.specs.declared.term.Pattern.TheFolds.{fold-roll-Pattern}
use Rattle.ranked_terms.specs.declared.term.Shape.{Shape}
use Rattle.ranked_terms.specs.declared.term.Shape.TheOpen as layer
use Rattle.ranked_terms.specs.declared.term.Shape.TheVariants.{Var, State, App, rolls-Var, rolls-State, rolls-App}
use Rattle.ranked_terms.specs.declared.term.Shape.TheFolds.{fold-roll-Shape}
use Rattle.ranked_terms.specs.lemmas.TermLaws.{pattern_induction, occurrences_var, occurrences_app, pattern_is_over_var, pattern_is_over_app}
use Rattle.ta_core.specs.SpecRules.{shape_is_over, shape_is_over_step, shape_is_below, shape_is_below_step, shape_occurrences, shape_occurrences_step}
use Rattle.spec_text.specs.Naming.{shape_of, shape_step}

-- ---- shapes

-- a test of each element
pub each_test : {A : Type 0} (p : A → Bool) (xs : List A) → list_all (λ b. b) (map p xs) ≡ list_all p xs
each_test p [] = refl
each_test p (x ∷ xs) = ap (λ b. p x && b) (each_test p xs)

pub over_var : (signature : List Symbol) (v : ℕ) → shape_is_over signature (Var v) ≡ true
over_var signature v = ap (shape_is_over signature) (sym (rolls-Var v)) ∙ fold-roll-Shape Bool (shape_is_over_step signature) (layer.Var v)

pub over_state : (signature : List Symbol) (q : ℕ) → shape_is_over signature (State q) ≡ true
over_state signature q = ap (shape_is_over signature) (sym (rolls-State q)) ∙ fold-roll-Shape Bool (shape_is_over_step signature) (layer.State q)

pub over_app : (signature : List Symbol) (f : ℕ) (args : List Shape) → shape_is_over signature (App f args) ≡ (is_symbol signature f (length args) && list_all (shape_is_over signature) args)
over_app signature f args =
    ap (shape_is_over signature) (sym (rolls-App f args)) ∙ (fold-roll-Shape Bool (shape_is_over_step signature) (layer.App f args)
    ∙ (λ i. is_symbol signature f (length-map {A = Shape} {B = Bool} args (shape_is_over signature) i) && each_test (shape_is_over signature) args i))

pub below_var : (bound v : ℕ) → shape_is_below bound (Var v) ≡ true
below_var bound v = ap (shape_is_below bound) (sym (rolls-Var v)) ∙ fold-roll-Shape Bool (shape_is_below_step bound) (layer.Var v)

pub below_state : (bound q : ℕ) → shape_is_below bound (State q) ≡ nat_lt q bound
below_state bound q = ap (shape_is_below bound) (sym (rolls-State q)) ∙ fold-roll-Shape Bool (shape_is_below_step bound) (layer.State q)

pub below_app : (bound f : ℕ) (args : List Shape) → shape_is_below bound (App f args) ≡ list_all (shape_is_below bound) args
below_app bound f args = ap (shape_is_below bound) (sym (rolls-App f args)) ∙ fold-roll-Shape Bool (shape_is_below_step bound) (layer.App f args) ∙ each_test (shape_is_below bound) args

pub occurs_var : (v : ℕ) → shape_occurrences (Var v) ≡ v ∷ []
occurs_var v = ap shape_occurrences (sym (rolls-Var v)) ∙ fold-roll-Shape (List ℕ) shape_occurrences_step (layer.Var v)

pub occurs_state : (q : ℕ) → shape_occurrences (State q) ≡ []
occurs_state q = ap shape_occurrences (sym (rolls-State q)) ∙ fold-roll-Shape (List ℕ) shape_occurrences_step (layer.State q)

pub occurs_app : (f : ℕ) (args : List Shape) → shape_occurrences (App f args) ≡ joined (map shape_occurrences args)
occurs_app f args = ap shape_occurrences (sym (rolls-App f args)) ∙ fold-roll-Shape (List ℕ) shape_occurrences_step (layer.App f args)

-- ---- shapes of patterns

pub shape_of_var : (v : ℕ) → shape_of (pattern.Var v) ≡ Var v
shape_of_var v = ap shape_of (sym (pattern.rolls-Var v)) ∙ fold-roll-Pattern Shape shape_step (pattern_layer.Var v)

pub shape_of_app : (f : ℕ) (ps : List Pattern) → shape_of (pattern.App f ps) ≡ App f (map shape_of ps)
shape_of_app f ps = ap shape_of (sym (pattern.rolls-App f ps)) ∙ fold-roll-Pattern Shape shape_step (pattern_layer.App f ps)

abbrev HasVariables : Pattern → Type 0
HasVariables p = occurrences p ≡ shape_occurrences (shape_of p)

each_same : (ps : List Pattern) → AllByRecursion HasVariables ps → joined (map occurrences ps) ≡ joined (map shape_occurrences (map shape_of ps))
each_same [] h = refl
each_same (p ∷ ps) h = λ i. h.0 i ++ each_same ps h.1 i

-- a pattern has the variables of its shape
pub same_occurrences : (p : Pattern) → occurrences p ≡ shape_occurrences (shape_of p)
same_occurrences = pattern_induction HasVariables
    (λ v. occurrences_var v ∙ sym (ap shape_occurrences (shape_of_var v) ∙ occurs_var v))
    (λ f ps h. occurrences_app f ps ∙ each_same ps h ∙ sym (ap shape_occurrences (shape_of_app f ps) ∙ occurs_app f (map shape_of ps)))

each_over : (signature : List Symbol) (ps : List Pattern) → AllByRecursion (λ p. pattern_is_over signature p ≡ shape_is_over signature (shape_of p)) ps → list_all (pattern_is_over signature) ps ≡ list_all (shape_is_over signature) (map shape_of ps)
each_over signature [] h = refl
each_over signature (p ∷ ps) h = λ i. h.0 i && each_over signature ps h.1 i

-- and is over the same signatures
pub same_over : (signature : List Symbol) (p : Pattern) → pattern_is_over signature p ≡ shape_is_over signature (shape_of p)
same_over signature = pattern_induction (λ p. pattern_is_over signature p ≡ shape_is_over signature (shape_of p))
    (λ v. pattern_is_over_var signature v ∙ sym (ap (shape_is_over signature) (shape_of_var v) ∙ over_var signature v))
    (λ f ps h. pattern_is_over_app signature f ps
    ∙ (λ i. is_symbol signature f (sym (length-map ps shape_of) i) && each_over signature ps h i)
    ∙ sym (ap (shape_is_over signature) (shape_of_app f ps) ∙ over_app signature f (map shape_of ps)))
