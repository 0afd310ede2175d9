-- Shapes: their variables are those of the tree and of the pattern that they are made from, and a pattern is known by its shape.
use Rattle.std.proofs.Common.{◌≡◌, ℕ, zero, suc, List, [], ◌∷◌, ◌++◌, map, refl, ap, sym, ◌∙◌}
use Rattle.std.specs.Prelude.{Option, Some, None, unwrap_or}
use Rattle.std.specs.List.{AllByRecursion}
use Rattle.ranked_terms.specs.Terms.{joined}
use Rattle.ranked_terms.specs.declared.term.Pattern.{Pattern}
use Rattle.ranked_terms.specs.declared.term.Pattern.TheVariants.{Var, App}
use Rattle.ranked_terms.specs.declared.term.Shape.{Shape}
use Rattle.ranked_terms.specs.declared.term.Shape.TheVariants as shape
use Rattle.ranked_terms.specs.declared.term.Shape.TheOpen as layer
use Rattle.ranked_terms.specs.declared.term.Shape.TheViews.{out-Shape, out-roll-Shape}
use Rattle.ranked_terms.specs.lemmas.TermLaws.{pattern_induction}
use Rattle.ta_core.specs.SpecRules.{shape_occurrences}
use Rattle.spec_text.specs.lemmas.Shapes.{occurs_var, occurs_state, occurs_app, shape_of_var, shape_of_app}
use Rattle.timbuk_grammar.specs.declared.terminal.Role.{Role}
use Rattle.timbuk_grammar.specs.Trees.{Tree, Trees, leaf, node, none, comma}
use Rattle.spec_text.specs.Source.{text_of}
use Rattle.spec_text.specs.Naming.{Names, stands_for, leaf_shape, shape_in, shapes_in, shape_of}
use Rattle.spec_text.specs.Declarations.{Meaning, unknown, a_variable, a_state, a_symbol}
use Rattle.spec_text.proofs.agreement.patterns.Steps.{meant_variables}
use Rattle.spec_text.proofs.agreement.patterns.Patterns.{variables_in, variables_among, both_parts, applied_parts}

-- ---- variables of trees

leaf_variables : (m : Meaning) (s : Shape) → leaf_shape m ≡ Some s → meant_variables m ≡ shape_occurrences s
leaf_variables unknown s e = cc
leaf_variables (a_variable v) s e = let is : shape.Var v ≡ s = ap (λ o. unwrap_or o (shape.Var v)) e in sym (occurs_var v) ∙ ap shape_occurrences is
leaf_variables (a_state q) s e = let is : shape.State q ≡ s = ap (λ o. unwrap_or o (shape.State q)) e in sym (occurs_state q) ∙ ap shape_occurrences is
leaf_variables (a_symbol f zero) s e = let is : shape.App f [] ≡ s = ap (λ o. unwrap_or o (shape.App f [])) e in sym (occurs_app f []) ∙ ap shape_occurrences is
leaf_variables (a_symbol f (suc n)) s e = cc

mutual
  pub tree_occurrences : (p : Role) → (v : Tree p) → (names : Names) → (s : Shape) → shape_in names v ≡ Some s → variables_in names v ≡ shape_occurrences s
  tree_occurrences p (leaf n) names s e = leaf_variables (stands_for names (text_of n)) s e
  tree_occurrences p (node n opening first more closing) names s e =
      let a = applied_parts (stands_for names (text_of n)) (shape_in names first) (shapes_in names more) s e in
      (λ i. tree_occurrences p first names a.first a.first_is i ++ more_occurrences p more names a.more a.more_are i)
      ∙ (sym (occurs_app a.sym (a.first ∷ a.more)) ∙ ap shape_occurrences a.is)

  pub more_occurrences : (p : Role) → (vs : Trees p) → (names : Names) → (ss : List Shape) → shapes_in names vs ≡ Some ss → variables_among names vs ≡ joined (map shape_occurrences ss)
  more_occurrences p none names ss e = ap (λ o. joined (map shape_occurrences (unwrap_or o []))) e
  more_occurrences p (comma mark next more) names ss e =
      let a = both_parts (shape_in names next) (shapes_in names more) ss e in
      (λ i. tree_occurrences p next names a.first a.first_is i ++ more_occurrences p more names a.more a.more_are i)
      ∙ ap (λ z. joined (map shape_occurrences z)) a.are

-- ---- patterns by their shapes

abbrev variable_of : layer.Shape-F Shape → Option ℕ
variable_of (layer.Var v) = Some v
variable_of (layer.State q) = None
variable_of (layer.App f ss) = None

abbrev application_of : layer.Shape-F Shape → Option (ℕ × List Shape)
application_of (layer.Var v) = None
application_of (layer.State q) = None
application_of (layer.App f ss) = Some (f, ss)

variable_var : (v : ℕ) → variable_of (out-Shape (shape.Var v)) ≡ Some v
variable_var v = ap (λ s. variable_of (out-Shape s)) (sym (shape.rolls-Var v)) ∙ ap variable_of (out-roll-Shape (layer.Var v))

variable_app : (f : ℕ) (ss : List Shape) → variable_of (out-Shape (shape.App f ss)) ≡ None
variable_app f ss = ap (λ s. variable_of (out-Shape s)) (sym (shape.rolls-App f ss)) ∙ ap variable_of (out-roll-Shape (layer.App f ss))

application_app : (f : ℕ) (ss : List Shape) → application_of (out-Shape (shape.App f ss)) ≡ Some (f, ss)
application_app f ss = ap (λ s. application_of (out-Shape s)) (sym (shape.rolls-App f ss)) ∙ ap application_of (out-roll-Shape (layer.App f ss))

-- a variable is no application
pub var_or_app : (v f : ℕ) (ss : List Shape) → shape.Var v ≡ shape.App f ss → ⊥
var_or_app v f ss e = let h : Some v ≡ None = sym (variable_var v) ∙ (ap (λ s. variable_of (out-Shape s)) e ∙ variable_app f ss) in cc

pub same_variable : (v w : ℕ) → shape.Var v ≡ shape.Var w → v ≡ w
same_variable v w e = let h : Some v ≡ Some w = sym (variable_var v) ∙ (ap (λ s. variable_of (out-Shape s)) e ∙ variable_var w) in cc

pub same_application : (f g : ℕ) (ss ts : List Shape) → shape.App f ss ≡ shape.App g ts → (f ≡ g) × (ss ≡ ts)
same_application f g ss ts e =
    let h : Some (f, ss) ≡ Some (g, ts) = sym (application_app f ss) ∙ (ap (λ s. application_of (out-Shape s)) e ∙ application_app g ts) in
    (ap (λ o. (unwrap_or {T = ℕ × List Shape} o (f, ss)).0) h, ap (λ o. (unwrap_or {T = ℕ × List Shape} o (f, ss)).1) h)

abbrev IsTold : Pattern → Type 0
IsTold p = (q : Pattern) → shape_of p ≡ shape_of q → p ≡ q

all_told : (ps qs : List Pattern) → AllByRecursion IsTold ps → map shape_of ps ≡ map shape_of qs → ps ≡ qs
all_told [] [] h e = refl
all_told [] (q ∷ qs) h e = cc
all_told (p ∷ ps) [] h e = cc
all_told (p ∷ ps) (q ∷ qs) h e =
    let first : shape_of p ≡ shape_of q = cc in
    let rest : map shape_of ps ≡ map shape_of qs = cc in
    (λ i. h.0 q first i ∷ all_told ps qs h.1 rest i)

-- two patterns of one shape are one pattern
pub shape_of-injective : (p q : Pattern) → shape_of p ≡ shape_of q → p ≡ q
shape_of-injective = pattern_induction IsTold
    (λ v. pattern_induction (λ q. shape_of (Var v) ≡ shape_of q → Var v ≡ q)
    (λ w e. ap Var (same_variable v w (sym (shape_of_var v) ∙ (e ∙ shape_of_var w))))
    (λ g qs more e. absurd (var_or_app v g (map shape_of qs) (sym (shape_of_var v) ∙ (e ∙ shape_of_app g qs)))))
    (λ f ps each. pattern_induction (λ q. shape_of (App f ps) ≡ shape_of q → App f ps ≡ q)
    (λ w e. absurd (var_or_app w f (map shape_of ps) (sym (shape_of_var w) ∙ (sym e ∙ shape_of_app f ps))))
    (λ g qs more e.
    let h = same_application f g (map shape_of ps) (map shape_of qs) (sym (shape_of_app f ps) ∙ (e ∙ shape_of_app g qs)) in
    (λ i. App (h.0 i) (all_told ps qs each h.1 i))))
