-- Rules and equations whose sides stand for shapes: there are patterns of these shapes, and they are a rule or an equation.
use Rattle.std.proofs.Common.{◌≡◌, ℕ, zero, suc, ◌≤◌, Bool, true, false, not, List, [], ◌∷◌, ◌++◌, length, fold, map, Some, refl, sym, ap, subst, ◌∙◌, arith}
use Rattle.std.specs.List.{AllZip}
use Rattle.std.proofs.lemmas.Bool.{and_parts, not-true}
use Rattle.std.proofs.lemmas.List.Sums.{fold-append}
use Rattle.std.proofs.lemmas.Option.{same_Some}
use Rattle.ranked_terms.specs.Names.{Symbol}
use Rattle.ranked_terms.specs.Terms.{occurrences, firsts, variables_of}
use Rattle.ranked_terms.specs.declared.term.Pattern.{Pattern}
use Rattle.ranked_terms.specs.declared.term.Pattern.TheVariants.{Var, App}
use Rattle.ranked_terms.specs.declared.term.Shape.{Shape}
use Rattle.ranked_terms.specs.declared.term.Shape.TheVariants as shape
use Rattle.trs_rules.specs.Rules.{RewriteRule, RewriteEquation, IsVariable, IsRule}
use Rattle.trs_rules.specs.lemmas.RuleLaws.{linear_from_none, bound_from_none}
use Rattle.timbuk_grammar.specs.declared.terminal.Role.{Role}
use Rattle.timbuk_grammar.specs.declared.terminal.Role.TheVariants as role
use Rattle.timbuk_grammar.specs.Grammar.{rule, equation}
use Rattle.timbuk_grammar.specs.Trees.{Value, Tree, Trees, leaf, node, none, comma}
use Rattle.spec_text.specs.Declarations.{Text, Meaning, unknown, a_variable, a_state, a_symbol, with_variable}
use Rattle.spec_text.specs.Source.{text_of, rule_of, equation_of}
use Rattle.spec_text.specs.Naming.{Names, stands_for, leaf_shape, shape_in, shapes_in, shape_of}
use Rattle.spec_text.specs.SpecText.{IsRuleFrom, IsEquationFrom}
use Rattle.spec_text.proofs.existence.Shapes.{IsMeant, meant}
use Rattle.spec_text.specs.lemmas.Variables.{Binds, left_binds, right_binds}
use Rattle.spec_text.proofs.agreement.rules.Equations.{EquationShape}
use Rattle.spec_text.proofs.agreement.patterns.Fits.{is_twice, is_crowded, takes, is_variable}
use Rattle.spec_text.proofs.agreement.patterns.Patterns.{variables_in, all_taken, first_meaning, both_parts, applied_parts}
use Rattle.spec_text.proofs.agreement.rules.Rules.{RuleShape}
use Rattle.spec_text.proofs.agreement.sections.States.{names_of_sides}
use Rattle.spec_text.proofs.agreement.patterns.Shapes.{tree_occurrences, var_or_app}
use Rattle.spec_text.specs.lemmas.Shapes.{shape_of_var, shape_of_app, same_occurrences}
use Rattle.spec_text.proofs.agreement.patterns.Variables.{taken_firsts, taken_few}

-- ---- variables that are taken are bound

binds_left : (bound vs : List ℕ) → all_taken role.LeftSide bound [] vs ≡ true → Binds role.LeftSide bound vs (fold with_variable bound vs)
binds_left bound [] e = refl
binds_left bound (v ∷ vs) e =
    let k = and_parts (takes role.LeftSide bound [] v) _ e in
    let l = and_parts (not (is_crowded bound [] v)) _ k.0 in
    (not-true _ (and_parts (not (is_twice role.LeftSide bound v)) _ l.1).0, binds_left (with_variable bound v) vs k.1)

twice_not : (b : Bool) → not (not b) ≡ true → b ≡ true
twice_not true e = refl
twice_not false e = cc

binds_right : (bound vs : List ℕ) → all_taken role.RightSide bound [] vs ≡ true → Binds role.RightSide bound vs (fold with_variable bound vs)
binds_right bound [] e = refl
binds_right bound (v ∷ vs) e =
    let k = and_parts (takes role.RightSide bound [] v) _ e in
    let l = and_parts (not (is_crowded bound [] v)) _ k.0 in
    (twice_not _ (and_parts (not (is_twice role.RightSide bound v)) _ l.1).1, binds_right (with_variable bound v) vs k.1)

-- ---- patterns

-- the pattern that has this shape
abbrev pub HasShape : Shape → Type 0
HasShape s = (q : Pattern) × (shape_of q ≡ s)

abbrev HaveShapes : List Shape → Type 0
HaveShapes ss = (qs : List Pattern) × (map shape_of qs ≡ ss)

one_more : (s : Shape) (ss : List Shape) → HasShape s → HaveShapes ss → HaveShapes (s ∷ ss)
one_more s ss h k = (h.0 ∷ k.0, λ i. h.1 i ∷ k.1 i)

applied : (f : ℕ) (ss : List Shape) → HaveShapes ss → HasShape (shape.App f ss)
applied f ss k = (App f k.0, shape_of_app f k.0 ∙ ap (shape.App f) k.1)

module _ (symbols : List Symbol) (variables : List Text) where
  abbrev names : Names
  names = names_of_sides symbols variables

  leaf_pattern : (m : Meaning) (s : Shape) → IsMeant names m → leaf_shape m ≡ Some s → HasShape s
  leaf_pattern unknown s k e = cc
  leaf_pattern (a_variable v) s k e = (Var v, shape_of_var v ∙ same_Some (shape.Var v) s e)
  leaf_pattern (a_state q) s k e = absurd (omega (arith, k))
  leaf_pattern (a_symbol f zero) s k e = subst HasShape (same_Some (shape.App f []) s e) (applied f [] ([], refl))
  leaf_pattern (a_symbol f (suc n)) s k e = cc

  mutual
    tree_pattern : (p : Role) → (v : Tree p) → (s : Shape) → shape_in names v ≡ Some s → HasShape s
    tree_pattern p (leaf n) s e = leaf_pattern (stands_for names (text_of n)) s (meant names (text_of n)) e
    tree_pattern p (node n opening first more closing) s e =
        let a = applied_parts (stands_for names (text_of n)) (shape_in names first) (shapes_in names more) s e in
        subst HasShape a.is (applied a.sym (a.first ∷ a.more) (one_more a.first a.more (tree_pattern p first a.first a.first_is) (tree_patterns p more a.more a.more_are)))

    tree_patterns : (p : Role) → (vs : Trees p) → (ss : List Shape) → shapes_in names vs ≡ Some ss → HaveShapes ss
    tree_patterns p none ss e = ([], same_Some [] ss e)
    tree_patterns p (comma mark next more) ss e =
        let a = both_parts (shape_in names next) (shapes_in names more) ss e in
        subst HaveShapes a.are (one_more a.first a.more (tree_pattern p next a.first a.first_is) (tree_patterns p more a.more a.more_are))

  -- ---- a left side that is no variable

  leaf_variable : (m : Meaning) (w : ℕ) → IsMeant names m → leaf_shape m ≡ Some (shape.Var w) → is_variable m ≡ true
  leaf_variable unknown w k e = cc
  leaf_variable (a_variable v) w k e = refl
  leaf_variable (a_state q) w k e = absurd (omega (arith, k))
  leaf_variable (a_symbol f zero) w k e = absurd (var_or_app w f [] (sym (same_Some (shape.App f []) (shape.Var w) e)))
  leaf_variable (a_symbol f (suc n)) w k e = cc

  first_variable : {p : Role} (v : Tree p) (w : ℕ) → shape_in names v ≡ Some (shape.Var w) → is_variable (first_meaning names v) ≡ true
  first_variable (leaf n) w e = leaf_variable (stands_for names (text_of n)) w (meant names (text_of n)) e
  first_variable (node n opening first more closing) w e =
      let a = applied_parts (stands_for names (text_of n)) (shape_in names first) (shapes_in names more) (shape.Var w) e in
      absurd (var_or_app w a.sym (a.first ∷ a.more) (sym a.is))

  no_variable : {p : Role} (v : Tree p) (q : Pattern) → shape_in names v ≡ Some (shape_of q) → is_variable (first_meaning names v) ≡ false → IsVariable q → ⊥
  no_variable v q e other h =
      let is : shape_of q ≡ shape.Var h.0 = ap shape_of h.1 ∙ shape_of_var h.0 in
      let yes : is_variable (first_meaning names v) ≡ true = first_variable v h.0 (e ∙ ap Some is) in
      cc

  -- ---- rules

  module _ (v : Value rule) (sides : Shape × Shape) (h : RuleShape names v sides) (l : HasShape sides.0) (r : HasShape sides.1) where
    left_is : shape_in names v.0 ≡ Some (shape_of l.0)
    left_is = h.left ∙ ap Some (sym l.1)

    right_is : shape_in names v.1.1 ≡ Some (shape_of r.0)
    right_is = h.right ∙ ap Some (sym r.1)

    lefts : variables_in names v.0 ≡ occurrences l.0
    lefts = tree_occurrences role.LeftSide v.0 names (shape_of l.0) left_is ∙ sym (same_occurrences l.0)

    rights : variables_in names v.1.1 ≡ occurrences r.0
    rights = tree_occurrences role.RightSide v.1.1 names (shape_of r.0) right_is ∙ sym (same_occurrences r.0)

    lefts_taken : all_taken role.LeftSide [] [] (occurrences l.0) ≡ true
    lefts_taken = ap (all_taken role.LeftSide [] []) (sym lefts) ∙ h.left_variables

    rights_taken : all_taken role.RightSide (fold with_variable [] (occurrences l.0)) [] (occurrences r.0) ≡ true
    rights_taken = (λ i. all_taken role.RightSide (fold with_variable [] (sym lefts i)) [] (sym rights i)) ∙ h.right_variables

    is_rule : IsRule (record { left = l.0; right = r.0; vars = variables_of l.0 })
    is_rule =
        let once = left_binds [] (occurrences l.0) _ (binds_left [] (occurrences l.0) lefts_taken) in
        let bound : all_taken role.RightSide (occurrences l.0) [] (occurrences r.0) ≡ true = ap (λ z. all_taken role.RightSide z [] (occurrences r.0)) (sym once.1) ∙ rights_taken in
        record {
          left_is_no_variable = no_variable v.0 l.0 left_is h.no_variable;
          left_is_linear = linear_from_none l.0 once.0;
          right_is_bound = bound_from_none l.0 r.0 (right_binds (occurrences l.0) (occurrences r.0) _ (binds_right (occurrences l.0) (occurrences r.0) bound)).0;
          vars_are = refl;
          vars_are_few = subst (λ z. length z ≤ 16) (taken_firsts [] (occurrences l.0)) (taken_few role.LeftSide [] (occurrences l.0) lefts_taken (omega arith));
        }

    rule_by : (rule : RewriteRule) × IsRuleFrom names (rule_of v) rule
    rule_by = (
      record { left = l.0; right = r.0; vars = variables_of l.0 },
      record { left = left_is; right = right_is; left_nesting = h.left_nesting; right_nesting = h.right_nesting; is_rule = is_rule },
    )

  pub rules_made : (vs : List (Value rule)) (sides : List (Shape × Shape)) → AllZip (RuleShape names) vs sides → (rs : List RewriteRule) × AllZip (IsRuleFrom names) (map rule_of vs) rs
  rules_made [] [] h = ([], tt)
  rules_made [] (s ∷ sides) h = absurd h
  rules_made (v ∷ vs) [] h = absurd h
  rules_made (v ∷ vs) (s ∷ sides) h =
      let r = rule_by v s h.0 (tree_pattern role.LeftSide v.0 s.0 h.0.left) (tree_pattern role.RightSide v.1.1 s.1 h.0.right) in
      let rest = rules_made vs sides h.1 in
      (r.0 ∷ rest.0, (r.1, rest.1))

  -- ---- equations

  equation_by : (v : Value equation) (sides : Shape × Shape) → EquationShape names v sides → HasShape sides.0 → HasShape sides.1 → (equation : RewriteEquation) × IsEquationFrom names (equation_of v) equation
  equation_by v sides h l r =
      let left_is : shape_in names v.0 ≡ Some (shape_of l.0) = h.left ∙ ap Some (sym l.1) in
      let right_is : shape_in names v.1.1 ≡ Some (shape_of r.0) = h.right ∙ ap Some (sym r.1) in
      let lefts : variables_in names v.0 ≡ occurrences l.0 = tree_occurrences role.EquationLeft v.0 names (shape_of l.0) left_is ∙ sym (same_occurrences l.0) in
      let rights : variables_in names v.1.1 ≡ occurrences r.0 = tree_occurrences role.EquationRight v.1.1 names (shape_of r.0) right_is ∙ sym (same_occurrences r.0) in
      let left = fold with_variable [] (occurrences l.0) in
      let few_left : length left ≤ 16 = taken_few role.EquationLeft [] (occurrences l.0) (ap (all_taken role.EquationLeft [] []) (sym lefts) ∙ h.left_variables) (omega arith) in
      let few : length (fold with_variable left (occurrences r.0)) ≤ 16 =
      taken_few role.EquationRight left (occurrences r.0) ((λ i. all_taken role.EquationRight (fold with_variable [] (sym lefts i)) [] (sym rights i)) ∙ h.right_variables) few_left in
      let all : fold with_variable left (occurrences r.0) ≡ firsts (occurrences l.0 ++ occurrences r.0) =
      sym (fold-append with_variable [] (occurrences l.0) (occurrences r.0)) ∙ taken_firsts [] (occurrences l.0 ++ occurrences r.0) in (
        record { left = l.0; right = r.0; vars = firsts (occurrences l.0 ++ occurrences r.0) },
        record {
          left = left_is;
          right = right_is;
          left_nesting = h.left_nesting;
          right_nesting = h.right_nesting;
          is_equation = record { vars_are = refl; vars_are_few = subst (λ z. length z ≤ 16) all few };
        },
      )

  pub equations_made : (vs : List (Value equation)) (sides : List (Shape × Shape)) → AllZip (EquationShape names) vs sides → (qs : List RewriteEquation) × AllZip (IsEquationFrom names) (map equation_of vs) qs
  equations_made [] [] h = ([], tt)
  equations_made [] (s ∷ sides) h = absurd h
  equations_made (v ∷ vs) [] h = absurd h
  equations_made (v ∷ vs) (s ∷ sides) h =
      let q = equation_by v s h.0 (tree_pattern role.EquationLeft v.0 s.0 h.0.left) (tree_pattern role.EquationRight v.1.1 s.1 h.0.right) in
      let rest = equations_made vs sides h.1 in
      (q.0 ∷ rest.0, (q.1, rest.1))
