-- The whole pattern of an approximation rule: what it declares exactly.
use Rattle.std.proofs.Common.{◌≡◌, [], ◌∷◌, fold, Some, refl, sym, ap, subst, ◌∙◌, arith}
use Rattle.ranked_terms.specs.Terms.{firsts}
use Rattle.ranked_terms.specs.declared.term.Shape.{Shape}
use Rattle.ta_core.specs.SpecRules.{shape_occurrences}
use Rattle.timbuk_grammar.specs.declared.terminal.Role.TheVariants as role
use Rattle.timbuk_grammar.specs.Trees.{Tree}
use Rattle.spec_text.specs.Declarations.{Declared, any, with_variable}
use Rattle.spec_text.specs.Naming.{shape_in}
use Rattle.spec_text.specs.Reading.{End}
use Rattle.spec_text.proofs.agreement.tokens.Last.{settled}
use Rattle.spec_text.proofs.agreement.patterns.Names.{in_whole}
use Rattle.spec_text.proofs.agreement.patterns.Patterns.{variables_in, PatternFits, pattern_fine}
use Rattle.spec_text.proofs.agreement.patterns.Only.{pattern_only}
use Rattle.spec_text.proofs.agreement.patterns.Shapes.{tree_occurrences}
use Rattle.spec_text.proofs.agreement.rules.Sides as sides
use Rattle.spec_text.proofs.agreement.patterns.Variables.{taken_firsts, taken_few, few_taken}
use Rattle.spec_text.proofs.agreement.approximation.Variables.{IsFew}
use Rattle.spec_text.proofs.agreement.approximation.Rows.{amid, names_at, AreShort}
use Rattle.spec_text.proofs.agreement.approximation.Section.{IsWholePattern, PatternsAreTied}

module _ (d : Declared) (t : Tree role.EntryWhole) where
  abbrev before : Declared
  before = amid d [] [] [] [] any

  same_variables : (s : Shape) → shape_in (names_at d) t ≡ Some s → fold with_variable [] (variables_in (names_at d) t) ≡ firsts (shape_occurrences s)
  same_variables s e = ap (fold with_variable []) (tree_occurrences role.EntryWhole t (names_at d) s e) ∙ taken_firsts [] (shape_occurrences s)

  fits : AreShort d → (s : Shape) → IsWholePattern d t s → PatternFits t before s
  fits short s h = record {
    shape = h.shape;
    nesting = omega (arith, h.nesting);
    short_names = sides.tree_short role.EntryWhole t (names_at d) s short h.shape;
    variables = few_taken role.EntryWhole (λ bound v. refl) (λ bound v. refl) [] (variables_in (names_at d) t) (subst IsFew (sym (same_variables s h.shape)) h.few);
    start = refl;
  }

  whole_pattern : (s : Shape) → PatternFits t before s → IsWholePattern d t s
  whole_pattern s h = record {
    shape = h.shape;
    nesting = omega (arith, h.nesting);
    few = subst IsFew (same_variables s h.shape) (taken_few role.EntryWhole [] (variables_in (names_at d) t) h.variables (omega arith));
  }

  behind : (s : Shape) → shape_in (names_at d) t ≡ Some s → amid d (s ∷ []) (fold with_variable [] (variables_in (names_at d) t)) [] [] any ≡ amid d (s ∷ []) (firsts (shape_occurrences s)) [] [] any
  behind s e = ap (λ vs. amid d (s ∷ []) vs [] [] any) (same_variables s e)

pub patterns_are_tied : (end : End) → PatternsAreTied end
patterns_are_tied end d short t = record {
  fine = λ w rest k. pattern_fine role.EntryWhole t in_whole (before d t) w.0 (fits d t short w.0 w.1) end rest k ∙ ap (λ z. settled end z rest) (behind d t w.0 w.1.shape);
  only = λ rest e k h.
      let a = pattern_only role.EntryWhole t in_whole (before d t) e end rest (omega arith) k h in
      let w = whole_pattern d t a.shape a.fits in
      ((a.shape, w), sym (pattern_fine role.EntryWhole t in_whole (before d t) a.shape a.fits end rest k ∙ ap (λ z. settled end z rest) (behind d t a.shape w.shape)) ∙ h);
}
