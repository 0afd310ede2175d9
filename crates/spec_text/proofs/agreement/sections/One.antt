-- One section of a text against the judge.
use Rattle.std.proofs.Common.{◌≡◌, ◌+◌, ◌<◌, ◌≤◌, List, [], ◌∷◌, ◌++◌, length, map, Some, Ok, Err, All, refl, sym, ap, ◌∙◌, arith}
use Rattle.std.specs.Prelude.{flat_map}
use Rattle.std.specs.List.{AllZip, IsDistinct}
use Rattle.std.specs.Str.{bytes_eq}
use Rattle.std.proofs.lemmas.Bool.{leb-false, lt-leb}
use Rattle.std.proofs.lemmas.Slice.Zip.{AllZip-long}
use Rattle.ranked_terms.specs.Names.{names_of}
use Rattle.ranked_terms.specs.declared.term.Shape.{Shape}
use Rattle.trs_rules.specs.Rules.{RewriteRule, RewriteEquation}
use Rattle.timbuk_grammar.specs.declared.terminal.Terminal.TheVariants as terminal
use Rattle.timbuk_grammar.specs.Grammar as grammar
use Rattle.timbuk_grammar.specs.Trees.{Token, Value}
use Rattle.spec_text.specs.Declarations.{Declared, Last, any, leaf, constant, function, no_automaton, current, adds}
use Rattle.spec_text.specs.Source.{RuleDeclaration, EquationDeclaration, text_of, rule_of, equation_of, automaton_of}
use Rattle.spec_text.specs.Naming.{IsShort, Names, shape_in, nesting_in}
use Rattle.spec_text.specs.SpecText.{IsRuleFrom, IsEquationFrom}
use Rattle.spec_text.specs.Rows.{passed}
use Rattle.spec_text.specs.Reading.{Outcome, End}
use Rattle.spec_text.proofs.agreement.tokens.Labels.{Label, label, labelled, judge}
use Rattle.spec_text.specs.Reading.{settled as calm}
use Rattle.spec_text.proofs.agreement.tokens.Last.{IsQuiet, NotOpening, calm_judge}
use Rattle.spec_text.proofs.agreement.rules.Sides as sides
use Rattle.spec_text.proofs.agreement.rules.Sides.{rule_names}
use Rattle.spec_text.proofs.agreement.rules.Rules.{RuleShape, rules_only, rules_behind, rule_sides, rules_spelled}
use Rattle.spec_text.proofs.agreement.rules.Equations.{EquationShape, equations_only, equations_behind, equation_sides, equations_spelled}
use Rattle.spec_text.proofs.agreement.tokens.Runs.{when-false, when_none, row_parts}
use Rattle.spec_text.proofs.agreement.names.Rows.{IsResting, row_at_rest, misnamed_plain}
use Rattle.spec_text.proofs.agreement.names.States.{between}
use Rattle.spec_text.proofs.agreement.tokens.Paths.{Path, path-fine, path-only}
use Rattle.spec_text.proofs.agreement.automata.States.{put}
use Rattle.spec_text.proofs.agreement.automata.Section.{IsAllowedAutomaton, started_by, next_automaton, last_of, last_of-resting, automaton_path}
use Rattle.spec_text.proofs.agreement.tokens.Exact.{reads, Whatever, IsTied, one_token, in_turn}
use Rattle.spec_text.proofs.agreement.approximation.Section.{closed, title_tied, rules_word_tied}

-- ---- the words that begin sections

module _ {end : End} (d : Declared) where
  system_word_tied : (v : Token terminal.Trs) → IsTied end Whatever (closed d) (label v ∷ []) (d.systems < 1) (λ w. closed (record d { systems = d.systems + 1 }))
  unfolding adds passed
  system_word_tied v = one_token (closed d) v (d.systems < 1)
      (λ w. row_at_rest terminal.Trs (closed d) v.lexeme (record { applications = refl; last = tt }) refl refl v.matched (when-false _ _ (lt-leb _ _ w)) (misnamed_plain terminal.Trs v.lexeme.text (closed d) refl))
      (λ h. leb-false _ _ (when_none _ _ (row_parts terminal.Trs (closed d) v.lexeme h).limits))

  equations_word_tied : (v : Token terminal.Equations) → IsTied end Whatever (closed d) (label v ∷ []) (d.equation_sections < 1) (λ w. closed (record d { equation_sections = d.equation_sections + 1 }))
  unfolding adds passed
  equations_word_tied v = one_token (closed d) v (d.equation_sections < 1)
      (λ w. row_at_rest terminal.Equations (closed d) v.lexeme (record { applications = refl; last = tt }) refl refl v.matched (when-false _ _ (lt-leb _ _ w)) (misnamed_plain terminal.Equations v.lexeme.text (closed d) refl))
      (λ h. leb-false _ _ (when_none _ _ (row_parts terminal.Equations (closed d) v.lexeme h).limits))

-- ---- a rewriting system

-- one system more
abbrev pub with_system : Declared → List (Shape × Shape) → Declared
with_system d rules = record d { systems = d.systems + 1; rules = d.rules ++ rules }

-- what the sides of a rule stand for
pub record AreRuleSides (names : Names) (d : RuleDeclaration) (rule : Shape × Shape) : Type 0 where
  pub left : shape_in names d.left ≡ Some rule.0
  pub right : shape_in names d.right ≡ Some rule.1
  pub left_nesting : nesting_in d.left ≤ 100
  pub right_nesting : nesting_in d.right ≤ 100

sides_of_rules : (names : Names) (vs : List (Value grammar.rule)) (rules : List (Shape × Shape)) → AllZip (RuleShape names) vs rules → AllZip (AreRuleSides names) (map rule_of vs) rules
sides_of_rules names [] [] h = tt
sides_of_rules names [] (r ∷ rules) h = absurd h
sides_of_rules names (v ∷ vs) [] h = absurd h
sides_of_rules names (v ∷ vs) (r ∷ rules) h =
    (record { left = h.0.left; right = h.0.right; left_nesting = h.0.left_nesting; right_nesting = h.0.right_nesting }, sides_of_rules names vs rules h.1)

pub record SystemOnly (end : End) (d : Declared) (v : Value grammar.system) (rest : List Label) (e : Declared) : Type 0 where
  pub room : d.systems < 1
  pub title : IsShort (text_of v.1.0)
  pub sides : List (Shape × Shape)
  pub rules : AllZip (AreRuleSides (rule_names d)) (map rule_of v.1.1) sides
  pub few : length d.rules + length sides ≤ 4096
  pub behind : reads end (closed (with_system d sides)) rest ≡ Ok e

module _ (end : End) (d : Declared) (v : Value grammar.system) where
  pub system_front : IsTied end Whatever (closed d) ((label v.0 ∷ []) ++ (label v.1.0 ∷ [])) ((w : d.systems < 1) × IsShort (text_of v.1.0)) (λ w. closed (record d { systems = d.systems + 1 }))
  system_front = in_turn (system_word_tied d v.0) (λ w. title_tied (record d { systems = d.systems + 1 }) v.1.0)

  pub system_fine : (rs : List RewriteRule) → sides.AreShort (rule_names d) → d.systems < 1 → IsShort (text_of v.1.0) → AllZip (IsRuleFrom (rule_names d)) (map rule_of v.1.1) rs → length d.rules + length rs ≤ 4096
      → (rest : List Label) → NotOpening rest → reads end (closed d) (labelled grammar.system v ++ rest) ≡ reads end (closed (with_system d (map rule_sides rs))) rest
  system_fine rs short room title h few rest clear =
      system_front.fine (room, title) (flat_map (labelled grammar.rule) v.1.1 ++ rest) tt
      ∙ rules_spelled v.1.1 (closed (record d { systems = d.systems + 1 })) rs short h few end rest clear

  pub system_only : (rest : List Label) (e : Declared) → length d.rules ≤ 4096 → NotOpening rest → reads end (closed d) (labelled grammar.system v ++ rest) ≡ Ok e → SystemOnly end d v rest e
  system_only rest e few clear h =
      let d1 = closed (record d { systems = d.systems + 1 }) in
      let a = system_front.only (flat_map (labelled grammar.rule) v.1.1 ++ rest) e tt h in
      let b = rules_only v.1.1 d1 e end rest few clear a.1 in
      let c = sides_of_rules (rule_names d) v.1.1 b.sides b.shapes in
      record { room = a.0.0; title = a.0.1; sides = b.sides; rules = c; few = omega (arith, b.room, AllZip-long (RuleShape (rule_names d)) v.1.1 b.sides b.shapes); behind = rules_behind v.1.1 d1 e end rest clear b a.1 }

-- ---- equations

-- one section of equations more
abbrev pub with_equations_section : Declared → List (Shape × Shape) → Declared
with_equations_section d equations = record d { equation_sections = d.equation_sections + 1; equations = d.equations ++ equations }

-- what the sides of an equation stand for
pub record AreEquationSides (names : Names) (d : EquationDeclaration) (equation : Shape × Shape) : Type 0 where
  pub left : shape_in names d.left ≡ Some equation.0
  pub right : shape_in names d.right ≡ Some equation.1
  pub left_nesting : nesting_in d.left ≤ 100
  pub right_nesting : nesting_in d.right ≤ 100

sides_of_equations : (names : Names) (vs : List (Value grammar.equation)) (equations : List (Shape × Shape)) → AllZip (EquationShape names) vs equations → AllZip (AreEquationSides names) (map equation_of vs) equations
sides_of_equations names [] [] h = tt
sides_of_equations names [] (r ∷ equations) h = absurd h
sides_of_equations names (v ∷ vs) [] h = absurd h
sides_of_equations names (v ∷ vs) (r ∷ equations) h =
    (record { left = h.0.left; right = h.0.right; left_nesting = h.0.left_nesting; right_nesting = h.0.right_nesting }, sides_of_equations names vs equations h.1)

pub record EquationsSectionOnly (end : End) (d : Declared) (v : Value grammar.equations) (rest : List Label) (e : Declared) : Type 0 where
  pub room : d.equation_sections < 1
  pub title : IsShort (text_of v.1.0)
  pub sides : List (Shape × Shape)
  pub equations : AllZip (AreEquationSides (rule_names d)) (map equation_of v.1.1.1) sides
  pub few : length d.equations + length sides ≤ 1024
  pub behind : reads end (closed (with_equations_section d sides)) rest ≡ Ok e

module _ (end : End) (d : Declared) (v : Value grammar.equations) where
  pub equations_front : IsTied end Whatever (closed d) ((label v.0 ∷ []) ++ ((label v.1.0 ∷ []) ++ (label v.1.1.0 ∷ []))) ((w : d.equation_sections < 1) × (IsShort (text_of v.1.0) × Unit {0})) (λ w. closed (record d { equation_sections = d.equation_sections + 1 }))
  equations_front =
      let d1 = record d { equation_sections = d.equation_sections + 1 } in
      in_turn (equations_word_tied d v.0) (λ w. in_turn (title_tied d1 v.1.0) (λ u. rules_word_tied d1 v.1.1.0))

  pub equations_section_fine : (qs : List RewriteEquation) → sides.AreShort (rule_names d) → d.equation_sections < 1 → IsShort (text_of v.1.0) → AllZip (IsEquationFrom (rule_names d)) (map equation_of v.1.1.1) qs → length d.equations + length qs ≤ 1024
      → (rest : List Label) → NotOpening rest → reads end (closed d) (labelled grammar.equations v ++ rest) ≡ reads end (closed (with_equations_section d (map equation_sides qs))) rest
  equations_section_fine qs short room title h few rest clear =
      equations_front.fine (room, (title, tt)) (flat_map (labelled grammar.equation) v.1.1.1 ++ rest) tt
      ∙ equations_spelled v.1.1.1 (closed (record d { equation_sections = d.equation_sections + 1 })) qs short h few end rest clear

  pub equations_section_only : (rest : List Label) (e : Declared) → length d.equations ≤ 1024 → NotOpening rest → reads end (closed d) (labelled grammar.equations v ++ rest) ≡ Ok e → EquationsSectionOnly end d v rest e
  equations_section_only rest e few clear h =
      let d1 = closed (record d { equation_sections = d.equation_sections + 1 }) in
      let a = equations_front.only (flat_map (labelled grammar.equation) v.1.1.1 ++ rest) e tt h in
      let b = equations_only v.1.1.1 d1 e end rest few clear a.1 in
      record {
        room = a.0.0;
        title = a.0.1.0;
        sides = b.sides;
        equations = sides_of_equations (rule_names d) v.1.1.1 b.sides b.shapes;
        few = omega (arith, b.room, AllZip-long (EquationShape (rule_names d)) v.1.1.1 b.sides b.shapes);
        behind = equations_behind v.1.1.1 d1 e end rest clear b a.1;
      }

-- ---- an automaton

pub ok_below : (o : Outcome) (e : Declared) → calm o ≡ Ok e → (c : Declared) × (o ≡ Ok c)
ok_below (Ok c) e h = (c, refl)
ok_below (Err f) e h = cc

-- a path says exactly what is declared
pub path_tied : (end : End) (d e : Declared) (xs : List Label) (P : Type 0) → Path d xs P e → IsTied end Whatever d xs P (λ w. e)
path_tied end d e xs P leads = record {
  fine = λ w rest k. ap calm (path-fine end d e xs rest P leads w);
  only = λ rest o k h.
      let b = ok_below (judge end d (xs ++ rest)) o h in
      let w = path-only end d e xs rest P b.0 leads b.1 in
      (w, sym (ap calm (path-fine end d e xs rest P leads w)) ∙ h);
}

resting_quiet : (l : Last) → IsResting l → IsQuiet l
resting_quiet any h = tt
resting_quiet leaf h = tt
resting_quiet constant h = absurd h
resting_quiet function h = absurd h

module _ (end : End) (d : Declared) (distinct : IsDistinct bytes_eq (names_of d.symbols ++ d.variables)) (short_symbols : All IsShort (names_of d.symbols)) (fresh : current (next_automaton d) ≡ no_automaton) (v : Value grammar.automaton) where
  abbrev pub behind_automaton : Declared
  behind_automaton = put (started_by d.symbols (automaton_of v)) (between any (next_automaton d))

  pub automaton_tied : IsTied end NotOpening (closed d) (labelled grammar.automaton v) (IsAllowedAutomaton d (automaton_of v)) (λ w. behind_automaton)
  automaton_tied =
      let l = last_of v in
      let s = put (started_by d.symbols (automaton_of v)) (between l (next_automaton d)) in
      let tied = path_tied end (closed d) s (labelled grammar.automaton v) (IsAllowedAutomaton d (automaton_of v)) (automaton_path d distinct short_symbols fresh any tt v) in
      let calmed = λ (rest : List Label) (k : NotOpening rest). calm_judge end s rest (resting_quiet l (last_of-resting v)) k in
      record {
        fine = λ w rest k. tied.fine w rest tt ∙ calmed rest k;
        only = λ rest e k h. let a = tied.only rest e tt h in (a.0, sym (calmed rest k) ∙ a.1);
      }
