-- Sections that are read: there are rules and equations that they spell.
use Rattle.std.proofs.Common.{◌≡◌, ◌+◌, List, [], ◌∷◌, ◌++◌, map, Ok, All, inl, inr, sym, ap, subst, ◌∙◌, append_assoc}
use Rattle.std.specs.Prelude.{flat_map}
use Rattle.std.specs.List.{AllZip, IsDistinct}
use Rattle.std.specs.Str.{bytes_eq}
use Rattle.std.proofs.lemmas.Grind.{flat_map-append}
use Rattle.ranked_terms.specs.Names.{Symbol, names_of}
use Rattle.trs_rules.specs.Rules.{RewriteRule, RewriteEquation}
use Rattle.trs_rules.specs.declared.entry.Entry.{Entry}
use Rattle.timbuk_grammar.specs.Grammar as grammar
use Rattle.timbuk_grammar.specs.Trees.{Value}
use Rattle.spec_text.specs.Declarations.{Text, Declared}
use Rattle.spec_text.specs.Naming.{IsShort}
use Rattle.spec_text.specs.Reading.{End}
use Rattle.spec_text.specs.Source.{Section, system, automaton, equations, approximation, section_of}
use Rattle.spec_text.specs.SpecText.{systems_in, equations_in, all_of, IsRuleFrom, IsEquationFrom}
use Rattle.spec_text.proofs.existence.Rules.{rules_made, equations_made}
use Rattle.spec_text.proofs.agreement.tokens.Labels.{Label, labelled}
use Rattle.spec_text.proofs.agreement.approximation.Section.{both, closed, PatternsAreTied}
use Rattle.spec_text.proofs.agreement.tokens.Exact.{reads}
use Rattle.spec_text.proofs.agreement.rules.Equations.{equations_only}
use Rattle.spec_text.proofs.agreement.tokens.Last.{NotOpening}
use Rattle.spec_text.proofs.agreement.rules.Rules.{rules_only}
use Rattle.spec_text.proofs.agreement.sections.Many.{labelled_sections, section_clear, sections_only}
use Rattle.spec_text.proofs.agreement.sections.Parts.{Parts, parts_of}
use Rattle.spec_text.proofs.agreement.sections.States.{Sides, state, names_of_sides, AreRead, closed_at}
use Rattle.spec_text.proofs.agreement.sections.One.{system_front, equations_front}

-- ---- the labels of sections

labels-append : (before after : List (Value grammar.section)) (v : Value grammar.section) (rest : List Label)
    → labelled_sections (before ++ v ∷ after) ++ rest ≡ labelled_sections before ++ (labelled grammar.section v ++ (labelled_sections after ++ rest))
labels-append before after v rest =
    ap (λ l. l ++ rest) (flat_map-append (labelled grammar.section) before (v ∷ after))
    ∙ (append_assoc (labelled_sections before) (labelled_sections (v ∷ after)) rest
    ∙ ap (λ l. labelled_sections before ++ l) (append_assoc (labelled grammar.section v) (labelled_sections after) rest))

sections_clear : (vs : List (Value grammar.section)) (rest : List Label) → NotOpening rest → NotOpening (labelled_sections vs ++ rest)
sections_clear [] rest clear = clear
sections_clear (v ∷ vs) rest clear = subst NotOpening (sym (append_assoc (labelled grammar.section v) (labelled_sections vs) rest)) (section_clear v (labelled_sections vs ++ rest))

module _ (symbols : List Symbol) (variables : List Text) where
  -- ---- what sections spell

  -- there are rules, or equations, that the section spells
  abbrev IsMade : Section → Type 0
  IsMade (system title ds) = (rs : List RewriteRule) × AllZip (IsRuleFrom (names_of_sides symbols variables)) ds rs
  IsMade (equations title ds) = (qs : List RewriteEquation) × AllZip (IsEquationFrom (names_of_sides symbols variables)) ds qs
  IsMade (automaton a) = Unit {0}
  IsMade (approximation title names rules) = Unit {0}

  pub record AreMade (sections : List Section) : Type 0 where
    pub rules : List RewriteRule
    pub are_rules : AllZip (IsRuleFrom (names_of_sides symbols variables)) (all_of (systems_in sections)) rules
    pub equations : List RewriteEquation
    pub are_equations : AllZip (IsEquationFrom (names_of_sides symbols variables)) (all_of (equations_in sections)) equations

  one_more : (s : Section) (sections : List Section) → IsMade s → AreMade sections → AreMade (s ∷ sections)
  one_more (system title ds) sections h k = record {
    rules = h.0 ++ k.rules;
    are_rules = both (IsRuleFrom (names_of_sides symbols variables)) ds (all_of (systems_in sections)) h.0 k.rules h.1 k.are_rules;
    equations = k.equations;
    are_equations = k.are_equations;
  }
  one_more (equations title ds) sections h k = record {
    rules = k.rules;
    are_rules = k.are_rules;
    equations = h.0 ++ k.equations;
    are_equations = both (IsEquationFrom (names_of_sides symbols variables)) ds (all_of (equations_in sections)) h.0 k.equations h.1 k.are_equations;
  }
  one_more (automaton a) sections h k = record { rules = k.rules; are_rules = k.are_rules; equations = k.equations; are_equations = k.are_equations }
  one_more (approximation title names rules) sections h k = record { rules = k.rules; are_rules = k.are_rules; equations = k.equations; are_equations = k.are_equations }

  -- ---- what is read of a section

  module _ (end : End) where
    section_made : (v : Value grammar.section) (p : Parts) (rs qs : Sides) (es : List Entry) (rest : List Label) (e : Declared) → AreRead symbols variables p rs qs es → NotOpening rest
        → reads end (closed_at symbols variables p rs qs es) (labelled grammar.section v ++ rest) ≡ Ok e → IsMade (section_of v)
    section_made (inl v) p rs qs es rest e h clear k =
        let d = state symbols variables p rs qs es in
        let a = (system_front end d v).only (flat_map (labelled grammar.rule) v.1.1 ++ rest) e tt k in
        let b = rules_only v.1.1 (closed (record d { systems = d.systems + 1 })) e end rest h.few_rules clear a.1 in
        rules_made symbols variables v.1.1 b.sides b.shapes
    section_made (inr (inl v)) p rs qs es rest e h clear k = tt
    section_made (inr (inr (inl v))) p rs qs es rest e h clear k =
        let d = state symbols variables p rs qs es in
        let a = (equations_front end d v).only (flat_map (labelled grammar.equation) v.1.1.1 ++ rest) e tt k in
        let b = equations_only v.1.1.1 (closed (record d { equation_sections = d.equation_sections + 1 })) e end rest h.few_equations clear a.1 in
        equations_made symbols variables v.1.1.1 b.sides b.shapes
    section_made (inr (inr (inr v))) p rs qs es rest e h clear k = tt

    module _ (patterns : PatternsAreTied end) (short_symbols : All IsShort (names_of symbols)) (short_variables : All IsShort variables) (distinct : IsDistinct bytes_eq (names_of symbols ++ variables)) where
      -- the state before all sections
      abbrev at_front : Declared
      at_front = closed_at symbols variables (record { systems = []; equations = []; automata = []; approximations = [] }) [] [] []

      sections_behind : (before after : List (Value grammar.section)) (rest : List Label) (e : Declared) → NotOpening rest → reads end at_front (labelled_sections (before ++ after) ++ rest) ≡ Ok e → AreMade (map section_of after)
      sections_behind before [] rest e clear h = record { rules = []; are_rules = tt; equations = []; are_equations = tt }
      sections_behind before (v ∷ after) rest e clear h =
          let behind = labelled_sections after ++ rest in
          let k = sections_only end patterns symbols variables short_symbols short_variables distinct before (labelled grammar.section v ++ behind) e (section_clear v behind) (ap (reads end at_front) (sym (labels-append before after v rest)) ∙ h) in
          one_more (section_of v) (map section_of after)
          (section_made v (parts_of (map section_of before)) k.rules k.equations k.entries behind e k.allowed (sections_clear after rest clear) k.behind)
          (sections_behind (before ++ v ∷ []) after rest e clear (ap (λ l. reads end at_front (labelled_sections l ++ rest)) (append_assoc before (v ∷ []) after) ∙ h))

      pub sections_made : (vs : List (Value grammar.section)) (rest : List Label) (e : Declared) → NotOpening rest → reads end at_front (labelled_sections vs ++ rest) ≡ Ok e → AreMade (map section_of vs)
      sections_made vs rest e clear h = sections_behind [] vs rest e clear h
