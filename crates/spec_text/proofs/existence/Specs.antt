-- What is read of a text without a fault is a specification, so a text in which no row of the table of faults fits spells one.
use Rattle.std.proofs.Common.{◌≡◌, ℕ, ◌+◌, ◌-◌, true, false, List, [], ◌∷◌, ◌++◌, length, map, Some, Ok, Err, refl, sym, ap, subst, ◌∙◌, length-append, arith}
use Rattle.std.specs.Prelude.{nat_lt}
use Rattle.std.specs.List.{AllZip}
use Rattle.std.proofs.lemmas.Bool.{and_from, ltb-false}
use Rattle.std.proofs.lemmas.Option.{same_Some}
use Rattle.std.proofs.lemmas.Slice.Zip.{AllZip-long}
use Rattle.ranked_terms.specs.Names.{Symbol}
use Rattle.ranked_terms.specs.Terms.{pattern_is_over}
use Rattle.ranked_terms.specs.declared.term.Pattern.{Pattern}
use Rattle.trs_rules.specs.Rules.{RewriteRule, RewriteEquation}
use Rattle.trs_rules.specs.declared.entry.Entry.{Entry}
use Rattle.ta_core.specs.SpecRules.{rules_are_over, equations_are_over, entries_are_below}
use Rattle.ta_core.specs.declared.spec.Spec.{Spec}
use Rattle.timbuk_lex.specs.Lexing.{lexed}
use Rattle.timbuk_grammar.specs.declared.terminal.Role.{Role}
use Rattle.timbuk_grammar.specs.Grammar as grammar
use Rattle.timbuk_grammar.specs.Trees.{Value, Tree}
use Rattle.spec_text.specs.declared.fault.SpecFault.{SpecFault}
use Rattle.spec_text.specs.Declarations.{Text, Declared, nothing}
use Rattle.spec_text.specs.Faults.{SpecFaultAt}
use Rattle.spec_text.specs.Laws.{WhatHasNoFaultIsSpelled}
use Rattle.spec_text.specs.Naming.{signature_of, Names, shape_in, shape_of}
use Rattle.spec_text.specs.Reading.{Outcome, End, read}
use Rattle.spec_text.specs.Source.{RuleDeclaration, EquationDeclaration, ApproximationRule, symbols_in, variables_in, section_of}
use Rattle.spec_text.specs.SpecText.{SpecText, IsRuleFrom, IsEquationFrom, IsEntryFrom, entries_of, all_of}
use Rattle.spec_text.specs.Spelled.{IsSpecOf}
use Rattle.spec_text.proofs.existence.Automata.{automaton_of, initial_over, second_over}
use Rattle.spec_text.proofs.existence.Entries.{entries_over, entries_below, entries_small}
use Rattle.spec_text.proofs.existence.Sections.{sections_made}
use Rattle.spec_text.proofs.existence.Shapes.{tree_over}
use Rattle.spec_text.proofs.faults.First.{faults_are_first}
use Rattle.spec_text.proofs.agreement.tokens.Labelled.{file_read}
use Rattle.spec_text.proofs.agreement.tokens.Labels.{labelled, judge}
use Rattle.spec_text.specs.lemmas.Shapes.{same_over}
use Rattle.spec_text.specs.lemmas.Specs.{automaton_over, states_whole, any_last}
use Rattle.spec_text.specs.Reading.{settled as calm}
use Rattle.spec_text.proofs.agreement.approximation.Wholes.{patterns_are_tied}
use Rattle.spec_text.proofs.agreement.tokens.Exact.{reads}
use Rattle.spec_text.proofs.agreement.automata.Specs.{symbols_short}
use Rattle.spec_text.proofs.agreement.rules.Equations.{equation_sides}
use Rattle.spec_text.proofs.agreement.tokens.Last.{forgets}
use Rattle.spec_text.proofs.agreement.rules.Rules.{rule_sides}
use Rattle.spec_text.proofs.agreement.sections.Many.{labelled_sections, sections_only}
use Rattle.spec_text.proofs.agreement.sections.Files.{front_tied, labels_are, whole_at_end}
use Rattle.spec_text.proofs.agreement.sections.Parts.{Parts, parts_of, none_left, rules_of, initial_states, extra_of}
use Rattle.spec_text.proofs.agreement.sections.Spells.{all_rules, all_equations}
use Rattle.spec_text.proofs.agreement.sections.States.{Sides, names_of_sides, AreSpelled, AreRead, closed_at, spelled_at}
use Rattle.spec_text.proofs.agreement.sections.One.{AreRuleSides, AreEquationSides}
use Rattle.spec_text.proofs.agreement.sections.Texts.{end_of, read_is_spelled}

module _ (symbols : List Symbol) (variables : List Text) where
  -- ---- rules and equations over the signature

  side_over : {p : Role} (v : Tree p) (q : Pattern) → shape_in (names_of_sides symbols variables) v ≡ Some (shape_of q) → pattern_is_over symbols q ≡ true
  side_over {p = p} v q e = same_over symbols q ∙ (tree_over p v (names_of_sides symbols variables) (shape_of q) e).over

  rules_over : (ds : List RuleDeclaration) (rs : List RewriteRule) → AllZip (IsRuleFrom (names_of_sides symbols variables)) ds rs → rules_are_over symbols rs ≡ true
  rules_over [] [] h = refl
  rules_over [] (r ∷ rs) h = absurd h
  rules_over (d ∷ ds) [] h = absurd h
  rules_over (d ∷ ds) (r ∷ rs) h = and_from _ _ (and_from _ _ (side_over d.left r.left h.0.left) (side_over d.right r.right h.0.right)) (rules_over ds rs h.1)

  equations_over : (ds : List EquationDeclaration) (qs : List RewriteEquation) → AllZip (IsEquationFrom (names_of_sides symbols variables)) ds qs → equations_are_over symbols qs ≡ true
  equations_over [] [] h = refl
  equations_over [] (q ∷ qs) h = absurd h
  equations_over (d ∷ ds) [] h = absurd h
  equations_over (d ∷ ds) (q ∷ qs) h = and_from _ _ (and_from _ _ (side_over d.left q.left h.0.left) (side_over d.right q.right h.0.right)) (equations_over ds qs h.1)

  -- ---- the sides of what is spelled are those that are read

  same_rules : (ds : List RuleDeclaration) (rs : List RewriteRule) (sides : Sides) → AllZip (IsRuleFrom (names_of_sides symbols variables)) ds rs → AllZip (AreRuleSides (names_of_sides symbols variables)) ds sides → map rule_sides rs ≡ sides
  same_rules [] [] [] h k = refl
  same_rules [] [] (s ∷ sides) h k = absurd k
  same_rules [] (r ∷ rs) sides h k = absurd h
  same_rules (d ∷ ds) [] sides h k = absurd h
  same_rules (d ∷ ds) (r ∷ rs) [] h k = absurd k
  same_rules (d ∷ ds) (r ∷ rs) (s ∷ sides) h k = λ i. (same_Some (shape_of r.left) s.0 (sym h.0.left ∙ k.0.left) i, same_Some (shape_of r.right) s.1 (sym h.0.right ∙ k.0.right) i) ∷ same_rules ds rs sides h.1 k.1 i

  same_equations : (ds : List EquationDeclaration) (qs : List RewriteEquation) (sides : Sides) → AllZip (IsEquationFrom (names_of_sides symbols variables)) ds qs → AllZip (AreEquationSides (names_of_sides symbols variables)) ds sides → map equation_sides qs ≡ sides
  same_equations [] [] [] h k = refl
  same_equations [] [] (s ∷ sides) h k = absurd k
  same_equations [] (q ∷ qs) sides h k = absurd h
  same_equations (d ∷ ds) [] sides h k = absurd h
  same_equations (d ∷ ds) (q ∷ qs) [] h k = absurd k
  same_equations (d ∷ ds) (q ∷ qs) (s ∷ sides) h k = λ i. (same_Some (shape_of q.left) s.0 (sym h.0.left ∙ k.0.left) i, same_Some (shape_of q.right) s.1 (sym h.0.right ∙ k.0.right) i) ∷ same_equations ds qs sides h.1 k.1 i

  -- ---- without an approximation

  no_extra : (approximations : List (List Text × List ApproximationRule)) → nat_lt 0 (length approximations) ≡ false → length (extra_of approximations) ≡ 0
  no_extra [] e = refl
  no_extra (a ∷ approximations) e = let h = ltb-false 0 (length (a ∷ approximations)) e in absurd (omega (arith, h))

  no_entries : (p : Parts) (states : List Text) (es : List Entry) → AllZip (IsEntryFrom (record { symbols = symbols; variables = variables; states = states })) (entries_of (rules_of p.approximations)) es → nat_lt 0 (length p.approximations) ≡ false → es ≡ []
  no_entries p states es h e = by p.approximations h e
    where
      by : (l : List (List Text × List ApproximationRule)) → AllZip (IsEntryFrom (record { symbols = symbols; variables = variables; states = states })) (entries_of (rules_of l)) es → nat_lt 0 (length l) ≡ false → es ≡ []
      by [] h e = sym (none_left (IsEntryFrom (record { symbols = symbols; variables = variables; states = states })) es h)
      by (a ∷ l) h e = let k = ltb-false 0 (length (a ∷ l)) e in absurd (omega (arith, k))

  -- ---- the specification

  module _ (p : Parts) (rs : List RewriteRule) (qs : List RewriteEquation) (es : List Entry) (h : AreSpelled symbols variables p rs qs es) where
    abbrev states : List Text
    states = initial_states p.automata ++ extra_of p.approximations

    abbrev extra : ℕ
    extra = length (extra_of p.approximations)

    -- the names that entries use
    abbrev all_names : Names
    all_names = record { symbols = symbols; variables = variables; states = states }

    abbrev d : Declared
    d = spelled_at symbols variables p rs qs es

    -- the initial automaton's states, and the approximation's
    all_states : length states ≡ (length states - extra) + extra
    all_states = omega (arith, length-append (initial_states p.automata) (extra_of p.approximations))

    pub spec_made : (spec : Spec) × IsSpecOf d spec
    spec_made =
        let initial = automaton_of (length states - extra) d.initial in
        let second = automaton_of (length d.second.states) d.second in (
          record {
            signature = symbols;
            vars = variables;
            rules = rs;
            equations = qs;
            entries = es;
            extra = extra;
            approximated = nat_lt 0 (length p.approximations);
            initial = initial.0;
            forbidden = second.0;
            rules_over = rules_over _ rs h.rules;
            equations_over = equations_over _ qs h.equations;
            entries_over = entries_over all_names _ es h.entries;
            initial_over = automaton_over symbols _ d.initial initial.0 initial.1 (initial_over symbols variables p.automata h.automata);
            forbidden_over = automaton_over symbols _ d.second second.0 second.1 (second_over symbols variables p.automata h.automata);
            initial_states = states_whole _ d.initial initial.0 initial.1;
            forbidden_states = states_whole _ d.second second.0 second.1;
            few_states = omega (arith, all_states, initial.1.next_is, h.states.few);
            entries_below = subst (λ n. entries_are_below n es ≡ true) (all_states ∙ ap (λ n. n + extra) (sym initial.1.next_is)) (entries_below all_names _ es h.entries);
            entries_small = entries_small all_names _ es h.entries;
            no_extra = no_extra p.approximations;
            no_entries = no_entries p states es h.entries;
          },
          record {
            signature = refl;
            vars = refl;
            rules = refl;
            are_rules = all_rules (names_of_sides symbols variables) _ rs h.rules;
            equations = refl;
            are_equations = all_equations (names_of_sides symbols variables) _ qs h.equations;
            entries = refl;
            extra = refl;
            approximated = refl;
            initial = initial.1;
            forbidden = second.1;
          },
        )

  -- ---- what is read is spelled

  module _ (p : Parts) (rules equations : Sides) (es : List Entry) (h : AreRead symbols variables p rules equations es) where
    spelled_by : (rs : List RewriteRule) (qs : List RewriteEquation) → AllZip (IsRuleFrom (names_of_sides symbols variables)) (all_of p.systems) rs → AllZip (IsEquationFrom (names_of_sides symbols variables)) (all_of p.equations) qs → AreSpelled symbols variables p rs qs es
    spelled_by rs qs are_rules are_equations = record {
      one_system = h.one_system;
      few_rules = omega (arith, h.few_rules, AllZip-long _ (all_of p.systems) rules h.rules, AllZip-long _ (all_of p.systems) rs are_rules);
      rules = are_rules;
      one_equations = h.one_equations;
      few_equations = omega (arith, h.few_equations, AllZip-long _ (all_of p.equations) equations h.equations, AllZip-long _ (all_of p.equations) qs are_equations);
      equations = are_equations;
      two_automata = h.two_automata;
      automata = h.automata;
      one_approximation = h.one_approximation;
      late = h.late;
      states = h.states;
      few_entries = h.few_entries;
      entries = h.entries;
    }

    pub spec_read : (rs : List RewriteRule) (qs : List RewriteEquation) → AllZip (IsRuleFrom (names_of_sides symbols variables)) (all_of p.systems) rs → AllZip (IsEquationFrom (names_of_sides symbols variables)) (all_of p.equations) qs
        → (spec : Spec) × IsSpecOf (closed_at symbols variables p rules equations es) spec
    spec_read rs qs are_rules are_equations =
        let made = spec_made p rs qs es (spelled_by rs qs are_rules are_equations) in
        let sides = same_rules (all_of p.systems) rs rules are_rules h.rules in
        let equated = same_equations (all_of p.equations) qs equations are_equations h.equations in
        (made.0, subst (λ d. IsSpecOf d made.0) (λ i. closed_at symbols variables p (sides i) (equated i) es) made.1)

-- ---- a text that is read

-- the specification of what is read
file_spec : (end : End) (v : Value grammar.file) (d : Declared) → judge end nothing (labelled grammar.file v) ≡ Ok d → (spec : Spec) × IsSpecOf d spec
file_spec end v d h =
    let ss = signature_of (symbols_in v.0) in
    let vs = variables_in v.1.0 in
    let sections = map section_of v.1.1 in
    let front = (front_tied end v).only (labelled_sections v.1.1 ++ []) (forgets d) tt (ap (reads end nothing) (sym (labels_are end v)) ∙ ap calm h) in
    let short = symbols_short (symbols_in v.0) front.0.0 in
    let a = sections_only end (patterns_are_tied end) ss vs short front.0.1.short front.0.1.distinct v.1.1 [] (forgets d) tt front.1 in
    let made = sections_made ss vs end (patterns_are_tied end) short front.0.1.short front.0.1.distinct v.1.1 [] (forgets d) tt front.1 in
    let spec = spec_read ss vs (parts_of sections) a.rules a.equations a.entries a.allowed made.rules made.equations made.are_rules made.are_equations in
    let whole = whole_at_end end (closed_at ss vs (parts_of sections) a.rules a.equations a.entries) (forgets d) a.behind in
    (spec.0, any_last d spec.0 (subst (λ d. IsSpecOf d spec.0) whole.is spec.1))

by_outcome : (bytes : List ℕ) (o : Outcome) → read bytes ≡ o → ((f : SpecFault) → SpecFaultAt bytes f → ⊥) → (spec : Spec) × SpecText bytes spec
by_outcome bytes (Err f) e none = absurd (none f ((faults_are_first bytes f).0 e))
by_outcome bytes (Ok d) e none =
    let k = file_read (end_of bytes) nothing (lexed bytes).tokens d e in
    let spec = file_spec (end_of bytes) k.tree d k.judged in
    (spec.0, read_is_spelled bytes spec.0 (record { declared = d; no_fault = e; spec_of = spec.1 }))

pub faultless_is_spelled : WhatHasNoFaultIsSpelled
faultless_is_spelled bytes none = by_outcome bytes (read bytes) refl none
