-- The state behind sections, and one section more.
use Rattle.std.proofs.Common.{◌≡◌, ◌+◌, ◌<◌, ◌≤◌, false, ◌==◌, List, [], ◌∷◌, ◌++◌, length, map, Ok, All, inl, inr, refl, sym, ap, ◌∙◌, length-append, arith}
use Rattle.std.specs.List.{IsDistinct}
use Rattle.std.specs.Str.{bytes_eq}
use Rattle.std.proofs.lemmas.Bool.{false_from_ne_true, eqb-true}
use Rattle.std.proofs.lemmas.List.{append-nil, map-append, length-map}
use Rattle.std.proofs.lemmas.List.Elements.{All-nil}
use Rattle.ranked_terms.specs.Names.{Symbol, names_of}
use Rattle.ranked_terms.specs.declared.term.Shape.{Shape}
use Rattle.trs_rules.specs.Rules.{RewriteRule, RewriteEquation}
use Rattle.trs_rules.specs.declared.entry.Entry.{Entry}
use Rattle.timbuk_grammar.specs.Grammar as grammar
use Rattle.timbuk_grammar.specs.Trees.{Value}
use Rattle.spec_text.specs.Declarations.{Text, Declared, Started, any, no_automaton, nothing, current}
use Rattle.spec_text.specs.Source.{RuleDeclaration, EquationDeclaration, AutomatonDeclaration, ApproximationRule, system, automaton, equations, approximation, text_of, rule_of, equation_of, automaton_of, approximation_rule_of, state_of, section_of}
use Rattle.spec_text.specs.Naming.{IsShort, Names}
use Rattle.spec_text.specs.Reading.{End}
use Rattle.spec_text.specs.SpecText.{title_of, IsRuleFrom, IsEquationFrom}
use Rattle.spec_text.proofs.agreement.tokens.Labels.{Label, label, labelled}
use Rattle.spec_text.proofs.agreement.tokens.Last.{NotOpening}
use Rattle.spec_text.proofs.agreement.rules.Sides as sides
use Rattle.spec_text.proofs.agreement.rules.Sides.{rule_names}
use Rattle.spec_text.proofs.agreement.rules.Rules.{rule_sides}
use Rattle.spec_text.proofs.agreement.rules.Equations.{equation_sides}
use Rattle.spec_text.proofs.agreement.names.Rows.{room_for_automaton}
use Rattle.spec_text.proofs.agreement.names.States.{between}
use Rattle.spec_text.proofs.agreement.automata.States.{put}
use Rattle.spec_text.proofs.agreement.automata.Section.{IsAllowedAutomaton, started_by, next_automaton}
use Rattle.spec_text.proofs.agreement.tokens.Exact.{reads, reads_row}
use Rattle.spec_text.proofs.agreement.approximation.Rows.{AreShort}
use Rattle.spec_text.proofs.agreement.approximation.Section.{closed, PatternsAreTied, with_approximation, approximation_tied}
use Rattle.spec_text.proofs.agreement.sections.Parts.{Parts, with_section, IsLate, initial_states, extra_of, first_states, no_approximation}
use Rattle.spec_text.proofs.agreement.sections.Allowed.{AreAllowed, push_system, push_equations, push_automaton, push_approximation, pop_system, pop_equations, pop_automaton, pop_approximation}
use Rattle.spec_text.proofs.agreement.sections.One.{AreRuleSides, AreEquationSides, with_system, with_equations_section, system_fine, system_only, equations_section_fine, equations_section_only, automaton_tied}

abbrev pub Sides : Type 0
Sides = List (Shape × Shape)

-- ---- states

abbrev pub initial_of : List Symbol → List AutomatonDeclaration → Started
initial_of symbols [] = no_automaton
initial_of symbols (first ∷ others) = started_by symbols first

abbrev pub second_of : List Symbol → List AutomatonDeclaration → Started
second_of symbols [] = no_automaton
second_of symbols (first ∷ []) = no_automaton
second_of symbols (first ∷ second ∷ others) = started_by symbols second

-- behind symbols, variables and sections
abbrev pub state : List Symbol → List Text → Parts → Sides → Sides → List Entry → Declared
state symbols variables p rs qs es = record nothing {
  symbols = symbols;
  variables = variables;
  systems = length p.systems;
  automata = length p.automata;
  equation_sections = length p.equations;
  approximations = length p.approximations;
  initial = record (initial_of symbols p.automata) { states = initial_states p.automata ++ extra_of p.approximations };
  extra = length (extra_of p.approximations);
  second = second_of symbols p.automata;
  rules = rs;
  equations = qs;
  entries = es;
}

module _ (symbols : List Symbol) (variables : List Text) where
  abbrev at : Parts → Sides → Sides → List Entry → Declared
  at = state symbols variables

  one_more : {X : Type 0} (xs : List X) (x : X) → length xs + 1 ≡ length (xs ++ x ∷ [])
  one_more xs x = omega (arith, length-append xs (x ∷ []))

  behind_system : (title : Text) (ds : List RuleDeclaration) (p : Parts) (rs more qs : Sides) (es : List Entry) → with_system (at p rs qs es) more ≡ at (with_section (system title ds) p) (rs ++ more) qs es
  behind_system title ds p rs more qs es = let count = one_more p.systems ds in λ i. record (at p (rs ++ more) qs es) { systems = count i }

  behind_equations : (title : Text) (ds : List EquationDeclaration) (p : Parts) (rs qs more : Sides) (es : List Entry) → with_equations_section (at p rs qs es) more ≡ at (with_section (equations title ds) p) rs (qs ++ more) es
  behind_equations title ds p rs qs more es = let count = one_more p.equations ds in λ i. record (at p rs (qs ++ more) es) { equation_sections = count i }

  module _ (p : Parts) (rs qs : Sides) (es : List Entry) (late : p.automata ≡ [] → p.approximations ≡ []) where
    fresh_by : (automata : List AutomatonDeclaration) → length automata < 2 → (automata ≡ [] → p.approximations ≡ []) → current (next_automaton (at (record p { automata = automata }) rs qs es)) ≡ no_automaton
    fresh_by [] few none = ap (λ l. record no_automaton { states = extra_of l }) (none refl)
    fresh_by (first ∷ []) few none = refl
    fresh_by (first ∷ second ∷ others) few none = absurd (omega (arith, few))

    fresh : length p.automata < 2 → current (next_automaton (at p rs qs es)) ≡ no_automaton
    fresh few = fresh_by p.automata few late

    automaton_by : (a : AutomatonDeclaration) (automata : List AutomatonDeclaration) → length automata < 2 → (automata ≡ [] → p.approximations ≡ [])
        → put (started_by symbols a) (between any (next_automaton (at (record p { automata = automata }) rs qs es))) ≡ closed (at (record p { automata = automata ++ a ∷ [] }) rs qs es)
    automaton_by a [] few none =
        let states : a.states ≡ a.states ++ extra_of p.approximations = sym (append-nil a.states) ∙ ap (λ l. a.states ++ extra_of l) (sym (none refl)) in
        λ i. closed (record (at (record p { automata = a ∷ [] }) rs qs es) { initial = record (started_by symbols a) { states = states i } })
    automaton_by a (first ∷ []) few none = refl
    automaton_by a (first ∷ second ∷ others) few none = absurd (omega (arith, few))

    behind_automaton : (a : AutomatonDeclaration) → length p.automata < 2 → put (started_by symbols a) (between any (next_automaton (at p rs qs es))) ≡ closed (at (with_section (automaton a) p) rs qs es)
    behind_automaton a few = automaton_by a p.automata few late

  behind_approximation : (title : Text) (names : List Text) (rules : List ApproximationRule) (p : Parts) (rs qs : Sides) (es more : List Entry) → length p.approximations < 1
      → with_approximation (at p rs qs es) names more ≡ at (with_section (approximation title names rules) p) rs qs (es ++ more)
  behind_approximation title names rules p rs qs es more room =
      let none = no_approximation p.approximations room in
      let count = one_more p.approximations (names, rules) in
      let states = first_states (initial_states p.automata) p.approximations names rules none in
      let extra = first_states [] p.approximations names rules none in
      let lengths : length (extra_of p.approximations) + length names ≡ length (extra_of (p.approximations ++ (names, rules) ∷ [])) = sym (length-append (extra_of p.approximations) names) ∙ ap length extra in
      λ i. record (at p rs qs (es ++ more)) { approximations = count i; initial = record (initial_of symbols p.automata) { states = states i }; extra = lengths i }

-- ---- the number of automata

pub some_there : (l : List AutomatonDeclaration) → 1 ≤ length l → (length l == 0) ≡ false
some_there l h = false_from_ne_true (length l == 0) (λ e. omega (arith, eqb-true (length l) 0 e, h))

pub there_are_some : (l : List AutomatonDeclaration) → (length l == 0) ≡ false → 1 ≤ length l
there_are_some [] h = cc
there_are_some (a ∷ l) h = omega arith

-- ---- what sections spell

module _ (symbols : List Symbol) (variables : List Text) where
  -- the names that may stand in rules and equations
  abbrev pub names_of_sides : Names
  names_of_sides = record { symbols = symbols; variables = variables; states = [] }

  -- sections that spell these rules, equations and entries
  abbrev pub AreSpelled : Parts → List RewriteRule → List RewriteEquation → List Entry → Type 0
  AreSpelled = AreAllowed (IsRuleFrom names_of_sides) (IsEquationFrom names_of_sides) symbols variables

  -- sections whose rules and equations have these sides
  abbrev pub AreRead : Parts → Sides → Sides → List Entry → Type 0
  AreRead = AreAllowed (AreRuleSides names_of_sides) (AreEquationSides names_of_sides) symbols variables

  abbrev pub closed_at : Parts → Sides → Sides → List Entry → Declared
  closed_at p rs qs es = closed (state symbols variables p rs qs es)

  abbrev pub spelled_at : Parts → List RewriteRule → List RewriteEquation → List Entry → Declared
  spelled_at p rs qs es = closed_at p (map rule_sides rs) (map equation_sides qs) es

-- ---- one section against the judge

module _ (end : End) (patterns : PatternsAreTied end) (symbols : List Symbol) (variables : List Text) (short_symbols : All IsShort (names_of symbols)) (short_variables : All IsShort variables) (distinct : IsDistinct bytes_eq (names_of symbols ++ variables)) where
  -- what is spelled before a section, and that the section is read
  pub record SectionFine (v : Value grammar.section) (p : Parts) (rs : List RewriteRule) (qs : List RewriteEquation) (es : List Entry) : Type 0 where
    pub rules : List RewriteRule
    pub equations : List RewriteEquation
    pub entries : List Entry
    pub before : AreSpelled symbols variables p rules equations entries
    pub read : (rest : List Label) → NotOpening rest → reads end (spelled_at symbols variables p rules equations entries) (labelled grammar.section v ++ rest) ≡ reads end (spelled_at symbols variables (with_section (section_of v) p) rs qs es) rest

  short_sides : sides.AreShort (names_of_sides symbols variables)
  short_sides = record { symbols = short_symbols; variables = short_variables; states = All-nil IsShort }

  fine_system : (v : Value grammar.system) (p : Parts) (rs : List RewriteRule) (qs : List RewriteEquation) (es : List Entry) → IsShort (text_of v.1.0)
      → AreSpelled symbols variables (with_section (section_of (inl v)) p) rs qs es → SectionFine (inl v) p rs qs es
  fine_system v p rs qs es title h =
      let k = pop_system (IsRuleFrom (names_of_sides symbols variables)) (IsEquationFrom (names_of_sides symbols variables)) symbols variables (text_of v.1.0) (map rule_of v.1.1) p rs qs es h in
      let fits : length (map rule_sides k.front) + length k.own ≤ 4096 = omega (arith, k.few, length-map k.front rule_sides) in
      record {
        rules = k.front;
        equations = qs;
        entries = es;
        before = k.before;
        read = λ rest clear.
            system_fine end (state symbols variables p (map rule_sides k.front) (map equation_sides qs) es) v k.own short_sides k.room title k.rules fits rest clear
            ∙ ap (λ s. reads end (closed s) rest) (behind_system symbols variables (text_of v.1.0) (map rule_of v.1.1) p (map rule_sides k.front) (map rule_sides k.own) (map equation_sides qs) es)
            ∙ ap (λ l. reads end (closed_at symbols variables (with_section (section_of (inl v)) p) l (map equation_sides qs) es) rest) (sym (map-append rule_sides k.front k.own) ∙ ap (map rule_sides) k.is);
      }

  fine_equations : (v : Value grammar.equations) (p : Parts) (rs : List RewriteRule) (qs : List RewriteEquation) (es : List Entry) → IsShort (text_of v.1.0)
      → AreSpelled symbols variables (with_section (section_of (inr (inr (inl v)))) p) rs qs es → SectionFine (inr (inr (inl v))) p rs qs es
  fine_equations v p rs qs es title h =
      let k = pop_equations (IsRuleFrom (names_of_sides symbols variables)) (IsEquationFrom (names_of_sides symbols variables)) symbols variables (text_of v.1.0) (map equation_of v.1.1.1) p rs qs es h in
      let fits : length (map equation_sides k.front) + length k.own ≤ 1024 = omega (arith, k.few, length-map k.front equation_sides) in
      record {
        rules = rs;
        equations = k.front;
        entries = es;
        before = k.before;
        read = λ rest clear.
            equations_section_fine end (state symbols variables p (map rule_sides rs) (map equation_sides k.front) es) v k.own short_sides k.room title k.equations fits rest clear
            ∙ ap (λ s. reads end (closed s) rest) (behind_equations symbols variables (text_of v.1.0) (map equation_of v.1.1.1) p (map rule_sides rs) (map equation_sides k.front) (map equation_sides k.own) es)
            ∙ ap (λ l. reads end (closed_at symbols variables (with_section (section_of (inr (inr (inl v)))) p) (map rule_sides rs) l es) rest) (sym (map-append equation_sides k.front k.own) ∙ ap (map equation_sides) k.is);
      }

  fine_automaton : (v : Value grammar.automaton) (p : Parts) (rs : List RewriteRule) (qs : List RewriteEquation) (es : List Entry) → IsShort (text_of v.1.0) → (p.automata ≡ [] → p.approximations ≡ [])
      → AreSpelled symbols variables (with_section (section_of (inr (inl v))) p) rs qs es → SectionFine (inr (inl v)) p rs qs es
  fine_automaton v p rs qs es title late h =
      let a = automaton_of v in
      let k = pop_automaton (IsRuleFrom (names_of_sides symbols variables)) (IsEquationFrom (names_of_sides symbols variables)) symbols variables a p rs qs es late h in
      let d = state symbols variables p (map rule_sides rs) (map equation_sides qs) es in
      let tied = automaton_tied end d distinct short_symbols (fresh symbols variables p (map rule_sides rs) (map equation_sides qs) es late k.room) v in
      let allowed : IsAllowedAutomaton d a = record { room = k.room; title = title; states = k.declarable.states; described = k.declarable.described; final_states = k.declarable.final_states; transitions = k.declarable.transitions } in
      record {
        rules = rs;
        equations = qs;
        entries = es;
        before = k.before;
        read = λ rest clear. tied.fine allowed rest clear ∙ ap (λ s. reads end s rest) (behind_automaton symbols variables p (map rule_sides rs) (map equation_sides qs) es late a k.room);
      }

  short_at : (p : Parts) (rs qs : Sides) (es : List Entry) → All IsShort (initial_states p.automata ++ extra_of p.approximations) → AreShort (state symbols variables p rs qs es)
  short_at p rs qs es h = record { symbols = short_symbols; variables = short_variables; states = h }

  fine_approximation : (v : Value grammar.approximation) (p : Parts) (rs : List RewriteRule) (qs : List RewriteEquation) (es : List Entry) → IsShort (text_of v.1.0)
      → AreSpelled symbols variables (with_section (section_of (inr (inr (inr v)))) p) rs qs es → SectionFine (inr (inr (inr v))) p rs qs es
  fine_approximation v p rs qs es title h =
      let added = map state_of v.1.1.1.0 in
      let ds = map approximation_rule_of v.1.1.1.1.1 in
      let k = pop_approximation (IsRuleFrom (names_of_sides symbols variables)) (IsEquationFrom (names_of_sides symbols variables)) symbols variables (text_of v.1.0) added ds p rs qs es h in
      let d = state symbols variables p (map rule_sides rs) (map equation_sides qs) [] in
      let tied = approximation_tied {end = end} patterns d (short_at p (map rule_sides rs) (map equation_sides qs) [] k.before.states.short) k.before.states (omega arith) v in
      record {
        rules = rs;
        equations = qs;
        entries = [];
        before = k.before;
        read = λ rest clear.
            tied.fine (es, record { role = record { late = some_there p.automata k.some; once = k.room }; short_title = title; states = k.states; entries = record { from = k.entries; few = omega (arith, k.few) } }) rest tt
            ∙ ap (λ s. reads end (closed s) rest) (behind_approximation symbols variables (text_of v.1.0) added ds p (map rule_sides rs) (map equation_sides qs) [] es k.room);
      }

  pub section_fine : (v : Value grammar.section) (p : Parts) (rs : List RewriteRule) (qs : List RewriteEquation) (es : List Entry) → IsShort (title_of (section_of v)) → (p.automata ≡ [] → p.approximations ≡ [])
      → AreSpelled symbols variables (with_section (section_of v) p) rs qs es → SectionFine v p rs qs es
  section_fine (inl v) p rs qs es title late h = fine_system v p rs qs es title h
  section_fine (inr (inl v)) p rs qs es title late h = fine_automaton v p rs qs es title late h
  section_fine (inr (inr (inl v))) p rs qs es title late h = fine_equations v p rs qs es title h
  section_fine (inr (inr (inr v))) p rs qs es title late h = fine_approximation v p rs qs es title h

  -- ---- what is read of a section

  pub record SectionOnly (v : Value grammar.section) (p : Parts) (rest : List Label) (e : Declared) : Type 0 where
    pub rules : Sides
    pub equations : Sides
    pub entries : List Entry
    pub title : IsShort (title_of (section_of v))
    pub late : IsLate (section_of v) p.automata
    pub allowed : AreRead symbols variables (with_section (section_of v) p) rules equations entries
    pub behind : reads end (closed_at symbols variables (with_section (section_of v) p) rules equations entries) rest ≡ Ok e

  only_system : (v : Value grammar.system) (p : Parts) (rs qs : Sides) (es : List Entry) (rest : List Label) (e : Declared) → AreRead symbols variables p rs qs es → NotOpening rest
      → reads end (closed_at symbols variables p rs qs es) (labelled grammar.system v ++ rest) ≡ Ok e → SectionOnly (inl v) p rest e
  only_system v p rs qs es rest e h clear k =
      let d = state symbols variables p rs qs es in
      let o = system_only end d v rest e h.few_rules clear k in
      let title = text_of v.1.0 in
      let ds = map rule_of v.1.1 in
      record {
        rules = rs ++ o.sides;
        equations = qs;
        entries = es;
        title = o.title;
        late = tt;
        allowed = push_system (AreRuleSides (names_of_sides symbols variables)) (AreEquationSides (names_of_sides symbols variables)) symbols variables title ds p rs o.sides qs es h o.room o.rules o.few;
        behind = ap (λ s. reads end (closed s) rest) (sym (behind_system symbols variables title ds p rs o.sides qs es)) ∙ o.behind;
      }

  only_equations : (v : Value grammar.equations) (p : Parts) (rs qs : Sides) (es : List Entry) (rest : List Label) (e : Declared) → AreRead symbols variables p rs qs es → NotOpening rest
      → reads end (closed_at symbols variables p rs qs es) (labelled grammar.equations v ++ rest) ≡ Ok e → SectionOnly (inr (inr (inl v))) p rest e
  only_equations v p rs qs es rest e h clear k =
      let d = state symbols variables p rs qs es in
      let o = equations_section_only end d v rest e h.few_equations clear k in
      let title = text_of v.1.0 in
      let ds = map equation_of v.1.1.1 in
      record {
        rules = rs;
        equations = qs ++ o.sides;
        entries = es;
        title = o.title;
        late = tt;
        allowed = push_equations (AreRuleSides (names_of_sides symbols variables)) (AreEquationSides (names_of_sides symbols variables)) symbols variables title ds p rs qs o.sides es h o.room o.equations o.few;
        behind = ap (λ s. reads end (closed s) rest) (sym (behind_equations symbols variables title ds p rs qs o.sides es)) ∙ o.behind;
      }

  abbrev behind_first : List Label → List Label
  behind_first [] = []
  behind_first (x ∷ xs) = xs

  -- the tie of an automaton can only be stated where there is room for one
  room_for : (v : Value grammar.automaton) (p : Parts) (rs qs : Sides) (es : List Entry) (rest : List Label) (e : Declared) → reads end (closed_at symbols variables p rs qs es) (labelled grammar.automaton v ++ rest) ≡ Ok e → length p.automata < 2
  room_for v p rs qs es rest e k = room_for_automaton (closed_at symbols variables p rs qs es) v.0.lexeme (reads_row end (closed_at symbols variables p rs qs es) (label v.0) (behind_first (labelled grammar.automaton v) ++ rest) e k)

  only_automaton : (v : Value grammar.automaton) (p : Parts) (rs qs : Sides) (es : List Entry) (rest : List Label) (e : Declared) → AreRead symbols variables p rs qs es → (p.automata ≡ [] → p.approximations ≡ []) → NotOpening rest
      → reads end (closed_at symbols variables p rs qs es) (labelled grammar.automaton v ++ rest) ≡ Ok e → SectionOnly (inr (inl v)) p rest e
  only_automaton v p rs qs es rest e h late clear k =
      let d = state symbols variables p rs qs es in
      let a = automaton_of v in
      let room = room_for v p rs qs es rest e k in
      let o = (automaton_tied end d distinct short_symbols (fresh symbols variables p rs qs es late room) v).only rest e clear k in
      record {
        rules = rs;
        equations = qs;
        entries = es;
        title = o.0.title;
        late = tt;
        allowed = push_automaton (AreRuleSides (names_of_sides symbols variables)) (AreEquationSides (names_of_sides symbols variables)) symbols variables a p rs qs es h room (record { states = o.0.states; described = o.0.described; final_states = o.0.final_states; transitions = o.0.transitions });
        behind = ap (λ s. reads end s rest) (sym (behind_automaton symbols variables p rs qs es late a room)) ∙ o.1;
      }

  only_approximation : (v : Value grammar.approximation) (p : Parts) (rs qs : Sides) (es : List Entry) (rest : List Label) (e : Declared) → AreRead symbols variables p rs qs es
      → reads end (closed_at symbols variables p rs qs es) (labelled grammar.approximation v ++ rest) ≡ Ok e → SectionOnly (inr (inr (inr v))) p rest e
  only_approximation v p rs qs es rest e h k =
      let d = state symbols variables p rs qs es in
      let added = map state_of v.1.1.1.0 in
      let ds = map approximation_rule_of v.1.1.1.1.1 in
      let title = text_of v.1.0 in
      let o = (approximation_tied {end = end} patterns d (short_at p rs qs es h.states.short) h.states h.few_entries v).only rest e tt k in
      let some = there_are_some p.automata o.0.1.role.late in
      record {
        rules = rs;
        equations = qs;
        entries = es ++ o.0.0;
        title = o.0.1.short_title;
        late = some;
        allowed = push_approximation (AreRuleSides (names_of_sides symbols variables)) (AreEquationSides (names_of_sides symbols variables)) symbols variables title added ds p rs qs es o.0.0 h some o.0.1.role.once o.0.1.states o.0.1.entries.from o.0.1.entries.few;
        behind = ap (λ s. reads end (closed s) rest) (sym (behind_approximation symbols variables title added ds p rs qs es o.0.0 o.0.1.role.once)) ∙ o.1;
      }

  pub section_only : (v : Value grammar.section) (p : Parts) (rs qs : Sides) (es : List Entry) (rest : List Label) (e : Declared) → AreRead symbols variables p rs qs es → (p.automata ≡ [] → p.approximations ≡ []) → NotOpening rest
      → reads end (closed_at symbols variables p rs qs es) (labelled grammar.section v ++ rest) ≡ Ok e → SectionOnly v p rest e
  section_only (inl v) p rs qs es rest e h late clear k = only_system v p rs qs es rest e h clear k
  section_only (inr (inl v)) p rs qs es rest e h late clear k = only_automaton v p rs qs es rest e h late clear k
  section_only (inr (inr (inl v))) p rs qs es rest e h late clear k = only_equations v p rs qs es rest e h clear k
  section_only (inr (inr (inr v))) p rs qs es rest e h late clear k = only_approximation v p rs qs es rest e h k
