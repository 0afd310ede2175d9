-- What declarations spell, by the state behind their sections.
use Rattle.std.proofs.Common.{◌≡◌, ◌-◌, ◌≤◌, List, [], ◌∷◌, ◌++◌, length, map, All, refl, sym, ap, subst, ◌∙◌, length-append, arith}
use Rattle.std.specs.List.{AllZip}
use Rattle.std.proofs.lemmas.List.{length-map}
use Rattle.std.proofs.lemmas.List.Elements.{All-nil, All-cons, All-head, All-tail}
use Rattle.ranked_terms.specs.Names.{Symbol, names_of}
use Rattle.trs_rules.specs.Rules.{RewriteRule, RewriteEquation, IsRule, IsEquation}
use Rattle.trs_rules.specs.declared.entry.Entry.{Entry}
use Rattle.ta_core.specs.TreeAutomaton.{TreeAutomaton}
use Rattle.ta_core.specs.declared.spec.Spec.{Spec}
use Rattle.spec_text.specs.Declarations.{Text, Started}
use Rattle.spec_text.specs.Source.{RuleDeclaration, EquationDeclaration, AutomatonDeclaration, Source}
use Rattle.spec_text.specs.Naming.{AreNewNames, AreSymbols, signature_of, Names}
use Rattle.spec_text.specs.SpecText.{systems_in, automata_in, equations_in, all_of, IsRuleFrom, IsEquationFrom, IsEntryFrom, IsAutomatonFrom, IsForbiddenFrom, extra_states, approximation_rules, entries_of, Spells}
use Rattle.spec_text.specs.Spelled.{IsAutomatonOf, IsSpecOf}
use Rattle.spec_text.proofs.agreement.rules.Rules.{rule_sides}
use Rattle.spec_text.proofs.agreement.rules.Equations.{equation_sides}
use Rattle.spec_text.proofs.agreement.automata.Section.{started_by}
use Rattle.spec_text.proofs.agreement.automata.Specs.{IsStartedBy, started_by-is, automaton_from, automaton_to, bare-none, none-bare}
use Rattle.spec_text.proofs.agreement.sections.Parts.{parts_of, initial_states}
use Rattle.spec_text.proofs.agreement.sections.Allowed.{IsDeclarable}
use Rattle.spec_text.proofs.agreement.sections.One.{AreRuleSides, AreEquationSides}
use Rattle.spec_text.proofs.agreement.sections.States.{Sides, initial_of, second_of, names_of_sides, AreSpelled, AreRead, closed_at, spelled_at}
use Rattle.spec_text.proofs.agreement.sections.Many.{AreOrderly}
use Rattle.spec_text.proofs.agreement.names.Texts.{AreNewNames-front}

-- ---- rules and equations

pub all_rules : (names : Names) (ds : List RuleDeclaration) (rs : List RewriteRule) → AllZip (IsRuleFrom names) ds rs → All IsRule rs
all_rules names [] [] h = All-nil IsRule
all_rules names [] (r ∷ rs) h = absurd h
all_rules names (d ∷ ds) [] h = absurd h
all_rules names (d ∷ ds) (r ∷ rs) h = All-cons IsRule r rs h.0.is_rule (all_rules names ds rs h.1)

pub all_equations : (names : Names) (ds : List EquationDeclaration) (qs : List RewriteEquation) → AllZip (IsEquationFrom names) ds qs → All IsEquation qs
all_equations names [] [] h = All-nil IsEquation
all_equations names [] (q ∷ qs) h = absurd h
all_equations names (d ∷ ds) [] h = absurd h
all_equations names (d ∷ ds) (q ∷ qs) h = All-cons IsEquation q qs h.0.is_equation (all_equations names ds qs h.1)

rules_by_sides : (names : Names) (ds : List RuleDeclaration) (rs : List RewriteRule) → All IsRule rs → AllZip (AreRuleSides names) ds (map rule_sides rs) → AllZip (IsRuleFrom names) ds rs
rules_by_sides names [] [] are h = tt
rules_by_sides names [] (r ∷ rs) are h = absurd h
rules_by_sides names (d ∷ ds) [] are h = absurd h
rules_by_sides names (d ∷ ds) (r ∷ rs) are h = (
  record { left = h.0.left; right = h.0.right; left_nesting = h.0.left_nesting; right_nesting = h.0.right_nesting; is_rule = All-head IsRule r rs are },
  rules_by_sides names ds rs (All-tail IsRule r rs are) h.1,
)

equations_by_sides : (names : Names) (ds : List EquationDeclaration) (qs : List RewriteEquation) → All IsEquation qs → AllZip (AreEquationSides names) ds (map equation_sides qs) → AllZip (IsEquationFrom names) ds qs
equations_by_sides names [] [] are h = tt
equations_by_sides names [] (q ∷ qs) are h = absurd h
equations_by_sides names (d ∷ ds) [] are h = absurd h
equations_by_sides names (d ∷ ds) (q ∷ qs) are h = (
  record { left = h.0.left; right = h.0.right; left_nesting = h.0.left_nesting; right_nesting = h.0.right_nesting; is_equation = All-head IsEquation q qs are },
  equations_by_sides names ds qs (All-tail IsEquation q qs are) h.1,
)

-- ---- automata

module _ (symbols : List Symbol) (variables : List Text) where
  abbrev taken : List Text
  taken = names_of symbols ++ variables

  -- the automata that a spec has may be declared
  record AreDeclarable (automata : List AutomatonDeclaration) : Type 0 where
    each : All (IsDeclarable symbols variables) automata
    few : length automata ≤ 2

  declarable : (a : AutomatonDeclaration) (A : TreeAutomaton) → AreNewNames taken 16384 a.states → IsAutomatonFrom symbols a A → IsDeclarable symbols variables a
  declarable a A new h = record { states = new; described = h.described; final_states = h.final_states; transitions = h.transitions }

  are_declarable : (first : AutomatonDeclaration) (others : List AutomatonDeclaration) (A B : TreeAutomaton) → AreNewNames taken 16384 first.states → IsAutomatonFrom symbols first A → IsForbiddenFrom symbols taken others B → AreDeclarable (first ∷ others)
  are_declarable first [] A B new h k = record { each = All-cons (IsDeclarable symbols variables) first [] (declarable first A new h) (All-nil (IsDeclarable symbols variables)); few = omega arith }
  are_declarable first (second ∷ []) A B new h k = record { each = All-cons (IsDeclarable symbols variables) first (second ∷ []) (declarable first A new h) (All-cons (IsDeclarable symbols variables) second [] (declarable second B k.0 k.1) (All-nil (IsDeclarable symbols variables))); few = omega arith }
  are_declarable first (second ∷ third ∷ others) A B new h k = absurd k

  -- the first automaton, with the approximation's states
  abbrev with_all : AutomatonDeclaration → List Text → Started
  with_all first extra = record (started_by symbols first) { states = first.states ++ extra }

  first_count : (first : AutomatonDeclaration) (extra : List Text) → length first.states ≡ length (first.states ++ extra) - length extra
  first_count first extra = omega (arith, length-append first.states extra)

  first_started : (first : AutomatonDeclaration) (extra : List Text) → IsStartedBy symbols first (with_all first extra)
  first_started first extra = record { finals = refl; trans = refl; eps = refl }

  first_to : (first : AutomatonDeclaration) (extra : List Text) (A : TreeAutomaton) → IsAutomatonFrom symbols first A → IsAutomatonOf (length (first.states ++ extra) - length extra) (with_all first extra) A
  first_to first extra A h = subst (λ n. IsAutomatonOf n (with_all first extra) A) (first_count first extra) (automaton_to symbols first (with_all first extra) A (first_started first extra) h)

  first_from : (first : AutomatonDeclaration) (extra : List Text) (A : TreeAutomaton) → IsDeclarable symbols variables first → IsAutomatonOf (length (first.states ++ extra) - length extra) (with_all first extra) A → IsAutomatonFrom symbols first A
  first_from first extra A k h =
      automaton_from symbols first (with_all first extra) A (first_started first extra) k.described k.final_states k.transitions
      (subst (λ n. IsAutomatonOf n (with_all first extra) A) (sym (first_count first extra)) h)

  other_to : (first : AutomatonDeclaration) (others : List AutomatonDeclaration) (A : TreeAutomaton) → IsForbiddenFrom symbols taken others A → IsAutomatonOf (length (second_of symbols (first ∷ others)).states) (second_of symbols (first ∷ others)) A
  other_to first [] A h = none-bare A h
  other_to first (second ∷ []) A h = automaton_to symbols second (started_by symbols second) A (started_by-is symbols second) h.1
  other_to first (second ∷ third ∷ others) A h = absurd h

  other_from : (first : AutomatonDeclaration) (others : List AutomatonDeclaration) (A : TreeAutomaton) → AreDeclarable (first ∷ others)
      → IsAutomatonOf (length (second_of symbols (first ∷ others)).states) (second_of symbols (first ∷ others)) A → IsForbiddenFrom symbols taken others A
  other_from first [] A k h = bare-none A h
  other_from first (second ∷ []) A k h =
      let b = All-head (IsDeclarable symbols variables) second [] (All-tail (IsDeclarable symbols variables) first (second ∷ []) k.each) in
      (b.states, automaton_from symbols second (started_by symbols second) A (started_by-is symbols second) b.described b.final_states b.transitions h)
  other_from first (second ∷ third ∷ others) A k h = absurd (omega (arith, k.few))

-- ---- what is spelled

-- the symbols and variables of these declarations
abbrev pub symbols_of : Source → List Symbol
symbols_of source = signature_of source.symbols

-- a source that spells a spec, by its sections
pub record IsSpelledBy (source : Source) (spec : Spec) : Type 0 where
  pub symbols : AreSymbols source.symbols
  pub variables : AreNewNames (names_of (symbols_of source)) 1024 source.variables
  pub orderly : AreOrderly source.sections
  pub some : 1 ≤ length (automata_in source.sections)
  pub spelled : AreSpelled (symbols_of source) source.variables (parts_of source.sections) spec.rules spec.equations spec.entries
  pub spec_of : IsSpecOf (spelled_at (symbols_of source) source.variables (parts_of source.sections) spec.rules spec.equations spec.entries) spec

module _ (source : Source) (spec : Spec) (h : Spells source spec) where
  -- a fact about the signature and the variables of the spec
  abbrev here : (F : List Symbol → List Text → Type 0) → F spec.signature spec.vars → F (symbols_of source) source.variables
  here F k = subst (λ (z : List Symbol × List Text). F z.0 z.1) (λ i. (h.signature i, h.vars i)) k

  new_states : AreNewNames (names_of (symbols_of source) ++ source.variables) 16384 (h.first.states ++ extra_states source.sections)
  new_states = here (λ ss vs. AreNewNames (names_of ss ++ vs) 16384 (h.first.states ++ extra_states source.sections)) h.states

  initial : IsAutomatonFrom (symbols_of source) h.first spec.initial
  initial = subst (λ ss. IsAutomatonFrom ss h.first spec.initial) h.signature h.initial

  forbidden : IsForbiddenFrom (symbols_of source) (names_of (symbols_of source) ++ source.variables) h.others spec.forbidden
  forbidden = here (λ ss vs. IsForbiddenFrom ss (names_of ss ++ vs) h.others spec.forbidden) h.forbidden

  automata : AreDeclarable (symbols_of source) source.variables (h.first ∷ h.others)
  automata = are_declarable (symbols_of source) source.variables h.first h.others spec.initial spec.forbidden
      (AreNewNames-front (names_of (symbols_of source) ++ source.variables) 16384 h.first.states (extra_states source.sections) new_states) initial forbidden

  -- a fact about the automata
  abbrev there : (F : List AutomatonDeclaration → Type 0) → F (h.first ∷ h.others) → F (automata_in source.sections)
  there F k = subst F (sym h.automata) k

  rules : AllZip (IsRuleFrom (names_of_sides (symbols_of source) source.variables)) (all_of (systems_in source.sections)) spec.rules
  rules = here (λ ss vs. AllZip (IsRuleFrom (record { symbols = ss; variables = vs; states = [] })) (all_of (systems_in source.sections)) spec.rules) h.rules

  equations : AllZip (IsEquationFrom (names_of_sides (symbols_of source) source.variables)) (all_of (equations_in source.sections)) spec.equations
  equations = here (λ ss vs. AllZip (IsEquationFrom (record { symbols = ss; variables = vs; states = [] })) (all_of (equations_in source.sections)) spec.equations) h.equations

  entries : AllZip (IsEntryFrom (record { symbols = symbols_of source; variables = source.variables; states = h.first.states ++ extra_states source.sections })) (entries_of (approximation_rules source.sections)) spec.entries
  entries = here (λ ss vs. AllZip (IsEntryFrom (record { symbols = ss; variables = vs; states = h.first.states ++ extra_states source.sections })) (entries_of (approximation_rules source.sections)) spec.entries) h.entries

  no_automaton : automata_in source.sections ≡ [] → ⊥
  no_automaton e = let none : h.first ∷ h.others ≡ [] = sym h.automata ∙ e in cc

  pub spelled_by : IsSpelledBy source spec
  spelled_by = record {
    symbols = h.symbols;
    variables = subst (λ ss. AreNewNames (names_of ss) 1024 source.variables) h.signature h.variables;
    orderly = record { titles = h.titles; early = h.none_early };
    some = there (λ l. 1 ≤ length l) (omega arith);
    spelled = record {
      one_system = h.one_system;
      few_rules = h.few_rules;
      rules = rules;
      one_equations = h.one_equations;
      few_equations = h.few_equations;
      equations = equations;
      two_automata = there (λ l. length l ≤ 2) automata.few;
      automata = there (λ l. All (IsDeclarable (symbols_of source) source.variables) l) automata.each;
      one_approximation = h.one_approximation;
      late = λ e. absurd (no_automaton e);
      states = there (λ l. AreNewNames (names_of (symbols_of source) ++ source.variables) 16384 (initial_states l ++ extra_states source.sections)) new_states;
      few_entries = h.few_entries;
      entries = there (λ l. AllZip (IsEntryFrom (record { symbols = symbols_of source; variables = source.variables; states = initial_states l ++ extra_states source.sections })) (entries_of (approximation_rules source.sections)) spec.entries) entries;
    };
    spec_of = record {
      signature = h.signature;
      vars = h.vars;
      rules = refl;
      are_rules = all_rules (names_of_sides (symbols_of source) source.variables) (all_of (systems_in source.sections)) spec.rules rules;
      equations = refl;
      are_equations = all_equations (names_of_sides (symbols_of source) source.variables) (all_of (equations_in source.sections)) spec.equations equations;
      entries = refl;
      extra = h.extra;
      approximated = h.approximated;
      initial = there (λ l. IsAutomatonOf (length (initial_states l ++ extra_states source.sections) - length (extra_states source.sections)) (record (initial_of (symbols_of source) l) { states = initial_states l ++ extra_states source.sections }) spec.initial)
          (first_to (symbols_of source) source.variables h.first (extra_states source.sections) spec.initial initial);
      forbidden = there (λ l. IsAutomatonOf (length (second_of (symbols_of source) l).states) (second_of (symbols_of source) l) spec.forbidden)
          (other_to (symbols_of source) source.variables h.first h.others spec.forbidden forbidden);
    };
  }

-- ---- and what is read

-- a source that is read so, and the spec that has what is read
pub record IsReadAs (source : Source) (spec : Spec) : Type 0 where
  pub symbols : AreSymbols source.symbols
  pub variables : AreNewNames (names_of (symbols_of source)) 1024 source.variables
  pub orderly : AreOrderly source.sections
  pub some : 1 ≤ length (automata_in source.sections)
  pub rules : Sides
  pub equations : Sides
  pub entries : List Entry
  pub read : AreRead (symbols_of source) source.variables (parts_of source.sections) rules equations entries
  pub spec_of : IsSpecOf (closed_at (symbols_of source) source.variables (parts_of source.sections) rules equations entries) spec

module _ (source : Source) (spec : Spec) (h : IsReadAs source spec) where
  -- a fact about the symbols and the variables
  abbrev of_spec : (F : List Symbol → List Text → Type 0) → F (symbols_of source) source.variables → F spec.signature spec.vars
  of_spec F k = subst (λ (z : List Symbol × List Text). F z.0 z.1) (λ i. (sym h.spec_of.signature i, sym h.spec_of.vars i)) k

  rule_sides_are : length spec.rules ≡ length h.rules
  rule_sides_are = sym (length-map spec.rules rule_sides) ∙ ap length h.spec_of.rules

  equation_sides_are : length spec.equations ≡ length h.equations
  equation_sides_are = sym (length-map spec.equations equation_sides) ∙ ap length h.spec_of.equations

  rules_read : AllZip (IsRuleFrom (names_of_sides (symbols_of source) source.variables)) (all_of (systems_in source.sections)) spec.rules
  rules_read =
      rules_by_sides (names_of_sides (symbols_of source) source.variables) (all_of (systems_in source.sections)) spec.rules h.spec_of.are_rules
      (subst (λ rs. AllZip (AreRuleSides (names_of_sides (symbols_of source) source.variables)) (all_of (systems_in source.sections)) rs) (sym h.spec_of.rules) h.read.rules)

  equations_read : AllZip (IsEquationFrom (names_of_sides (symbols_of source) source.variables)) (all_of (equations_in source.sections)) spec.equations
  equations_read =
      equations_by_sides (names_of_sides (symbols_of source) source.variables) (all_of (equations_in source.sections)) spec.equations h.spec_of.are_equations
      (subst (λ qs. AllZip (AreEquationSides (names_of_sides (symbols_of source) source.variables)) (all_of (equations_in source.sections)) qs) (sym h.spec_of.equations) h.read.equations)

  spells_by : (l : List AutomatonDeclaration) → automata_in source.sections ≡ l → Spells source spec
  spells_by [] e = let none : length (automata_in source.sections) ≡ 0 = ap length e in absurd (omega (arith, h.some, none))
  spells_by (first ∷ others) e =
      let ss = symbols_of source in
      let vs = source.variables in
      let extra = extra_states source.sections in
      let automata : AreDeclarable ss vs (first ∷ others) = record { each = subst (All (IsDeclarable ss vs)) e h.read.automata; few = subst (λ l. length l ≤ 2) e h.read.two_automata } in
      let states = subst (λ l. AreNewNames (names_of ss ++ vs) 16384 (initial_states l ++ extra)) e h.read.states in
      let entries = subst (λ l. AllZip (IsEntryFrom (record { symbols = ss; variables = vs; states = initial_states l ++ extra })) (entries_of (approximation_rules source.sections)) h.entries) e h.read.entries in
      let initial = first_from ss vs first extra spec.initial (All-head (IsDeclarable ss vs) first others automata.each)
      (subst (λ l. IsAutomatonOf (length (initial_states l ++ extra) - length extra) (record (initial_of ss l) { states = initial_states l ++ extra }) spec.initial) e h.spec_of.initial) in
      let forbidden = other_from ss vs first others spec.forbidden automata (subst (λ l. IsAutomatonOf (length (second_of ss l).states) (second_of ss l) spec.forbidden) e h.spec_of.forbidden) in
      let rules_count = rule_sides_are in
      let equations_count = equation_sides_are in
      let entries_count : length spec.entries ≡ length h.entries = ap length h.spec_of.entries in
      record {
        titles = h.orderly.titles;
        symbols = h.symbols;
        signature = h.spec_of.signature;
        variables = subst (λ zs. AreNewNames (names_of zs) 1024 vs) (sym h.spec_of.signature) h.variables;
        vars = h.spec_of.vars;
        one_system = h.read.one_system;
        few_rules = omega (arith, h.read.few_rules, rules_count);
        rules = of_spec (λ zs ws. AllZip (IsRuleFrom (record { symbols = zs; variables = ws; states = [] })) (all_of (systems_in source.sections)) spec.rules) rules_read;
        one_equations = h.read.one_equations;
        few_equations = omega (arith, h.read.few_equations, equations_count);
        equations = of_spec (λ zs ws. AllZip (IsEquationFrom (record { symbols = zs; variables = ws; states = [] })) (all_of (equations_in source.sections)) spec.equations) equations_read;
        first = first;
        others = others;
        automata = e;
        states = of_spec (λ zs ws. AreNewNames (names_of zs ++ ws) 16384 (first.states ++ extra)) states;
        initial = subst (λ zs. IsAutomatonFrom zs first spec.initial) (sym h.spec_of.signature) initial;
        forbidden = of_spec (λ zs ws. IsForbiddenFrom zs (names_of zs ++ ws) others spec.forbidden) forbidden;
        one_approximation = h.read.one_approximation;
        none_early = h.orderly.early;
        approximated = h.spec_of.approximated;
        extra = h.spec_of.extra;
        few_entries = omega (arith, h.read.few_entries, entries_count);
        entries = of_spec (λ zs ws. AllZip (IsEntryFrom (record { symbols = zs; variables = ws; states = first.states ++ extra })) (entries_of (approximation_rules source.sections)) spec.entries)
            (subst (λ es. AllZip (IsEntryFrom (record { symbols = ss; variables = vs; states = first.states ++ extra })) (entries_of (approximation_rules source.sections)) es) (sym h.spec_of.entries) entries);
      }

  pub spells : Spells source spec
  spells = spells_by (automata_in source.sections) refl
