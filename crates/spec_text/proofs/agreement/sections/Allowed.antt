-- What sections may declare, kind by kind, and one section more.
use Rattle.std.proofs.Common.{◌≡◌, ◌+◌, ◌<◌, ◌≤◌, List, [], ◌∷◌, ◌++◌, length, All, Contains, refl, sym, ap, subst, length-append, arith}
use Rattle.std.specs.List.{AllZip}
use Rattle.std.proofs.lemmas.List.{append-nil}
use Rattle.std.proofs.lemmas.List.Elements.{All-push}
use Rattle.ranked_terms.specs.Names.{Symbol, names_of}
use Rattle.trs_rules.specs.declared.entry.Entry.{Entry}
use Rattle.spec_text.specs.Declarations.{Text}
use Rattle.spec_text.specs.Source.{RuleDeclaration, EquationDeclaration, AutomatonDeclaration, ApproximationRule, system, automaton, equations, approximation}
use Rattle.spec_text.specs.Naming.{AreNewNames, Names, IsTransition}
use Rattle.spec_text.specs.SpecText.{IsEntryFrom, entries_of, all_of}
use Rattle.spec_text.proofs.agreement.approximation.Section.{cut, both}
use Rattle.spec_text.proofs.agreement.names.Texts.{AreNewNames-front}
use Rattle.spec_text.proofs.agreement.sections.Parts.{Parts, all_front, all_last, all_of-push, extra_of, first_states, first_rules, initial_states, no_approximation, none_left, none_zip, rules_of, with_section}

-- ---- what is allowed

-- an automaton may be declared so
pub record IsDeclarable (symbols : List Symbol) (variables : List Text) (a : AutomatonDeclaration) : Type 0 where
  pub states : AreNewNames (names_of symbols ++ variables) 16384 a.states
  pub described : All (Contains a.states) a.described
  pub final_states : All (Contains a.states) a.finals
  pub transitions : All (IsTransition symbols a.states) a.transitions

module _ {P Q : Type 0} (R : RuleDeclaration → P → Type 0) (T : EquationDeclaration → Q → Type 0) (symbols : List Symbol) (variables : List Text) where
  abbrev names_with : List Text → Names
  names_with states = record { symbols = symbols; variables = variables; states = states }

  -- sections may stand so, with these rules, equations and entries
  pub record AreAllowed (p : Parts) (rs : List P) (qs : List Q) (es : List Entry) : Type 0 where
    pub one_system : length p.systems ≤ 1
    pub few_rules : length rs ≤ 4096
    pub rules : AllZip R (all_of p.systems) rs
    pub one_equations : length p.equations ≤ 1
    pub few_equations : length qs ≤ 1024
    pub equations : AllZip T (all_of p.equations) qs
    pub two_automata : length p.automata ≤ 2
    pub automata : All (IsDeclarable symbols variables) p.automata
    pub one_approximation : length p.approximations ≤ 1
    pub late : p.automata ≡ [] → p.approximations ≡ []
    pub states : AreNewNames (names_of symbols ++ variables) 16384 (initial_states p.automata ++ extra_of p.approximations)
    pub few_entries : length es ≤ 1024
    pub entries : AllZip (IsEntryFrom (names_with (initial_states p.automata ++ extra_of p.approximations))) (entries_of (rules_of p.approximations)) es

  -- ---- one section more

  pub push_system : (title : Text) (ds : List RuleDeclaration) (p : Parts) (rs more : List P) (qs : List Q) (es : List Entry) → AreAllowed p rs qs es
      → length p.systems < 1 → AllZip R ds more → length rs + length more ≤ 4096 → AreAllowed (with_section (system title ds) p) (rs ++ more) qs es
  push_system title ds p rs more qs es h room rules few = record {
    one_system = omega (arith, room, length-append p.systems (ds ∷ []));
    few_rules = omega (arith, few, length-append rs more);
    rules = subst (λ l. AllZip R l (rs ++ more)) (sym (all_of-push p.systems ds)) (both R (all_of p.systems) ds rs more h.rules rules);
    one_equations = h.one_equations;
    few_equations = h.few_equations;
    equations = h.equations;
    two_automata = h.two_automata;
    automata = h.automata;
    one_approximation = h.one_approximation;
    late = h.late;
    states = h.states;
    few_entries = h.few_entries;
    entries = h.entries;
  }

  pub push_equations : (title : Text) (ds : List EquationDeclaration) (p : Parts) (rs : List P) (qs more : List Q) (es : List Entry) → AreAllowed p rs qs es
      → length p.equations < 1 → AllZip T ds more → length qs + length more ≤ 1024 → AreAllowed (with_section (equations title ds) p) rs (qs ++ more) es
  push_equations title ds p rs qs more es h room rules few = record {
    one_system = h.one_system;
    few_rules = h.few_rules;
    rules = h.rules;
    one_equations = omega (arith, room, length-append p.equations (ds ∷ []));
    few_equations = omega (arith, few, length-append qs more);
    equations = subst (λ l. AllZip T l (qs ++ more)) (sym (all_of-push p.equations ds)) (both T (all_of p.equations) ds qs more h.equations rules);
    two_automata = h.two_automata;
    automata = h.automata;
    one_approximation = h.one_approximation;
    late = h.late;
    states = h.states;
    few_entries = h.few_entries;
    entries = h.entries;
  }

  -- a system that stands last
  pub record IsLastSystem (ds : List RuleDeclaration) (p : Parts) (rs : List P) (qs : List Q) (es : List Entry) : Type 0 where
    pub front : List P
    pub own : List P
    pub is : front ++ own ≡ rs
    pub before : AreAllowed p front qs es
    pub room : length p.systems < 1
    pub rules : AllZip R ds own
    pub few : length front + length own ≤ 4096

  pub pop_system : (title : Text) (ds : List RuleDeclaration) (p : Parts) (rs : List P) (qs : List Q) (es : List Entry) → AreAllowed (with_section (system title ds) p) rs qs es → IsLastSystem ds p rs qs es
  pop_system title ds p rs qs es h =
      let c = cut R (all_of p.systems) ds rs (subst (λ l. AllZip R l rs) (all_of-push p.systems ds) h.rules) in
      let lengths : length (c.front ++ c.back) ≡ length rs = ap length c.is in
      record {
        front = c.front;
        own = c.back;
        is = c.is;
        before = record {
          one_system = omega (arith, h.one_system, length-append p.systems (ds ∷ []));
          few_rules = omega (arith, h.few_rules, lengths, length-append c.front c.back);
          rules = c.is_front;
          one_equations = h.one_equations;
          few_equations = h.few_equations;
          equations = h.equations;
          two_automata = h.two_automata;
          automata = h.automata;
          one_approximation = h.one_approximation;
          late = h.late;
          states = h.states;
          few_entries = h.few_entries;
          entries = h.entries;
        };
        room = omega (arith, h.one_system, length-append p.systems (ds ∷ []));
        rules = c.is_back;
        few = omega (arith, h.few_rules, lengths, length-append c.front c.back);
      }

  pub record IsLastEquations (ds : List EquationDeclaration) (p : Parts) (rs : List P) (qs : List Q) (es : List Entry) : Type 0 where
    pub front : List Q
    pub own : List Q
    pub is : front ++ own ≡ qs
    pub before : AreAllowed p rs front es
    pub room : length p.equations < 1
    pub equations : AllZip T ds own
    pub few : length front + length own ≤ 1024

  pub pop_equations : (title : Text) (ds : List EquationDeclaration) (p : Parts) (rs : List P) (qs : List Q) (es : List Entry) → AreAllowed (with_section (equations title ds) p) rs qs es → IsLastEquations ds p rs qs es
  pop_equations title ds p rs qs es h =
      let c = cut T (all_of p.equations) ds qs (subst (λ l. AllZip T l qs) (all_of-push p.equations ds) h.equations) in
      let lengths : length (c.front ++ c.back) ≡ length qs = ap length c.is in
      record {
        front = c.front;
        own = c.back;
        is = c.is;
        before = record {
          one_system = h.one_system;
          few_rules = h.few_rules;
          rules = h.rules;
          one_equations = omega (arith, h.one_equations, length-append p.equations (ds ∷ []));
          few_equations = omega (arith, h.few_equations, lengths, length-append c.front c.back);
          equations = c.is_front;
          two_automata = h.two_automata;
          automata = h.automata;
          one_approximation = h.one_approximation;
          late = h.late;
          states = h.states;
          few_entries = h.few_entries;
          entries = h.entries;
        };
        room = omega (arith, h.one_equations, length-append p.equations (ds ∷ []));
        equations = c.is_back;
        few = omega (arith, h.few_equations, lengths, length-append c.front c.back);
      }

  -- ---- an automaton more

  states_behind : (automata : List AutomatonDeclaration) (approximations : List (List Text × List ApproximationRule)) (a : AutomatonDeclaration) → (automata ≡ [] → approximations ≡ [])
      → AreNewNames (names_of symbols ++ variables) 16384 a.states → AreNewNames (names_of symbols ++ variables) 16384 (initial_states automata ++ extra_of approximations)
      → AreNewNames (names_of symbols ++ variables) 16384 (initial_states (automata ++ a ∷ []) ++ extra_of approximations)
  states_behind [] approximations a late new h =
      subst (λ l. AreNewNames (names_of symbols ++ variables) 16384 (a.states ++ extra_of l)) (sym (late refl)) (subst (AreNewNames (names_of symbols ++ variables) 16384) (sym (append-nil a.states)) new)
  states_behind (first ∷ others) approximations a late new h = h

  entries_behind : (automata : List AutomatonDeclaration) (approximations : List (List Text × List ApproximationRule)) (a : AutomatonDeclaration) → (automata ≡ [] → approximations ≡ []) → (es : List Entry)
      → AllZip (IsEntryFrom (names_with (initial_states automata ++ extra_of approximations))) (entries_of (rules_of approximations)) es
      → AllZip (IsEntryFrom (names_with (initial_states (automata ++ a ∷ []) ++ extra_of approximations))) (entries_of (rules_of approximations)) es
  entries_behind [] approximations a late es h =
      let none = late refl in
      subst (λ l. AllZip (IsEntryFrom (names_with (a.states ++ extra_of l))) (entries_of (rules_of l)) es) (sym none)
      (none_zip (IsEntryFrom (names_with [])) (IsEntryFrom (names_with (a.states ++ []))) es (subst (λ l. AllZip (IsEntryFrom (names_with (extra_of l))) (entries_of (rules_of l)) es) none h))
  entries_behind (first ∷ others) approximations a late es h = h

  entries_before : (automata : List AutomatonDeclaration) (approximations : List (List Text × List ApproximationRule)) (a : AutomatonDeclaration) → (automata ≡ [] → approximations ≡ []) → (es : List Entry)
      → AllZip (IsEntryFrom (names_with (initial_states (automata ++ a ∷ []) ++ extra_of approximations))) (entries_of (rules_of approximations)) es
      → AllZip (IsEntryFrom (names_with (initial_states automata ++ extra_of approximations))) (entries_of (rules_of approximations)) es
  entries_before [] approximations a late es h =
      let none = late refl in
      subst (λ l. AllZip (IsEntryFrom (names_with (extra_of l))) (entries_of (rules_of l)) es) (sym none)
      (none_zip (IsEntryFrom (names_with (a.states ++ []))) (IsEntryFrom (names_with [])) es (subst (λ l. AllZip (IsEntryFrom (names_with (a.states ++ extra_of l))) (entries_of (rules_of l)) es) none h))
  entries_before (first ∷ others) approximations a late es h = h

  states_before : (automata : List AutomatonDeclaration) (approximations : List (List Text × List ApproximationRule)) (a : AutomatonDeclaration) → (automata ≡ [] → approximations ≡ [])
      → AreNewNames (names_of symbols ++ variables) 16384 (initial_states (automata ++ a ∷ []) ++ extra_of approximations)
      → AreNewNames (names_of symbols ++ variables) 16384 (initial_states automata ++ extra_of approximations)
  states_before [] approximations a late h =
      subst (λ l. AreNewNames (names_of symbols ++ variables) 16384 (extra_of l)) (sym (late refl)) (AreNewNames-front (names_of symbols ++ variables) 16384 [] (a.states ++ extra_of approximations) h)
  states_before (first ∷ others) approximations a late h = h

  no_last : (automata : List AutomatonDeclaration) (a : AutomatonDeclaration) → automata ++ a ∷ [] ≡ [] → ⊥
  no_last automata a e = let lengths : length (automata ++ a ∷ []) ≡ 0 = ap length e in omega (arith, lengths, length-append automata (a ∷ []))

  pub push_automaton : (a : AutomatonDeclaration) (p : Parts) (rs : List P) (qs : List Q) (es : List Entry) → AreAllowed p rs qs es
      → length p.automata < 2 → IsDeclarable symbols variables a → AreAllowed (with_section (automaton a) p) rs qs es
  push_automaton a p rs qs es h room k = record {
    one_system = h.one_system;
    few_rules = h.few_rules;
    rules = h.rules;
    one_equations = h.one_equations;
    few_equations = h.few_equations;
    equations = h.equations;
    two_automata = omega (arith, room, length-append p.automata (a ∷ []));
    automata = All-push (IsDeclarable symbols variables) p.automata a h.automata k;
    one_approximation = h.one_approximation;
    late = λ e. absurd (no_last p.automata a e);
    states = states_behind p.automata p.approximations a h.late k.states h.states;
    few_entries = h.few_entries;
    entries = entries_behind p.automata p.approximations a h.late es h.entries;
  }

  -- an automaton that stands last
  pub record IsLastAutomaton (a : AutomatonDeclaration) (p : Parts) (rs : List P) (qs : List Q) (es : List Entry) : Type 0 where
    pub before : AreAllowed p rs qs es
    pub room : length p.automata < 2
    pub declarable : IsDeclarable symbols variables a

  pub pop_automaton : (a : AutomatonDeclaration) (p : Parts) (rs : List P) (qs : List Q) (es : List Entry) → (p.automata ≡ [] → p.approximations ≡ []) → AreAllowed (with_section (automaton a) p) rs qs es → IsLastAutomaton a p rs qs es
  pop_automaton a p rs qs es late h = record {
    before = record {
      one_system = h.one_system;
      few_rules = h.few_rules;
      rules = h.rules;
      one_equations = h.one_equations;
      few_equations = h.few_equations;
      equations = h.equations;
      two_automata = omega (arith, h.two_automata, length-append p.automata (a ∷ []));
      automata = all_front (IsDeclarable symbols variables) p.automata (a ∷ []) h.automata;
      one_approximation = h.one_approximation;
      late = late;
      states = states_before p.automata p.approximations a late h.states;
      few_entries = h.few_entries;
      entries = entries_before p.automata p.approximations a late es h.entries;
    };
    room = omega (arith, h.two_automata, length-append p.automata (a ∷ []));
    declarable = all_last (IsDeclarable symbols variables) p.automata a h.automata;
  }

  -- ---- an approximation more

  pub push_approximation : (title : Text) (names : List Text) (rules : List ApproximationRule) (p : Parts) (rs : List P) (qs : List Q) (es more : List Entry) → AreAllowed p rs qs es
      → 1 ≤ length p.automata → length p.approximations < 1 → AreNewNames (names_of symbols ++ variables) 16384 ((initial_states p.automata ++ extra_of p.approximations) ++ names)
      → AllZip (IsEntryFrom (names_with ((initial_states p.automata ++ extra_of p.approximations) ++ names))) (entries_of rules) more → length es + length more ≤ 1024
      → AreAllowed (with_section (approximation title names rules) p) rs qs (es ++ more)
  push_approximation title names rules p rs qs es more h some room new entries few =
      let none = no_approximation p.approximations room in
      let no_entries : [] ≡ es = none_left (IsEntryFrom (names_with (initial_states p.automata ++ extra_of []))) es (subst (λ l. AllZip (IsEntryFrom (names_with (initial_states p.automata ++ extra_of l))) (entries_of (rules_of l)) es) none h.entries) in
      let states_are = first_states (initial_states p.automata) p.approximations names rules none in
      let rules_are = first_rules p.approximations names rules none in
      record {
        one_system = h.one_system;
        few_rules = h.few_rules;
        rules = h.rules;
        one_equations = h.one_equations;
        few_equations = h.few_equations;
        equations = h.equations;
        two_automata = h.two_automata;
        automata = h.automata;
        one_approximation = omega (arith, room, length-append p.approximations ((names, rules) ∷ []));
        late = λ e. let lengths : length p.automata ≡ 0 = ap length e in absurd (omega (arith, lengths, some));
        states = subst (AreNewNames (names_of symbols ++ variables) 16384) states_are new;
        few_entries = omega (arith, few, length-append es more);
        entries = subst (λ l. AllZip (IsEntryFrom (names_with (initial_states p.automata ++ extra_of (p.approximations ++ (names, rules) ∷ [])))) (entries_of (rules_of (p.approximations ++ (names, rules) ∷ []))) (l ++ more)) no_entries
            (subst (λ (z : List Text × List ApproximationRule). AllZip (IsEntryFrom (names_with z.0)) (entries_of z.1) more) (λ i. (states_are i, rules_are i)) entries);
      }

  -- an approximation that stands last
  pub record IsLastApproximation (names : List Text) (rules : List ApproximationRule) (p : Parts) (rs : List P) (qs : List Q) (es : List Entry) : Type 0 where
    pub before : AreAllowed p rs qs []
    pub some : 1 ≤ length p.automata
    pub room : length p.approximations < 1
    pub states : AreNewNames (names_of symbols ++ variables) 16384 ((initial_states p.automata ++ extra_of p.approximations) ++ names)
    pub entries : AllZip (IsEntryFrom (names_with ((initial_states p.automata ++ extra_of p.approximations) ++ names))) (entries_of rules) es
    pub few : length es ≤ 1024

  some_automaton : (automata : List AutomatonDeclaration) (approximations : List (List Text × List ApproximationRule)) (x : List Text × List ApproximationRule) → (automata ≡ [] → approximations ++ x ∷ [] ≡ []) → 1 ≤ length automata
  some_automaton [] approximations x late = let lengths : length (approximations ++ x ∷ []) ≡ 0 = ap length (late refl) in absurd (omega (arith, lengths, length-append approximations (x ∷ [])))
  some_automaton (a ∷ automata) approximations x late = omega arith

  pub pop_approximation : (title : Text) (names : List Text) (rules : List ApproximationRule) (p : Parts) (rs : List P) (qs : List Q) (es : List Entry) → AreAllowed (with_section (approximation title names rules) p) rs qs es → IsLastApproximation names rules p rs qs es
  pop_approximation title names rules p rs qs es h =
      let room : length p.approximations < 1 = omega (arith, h.one_approximation, length-append p.approximations ((names, rules) ∷ [])) in
      let none = no_approximation p.approximations room in
      let states_are = first_states (initial_states p.automata) p.approximations names rules none in
      let rules_are = first_rules p.approximations names rules none in
      let new = subst (AreNewNames (names_of symbols ++ variables) 16384) (sym states_are) h.states in
      record {
        before = record {
          one_system = h.one_system;
          few_rules = h.few_rules;
          rules = h.rules;
          one_equations = h.one_equations;
          few_equations = h.few_equations;
          equations = h.equations;
          two_automata = h.two_automata;
          automata = h.automata;
          one_approximation = omega (arith, room);
          late = λ e. none;
          states = AreNewNames-front (names_of symbols ++ variables) 16384 (initial_states p.automata ++ extra_of p.approximations) names new;
          few_entries = omega arith;
          entries = subst (λ l. AllZip (IsEntryFrom (names_with (initial_states p.automata ++ extra_of l))) (entries_of (rules_of l)) []) (sym none) tt;
        };
        some = some_automaton p.automata p.approximations (names, rules) h.late;
        room = room;
        states = new;
        entries = subst (λ (z : List Text × List ApproximationRule). AllZip (IsEntryFrom (names_with z.0)) (entries_of z.1) es) (λ i. (sym states_are i, sym rules_are i)) h.entries;
        few = h.few_entries;
      }
