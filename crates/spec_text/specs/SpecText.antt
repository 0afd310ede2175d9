-- Which bytes are an input text, and what it spells (this project's own format).
use Rattle.std.specs.Prelude.{◌≡◌, ℕ, ◌≤◌, ◌↔◌, List, [], ◌∷◌, ◌++◌, Some, map, flat_map, length, nat_lt, All, Contains}
use Rattle.std.specs.List.{AllZip, range_with_len}
use Rattle.std.specs.List.Sorted.{IsStrictlySortedBy}
use Rattle.std.specs.Ordering.{nat_cmp}
use Rattle.std.specs.declared.cmp.Ordering.{Ordering}
use Rattle.ranked_terms.specs.Names.{Symbol, names_of}
use Rattle.ranked_terms.specs.declared.term.Shape.{Shape}
use Rattle.trs_rules.specs.Rules.{RewriteRule, RewriteEquation, IsRule, IsEquation}
use Rattle.trs_rules.specs.declared.entry.Entry.{Entry}
use Rattle.ta_core.specs.TreeAutomaton.{TreeAutomaton, bare, trans_cmp, pair_cmp}
use Rattle.ta_core.specs.SpecRules.{entry_variables}
use Rattle.ta_core.specs.declared.spec.Spec.{Spec}
use Rattle.timbuk_lex.specs.Lexing.{lexed}
use Rattle.timbuk_lex.specs.declared.lex.Ending.TheVariants.{Whole}
use Rattle.timbuk_grammar.specs.Grammar.{file}
use Rattle.timbuk_grammar.specs.Trees.{Value, spelling}
use Rattle.spec_text.specs.declared.fault.LimitName.TheVariants as limit
use Rattle.spec_text.specs.Limits.{most}
use Rattle.spec_text.specs.Declarations.{Text}
use Rattle.spec_text.specs.Source.{RuleDeclaration, EquationDeclaration, Arrow, AutomatonDeclaration, ApproximationRule, Section, system, automaton, equations, approximation, Source, source_of}
use Rattle.spec_text.specs.Naming.{IsShort, AreSymbols, AreNewNames, signature_of, Names, stands_for, leaf_shape, node_shape, shape_in, nesting_in, shape_of, leaves, place_in, IsTransition, transitions_in, moves_in}

-- ---- the sections of a kind, in their order

abbrev pub systems_in : List Section → List (List RuleDeclaration)
systems_in [] = []
systems_in (system title rules ∷ more) = rules ∷ systems_in more
systems_in (_ ∷ more) = systems_in more

abbrev pub automata_in : List Section → List AutomatonDeclaration
automata_in [] = []
automata_in (automaton a ∷ more) = a ∷ automata_in more
automata_in (_ ∷ more) = automata_in more

abbrev pub equations_in : List Section → List (List EquationDeclaration)
equations_in [] = []
equations_in (equations title sides ∷ more) = sides ∷ equations_in more
equations_in (_ ∷ more) = equations_in more

abbrev pub approximations_in : List Section → List (List Text × List ApproximationRule)
approximations_in [] = []
approximations_in (approximation title states rules ∷ more) = (states, rules) ∷ approximations_in more
approximations_in (_ ∷ more) = approximations_in more

abbrev pub title_of : Section → Text
title_of (system title rules) = title
title_of (automaton a) = a.title
title_of (equations title sides) = title
title_of (approximation title states rules) = title

-- no approximation stands before the first automaton
abbrev pub NoneEarly : List Section → Type 0
NoneEarly [] = Unit {0}
NoneEarly (automaton a ∷ more) = Unit {0}
NoneEarly (approximation title states rules ∷ more) = ⊥
NoneEarly (_ ∷ more) = NoneEarly more

-- ---- what each declaration spells

-- a left-linear rule, whose sides are not nested too deep
pub record IsRuleFrom (names : Names) (d : RuleDeclaration) (rule : RewriteRule) : Type 0 where
  pub left : shape_in names d.left ≡ Some (shape_of rule.left)
  pub right : shape_in names d.right ≡ Some (shape_of rule.right)
  pub left_nesting : nesting_in d.left ≤ most limit.Nesting
  pub right_nesting : nesting_in d.right ≤ most limit.Nesting
  pub is_rule : IsRule rule

pub record IsEquationFrom (names : Names) (d : EquationDeclaration) (equation : RewriteEquation) : Type 0 where
  pub left : shape_in names d.left ≡ Some (shape_of equation.left)
  pub right : shape_in names d.right ≡ Some (shape_of equation.right)
  pub left_nesting : nesting_in d.left ≤ most limit.Nesting
  pub right_nesting : nesting_in d.right ≤ most limit.Nesting
  pub is_equation : IsEquation equation

-- names without symbols
abbrev pub without_symbols : Names → Names
without_symbols names = record names { symbols = [] }

-- an entry of an approximation rule
pub record IsEntryFrom (names : Names) (d : ApproximationRule × Arrow) (entry : Entry) : Type 0 where
  pub whole : shape_in names d.0.whole ≡ Some entry.whole
  pub nesting : nesting_in d.0.whole ≤ most limit.Nesting
  pub at : leaf_shape (stands_for (without_symbols names) d.0.at) ≡ Some entry.at
  pub args : List Shape
  pub are_args : leaves (without_symbols names) d.1.args ≡ Some args
  pub node : node_shape (stands_for (record { symbols = names.symbols; variables = []; states = [] }) d.1.head) args ≡ Some entry.node
  pub is_state : Contains names.states d.1.target
  pub target : entry.target ≡ place_in names.states d.1.target
  pub few_variables : length (entry_variables entry) ≤ most limit.Variables

-- the entries of approximation rules, each with its rule
abbrev pub entries_of : List ApproximationRule → List (ApproximationRule × Arrow)
entries_of rules = flat_map (λ r. map (λ e. (r, e)) r.entries) rules

-- each of ys once, in ascending order
pub record IsAscendingSet {X : Type 0} (cmp : X → X → Ordering) (xs ys : List X) : Type 0 where
  pub ascends : IsStrictlySortedBy cmp xs
  pub members : (x : X) → Contains xs x ↔ Contains ys x

-- The states are numbered in their order; a transition or a final state that stands twice counts once, and an epsilon transition from a state to itself doesn't.
pub record IsAutomatonFrom (symbols : List Symbol) (d : AutomatonDeclaration) (A : TreeAutomaton) : Type 0 where
  pub described : All (Contains d.states) d.described
  pub final_states : All (Contains d.states) d.finals
  pub transitions : All (IsTransition symbols d.states) d.transitions
  pub states_are : A.states ≡ range_with_len 0 (length d.states)
  pub next_is : A.next ≡ length d.states
  pub finals_are : IsAscendingSet nat_cmp A.finals (map (place_in d.states) d.finals)
  pub trans_are : IsAscendingSet trans_cmp A.trans (transitions_in symbols d.states d.transitions)
  pub eps_are : IsAscendingSet pair_cmp A.eps (moves_in symbols d.states d.transitions)

-- ---- the whole text

-- the second automaton, or the one without states where there is none
abbrev pub IsForbiddenFrom : List Symbol → List Text → List AutomatonDeclaration → TreeAutomaton → Type 0
IsForbiddenFrom symbols taken [] A = A ≡ bare 0 []
IsForbiddenFrom symbols taken (second ∷ []) A = AreNewNames taken (most limit.States) second.states × IsAutomatonFrom symbols second A
IsForbiddenFrom symbols taken (second ∷ third ∷ more) A = ⊥

-- the states and the rules of the approximation
abbrev pub extra_states : List Section → List Text
extra_states sections = flat_map (λ a. a.0) (approximations_in sections)

abbrev pub approximation_rules : List Section → List ApproximationRule
approximation_rules sections = flat_map (λ a. a.1) (approximations_in sections)

abbrev pub all_of : {X : Type 0} → List (List X) → List X
all_of lists = flat_map (λ xs. xs) lists

-- The declarations spell this spec.
pub record Spells (source : Source) (spec : Spec) : Type 0 where
  pub titles : All (λ s. IsShort (title_of s)) source.sections
  pub symbols : AreSymbols source.symbols
  pub signature : spec.signature ≡ signature_of source.symbols
  pub variables : AreNewNames (names_of spec.signature) (most limit.Declared) source.variables
  pub vars : spec.vars ≡ source.variables
  pub one_system : length (systems_in source.sections) ≤ most limit.Systems
  pub few_rules : length spec.rules ≤ most limit.Rules
  pub rules : AllZip (IsRuleFrom (record { symbols = spec.signature; variables = spec.vars; states = [] })) (all_of (systems_in source.sections)) spec.rules
  pub one_equations : length (equations_in source.sections) ≤ most limit.EquationSections
  pub few_equations : length spec.equations ≤ most limit.Equations
  pub equations : AllZip (IsEquationFrom (record { symbols = spec.signature; variables = spec.vars; states = [] })) (all_of (equations_in source.sections)) spec.equations
  -- the first automaton is the initial one, the second, where it stands, the forbidden one
  pub first : AutomatonDeclaration
  pub others : List AutomatonDeclaration
  pub automata : automata_in source.sections ≡ first ∷ others
  pub states : AreNewNames (names_of spec.signature ++ spec.vars) (most limit.States) (first.states ++ extra_states source.sections)
  pub initial : IsAutomatonFrom spec.signature first spec.initial
  pub forbidden : IsForbiddenFrom spec.signature (names_of spec.signature ++ spec.vars) others spec.forbidden
  pub one_approximation : length (approximations_in source.sections) ≤ most limit.Approximations
  pub none_early : NoneEarly source.sections
  pub approximated : spec.approximated ≡ nat_lt 0 (length (approximations_in source.sections))
  pub extra : spec.extra ≡ length (extra_states source.sections)
  pub few_entries : length spec.entries ≤ most limit.Entries
  pub entries : AllZip (IsEntryFrom (record { symbols = spec.signature; variables = spec.vars; states = first.states ++ extra_states source.sections })) (entries_of (approximation_rules source.sections)) spec.entries

-- The bytes are tokens from end to end, these are a derivation of the grammar, and what it declares spells this spec.
pub record SpecText (bytes : List ℕ) (spec : Spec) : Type 0 where
  pub derivation : Value file
  pub whole : (lexed bytes).ending ≡ Whole
  pub tokens : spelling file derivation ≡ (lexed bytes).tokens
  pub spells : Spells (source_of derivation) spec
