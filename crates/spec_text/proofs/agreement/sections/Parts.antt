-- What sections declare, kind by kind.
use Rattle.std.proofs.Common.{◌≡◌, ◌<◌, ◌≤◌, List, [], ◌∷◌, ◌++◌, length, All, refl, sym, ap, ◌∙◌, append_assoc, arith}
use Rattle.std.specs.Prelude.{flat_map}
use Rattle.std.specs.List.{AllZip}
use Rattle.std.proofs.lemmas.List.{append-nil}
use Rattle.std.proofs.lemmas.List.Elements.{All-nil, All-cons, All-head, All-tail}
use Rattle.spec_text.specs.Declarations.{Text}
use Rattle.spec_text.specs.Source.{RuleDeclaration, EquationDeclaration, AutomatonDeclaration, ApproximationRule, Section, system, automaton, equations, approximation}
use Rattle.spec_text.specs.SpecText.{systems_in, automata_in, equations_in, approximations_in, NoneEarly, all_of}

-- ---- sections kind by kind

pub record Parts : Type 0 where
  pub systems : List (List RuleDeclaration)
  pub equations : List (List EquationDeclaration)
  pub automata : List AutomatonDeclaration
  pub approximations : List (List Text × List ApproximationRule)

abbrev pub parts_of : List Section → Parts
parts_of sections = record { systems = systems_in sections; equations = equations_in sections; automata = automata_in sections; approximations = approximations_in sections }

-- one section more
abbrev pub with_section : Section → Parts → Parts
with_section (system title rules) p = record p { systems = p.systems ++ rules ∷ [] }
with_section (automaton a) p = record p { automata = p.automata ++ a ∷ [] }
with_section (equations title sides) p = record p { equations = p.equations ++ sides ∷ [] }
with_section (approximation title states rules) p = record p { approximations = p.approximations ++ (states, rules) ∷ [] }

systems-append : (xs ys : List Section) → systems_in (xs ++ ys) ≡ systems_in xs ++ systems_in ys
systems-append [] ys = refl
systems-append (system title rules ∷ xs) ys = ap (λ l. rules ∷ l) (systems-append xs ys)
systems-append (automaton a ∷ xs) ys = systems-append xs ys
systems-append (equations title sides ∷ xs) ys = systems-append xs ys
systems-append (approximation title states rules ∷ xs) ys = systems-append xs ys

equations-append : (xs ys : List Section) → equations_in (xs ++ ys) ≡ equations_in xs ++ equations_in ys
equations-append [] ys = refl
equations-append (system title rules ∷ xs) ys = equations-append xs ys
equations-append (automaton a ∷ xs) ys = equations-append xs ys
equations-append (equations title sides ∷ xs) ys = ap (λ l. sides ∷ l) (equations-append xs ys)
equations-append (approximation title states rules ∷ xs) ys = equations-append xs ys

automata-append : (xs ys : List Section) → automata_in (xs ++ ys) ≡ automata_in xs ++ automata_in ys
automata-append [] ys = refl
automata-append (system title rules ∷ xs) ys = automata-append xs ys
automata-append (automaton a ∷ xs) ys = ap (λ l. a ∷ l) (automata-append xs ys)
automata-append (equations title sides ∷ xs) ys = automata-append xs ys
automata-append (approximation title states rules ∷ xs) ys = automata-append xs ys

approximations-append : (xs ys : List Section) → approximations_in (xs ++ ys) ≡ approximations_in xs ++ approximations_in ys
approximations-append [] ys = refl
approximations-append (system title rules ∷ xs) ys = approximations-append xs ys
approximations-append (automaton a ∷ xs) ys = approximations-append xs ys
approximations-append (equations title sides ∷ xs) ys = approximations-append xs ys
approximations-append (approximation title states rules ∷ xs) ys = ap (λ l. (states, rules) ∷ l) (approximations-append xs ys)

appended : (before : List Section) (s : Section) → parts_of (before ++ s ∷ [])
    ≡ record { systems = systems_in before ++ systems_in (s ∷ []); equations = equations_in before ++ equations_in (s ∷ []); automata = automata_in before ++ automata_in (s ∷ []); approximations = approximations_in before ++ approximations_in (s ∷ []) }
appended before s = λ i. record {
  systems = systems-append before (s ∷ []) i;
  equations = equations-append before (s ∷ []) i;
  automata = automata-append before (s ∷ []) i;
  approximations = approximations-append before (s ∷ []) i;
}

pub parts-push : (before : List Section) (s : Section) → parts_of (before ++ s ∷ []) ≡ with_section s (parts_of before)
parts-push before (system title rules) =
    appended before (system title rules)
    ∙ (λ i. record { systems = systems_in before ++ rules ∷ []; equations = append-nil (equations_in before) i; automata = append-nil (automata_in before) i; approximations = append-nil (approximations_in before) i })
parts-push before (automaton a) =
    appended before (automaton a)
    ∙ (λ i. record { systems = append-nil (systems_in before) i; equations = append-nil (equations_in before) i; automata = automata_in before ++ a ∷ []; approximations = append-nil (approximations_in before) i })
parts-push before (equations title sides) =
    appended before (equations title sides)
    ∙ (λ i. record { systems = append-nil (systems_in before) i; equations = equations_in before ++ sides ∷ []; automata = append-nil (automata_in before) i; approximations = append-nil (approximations_in before) i })
parts-push before (approximation title states rules) =
    appended before (approximation title states rules)
    ∙ (λ i. record { systems = append-nil (systems_in before) i; equations = append-nil (equations_in before) i; automata = append-nil (automata_in before) i; approximations = approximations_in before ++ (states, rules) ∷ [] })

-- ---- no approximation before the first automaton

-- an automaton stands before an approximation
abbrev pub IsLate : Section → List AutomatonDeclaration → Type 0
IsLate (approximation title states rules) automata = 1 ≤ length automata
IsLate _ automata = Unit {0}

pub early-push : (before : List Section) (s : Section) → NoneEarly before → IsLate s (automata_in before) → NoneEarly (before ++ s ∷ [])
early-push [] (system title rules) h k = tt
early-push [] (automaton a) h k = tt
early-push [] (equations title sides) h k = tt
early-push [] (approximation title states rules) h k = absurd (omega (arith, k))
early-push (system title rules ∷ before) s h k = early-push before s h k
early-push (automaton a ∷ before) s h k = tt
early-push (equations title sides ∷ before) s h k = early-push before s h k
early-push (approximation title states rules ∷ before) s h k = absurd h

pub early-pop : (before : List Section) (s : Section) → NoneEarly (before ++ s ∷ []) → NoneEarly before × IsLate s (automata_in before)
early-pop [] (system title rules) h = (tt, tt)
early-pop [] (automaton a) h = (tt, tt)
early-pop [] (equations title sides) h = (tt, tt)
early-pop [] (approximation title states rules) h = absurd h
early-pop (system title rules ∷ before) s h = early-pop before s h
early-pop (automaton a ∷ before) s h = (tt, late s)
  where
    late : (s : Section) → IsLate s (a ∷ automata_in before)
    late (system title rules) = tt
    late (automaton b) = tt
    late (equations title sides) = tt
    late (approximation title states rules) = omega arith
early-pop (equations title sides ∷ before) s h = early-pop before s h
early-pop (approximation title states rules ∷ before) s h = absurd h

-- so where there is no automaton there is no approximation
pub none_before : (before : List Section) → NoneEarly before → automata_in before ≡ [] → approximations_in before ≡ []
none_before [] h e = refl
none_before (system title rules ∷ before) h e = none_before before h e
none_before (automaton a ∷ before) h e = cc
none_before (equations title sides ∷ before) h e = none_before before h e
none_before (approximation title states rules ∷ before) h e = absurd h

-- ---- lists of lists

pub all_of-push : {X : Type 0} (xss : List (List X)) (xs : List X) → all_of (xss ++ xs ∷ []) ≡ all_of xss ++ xs
all_of-push [] xs = append-nil xs
all_of-push (ys ∷ xss) xs = ap (λ l. ys ++ l) (all_of-push xss xs) ∙ sym (append_assoc ys (all_of xss) xs)

-- ---- the states of the initial automaton

abbrev pub initial_states : List AutomatonDeclaration → List Text
initial_states [] = []
initial_states (first ∷ others) = first.states

abbrev pub extra_of : List (List Text × List ApproximationRule) → List Text
extra_of approximations = flat_map (λ a. a.0) approximations

abbrev pub rules_of : List (List Text × List ApproximationRule) → List ApproximationRule
rules_of approximations = flat_map (λ a. a.1) approximations

-- ---- lists in front

pub all_front : {X : Type 0} (A : X → Type 0) (xs ys : List X) → All A (xs ++ ys) → All A xs
all_front A [] ys h = All-nil A
all_front A (x ∷ xs) ys h = All-cons A x xs (All-head A x (xs ++ ys) h) (all_front A xs ys (All-tail A x (xs ++ ys) h))

pub all_last : {X : Type 0} (A : X → Type 0) (xs : List X) (x : X) → All A (xs ++ x ∷ []) → A x
all_last A [] x h = All-head A x [] h
all_last A (y ∷ xs) x h = all_last A xs x (All-tail A y (xs ++ x ∷ []) h)

-- what belongs to nothing
pub none_zip : {X Y : Type 0} (A B : X → Y → Type 0) (ys : List Y) → AllZip A [] ys → AllZip B [] ys
none_zip A B [] h = tt
none_zip A B (y ∷ ys) h = absurd h

pub none_left : {X Y : Type 0} (A : X → Y → Type 0) (ys : List Y) → AllZip A [] ys → [] ≡ ys
none_left A [] h = refl
none_left A (y ∷ ys) h = absurd h

-- ---- the first approximation

same_states : (initial : List Text) (names : List Text) → (initial ++ []) ++ names ≡ initial ++ (names ++ [])
same_states initial names = ap (λ l. l ++ names) (append-nil initial) ∙ ap (λ l. initial ++ l) (sym (append-nil names))

pub first_states : (initial : List Text) (approximations : List (List Text × List ApproximationRule)) (names : List Text) (rules : List ApproximationRule) → approximations ≡ []
    → (initial ++ extra_of approximations) ++ names ≡ initial ++ extra_of (approximations ++ (names, rules) ∷ [])
first_states initial approximations names rules e =
    ap (λ l. (initial ++ extra_of l) ++ names) e ∙ (same_states initial names ∙ ap (λ l. initial ++ extra_of (l ++ (names, rules) ∷ [])) (sym e))

pub first_rules : (approximations : List (List Text × List ApproximationRule)) (names : List Text) (rules : List ApproximationRule) → approximations ≡ [] → rules ≡ rules_of (approximations ++ (names, rules) ∷ [])
first_rules approximations names rules e = sym (append-nil rules) ∙ ap (λ l. rules_of (l ++ (names, rules) ∷ [])) (sym e)

pub no_approximation : (approximations : List (List Text × List ApproximationRule)) → length approximations < 1 → approximations ≡ []
no_approximation [] h = refl
no_approximation (x ∷ xs) h = absurd (omega (arith, h))
