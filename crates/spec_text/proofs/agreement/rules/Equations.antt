-- Equations: the labels of equations are read to their end exactly where they spell equations that are allowed.
use Rattle.std.proofs.Common.{◌≡◌, zero, suc, ◌+◌, ◌≤◌, ◌<◌, true, not, List, [], ◌∷◌, ◌++◌, fold, length, map, refl, ap, sym, ◌∙◌, subst, arith, append_assoc}
use Rattle.std.specs.Prelude.{Some, Ok, All, flat_map}
use Rattle.std.specs.List.{AllZip}
use Rattle.std.proofs.lemmas.Bool.{not-true, leb-false, lt-leb}
use Rattle.std.proofs.lemmas.List.{append-nil, length-append, length-map}
use Rattle.std.proofs.lemmas.Slice.Zip.{AllZip-long}
use Rattle.std.proofs.lemmas.List.Sums.{fold-append}
use Rattle.ranked_terms.specs.Terms.{occurrences, firsts}
use Rattle.ranked_terms.specs.declared.term.Shape.{Shape}
use Rattle.trs_rules.specs.Rules.{RewriteEquation, IsEquation}
use Rattle.timbuk_grammar.specs.declared.terminal.Role.TheVariants as role
use Rattle.timbuk_grammar.specs.Grammar.{equation}
use Rattle.timbuk_grammar.specs.Trees.{Value}
use Rattle.spec_text.specs.Source.{equation_of}
use Rattle.spec_text.specs.Naming.{Names, shape_in, nesting_in, shape_of}
use Rattle.spec_text.specs.SpecText.{IsEquationFrom}
use Rattle.spec_text.specs.Declarations.{Declared, with_variable}
use Rattle.spec_text.specs.Reading.{End}
use Rattle.spec_text.proofs.agreement.tokens.Labels.{Label, label, labelled, labelled_pattern}
use Rattle.spec_text.proofs.agreement.tokens.Last.{settled, NotOpening, onward}
use Rattle.spec_text.proofs.agreement.patterns.Names.{in_equation_left, in_equation_right}
use Rattle.spec_text.proofs.agreement.patterns.Patterns.{variables_in, all_short, all_taken, PatternFits, pattern_clear, pattern_fine}
use Rattle.spec_text.proofs.agreement.patterns.Only.{pattern_passed}
use Rattle.spec_text.proofs.agreement.patterns.Shapes.{tree_occurrences, shape_of-injective}
use Rattle.spec_text.specs.lemmas.Shapes.{same_occurrences}
use Rattle.spec_text.proofs.agreement.patterns.Variables.{taken_firsts, grows, few_taken}
use Rattle.spec_text.proofs.agreement.rules.Sides.{at_rest, behind_left, rule_names, equals_read, equals_clear, AreShort, tree_short}

-- ---- one equation

-- the sides stand for these shapes, as an equation may have them
pub record EquationShape (names : Names) (v : Value equation) (sides : Shape × Shape) : Type 0 where
  pub left : shape_in names v.0 ≡ Some sides.0
  pub right : shape_in names v.1.1 ≡ Some sides.1
  pub left_nesting : nesting_in v.0 ≤ 100
  pub right_nesting : nesting_in v.1.1 ≤ 100
  pub left_short : all_short v.0 ≡ true
  pub right_short : all_short v.1.1 ≡ true
  pub left_variables : all_taken role.EquationLeft [] [] (variables_in names v.0) ≡ true
  pub right_variables : all_taken role.EquationRight (fold with_variable [] (variables_in names v.0)) [] (variables_in names v.1.1) ≡ true

-- with more equations
abbrev pub with_equations : List (Shape × Shape) → Declared → Declared
with_equations sides d = record d { equations = d.equations ++ sides }

left_fits : (d : Declared) (v : Value equation) (sides : Shape × Shape) → EquationShape (rule_names d) v sides → length d.equations < 1024 → PatternFits v.0 (at_rest d) sides.0
left_fits d v sides h room = record {
  shape = h.left;
  nesting = omega (arith, h.left_nesting);
  short_names = h.left_short;
  variables = h.left_variables;
  start = ap not (lt-leb 1024 (length d.equations) room);
}

right_fits : (d : Declared) (v : Value equation) (sides : Shape × Shape) → EquationShape (rule_names d) v sides → PatternFits v.1.1 (behind_left sides.0 (variables_in (rule_names d) v.0) d) sides.1
right_fits d v sides h = record {
  shape = h.right;
  nesting = omega (arith, h.right_nesting);
  short_names = h.right_short;
  variables = h.right_variables;
  start = refl;
}

-- the labels of an equation that is allowed
pub equation_read : (d : Declared) (v : Value equation) (sides : Shape × Shape) → EquationShape (rule_names d) v sides → length d.equations < 1024 → (end : End) (rest : List Label) → NotOpening rest
    → settled end (at_rest d) (labelled equation v ++ rest) ≡ settled end (at_rest (with_equations (sides ∷ []) d)) rest
equation_read d v sides h room end rest clear =
    let after = labelled_pattern v.1.1 ++ rest in
    ap (settled end (at_rest d)) (append_assoc (labelled_pattern v.0) (label v.1.0 ∷ labelled_pattern v.1.1) rest)
    ∙ pattern_fine role.EquationLeft v.0 in_equation_left (at_rest d) sides.0 (left_fits d v sides h room) end (label v.1.0 ∷ after) (equals_clear v.1.0 after)
    ∙ equals_read end (behind_left sides.0 (variables_in (rule_names d) v.0) d) v.1.0 after (pattern_clear v.1.1 rest)
    ∙ pattern_fine role.EquationRight v.1.1 in_equation_right (behind_left sides.0 (variables_in (rule_names d) v.0) d) sides.1 (right_fits d v sides h) end rest clear

-- an equation whose labels are read
pub record EquationOnly (d : Declared) (v : Value equation) : Type 0 where
  pub sides : Shape × Shape
  pub shape : EquationShape (rule_names d) v sides
  pub room : length d.equations < 1024

pub equation_only : (d e : Declared) (v : Value equation) (end : End) (rest : List Label) → NotOpening rest → settled end (at_rest d) (labelled equation v ++ rest) ≡ Ok e → EquationOnly d v
equation_only d e v end rest clear h =
    let names = rule_names d in
    let after = labelled_pattern v.1.1 ++ rest in
    let h0 : settled end (at_rest d) (labelled_pattern v.0 ++ (label v.1.0 ∷ after)) ≡ Ok e =
    ap (settled end (at_rest d)) (sym (append_assoc (labelled_pattern v.0) (label v.1.0 ∷ labelled_pattern v.1.1) rest)) ∙ h in
    let a = pattern_passed role.EquationLeft v.0 in_equation_left (at_rest d) e end (label v.1.0 ∷ after) (omega arith) (equals_clear v.1.0 after) h0 in
    let left = behind_left a.shape (variables_in names v.0) d in
    let h1 : settled end left after ≡ Ok e = onward (equals_read end left v.1.0 after (pattern_clear v.1.1 rest)) a.behind in
    let b = pattern_passed role.EquationRight v.1.1 in_equation_right left e end rest (omega arith) clear h1 in
    record {
      sides = (a.shape, b.shape);
      shape = record {
        left = a.fits.shape;
        right = b.fits.shape;
        left_nesting = omega (arith, a.fits.nesting);
        right_nesting = omega (arith, b.fits.nesting);
        left_short = a.fits.short_names;
        right_short = b.fits.short_names;
        left_variables = a.fits.variables;
        right_variables = b.fits.variables;
      };
      room = leb-false 1024 (length d.equations) (not-true _ a.fits.start);
    }

-- ---- all equations

abbrev pub labelled_equations : List (Value equation) → List Label
labelled_equations vs = flat_map (labelled equation) vs

pub equations_clear : (vs : List (Value equation)) (rest : List Label) → NotOpening rest → NotOpening (labelled_equations vs ++ rest)
equations_clear [] rest clear = clear
equations_clear (v ∷ vs) rest clear =
    subst NotOpening
    (sym (append_assoc (labelled equation v) (labelled_equations vs) rest ∙ append_assoc (labelled_pattern v.0) (label v.1.0 ∷ labelled_pattern v.1.1) (labelled_equations vs ++ rest)))
    (pattern_clear v.0 ((label v.1.0 ∷ labelled_pattern v.1.1) ++ (labelled_equations vs ++ rest)))

-- the labels of equations that are allowed
pub equations_fine : (vs : List (Value equation)) (d : Declared) (sides : List (Shape × Shape)) → AllZip (EquationShape (rule_names d)) vs sides → length d.equations + length vs ≤ 1024
    → (end : End) (rest : List Label) → NotOpening rest → settled end (at_rest d) (labelled_equations vs ++ rest) ≡ settled end (at_rest (with_equations sides d)) rest
equations_fine [] d [] h room end rest clear = ap (λ z. settled end (at_rest (record d { equations = z })) rest) (sym (append-nil d.equations))
equations_fine [] d (s ∷ sides) h room end rest clear = absurd h
equations_fine (v ∷ vs) d [] h room end rest clear = absurd h
equations_fine (v ∷ vs) d (s ∷ sides) h room end rest clear =
    let more : length (d.equations ++ s ∷ []) ≡ length d.equations + 1 = length-append d.equations (s ∷ []) in
    ap (settled end (at_rest d)) (append_assoc (labelled equation v) (labelled_equations vs) rest)
    ∙ equation_read d v s h.0 (omega (arith, room)) end (labelled_equations vs ++ rest) (equations_clear vs rest clear)
    ∙ equations_fine vs (with_equations (s ∷ []) d) sides h.1 (omega (arith, room, more)) end rest clear
    ∙ ap (λ z. settled end (at_rest (record d { equations = z })) rest) (append_assoc d.equations (s ∷ []) sides)

-- equations whose labels are read
pub record EquationsOnly (d : Declared) (vs : List (Value equation)) : Type 0 where
  pub sides : List (Shape × Shape)
  pub shapes : AllZip (EquationShape (rule_names d)) vs sides
  pub room : length d.equations + length vs ≤ 1024

pub equations_only : (vs : List (Value equation)) (d e : Declared) (end : End) (rest : List Label) → length d.equations ≤ 1024 → NotOpening rest
    → settled end (at_rest d) (labelled_equations vs ++ rest) ≡ Ok e → EquationsOnly d vs
equations_only [] d e end rest room clear h = record { sides = []; shapes = tt; room = omega (arith, room) }
equations_only (v ∷ vs) d e end rest room clear h =
    let h0 : settled end (at_rest d) (labelled equation v ++ (labelled_equations vs ++ rest)) ≡ Ok e =
    ap (settled end (at_rest d)) (sym (append_assoc (labelled equation v) (labelled_equations vs) rest)) ∙ h in
    let a = equation_only d e v end (labelled_equations vs ++ rest) (equations_clear vs rest clear) h0 in
    let h1 : settled end (at_rest (with_equations (a.sides ∷ []) d)) (labelled_equations vs ++ rest) ≡ Ok e =
    onward (equation_read d v a.sides a.shape a.room end (labelled_equations vs ++ rest) (equations_clear vs rest clear)) h0 in
    let more : length (d.equations ++ a.sides ∷ []) ≡ length d.equations + 1 = length-append d.equations (a.sides ∷ []) in
    let b = equations_only vs (with_equations (a.sides ∷ []) d) e end rest (omega (arith, a.room, more)) clear h1 in
    record { sides = a.sides ∷ b.sides; shapes = (a.shape, b.shapes); room = omega (arith, b.room, more) }

-- and what is read behind them
pub equations_behind : (vs : List (Value equation)) (d e : Declared) (end : End) (rest : List Label) → NotOpening rest → (k : EquationsOnly d vs)
    → settled end (at_rest d) (labelled_equations vs ++ rest) ≡ Ok e → settled end (at_rest (with_equations k.sides d)) rest ≡ Ok e
equations_behind vs d e end rest clear k h = onward (equations_fine vs d k.sides k.shapes k.room end rest clear) h

-- ---- the equations that they spell

abbrev pub equation_sides : RewriteEquation → Shape × Shape
equation_sides q = (shape_of q.left, shape_of q.right)

pub equation_shape : (names : Names) (v : Value equation) (q : RewriteEquation) → AreShort names → IsEquationFrom names (equation_of v) q → EquationShape names v (equation_sides q)
equation_shape names v q short h =
    let lefts : variables_in names v.0 ≡ occurrences q.left = tree_occurrences role.EquationLeft v.0 names (shape_of q.left) h.left ∙ sym (same_occurrences q.left) in
    let rights : variables_in names v.1.1 ≡ occurrences q.right = tree_occurrences role.EquationRight v.1.1 names (shape_of q.right) h.right ∙ sym (same_occurrences q.right) in
    let left = fold with_variable [] (occurrences q.left) in
    let all : q.vars ≡ fold with_variable left (occurrences q.right) =
    h.is_equation.vars_are ∙ sym (taken_firsts [] (occurrences q.left ++ occurrences q.right)) ∙ fold-append with_variable [] (occurrences q.left) (occurrences q.right) in
    let few : length (fold with_variable left (occurrences q.right)) ≤ 16 = subst (λ z. length z ≤ 16) all h.is_equation.vars_are_few in
    let more : length left ≤ length (fold with_variable left (occurrences q.right)) = grows left (occurrences q.right) in
    record {
      left = h.left;
      right = h.right;
      left_nesting = h.left_nesting;
      right_nesting = h.right_nesting;
      left_short = tree_short role.EquationLeft v.0 names (shape_of q.left) short h.left;
      right_short = tree_short role.EquationRight v.1.1 names (shape_of q.right) short h.right;
      left_variables = ap (all_taken role.EquationLeft [] []) lefts ∙ few_taken role.EquationLeft (λ b w. refl) (λ b w. refl) [] (occurrences q.left) (omega (arith, few, more));
      right_variables =
          (λ i. all_taken role.EquationRight (fold with_variable [] (lefts i)) [] (rights i))
          ∙ few_taken role.EquationRight (λ b w. refl) (λ b w. refl) left (occurrences q.right) few;
    }

pub equation_from : (names : Names) (v : Value equation) (q : RewriteEquation) → IsEquation q → EquationShape names v (equation_sides q) → IsEquationFrom names (equation_of v) q
equation_from names v q is h = record { left = h.left; right = h.right; left_nesting = h.left_nesting; right_nesting = h.right_nesting; is_equation = is }

pub equations_shapes : (names : Names) (vs : List (Value equation)) (qs : List RewriteEquation) → AreShort names → AllZip (IsEquationFrom names) (map equation_of vs) qs → AllZip (EquationShape names) vs (map equation_sides qs)
equations_shapes names [] [] short h = tt
equations_shapes names [] (q ∷ qs) short h = absurd h
equations_shapes names (v ∷ vs) [] short h = absurd h
equations_shapes names (v ∷ vs) (q ∷ qs) short h = (equation_shape names v q short h.0, equations_shapes names vs qs short h.1)

-- the labels of equations that spell these
pub equations_spelled : (vs : List (Value equation)) (d : Declared) (qs : List RewriteEquation) → AreShort (rule_names d) → AllZip (IsEquationFrom (rule_names d)) (map equation_of vs) qs → length d.equations + length qs ≤ 1024
    → (end : End) (rest : List Label) → NotOpening rest → settled end (at_rest d) (labelled_equations vs ++ rest) ≡ settled end (at_rest (with_equations (map equation_sides qs) d)) rest
equations_spelled vs d qs short h room end rest clear =
    let shapes = equations_shapes (rule_names d) vs qs short h in
    let long : length (map equation_sides qs) ≡ length vs = AllZip-long (EquationShape (rule_names d)) vs (map equation_sides qs) shapes in
    let same : length (map equation_sides qs) ≡ length qs = length-map qs equation_sides in
    equations_fine vs d (map equation_sides qs) shapes (omega (arith, long, same, room)) end rest clear

pub equations_from : (names : Names) (vs : List (Value equation)) (qs : List RewriteEquation) → All IsEquation qs → AllZip (EquationShape names) vs (map equation_sides qs) → AllZip (IsEquationFrom names) (map equation_of vs) qs
equations_from names [] [] are h = tt
equations_from names [] (q ∷ qs) are h = absurd h
equations_from names (v ∷ vs) [] are h = absurd h
equations_from names (v ∷ vs) (q ∷ qs) are h =
    (equation_from names v q (are 0 q (omega arith)) h.0, equations_from names vs qs (λ k d l. are (suc k) d (omega arith)) h.1)

-- the equations are equations
pub equations_are : (names : Names) (vs : List (Value equation)) (qs : List RewriteEquation) → AllZip (IsEquationFrom names) (map equation_of vs) qs → All IsEquation qs
equations_are names [] [] h = λ k d l. absurd (omega arith)
equations_are names [] (q ∷ qs) h = absurd h
equations_are names (v ∷ vs) [] h = absurd h
equations_are names (v ∷ vs) (q ∷ qs) h = by (equations_are names vs qs h.1)
  where
    by : All IsEquation qs → All IsEquation (q ∷ qs)
    by more zero d l = h.0.is_equation
    by more (suc k) d l = more k d (omega arith)

-- ---- an equation is known by its sides

same_equation : (r q : RewriteEquation) → IsEquation r → IsEquation q → shape_of r.left ≡ shape_of q.left → shape_of r.right ≡ shape_of q.right → r ≡ q
same_equation r q h k e f =
    let left : r.left ≡ q.left = shape_of-injective r.left q.left e in
    let right : r.right ≡ q.right = shape_of-injective r.right q.right f in
    let vars : r.vars ≡ q.vars = h.vars_are ∙ (λ i. firsts (occurrences (left i) ++ occurrences (right i))) ∙ sym k.vars_are in
    (λ i. record { left = left i; right = right i; vars = vars i })

pub same_equations : (rs qs : List RewriteEquation) → All IsEquation rs → All IsEquation qs → map equation_sides rs ≡ map equation_sides qs → rs ≡ qs
same_equations [] [] h k e = refl
same_equations [] (q ∷ qs) h k e = cc
same_equations (r ∷ rs) [] h k e = cc
same_equations (r ∷ rs) (q ∷ qs) h k e =
    let first : equation_sides r ≡ equation_sides q = cc in
    let rest : map equation_sides rs ≡ map equation_sides qs = cc in
    (λ i. same_equation r q (h 0 r (omega arith)) (k 0 q (omega arith)) (ap (λ (x : Shape × Shape). x.0) first) (ap (λ (x : Shape × Shape). x.1) first) i
    ∷ same_equations rs qs (λ n d l. h (suc n) d (omega arith)) (λ n d l. k (suc n) d (omega arith)) rest i)
