-- Rules: the labels of rules are read to their end exactly where they spell rules that are allowed.
use Rattle.std.proofs.Common.{◌≡◌, zero, suc, ◌+◌, ◌≤◌, ◌<◌, Bool, true, false, not, ◌&&◌, List, [], ◌∷◌, ◌++◌, fold, length, map, refl, ap, sym, ◌∙◌, subst, arith, append_assoc}
use Rattle.std.specs.Prelude.{nat_le, Some, Ok, All, flat_map}
use Rattle.std.specs.List.{AllZip}
use Rattle.std.proofs.lemmas.Bool.{leb-false, lt-leb}
use Rattle.std.proofs.lemmas.List.{append-nil, length-append, length-map}
use Rattle.std.proofs.lemmas.Slice.Zip.{AllZip-long}
use Rattle.ranked_terms.specs.Terms.{occurrences, variables_of}
use Rattle.ranked_terms.specs.declared.term.Shape.{Shape}
use Rattle.trs_rules.specs.Rules.{RewriteRule, IsRule}
use Rattle.timbuk_grammar.specs.declared.terminal.Role.TheVariants as role
use Rattle.timbuk_grammar.specs.Grammar.{rule}
use Rattle.timbuk_grammar.specs.Trees.{Value}
use Rattle.spec_text.specs.Source.{rule_of}
use Rattle.spec_text.specs.Naming.{Names, shape_in, nesting_in, shape_of}
use Rattle.spec_text.specs.SpecText.{IsRuleFrom}
use Rattle.spec_text.specs.Declarations.{Declared, with_variable}
use Rattle.spec_text.specs.Reading.{End}
use Rattle.spec_text.proofs.agreement.tokens.Labels.{Label, label, labelled, labelled_pattern}
use Rattle.spec_text.proofs.agreement.tokens.Last.{settled, NotOpening, onward}
use Rattle.spec_text.proofs.agreement.patterns.Names.{in_left, in_right}
use Rattle.spec_text.proofs.agreement.patterns.Fits.{is_variable}
use Rattle.spec_text.proofs.agreement.patterns.Patterns.{variables_in, all_short, all_taken, first_meaning, PatternFits, pattern_clear, pattern_fine}
use Rattle.spec_text.proofs.agreement.patterns.Only.{pattern_passed}
use Rattle.spec_text.proofs.agreement.patterns.Shapes.{tree_occurrences, shape_of-injective}
use Rattle.spec_text.specs.lemmas.Shapes.{same_occurrences}
use Rattle.spec_text.proofs.agreement.patterns.Variables.{taken_firsts, contains_has, linear_taken, linear_list, bound_taken}
use Rattle.spec_text.proofs.agreement.rules.Sides.{at_rest, behind_left, rule_names, arrow_read, arrow_clear, AreShort, tree_short, first_no_variable}

-- ---- one rule

-- the sides stand for these shapes, as a rule may have them
pub record RuleShape (names : Names) (v : Value rule) (sides : Shape × Shape) : Type 0 where
  pub left : shape_in names v.0 ≡ Some sides.0
  pub right : shape_in names v.1.1 ≡ Some sides.1
  pub left_nesting : nesting_in v.0 ≤ 100
  pub right_nesting : nesting_in v.1.1 ≤ 100
  pub left_short : all_short v.0 ≡ true
  pub right_short : all_short v.1.1 ≡ true
  pub left_variables : all_taken role.LeftSide [] [] (variables_in names v.0) ≡ true
  pub right_variables : all_taken role.RightSide (fold with_variable [] (variables_in names v.0)) [] (variables_in names v.1.1) ≡ true
  pub no_variable : is_variable (first_meaning names v.0) ≡ false

-- with one more rule
abbrev pub with_rules : List (Shape × Shape) → Declared → Declared
with_rules sides d = record d { rules = d.rules ++ sides }

left_fits : (d : Declared) (v : Value rule) (sides : Shape × Shape) → RuleShape (rule_names d) v sides → length d.rules < 4096 → PatternFits v.0 (at_rest d) sides.0
left_fits d v sides h room = record {
  shape = h.left;
  nesting = omega (arith, h.left_nesting);
  short_names = h.left_short;
  variables = h.left_variables;
  start = (λ i. not (lt-leb 4096 (length d.rules) room i) && not (h.no_variable i && true));
}

right_fits : (d : Declared) (v : Value rule) (sides : Shape × Shape) → RuleShape (rule_names d) v sides → PatternFits v.1.1 (behind_left sides.0 (variables_in (rule_names d) v.0) d) sides.1
right_fits d v sides h = record {
  shape = h.right;
  nesting = omega (arith, h.right_nesting);
  short_names = h.right_short;
  variables = h.right_variables;
  start = refl;
}

-- the labels of a rule that is allowed
pub rule_read : (d : Declared) (v : Value rule) (sides : Shape × Shape) → RuleShape (rule_names d) v sides → length d.rules < 4096 → (end : End) (rest : List Label) → NotOpening rest
    → settled end (at_rest d) (labelled rule v ++ rest) ≡ settled end (at_rest (with_rules (sides ∷ []) d)) rest
rule_read d v sides h room end rest clear =
    let after = labelled_pattern v.1.1 ++ rest in
    ap (settled end (at_rest d)) (append_assoc (labelled_pattern v.0) (label v.1.0 ∷ labelled_pattern v.1.1) rest)
    ∙ pattern_fine role.LeftSide v.0 in_left (at_rest d) sides.0 (left_fits d v sides h room) end (label v.1.0 ∷ after) (arrow_clear v.1.0 after)
    ∙ arrow_read end (behind_left sides.0 (variables_in (rule_names d) v.0) d) v.1.0 after (pattern_clear v.1.1 rest)
    ∙ pattern_fine role.RightSide v.1.1 in_right (behind_left sides.0 (variables_in (rule_names d) v.0) d) sides.1 (right_fits d v sides h) end rest clear

-- a rule whose labels are read
pub record RuleOnly (d : Declared) (v : Value rule) : Type 0 where
  pub sides : Shape × Shape
  pub shape : RuleShape (rule_names d) v sides
  pub room : length d.rules < 4096

only_left : (a b : Bool) → (not a && not (b && true)) ≡ true → (a ≡ false) × (b ≡ false)
only_left true b e = cc
only_left false true e = cc
only_left false false e = (refl, refl)

pub rule_only : (d e : Declared) (v : Value rule) (end : End) (rest : List Label) → NotOpening rest → settled end (at_rest d) (labelled rule v ++ rest) ≡ Ok e → RuleOnly d v
rule_only d e v end rest clear h =
    let names = rule_names d in
    let after = labelled_pattern v.1.1 ++ rest in
    let h0 : settled end (at_rest d) (labelled_pattern v.0 ++ (label v.1.0 ∷ after)) ≡ Ok e =
    ap (settled end (at_rest d)) (sym (append_assoc (labelled_pattern v.0) (label v.1.0 ∷ labelled_pattern v.1.1) rest)) ∙ h in
    let a = pattern_passed role.LeftSide v.0 in_left (at_rest d) e end (label v.1.0 ∷ after) (omega arith) (arrow_clear v.1.0 after) h0 in
    let left = behind_left a.shape (variables_in names v.0) d in
    let h1 : settled end left after ≡ Ok e = onward (arrow_read end left v.1.0 after (pattern_clear v.1.1 rest)) a.behind in
    let b = pattern_passed role.RightSide v.1.1 in_right left e end rest (omega arith) clear h1 in
    let start = only_left (nat_le 4096 (length d.rules)) (is_variable (first_meaning names v.0)) a.fits.start in
    record {
      sides = (a.shape, b.shape);
      shape = record {
        left = a.fits.shape;
        right = b.fits.shape;
        left_nesting = omega (arith, a.fits.nesting);
        right_nesting = omega (arith, b.fits.nesting);
        left_short = a.fits.short_names;
        right_short = b.fits.short_names;
        left_variables = a.fits.variables;
        right_variables = b.fits.variables;
        no_variable = start.1;
      };
      room = leb-false 4096 (length d.rules) start.0;
    }

-- ---- all rules

abbrev pub labelled_rules : List (Value rule) → List Label
labelled_rules vs = flat_map (labelled rule) vs

pub rules_clear : (vs : List (Value rule)) (rest : List Label) → NotOpening rest → NotOpening (labelled_rules vs ++ rest)
rules_clear [] rest clear = clear
rules_clear (v ∷ vs) rest clear = first_clear (append_assoc (labelled rule v) (labelled_rules vs) rest)
  where
    first_clear : (labelled rule v ++ labelled_rules vs) ++ rest ≡ labelled rule v ++ (labelled_rules vs ++ rest) → NotOpening ((labelled rule v ++ labelled_rules vs) ++ rest)
    first_clear e = subst NotOpening (sym (e ∙ append_assoc (labelled_pattern v.0) (label v.1.0 ∷ labelled_pattern v.1.1) (labelled_rules vs ++ rest)))
        (pattern_clear v.0 ((label v.1.0 ∷ labelled_pattern v.1.1) ++ (labelled_rules vs ++ rest)))

-- the labels of rules that are allowed
pub rules_fine : (vs : List (Value rule)) (d : Declared) (sides : List (Shape × Shape)) → AllZip (RuleShape (rule_names d)) vs sides → length d.rules + length vs ≤ 4096
    → (end : End) (rest : List Label) → NotOpening rest → settled end (at_rest d) (labelled_rules vs ++ rest) ≡ settled end (at_rest (with_rules sides d)) rest
rules_fine [] d [] h room end rest clear = ap (λ z. settled end (at_rest (record d { rules = z })) rest) (sym (append-nil d.rules))
rules_fine [] d (s ∷ sides) h room end rest clear = absurd h
rules_fine (v ∷ vs) d [] h room end rest clear = absurd h
rules_fine (v ∷ vs) d (s ∷ sides) h room end rest clear =
    let more : length (d.rules ++ s ∷ []) ≡ length d.rules + 1 = length-append d.rules (s ∷ []) in
    ap (settled end (at_rest d)) (append_assoc (labelled rule v) (labelled_rules vs) rest)
    ∙ rule_read d v s h.0 (omega (arith, room)) end (labelled_rules vs ++ rest) (rules_clear vs rest clear)
    ∙ rules_fine vs (with_rules (s ∷ []) d) sides h.1 (omega (arith, room, more)) end rest clear
    ∙ ap (λ z. settled end (at_rest (record d { rules = z })) rest) (append_assoc d.rules (s ∷ []) sides)

-- rules whose labels are read
pub record RulesOnly (d : Declared) (vs : List (Value rule)) : Type 0 where
  pub sides : List (Shape × Shape)
  pub shapes : AllZip (RuleShape (rule_names d)) vs sides
  pub room : length d.rules + length vs ≤ 4096

pub rules_only : (vs : List (Value rule)) (d e : Declared) (end : End) (rest : List Label) → length d.rules ≤ 4096 → NotOpening rest
    → settled end (at_rest d) (labelled_rules vs ++ rest) ≡ Ok e → RulesOnly d vs
rules_only [] d e end rest room clear h = record { sides = []; shapes = tt; room = omega (arith, room) }
rules_only (v ∷ vs) d e end rest room clear h =
    let h0 : settled end (at_rest d) (labelled rule v ++ (labelled_rules vs ++ rest)) ≡ Ok e =
    ap (settled end (at_rest d)) (sym (append_assoc (labelled rule v) (labelled_rules vs) rest)) ∙ h in
    let a = rule_only d e v end (labelled_rules vs ++ rest) (rules_clear vs rest clear) h0 in
    let h1 : settled end (at_rest (with_rules (a.sides ∷ []) d)) (labelled_rules vs ++ rest) ≡ Ok e =
    onward (rule_read d v a.sides a.shape a.room end (labelled_rules vs ++ rest) (rules_clear vs rest clear)) h0 in
    let more : length (d.rules ++ a.sides ∷ []) ≡ length d.rules + 1 = length-append d.rules (a.sides ∷ []) in
    let b = rules_only vs (with_rules (a.sides ∷ []) d) e end rest (omega (arith, a.room, more)) clear h1 in
    record { sides = a.sides ∷ b.sides; shapes = (a.shape, b.shapes); room = omega (arith, b.room, more) }

-- and what is read behind them
pub rules_behind : (vs : List (Value rule)) (d e : Declared) (end : End) (rest : List Label) → NotOpening rest → (k : RulesOnly d vs)
    → settled end (at_rest d) (labelled_rules vs ++ rest) ≡ Ok e → settled end (at_rest (with_rules k.sides d)) rest ≡ Ok e
rules_behind vs d e end rest clear k h = onward (rules_fine vs d k.sides k.shapes k.room end rest clear) h

-- ---- the rules that they spell

abbrev pub rule_sides : RewriteRule → Shape × Shape
rule_sides r = (shape_of r.left, shape_of r.right)

pub rule_shape : (names : Names) (v : Value rule) (r : RewriteRule) → AreShort names → IsRuleFrom names (rule_of v) r → RuleShape names v (rule_sides r)
rule_shape names v r short h =
    let lefts : variables_in names v.0 ≡ occurrences r.left = tree_occurrences role.LeftSide v.0 names (shape_of r.left) h.left ∙ sym (same_occurrences r.left) in
    let rights : variables_in names v.1.1 ≡ occurrences r.right = tree_occurrences role.RightSide v.1.1 names (shape_of r.right) h.right ∙ sym (same_occurrences r.right) in
    let once : fold with_variable [] (occurrences r.left) ≡ occurrences r.left = linear_list [] (occurrences r.left) h.is_rule.left_is_linear in
    let vars : r.vars ≡ occurrences r.left = h.is_rule.vars_are ∙ sym (taken_firsts [] (occurrences r.left)) ∙ once in
    let few : length (occurrences r.left) ≤ 16 = subst (λ z. length z ≤ 16) vars h.is_rule.vars_are_few in
    record {
      left = h.left;
      right = h.right;
      left_nesting = h.left_nesting;
      right_nesting = h.right_nesting;
      left_short = tree_short role.LeftSide v.0 names (shape_of r.left) short h.left;
      right_short = tree_short role.RightSide v.1.1 names (shape_of r.right) short h.right;
      left_variables = ap (all_taken role.LeftSide [] []) lefts ∙ linear_taken [] (occurrences r.left) h.is_rule.left_is_linear few;
      right_variables =
          (λ i. all_taken role.RightSide (fold with_variable [] (lefts i)) [] (rights i))
          ∙ ap (λ z. all_taken role.RightSide z [] (occurrences r.right)) once
          ∙ bound_taken (occurrences r.left) (occurrences r.right) (λ w c. contains_has (occurrences r.left) w (h.is_rule.right_is_bound w c));
      no_variable = first_no_variable v.0 names r.left h.left h.is_rule.left_is_no_variable;
    }

pub rule_from : (names : Names) (v : Value rule) (r : RewriteRule) → IsRule r → RuleShape names v (rule_sides r) → IsRuleFrom names (rule_of v) r
rule_from names v r is h = record { left = h.left; right = h.right; left_nesting = h.left_nesting; right_nesting = h.right_nesting; is_rule = is }

pub rules_shapes : (names : Names) (vs : List (Value rule)) (rs : List RewriteRule) → AreShort names → AllZip (IsRuleFrom names) (map rule_of vs) rs → AllZip (RuleShape names) vs (map rule_sides rs)
rules_shapes names [] [] short h = tt
rules_shapes names [] (r ∷ rs) short h = absurd h
rules_shapes names (v ∷ vs) [] short h = absurd h
rules_shapes names (v ∷ vs) (r ∷ rs) short h = (rule_shape names v r short h.0, rules_shapes names vs rs short h.1)

-- the labels of rules that spell these
pub rules_spelled : (vs : List (Value rule)) (d : Declared) (rs : List RewriteRule) → AreShort (rule_names d) → AllZip (IsRuleFrom (rule_names d)) (map rule_of vs) rs → length d.rules + length rs ≤ 4096
    → (end : End) (rest : List Label) → NotOpening rest → settled end (at_rest d) (labelled_rules vs ++ rest) ≡ settled end (at_rest (with_rules (map rule_sides rs) d)) rest
rules_spelled vs d rs short h room end rest clear =
    let shapes = rules_shapes (rule_names d) vs rs short h in
    let long : length (map rule_sides rs) ≡ length vs = AllZip-long (RuleShape (rule_names d)) vs (map rule_sides rs) shapes in
    let same : length (map rule_sides rs) ≡ length rs = length-map rs rule_sides in
    rules_fine vs d (map rule_sides rs) shapes (omega (arith, long, same, room)) end rest clear

pub rules_from : (names : Names) (vs : List (Value rule)) (rs : List RewriteRule) → All IsRule rs → AllZip (RuleShape names) vs (map rule_sides rs) → AllZip (IsRuleFrom names) (map rule_of vs) rs
rules_from names [] [] are h = tt
rules_from names [] (r ∷ rs) are h = absurd h
rules_from names (v ∷ vs) [] are h = absurd h
rules_from names (v ∷ vs) (r ∷ rs) are h =
    (rule_from names v r (are 0 r (omega arith)) h.0, rules_from names vs rs (λ k d l. are (suc k) d (omega arith)) h.1)

-- the rules are rules
pub rules_are : (names : Names) (vs : List (Value rule)) (rs : List RewriteRule) → AllZip (IsRuleFrom names) (map rule_of vs) rs → All IsRule rs
rules_are names [] [] h = λ k d l. absurd (omega arith)
rules_are names [] (r ∷ rs) h = absurd h
rules_are names (v ∷ vs) [] h = absurd h
rules_are names (v ∷ vs) (r ∷ rs) h = by (rules_are names vs rs h.1)
  where
    by : All IsRule rs → All IsRule (r ∷ rs)
    by more zero d l = h.0.is_rule
    by more (suc k) d l = more k d (omega arith)

-- ---- a rule is known by its sides

same_rule : (r q : RewriteRule) → IsRule r → IsRule q → shape_of r.left ≡ shape_of q.left → shape_of r.right ≡ shape_of q.right → r ≡ q
same_rule r q h k e f =
    let left : r.left ≡ q.left = shape_of-injective r.left q.left e in
    let right : r.right ≡ q.right = shape_of-injective r.right q.right f in
    let vars : r.vars ≡ q.vars = h.vars_are ∙ ap variables_of left ∙ sym k.vars_are in
    (λ i. record { left = left i; right = right i; vars = vars i })

pub same_rules : (rs qs : List RewriteRule) → All IsRule rs → All IsRule qs → map rule_sides rs ≡ map rule_sides qs → rs ≡ qs
same_rules [] [] h k e = refl
same_rules [] (q ∷ qs) h k e = cc
same_rules (r ∷ rs) [] h k e = cc
same_rules (r ∷ rs) (q ∷ qs) h k e =
    let first : rule_sides r ≡ rule_sides q = cc in
    let rest : map rule_sides rs ≡ map rule_sides qs = cc in
    (λ i. same_rule r q (h 0 r (omega arith)) (k 0 q (omega arith)) (ap (λ (x : Shape × Shape). x.0) first) (ap (λ (x : Shape × Shape). x.1) first) i
    ∷ same_rules rs qs (λ n d l. h (suc n) d (omega arith)) (λ n d l. k (suc n) d (omega arith)) rest i)
