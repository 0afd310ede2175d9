-- What is known of a shape that was read.
use Rattle.std.proofs.Math.Bool.{and-false}
use Rattle.std.proofs.Common.{◌≡◌, ℕ, zero, suc, ◌<◌, length, get_or, Bool, true, false, ◌&&◌, ◌==◌, List, [], ◌∷◌, ◌++◌, map, Option, Some, None, cond, refl, ap, sym, ◌∙◌, subst, arith, append_assoc}
use Rattle.std.specs.Prelude.{not}
use Rattle.std.specs.List.{list_all}
use Rattle.std.proofs.lemmas.Bool.{and_parts, and_from}
use Rattle.std.proofs.lemmas.List.{append-nil, map-append}
use Rattle.std.proofs.lemmas.Bool.Decides.{nat_tests}
use Rattle.ranked_terms.specs.Names.{arity_of}
use Rattle.ranked_terms.specs.Terms.{is_symbol, is_arity, joined}
use Rattle.ranked_terms.specs.declared.term.Shape.{Shape}
use Rattle.ranked_terms.specs.declared.term.Shape.TheVariants.{Var, State, App}
use Rattle.ta_core.specs.SpecRules.{shape_is_over, shape_is_below, shape_occurrences}
use Rattle.timbuk_grammar.specs.declared.terminal.Role.{Role}
use Rattle.timbuk_grammar.specs.declared.terminal.Role.TheVariants as role
use Rattle.timbuk_reader.specs.declared.state.Reader.{Reader}
use Rattle.spec_text.specs.declared.fault.SpecKind.TheVariants as kind
use Rattle.spec_text.specs.Declarations.{Declared, a_variable, has, with_variable, states_at}
use Rattle.spec_text.specs.Rows.{or, when}
use Rattle.spec_text.specs.lemmas.Shapes.{over_var, over_state, over_app, below_var, below_state, below_app, occurs_var, occurs_state, occurs_app, shape_of_var}
use Rattle.spec_text.specs.lemmas.Variables.{MayStand, Binds}
use Rattle.ranked_terms.specs.declared.term.Pattern.{Pattern}
use Rattle.trs_rules.specs.Rules.{IsVariable}
use Rattle.spec_text.specs.Naming.{shape_of}
use Rattle.timbuk_reader.specs.View.{state_of, end_of}
use Rattle.timbuk_reader.specs.Patterns.{IsPatternRole, pattern_fault, misuse, SameBut, state_count, Fits, AllFit, IsNoVariable}

-- ---- readers of which only bound variables and tokens differ

pub same_now : (r u : Reader) → state_of u ≡ state_of r → end_of u ≡ end_of r → SameBut r u
same_now r u e f = record { state = e; end = f }

pub same_then : (r m u : Reader) → SameBut r m → SameBut m u → SameBut r u
same_then r m u h k = record { state = k.state ∙ h.state; end = k.end ∙ h.end }

pub same_signature : (r u : Reader) → SameBut r u → u.signature ≡ r.signature
same_signature r u h = ap (λ (d : Declared). d.symbols) h.state

pub same_count : (p : Role) (r u : Reader) → SameBut r u → state_count p u ≡ state_count p r
same_count role.EntryWhole r u h = ap (λ (d : Declared). length d.initial.states) h.state
same_count _ r u h = refl

-- ---- bound variables

binds_on : (p : Role) (a b c : List ℕ) (xs ys : List ℕ) → Binds p a xs b → Binds p b ys c → Binds p a (xs ++ ys) c
binds_on p a b c [] ys h k = subst (λ z. Binds p z ys c) h k
binds_on p a b c (x ∷ xs) ys h k = (h.0, binds_on p (with_variable a x) b c xs ys h.1 k)

-- a test that one more element passes
pub all_on : {A : Type 0} (test : A → Bool) (xs : List A) (x : A) → list_all test xs ≡ true → test x ≡ true → list_all test (xs ++ x ∷ []) ≡ true
all_on test [] x h k = rw k refl
all_on test (y ∷ ys) x h k = let both = and_parts (test y) (list_all test ys) h in and_from (test y) (list_all test (ys ++ x ∷ [])) both.0 (all_on test ys x both.1 k)

pub joined_on : (xs : List (List ℕ)) (x : List ℕ) → joined (xs ++ x ∷ []) ≡ joined xs ++ x
joined_on [] x = append-nil x
joined_on (y ∷ ys) x = ap (λ z. y ++ z) (joined_on ys x) ∙ sym (append_assoc y (joined ys) x)

-- ---- what fits

module _ (p : Role) (r : Reader) where
  pub fits_variable : (u : Reader) (v : ℕ) → MayStand p r.bound v → u.bound ≡ with_variable r.bound v → SameBut r u → Fits p r (Var v) u
  fits_variable u v may bound same = record {
    over = over_var r.signature v;
    below = below_var (state_count p r) v;
    binds = subst (λ vs. Binds p r.bound vs u.bound) (sym (occurs_var v)) (may, bound);
    same = same;
  }

  pub fits_state : (u : Reader) (q : ℕ) → q < state_count p r → u.bound ≡ r.bound → SameBut r u → Fits p r (State q) u
  fits_state u q h still same = record {
    over = over_state r.signature q;
    below = below_state (state_count p r) q ∙ grind (arith, nat_tests);
    binds = subst (λ vs. Binds p r.bound vs u.bound) (sym (occurs_state q)) still;
    same = same;
  }

  pub fits_none : (u : Reader) → u.bound ≡ r.bound → SameBut r u → AllFit p r [] u
  fits_none u still same = record { over = refl; below = refl; binds = still; same = same }

  pub fits_more : (m v u : Reader) (args : List Shape) (s : Shape) → AllFit p r args m → state_of v ≡ state_of m → v.bound ≡ m.bound → end_of v ≡ end_of m → Fits p v s u → AllFit p r (args ++ s ∷ []) u
  fits_more m v u args s h e bound f k =
      let at_v = same_then r m v h.same (same_now m v e f) in
      record {
        over = all_on (shape_is_over r.signature) args s h.over (subst (λ z. shape_is_over z s ≡ true) (same_signature r v at_v) k.over);
        below = all_on (shape_is_below (state_count p r)) args s h.below (subst (λ z. shape_is_below z s ≡ true) (same_count p r v at_v) k.below);
        binds = subst (λ z. Binds p r.bound z u.bound) (sym (ap joined (map-append shape_occurrences args (s ∷ [])) ∙ joined_on (map shape_occurrences args) (shape_occurrences s)))
            (binds_on p r.bound m.bound u.bound (joined (map shape_occurrences args)) (shape_occurrences s) h.binds (subst (λ z. Binds p z (shape_occurrences s) u.bound) bound k.binds));
        same = same_then r v u at_v k.same;
      }

  pub symbol_test : (f n : ℕ) → arity_of r.signature f ≡ Some n → is_symbol r.signature f n ≡ true
  symbol_test f n e = ap (is_arity n) e ∙ grind (arith, nat_tests)

  pub fits_application : (u v : Reader) (f n : ℕ) (args : List Shape) → arity_of r.signature f ≡ Some n → length args ≡ n → state_of u ≡ state_of r → u.bound ≡ r.bound → end_of u ≡ end_of r → AllFit p u args v → Fits p r (App f args) v
  fits_application u v f n args arity count e bound g h =
      let at_u = same_now r u e g in
      let symbol : is_symbol r.signature f (length args) ≡ true = ap (is_symbol r.signature f) count ∙ symbol_test f n arity in
      let all_over : list_all (shape_is_over r.signature) args ≡ true = subst (λ z. list_all (shape_is_over z) args ≡ true) (same_signature r u at_u) h.over in
      record {
        over = over_app r.signature f args ∙ rw (symbol, all_over) refl;
        below = below_app (state_count p r) f args ∙ subst (λ z. list_all (shape_is_below z) args ≡ true) (same_count p r u at_u) h.below;
        binds = subst (λ z. Binds p r.bound z v.bound) (sym (occurs_app f args)) (subst (λ z. Binds p z (joined (map shape_occurrences args)) v.bound) bound h.binds);
        same = same_then r u v at_u h.same;
      }

-- ---- what the rows say

second_none : {A : Type 0} (o u : Option A) → or o u ≡ None → (o ≡ None) × (u ≡ None)
second_none None u e = (refl, e)
second_none (Some a) u e = cc

not_when : {A : Type 0} (b : Bool) (a : A) → when b a ≡ None → b ≡ false
not_when true a e = cc
not_when false a e = refl

left_new : (first : Bool) (b : Bool) → cond first (Some kind.VariableLeft) (when b kind.NotLeftLinear) ≡ None → b ≡ false
left_new true b e = cc
left_new false b e = not_when b kind.NotLeftLinear e

not_false : (b : Bool) → not b ≡ false → b ≡ true
not_false true e = refl
not_false false e = cc

-- a variable that no row refuses may stand there
pub may_stand : (p : Role) (v depth : ℕ) (r : Reader) → pattern_fault p (a_variable v) depth r ≡ None → MayStand p r.bound v
may_stand role.LeftSide v depth r e = left_new (depth == 0) (has r.bound v) (second_none _ (misuse role.LeftSide (a_variable v) depth r.bound) e).1
may_stand role.RightSide v depth r e = not_false (has r.bound v) (not_when (not (has r.bound v)) kind.FreeVariable (second_none _ (misuse role.RightSide (a_variable v) depth r.bound) e).1)
may_stand _ v depth r e = tt

-- a state that may stand there is one of the initial automaton or of the approximation
pub counted : (p : Role) (r : Reader) (q : ℕ) → IsPatternRole p → q < length (states_at (state_of r) p) → q < state_count p r
counted role.EntryWhole r q h b = b
counted role.LeftSide r q h b = b
counted role.RightSide r q h b = b
counted role.EquationLeft r q h b = b
counted role.EquationRight r q h b = b
counted _ r q h b = absurd h

-- ---- parts of a shape

fails_at : {A : Type 0} (test : A → Bool) (xs : List A) (i : ℕ) (x : A) → i < length xs → x ≡ get_or xs i x → test x ≡ false → list_all test xs ≡ false
fails_at test [] i x lt e h = absurd (omega arith)
fails_at test (y ∷ ys) zero x lt e h = ap (λ b. b && list_all test ys) (ap test (sym e) ∙ h)
fails_at test (y ∷ ys) (suc i) x lt e h = ap (λ b. test y && b) (fails_at test ys i x (omega arith) e h) ∙ and-false (test y)

-- a shape has the states of its arguments
pub not_below : (bound f : ℕ) (args items : List Shape) (s : Shape) (i : ℕ) (x : Shape) → s ≡ App f args → items ≡ args → i < length items → x ≡ get_or items i x → shape_is_below bound x ≡ false → shape_is_below bound s ≡ false
not_below bound f args items s i x is same lt e h =
    ap (shape_is_below bound) is ∙ below_app bound f args ∙ sym (ap (list_all (shape_is_below bound)) same) ∙ fails_at (shape_is_below bound) items i x lt e h

-- a left side that is a variable has its shape
pub no_variable : (left : Pattern) → IsNoVariable role.LeftSide 0 (shape_of left) → IsVariable left → ⊥
no_variable left h v = subst (IsNoVariable role.LeftSide 0) (ap shape_of v.1 ∙ shape_of_var v.0) h
