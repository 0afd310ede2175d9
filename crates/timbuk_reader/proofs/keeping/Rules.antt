-- Reading rules and equations.
use Rattle.std.proofs.Common.{◌≡◌, ◌↔◌, ℕ, ◌+◌, ◌<◌, ◌≤◌, length, true, false, ◌&&◌, List, [], ◌∷◌, ◌++◌, map, Some, None, Ok, Err, Result, refl, ap, sym, ◌∙◌, subst, arith}
use Rattle.std.specs.Prelude.{nat_le, fold, OnOk, OnErr}
use Rattle.std.specs.List.{All}
use Rattle.std.proofs.lemmas.Bool.Decides.{nat_tests}
use Rattle.std.proofs.lemmas.List.{map-append}
use Rattle.std.proofs.lemmas.Grind.{fold-append}
use Rattle.std.proofs.lemmas.List.Elements.{All-append, All-cons, All-nil}
use Rattle.ranked_terms.specs.Names.{Symbol}
use Rattle.ranked_terms.specs.Terms as terms
use Rattle.ranked_terms.specs.Terms.{pattern_is_over, occurrences, firsts, variables_of}
use Rattle.ranked_terms.specs.declared.term.Shape.{Shape}
use Rattle.ranked_terms.specs.declared.term.Pattern.{Pattern}
use Rattle.trs_rules.specs.Rules.{RewriteRule, RewriteEquation, IsVariable, IsLinear, IsBound, IsRule}
use Rattle.trs_rules.specs.lemmas.RuleLaws.{none_from_bound}
use Rattle.timbuk_reader.specs.Kept.{IsKeptRule}
use Rattle.trs_rules.specs.Variables.{first_repeat, first_free}
use Rattle.trs_rules.specs.declared.rule.RuleFault.{RuleFault}
use Rattle.trs_rules.specs.declared.rule.RuleFault.TheVariants as fault
use Rattle.ta_core.specs.SpecRules.{rules_are_over, equations_are_over}
use Rattle.timbuk_lex.specs.declared.lexeme.Lexeme.{Lexeme}
use Rattle.timbuk_grammar.specs.declared.terminal.Role.{Role}
use Rattle.timbuk_grammar.specs.declared.terminal.Role.TheVariants as role
use Rattle.timbuk_grammar.specs.declared.terminal.Terminal.{Terminal}
use Rattle.timbuk_grammar.specs.declared.terminal.Terminal.TheVariants as terminal
use Rattle.timbuk_grammar.specs.Grammar.{Part, one, ◌then◌, pattern, rule, equation}
use Rattle.timbuk_grammar.specs.Matching.{matches}
use Rattle.spec_text.specs.declared.fault.SpecKind.{SpecKind}
use Rattle.spec_text.specs.declared.fault.SpecKind.TheVariants as kind
use Rattle.spec_text.specs.declared.fault.LimitName.TheVariants as limit
use Rattle.timbuk_reader.specs.declared.fault.SpecError.{SpecError}
use Rattle.timbuk_reader.specs.declared.fault.SpecError.TheVariants as error
use Rattle.timbuk_reader.specs.declared.state.Reader.{Reader}
use Rattle.spec_text.specs.Declarations.{Declared, adds}
use Rattle.spec_text.specs.Rows.{passed, misnamed}
use Rattle.spec_text.specs.Reading.{outcome}
use Rattle.spec_text.specs.Naming.{shape_of}
use Rattle.timbuk_reader.specs.View.{Open, closed, declared, state_of, end_of, from, as_error, refusal, refusal_at, rule_shapes, equation_shapes}
use Rattle.spec_text.specs.Reading.{settled, sees}
use Rattle.timbuk_reader.specs.Reads.{Advances, Stops, IsCalm, Took, Missed}
use Rattle.timbuk_reader.specs.Patterns.{within, IsFirstSide, Builds, Breaks, IsSpot, SameBut}
use Rattle.spec_text.specs.lemmas.Variables.{Binds}
use Rattle.timbuk_reader.specs.Sides.{IsSide}
use Rattle.timbuk_reader.proofs.parsing.Parts.{one_front, then_advances, then_stops, later_stops}
use Rattle.timbuk_reader.proofs.parsing.Tokens.{IsOther, use_row, row_other, step_on, step_fault, calm_quiet, mark_advances, mark_stops}
use Rattle.timbuk_reader.proofs.keeping.Fits.{all_on, same_signature, no_variable}
use Rattle.spec_text.specs.lemmas.Variables.{left_binds, right_binds, binds_firsts}

-- ---- the sides of a declaration

no_applications : (p : Role) (shapes : List Shape) → IsFirstSide p shapes → IsSpot p 0 [] shapes
no_applications p shapes first = record { depth_is = refl; room = tt; first = first }

-- nothing is bound yet
module _ (r : Reader) (unbound : r.bound ≡ []) where
  opens : declared closed r ≡ declared (within [] []) r
  opens = ap (λ b. record (declared closed r) { bound = b }) (sym unbound)

  start : (ps : List Part) → from closed ps r ≡ from (within [] []) ps r
  start ps = ap (λ d. settled (outcome (end_of r) ps d r.tokens.now)) opens

  pub left_advances : (s : Shape) (u : Reader) → Builds role.LeftSide 0 r s u → Advances (pattern role.LeftSide) closed r (within [] (s ∷ [])) u
  left_advances s u h = record { by = λ ps. start (pattern role.LeftSide ∷ ps) ∙ h.by ps [] [] (no_applications role.LeftSide [] refl) }

  pub left_stops : (e : SpecError) → Breaks role.LeftSide 0 r e → Stops (pattern role.LeftSide) closed r e
  left_stops e h = record { by = λ ne ps. ap as_error (start (pattern role.LeftSide ∷ ps)) ∙ h.by ne ps [] [] (no_applications role.LeftSide [] refl) }

  pub equated_advances : (s : Shape) (u : Reader) → Builds role.EquationLeft 0 r s u → Advances (pattern role.EquationLeft) closed r (within [] (s ∷ [])) u
  equated_advances s u h = record { by = λ ps. start (pattern role.EquationLeft ∷ ps) ∙ h.by ps [] [] (no_applications role.EquationLeft [] refl) }

  pub equated_stops : (e : SpecError) → Breaks role.EquationLeft 0 r e → Stops (pattern role.EquationLeft) closed r e
  equated_stops e h = record { by = λ ne ps. ap as_error (start (pattern role.EquationLeft ∷ ps)) ∙ h.by ne ps [] [] (no_applications role.EquationLeft [] refl) }

-- the left side is whole
pub side_calm : (s : Shape) → IsCalm (within [] (s ∷ []))
side_calm s = record { applications = refl; last = refl }

pub right_advances : (l s : Shape) (m u v : Reader) → Builds role.RightSide 0 m s u → state_of v ≡ record (state_of u) { rules = (state_of u).rules ++ (l, s) ∷ [] } → end_of v ≡ end_of u → v.tokens.now ≡ u.tokens.now
    → Advances (pattern role.RightSide) (within [] (l ∷ [])) m closed v
right_advances l s m u v h state end tokens = record { by = λ ps. h.by ps [] (l ∷ []) (no_applications role.RightSide (l ∷ []) tt) ∙ (λ i. settled (outcome (sym end i) ps (sym state i) (sym tokens i))) }

pub right_stops : (l : Shape) (m : Reader) (e : SpecError) → Breaks role.RightSide 0 m e → Stops (pattern role.RightSide) (within [] (l ∷ [])) m e
right_stops l m e h = record { by = λ ne ps. h.by ne ps [] (l ∷ []) (no_applications role.RightSide (l ∷ []) tt) }

pub equal_advances : (l s : Shape) (m u v : Reader) → Builds role.EquationRight 0 m s u → state_of v ≡ record (state_of u) { equations = (state_of u).equations ++ (l, s) ∷ [] } → end_of v ≡ end_of u → v.tokens.now ≡ u.tokens.now
    → Advances (pattern role.EquationRight) (within [] (l ∷ [])) m closed v
equal_advances l s m u v h state end tokens = record { by = λ ps. h.by ps [] (l ∷ []) (no_applications role.EquationRight (l ∷ []) tt) ∙ (λ i. settled (outcome (sym end i) ps (sym state i) (sym tokens i))) }

pub equal_stops : (l : Shape) (m : Reader) (e : SpecError) → Breaks role.EquationRight 0 m e → Stops (pattern role.EquationRight) (within [] (l ∷ [])) m e
equal_stops l m e h = record { by = λ ne ps. h.by ne ps [] (l ∷ []) (no_applications role.EquationRight (l ∷ []) tt) }

-- ---- what was read is a rule, or an equation

module _ (left right : Pattern) (r m v u : Reader) (unbound : r.bound ≡ []) (l : IsSide role.LeftSide r left m) (still : v.bound ≡ m.bound) (h : IsSide role.RightSide v right u) (few : length m.bound ≤ 16) where
  left_facts : (first_repeat (occurrences left) ≡ None) × (m.bound ≡ occurrences left)
  left_facts = left_binds [] (occurrences left) m.bound (subst (λ z. Binds role.LeftSide z (occurrences left) m.bound) unbound l.binds)

  no_free : first_free (occurrences left) (occurrences right) ≡ None
  no_free = (right_binds (occurrences left) (occurrences right) u.bound (subst (λ z. Binds role.RightSide z (occurrences right) u.bound) (still ∙ left_facts.1) h.binds)).0

  few_variables : length (variables_of left) ≤ 16
  few_variables =
      let e : variables_of left ≡ m.bound = binds_firsts role.LeftSide [] (occurrences left) m.bound (subst (λ z. Binds role.LeftSide z (occurrences left) m.bound) unbound l.binds) in
      subst (λ z. length z ≤ 16) (sym e) few

  -- a rule has no fault
  pub no_rule_fault : (f : RuleFault) (result : Result RewriteRule RuleFault) → result ≡ Err f
      → ((result ≡ Err fault.VariableLeft) ↔ IsVariable left)
      → ((var : ℕ) → (result ≡ Err (fault.NotLeftLinear var)) ↔ (first_repeat (occurrences left) ≡ Some var))
      → ((var : ℕ) → (result ≡ Err (fault.FreeVariable var)) ↔ ((IsVariable left → ⊥) × IsLinear left × (first_free (occurrences left) (occurrences right) ≡ Some var)))
      → ((result ≡ Err fault.TooManyVariables) ↔ ((IsVariable left → ⊥) × IsLinear left × IsBound left right × (16 < length (variables_of left)))) → ⊥
  no_rule_fault fault.VariableLeft result e a b c d = no_variable left l.no_variable (a.0 e)
  no_rule_fault (fault.NotLeftLinear var) result e a b c d = let k = sym left_facts.0 ∙ (b var).0 e in cc
  no_rule_fault (fault.FreeVariable var) result e a b c d = let k = sym no_free ∙ ((c var).0 e).2 in cc
  no_rule_fault fault.TooManyVariables result e a b c d = let k = (d.0 e).3 in let n = few_variables in omega arith

module _ (left right : Pattern) (r m v u : Reader) (unbound : r.bound ≡ []) (l : IsSide role.EquationLeft r left m) (still : v.bound ≡ m.bound) (h : IsSide role.EquationRight v right u) (few : length u.bound ≤ 16) where
  -- an equation has few variables
  pub few_equated : length (firsts (occurrences left ++ occurrences right)) ≤ 16
  few_equated =
      let first : fold terms.with_variable [] (occurrences left) ≡ m.bound = binds_firsts role.EquationLeft [] (occurrences left) m.bound (subst (λ z. Binds role.EquationLeft z (occurrences left) m.bound) unbound l.binds) in
      let next : fold terms.with_variable v.bound (occurrences right) ≡ u.bound = binds_firsts role.EquationRight v.bound (occurrences right) u.bound h.binds in
      let both : firsts (occurrences left ++ occurrences right) ≡ u.bound = fold-append terms.with_variable [] (occurrences left) (occurrences right) ∙ ap (λ z. fold terms.with_variable z (occurrences right)) (first ∙ sym still) ∙ next in
      subst (λ z. length z ≤ 16) (sym both) few

-- ---- section words

trs_over : (text : List ℕ) (d : Declared) → 0 < d.systems → use_row terminal.Trs text d ≡ Some (kind.Limit limit.Systems)
unfolding passed
trs_over text d h = let e : nat_le 1 d.systems ≡ true = grind (arith, nat_tests) in rw e refl

trs_new : (text : List ℕ) (d : Declared) → d.systems ≡ 0 → use_row terminal.Trs text d ≡ None
unfolding passed misnamed
trs_new text d h = let e : nat_le 1 d.systems ≡ false = grind (arith, nat_tests) in rw e refl

equations_over : (text : List ℕ) (d : Declared) → 0 < d.equation_sections → use_row terminal.Equations text d ≡ Some (kind.Limit limit.EquationSections)
unfolding passed
equations_over text d h = let e : nat_le 1 d.equation_sections ≡ true = grind (arith, nat_tests) in rw e refl

equations_new : (text : List ℕ) (d : Declared) → d.equation_sections ≡ 0 → use_row terminal.Equations text d ≡ None
unfolding passed misnamed
equations_new text d h = let e : nat_le 1 d.equation_sections ≡ false = grind (arith, nat_tests) in rw e refl

module _ (r : Reader) (x : Lexeme) (rest : List Lexeme) (tokens : r.tokens.now ≡ x ∷ rest) where
  word_fault : (t : Terminal) (k : SpecKind) (e : SpecError) → matches t x ≡ true → IsOther t → use_row t x.text (state_of r) ≡ Some k → e ≡ error.Fault (refusal k r) → Stops (one t) closed r e
  word_fault t k e seen other row told = record {
    by = λ ne ps.
        ap (λ z. as_error (settled z)) (ap (outcome (end_of r) (one t ∷ ps) (state_of r)) tokens
        ∙ step_fault (one t ∷ ps) t ps (end_of r) (state_of r) x rest k (one_front t ps) seen (row_other t (state_of r) x other seen (calm_quiet (state_of r) x refl refl) ∙ row)
        ∙ ap (λ xs. Err (refusal_at k (end_of r) xs)) (sym tokens)) ∙ ap Err (sym told);
  }

  word_on : (t : Terminal) (u : Reader) → matches t x ≡ true → IsOther t → use_row t x.text (state_of r) ≡ None → u.tokens.now ≡ rest → end_of u ≡ end_of r → state_of u ≡ adds t x.text (state_of r) → Advances (one t) closed r closed u
  word_on t u seen other row left end state = record {
    by = λ ps. ap settled (
        ap (outcome (end_of r) (one t ∷ ps) (state_of r)) tokens
        ∙ step_on (one t ∷ ps) t ps (end_of r) (state_of r) x rest (one_front t ps) seen (row_other t (state_of r) x other seen (calm_quiet (state_of r) x refl refl) ∙ row)
        ∙ (λ i. outcome (sym end i) ps (sym state i) (sym left i)));
  }

  pub system_stops : (e : SpecError) → matches terminal.Trs x ≡ true → 0 < r.systems → e ≡ error.Fault (refusal (kind.Limit limit.Systems) r) → Stops (one terminal.Trs) closed r e
  system_stops e seen h told = word_fault terminal.Trs (kind.Limit limit.Systems) e seen tt (trs_over x.text (state_of r) h) told

  pub system_advances : (u : Reader) → matches terminal.Trs x ≡ true → r.systems ≡ 0 → u.tokens.now ≡ rest → end_of u ≡ end_of r → state_of u ≡ record (state_of r) { systems = 1 } → Advances (one terminal.Trs) closed r closed u
  unfolding adds
  system_advances u seen none left end state = word_on terminal.Trs u seen tt (trs_new x.text (state_of r) none) left end (state ∙ ap (λ n. record (state_of r) { systems = n }) (sym (ap (λ n. n + 1) none)))

  pub equations_stops : (e : SpecError) → matches terminal.Equations x ≡ true → 0 < r.equation_sections → e ≡ error.Fault (refusal (kind.Limit limit.EquationSections) r) → Stops (one terminal.Equations) closed r e
  equations_stops e seen h told = word_fault terminal.Equations (kind.Limit limit.EquationSections) e seen tt (equations_over x.text (state_of r) h) told

  pub equations_advances : (u : Reader) → matches terminal.Equations x ≡ true → r.equation_sections ≡ 0 → u.tokens.now ≡ rest → end_of u ≡ end_of r → state_of u ≡ record (state_of r) { equation_sections = 1 } → Advances (one terminal.Equations) closed r closed u
  unfolding adds
  equations_advances u seen none left end state = word_on terminal.Equations u seen tt (equations_new x.text (state_of r) none) left end (state ∙ ap (λ n. record (state_of r) { equation_sections = n }) (sym (ap (λ n. n + 1) none)))

-- what is seen is the first token
pub seen_first : (t : Terminal) (xs : List Lexeme) → sees t xs ≡ true → (x : Lexeme) × (rest : List Lexeme) × (xs ≡ x ∷ rest) × (matches t x ≡ true)
seen_first t [] e = cc
seen_first t (x ∷ rest) e = (x, rest, refl, e)

-- ---- what is kept of the signature

pub rules_on : (signature : List Symbol) (rules : List RewriteRule) (new : RewriteRule) → rules_are_over signature rules ≡ true → pattern_is_over signature new.left ≡ true → pattern_is_over signature new.right ≡ true → rules_are_over signature (rules ++ new ∷ []) ≡ true
rules_on signature rules new h l r = all_on (λ (z : RewriteRule). pattern_is_over signature z.left && pattern_is_over signature z.right) rules new h (rw (l, r) refl)

pub equations_on : (signature : List Symbol) (equations : List RewriteEquation) (new : RewriteEquation) → equations_are_over signature equations ≡ true → pattern_is_over signature new.left ≡ true → pattern_is_over signature new.right ≡ true → equations_are_over signature (equations ++ new ∷ []) ≡ true
equations_on signature equations new h l r = all_on (λ (z : RewriteEquation). pattern_is_over signature z.left && pattern_is_over signature z.right) equations new h (rw (l, r) refl)

-- ---- a whole rule, or equation, whose bound variables are cleared first

module _ (r m start : Reader) (same : SameBut r start) (tokens_same : start.tokens.now ≡ r.tokens.now) (unbound : start.bound ≡ []) where
  cleared : (ps : List Part) → from closed ps r ≡ from closed ps start
  cleared ps = λ i. settled (outcome (sym same.end i) ps (sym same.state i) (sym tokens_same i))

  from_start : (p : Part) (q : Open) (u : Reader) → Advances p closed start q u → Advances p closed r q u
  from_start p q u h = record { by = λ ps. cleared (p ∷ ps) ∙ h.by ps }

  stops_start : (p : Part) (e : SpecError) → Stops p closed start e → Stops p closed r e
  stops_start p e h = record { by = λ ne ps. ap as_error (cleared (p ∷ ps)) ∙ h.by ne ps }

  pub rule_left : (e : SpecError) → Breaks role.LeftSide 0 start e → Stops rule closed r e
  rule_left e h = stops_start rule e (then_stops (pattern role.LeftSide) (one terminal.Arrow then pattern role.RightSide) closed start e (left_stops start unbound e h))

  pub equation_left : (e : SpecError) → Breaks role.EquationLeft 0 start e → Stops equation closed r e
  equation_left e h = stops_start equation e (then_stops (pattern role.EquationLeft) (one terminal.Equals then pattern role.EquationRight) closed start e (equated_stops start unbound e h))

  module _ (left : Pattern) (l : IsSide role.LeftSide start left m) where
    left_read : Advances (pattern role.LeftSide) closed start (within [] (shape_of left ∷ [])) m
    left_read = left_advances start unbound (shape_of left) m l.builds

    pub rule_arrow : (e : SpecError) → Missed terminal.Arrow m e → Stops rule closed r e
    rule_arrow e h = stops_start rule e (later_stops (pattern role.LeftSide) (one terminal.Arrow then pattern role.RightSide) closed (within [] (shape_of left ∷ [])) start m e left_read
        (then_stops (one terminal.Arrow) (pattern role.RightSide) (within [] (shape_of left ∷ [])) m e (mark_stops terminal.Arrow (within [] (shape_of left ∷ [])) m e (side_calm (shape_of left)) h)))

    module _ (v : Reader) (k : Took terminal.Arrow m v) where
      arrow_read : Advances (one terminal.Arrow) (within [] (shape_of left ∷ [])) m (within [] (shape_of left ∷ [])) v
      arrow_read = mark_advances terminal.Arrow (within [] (shape_of left ∷ [])) m v tt (side_calm (shape_of left)) k

      pub rule_right : (e : SpecError) → Breaks role.RightSide 0 v e → Stops rule closed r e
      rule_right e h = stops_start rule e (later_stops (pattern role.LeftSide) (one terminal.Arrow then pattern role.RightSide) closed (within [] (shape_of left ∷ [])) start m e left_read
          (later_stops (one terminal.Arrow) (pattern role.RightSide) (within [] (shape_of left ∷ [])) (within [] (shape_of left ∷ [])) m v e arrow_read (right_stops (shape_of left) v e h)))

      pub rule_whole : (right : Pattern) (u w : Reader) → IsSide role.RightSide v right u → state_of w ≡ record (state_of u) { rules = (state_of u).rules ++ (shape_of left, shape_of right) ∷ [] } → end_of w ≡ end_of u → w.tokens.now ≡ u.tokens.now → Advances rule closed r closed w
      rule_whole right u w h state end tokens = from_start rule closed w (then_advances (pattern role.LeftSide) (one terminal.Arrow then pattern role.RightSide) closed (within [] (shape_of left ∷ [])) closed start m w left_read
          (then_advances (one terminal.Arrow) (pattern role.RightSide) (within [] (shape_of left ∷ [])) (within [] (shape_of left ∷ [])) closed m v w arrow_read (right_advances (shape_of left) (shape_of right) v u w h.builds state end tokens)))

  module _ (left : Pattern) (l : IsSide role.EquationLeft start left m) where
    equated_read : Advances (pattern role.EquationLeft) closed start (within [] (shape_of left ∷ [])) m
    equated_read = equated_advances start unbound (shape_of left) m l.builds

    pub equation_mark : (e : SpecError) → Missed terminal.Equals m e → Stops equation closed r e
    equation_mark e h = stops_start equation e (later_stops (pattern role.EquationLeft) (one terminal.Equals then pattern role.EquationRight) closed (within [] (shape_of left ∷ [])) start m e equated_read
        (then_stops (one terminal.Equals) (pattern role.EquationRight) (within [] (shape_of left ∷ [])) m e (mark_stops terminal.Equals (within [] (shape_of left ∷ [])) m e (side_calm (shape_of left)) h)))

    module _ (v : Reader) (k : Took terminal.Equals m v) where
      equals_read : Advances (one terminal.Equals) (within [] (shape_of left ∷ [])) m (within [] (shape_of left ∷ [])) v
      equals_read = mark_advances terminal.Equals (within [] (shape_of left ∷ [])) m v tt (side_calm (shape_of left)) k

      pub equation_right : (e : SpecError) → Breaks role.EquationRight 0 v e → Stops equation closed r e
      equation_right e h = stops_start equation e (later_stops (pattern role.EquationLeft) (one terminal.Equals then pattern role.EquationRight) closed (within [] (shape_of left ∷ [])) start m e equated_read
          (later_stops (one terminal.Equals) (pattern role.EquationRight) (within [] (shape_of left ∷ [])) (within [] (shape_of left ∷ [])) m v e equals_read (equal_stops (shape_of left) v e h)))

      pub equation_whole : (right : Pattern) (u w : Reader) → IsSide role.EquationRight v right u → state_of w ≡ record (state_of u) { equations = (state_of u).equations ++ (shape_of left, shape_of right) ∷ [] } → end_of w ≡ end_of u → w.tokens.now ≡ u.tokens.now → Advances equation closed r closed w
      equation_whole right u w h state end tokens = from_start equation closed w (then_advances (pattern role.EquationLeft) (one terminal.Equals then pattern role.EquationRight) closed (within [] (shape_of left ∷ [])) closed start m w equated_read
          (then_advances (one terminal.Equals) (pattern role.EquationRight) (within [] (shape_of left ∷ [])) (within [] (shape_of left ∷ [])) closed m v w equals_read (equal_advances (shape_of left) (shape_of right) v u w h.builds state end tokens)))

-- ---- what is added

pub rules_read : (before after : List RewriteRule) (new : RewriteRule) (left right : Pattern) → after ≡ before ++ new ∷ [] → (new.left ≡ left) × (new.right ≡ right) → map rule_shapes after ≡ map rule_shapes before ++ (shape_of left, shape_of right) ∷ []
rules_read before after new left right e sides = ap (map rule_shapes) e ∙ map-append rule_shapes before (new ∷ []) ∙ (λ i. map rule_shapes before ++ (shape_of (sides.0 i), shape_of (sides.1 i)) ∷ [])

pub equations_read : (before after : List RewriteEquation) (new : RewriteEquation) (left right : Pattern) → after ≡ before ++ new ∷ [] → (new.left ≡ left) × (new.right ≡ right) → map equation_shapes after ≡ map equation_shapes before ++ (shape_of left, shape_of right) ∷ []
equations_read before after new left right e sides = ap (map equation_shapes) e ∙ map-append equation_shapes before (new ∷ []) ∙ (λ i. map equation_shapes before ++ (shape_of (sides.0 i), shape_of (sides.1 i)) ∷ [])

-- what holds of each holds of one more, where there may be no memory for it
pub all_push : {X E T : Type 0} (P : T → Type 0) (result : Result X E) (before after : List T) (new : T) → OnOk result (after ≡ before ++ new ∷ []) → OnErr result (after ≡ before) → All P before → P new → All P after
all_push P (Ok x) before after new ok err h is = subst (All P) (sym ok) (All-append P before (new ∷ []) h (All-cons P new [] is (All-nil P)))
all_push P (Err e) before after new ok err h is = subst (All P) (sym err) h

-- the rules that are kept, and one more
kept_on : (before after : List RewriteRule) (new : RewriteRule) → All IsKeptRule before → after ≡ before ++ new ∷ [] → IsRule new → All IsKeptRule after
kept_on before after new h e is =
    let kept : IsKeptRule new = record {
      left_is_no_variable = is.left_is_no_variable;
      left_is_linear = is.left_is_linear;
      none_free = none_from_bound new.left new.right is.right_is_bound;
      vars_are = is.vars_are;
      vars_are_few = is.vars_are_few;
    } in
    subst (All IsKeptRule) (sym e) (All-append IsKeptRule before (new ∷ []) h (All-cons IsKeptRule new [] kept (All-nil IsKeptRule)))

-- the same where there may be no memory for it
pub kept_push : {X E : Type 0} (result : Result X E) (before after : List RewriteRule) (new : RewriteRule) → OnOk result (after ≡ before ++ new ∷ []) → OnErr result (after ≡ before) → All IsKeptRule before → IsRule new → All IsKeptRule after
kept_push (Ok x) before after new ok err h is = kept_on before after new h ok is
kept_push (Err e) before after new ok err h is = subst (All IsKeptRule) (sym err) h

-- the signature of the last reader is that of the first
module _ (start m v u : Reader) (first : SameBut start m) (t : Terminal) (k : Took t m v) (second : SameBut v u) where
  same_end_signature : u.signature ≡ v.signature
  same_end_signature = same_signature v u second

  same_whole_signature : u.signature ≡ start.signature
  same_whole_signature = same_end_signature ∙ ap (λ (d : Declared). d.symbols) k.state ∙ same_signature start m first

  side_over : (left right : Pattern) → pattern_is_over start.signature left ≡ true → pattern_is_over v.signature right ≡ true → (pattern_is_over u.signature left ≡ true) × (pattern_is_over u.signature right ≡ true)
  side_over left right l r = (ap (λ s. pattern_is_over s left) same_whole_signature ∙ l, ap (λ s. pattern_is_over s right) same_end_signature ∙ r)

  -- rules, and one more where there is memory for it
  pub rules_push : {X E : Type 0} (result : Result X E) (left right : Pattern) (after : List RewriteRule) (new : RewriteRule) → pattern_is_over start.signature left ≡ true → pattern_is_over v.signature right ≡ true → (new.left ≡ left) × (new.right ≡ right)
      → OnOk result (after ≡ u.rules ++ new ∷ []) → OnErr result (after ≡ u.rules) → rules_are_over u.signature after ≡ true
  rules_push (Ok x) left right after new l r sides ok err =
      let over = side_over left right l r in
      ap (rules_are_over u.signature) ok ∙ rules_on u.signature u.rules new u.rules_over (ap (pattern_is_over u.signature) sides.0 ∙ over.0) (ap (pattern_is_over u.signature) sides.1 ∙ over.1)
  rules_push (Err e) left right after new l r sides ok err = ap (rules_are_over u.signature) err ∙ u.rules_over

  -- the same of equations
  pub equations_push : {X E : Type 0} (result : Result X E) (left right : Pattern) (after : List RewriteEquation) (new : RewriteEquation) → pattern_is_over start.signature left ≡ true → pattern_is_over v.signature right ≡ true → (new.left ≡ left) × (new.right ≡ right)
      → OnOk result (after ≡ u.equations ++ new ∷ []) → OnErr result (after ≡ u.equations) → equations_are_over u.signature after ≡ true
  equations_push (Ok x) left right after new l r sides ok err =
      let over = side_over left right l r in
      ap (equations_are_over u.signature) ok ∙ equations_on u.signature u.equations new u.equations_over (ap (pattern_is_over u.signature) sides.0 ∙ over.0) (ap (pattern_is_over u.signature) sides.1 ∙ over.1)
  equations_push (Err e) left right after new l r sides ok err = ap (equations_are_over u.signature) err ∙ u.equations_over
