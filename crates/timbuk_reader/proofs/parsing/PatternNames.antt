-- A name in a pattern.
use Rattle.std.proofs.Math.Bool.{and-false, and-true, or-false}
use Rattle.std.proofs.Common.{◌≡◌, ℕ, suc, ◌<◌, ◌≤◌, length, arith, add-zero, Bool, true, false, not, ◌&&◌, ◌==◌, cond, List, [], ◌∷◌, Option, Some, None, Err, refl, ap, sym, ◌∙◌}
use Rattle.std.specs.Prelude.{option_map, nat_lt, nat_le}
use Rattle.std.proofs.lemmas.List.{length-map}
use Rattle.std.proofs.lemmas.Bool.Decides.{nat_tests}
use Rattle.ranked_terms.specs.declared.term.Shape.{Shape}
use Rattle.timbuk_lex.specs.declared.lexeme.Lexeme.{Lexeme}
use Rattle.timbuk_grammar.specs.Vocabulary.{is_reserved}
use Rattle.timbuk_grammar.specs.declared.terminal.Role.{Role}
use Rattle.timbuk_grammar.specs.declared.terminal.Role.TheVariants as role
use Rattle.timbuk_grammar.specs.declared.terminal.Terminal.TheVariants as terminal
use Rattle.timbuk_grammar.specs.Matching.{matches}
use Rattle.timbuk_grammar.specs.Grammar.{Part, pattern, pattern_arguments}
use Rattle.timbuk_grammar.specs.lemmas.Differ as differ
use Rattle.spec_text.specs.declared.fault.SpecKind.TheVariants as kind
use Rattle.spec_text.specs.declared.fault.LimitName.{LimitName}
use Rattle.spec_text.specs.declared.fault.LimitName.TheVariants as limit
use Rattle.timbuk_reader.specs.declared.state.Reader.{Reader}
use Rattle.spec_text.specs.Declarations.{Text, Declared, Application, any, Meaning, unknown, a_variable, a_state, a_symbol, meaning, has, named, adds}
use Rattle.spec_text.specs.Rows.{or, when, wrong_arity, wrong_count, passed, misnamed, too_deep, one_too_many, over, variable_left, stands_twice, is_free, is_unknown, none_open, none_whole}
use Rattle.spec_text.specs.Reading.{End, outcome}
use Rattle.timbuk_reader.specs.View.{declared, state_of, refusal_at}
use Rattle.spec_text.specs.Reading.{sees}
use Rattle.timbuk_reader.specs.Patterns.{IsPatternRole, within, HasRoom, IsFirstSide, side_limit, pattern_limit, misuse, pattern_fault}
use Rattle.timbuk_reader.proofs.parsing.Parts.{pattern_front, choice_unseen}
use Rattle.timbuk_reader.proofs.parsing.Tokens.{use_row, Quiet, step_wrong, step_unexpected, step_end}

-- ---- what is open, as numbers

none_open_is : (applications : List Application) → none_open applications ≡ (length applications == 0)
none_open_is [] = refl
none_open_is (a ∷ outer) = let e : (suc (length outer) == 0) ≡ false = grind (arith, nat_tests) in sym e

first_is : (p : Role) (depth : ℕ) (applications : List Application) (shapes : List Shape) → length applications ≡ depth → shapes ≡ [] → (none_open applications && none_whole shapes) ≡ (depth == 0)
first_is p depth applications shapes e f = rw f (and-true (none_open applications) ∙ none_open_is applications ∙ ap (λ n. n == 0) e)

-- ---- the row of a name

module _ (r : Reader) (depth : ℕ) (applications : List Application) (shapes : List Shape) (deep : length applications ≡ depth) where
  abbrev pub D : Declared
  D = declared (within applications shapes) r

  over_is : (p : Role) → IsPatternRole p → IsFirstSide p shapes → over (terminal.Named p) [] D ≡ side_limit p depth (length r.rules) (length r.equations)
  over_is role.LeftSide h first = rw (length-map, first_is role.LeftSide depth applications shapes deep first) refl
  over_is role.RightSide h first = refl
  over_is role.EquationLeft h first = rw (length-map, first_is role.EquationLeft depth applications shapes deep first) refl
  over_is role.EquationRight h first = refl
  over_is role.EntryWhole h first = refl
  over_is _ h first = absurd h

  or_if : {A : Type 0} (b : Bool) (a : A) (o : Option A) → or (when b a) o ≡ cond b (Some a) o
  or_if true a o = refl
  or_if false a o = refl

  or_none : {A : Type 0} (o : Option A) → or o None ≡ o
  or_none None = refl
  or_none (Some a) = refl

  limit_is : (m : Meaning) (side : Option LimitName) → or (too_deep m D) (or (one_too_many m D) side) ≡ pattern_limit m depth r.bound side
  limit_is unknown side = refl
  limit_is (a_variable v) side = rw (or-false, add-zero) (or_if (not (has r.bound v) && nat_le 16 (length r.bound)) limit.Variables side)
  limit_is (a_state q) side = refl
  limit_is (a_symbol f n) side = rw deep (or_if (nat_lt 0 n && nat_le 100 depth) limit.Nesting side)

  misuse_is : (p : Role) (m : Meaning) → IsPatternRole p → IsFirstSide p shapes
      → or (when (is_unknown m) kind.UnknownName) (or (when (variable_left (terminal.Named p) m D) kind.VariableLeft) (or (when (stands_twice (terminal.Named p) m D) kind.NotLeftLinear) (when (is_free (terminal.Named p) m D) kind.FreeVariable))) ≡ misuse p m depth r.bound
  misuse_is role.LeftSide unknown h first = refl
  misuse_is role.LeftSide (a_variable v) h first = rw (first_is role.LeftSide depth applications shapes deep first) (or_if (depth == 0) kind.VariableLeft _ ∙ ap (cond (depth == 0) (Some kind.VariableLeft)) (or_none (when (has r.bound v) kind.NotLeftLinear)))
  misuse_is role.LeftSide (a_state q) h first = refl
  misuse_is role.LeftSide (a_symbol f n) h first = refl
  misuse_is role.RightSide unknown h first = refl
  misuse_is role.RightSide (a_variable v) h first = refl
  misuse_is role.RightSide (a_state q) h first = refl
  misuse_is role.RightSide (a_symbol f n) h first = refl
  misuse_is role.EquationLeft unknown h first = refl
  misuse_is role.EquationLeft (a_variable v) h first = refl
  misuse_is role.EquationLeft (a_state q) h first = refl
  misuse_is role.EquationLeft (a_symbol f n) h first = refl
  misuse_is role.EquationRight unknown h first = refl
  misuse_is role.EquationRight (a_variable v) h first = refl
  misuse_is role.EquationRight (a_state q) h first = refl
  misuse_is role.EquationRight (a_symbol f n) h first = refl
  misuse_is role.EntryWhole unknown h first = refl
  misuse_is role.EntryWhole (a_variable v) h first = refl
  misuse_is role.EntryWhole (a_state q) h first = refl
  misuse_is role.EntryWhole (a_symbol f n) h first = refl
  misuse_is _ m h first = absurd h

  pub meaning_is : (p : Role) (text : Text) → IsPatternRole p → meaning D p text ≡ meaning (state_of r) p text
  unfolding meaning
  meaning_is role.LeftSide text h = refl
  meaning_is role.RightSide text h = refl
  meaning_is role.EquationLeft text h = refl
  meaning_is role.EquationRight text h = refl
  meaning_is role.EntryWhole text h = refl
  meaning_is _ text h = absurd h

  -- the rows of a short name, by what it means
  use_is : (p : Role) (text : Text) → IsPatternRole p → nat_lt 255 (length text) ≡ false
      → use_row (terminal.Named p) text D ≡ or (option_map kind.Limit (or (too_deep (meaning D p text) D) (or (one_too_many (meaning D p text) D) (over (terminal.Named p) [] D))))
      (or (when (is_unknown (meaning D p text)) kind.UnknownName) (or (when (variable_left (terminal.Named p) (meaning D p text) D) kind.VariableLeft) (or (when (stands_twice (terminal.Named p) (meaning D p text) D) kind.NotLeftLinear) (when (is_free (terminal.Named p) (meaning D p text) D) kind.FreeVariable))))
  unfolding passed misnamed
  use_is role.LeftSide text h e = rw e refl
  use_is role.RightSide text h e = rw e refl
  use_is role.EquationLeft text h e = rw e refl
  use_is role.EquationRight text h e = rw e refl
  use_is role.EntryWhole text h e = rw e refl
  use_is _ text h e = absurd h

  -- The first row that fits a name is what the reader finds of it.
  pub fault_row : (p : Role) (text : Text) (m : Meaning) → IsPatternRole p → IsFirstSide p shapes → length text ≤ 255 → meaning (state_of r) p text ≡ m → use_row (terminal.Named p) text D ≡ pattern_fault p m depth r
  fault_row p text m h first short is =
      let few : nat_lt 255 (length text) ≡ false = grind (arith, nat_tests) in
      use_is p text h few
      ∙ (λ i. let n = (meaning_is p text h ∙ is) i in or (option_map kind.Limit (or (too_deep n D) (or (one_too_many n D) (over (terminal.Named p) [] D))))
      (or (when (is_unknown n) kind.UnknownName) (or (when (variable_left (terminal.Named p) n D) kind.VariableLeft) (or (when (stands_twice (terminal.Named p) n D) kind.NotLeftLinear) (when (is_free (terminal.Named p) n D) kind.FreeVariable)))))
      ∙ (λ i. or (option_map kind.Limit ((ap (λ s. or (too_deep m D) (or (one_too_many m D) s)) (over_is p h first) ∙ limit_is m (side_limit p depth (length r.rules) (length r.equations))) i)) (misuse_is p m h first i))

-- ---- a name as a token

-- a name is no mark
module _ (p : Role) (x : Lexeme) (named_x : matches (terminal.Named p) x ≡ true) where
  no_comma : matches terminal.Comma x ≡ false
  unfolding is_reserved
  no_comma = differ.apart (terminal.Named p) terminal.Comma x refl named_x

  no_close : matches terminal.CloseParen x ≡ false
  unfolding is_reserved
  no_close = differ.apart (terminal.Named p) terminal.CloseParen x refl named_x

  name_count : (applications : List Application) → wrong_count applications x ≡ false
  name_count [] = refl
  name_count (a ∷ outer) = rw (no_close, no_comma) refl

  pub name_quiet : (d : Declared) → d.last ≡ any → Quiet d x
  unfolding wrong_arity
  name_quiet d e = record { arity = rw (e, name_count d.applications) refl; leaf = rw e refl }

-- what a name adds in a pattern
pub adds_named : (p : Role) (text : Text) (d : Declared) → IsPatternRole p → adds (terminal.Named p) text d ≡ named p (meaning d p text) d
unfolding adds
adds_named role.LeftSide text d h = refl
adds_named role.RightSide text d h = refl
adds_named role.EquationLeft text d h = refl
adds_named role.EquationRight text d h = refl
adds_named role.EntryWhole text d h = refl
adds_named _ text d h = absurd h

-- ---- other tokens where a pattern is expected

no_room_wrong : (applications : List Application) (x : Lexeme) → HasRoom applications → (0 < length applications → matches terminal.CloseParen x ≡ false) → wrong_count applications x ≡ false
no_room_wrong [] x h c = refl
no_room_wrong (a ∷ outer) x h c =
    let less : nat_le a.arity (length a.args) ≡ false = grind (arith, nat_tests) in
    let open_one : 0 < length (a ∷ outer) = omega arith in
    rw (c open_one, less) (and-false (matches terminal.Comma x))

-- there is no name, and no `)` that comes too early
pub pattern_missed : (p : Role) (ps : List Part) (end : End) (d : Declared) (xs : List Lexeme) → d.last ≡ any → HasRoom d.applications → sees (terminal.Named p) xs ≡ false → (0 < length d.applications → sees terminal.CloseParen xs ≡ false)
    → outcome end (pattern p ∷ ps) d xs ≡ Err (refusal_at kind.Expected end xs)
unfolding wrong_arity
pattern_missed p ps end d [] l h e c = step_end (pattern p ∷ ps) end d refl
pattern_missed p ps end d (x ∷ xs) l h e c = step_unexpected (pattern p ∷ ps) end d x xs (choice_unseen (pattern p ∷ ps) (terminal.Named p) (pattern_arguments p ∷ ps) x (pattern_front p ps) e) (rw (l, no_room_wrong d.applications x h c) refl)

close_wrong : (applications : List Application) (x : Lexeme) → HasRoom applications → 0 < length applications → matches terminal.CloseParen x ≡ true → wrong_count applications x ≡ true
close_wrong [] x h c e = absurd (omega arith)
close_wrong (a ∷ outer) x h c e = let less : nat_lt (length a.args) a.arity ≡ true = grind (arith, nat_tests) in rw (e, less) refl

-- a `)` comes too early
pub pattern_closed : (p : Role) (ps : List Part) (end : End) (d : Declared) (xs : List Lexeme) → d.last ≡ any → HasRoom d.applications → 0 < length d.applications → sees terminal.CloseParen xs ≡ true
    → outcome end (pattern p ∷ ps) d xs ≡ Err (refusal_at kind.WrongArity end xs)
unfolding wrong_arity
pattern_closed p ps end d [] l h c e = cc
pattern_closed p ps end d (x ∷ xs) l h c e = step_wrong (pattern p ∷ ps) end d x xs (rw (l, close_wrong d.applications x h c e) refl)
