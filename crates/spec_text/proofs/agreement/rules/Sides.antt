-- What rules and equations share: the state between declarations, the marks between their sides, and names that are short.
use Rattle.std.proofs.Common.{◌≡◌, ℕ, zero, suc, ◌≤◌, true, false, not, List, [], ◌∷◌, fold, length, get_or, refl, ap, sym, ◌∙◌, subst, arith}
use Rattle.std.specs.Prelude.{Option, Some, None, position, All}
use Rattle.std.specs.Str.{bytes_eq}
use Rattle.std.proofs.lemmas.Bool.{and_from, le-ltb}
use Rattle.std.proofs.lemmas.List.Quantifiers.{position-Some}
use Rattle.std.proofs.lemmas.Slice.Eq.{bytes_eq-Decides}
use Rattle.ranked_terms.specs.Names.{names_of, number_of}
use Rattle.ranked_terms.specs.declared.term.Pattern.{Pattern}
use Rattle.ranked_terms.specs.declared.term.Pattern.TheVariants.{Var}
use Rattle.ranked_terms.specs.declared.term.Shape.{Shape}
use Rattle.ranked_terms.specs.declared.term.Shape.TheVariants as shape
use Rattle.trs_rules.specs.Rules.{IsVariable}
use Rattle.timbuk_grammar.specs.declared.terminal.Role.{Role}
use Rattle.timbuk_grammar.specs.declared.terminal.Terminal.TheVariants as terminal
use Rattle.timbuk_grammar.specs.Trees.{Token, Tree, Trees, leaf, node, none, comma}
use Rattle.timbuk_grammar.specs.lemmas.Differ.{apart}
use Rattle.spec_text.specs.Source.{SymbolDeclaration, text_of}
use Rattle.spec_text.specs.Naming.{IsShort, AreSymbols, signature_of, Names, stands_for, leaf_shape, shape_in, shapes_in, shape_of}
use Rattle.spec_text.specs.Declarations.{Text, Declared, Meaning, unknown, a_variable, a_state, a_symbol, or_else, as_symbol, as_variable, as_state, with_variable, adds}
use Rattle.spec_text.specs.Rows.{row, is_unknown, passed, misnamed}
use Rattle.spec_text.specs.Reading.{End}
use Rattle.spec_text.proofs.agreement.tokens.Labels.{Label, label}
use Rattle.spec_text.proofs.agreement.tokens.Last.{forgets, settled, NotOpening, settled_on}
use Rattle.spec_text.proofs.agreement.patterns.Names.{mark_plain, counts_not, plain_row}
use Rattle.spec_text.proofs.agreement.patterns.Fits.{is_variable, short}
use Rattle.spec_text.proofs.agreement.patterns.Patterns.{all_short, all_short_among, first_meaning, both_parts, applied_parts}
use Rattle.spec_text.proofs.agreement.patterns.Shapes.{shape_of-injective}
use Rattle.spec_text.specs.lemmas.Shapes.{shape_of_var}

-- ---- states

-- no declaration is open
abbrev pub at_rest : Declared → Declared
at_rest d = record d { applications = []; shapes = []; bound = []; own = [] }

pub rested : (d : Declared) → d.applications ≡ [] → d.shapes ≡ [] → d.bound ≡ [] → d.own ≡ [] → at_rest d ≡ d
rested d a s b o = (λ i. record d { applications = sym a i; shapes = sym s i; bound = sym b i; own = sym o i })

-- behind the first side of a rule or an equation, which has these variables
abbrev pub behind_left : Shape → List ℕ → Declared → Declared
behind_left s vs d = record (at_rest d) { shapes = s ∷ []; bound = fold with_variable [] vs }

-- the names that may stand in rules and equations
abbrev pub rule_names : Declared → Names
rule_names d = record { symbols = d.symbols; variables = d.variables; states = [] }

-- ---- marks between two sides

arrow_row : (d : Declared) (mark : Token terminal.Arrow) → row (Some terminal.Arrow) (forgets d) mark.lexeme ≡ None
unfolding passed misnamed
arrow_row d mark =
    let x = mark.lexeme in
    plain_row terminal.Arrow d x (mark_plain x _ mark.matched (apart terminal.Arrow terminal.Approximation x refl mark.matched))
    (counts_not d.applications x (apart terminal.Arrow terminal.CloseParen x refl mark.matched) (apart terminal.Arrow terminal.Comma x refl mark.matched)) refl

-- an arrow adds nothing
pub arrow_read : (end : End) (d : Declared) (mark : Token terminal.Arrow) (rest : List Label) → NotOpening rest → settled end d (label mark ∷ rest) ≡ settled end d rest
unfolding adds
arrow_read end d mark rest clear = settled_on end d (label mark) rest (arrow_row d mark) tt clear

pub arrow_clear : (mark : Token terminal.Arrow) (rest : List Label) → NotOpening (label mark ∷ rest)
arrow_clear mark rest = apart terminal.Arrow terminal.OpenParen mark.lexeme refl mark.matched

equals_row : (d : Declared) (mark : Token terminal.Equals) → row (Some terminal.Equals) (forgets d) mark.lexeme ≡ None
unfolding passed misnamed
equals_row d mark =
    let x = mark.lexeme in
    plain_row terminal.Equals d x (mark_plain x _ mark.matched (apart terminal.Equals terminal.Approximation x refl mark.matched))
    (counts_not d.applications x (apart terminal.Equals terminal.CloseParen x refl mark.matched) (apart terminal.Equals terminal.Comma x refl mark.matched)) refl

-- and so does an equals sign
pub equals_read : (end : End) (d : Declared) (mark : Token terminal.Equals) (rest : List Label) → NotOpening rest → settled end d (label mark ∷ rest) ≡ settled end d rest
unfolding adds
equals_read end d mark rest clear = settled_on end d (label mark) rest (equals_row d mark) tt clear

pub equals_clear : (mark : Token terminal.Equals) (rest : List Label) → NotOpening (label mark ∷ rest)
equals_clear mark rest = apart terminal.Equals terminal.OpenParen mark.lexeme refl mark.matched

-- ---- names that are short

-- no name is too long
pub record AreShort (names : Names) : Type 0 where
  pub symbols : All IsShort (names_of names.symbols)
  pub variables : All IsShort names.variables
  pub states : All IsShort names.states

-- declared symbols have short names
pub symbols_short : (declarations : List SymbolDeclaration) → All (λ d. IsShort d.name) declarations → All IsShort (names_of (signature_of declarations))
symbols_short [] h = λ k d l. absurd (omega arith)
symbols_short (x ∷ xs) h = by (symbols_short xs (λ k d l. h (suc k) d (omega arith)))
  where
    by : All IsShort (names_of (signature_of xs)) → All IsShort (names_of (signature_of (x ∷ xs)))
    by more zero d l = h zero x (omega arith)
    by more (suc k) d l = more k d (omega arith)

-- the names of rules and equations are short where those that are declared are
pub rule_names_short : (declarations : List SymbolDeclaration) (variables : List Text) → AreSymbols declarations → All IsShort variables
    → AreShort (record { symbols = signature_of declarations; variables = variables; states = [] })
rule_names_short declarations variables h vars = record { symbols = symbols_short declarations h.names; variables = vars; states = λ k d l. absurd (omega arith) }

found_short : (names : List Text) (text : Text) (i : ℕ) → All IsShort names → position (bytes_eq text) names ≡ Some i → IsShort text
found_short names text i h e =
    let f = position-Some (bytes_eq text) names i text e in
    subst IsShort (sym ((bytes_eq-Decides text (get_or names i text)).0 f.1)) (h i text f.0)

known_short : (names : Names) (text : Text) (s v q : Option ℕ) → AreShort names
    → number_of names.symbols text ≡ s → position (bytes_eq text) names.variables ≡ v → position (bytes_eq text) names.states ≡ q
    → is_unknown (or_else (as_symbol names.symbols s) (or_else (as_variable v) (as_state q))) ≡ false → IsShort text
known_short names text (Some f) v q h e g i k = found_short (names_of names.symbols) text f h.symbols e
known_short names text None (Some v) q h e g i k = found_short names.variables text v h.variables g
known_short names text None None (Some q) h e g i k = found_short names.states text q h.states i
known_short names text None None None h e g i k = cc

-- a name that stands for something is short
pub stands_short : (names : Names) (text : Text) → AreShort names → is_unknown (stands_for names text) ≡ false → short text ≡ true
stands_short names text h k =
    let l : length text ≤ 255 = known_short names text (number_of names.symbols text) (position (bytes_eq text) names.variables) (position (bytes_eq text) names.states) h refl refl refl k in
    ap not (le-ltb 255 (length text) l)

leaf_known : (m : Meaning) (s : Shape) → leaf_shape m ≡ Some s → is_unknown m ≡ false
leaf_known unknown s e = cc
leaf_known (a_variable v) s e = refl
leaf_known (a_state q) s e = refl
leaf_known (a_symbol f n) s e = refl

-- a tree that stands for a pattern has short names
mutual
  pub tree_short : (p : Role) → (v : Tree p) → (names : Names) → (s : Shape) → AreShort names → shape_in names v ≡ Some s → all_short v ≡ true
  tree_short p (leaf n) names s h e = stands_short names (text_of n) h (leaf_known (stands_for names (text_of n)) s e)
  tree_short p (node n opening first more closing) names s h e =
      let a = applied_parts (stands_for names (text_of n)) (shape_in names first) (shapes_in names more) s e in
      and_from _ _ (stands_short names (text_of n) h (ap is_unknown a.means))
      (and_from _ _ (tree_short p first names a.first h a.first_is) (more_short p more names a.more h a.more_are))

  pub more_short : (p : Role) → (vs : Trees p) → (names : Names) → (ss : List Shape) → AreShort names → shapes_in names vs ≡ Some ss → all_short_among vs ≡ true
  more_short p none names ss h e = refl
  more_short p (comma mark next more) names ss h e =
      let a = both_parts (shape_in names next) (shapes_in names more) ss e in
      and_from _ _ (tree_short p next names a.first h a.first_is) (more_short p more names a.more h a.more_are)

-- ---- a left side that is no variable

leaf_no_variable : (m : Meaning) (q : Pattern) → leaf_shape m ≡ Some (shape_of q) → (IsVariable q → ⊥) → is_variable m ≡ false
leaf_no_variable (a_variable v) q e other =
    let is : shape.Var v ≡ shape_of q = cc in
    absurd (other (v, sym (shape_of-injective (Var v) q (shape_of_var v ∙ is))))
leaf_no_variable unknown q e other = refl
leaf_no_variable (a_state r) q e other = refl
leaf_no_variable (a_symbol f n) q e other = refl

pub first_no_variable : {p : Role} (v : Tree p) (names : Names) (q : Pattern) → shape_in names v ≡ Some (shape_of q) → (IsVariable q → ⊥) → is_variable (first_meaning names v) ≡ false
first_no_variable (leaf n) names q e other = leaf_no_variable (stands_for names (text_of n)) q e other
first_no_variable (node n opening first more closing) names q e other =
    ap is_variable (applied_parts (stands_for names (text_of n)) (shape_in names first) (shapes_in names more) (shape_of q) e).means
