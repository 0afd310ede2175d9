-- Shapes that names stand for: their symbols and their states are those of the names.
use Rattle.std.proofs.Common.{◌≡◌, ℕ, zero, suc, ◌<◌, true, List, [], ◌∷◌, length, position, Option, Some, None, refl, subst, ◌∙◌}
use Rattle.std.specs.List.{list_all}
use Rattle.std.specs.Str.{bytes_eq}
use Rattle.std.proofs.lemmas.Bool.{and_from, lt-ltb}
use Rattle.std.proofs.lemmas.List.Quantifiers.{position-Some}
use Rattle.std.proofs.lemmas.Option.{same_Some}
use Rattle.ranked_terms.specs.Names.{number_of}
use Rattle.ranked_terms.specs.Terms.{is_symbol}
use Rattle.ranked_terms.specs.declared.term.Shape.{Shape}
use Rattle.ranked_terms.specs.declared.term.Shape.TheVariants as shape
use Rattle.ta_core.specs.SpecRules.{shape_is_over, shape_is_below}
use Rattle.timbuk_grammar.specs.declared.terminal.Role.{Role}
use Rattle.timbuk_grammar.specs.Trees.{Tree, Trees, leaf, node, none, comma}
use Rattle.spec_text.specs.Declarations.{Text, Meaning, unknown, a_variable, a_state, a_symbol, or_else, as_symbol, as_variable, as_state}
use Rattle.spec_text.specs.Source.{text_of}
use Rattle.spec_text.specs.Naming.{Names, stands_for, leaf_shape, shape_in, shapes_in}
use Rattle.spec_text.proofs.existence.Automata.{symbol_known}
use Rattle.spec_text.specs.lemmas.Shapes.{over_var, over_state, over_app, below_var, below_state, below_app}
use Rattle.spec_text.proofs.agreement.names.Texts.{arity_found}
use Rattle.spec_text.proofs.agreement.patterns.Patterns.{both_parts, applied_parts}

-- ---- what names stand for

-- the symbol is one of the names, with its arity, or the state is one of them
abbrev pub IsMeant : Names → Meaning → Type 0
IsMeant names unknown = Unit {0}
IsMeant names (a_variable v) = Unit {0}
IsMeant names (a_state q) = q < length names.states
IsMeant names (a_symbol f n) = is_symbol names.symbols f n ≡ true

meant_by : (names : Names) (text : Text) (s v q : Option ℕ) → number_of names.symbols text ≡ s → position (bytes_eq text) names.states ≡ q → IsMeant names (or_else (as_symbol names.symbols s) (or_else (as_variable v) (as_state q)))
meant_by names text (Some f) v q e h = symbol_known names.symbols f _ (arity_found names.symbols text f e)
meant_by names text None (Some v) q e h = tt
meant_by names text None None (Some q) e h = (position-Some (bytes_eq text) names.states q text h).0
meant_by names text None None None e h = tt

pub meant : (names : Names) (text : Text) → IsMeant names (stands_for names text)
meant names text = meant_by names text (number_of names.symbols text) (position (bytes_eq text) names.variables) (position (bytes_eq text) names.states) refl refl

-- ---- shapes over names

-- the symbols and the states of the shape are among the names
pub record IsOver (names : Names) (s : Shape) : Type 0 where
  pub over : shape_is_over names.symbols s ≡ true
  pub below : shape_is_below (length names.states) s ≡ true

pub record AreOver (names : Names) (ss : List Shape) : Type 0 where
  pub over : list_all (shape_is_over names.symbols) ss ≡ true
  pub below : list_all (shape_is_below (length names.states)) ss ≡ true

pub none_over : (names : Names) → AreOver names []
none_over names = record { over = refl; below = refl }

pub more_over : (names : Names) (s : Shape) (ss : List Shape) → IsOver names s → AreOver names ss → AreOver names (s ∷ ss)
more_over names s ss h k = record { over = and_from _ _ h.over k.over; below = and_from _ _ h.below k.below }

pub app_over : (names : Names) (f : ℕ) (ss : List Shape) → is_symbol names.symbols f (length ss) ≡ true → AreOver names ss → IsOver names (shape.App f ss)
app_over names f ss e h = record {
  over = over_app names.symbols f ss ∙ and_from _ _ e h.over;
  below = below_app (length names.states) f ss ∙ h.below;
}

pub leaf_over : (names : Names) (m : Meaning) (s : Shape) → IsMeant names m → leaf_shape m ≡ Some s → IsOver names s
leaf_over names unknown s k e = cc
leaf_over names (a_variable v) s k e = subst (IsOver names) (same_Some (shape.Var v) s e) (record { over = over_var names.symbols v; below = below_var (length names.states) v })
leaf_over names (a_state q) s k e = subst (IsOver names) (same_Some (shape.State q) s e) (record { over = over_state names.symbols q; below = below_state (length names.states) q ∙ lt-ltb q (length names.states) k })
leaf_over names (a_symbol f zero) s k e = subst (IsOver names) (same_Some (shape.App f []) s e) (app_over names f [] k (none_over names))
leaf_over names (a_symbol f (suc n)) s k e = cc

mutual
  pub tree_over : (p : Role) → (v : Tree p) → (names : Names) → (s : Shape) → shape_in names v ≡ Some s → IsOver names s
  tree_over p (leaf n) names s e = leaf_over names (stands_for names (text_of n)) s (meant names (text_of n)) e
  tree_over p (node n opening first more closing) names s e =
      let a = applied_parts (stands_for names (text_of n)) (shape_in names first) (shapes_in names more) s e in
      subst (IsOver names) a.is
      (app_over names a.sym (a.first ∷ a.more) (subst (IsMeant names) a.means (meant names (text_of n)))
      (more_over names a.first a.more (tree_over p first names a.first a.first_is) (trees_over p more names a.more a.more_are)))

  pub trees_over : (p : Role) → (vs : Trees p) → (names : Names) → (ss : List Shape) → shapes_in names vs ≡ Some ss → AreOver names ss
  trees_over p none names ss e = subst (AreOver names) (same_Some [] ss e) (none_over names)
  trees_over p (comma mark next more) names ss e =
      let a = both_parts (shape_in names next) (shapes_in names more) ss e in
      subst (AreOver names) a.are (more_over names a.first a.more (tree_over p next names a.first a.first_is) (trees_over p more names a.more a.more_are))
