-- Entries that are declared: what always holds of the entries of a specification.
use Rattle.std.proofs.Common.{◌≡◌, ℕ, ◌<◌, Bool, true, false, ◌&&◌, ◌==◌, if◌then◌else◌, List, [], ◌∷◌, length, Some, None, refl, sym, subst}
use Rattle.std.specs.Prelude.{nat_lt, nat_le}
use Rattle.std.specs.List.{AllZip, list_all}
use Rattle.std.specs.Str.{bytes_eq}
use Rattle.std.proofs.lemmas.Bool.{and_from, eqb-true, lt-ltb, le-leb}
use Rattle.std.proofs.lemmas.List.Quantifiers.{position-Some}
use Rattle.std.proofs.lemmas.Option.{same_Some}
use Rattle.ranked_terms.specs.declared.term.Shape.{Shape}
use Rattle.ranked_terms.specs.declared.term.Shape.TheVariants as shape
use Rattle.trs_rules.specs.declared.entry.Entry.{Entry}
use Rattle.ta_core.specs.SpecRules.{shape_is_over, shape_is_below, entry_variables, entries_are_over, entries_are_below, entries_are_small}
use Rattle.timbuk_grammar.specs.declared.terminal.Role.TheVariants as role
use Rattle.spec_text.specs.Declarations.{Text, Meaning, unknown, a_variable, a_state, a_symbol}
use Rattle.spec_text.specs.Source.{ApproximationRule, Arrow}
use Rattle.spec_text.specs.Naming.{Names, stands_for, leaf_shape, node_shape, leaves, place_in}
use Rattle.spec_text.specs.SpecText.{without_symbols, IsEntryFrom}
use Rattle.spec_text.proofs.existence.Shapes.{IsMeant, meant, IsOver, AreOver, none_over, more_over, app_over, leaf_over, tree_over}
use Rattle.spec_text.proofs.agreement.names.Texts.{position_found}
use Rattle.spec_text.proofs.agreement.patterns.Patterns.{both_parts}

-- ---- names without arguments

meant_besides : (names : Names) (m : Meaning) → IsMeant (without_symbols names) m → IsMeant names m
meant_besides names unknown k = tt
meant_besides names (a_variable v) k = tt
meant_besides names (a_state q) k = k
meant_besides names (a_symbol f n) k = cc

name_over : (names : Names) (text : Text) (s : Shape) → leaf_shape (stands_for (without_symbols names) text) ≡ Some s → IsOver names s
name_over names text s e = leaf_over names (stands_for (without_symbols names) text) s (meant_besides names (stands_for (without_symbols names) text) (meant (without_symbols names) text)) e

names_over : (names : Names) (texts : List Text) (ss : List Shape) → leaves (without_symbols names) texts ≡ Some ss → AreOver names ss
names_over names [] ss e = subst (AreOver names) (same_Some [] ss e) (none_over names)
names_over names (text ∷ texts) ss e =
    let a = both_parts (leaf_shape (stands_for (without_symbols names) text)) (leaves (without_symbols names) texts) ss e in
    subst (AreOver names) a.are (more_over names a.first a.more (name_over names text a.first a.first_is) (names_over names texts a.more a.more_are))

-- ---- the node of an entry

node_by : (names : Names) (f n : ℕ) (args : List Shape) (s : Shape) (r : Bool) → (n == length args) ≡ r → IsMeant names (a_symbol f n) → AreOver names args → (if r then Some (shape.App f args) else None) ≡ Some s → IsOver names s
node_by names f n args s true t k h e = subst (IsOver names) (same_Some (shape.App f args) s e) (app_over names f args (subst (λ z. IsMeant names (a_symbol f z)) (eqb-true n (length args) t) k) h)
node_by names f n args s false t k h e = cc

node_over : (names : Names) (m : Meaning) (args : List Shape) (s : Shape) → IsMeant (record { symbols = names.symbols; variables = []; states = [] }) m → AreOver names args → node_shape m args ≡ Some s → IsOver names s
node_over names (a_symbol f n) args s k h e = node_by names f n args s (n == length args) refl k h e
node_over names unknown args s k h e = cc
node_over names (a_variable v) args s k h e = cc
node_over names (a_state q) args s k h e = cc

-- ---- entries

module _ (names : Names) where
  target_below : (d : ApproximationRule × Arrow) (e : Entry) → IsEntryFrom names d e → e.target < length names.states
  target_below d e h = subst (λ n. n < length names.states) (sym h.target) (position-Some (bytes_eq d.1.target) names.states (place_in names.states d.1.target) d.1.target (position_found names.states d.1.target h.is_state)).0

  module _ (d : ApproximationRule × Arrow) (e : Entry) (h : IsEntryFrom names d e) where
    whole_over : IsOver names e.whole
    whole_over = tree_over role.EntryWhole d.0.whole names e.whole h.whole

    at_over : IsOver names e.at
    at_over = name_over names d.0.at e.at h.at

    own_node_over : IsOver names e.node
    own_node_over =
        let alone : Names = record { symbols = names.symbols; variables = []; states = [] } in
        node_over names (stands_for alone d.1.head) h.args e.node (meant alone d.1.head) (names_over names d.1.args h.args h.are_args) h.node

  -- a test that each entry passes
  each_passes : (test : Entry → Bool) → ((d : ApproximationRule × Arrow) (e : Entry) → IsEntryFrom names d e → test e ≡ true) → (ds : List (ApproximationRule × Arrow)) (es : List Entry) → AllZip (IsEntryFrom names) ds es → list_all test es ≡ true
  each_passes test passes [] [] h = refl
  each_passes test passes [] (e ∷ es) h = absurd h
  each_passes test passes (d ∷ ds) [] h = absurd h
  each_passes test passes (d ∷ ds) (e ∷ es) h = and_from _ _ (passes d e h.0) (each_passes test passes ds es h.1)

  pub entries_over : (ds : List (ApproximationRule × Arrow)) (es : List Entry) → AllZip (IsEntryFrom names) ds es → entries_are_over names.symbols es ≡ true
  entries_over ds es h =
      each_passes (λ e. shape_is_over names.symbols e.whole && shape_is_over names.symbols e.at && shape_is_over names.symbols e.node)
      (λ d e k. rw ((whole_over d e k).over, (at_over d e k).over, (own_node_over d e k).over) refl) ds es h

  pub entries_below : (ds : List (ApproximationRule × Arrow)) (es : List Entry) → AllZip (IsEntryFrom names) ds es → entries_are_below (length names.states) es ≡ true
  entries_below ds es h =
      let bound = length names.states in
      each_passes (λ e. shape_is_below bound e.whole && shape_is_below bound e.at && shape_is_below bound e.node && nat_lt e.target bound)
      (λ d e k. rw ((whole_over d e k).below, (at_over d e k).below, (own_node_over d e k).below, lt-ltb e.target bound (target_below d e k)) refl) ds es h

  pub entries_small : (ds : List (ApproximationRule × Arrow)) (es : List Entry) → AllZip (IsEntryFrom names) ds es → entries_are_small es ≡ true
  entries_small ds es h = each_passes (λ e. nat_le (length (entry_variables e)) 16) (λ d e k. le-leb (length (entry_variables e)) 16 k.few_variables) ds es h
