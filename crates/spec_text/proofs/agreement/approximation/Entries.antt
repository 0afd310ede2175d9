-- The entries of an approximation rule, each exactly as it is declared.
use Rattle.std.proofs.Common.{◌≡◌, ℕ, ◌+◌, ◌<◌, ◌≤◌, List, [], ◌∷◌, ◌++◌, length, map, fold, Option, Some, None, refl, sym, ap, subst, ◌∙◌, append_assoc, length-append, arith}
use Rattle.std.specs.Prelude.{flat_map, if◌then◌else◌}
use Rattle.std.specs.List.{AllZip}
use Rattle.std.proofs.lemmas.Bool.{eq-eqb}
use Rattle.std.proofs.lemmas.List.{append-nil}
use Rattle.std.proofs.lemmas.List.Sums.{fold-append}
use Rattle.std.proofs.lemmas.Option.{same_Some}
use Rattle.ranked_terms.specs.Terms.{with_variable as with_first, firsts}
use Rattle.ranked_terms.specs.declared.term.Shape.{Shape}
use Rattle.ranked_terms.specs.declared.term.Shape.TheVariants as shape
use Rattle.trs_rules.specs.declared.entry.Entry.{Entry}
use Rattle.ta_core.specs.SpecRules.{shape_occurrences, entry_variables}
use Rattle.timbuk_grammar.specs.Grammar as grammar
use Rattle.timbuk_grammar.specs.Grammar.{one, ◌then◌}
use Rattle.timbuk_grammar.specs.Trees.{Value}
use Rattle.spec_text.specs.Declarations.{Text, Declared, Last, leaf, Meaning, a_symbol}
use Rattle.spec_text.specs.Source.{Arrow, ApproximationRule, text_of, arguments_of, entry_of}
use Rattle.spec_text.specs.Naming.{Names, stands_for, leaf_shape, node_shape, shape_in, nesting_in}
use Rattle.spec_text.specs.Reading.{End}
use Rattle.spec_text.specs.SpecText.{without_symbols, IsEntryFrom}
use Rattle.spec_text.proofs.agreement.tokens.Labels.{labelled}
use Rattle.spec_text.proofs.agreement.tokens.Last.{IsQuiet}
use Rattle.spec_text.proofs.agreement.tokens.Exact.{Whatever, IsTied, no_tokens, in_turn, by_witness}
use Rattle.spec_text.proofs.agreement.approximation.Variables.{IsFew}
use Rattle.spec_text.specs.lemmas.Shapes.{occurs_app}
use Rattle.spec_text.proofs.agreement.approximation.Rows.{amid, names_at, AreShort, IsHead, symbol_meaning}
use Rattle.spec_text.proofs.agreement.approximation.Tokens.{entry_to, with_entries, head_tied}
use Rattle.spec_text.proofs.agreement.approximation.Arguments.{Arguments, variables_in, IsNode, is_node, IsApplied, applied_tied}

-- ---- an entry

-- the whole pattern and the state of its pair, and its variables
pub record IsBegun (names : Names) (r : ApproximationRule) (whole at : Shape) (bound : List ℕ) : Type 0 where
  pub whole_is : shape_in names r.whole ≡ Some whole
  pub nesting : nesting_in r.whole ≤ 100
  pub at_is : leaf_shape (stands_for (without_symbols names) r.at) ≡ Some at
  pub bound_is : bound ≡ firsts (shape_occurrences whole ++ shape_occurrences at)
  pub few : IsFew bound

-- an entry of this rule, for which there is room
pub record IsEntryHere (d : Declared) (r : ApproximationRule) (a : Arrow) (e : Entry) : Type 0 where
  pub from : IsEntryFrom (names_at d) (r, a) e
  pub few : length d.entries < 1024

variables_are : (whole at : Shape) (f : ℕ) (ss : List Shape) (bound : List ℕ) → bound ≡ firsts (shape_occurrences whole ++ shape_occurrences at)
    → firsts (shape_occurrences whole ++ (shape_occurrences at ++ shape_occurrences (shape.App f ss))) ≡ fold with_first (bound ++ []) (variables_in ss)
variables_are whole at f ss bound e =
    ap (λ vs. firsts (shape_occurrences whole ++ (shape_occurrences at ++ vs))) (occurs_app f ss)
    ∙ (ap firsts (sym (append_assoc (shape_occurrences whole) (shape_occurrences at) (variables_in ss)))
    ∙ (fold-append with_first [] (shape_occurrences whole ++ shape_occurrences at) (variables_in ss)
    ∙ ap (λ vs. fold with_first vs (variables_in ss)) (sym e ∙ sym (append-nil bound))))

module _ (end : End) (d : Declared) (short : AreShort d) (r : ApproximationRule) (whole at : Shape) (bound : List ℕ) (begun : IsBegun (names_at d) r whole at bound) where
  -- the state behind these entries
  abbrev pub behind_entries : List Entry → Last → Declared
  behind_entries es l = amid (with_entries d es) (whole ∷ at ∷ []) bound [] [] l

  module _ (head target : Text) (args : Option (Arguments end d short (whole ∷ at ∷ []) bound 0 0)) where
    abbrev arrow_read : Arrow
    arrow_read = record { head = head; args = arguments_of args; target = target }

    abbrev Read : Type 0
    Read = (w : (f : ℕ) × (n : ℕ) × IsHead (symbol_meaning d head) (length d.entries) f n) × ((ss : List Shape) × IsApplied end d short whole at bound w.1 (arguments_of args) target ss)

    abbrev entry_read : ℕ → List Shape → Entry
    entry_read f ss = entry_to d whole at (shape.App f ss) target

    node_of : (e : Entry) → (h : IsEntryHere d r arrow_read e) → IsNode (symbol_meaning d head) h.from.args e.node
    node_of e h = is_node (symbol_meaning d head) h.from.args e.node h.from.node

    same_entry : (e : Entry) (h : IsEntryHere d r arrow_read e) → entry_read (node_of e h).sym h.from.args ≡ e
    same_entry e h =
        let is_whole = same_Some whole e.whole (sym begun.whole_is ∙ h.from.whole) in
        let is_at = same_Some at e.at (sym begun.at_is ∙ h.from.at) in
        let is_node = (node_of e h).is in
        let is_target = sym h.from.target in
        λ i. record { whole = is_whole i; at = is_at i; node = is_node i; target = is_target i }

    few_read : (e : Entry) (h : IsEntryHere d r arrow_read e) → IsFew (fold with_first (bound ++ []) (variables_in h.from.args))
    few_read e h = subst IsFew (variables_are whole at (node_of e h).sym h.from.args bound begun.bound_is) (subst (λ (z : Entry). IsFew (entry_variables z)) (sym (same_entry e h)) h.from.few_variables)

    abbrev entry_parted : ((e : Entry) × IsEntryHere d r arrow_read e) → Read
    entry_parted v =
        let k = node_of v.0 v.1 in (
          (k.sym, k.arity, record { symbol = k.means; few = v.1.few }),
          (v.1.from.args, record { arguments = record { are = v.1.from.are_args; few = few_read v.0 v.1 }; counted = k.counted; state = v.1.from.is_state }),
        )

    node_joint : (m : Meaning) (f n : ℕ) (ss : List Shape) → m ≡ a_symbol f n → n ≡ length ss → node_shape m ss ≡ Some (shape.App f ss)
    node_joint m f n ss e h = ap (λ z. node_shape z ss) e ∙ ap (λ b. if b then Some (shape.App f ss) else None) (eq-eqb n (length ss) h)

    abbrev entry_joint : Read → ((e : Entry) × IsEntryHere d r arrow_read e)
    entry_joint w = (
      entry_read w.0.0 w.1.0,
      record {
        from = record {
          whole = begun.whole_is;
          nesting = begun.nesting;
          at = begun.at_is;
          args = w.1.0;
          are_args = w.1.1.arguments.are;
          node = node_joint (symbol_meaning d head) w.0.0 w.0.1 w.1.0 w.0.2.symbol w.1.1.counted;
          is_state = w.1.1.state;
          target = refl;
          few_variables = subst IsFew (sym (variables_are whole at w.0.0 w.1.0 bound begun.bound_is)) w.1.1.arguments.few;
        };
        few = w.0.2.few;
      },
    )

  entry_tied : (v : Value grammar.entry) (l : Last) → IsQuiet l
      → IsTied end Whatever (amid d (whole ∷ at ∷ []) bound [] [] l) (labelled grammar.entry v) ((e : Entry) × IsEntryHere d r (entry_of v) e) (λ w. behind_entries (w.0 ∷ []) leaf)
  entry_tied v l quiet =
      let head = text_of v.0 in
      let target = text_of v.1.1.1 in
      by_witness
      (in_turn (head_tied d (whole ∷ at ∷ []) bound l short quiet v.0) (λ w.
      applied_tied end d short whole at bound begun.few v.1.1.0 v.1.1.1 w.0 w.1 v.1.0))
      (entry_parted head target v.1.0)
      (entry_joint head target v.1.0)
      (λ w. ap (λ e. behind_entries (e ∷ []) leaf) (same_entry head target v.1.0 w.0 w.1))
      (λ w. refl)

-- ---- entries of one rule

abbrev pub with_rule : ApproximationRule → List Arrow → List (ApproximationRule × Arrow)
with_rule r arrows = map (λ a. (r, a)) arrows

-- entries, each with its rule, for which there is room
pub record AreEntriesHere (d : Declared) (declared : List (ApproximationRule × Arrow)) (es : List Entry) : Type 0 where
  pub from : AllZip (IsEntryFrom (names_at d)) declared es
  pub few : length d.entries + length es ≤ 1024

pub with_none : (d : Declared) → d ≡ with_entries d []
with_none d = λ i. record d { entries = sym (append-nil d.entries) i }

pub with_more : (d : Declared) (es fs : List Entry) → with_entries (with_entries d es) fs ≡ with_entries d (es ++ fs)
with_more d es fs = λ i. record d { entries = append_assoc d.entries es fs i }

module _ (end : End) (r : ApproximationRule) (whole at : Shape) (bound : List ℕ) where
  abbrev entries_at : Declared → Declared
  entries_at d = amid d (whole ∷ at ∷ []) bound [] [] leaf

  none_told : (d : Declared) (es : List Entry) → AreEntriesHere d [] es → entries_at d ≡ entries_at (with_entries d es)
  none_told d [] h = ap entries_at (with_none d)
  none_told d (e ∷ es) h = absurd h.from

  -- the first of some entries, and the others
  record AreSplit (d : Declared) (a : Arrow) (arrows : List Arrow) (es : List Entry) : Type 0 where
    first : Entry
    rest : List Entry
    is_first : IsEntryHere d r a first
    are_rest : AreEntriesHere (with_entries d (first ∷ [])) (with_rule r arrows) rest
    is : first ∷ rest ≡ es

  split : (d : Declared) (a : Arrow) (arrows : List Arrow) (es : List Entry) → AreEntriesHere d (with_rule r (a ∷ arrows)) es → AreSplit d a arrows es
  split d a arrows [] h = absurd h.from
  split d a arrows (e ∷ es) h = record {
    first = e;
    rest = es;
    is_first = record { from = h.from.0; few = omega (arith, h.few) };
    are_rest = record { from = h.from.1; few = omega (arith, h.few, length-append d.entries (e ∷ [])) };
    is = refl;
  }

  joined_entries : (d : Declared) (a : Arrow) (arrows : List Arrow) (e : Entry) (es : List Entry) → IsEntryHere d r a e → AreEntriesHere (with_entries d (e ∷ [])) (with_rule r arrows) es → AreEntriesHere d (with_rule r (a ∷ arrows)) (e ∷ es)
  joined_entries d a arrows e es h k = record { from = (h.from, k.from); few = omega (arith, k.few, length-append d.entries (e ∷ [])) }

  abbrev Entries : Declared → List (Value grammar.entry) → Type 0
  Entries d vs = (es : List Entry) × AreEntriesHere d (with_rule r (map entry_of vs)) es

  -- an entry, and entries behind it
  entry_and_more : (v : Value grammar.entry) (vs : List (Value grammar.entry)) (d : Declared) → AreShort d → IsBegun (names_at d) r whole at bound → (l : Last) → IsQuiet l
      → ((w : (e : Entry) × IsEntryHere d r (entry_of v) e) → IsTied end Whatever (entries_at (with_entries d (w.0 ∷ []))) (flat_map (labelled grammar.entry) vs) (Entries (with_entries d (w.0 ∷ [])) vs) (λ z. entries_at (with_entries (with_entries d (w.0 ∷ [])) z.0)))
      → IsTied end Whatever (amid d (whole ∷ at ∷ []) bound [] [] l) (flat_map (labelled grammar.entry) (v ∷ vs)) (Entries d (v ∷ vs)) (λ z. entries_at (with_entries d z.0))
  entry_and_more v vs d short begun l quiet more =
      by_witness
      (in_turn (entry_tied end d short r whole at bound begun v l quiet) more)
      (λ z. let k = split d (entry_of v) (map entry_of vs) z.0 z.1 in ((k.first, k.is_first), (k.rest, k.are_rest)))
      (λ w. (w.0.0 ∷ w.1.0, joined_entries d (entry_of v) (map entry_of vs) w.0.0 w.1.0 w.0.1 w.1.1))
      (λ z. let k = split d (entry_of v) (map entry_of vs) z.0 z.1 in ap entries_at (with_more d (k.first ∷ []) k.rest) ∙ ap (λ es. entries_at (with_entries d es)) k.is)
      (λ w. ap entries_at (with_more d (w.0.0 ∷ []) w.1.0))

  room_behind : (d : Declared) (a : Arrow) (e : Entry) → IsEntryHere d r a e → length (d.entries ++ e ∷ []) ≤ 1024
  room_behind d a e h = omega (arith, h.few, length-append d.entries (e ∷ []))

  entries_tied : (vs : List (Value grammar.entry)) (d : Declared) → AreShort d → IsBegun (names_at d) r whole at bound → length d.entries ≤ 1024
      → IsTied end Whatever (entries_at d) (flat_map (labelled grammar.entry) vs) (Entries d vs) (λ w. entries_at (with_entries d w.0))
  entries_tied [] d short begun few =
      by_witness
      (no_tokens (entries_at d))
      (λ v. tt)
      (λ w. ([], record { from = tt; few = omega (arith, few) }))
      (λ v. none_told d v.0 v.1)
      (λ w. ap entries_at (with_none d))
  entries_tied (v ∷ vs) d short begun few =
      entry_and_more v vs d short begun leaf tt (λ w. entries_tied vs (with_entries d (w.0 ∷ [])) short begun (room_behind d (entry_of v) w.0 w.1))

  -- at least one entry
  pub some_tied : (v : Value grammar.entry) (vs : List (Value grammar.entry)) (d : Declared) → AreShort d → IsBegun (names_at d) r whole at bound → (l : Last) → IsQuiet l
      → IsTied end Whatever (amid d (whole ∷ at ∷ []) bound [] [] l) (labelled (grammar.some grammar.entry) (v, vs)) (Entries d (v ∷ vs)) (λ z. entries_at (with_entries d z.0))
  some_tied v vs d short begun l quiet =
      entry_and_more v vs d short begun l quiet (λ w. entries_tied vs (with_entries d (w.0 ∷ [])) short begun (room_behind d (entry_of v) w.0 w.1))
