-- The arguments of an entry, exactly as they are declared, and what follows its symbol.
use Rattle.std.proofs.Common.{◌≡◌, ℕ, zero, suc, ◌+◌, ◌<◌, ◌≤◌, Bool, true, false, ◌==◌, List, [], ◌∷◌, ◌++◌, length, map, fold, Option, Some, None, Contains, refl, sym, ap, subst, ◌∙◌, append_assoc, length-append, arith}
use Rattle.std.specs.Prelude.{flat_map, if◌then◌else◌}
use Rattle.std.proofs.lemmas.Bool.{eqb-true}
use Rattle.std.proofs.lemmas.List.{append-nil}
use Rattle.std.proofs.lemmas.List.Sums.{fold-append}
use Rattle.std.proofs.lemmas.Option.{same_Some}
use Rattle.ranked_terms.specs.Terms.{with_variable as with_first, joined}
use Rattle.ranked_terms.specs.declared.term.Shape.{Shape}
use Rattle.ranked_terms.specs.declared.term.Shape.TheVariants as shape
use Rattle.trs_rules.specs.declared.entry.Entry.{Entry}
use Rattle.ta_core.specs.SpecRules.{shape_occurrences}
use Rattle.timbuk_grammar.specs.declared.terminal.Role.TheVariants as role
use Rattle.timbuk_grammar.specs.declared.terminal.Terminal.TheVariants as terminal
use Rattle.timbuk_grammar.specs.Grammar as grammar
use Rattle.timbuk_grammar.specs.Grammar.{one, ◌then◌}
use Rattle.timbuk_grammar.specs.Trees.{Token, Value}
use Rattle.spec_text.specs.Declarations.{Text, Declared, Last, any, leaf, constant, function, Meaning, unknown, a_variable, a_state, a_symbol, adds}
use Rattle.spec_text.specs.Source.{text_of, arguments_of}
use Rattle.spec_text.specs.Naming.{Names, stands_for, leaf_shape, node_shape, one_and_more, leaves}
use Rattle.spec_text.specs.Reading.{End}
use Rattle.spec_text.specs.SpecText.{without_symbols}
use Rattle.spec_text.proofs.agreement.tokens.Labels.{Label, label, labelled}
use Rattle.spec_text.proofs.agreement.tokens.Last.{IsQuiet}
use Rattle.spec_text.proofs.agreement.tokens.Exact.{Whatever, IsTied, no_tokens, one_token, free_token, no_token, in_turn, by_witness}
use Rattle.spec_text.proofs.agreement.approximation.Variables.{IsFew, own_with, own_after, both_after, fewer}
use Rattle.spec_text.proofs.agreement.approximation.Rows.{amid, names_at, AreShort, IsLeaf, leaf_meaning, open_row, no_open_row, comma_row, more_to_come, close_row, all_there, no_simple_row}
use Rattle.spec_text.proofs.agreement.approximation.Tokens.{application, among, behind_head, entry_to, with_entries, argument_tied, target_tied, arrow_tied}

-- ---- lists of shapes

pub record IsCons (o : Option Shape) (more : Option (List Shape)) (ss : List Shape) : Type 0 where
  pub first : Shape
  pub rest : List Shape
  pub is_first : o ≡ Some first
  pub is_rest : more ≡ Some rest
  pub is : first ∷ rest ≡ ss

pub is_cons : (o : Option Shape) (more : Option (List Shape)) (ss : List Shape) → one_and_more o more ≡ Some ss → IsCons o more ss
is_cons None more ss e = cc
is_cons (Some s) None ss e = cc
is_cons (Some s) (Some rest) ss e = record { first = s; rest = rest; is_first = refl; is_rest = refl; is = same_Some _ _ e }

abbrev pub variables_in : List Shape → List ℕ
variables_in ss = joined (map shape_occurrences ss)

-- what the arguments of an entry stand for, so many of them, with which there are few variables
pub record AreArguments (names : Names) (variables : List ℕ) (texts : List Text) (ss : List Shape) : Type 0 where
  pub are : leaves (without_symbols names) texts ≡ Some ss
  pub few : IsFew (fold with_first variables (variables_in ss))

-- one argument and more of them
module _ (names : Names) (variables : List ℕ) (text : Text) (texts : List Text) where
  arguments_cons : (s : Shape) (ss : List Shape) → leaf_shape (stands_for (without_symbols names) text) ≡ Some s → AreArguments names (fold with_first variables (shape_occurrences s)) texts ss → AreArguments names variables (text ∷ texts) (s ∷ ss)
  arguments_cons s ss e h = record {
    are = (λ i. one_and_more (e i) (h.are i));
    few = subst IsFew (sym (fold-append with_first variables (shape_occurrences s) (variables_in ss))) h.few;
  }

  -- an argument and the others
  record ArePair (ss : List Shape) : Type 0 where
    first : Shape
    rest : List Shape
    is_first : IsLeaf (stands_for (without_symbols names) text) variables first
    are_rest : AreArguments names (fold with_first variables (shape_occurrences first)) texts rest
    is : first ∷ rest ≡ ss

  arguments_pair : (ss : List Shape) → AreArguments names variables (text ∷ texts) ss → ArePair ss
  arguments_pair ss h =
      let k = is_cons (leaf_shape (stands_for (without_symbols names) text)) (leaves (without_symbols names) texts) ss h.are in
      let few : IsFew (fold with_first variables (shape_occurrences k.first ++ variables_in k.rest)) = subst (λ l. IsFew (fold with_first variables (variables_in l))) (sym k.is) h.few in
      record {
        first = k.first;
        rest = k.rest;
        is_first = record { shape = k.is_first; few = fewer variables (shape_occurrences k.first) (variables_in k.rest) few };
        are_rest = record { are = k.is_rest; few = subst IsFew (fold-append with_first variables (shape_occurrences k.first) (variables_in k.rest)) few };
        is = k.is;
      }

-- ---- the arguments of an entry

module _ (end : End) (d : Declared) (short : AreShort d) (shapes : List Shape) (bound : List ℕ) (f n : ℕ) where
  comma_tied : (v : Token terminal.Comma) (args : List Shape) (own : List ℕ) → IsTied end Whatever (among d shapes bound f n args own leaf) (label v ∷ []) (length args < n) (λ w. among d shapes bound f n args own any)
  unfolding adds
  comma_tied v args own =
      let s = among d shapes bound f n args own leaf in
      one_token s v (length args < n) (λ w. comma_row s v.lexeme (application f n args) [] refl tt v.matched w) (λ h. more_to_come s v.lexeme (application f n args) [] refl tt v.matched h)

  close_tied : (v : Token terminal.CloseParen) (args : List Shape) (own : List ℕ) → IsTied end Whatever (among d shapes bound f n args own leaf) (label v ∷ []) (n ≤ length args) (λ w. amid d (shapes ++ shape.App f args ∷ []) bound own [] any)
  unfolding adds
  close_tied v args own =
      let s = among d shapes bound f n args own leaf in
      one_token s v (n ≤ length args) (λ w. close_row s v.lexeme (application f n args) [] refl tt v.matched w) (λ h. all_there s v.lexeme (application f n args) [] refl tt v.matched h)

  -- the arguments that follow those, as many as still fit
  record AreMore (args : List Shape) (own : List ℕ) (texts : List Text) (ss : List Shape) : Type 0 where
    pub arguments : AreArguments (names_at d) (bound ++ own) texts ss
    fit : length args + length ss ≤ n

  abbrev behind_more : List Shape → List ℕ → List Shape → Declared
  behind_more args own ss = among d shapes bound f n (args ++ ss) (own_after bound own (variables_in ss)) leaf

  behind_none : (args : List Shape) (own : List ℕ) (ss : List Shape) → Some [] ≡ Some ss → among d shapes bound f n args own leaf ≡ behind_more args own ss
  behind_none args own ss e =
      let is : [] ≡ ss = same_Some [] ss e in
      ap (λ z. among d shapes bound f n z own leaf) (sym (append-nil args)) ∙ ap (behind_more args own) is

  behind_cons : (args : List Shape) (own : List ℕ) (s : Shape) (ss : List Shape) → behind_more (args ++ s ∷ []) (own_after bound own (shape_occurrences s)) ss ≡ behind_more args own (s ∷ ss)
  behind_cons args own s ss = λ i. among d shapes bound f n (append_assoc args (s ∷ []) ss i) (sym (fold-append (own_with bound) own (shape_occurrences s) (variables_in ss)) i) leaf

  abbrev More : Type 0
  More = Value (one terminal.Comma then grammar.name role.EntryArgument)

  abbrev texts_of : List More → List Text
  texts_of more = map (λ m. text_of m.1) more

  -- one more argument, and those behind it
  module _ (args : List Shape) (own : List ℕ) (text : Text) (more : List More) where
    abbrev After : Shape → Type 0
    After s = (ss : List Shape) × AreMore (args ++ s ∷ []) (own_after bound own (shape_occurrences s)) (texts_of more) ss

    abbrev First : Type 0
    First = (s : Shape) × IsLeaf (leaf_meaning d text) (bound ++ own) s

    abbrev All : Type 0
    All = (ss : List Shape) × AreMore args own (text ∷ texts_of more) ss

    pair_of : (v : All) → ArePair (names_at d) (bound ++ own) text (texts_of more) v.0
    pair_of v = arguments_pair (names_at d) (bound ++ own) text (texts_of more) v.0 v.1.arguments

    few_behind : (s : Shape) → IsLeaf (leaf_meaning d text) (bound ++ own) s → IsFew (bound ++ own_after bound own (shape_occurrences s))
    few_behind s h = subst IsFew (sym (both_after bound own (shape_occurrences s))) h.few

    abbrev parted : All → (length args < n) × ((w : First) × After w.0)
    parted v =
        let k = pair_of v in
        let lengths : length (k.first ∷ k.rest) ≡ length v.0 = ap length k.is in (
          omega (arith, v.1.fit, lengths),
          (
            (k.first, k.is_first),
            (
              k.rest,
              record {
                arguments = subst (λ vs. AreArguments (names_at d) vs (texts_of more) k.rest) (sym (both_after bound own (shape_occurrences k.first))) k.are_rest;
                fit = omega (arith, v.1.fit, lengths, length-append args (k.first ∷ []));
              },
            ),
          ),
        )

    abbrev joint : (length args < n) × ((w : First) × After w.0) → All
    joint w =
        let s = w.1.0.0 in
        let ss = w.1.1.0 in (
          s ∷ ss,
          record {
            arguments = arguments_cons (names_at d) (bound ++ own) text (texts_of more) s ss w.1.0.1.shape
                (subst (λ vs. AreArguments (names_at d) vs (texts_of more) ss) (both_after bound own (shape_occurrences s)) w.1.1.1.arguments);
            fit = omega (arith, w.1.1.1.fit, length-append args (s ∷ []));
          },
        )

  more_tied : (more : List More) (args : List Shape) (own : List ℕ) → length args ≤ n → IsFew (bound ++ own)
      → IsTied end Whatever (among d shapes bound f n args own leaf) (flat_map (labelled (one terminal.Comma then grammar.name role.EntryArgument)) more)
      ((ss : List Shape) × AreMore args own (texts_of more) ss) (λ w. behind_more args own w.0)
  more_tied [] args own le few =
      by_witness
      (no_tokens (among d shapes bound f n args own leaf))
      (λ v. tt)
      (λ w. ([], record { arguments = record { are = refl; few = few }; fit = omega (arith, le) }))
      (λ v. behind_none args own v.0 v.1.arguments.are)
      (λ w. behind_none args own [] refl)
  more_tied (m ∷ more) args own le few =
      by_witness
      (in_turn (comma_tied m.0 args own) (λ lt.
      in_turn (argument_tied d shapes bound f n args own any short tt few m.1) (λ w.
      more_tied more (args ++ w.0 ∷ []) (own_after bound own (shape_occurrences w.0)) (omega (arith, lt, length-append args (w.0 ∷ []))) (few_behind args own (text_of m.1) more w.0 w.1))))
      (parted args own (text_of m.1) more)
      (joint args own (text_of m.1) more)
      (λ v. let k = pair_of args own (text_of m.1) more v in behind_cons args own k.first k.rest ∙ ap (behind_more args own) k.is)
      (λ w. behind_cons args own w.1.0.0 w.1.1.0)

  -- ---- the arguments in their parentheses

  -- as many arguments as the arity says
  record AreAll (texts : List Text) (ss : List Shape) : Type 0 where
    pub arguments : AreArguments (names_at d) (bound ++ []) texts ss
    counted : n ≡ length ss

  abbrev behind_all : List Shape → Declared
  behind_all ss = amid d (shapes ++ shape.App f ss ∷ []) bound (own_after bound [] (variables_in ss)) [] any

  open_tied : (v : Token terminal.OpenParen) → IsTied end Whatever (among d shapes bound f n [] [] function) (label v ∷ []) (Unit {0}) (λ w. among d shapes bound f n [] [] any)
  unfolding adds
  open_tied v = let s = among d shapes bound f n [] [] function in free_token s v (open_row s v.lexeme refl v.matched)

  module _ (text : Text) (more : List More) where
    abbrev Apart : Type 0
    Apart = Unit {0} × ((w : First [] [] text more) × ((z : After [] [] text more w.0) × (n ≤ length ((w.0 ∷ []) ++ z.0))))

    abbrev Whole : Type 0
    Whole = (ss : List Shape) × AreAll (text ∷ texts_of more) ss

    abbrev as_more : Whole → All [] [] text more
    as_more v = (v.0, record { arguments = v.1.arguments; fit = omega (arith, v.1.counted) })

    abbrev all_parted : Whole → Apart
    all_parted v =
        let w = parted [] [] text more (as_more v) in
        let k = pair_of [] [] text more (as_more v) in
        let lengths : length (k.first ∷ k.rest) ≡ length v.0 = ap length k.is in
        (tt, (w.1.0, (w.1.1, omega (arith, v.1.counted, lengths))))

    abbrev all_joint : Apart → Whole
    all_joint w =
        let v = joint [] [] text more (fits w, (w.1.0, w.1.1.0)) in
        (v.0, record { arguments = v.1.arguments; counted = omega (arith, v.1.fit, w.1.1.1) })
      where
        fits : Apart → 0 < n
        fits w = omega (arith, w.1.1.0.1.fit)

    behind_first : (s : Shape) (ss : List Shape) → amid d (shapes ++ shape.App f (s ∷ ss) ∷ []) bound (own_after bound (own_after bound [] (shape_occurrences s)) (variables_in ss)) [] any ≡ behind_all (s ∷ ss)
    behind_first s ss = ap (λ own. amid d (shapes ++ shape.App f (s ∷ ss) ∷ []) bound own [] any) (sym (fold-append (own_with bound) [] (shape_occurrences s) (variables_in ss)))

  abbrev pub Arguments : Type 0
  Arguments = Token terminal.OpenParen × (Token (terminal.Named role.EntryArgument) × (List More × Token terminal.CloseParen))

  all_tied : (v : Arguments) → 1 ≤ n → IsFew bound
      → IsTied end Whatever (among d shapes bound f n [] [] function) (labelled (grammar.arguments (grammar.name role.EntryArgument)) (Some v)) ((ss : List Shape) × AreAll (arguments_of (Some v)) ss) (λ w. behind_all w.0)
  all_tied v some few =
      let text = text_of v.1.0 in
      let more = v.1.1.0 in
      let none_yet : IsFew (bound ++ []) = subst IsFew (sym (append-nil bound)) few in
      by_witness
      (in_turn (open_tied v.0) (λ u.
      in_turn (argument_tied d shapes bound f n [] [] any short tt none_yet v.1.0) (λ w.
      in_turn (more_tied more (w.0 ∷ []) (own_after bound [] (shape_occurrences w.0)) some (few_behind [] [] text more w.0 w.1)) (λ z.
      close_tied v.1.1.1 ((w.0 ∷ []) ++ z.0) (own_after bound (own_after bound [] (shape_occurrences w.0)) (variables_in z.0))))))
      (all_parted text more)
      (all_joint text more)
      (λ w. let k = pair_of [] [] text more (as_more text more w) in behind_first text more k.first k.rest ∙ ap behind_all k.is)
      (λ w. behind_first text more w.1.0.0 w.1.1.0.0)

-- ---- what follows the symbol of an entry

-- what a symbol with arguments stands for
pub record IsNode (m : Meaning) (args : List Shape) (node : Shape) : Type 0 where
  pub sym : ℕ
  pub arity : ℕ
  pub means : m ≡ a_symbol sym arity
  pub counted : arity ≡ length args
  pub is : shape.App sym args ≡ node

node_by : (f n : ℕ) (args : List Shape) (node : Shape) (b : Bool) → (n == length args) ≡ b → (if b then Some (shape.App f args) else None) ≡ Some node → IsNode (a_symbol f n) args node
node_by f n args node true e h = record { sym = f; arity = n; means = refl; counted = eqb-true n (length args) e; is = same_Some _ _ h }
node_by f n args node false e h = cc

pub is_node : (m : Meaning) (args : List Shape) (node : Shape) → node_shape m args ≡ Some node → IsNode m args node
is_node unknown args node e = cc
is_node (a_variable v) args node e = cc
is_node (a_state q) args node e = cc
is_node (a_symbol f n) args node e = node_by f n args node (n == length args) refl e

module _ (end : End) (d : Declared) (short : AreShort d) (whole at : Shape) (bound : List ℕ) where
  abbrev behind_entry : Entry → Declared
  behind_entry e = amid (with_entries d (e ∷ [])) (whole ∷ at ∷ []) bound [] [] leaf

  -- the arguments fit the symbol, and the target is a state
  pub record IsApplied (n : ℕ) (texts : List Text) (target : Text) (ss : List Shape) : Type 0 where
    pub arguments : AreArguments (names_at d) (bound ++ []) texts ss
    pub counted : n ≡ length ss
    pub state : Contains d.initial.states target

  abbrev Args : Type 0
  Args = Option (Arguments end d short (whole ∷ at ∷ []) bound 0 0)

  abbrev tokens : Args → Token terminal.Arrow → Token (terminal.Named role.EntryTarget) → List Label
  tokens args arrow target = labelled (grammar.arguments (grammar.name role.EntryArgument)) args ++ (label arrow ∷ (label target ∷ []))

  abbrev entry_of_args : ℕ → Text → List Shape → Entry
  entry_of_args f target ss = entry_to d whole at (shape.App f ss) target

  module _ (few : IsFew bound) (arrow : Token terminal.Arrow) (target : Token (terminal.Named role.EntryTarget)) where
    abbrev end_tied : (node : Shape) (own : List ℕ) (l : Last) → IsQuiet l → IsTied end Whatever (amid d (whole ∷ at ∷ node ∷ []) bound own [] l) (label arrow ∷ (label target ∷ [])) (Unit {0} × Contains d.initial.states (text_of target)) (λ w. behind_entry (entry_to d whole at node (text_of target)))
    end_tied node own l quiet = in_turn (arrow_tied d (whole ∷ at ∷ node ∷ []) bound own [] l quiet arrow) (λ u. target_tied d whole at node bound own any short tt target)

    pub applied_tied : (f n : ℕ) (args : Args) → IsTied end Whatever (behind_head d (whole ∷ at ∷ []) bound f n) (tokens args arrow target)
        ((ss : List Shape) × IsApplied n (arguments_of args) (text_of target) ss) (λ w. behind_entry (entry_of_args f (text_of target) w.0))
    applied_tied f zero None =
        by_witness
        (end_tied (shape.App f []) [] constant tt)
        (λ v. (tt, v.1.state))
        (λ w. ([], record { arguments = record { are = refl; few = subst IsFew (sym (append-nil bound)) few }; counted = refl; state = w.1 }))
        (λ v. ap (λ ss. behind_entry (entry_of_args f (text_of target) ss)) (same_Some [] v.0 v.1.arguments.are))
        (λ w. refl)
    applied_tied f (suc n) None =
        by_witness
        (no_token {told = λ w. absurd w} (behind_head d (whole ∷ at ∷ []) bound f (suc n)) arrow (label target ∷ [])
        (no_simple_row terminal.Arrow (behind_head d (whole ∷ at ∷ []) bound f (suc n)) arrow.lexeme refl refl arrow.matched))
        (λ v. let none : 0 ≡ length v.0 = ap length (same_Some [] v.0 v.1.arguments.are) in omega (arith, none, v.1.counted))
        (λ w. absurd w)
        (λ v. let none : 0 ≡ length v.0 = ap length (same_Some [] v.0 v.1.arguments.are) in absurd (omega (arith, none, v.1.counted)))
        (λ w. absurd w)
    applied_tied f zero (Some args) =
        by_witness
        (no_token {told = λ w. absurd w} (behind_head d (whole ∷ at ∷ []) bound f zero) args.0 _
        (no_open_row (behind_head d (whole ∷ at ∷ []) bound f zero) args.0.lexeme refl args.0.matched))
        (λ v. no_arguments v.0 v.1)
        (λ w. absurd w)
        (λ v. absurd (no_arguments v.0 v.1))
        (λ w. absurd w)
      where
        -- there is an argument
        no_arguments : (ss : List Shape) → IsApplied 0 (arguments_of (Some args)) (text_of target) ss → ⊥
        no_arguments ss h =
            let k = is_cons _ _ ss h.arguments.are in
            let lengths : length (k.first ∷ k.rest) ≡ length ss = ap length k.is in
            omega (arith, h.counted, lengths)
    applied_tied f (suc n) (Some args) =
        by_witness
        (in_turn (all_tied end d short (whole ∷ at ∷ []) bound f (suc n) args (omega arith) few) (λ w.
        end_tied (shape.App f w.0) (own_after bound [] (variables_in w.0)) any tt))
        (λ v. ((v.0, record { arguments = v.1.arguments; counted = v.1.counted }), (tt, v.1.state)))
        (λ w. (w.0.0, record { arguments = w.0.1.arguments; counted = w.0.1.counted; state = w.1.1 }))
        (λ v. refl)
        (λ w. refl)
