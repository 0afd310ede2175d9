-- The section of the approximation: what it declares exactly.
use Rattle.std.proofs.Common.{◌≡◌, ◌+◌, ◌<◌, ◌≤◌, true, false, ◌&&◌, ◌==◌, List, [], ◌∷◌, ◌++◌, length, map, fold, Some, None, refl, sym, ap, subst, ◌∙◌, append_assoc, length-append, arith}
use Rattle.std.specs.Prelude.{flat_map}
use Rattle.std.specs.List.{AllZip}
use Rattle.std.proofs.lemmas.Bool.{or_from, or_parts, and_right, ltb-false, leb-false, le-ltb, lt-leb}
use Rattle.std.proofs.lemmas.List.{append-nil}
use Rattle.std.proofs.lemmas.List.Sums.{fold-append}
use Rattle.ranked_terms.specs.Names.{names_of}
use Rattle.ranked_terms.specs.Terms.{with_variable as with_first, firsts}
use Rattle.ranked_terms.specs.declared.term.Shape.{Shape}
use Rattle.trs_rules.specs.declared.entry.Entry.{Entry}
use Rattle.ta_core.specs.SpecRules.{shape_occurrences}
use Rattle.timbuk_lex.specs.declared.lexeme.Lexeme.{Lexeme}
use Rattle.timbuk_grammar.specs.declared.terminal.Role.TheVariants as role
use Rattle.timbuk_grammar.specs.declared.terminal.Terminal.TheVariants as terminal
use Rattle.timbuk_grammar.specs.Grammar as grammar
use Rattle.timbuk_grammar.specs.Trees.{Token, Tree, Value}
use Rattle.timbuk_grammar.specs.Matching.{matches}
use Rattle.timbuk_grammar.specs.lemmas.Differ.{apart}
use Rattle.spec_text.specs.Declarations.{Text, Declared, Last, any, leaf, constant, function, meaning, adds}
use Rattle.spec_text.specs.Source.{Arrow, ApproximationRule, text_of, entry_of, approximation_rule_of, state_of}
use Rattle.spec_text.specs.Naming.{IsShort, AreNewNames, shape_in, nesting_in}
use Rattle.spec_text.specs.Reading.{End}
use Rattle.spec_text.specs.SpecText.{IsEntryFrom, entries_of}
use Rattle.spec_text.proofs.agreement.tokens.Labels.{label, labelled, labelled_pattern}
use Rattle.spec_text.proofs.agreement.tokens.Last.{IsQuiet, NotOpening}
use Rattle.spec_text.proofs.agreement.tokens.Exact.{Whatever, IsTied, no_tokens, one_token, free_token, in_turn, in_turn_at, by_witness}
use Rattle.spec_text.proofs.agreement.approximation.Variables.{IsFew, fewer}
use Rattle.spec_text.specs.Rows.{row, is_in, passed, misnamed, unexpected_after, expected}
use Rattle.spec_text.proofs.agreement.tokens.Runs.{or-none, or_parts_none, when-false, when_none, row-none, row_parts}
use Rattle.spec_text.proofs.agreement.names.Rows.{IsNew, title_row, short_title, is_expected, misnamed_plain}
use Rattle.spec_text.proofs.agreement.names.Texts.{IsNew-middle, AreNewNames-push}
use Rattle.spec_text.proofs.agreement.approximation.Rows.{amid, names_at, AreShort, IsLeaf, leaf_meaning, arity_right, name_arity, simple_row}
use Rattle.spec_text.proofs.agreement.approximation.Tokens.{with_entries, at_tied, open_bracket_tied, arrow_tied, close_bracket_tied, close_entries_tied}
use Rattle.spec_text.proofs.agreement.approximation.Entries.{IsBegun, AreEntriesHere, with_rule, with_none, with_more, some_tied}

-- ---- the whole pattern of a rule

pub record IsWholePattern (d : Declared) (t : Tree role.EntryWhole) (s : Shape) : Type 0 where
  pub shape : shape_in (names_at d) t ≡ Some s
  pub nesting : nesting_in t ≤ 100
  pub few : IsFew (firsts (shape_occurrences s))

-- what is asked of patterns
abbrev pub PatternsAreTied : End → Type 0
PatternsAreTied end = (d : Declared) → AreShort d → (t : Tree role.EntryWhole)
    → IsTied end NotOpening (amid d [] [] [] [] any) (labelled_pattern t) ((s : Shape) × IsWholePattern d t s) (λ w. amid d (w.0 ∷ []) (firsts (shape_occurrences w.0)) [] [] any)

-- ---- lists that belong to two lists behind each other

pub record AreCut {X Y : Type 0} (R : X → Y → Type 0) (xs ys : List X) (zs : List Y) : Type 0 where
  pub front : List Y
  pub back : List Y
  pub is_front : AllZip R xs front
  pub is_back : AllZip R ys back
  pub is : front ++ back ≡ zs

module _ {X Y : Type 0} (R : X → Y → Type 0) where
  pub cut : (xs ys : List X) (zs : List Y) → AllZip R (xs ++ ys) zs → AreCut R xs ys zs
  cut [] ys zs h = record { front = []; back = zs; is_front = tt; is_back = h; is = refl }
  cut (x ∷ xs) ys [] h = absurd h
  cut (x ∷ xs) ys (z ∷ zs) h =
      let k = cut xs ys zs h.1 in
      record { front = z ∷ k.front; back = k.back; is_front = (h.0, k.is_front); is_back = k.is_back; is = λ i. z ∷ k.is i }

  pub both : (xs ys : List X) (zs ws : List Y) → AllZip R xs zs → AllZip R ys ws → AllZip R (xs ++ ys) (zs ++ ws)
  both [] ys [] ws h k = k
  both [] ys (z ∷ zs) ws h k = absurd h
  both (x ∷ xs) ys [] ws h k = absurd h
  both (x ∷ xs) ys (z ∷ zs) ws h k = (h.0, both xs ys zs ws h.1 k)

-- ---- one rule

-- between declarations
abbrev pub closed : Declared → Declared
closed d = amid d [] [] [] [] any

module _ (end : End) (patterns : PatternsAreTied end) where
  module _ (d : Declared) (r : ApproximationRule) (a : Arrow) (arrows : List Arrow) where
    abbrev Entries : Type 0
    Entries = (es : List Entry) × AreEntriesHere d (with_rule r (a ∷ arrows)) es

    abbrev At : Shape → Type 0
    At whole = (at : Shape) × IsLeaf (leaf_meaning d r.at) (firsts (shape_occurrences whole)) at

    abbrev InTurn : Type 0
    InTurn = Unit {0} × ((w : (s : Shape) × IsWholePattern d r.whole s) × (Unit {0} × (At w.0 × (Unit {0} × (Unit {0} × (Unit {0} × (Entries × Unit {0})))))))

    begun_by : (whole at : Shape) → IsWholePattern d r.whole whole → IsLeaf (leaf_meaning d r.at) (firsts (shape_occurrences whole)) at
        → IsBegun (names_at d) r whole at (fold with_first (firsts (shape_occurrences whole)) (shape_occurrences at))
    begun_by whole at h k = record {
      whole_is = h.shape;
      nesting = h.nesting;
      at_is = k.shape;
      bound_is = sym (fold-append with_first [] (shape_occurrences whole) (shape_occurrences at));
      few = k.few;
    }

    -- what the first entry says of the rule
    record IsBegunBy (es : List Entry) : Type 0 where
      whole : Shape
      at : Shape
      is_whole : IsWholePattern d r.whole whole
      is_at : IsLeaf (leaf_meaning d r.at) (firsts (shape_occurrences whole)) at

    begins : (es : List Entry) → AreEntriesHere d (with_rule r (a ∷ arrows)) es → IsBegunBy es
    begins [] h = absurd h.from
    begins (e ∷ es) h =
        let k = h.from.0 in
        let ws = shape_occurrences e.whole in
        let vs = shape_occurrences e.at in
        let ns = shape_occurrences e.node in
        record {
          whole = e.whole;
          at = e.at;
          is_whole = record { shape = k.whole; nesting = k.nesting; few = fewer [] ws (vs ++ ns) k.few_variables };
          is_at = record {
            shape = k.at;
            few = subst IsFew (fold-append with_first [] ws vs) (fewer [] (ws ++ vs) ns (subst (λ l. IsFew (firsts l)) (sym (append_assoc ws vs ns)) k.few_variables));
          };
        }

    abbrev rule_parted : Entries → InTurn
    rule_parted v = let k = begins v.0 v.1 in (tt, ((k.whole, k.is_whole), (tt, ((k.at, k.is_at), (tt, (tt, (tt, (v, tt))))))))

    abbrev rule_joint : InTurn → Entries
    rule_joint w = w.1.1.1.1.1.1.1.0

  rule_tied : (v : Value grammar.approximation_rule) (d : Declared) → AreShort d
      → IsTied end Whatever (closed d) (labelled grammar.approximation_rule v) ((es : List Entry) × AreEntriesHere d (with_rule (approximation_rule_of v) (approximation_rule_of v).entries) es) (λ w. closed (with_entries d w.0))
  rule_tied v d short =
      let r = approximation_rule_of v in
      let some = v.1.1.1.1.1.1.1.0 in
      by_witness
      (in_turn (open_bracket_tied d [] [] [] [] any tt v.0) (λ u0.
      in_turn_at {J = NotOpening} (λ rest k. apart terminal.Arrow terminal.OpenParen v.1.1.0.lexeme refl v.1.1.0.matched) (patterns d short v.1.0) (λ w.
      let bound = firsts (shape_occurrences w.0) in
      in_turn (arrow_tied d (w.0 ∷ []) bound [] [] any tt v.1.1.0) (λ u1.
      in_turn (at_tied d (w.0 ∷ []) bound any short tt w.1.few v.1.1.1.0) (λ z.
      let all = fold with_first bound (shape_occurrences z.0) in
      let shapes = w.0 ∷ z.0 ∷ [] in
      in_turn (close_bracket_tied d shapes all [] [] leaf tt v.1.1.1.1.0) (λ u2.
      in_turn (arrow_tied d shapes all [] [] any tt v.1.1.1.1.1.0) (λ u3.
      in_turn (open_bracket_tied d shapes all [] [] any tt v.1.1.1.1.1.1.0) (λ u4.
      in_turn (some_tied end r w.0 z.0 all some.0 some.1 d short (begun_by d r (entry_of some.0) (map entry_of some.1) w.0 z.0 w.1 z.1) any tt) (λ es.
      close_entries_tied (with_entries d es.0) shapes all [] [] leaf tt v.1.1.1.1.1.1.1.1)))))))))
      (rule_parted d r (entry_of some.0) (map entry_of some.1))
      (rule_joint d r (entry_of some.0) (map entry_of some.1))
      (λ es. refl)
      (λ w. refl)

  -- ---- the rules

  abbrev Rules : Declared → List (Value grammar.approximation_rule) → Type 0
  Rules d vs = (es : List Entry) × AreEntriesHere d (entries_of (map approximation_rule_of vs)) es

  no_rules : (d : Declared) (es : List Entry) → AreEntriesHere d [] es → closed d ≡ closed (with_entries d es)
  no_rules d [] h = ap closed (with_none d)
  no_rules d (e ∷ es) h = absurd h.from

  module _ (d : Declared) (r : ApproximationRule) (rules : List ApproximationRule) where
    abbrev Own : Type 0
    Own = (es : List Entry) × AreEntriesHere d (with_rule r r.entries) es

    -- those of one rule, and those of the others
    record AreParted (es : List Entry) : Type 0 where
      own : Own
      others : (fs : List Entry) × AreEntriesHere (with_entries d own.0) (entries_of rules) fs
      is : own.0 ++ others.0 ≡ es

    rules_parted : (es : List Entry) → AreEntriesHere d (entries_of (r ∷ rules)) es → AreParted es
    rules_parted es h =
        let k = cut (IsEntryFrom (names_at d)) (with_rule r r.entries) (entries_of rules) es h.from in
        let lengths : length (k.front ++ k.back) ≡ length es = ap length k.is in
        record {
          own = (k.front, record { from = k.is_front; few = omega (arith, h.few, lengths, length-append k.front k.back) });
          others = (k.back, record { from = k.is_back; few = omega (arith, h.few, lengths, length-append k.front k.back, length-append d.entries k.front) });
          is = k.is;
        }

    rules_joint : (es fs : List Entry) → AreEntriesHere d (with_rule r r.entries) es → AreEntriesHere (with_entries d es) (entries_of rules) fs → AreEntriesHere d (entries_of (r ∷ rules)) (es ++ fs)
    rules_joint es fs h k = record {
      from = both (IsEntryFrom (names_at d)) (with_rule r r.entries) (entries_of rules) es fs h.from k.from;
      few = omega (arith, k.few, length-append es fs, length-append d.entries es);
    }

  rules_tied : (vs : List (Value grammar.approximation_rule)) (d : Declared) → AreShort d → length d.entries ≤ 1024
      → IsTied end Whatever (closed d) (flat_map (labelled grammar.approximation_rule) vs) (Rules d vs) (λ w. closed (with_entries d w.0))
  rules_tied [] d short few =
      by_witness
      (no_tokens (closed d))
      (λ v. tt)
      (λ w. ([], record { from = tt; few = omega (arith, few) }))
      (λ v. no_rules d v.0 v.1)
      (λ w. ap closed (with_none d))
  rules_tied (v ∷ vs) d short few =
      let r = approximation_rule_of v in
      let rules = map approximation_rule_of vs in
      by_witness
      (in_turn (rule_tied v d short) (λ w. rules_tied vs (with_entries d w.0) short (omega (arith, w.1.few, length-append d.entries w.0))))
      (λ z. let k = rules_parted d r rules z.0 z.1 in (k.own, k.others))
      (λ w. (w.0.0 ++ w.1.0, rules_joint d r rules w.0.0 w.1.0 w.0.1 w.1.1))
      (λ z. let k = rules_parted d r rules z.0 z.1 in ap closed (with_more d k.own.0 k.others.0) ∙ ap (λ es. closed (with_entries d es)) k.is)
      (λ w. ap closed (with_more d w.0.0 w.1.0))

-- ---- the states of the approximation

-- with these states behind those of the initial automaton
abbrev pub with_extra : Declared → List Text → Declared
with_extra d names = record d { initial = record d.initial { states = d.initial.states ++ names }; extra = d.extra + length names }

no_extra : (d : Declared) → closed d ≡ closed (with_extra d [])
no_extra d =
    let count : d.extra ≡ d.extra + 0 = omega arith in
    λ i. closed (record d { initial = record d.initial { states = sym (append-nil d.initial.states) i }; extra = count i })

more_extra : (d : Declared) (name : Text) (names : List Text) → closed (with_extra (with_extra d (name ∷ [])) names) ≡ closed (with_extra d (name ∷ names))
more_extra d name names =
    let count : (d.extra + 1) + length names ≡ d.extra + length (name ∷ names) = omega arith in
    λ i. closed (record d { initial = record d.initial { states = append_assoc d.initial.states (name ∷ []) names i }; extra = count i })

-- the names beside which a state's is new
abbrev pub taken : Declared → List Text
taken d = names_of d.symbols ++ d.variables

abbrev IsNewState : Declared → Text → Type 0
IsNewState d text = IsNew (taken d ++ d.initial.states) (length d.initial.states) 16384 text

module _ (d : Declared) (x : Lexeme) (quiet : IsQuiet d.last) where
  state_row : matches (terminal.Named role.ApproximationState) x ≡ true → IsNewState d x.text → row (Some (terminal.Named role.ApproximationState)) d x ≡ None
  unfolding passed misnamed meaning
  state_row e h =
      let new = subst (λ names. is_in names x.text ≡ false) (append_assoc (names_of d.symbols) d.variables d.initial.states) h.new in
      row-none (terminal.Named role.ApproximationState) d x e (name_arity role.ApproximationState d x quiet e) (is_expected (terminal.Named role.ApproximationState) d x refl refl e)
      (or-none _ _ (when-false _ _ (le-ltb _ _ h.short)) (when-false _ _ (lt-leb _ _ h.room)))
      (or-none _ _ (when-false _ _ new) refl)

  new_state : row (Some (terminal.Named role.ApproximationState)) d x ≡ None → IsNewState d x.text
  unfolding passed misnamed meaning
  new_state h =
      let r = row_parts (terminal.Named role.ApproximationState) d x h in
      let l = or_parts_none _ _ r.limits in
      record {
        short = ltb-false _ _ (when_none _ _ l.0);
        room = leb-false _ _ (when_none _ _ l.1);
        new = subst (λ names. is_in names x.text ≡ false) (sym (append_assoc (names_of d.symbols) d.variables d.initial.states)) (when_none _ _ (or_parts_none _ _ r.names).0);
      }

abbrev AreStates : Declared → List Text → Type 0
AreStates d names = AreNewNames (taken d) 16384 (d.initial.states ++ names)

module _ {end : End} where
  zero_tied : (d : Declared) (v : Value (grammar.maybe (grammar.◌then◌ (grammar.one terminal.Colon) (grammar.one terminal.Zero)))) → IsTied end Whatever (closed d) (labelled (grammar.maybe (grammar.◌then◌ (grammar.one terminal.Colon) (grammar.one terminal.Zero))) v) (Unit {0}) (λ w. closed d)
  unfolding adds
  zero_tied d None = no_tokens (closed d)
  zero_tied d (Some v) =
      by_witness
      (in_turn (free_token (closed d) v.0 (simple_row terminal.Colon (closed d) v.0.lexeme tt refl v.0.matched)) (λ u.
      free_token (closed d) v.1 (simple_row terminal.Zero (closed d) v.1.lexeme tt refl v.1.matched)))
      (λ u. (tt, tt))
      (λ w. tt)
      (λ u. refl)
      (λ w. refl)

  state_tied : (d : Declared) (v : Value (grammar.state role.ApproximationState)) → IsTied end Whatever (closed d) (labelled (grammar.state role.ApproximationState) v) (IsNewState d (state_of v)) (λ w. closed (with_extra d (state_of v ∷ [])))
  unfolding adds
  state_tied d v =
      by_witness
      (in_turn (one_token (closed d) v.0 (IsNewState d (text_of v.0)) (λ w. state_row (closed d) v.0.lexeme tt v.0.matched w) (λ h. new_state (closed d) v.0.lexeme tt h)) (λ w.
      zero_tied (with_extra d (text_of v.0 ∷ [])) v.1))
      (λ w. (w, tt))
      (λ w. w.0)
      (λ w. refl)
      (λ w. refl)

  states_tied : (vs : List (Value (grammar.state role.ApproximationState))) (d : Declared) → AreNewNames (taken d) 16384 d.initial.states
      → IsTied end Whatever (closed d) (flat_map (labelled (grammar.state role.ApproximationState)) vs) (AreStates d (map state_of vs)) (λ w. closed (with_extra d (map state_of vs)))
  states_tied [] d h =
      by_witness (no_tokens (closed d)) (λ v. tt) (λ w. subst (AreNewNames (taken d) 16384) (sym (append-nil d.initial.states)) h) (λ v. no_extra d) (λ w. no_extra d)
  states_tied (v ∷ vs) d h =
      let name = state_of v in
      let names = map state_of vs in
      let joint : (d.initial.states ++ name ∷ []) ++ names ≡ d.initial.states ++ (name ∷ names) = append_assoc d.initial.states (name ∷ []) names in
      by_witness
      (in_turn (state_tied d v) (λ w. states_tied vs (with_extra d (name ∷ [])) (AreNewNames-push (taken d) 16384 d.initial.states name h w)))
      (λ w. (IsNew-middle (taken d) 16384 d.initial.states names name w, subst (AreNewNames (taken d) 16384) (sym joint) w))
      (λ w. subst (AreNewNames (taken d) 16384) joint w.1)
      (λ w. more_extra d name names)
      (λ w. more_extra d name names)

-- ---- the section

-- an approximation may stand here
pub record IsOpenTo (d : Declared) : Type 0 where
  pub late : (d.automata == 0) ≡ false
  pub once : d.approximations < 1

module _ (d : Declared) (x : Lexeme) (quiet : IsQuiet d.last) where
  approximation_row : matches terminal.Approximation x ≡ true → IsOpenTo d → row (Some terminal.Approximation) d x ≡ None
  unfolding passed expected
  approximation_row e h =
      let paren = apart terminal.Approximation terminal.OpenParen x refl e in
      row-none terminal.Approximation d x e
      (arity_right d x quiet paren (apart terminal.Approximation terminal.CloseParen x refl e) (apart terminal.Approximation terminal.Comma x refl e))
      (or_from _ _ (unexpected d.last paren) (and_right _ _ h.late))
      (when-false _ _ (lt-leb _ _ h.once))
      (misnamed_plain terminal.Approximation x.text d refl)
    where
      unexpected : (l : Last) → matches terminal.OpenParen x ≡ false → unexpected_after l x ≡ false
      unexpected any p = refl
      unexpected leaf p = p
      unexpected constant p = refl
      unexpected function p = refl

  open_to : matches terminal.Approximation x ≡ true → row (Some terminal.Approximation) d x ≡ None → IsOpenTo d
  unfolding passed expected
  open_to e h =
      let r = row_parts terminal.Approximation d x h in
      record {
        late = ap (λ b. b && (d.automata == 0)) (sym e) ∙ (or_parts _ _ r.role).1;
        once = leb-false _ _ (when_none _ _ r.limits);
      }

-- the approximation may be declared so behind these declarations, and has these entries
pub record IsAllowedApproximation (d : Declared) (title : Text) (names : List Text) (rules : List ApproximationRule) (es : List Entry) : Type 0 where
  pub role : IsOpenTo d
  pub short_title : IsShort title
  pub states : AreNewNames (taken d) 16384 (d.initial.states ++ names)
  pub entries : AreEntriesHere (with_extra d names) (entries_of rules) es

-- one approximation more
abbrev pub next_approximation : Declared → Declared
next_approximation d = record d { approximations = d.approximations + 1 }

-- with these states and entries of an approximation
abbrev pub with_approximation : Declared → List Text → List Entry → Declared
with_approximation d names es = with_entries (with_extra (next_approximation d) names) es

module _ {end : End} (d : Declared) where
  pub title_tied : (v : Token (terminal.Named role.Title)) → IsTied end Whatever (closed d) (label v ∷ []) (IsShort (text_of v)) (λ w. closed d)
  unfolding adds
  title_tied v = one_token (closed d) v (IsShort (text_of v)) (λ w. title_row (closed d) v.lexeme (record { applications = refl; last = tt }) v.matched w) (λ h. short_title (closed d) v.lexeme h)

  pub states_word_tied : (v : Token terminal.States) → IsTied end Whatever (closed d) (label v ∷ []) (Unit {0}) (λ w. closed d)
  unfolding adds
  states_word_tied v = free_token (closed d) v (simple_row terminal.States (closed d) v.lexeme tt refl v.matched)

  pub rules_word_tied : (v : Token terminal.Rules) → IsTied end Whatever (closed d) (label v ∷ []) (Unit {0}) (λ w. closed d)
  unfolding adds
  rules_word_tied v = free_token (closed d) v (simple_row terminal.Rules (closed d) v.lexeme tt refl v.matched)

module _ {end : End} (patterns : PatternsAreTied end) (d : Declared) (short : AreShort d) (known : AreNewNames (taken d) 16384 d.initial.states) (few : length d.entries ≤ 1024) where
  word_tied : (v : Token terminal.Approximation) → IsTied end Whatever (closed d) (label v ∷ []) (IsOpenTo d) (λ w. closed (next_approximation d))
  unfolding adds
  word_tied v = one_token (closed d) v (IsOpenTo d)
      (λ w. approximation_row (closed d) v.lexeme tt v.matched (record { late = w.late; once = w.once }))
      (λ h. let w = open_to (closed d) v.lexeme tt v.matched h in record { late = w.late; once = w.once })

  pub approximation_tied : (v : Value grammar.approximation)
      → IsTied end Whatever (closed d) (labelled grammar.approximation v)
      ((es : List Entry) × IsAllowedApproximation d (text_of v.1.0) (map state_of v.1.1.1.0) (map approximation_rule_of v.1.1.1.1.1) es)
      (λ w. closed (with_approximation d (map state_of v.1.1.1.0) w.0))
  approximation_tied v =
      let names = map state_of v.1.1.1.0 in
      let d1 = next_approximation d in
      by_witness
      (in_turn (word_tied v.0) (λ place.
      in_turn (title_tied d1 v.1.0) (λ title.
      in_turn (states_word_tied d1 v.1.1.0) (λ u.
      in_turn (states_tied v.1.1.1.0 d1 known) (λ new.
      in_turn (rules_word_tied (with_extra d1 names) v.1.1.1.1.0) (λ u2.
      rules_tied end patterns v.1.1.1.1.1 (with_extra d1 names) (record { symbols = short.symbols; variables = short.variables; states = new.short }) few))))))
      (λ w. (w.1.role, (w.1.short_title, (tt, (w.1.states, (tt, (w.0, record { from = w.1.entries.from; few = w.1.entries.few })))))))
      (λ w. (w.1.1.1.1.1.0, record { role = w.0; short_title = w.1.0; states = w.1.1.1.0; entries = record { from = w.1.1.1.1.1.1.from; few = w.1.1.1.1.1.1.few } }))
      (λ w. refl)
      (λ w. refl)
