-- The states of an automaton that are used, one token at a time.
use Rattle.std.proofs.Common.{◌≡◌, ℕ, ◌+◌, ◌<◌, ◌≤◌, length, arith, Bool, true, false, not, ◌||◌, ◌==◌, cond, List, [], ◌∷◌, ◌++◌, Option, Some, None, Err, refl, ap, sym, ◌∙◌, subst, append_assoc}
use Rattle.std.specs.Prelude.{nat_lt, nat_le, position, option_map}
use Rattle.std.specs.Str.{bytes_eq}
use Rattle.std.proofs.lemmas.Bool.Decides.{nat_tests}
use Rattle.std.proofs.lemmas.List.Quantifiers.{position-Some}
use Rattle.ranked_terms.specs.declared.term.Shape.TheVariants as shape
use Rattle.ta_core.specs.TreeAutomaton.{trans_of}
use Rattle.ranked_terms.specs.Names.{names_of}
use Rattle.timbuk_lex.specs.declared.lexeme.Lexeme.{Lexeme}
use Rattle.timbuk_grammar.specs.declared.terminal.Role.{Role}
use Rattle.timbuk_grammar.specs.declared.terminal.Role.TheVariants as role
use Rattle.timbuk_grammar.specs.declared.terminal.Terminal.TheVariants as terminal
use Rattle.timbuk_grammar.specs.Matching.{matches}
use Rattle.timbuk_grammar.specs.Grammar.{Part, one, name}
use Rattle.spec_text.specs.declared.fault.SpecKind.TheVariants as kind
use Rattle.spec_text.specs.declared.fault.LimitName.{LimitName}
use Rattle.spec_text.specs.declared.fault.LimitName.TheVariants as limit
use Rattle.timbuk_reader.specs.declared.fault.SpecError.{SpecError}
use Rattle.timbuk_reader.specs.declared.fault.SpecError.TheVariants as error
use Rattle.timbuk_reader.specs.declared.state.Reader.{Reader}
use Rattle.spec_text.specs.Declarations.{Text, Declared, Started, Head, no_head, state_head, symbol_head, any, leaf, unknown, a_state, as_state, meaning, current, with_current, uses, placed, named, adds}
use Rattle.spec_text.specs.Rows.{or, when, wrong_count, over, passed, misnamed, is_in, is_double}
use Rattle.spec_text.specs.Reading.{End, outcome}
use Rattle.timbuk_reader.specs.View.{Open, closed, declared, state_of, end_of, from, as_error, refusal_at, refusal}
use Rattle.spec_text.specs.Reading.{settled, sees}
use Rattle.timbuk_reader.specs.Reads.{Advances, Stops, IsCalm, Stands, HasNoWord}
use Rattle.timbuk_reader.specs.Patterns.{Advanced}
use Rattle.timbuk_reader.specs.declared.meaning.Meaning.{Meaning as Told}
use Rattle.timbuk_reader.specs.declared.meaning.Meaning.TheVariants as told
use Rattle.timbuk_reader.specs.Meanings.{meant_by}
use Rattle.timbuk_reader.specs.AutomatonReads.{states_of, with_trans, with_epsilon, SameTokens, MayDeclare, table_of, UsesState, miscounts, IsReady, ReadState, StopsState, headed}
use Rattle.timbuk_reader.proofs.parsing.Parts.{one_front}
use Rattle.timbuk_reader.proofs.parsing.Tokens.{use_row, Quiet, row_other, step_on, step_fault, declared_same}
use Rattle.timbuk_reader.proofs.parsing.Names.{Declares, reached, below, is_in-append}
use Rattle.spec_text.specs.lemmas.LastToken.{after, leaf_whole, read_after}
use Rattle.timbuk_reader.proofs.parsing.Arguments.{quiet_by, calm_ready, no_name_stops, leaf_applied}

-- ---- what a name means

-- the places in which a state may stand in an automaton
abbrev pub MeansState : Role → Type 0
MeansState role.TransitionHead = Unit {0}
MeansState p = UsesState p

pub uses_means : (p : Role) → UsesState p → MeansState p
uses_means role.TransitionHead u = tt
uses_means role.DescribedState u = tt
uses_means role.FinalState u = tt
uses_means role.TransitionArgument u = tt
uses_means role.TransitionTarget u = tt
uses_means _ u = absurd u

-- where only a state may stand
pub used_meaning : (p : Role) (text : Text) (d : Declared) → UsesState p → meaning d p text ≡ as_state (position (bytes_eq text) (current d).states)
unfolding meaning
used_meaning role.DescribedState text d u = refl
used_meaning role.FinalState text d u = refl
used_meaning role.TransitionArgument text d u = refl
used_meaning role.TransitionTarget text d u = refl
used_meaning _ text d u = absurd u

-- what is open makes no difference
pub open_meaning : (p : Role) (text : Text) (o : Open) (r : Reader) → meaning (declared o r) p text ≡ meaning (state_of r) p text
unfolding meaning
open_meaning _ text o r = refl

no_state : (o : Option ℕ) (m : Told) → meant_by m ≡ as_state o → ((q : ℕ) → m ≡ told.State q → ⊥) → as_state o ≡ unknown
no_state None m e not = refl
no_state (Some q) told.Unknown e not = cc
no_state (Some q) (told.Variable v) e not = cc
no_state (Some q) (told.State p) e not = absurd (not p refl)
no_state (Some q) (told.Symbol f n) e not = cc

-- what is answered as no state means nothing there
pub means_nothing : (p : Role) (text : Text) (r : Reader) (m : Told) → UsesState p → meant_by m ≡ meaning (state_of r) p text → ((q : ℕ) → m ≡ told.State q → ⊥) → meaning (state_of r) p text ≡ unknown
means_nothing p text r m u e not =
    let used = used_meaning p text (state_of r) u in
    used ∙ no_state (position (bytes_eq text) (current (state_of r)).states) m (e ∙ used) not

pub state_place : (o : Option ℕ) (q : ℕ) → as_state o ≡ a_state q → o ≡ Some q
state_place None q e = cc
state_place (Some p) q e = cc

-- a state that is answered is one of the automaton
pub state_below : (p : Role) (text : Text) (r m : Reader) (q : ℕ) → UsesState p → meaning (state_of r) p text ≡ a_state q → state_of m ≡ state_of r → q < length (states_of m)
state_below p text r m q u e same =
    let states = (current (state_of r)).states in
    let place = state_place (position (bytes_eq text) states) q (sym (used_meaning p text (state_of r) u) ∙ e) in
    subst (λ d. q < length (current d).states) (sym same) (position-Some (bytes_eq text) states q [] place).0

-- ---- the rows of such a name

pub short : (text : Text) → length text ≤ 255 → nat_lt 255 (length text) ≡ false
short text h = grind (arith, nat_tests)

pub state_row : (p : Role) (text : Text) (d : Declared) (q : ℕ) → MeansState p → length text ≤ 255 → meaning d p text ≡ a_state q → use_row (terminal.Named p) text d ≡ None
unfolding passed misnamed
state_row role.DescribedState text d q u s m = rw (short text s, m) refl
state_row role.FinalState text d q u s m = rw (short text s, m) refl
state_row role.TransitionHead text d q u s m = rw (short text s, m) refl
state_row role.TransitionArgument text d q u s m = rw (short text s, m) refl
state_row role.TransitionTarget text d q u s m = rw (short text s, m) refl
state_row _ text d q u s m = absurd u

pub unknown_row : (p : Role) (text : Text) (d : Declared) → MeansState p → length text ≤ 255 → meaning d p text ≡ unknown → use_row (terminal.Named p) text d ≡ Some kind.UnknownName
unfolding passed misnamed
unknown_row role.DescribedState text d u s m = rw (short text s, m) refl
unknown_row role.FinalState text d u s m = rw (short text s, m) refl
unknown_row role.TransitionHead text d u s m = rw (short text s, m) refl
unknown_row role.TransitionArgument text d u s m = rw (short text s, m) refl
unknown_row role.TransitionTarget text d u s m = rw (short text s, m) refl
unknown_row _ text d u s m = absurd u

state_adds : (p : Role) (text : Text) (d : Declared) (q : ℕ) → MeansState p → meaning d p text ≡ a_state q → adds (terminal.Named p) text d ≡ after leaf (uses p q (placed p (shape.State q) d))
unfolding adds
state_adds role.DescribedState text d q u m = ap (λ m. named role.DescribedState m d) m
state_adds role.FinalState text d q u m = ap (λ m. named role.FinalState m d) m
state_adds role.TransitionHead text d q u m = ap (λ m. named role.TransitionHead m d) m
state_adds role.TransitionArgument text d q u m = ap (λ m. named role.TransitionArgument m d) m
state_adds role.TransitionTarget text d q u m = ap (λ m. named role.TransitionTarget m d) m
state_adds _ text d q u m = absurd u

-- ---- one token

pub state_on : (p : Role) (ps : List Part) (end : End) (d : Declared) (x : Lexeme) (rest : List Lexeme) (q : ℕ) → MeansState p → matches (terminal.Named p) x ≡ true → Quiet d x
    → length x.text ≤ 255 → meaning d p x.text ≡ a_state q → outcome end (name p ∷ ps) d (x ∷ rest) ≡ outcome end ps (after leaf (uses p q (placed p (shape.State q) d))) rest
state_on p ps end d x rest q u h quiet s m =
    step_on (name p ∷ ps) (terminal.Named p) ps end d x rest (one_front (terminal.Named p) ps) h (row_other (terminal.Named p) d x tt h quiet ∙ state_row p x.text d q u s m)
    ∙ ap (λ z. outcome end ps z rest) (state_adds p x.text d q u m)

-- ---- a name where a state may stand

module _ (p : Role) (o : Open) (r : Reader) (u : MeansState p) (ready : IsReady o r) where
  quiet_at : (x : Lexeme) (rest : List Lexeme) → r.tokens.now ≡ x ∷ rest → Quiet (declared o r) x
  quiet_at x rest e = quiet_by (declared o r) x ready.last (subst (λ xs. miscounts o.applications xs ≡ false) e ready.count)

  -- an unknown name
  pub unknown_stops : (text : Text) (e : SpecError) → Stands (terminal.Named p) r text → meaning (state_of r) p text ≡ unknown → e ≡ error.Fault (refusal kind.UnknownName r) → Stops (name p) o r e
  unknown_stops text e s m told = record {
    by = λ ne ps.
        let d = declared o r in
        ap (λ z. as_error (settled z)) (ap (outcome (end_of r) (name p ∷ ps) d) s.tokens
        ∙ step_fault (name p ∷ ps) (terminal.Named p) ps (end_of r) d s.token s.rest kind.UnknownName (one_front (terminal.Named p) ps) s.matched
        (row_other (terminal.Named p) d s.token tt s.matched (quiet_at s.token s.rest s.tokens) ∙ ap (λ z. use_row (terminal.Named p) z d) s.text_is ∙ unknown_row p text d u s.short (open_meaning p text o r ∙ m))
        ∙ ap (λ xs. Err (refusal_at kind.UnknownName (end_of r) xs)) (sym s.tokens)) ∙ ap Err (sym told);
  }

  module _ (text : Text) (q : ℕ) (m : Reader) (s : Stands (terminal.Named p) r text) (means : meaning (state_of r) p text ≡ a_state q) (h : Advanced r m) where
    -- the outcome behind the name
    behind_name : (ps : List Part) → outcome (end_of r) (name p ∷ ps) (declared o r) r.tokens.now ≡ outcome (end_of m) ps (after leaf (uses p q (placed p (shape.State q) (declared o m)))) m.tokens.now
    behind_name ps =
        let d = declared o r in
        let same : s.rest ≡ m.tokens.now = let e = sym s.tokens ∙ h.tokens in cc in
        let few : length s.token.text ≤ 255 = subst (λ z. length z ≤ 255) (sym s.text_is) s.short in
        let means : meaning d p s.token.text ≡ a_state q = ap (meaning d p) s.text_is ∙ open_meaning p text o r ∙ means in
        ap (outcome (end_of r) (name p ∷ ps) d) s.tokens
        ∙ state_on p ps (end_of r) d s.token s.rest q u s.matched (quiet_at s.token s.rest s.tokens) few means
        ∙ (λ i. outcome (sym h.end i) ps (after leaf (uses p q (placed p (shape.State q) (sym (declared_same o r m h.state h.bound) i)))) (same i))

    -- a state was read
    pub state_advances : sees terminal.OpenParen m.tokens.now ≡ false → (ps : List Part)
        → from o (name p ∷ ps) r ≡ settled (outcome (end_of m) ps (record (uses p q (placed p (shape.State q) (declared o m))) { last = any }) m.tokens.now)
    state_advances alone ps = ap settled (behind_name ps) ∙ read_after leaf leaf_whole (end_of m) ps (uses p q (placed p (shape.State q) (declared o m))) m.tokens.now alone

    -- a `(` follows
    pub applied_stops : (e : SpecError) → sees terminal.OpenParen m.tokens.now ≡ true → e ≡ error.Fault (refusal kind.Expected m) → Stops (name p) o r e
    applied_stops e seen told = record {
      by = λ ne ps. ap (λ z. as_error (settled z)) (behind_name ps ∙ leaf_applied ps (end_of m) (after leaf (uses p q (placed p (shape.State q) (declared o m)))) m.tokens.now refl seen) ∙ ap Err (sym told);
    }

-- ---- a state that was used

pub closed_ready : (r : Reader) → IsReady closed r
closed_ready r = calm_ready closed r refl refl

-- what is kept of it
pub kept_advances : (p : Role) (o q : Open) (r m u : Reader) (state : ℕ) → IsReady o r → ReadState p r state m → SameTokens m u
    → declared q u ≡ record (uses p state (placed p (shape.State state) (declared o m))) { last = any } → Advances (name p) o r q u
kept_advances p o q r m u state ready h k e = record {
  by = λ ps. h.by o ready ps ∙ (λ i. settled (outcome (sym k.end i) ps (sym e i) (sym k.tokens i)));
}

-- ---- where nothing else is open

-- no name stands there, whatever is open
pub no_state_word : (p : Role) (r : Reader) (e : SpecError) → UsesState p → HasNoWord (terminal.Named p) r e → StopsState p r e
no_state_word p r e u h = record { by = λ o ready. no_name_stops p r e o ready h }

pub stops_closed : (p : Role) (r : Reader) (e : SpecError) → StopsState p r e → Stops (name p) closed r e
stops_closed p r e h = h.by closed (closed_ready r)

pub same_tokens : (r : Reader) → SameTokens r r
same_tokens r = record { tokens = refl; end = refl }

pub described_advances : (r m : Reader) (state : ℕ) → ReadState role.DescribedState r state m → Advances (name role.DescribedState) closed r closed m
described_advances r m state h = kept_advances role.DescribedState closed closed r m m state (closed_ready r) h (same_tokens m) refl

pub final_advances : (r m u : Reader) (state : ℕ) → ReadState role.FinalState r state m → SameTokens m u → state_of u ≡ uses role.FinalState state (state_of m) → Advances (name role.FinalState) closed r closed u
final_advances r m u state h k e = kept_advances role.FinalState closed closed r m u state (closed_ready r) h k (ap (after any) e)

-- ---- targets of transitions

closing_by : (b : Bool) (a : Started) (head : Head) (args : List ℕ) (r : Reader)
    → cond b (record (state_of r) { second = a }) (record (state_of r) { initial = a })
    ≡ record (cond b (record (declared (headed head args) r) { second = a }) (record (declared (headed head args) r) { initial = a })) { head = no_head; head_args = []; last = any }
closing_by true a head args r = refl
closing_by false a head args r = refl

-- an automaton that is kept, where a transition ends
closing : (a : Started) (head : Head) (args : List ℕ) (r : Reader) (d : Declared) → d ≡ with_current a (state_of r) → d ≡ record (with_current a (declared (headed head args) r)) { head = no_head; head_args = []; last = any }
closing a head args r d e = e ∙ closing_by (r.automata == 2) a head args r

headed_ready : (head : Head) (args : List ℕ) (r : Reader) → IsReady (headed head args) r
headed_ready head args r = calm_ready (headed head args) r refl refl

pub epsilon_advances : (from to : ℕ) (r m u : Reader) → ReadState role.TransitionTarget r to m → SameTokens m u → state_of u ≡ with_epsilon from to (state_of m)
    → Advances (name role.TransitionTarget) (headed (state_head from) []) r closed u
epsilon_advances from to r m u h k e =
    let a = current (state_of m) in
    kept_advances role.TransitionTarget (headed (state_head from) []) closed r m u to (headed_ready (state_head from) [] r) h k
    (closing (record a { eps = a.eps ++ (from, to) ∷ [] }) (state_head from) [] m (state_of u) e)

pub trans_advances : (f : ℕ) (args : List ℕ) (to : ℕ) (r m u : Reader) → ReadState role.TransitionTarget r to m → SameTokens m u → state_of u ≡ with_trans (trans_of f args to) (state_of m)
    → Advances (name role.TransitionTarget) (headed (symbol_head f) args) r closed u
trans_advances f args to r m u h k e =
    let a = current (state_of m) in
    kept_advances role.TransitionTarget (headed (symbol_head f) args) closed r m u to (headed_ready (symbol_head f) args r) h k
    (closing (record a { trans = a.trans ++ trans_of f args to ∷ [] }) (symbol_head f) args m (state_of u) e)

pub target_stops : (head : Head) (args : List ℕ) (r : Reader) (e : SpecError) → StopsState role.TransitionTarget r e → Stops (name role.TransitionTarget) (headed head args) r e
target_stops head args r e h = h.by (headed head args) (headed_ready head args r)

pub headed_calm : (head : Head) (args : List ℕ) → IsCalm (headed head args)
headed_calm head args = record { applications = refl; last = refl }

-- ---- states that are declared

pub may_declare : (p : Role) (r : Reader) → MayDeclare p r → Declares p
may_declare role.State r h = tt
may_declare role.ApproximationState r h = tt
may_declare _ r h = absurd h

pub full_table : (p : Role) (r : Reader) (text : Text) → MayDeclare p r → 16384 ≤ length (table_of p r) → over (terminal.Named p) text (state_of r) ≡ Some limit.States
full_table role.State r text h full = reached 16384 (length (states_of r)) limit.States full
full_table role.ApproximationState r text h full = reached 16384 (length r.initial.states) limit.States full
full_table _ r text h full = absurd h

pub roomy_table : (p : Role) (r : Reader) (text : Text) → MayDeclare p r → length (table_of p r) < 16384 → over (terminal.Named p) text (state_of r) ≡ None
roomy_table role.State r text h room = below 16384 (length (states_of r)) limit.States room
roomy_table role.ApproximationState r text h room = below 16384 (length r.initial.states) limit.States room
roomy_table _ r text h room = absurd h

in_three : (xs ys zs : List Text) (text : Text) → is_in (xs ++ (ys ++ zs)) text ≡ (is_in (xs ++ ys) text || is_in zs text)
in_three xs ys zs text = ap (λ l. is_in l text) (sym (append_assoc xs ys zs)) ∙ is_in-append (xs ++ ys) zs text

-- which name would be declared twice
pub double_in_table : (p : Role) (r : Reader) (text : Text) → MayDeclare p r → is_double (terminal.Named p) text (state_of r) ≡ (is_in (names_of r.signature ++ r.variables) text || is_in (table_of p r) text)
double_in_table role.State r text h = in_three (names_of r.signature) r.variables (states_of r) text
double_in_table role.ApproximationState r text h = in_three (names_of r.signature) r.variables r.initial.states text
double_in_table _ r text h = absurd h

or_no : (a b : Bool) → (a || b) ≡ false → b ≡ false
or_no true b e = cc
or_no false b e = e

pub new_in_table : (p : Role) (r : Reader) (text : Text) → MayDeclare p r → is_double (terminal.Named p) text (state_of r) ≡ false → is_in (table_of p r) text ≡ false
new_in_table p r text h e = or_no (is_in (names_of r.signature ++ r.variables) text) (is_in (table_of p r) text) (sym (double_in_table p r text h) ∙ e)

-- ---- the word `Automaton`

counted_row : (text : Text) (d : Declared) (k : Option LimitName) → when (nat_le 2 d.automata) limit.Automata ≡ k → use_row terminal.Automaton text d ≡ or (option_map kind.Limit k) None
unfolding passed misnamed
counted_row text d k e = rw e refl

word_fault : (ps : List Part) (end : End) (d : Declared) (xs : List Lexeme) → d.last ≡ any → d.applications ≡ [] → 2 ≤ d.automata → sees terminal.Automaton xs ≡ true
    → outcome end (one terminal.Automaton ∷ ps) d xs ≡ Err (refusal_at (kind.Limit limit.Automata) end xs)
word_fault ps end d [] l a enough e = cc
word_fault ps end d (x ∷ xs) l a enough e =
    step_fault (one terminal.Automaton ∷ ps) terminal.Automaton ps end d x xs (kind.Limit limit.Automata) (one_front terminal.Automaton ps) e
    (row_other terminal.Automaton d x tt e (quiet_by d x l (ap (λ z. wrong_count z x) a)) ∙ counted_row x.text d (Some limit.Automata) (reached 2 d.automata limit.Automata enough))

-- a third automaton
pub third_stops : (r : Reader) (e : SpecError) → 2 ≤ r.automata → sees terminal.Automaton r.tokens.now ≡ true → e ≡ error.Fault (refusal (kind.Limit limit.Automata) r) → Stops (one terminal.Automaton) closed r e
third_stops r e enough seen told = record {
  by = λ ne ps. ap (λ z. as_error (settled z)) (word_fault ps (end_of r) (state_of r) r.tokens.now refl refl enough seen) ∙ ap Err (sym told);
}

pub automaton_advances : (r u : Reader) (x : Lexeme) → r.automata < 2 → sees terminal.Automaton r.tokens.now ≡ true → r.tokens.now ≡ x ∷ u.tokens.now → end_of u ≡ end_of r
    → state_of u ≡ record (state_of r) { automata = r.automata + 1 } → Advances (one terminal.Automaton) closed r closed u
unfolding adds
automaton_advances r u x few seen tokens end state = record {
  by = λ ps.
      let d = state_of r in
      let matched : matches terminal.Automaton x ≡ true = rw tokens at seen in
      ap settled (ap (outcome (end_of r) (one terminal.Automaton ∷ ps) d) tokens
      ∙ step_on (one terminal.Automaton ∷ ps) terminal.Automaton ps (end_of r) d x u.tokens.now (one_front terminal.Automaton ps) matched
      (row_other terminal.Automaton d x tt matched (quiet_by d x refl refl) ∙ counted_row x.text d None (below 2 d.automata limit.Automata few))
      ∙ (λ i. outcome (sym end i) ps (sym state i) u.tokens.now));
}
