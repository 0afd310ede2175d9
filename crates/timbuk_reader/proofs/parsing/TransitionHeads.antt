-- The heads of transitions, one token at a time.
use Rattle.std.proofs.Common.{◌≡◌, ◌≢◌, ◌⊎◌, inl, inr, ℕ, zero, suc, eq-eqb, ◌<◌, ◌≤◌, length, true, false, List, [], ◌∷◌, Option, Some, None, Err, refl, ap, sym, ◌∙◌, subst}
use Rattle.std.specs.Prelude.{nat_lt, position, option_map, unwrap_or, slice_get}
use Rattle.std.specs.Str.{bytes_eq}
use Rattle.std.proofs.Math.Bool.{and-false}
use Rattle.std.proofs.lemmas.List.Quantifiers.{position-Some}
use Rattle.std.proofs.lemmas.List.{length-map}
use Rattle.std.proofs.lemmas.Option.{slice_get-get_or}
use Rattle.ranked_terms.specs.Names.{Symbol, names_of, number_of, arity_of}
use Rattle.ranked_terms.specs.Terms.{is_arity, is_symbol}
use Rattle.timbuk_grammar.specs.declared.terminal.Role.TheVariants as role
use Rattle.timbuk_grammar.specs.declared.terminal.Terminal.TheVariants as terminal
use Rattle.timbuk_grammar.specs.Grammar.{Part, one, ◌then◌, many, name}
use Rattle.spec_text.specs.declared.fault.SpecKind.TheVariants as kind
use Rattle.timbuk_reader.specs.declared.fault.SpecError.{SpecError}
use Rattle.timbuk_reader.specs.declared.fault.SpecError.TheVariants as error
use Rattle.timbuk_reader.specs.declared.state.Reader.{Reader}
use Rattle.spec_text.specs.Declarations.{Text, Declared, Head, state_head, symbol_head, constant, unknown, a_variable, a_state, a_symbol, or_else, as_symbol, as_state, meaning, current, named, adds}
use Rattle.spec_text.specs.Rows.{passed, misnamed}
use Rattle.spec_text.specs.Reading.{outcome}
use Rattle.timbuk_reader.specs.View.{closed, declared, state_of, end_of, as_error, refusal}
use Rattle.spec_text.specs.Reading.{settled, sees}
use Rattle.timbuk_reader.specs.Reads.{Advances, Stops, Stands}
use Rattle.timbuk_reader.specs.Patterns.{Advanced}
use Rattle.timbuk_reader.specs.declared.meaning.Meaning.{Meaning as Told}
use Rattle.timbuk_reader.specs.declared.meaning.Meaning.TheVariants as told
use Rattle.timbuk_reader.specs.Meanings.{meant_by}
use Rattle.timbuk_reader.specs.AutomatonReads.{states_of, head_arguments, begun, headed}
use Rattle.timbuk_reader.proofs.parsing.Parts.{one_front, then_head, maybe_none}
use Rattle.timbuk_reader.proofs.parsing.Tokens.{use_row, row_other, step_on}
use Rattle.spec_text.specs.lemmas.LastToken.{after, constant_whole, read_after}
use Rattle.timbuk_reader.proofs.parsing.Arguments.{quiet_by, constant_applied}
use Rattle.timbuk_reader.proofs.parsing.Automaton.{applied_stops, closed_ready, kept_advances, same_tokens, short, state_advances, state_place, unknown_stops}

-- ---- heads of transitions

symbol_row : (text : Text) (d : Declared) (f n : ℕ) → length text ≤ 255 → d.applications ≡ [] → meaning d role.TransitionHead text ≡ a_symbol f n → use_row (terminal.Named role.TransitionHead) text d ≡ None
unfolding passed misnamed
symbol_row text d f n s a m = rw (short text s, m, a, and-false (nat_lt 0 n)) refl

symbol_adds : (text : Text) (d : Declared) (f n : ℕ) → meaning d role.TransitionHead text ≡ a_symbol f n → adds (terminal.Named role.TransitionHead) text d ≡ named role.TransitionHead (a_symbol f n) d
unfolding adds
symbol_adds text d f n m = ap (λ m. named role.TransitionHead m d) m

head_meaning : (text : Text) (d : Declared) → meaning d role.TransitionHead text ≡ or_else (as_symbol d.symbols (number_of d.symbols text)) (as_state (position (bytes_eq text) (current d).states))
unfolding meaning
head_meaning text d = refl

-- a variable or nothing
abbrev pub IsNoHead : Told → Type 0
IsNoHead m = ((v : ℕ) × (m ≡ told.Variable v)) ⊎ (m ≡ told.Unknown)

no_variable_head : (f q : Option ℕ) (symbols : List Symbol) (v : ℕ) → a_variable v ≡ or_else (as_symbol symbols f) (as_state q) → ⊥
no_variable_head (Some g) q symbols v e = cc
no_variable_head None (Some p) symbols v e = cc
no_variable_head None None symbols v e = cc

nothing_meant : (m : Told) (f q : Option ℕ) (symbols : List Symbol) → meant_by m ≡ or_else (as_symbol symbols f) (as_state q) → IsNoHead m → meant_by m ≡ unknown
nothing_meant m f q symbols e (inl h) = absurd (no_variable_head f q symbols h.0 (sym (ap meant_by h.1) ∙ e))
nothing_meant m f q symbols e (inr h) = ap meant_by h

state_at_head : (f q : Option ℕ) (symbols : List Symbol) (p : ℕ) → or_else (as_symbol symbols f) (as_state q) ≡ a_state p → q ≡ Some p
state_at_head (Some g) q symbols p e = cc
state_at_head None q symbols p e = state_place q p e

-- a state at the head is one of the automaton
pub head_state_below : (text : Text) (r m : Reader) (q : ℕ) → meaning (state_of r) role.TransitionHead text ≡ a_state q → state_of m ≡ state_of r → q < length (states_of m)
head_state_below text r m q e same =
    let place = state_at_head (number_of r.signature text) (position (bytes_eq text) (states_of r)) r.signature q (sym (head_meaning text (state_of r)) ∙ e) in
    subst (λ (d : Declared). q < length (current d).states) (sym same) (position-Some (bytes_eq text) (states_of r) q [] place).0

symbol_at_head : (g q : Option ℕ) (symbols : List Symbol) (f n : ℕ) → or_else (as_symbol symbols g) (as_state q) ≡ a_symbol f n → (g ≡ Some f) × (unwrap_or (arity_of symbols f) 0 ≡ n)
symbol_at_head (Some g) q symbols f n e = let same : g ≡ f = cc in (ap Some same, ap (λ k. unwrap_or (arity_of symbols k) 0) (sym same) ∙ cc)
symbol_at_head None (Some p) symbols f n e = cc
symbol_at_head None None symbols f n e = cc

arity_is : (symbols : List Symbol) (f n : ℕ) (s : Symbol) → slice_get symbols f ≡ Some s → unwrap_or (arity_of symbols f) 0 ≡ n → is_symbol symbols f n ≡ true
arity_is symbols f n s e h =
    let arity = ap (option_map (λ (s : Symbol). s.1)) e in
    ap (is_arity n) arity ∙ eq-eqb n s.1 (sym h ∙ ap (λ o. unwrap_or o 0) arity)

-- a symbol at the head is one of the signature, with its arity
pub head_symbol_over : (text : Text) (r : Reader) (f n : ℕ) → meaning (state_of r) role.TransitionHead text ≡ a_symbol f n → is_symbol r.signature f n ≡ true
head_symbol_over text r f n e =
    let found = symbol_at_head (number_of r.signature text) (position (bytes_eq text) (states_of r)) r.signature f n (sym (head_meaning text (state_of r)) ∙ e) in
    let inside : f < length r.signature = subst (λ k. f < k) (length-map r.signature (λ (s : Symbol). s.0)) (position-Some (bytes_eq text) (names_of r.signature) f [] found.0).0 in
    arity_is r.signature f n _ (slice_get-get_or r.signature f ([], 0) inside) found.1

module _ (r m : Reader) (text : Text) (s : Stands (terminal.Named role.TransitionHead) r text) (h : Advanced r m) where
  abbrev head : Part
  head = name role.TransitionHead

  module _ (q : ℕ) (means : meaning (state_of r) role.TransitionHead text ≡ a_state q) where
    -- a state from which an epsilon transition goes
    pub state_head_advances : sees terminal.OpenParen m.tokens.now ≡ false → Advances head closed r (headed (state_head q) []) m
    state_head_advances alone =
        kept_advances role.TransitionHead closed (headed (state_head q) []) r m m q (closed_ready r)
        (record { by = λ o ready. state_advances role.TransitionHead o r tt ready text q m s means h alone }) (same_tokens m) refl

    pub state_head_stops : (e : SpecError) → sees terminal.OpenParen m.tokens.now ≡ true → e ≡ error.Fault (refusal kind.Expected m) → Stops head closed r e
    state_head_stops e seen told = applied_stops role.TransitionHead closed r tt (closed_ready r) text q m s means h e seen told

  module _ (f n : ℕ) (means : meaning (state_of r) role.TransitionHead text ≡ a_symbol f n) where
    behind_symbol : (ps : List Part) → outcome (end_of r) (head ∷ ps) (state_of r) r.tokens.now ≡ outcome (end_of m) ps (named role.TransitionHead (a_symbol f n) (state_of m)) m.tokens.now
    behind_symbol ps =
        let d = state_of r in
        let t = terminal.Named role.TransitionHead in
        let same : s.rest ≡ m.tokens.now = let e = sym s.tokens ∙ h.tokens in cc in
        let few : length s.token.text ≤ 255 = subst (λ z. length z ≤ 255) (sym s.text_is) s.short in
        let means : meaning d role.TransitionHead s.token.text ≡ a_symbol f n = ap (meaning d role.TransitionHead) s.text_is ∙ means in
        ap (outcome (end_of r) (head ∷ ps) d) s.tokens
        ∙ step_on (head ∷ ps) t ps (end_of r) d s.token s.rest (one_front t ps) s.matched (row_other t d s.token tt s.matched (quiet_by d s.token refl refl) ∙ symbol_row s.token.text d f n few refl means)
        ∙ ap (λ z. outcome (end_of r) ps z s.rest) (symbol_adds s.token.text d f n means)
        ∙ (λ i. outcome (sym h.end i) ps (named role.TransitionHead (a_symbol f n) (sym h.state i)) (same i))

  module _ (f : ℕ) (means : meaning (state_of r) role.TransitionHead text ≡ a_symbol f 0) where
    -- a symbol without arguments
    pub constant_advances : sees terminal.OpenParen m.tokens.now ≡ false → Advances head closed r (headed (symbol_head f) []) m
    constant_advances alone = record {
      by = λ ps. ap settled (behind_symbol f 0 means ps) ∙ read_after constant constant_whole (end_of m) ps (declared (headed (symbol_head f) []) m) m.tokens.now alone;
    }

    pub constant_stops : (e : SpecError) → sees terminal.OpenParen m.tokens.now ≡ true → e ≡ error.Fault (refusal kind.WrongArity m) → Stops head closed r e
    constant_stops e seen told = record {
      by = λ ne ps. ap (λ z. as_error (settled z)) (behind_symbol f 0 means ps ∙ constant_applied ps (end_of m) (after constant (declared (headed (symbol_head f) []) m)) m.tokens.now refl seen) ∙ ap Err (sym told);
    }

  -- a symbol with arguments
  pub function_advances : (f n : ℕ) → n ≢ 0 → meaning (state_of r) role.TransitionHead text ≡ a_symbol f n → Advances head closed r (begun f n) m
  function_advances f zero some means = absurd (some refl)
  function_advances f (suc n) some means = record { by = λ ps. ap settled (behind_symbol f (suc n) means ps) }

-- an unknown name at the head
pub unknown_head_stops : (r : Reader) (text : Text) (m : Told) (e : SpecError) → Stands (terminal.Named role.TransitionHead) r text → meant_by m ≡ meaning (state_of r) role.TransitionHead text
    → IsNoHead m → e ≡ error.Fault (refusal kind.UnknownName r) → Stops (name role.TransitionHead) closed r e
unknown_head_stops r text m e s means none told =
    unknown_stops role.TransitionHead closed r tt (closed_ready r) text e s
    (sym means ∙ nothing_meant m (number_of r.signature text) (position (bytes_eq text) (states_of r)) r.signature (means ∙ head_meaning text (state_of r)) none) told

-- what follows the head of a transition without arguments
pub no_arguments : (head : Head) (r : Reader) → sees terminal.OpenParen r.tokens.now ≡ false → Advances head_arguments (headed head []) r (headed head []) r
no_arguments head r unseen =
    maybe_none (one terminal.OpenParen then name role.TransitionArgument then many (one terminal.Comma then name role.TransitionArgument) then one terminal.CloseParen) terminal.OpenParen (headed head []) r
    (then_head terminal.OpenParen (name role.TransitionArgument then many (one terminal.Comma then name role.TransitionArgument) then one terminal.CloseParen)) unseen
