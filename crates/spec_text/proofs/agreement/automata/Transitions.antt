-- Transitions: what the judge says of their tokens, and what they add to the automaton.
use Rattle.std.proofs.Common.{◌≡◌, ℕ, zero, suc, Bool, true, false, not, ◌==◌, cond, List, [], ◌∷◌, ◌++◌, length, filter, position, Option, Some, None, unwrap_or, All, Contains, refl, sym, ap, subst, ◌∙◌, append_assoc, true≢false, arith}
use Rattle.std.specs.Str.{bytes_eq}
use Rattle.std.proofs.lemmas.List.{append-nil}
use Rattle.std.proofs.lemmas.List.Elements.{All-nil, All-contains}
use Rattle.std.proofs.lemmas.Option.{same_Some}
use Rattle.ranked_terms.specs.Names.{Symbol, names_of, number_of, arity_of}
use Rattle.ta_core.specs.declared.trans.Trans.{Trans}
use Rattle.timbuk_grammar.specs.declared.terminal.Role.TheVariants as role
use Rattle.timbuk_grammar.specs.declared.terminal.Terminal.TheVariants as terminal
use Rattle.timbuk_grammar.specs.Grammar as grammar
use Rattle.timbuk_grammar.specs.Trees.{Token, Value}
use Rattle.spec_text.specs.Declarations.{Text, Declared, Started, Last, any, leaf, constant, function, state_head, symbol_head, unknown, a_state, a_symbol, or_else, as_symbol, as_state}
use Rattle.spec_text.specs.Source.{Arrow, text_of, transition_of}
use Rattle.spec_text.specs.Naming.{IsShort, place_in, IsTransition, by_symbol, by_state, with_trans, transitions_in, with_move, moves_in}
use Rattle.spec_text.specs.Rows.{is_in}
use Rattle.spec_text.proofs.agreement.tokens.Labels.{Label, label, labelled}
use Rattle.spec_text.proofs.agreement.names.Rows.{IsResting}
use Rattle.spec_text.proofs.agreement.names.Texts.{is_in-from_Contains, Contains-from_is_in, position_found, position_absent, Contains-position, arity_found}
use Rattle.spec_text.proofs.agreement.names.States.{between}
use Rattle.spec_text.proofs.agreement.tokens.Paths.{Path, path_on, path_also, path_not, path_before}
use Rattle.spec_text.proofs.agreement.automata.States.{put}
use Rattle.spec_text.proofs.agreement.automata.Heads.{places, behind_head, inside, added, arguments_path}
use Rattle.spec_text.proofs.agreement.automata.Arrows.{head_meaning, constant_head, function_head, state_of_head, no_head_here, arrow_path, target_path, paren_behind_state, paren_behind_constant, arrow_behind_function}

-- ---- what transitions add

abbrev pub with_pair : Option ℕ → ℕ → ℕ → List (ℕ × ℕ) → List (ℕ × ℕ)
with_pair (Some f) p q more = more
with_pair None p q more = (p, q) ∷ more

-- the epsilon transitions in the order of the text, those from a state to itself among them
abbrev pub pairs_in : List Symbol → List Text → List Arrow → List (ℕ × ℕ)
pairs_in symbols states [] = []
pairs_in symbols states (d ∷ ds) = with_pair (number_of symbols d.head) (place_in states d.head) (place_in states d.target) (pairs_in symbols states ds)

moves_step : (o : Option ℕ) (p q : ℕ) (xs ys : List (ℕ × ℕ)) → filter (λ e. not (e.0 == e.1)) xs ≡ ys → filter (λ e. not (e.0 == e.1)) (with_pair o p q xs) ≡ with_move o p q ys
moves_step (Some f) p q xs ys h = h
moves_step None p q xs ys h = by (p == q)
  where
    by : (b : Bool) → cond (not b) ((p, q) ∷ filter (λ e. not (e.0 == e.1)) xs) (filter (λ e. not (e.0 == e.1)) xs) ≡ cond b ys ((p, q) ∷ ys)
    by true = h
    by false = ap (λ (l : List (ℕ × ℕ)). (p, q) ∷ l) h

-- those that lead to another state
pub moves-pairs : (symbols : List Symbol) (states : List Text) (ds : List Arrow) → filter (λ e. not (e.0 == e.1)) (pairs_in symbols states ds) ≡ moves_in symbols states ds
moves-pairs symbols states [] = refl
moves-pairs symbols states (d ∷ ds) =
    moves_step (number_of symbols d.head) (place_in states d.head) (place_in states d.target) (pairs_in symbols states ds) (moves_in symbols states ds) (moves-pairs symbols states ds)

with_trans-append : (o : Option ℕ) (states : List Text) (d : Arrow) (xs ys : List Trans) → with_trans o states d (xs ++ ys) ≡ with_trans o states d xs ++ ys
with_trans-append None states d xs ys = refl
with_trans-append (Some f) states d xs ys = refl

pub transitions_in-append : (symbols : List Symbol) (states : List Text) (ds es : List Arrow) → transitions_in symbols states (ds ++ es) ≡ transitions_in symbols states ds ++ transitions_in symbols states es
transitions_in-append symbols states [] es = refl
transitions_in-append symbols states (d ∷ ds) es =
    ap (with_trans (number_of symbols d.head) states d) (transitions_in-append symbols states ds es)
    ∙ with_trans-append (number_of symbols d.head) states d (transitions_in symbols states ds) (transitions_in symbols states es)

with_pair-append : (o : Option ℕ) (p q : ℕ) (xs ys : List (ℕ × ℕ)) → with_pair o p q (xs ++ ys) ≡ with_pair o p q xs ++ ys
with_pair-append None p q xs ys = refl
with_pair-append (Some f) p q xs ys = refl

pub pairs_in-append : (symbols : List Symbol) (states : List Text) (ds es : List Arrow) → pairs_in symbols states (ds ++ es) ≡ pairs_in symbols states ds ++ pairs_in symbols states es
pairs_in-append symbols states [] es = refl
pairs_in-append symbols states (d ∷ ds) es =
    ap (with_pair (number_of symbols d.head) (place_in states d.head) (place_in states d.target)) (pairs_in-append symbols states ds es)
    ∙ with_pair-append (number_of symbols d.head) (place_in states d.head) (place_in states d.target) (pairs_in symbols states ds) (pairs_in symbols states es)

-- the automaton with these transitions besides
abbrev pub grown : List Symbol → List Arrow → Started → Started
grown symbols ds a = record a { trans = a.trans ++ transitions_in symbols a.states ds; eps = a.eps ++ pairs_in symbols a.states ds }

pub grown-none : (symbols : List Symbol) (a : Started) → a ≡ grown symbols [] a
grown-none symbols a = λ i. record a { trans = sym (append-nil a.trans) i; eps = sym (append-nil a.eps) i }

pub grown-append : (symbols : List Symbol) (ds es : List Arrow) (a : Started) → grown symbols es (grown symbols ds a) ≡ grown symbols (ds ++ es) a
grown-append symbols ds es a = λ i. record a {
  trans = (append_assoc a.trans (transitions_in symbols a.states ds) (transitions_in symbols a.states es) ∙ ap (λ l. a.trans ++ l) (sym (transitions_in-append symbols a.states ds es))) i;
  eps = (append_assoc a.eps (pairs_in symbols a.states ds) (pairs_in symbols a.states es) ∙ ap (λ l. a.eps ++ l) (sym (pairs_in-append symbols a.states ds es))) i;
}

by_head : (a : Started) (d : Arrow) → Option ℕ → Started
by_head a d o = record a { trans = a.trans ++ with_trans o a.states d []; eps = a.eps ++ with_pair o (place_in a.states d.head) (place_in a.states d.target) [] }

grown_symbol : (symbols : List Symbol) (a : Started) (d : Arrow) (f : ℕ) → number_of symbols d.head ≡ Some f → added (symbol_head f) (places a d.args) (place_in a.states d.target) a ≡ grown symbols (d ∷ []) a
unfolding by_head
grown_symbol symbols a d f e = (λ i. record (added (symbol_head f) (places a d.args) (place_in a.states d.target) a) { eps = sym (append-nil a.eps) i }) ∙ ap (by_head a d) (sym e)

grown_state : (symbols : List Symbol) (a : Started) (d : Arrow) → number_of symbols d.head ≡ None → added (state_head (place_in a.states d.head)) [] (place_in a.states d.target) a ≡ grown symbols (d ∷ []) a
unfolding by_head
grown_state symbols a d e = (λ i. record (added (state_head (place_in a.states d.head)) [] (place_in a.states d.target) a) { trans = sym (append-nil a.trans) i }) ∙ ap (by_head a d) (sym e)

-- ---- what a transition says

target_is : {symbols : List Symbol} {states : List Text} {d : Arrow} → IsTransition symbols states d → Contains states d.target
target_is (by_symbol e k args target) = target
target_is (by_state head none target) = target

args_are : {symbols : List Symbol} {states : List Text} {d : Arrow} → IsTransition symbols states d → All (Contains states) d.args
args_are (by_symbol e k args target) = args
args_are {states = states} (by_state head none target) = subst (All (Contains states)) (sym none) (All-nil (Contains states))

-- ---- one transition

-- the arguments of a transition with its arrow and its target
abbrev pub Arguments : Type 0
Arguments = Value (grammar.◌then◌ (grammar.one terminal.OpenParen) (grammar.◌then◌ (grammar.name role.TransitionArgument) (grammar.◌then◌ (grammar.many (grammar.◌then◌ (grammar.one terminal.Comma) (grammar.name role.TransitionArgument))) (grammar.one terminal.CloseParen))))

abbrev behind : Arguments → Token terminal.Arrow → Token (terminal.Named role.TransitionTarget) → List Label
behind args w t = labelled (grammar.arguments (grammar.name role.TransitionArgument)) (Some args) ++ (label w ∷ label t ∷ [])

module _ (a : Started) (short : All IsShort a.states) (d : Declared) (short_symbols : All IsShort (names_of d.symbols)) (apart : (t : Text) → Contains a.states t → number_of d.symbols t ≡ None) where
  abbrev Fine : Arrow → Type 0
  Fine t = IsTransition d.symbols a.states t

  symbol_short : (t : Text) (f : ℕ) → number_of d.symbols t ≡ Some f → IsShort t
  symbol_short t f e = All-contains IsShort (names_of d.symbols) t short_symbols (Contains-position (names_of d.symbols) t f e)

  means_symbol : (t : Text) (f k : ℕ) → number_of d.symbols t ≡ Some f → arity_of d.symbols f ≡ Some k → head_meaning d.symbols a.states t ≡ a_symbol f k
  means_symbol t f k e h =
      ap (λ o. or_else (as_symbol d.symbols o) (as_state (position (bytes_eq t) a.states))) e ∙ ap (λ o. a_symbol f (unwrap_or o 0)) h

  means_state : (t : Text) → number_of d.symbols t ≡ None → Contains a.states t → head_meaning d.symbols a.states t ≡ a_state (place_in a.states t)
  means_state t e h =
      ap (λ o. or_else (as_symbol d.symbols o) (as_state (position (bytes_eq t) a.states))) e ∙ ap as_state (position_found a.states t h)

  means_nothing : (t : Text) → number_of d.symbols t ≡ None → is_in a.states t ≡ false → head_meaning d.symbols a.states t ≡ unknown
  means_nothing t e h =
      ap (λ o. or_else (as_symbol d.symbols o) (as_state (position (bytes_eq t) a.states))) e ∙ ap as_state (position_absent a.states t h)

  -- as many arguments as the arity
  count_is : (t : Arrow) (f k : ℕ) → number_of d.symbols t.head ≡ Some f → arity_of d.symbols f ≡ Some k → Fine t → length t.args ≡ k
  count_is t f k e h (by_symbol {f = g} i j args target) =
      let same : g ≡ f = same_Some g f (sym i ∙ e) in
      same_Some (length t.args) k (sym j ∙ (ap (arity_of d.symbols) same ∙ h))
  count_is t f k e h (by_state head none target) = let no = apart t.head head in cc

  -- a state is the head
  none_is : (t : Arrow) → number_of d.symbols t.head ≡ None → Fine t → t.args ≡ []
  none_is t e (by_symbol i j args target) = cc
  none_is t e (by_state head none target) = none

  head_is : (t : Arrow) → number_of d.symbols t.head ≡ None → Fine t → Contains a.states t.head
  head_is t e (by_symbol i j args target) = cc
  head_is t e (by_state head none target) = head

  module _ (l : Last) (resting : IsResting l) where
    abbrev Result : Value grammar.transition → Type 0
    Result v = Path (put a (between l d)) (labelled grammar.transition v) (Fine (transition_of v)) (put (grown d.symbols (transition_of v ∷ []) a) (between leaf d))

    by_constant : (f : ℕ) (v : Value grammar.transition) → number_of d.symbols (text_of v.0) ≡ Some f → arity_of d.symbols f ≡ Some 0 → Result v
    by_constant f (h, (None, (w, t))) e k =
        let b = behind_head (symbol_head f) [] constant a d in
        let c = behind_head (symbol_head f) [] any a d in
        let ends = put (added (symbol_head f) [] (place_in a.states (text_of t)) a) (between leaf d) in
        path_also (put a (between l d)) ends _ _ (Contains a.states (text_of t)) _ target_is (λ x. by_symbol e k (All-nil (Contains a.states)) x)
        (λ x. ap (λ s. put s (between leaf d)) (grown_symbol d.symbols a (transition_of (h, (None, (w, t)))) f e))
        (path_before (put a (between l d)) b ends (label h ∷ []) _ _ (constant_head a l resting d h f (symbol_short (text_of h) f e) (means_symbol (text_of h) f 0 e k))
        (path_before b c ends (label w ∷ []) (label t ∷ []) _ (arrow_path (symbol_head f) [] constant tt a d w) (target_path (symbol_head f) [] a short d t)))
    by_constant f (h, (Some args, (w, t))) e k =
        let b = behind_head (symbol_head f) [] constant a d in
        let whole = transition_of (h, (Some args, (w, t))) in
        let no : Fine whole → ⊥ = λ x. omega (arith, count_is whole f 0 e k x) in
        path_also (put a (between l d)) b _ _ (Unit {0} × ⊥) _ (λ x. absurd (no x)) (λ x. absurd x.1) (λ x. absurd (no x))
        (path_on (put a (between l d)) b b (label h ∷ []) (behind args w t) _ _ (constant_head a l resting d h f (symbol_short (text_of h) f e) (means_symbol (text_of h) f 0 e k))
        (λ x. path_not b b (behind args w t) ⊥ (λ z. z) (λ z. paren_behind_constant f a d args.0 z.0)))

    by_function : (f n : ℕ) (v : Value grammar.transition) → number_of d.symbols (text_of v.0) ≡ Some f → arity_of d.symbols f ≡ Some (suc n) → Result v
    by_function f n (h, (None, (w, t))) e k =
        let b = inside f (suc n) [] function a d in
        let whole = transition_of (h, (None, (w, t))) in
        let no : Fine whole → ⊥ = λ x. omega (arith, count_is whole f (suc n) e k x) in
        path_also (put a (between l d)) b _ _ (Unit {0} × ⊥) _ (λ x. absurd (no x)) (λ x. absurd x.1) (λ x. absurd (no x))
        (path_on (put a (between l d)) b b (label h ∷ []) _ _ _ (function_head a l resting d h f n (symbol_short (text_of h) f e) (means_symbol (text_of h) f (suc n) e k))
        (λ x. path_not b b (label w ∷ label t ∷ []) ⊥ (λ z. z) (λ z. arrow_behind_function f (suc n) a d w z.0)))
    by_function f n (h, (Some args, (w, t))) e k =
        let whole = transition_of (h, (Some args, (w, t))) in
        let b = inside f (suc n) [] function a d in
        let c = behind_head (symbol_head f) (places a whole.args) any a d in
        let ends = put (added (symbol_head f) (places a whole.args) (place_in a.states (text_of t)) a) (between leaf d) in
        path_also (put a (between l d)) ends _ _ ((All (Contains a.states) whole.args × (length whole.args ≡ suc n)) × Contains a.states (text_of t)) _
        (λ x. ((args_are x, count_is whole f (suc n) e k x), target_is x))
        (λ x. by_symbol e (k ∙ ap Some (sym x.0.1)) x.0.0 x.1)
        (λ x. ap (λ s. put s (between leaf d)) (grown_symbol d.symbols a whole f e))
        (path_before (put a (between l d)) b ends (label h ∷ []) _ _ (function_head a l resting d h f n (symbol_short (text_of h) f e) (means_symbol (text_of h) f (suc n) e k))
        (path_on b c ends (labelled (grammar.arguments (grammar.name role.TransitionArgument)) (Some args)) (label w ∷ label t ∷ []) _ _ (arguments_path a short d f n args)
        (λ x. path_before c c ends (label w ∷ []) (label t ∷ []) _ (arrow_path (symbol_head f) (places a whole.args) any tt a d w) (target_path (symbol_head f) (places a whole.args) a short d t))))

    by_state_head : (v : Value grammar.transition) → number_of d.symbols (text_of v.0) ≡ None → Contains a.states (text_of v.0) → Result v
    by_state_head (h, (None, (w, t))) e k =
        let whole = transition_of (h, (None, (w, t))) in
        let q = place_in a.states (text_of h) in
        let b = behind_head (state_head q) [] leaf a d in
        let c = behind_head (state_head q) [] any a d in
        let ends = put (added (state_head q) [] (place_in a.states (text_of t)) a) (between leaf d) in
        path_also (put a (between l d)) ends _ _ (Contains a.states (text_of t)) _ target_is (λ x. by_state k refl x)
        (λ x. ap (λ s. put s (between leaf d)) (grown_state d.symbols a whole e))
        (path_before (put a (between l d)) b ends (label h ∷ []) _ _ (state_of_head a l resting d h q (All-contains IsShort a.states (text_of h) short k) (means_state (text_of h) e k))
        (path_before b c ends (label w ∷ []) (label t ∷ []) _ (arrow_path (state_head q) [] leaf tt a d w) (target_path (state_head q) [] a short d t)))
    by_state_head (h, (Some args, (w, t))) e k =
        let whole = transition_of (h, (Some args, (w, t))) in
        let q = place_in a.states (text_of h) in
        let b = behind_head (state_head q) [] leaf a d in
        let no : Fine whole → ⊥ = λ x. let z = none_is whole e x in cc in
        path_also (put a (between l d)) b _ _ (Unit {0} × ⊥) _ (λ x. absurd (no x)) (λ x. absurd x.1) (λ x. absurd (no x))
        (path_on (put a (between l d)) b b (label h ∷ []) (behind args w t) _ _ (state_of_head a l resting d h q (All-contains IsShort a.states (text_of h) short k) (means_state (text_of h) e k))
        (λ x. path_not b b (behind args w t) ⊥ (λ z. z) (λ z. paren_behind_state q a d args.0 z.0)))

    by_nothing : (v : Value grammar.transition) → number_of d.symbols (text_of v.0) ≡ None → is_in a.states (text_of v.0) ≡ false → Result v
    by_nothing v e k =
        let no : Fine (transition_of v) → ⊥ = λ x. true≢false (sym (is_in-from_Contains a.states (text_of v.0) (head_is (transition_of v) e x)) ∙ k) in
        path_not (put a (between l d)) _ _ _ no (λ z. no_head_here a l resting d v.0 (means_nothing (text_of v.0) e k) z.0)

    by_arity : (f k : ℕ) (v : Value grammar.transition) → number_of d.symbols (text_of v.0) ≡ Some f → arity_of d.symbols f ≡ Some k → Result v
    by_arity f zero v e h = by_constant f v e h
    by_arity f (suc n) v e h = by_function f n v e h

    by_name : (v : Value grammar.transition) (b : Bool) → number_of d.symbols (text_of v.0) ≡ None → is_in a.states (text_of v.0) ≡ b → Result v
    by_name v true e h = by_state_head v e (Contains-from_is_in a.states (text_of v.0) h)
    by_name v false e h = by_nothing v e h

    by_number : (v : Value grammar.transition) (o : Option ℕ) → number_of d.symbols (text_of v.0) ≡ o → Result v
    by_number v None e = by_name v (is_in a.states (text_of v.0)) e refl
    by_number v (Some f) e = by_arity f (unwrap_or (arity_of d.symbols f) 0) v e (arity_found d.symbols (text_of v.0) f e)

    pub transition_path : (v : Value grammar.transition) → Path (put a (between l d)) (labelled grammar.transition v) (IsTransition d.symbols a.states (transition_of v)) (put (grown d.symbols (transition_of v ∷ []) a) (between leaf d))
    transition_path v = by_number v (number_of d.symbols (text_of v.0)) refl
