-- Names of states that are used: described states, final states, and those of transitions.
use Rattle.std.proofs.Common.{◌≡◌, ℕ, Bool, true, false, List, [], ◌∷◌, ◌++◌, map, position, Option, Some, None, All, Contains, refl, sym, ap, subst, ◌∙◌, append_assoc}
use Rattle.std.specs.Prelude.{flat_map}
use Rattle.std.specs.Str.{bytes_eq}
use Rattle.std.proofs.lemmas.Bool.{le-ltb}
use Rattle.std.proofs.lemmas.List.{append-nil}
use Rattle.std.proofs.lemmas.List.Elements.{All-nil, All-cons, All-head, All-tail, All-contains}
use Rattle.timbuk_lex.specs.declared.lexeme.Lexeme.{Lexeme}
use Rattle.timbuk_grammar.specs.declared.terminal.Role.{Role}
use Rattle.timbuk_grammar.specs.declared.terminal.Role.TheVariants as role
use Rattle.timbuk_grammar.specs.declared.terminal.Terminal.TheVariants as terminal
use Rattle.timbuk_grammar.specs.Grammar as grammar
use Rattle.timbuk_grammar.specs.Matching.{matches}
use Rattle.timbuk_grammar.specs.Trees.{Token, Value}
use Rattle.spec_text.specs.Declarations.{Text, Declared, Started, Last, any, leaf, current, a_state, as_state, meaning, named, adds}
use Rattle.spec_text.specs.Source.{text_of, described_in, finals_in}
use Rattle.spec_text.specs.Naming.{IsShort, place_in}
use Rattle.spec_text.specs.Rows.{or, wrong_arity, too_deep, one_too_many, passed, is_unknown, misnamed, row}
use Rattle.spec_text.proofs.agreement.tokens.Labels.{Label, label, labelled}
use Rattle.spec_text.proofs.agreement.tokens.Runs.{or-none, or_parts_none, when-false, when_none, row-none, row_parts}
use Rattle.spec_text.proofs.agreement.names.Rows.{IsResting, arity_at_rest, is_expected}
use Rattle.spec_text.proofs.agreement.names.Texts.{position_found, Contains-position}
use Rattle.spec_text.proofs.agreement.names.States.{between}
use Rattle.spec_text.proofs.agreement.tokens.Paths.{Path, path_nowhere, path_by, path_on, path_also, path_behind, path_before, plain_path}
use Rattle.spec_text.proofs.agreement.automata.States.{put, current-put, changed, put-at_rest}

-- ---- the row at the name of a state

-- a place in which a state of this automaton stands, and nothing else
abbrev pub is_state_place : Role → Bool
is_state_place role.DescribedState = true
is_state_place role.FinalState = true
is_state_place role.TransitionArgument = true
is_state_place role.TransitionTarget = true
is_state_place _ = false

no_state_limits : (o : Option ℕ) (d : Declared) → or (too_deep (as_state o) d) (or (one_too_many (as_state o) d) None) ≡ None
no_state_limits None d = refl
no_state_limits (Some q) d = refl

state_passed : (p : Role) (text : Text) (d : Declared) → is_state_place p ≡ true → IsShort text → passed (terminal.Named p) text d ≡ None
unfolding passed meaning
state_passed role.DescribedState text d e h = or-none _ _ (when-false _ _ (le-ltb _ _ h)) (no_state_limits (position (bytes_eq text) (current d).states) d)
state_passed role.FinalState text d e h = or-none _ _ (when-false _ _ (le-ltb _ _ h)) (no_state_limits (position (bytes_eq text) (current d).states) d)
state_passed role.TransitionArgument text d e h = or-none _ _ (when-false _ _ (le-ltb _ _ h)) (no_state_limits (position (bytes_eq text) (current d).states) d)
state_passed role.TransitionTarget text d e h = or-none _ _ (when-false _ _ (le-ltb _ _ h)) (no_state_limits (position (bytes_eq text) (current d).states) d)
state_passed _ text d e h = cc

-- what the name of a state means
pub state_meaning : (p : Role) (text : Text) (d : Declared) → is_state_place p ≡ true → Contains (current d).states text → meaning d p text ≡ a_state (place_in (current d).states text)
unfolding meaning
state_meaning role.DescribedState text d e h = ap as_state (position_found (current d).states text h)
state_meaning role.FinalState text d e h = ap as_state (position_found (current d).states text h)
state_meaning role.TransitionArgument text d e h = ap as_state (position_found (current d).states text h)
state_meaning role.TransitionTarget text d e h = ap as_state (position_found (current d).states text h)
state_meaning _ text d e h = cc

state_named : (p : Role) (text : Text) (d : Declared) → is_state_place p ≡ true → Contains (current d).states text → misnamed (terminal.Named p) text d ≡ None
unfolding misnamed
state_named role.DescribedState text d e h = or-none _ _ (when-false _ _ (ap is_unknown (state_meaning role.DescribedState text d e h))) refl
state_named role.FinalState text d e h = or-none _ _ (when-false _ _ (ap is_unknown (state_meaning role.FinalState text d e h))) refl
state_named role.TransitionArgument text d e h = or-none _ _ (when-false _ _ (ap is_unknown (state_meaning role.TransitionArgument text d e h))) refl
state_named role.TransitionTarget text d e h = or-none _ _ (when-false _ _ (ap is_unknown (state_meaning role.TransitionTarget text d e h))) refl
state_named _ text d e h = cc

known_state : (states : List Text) (text : Text) (o : Option ℕ) → position (bytes_eq text) states ≡ o → is_unknown (as_state o) ≡ false → Contains states text
known_state states text None e h = cc
known_state states text (Some q) e h = Contains-position states text q e

is_state : (p : Role) (text : Text) (d : Declared) → is_state_place p ≡ true → misnamed (terminal.Named p) text d ≡ None → Contains (current d).states text
unfolding misnamed meaning
is_state role.DescribedState text d e h = known_state _ text _ refl (when_none _ _ (or_parts_none _ _ h).0)
is_state role.FinalState text d e h = known_state _ text _ refl (when_none _ _ (or_parts_none _ _ h).0)
is_state role.TransitionArgument text d e h = known_state _ text _ refl (when_none _ _ (or_parts_none _ _ h).0)
is_state role.TransitionTarget text d e h = known_state _ text _ refl (when_none _ _ (or_parts_none _ _ h).0)
is_state _ text d e h = cc

-- no row fits at the name of a state
pub used_state_row : (p : Role) (d : Declared) (x : Lexeme) → is_state_place p ≡ true → matches (terminal.Named p) x ≡ true → wrong_arity d x ≡ false → IsShort x.text → Contains (current d).states x.text → row (Some (terminal.Named p)) d x ≡ None
used_state_row p d x e m a s h = row-none (terminal.Named p) d x m a (is_expected (terminal.Named p) d x refl refl m) (state_passed p x.text d e s) (state_named p x.text d e h)

-- and where none fits, it is one
pub used_state : (p : Role) (d : Declared) (x : Lexeme) → is_state_place p ≡ true → row (Some (terminal.Named p)) d x ≡ None → Contains (current d).states x.text
used_state p d x e h = is_state p x.text d e (row_parts (terminal.Named p) d x h).names

-- what the machine does at the name of a state
pub adds_state : (p : Role) (text : Text) (d : Declared) → is_state_place p ≡ true → adds (terminal.Named p) text d ≡ named p (meaning d p text) d
unfolding adds
adds_state role.DescribedState text d e = refl
adds_state role.FinalState text d e = refl
adds_state role.TransitionArgument text d e = refl
adds_state role.TransitionTarget text d e = refl
adds_state _ text d e = cc

by_states : (p : Role) (d e : Declared) (v : Token (terminal.Named p)) → is_state_place p ≡ true → wrong_arity d v.lexeme ≡ false → All IsShort (current d).states → named p (a_state (place_in (current d).states (text_of v))) d ≡ e → Path d (label v ∷ []) (Contains (current d).states (text_of v)) e
by_states p d e v k a short same = path_by (terminal.Named p) v.lexeme d e (Contains (current d).states (text_of v))
    (λ h. used_state_row p d v.lexeme k v.matched a (All-contains IsShort (current d).states (text_of v) short h) h)
    (λ h. used_state p d v.lexeme k h)
    (λ h. adds_state p (text_of v) d k ∙ (ap (λ m. named p m d) (state_meaning p (text_of v) d k h) ∙ same))

-- the name of a state of this automaton
pub use_path : (p : Role) (a : Started) (d e : Declared) (v : Token (terminal.Named p)) → is_state_place p ≡ true → wrong_arity d v.lexeme ≡ false → All IsShort a.states → current d ≡ a → named p (a_state (place_in a.states (text_of v))) d ≡ e → Path d (label v ∷ []) (Contains a.states (text_of v)) e
use_path p a d e v k w short is same =
    subst (λ (b : Started). All IsShort b.states → named p (a_state (place_in b.states (text_of v))) d ≡ e → Path d (label v ∷ []) (Contains b.states (text_of v)) e) is
    (by_states p d e v k w) short same

-- ---- what is true of each of many parts

pub all_first : {X : Type 0} (P : X → Type 0) (x : X) (xs : List X) → All P (x ∷ xs) → P x × All P xs
all_first P x xs h = (All-head P x xs h, All-tail P x xs h)

pub all_more : {X : Type 0} (P : X → Type 0) (x : X) (xs : List X) → P x × All P xs → All P (x ∷ xs)
all_more P x xs h = All-cons P x xs h.0 h.1

module _ (a : Started) (short : All IsShort a.states) where
  -- ---- descriptions

  abbrev Description : Type 0
  Description = Value (grammar.◌then◌ (grammar.name role.DescribedState) (grammar.◌then◌ (grammar.one terminal.Colon) (grammar.one terminal.Quoted)))

  abbrev description_labels : List Description → List Label
  description_labels vs = flat_map (labelled (grammar.◌then◌ (grammar.name role.DescribedState) (grammar.◌then◌ (grammar.one terminal.Colon) (grammar.one terminal.Quoted)))) vs

  one_description : (d : Declared) (v : Description) → Path (put a (between any d)) (label v.0 ∷ label v.1.0 ∷ label v.1.1 ∷ []) (Contains a.states (text_of v.0)) (put a (between any d))
  unfolding adds
  one_description d v =
      let e = put a (between leaf d) in
      let f = put a (between any d) in
      path_behind f e f (label v.0 ∷ []) _ _
      (use_path role.DescribedState a f e v.0 refl (arity_at_rest f v.0.lexeme (put-at_rest a any d tt)) short (current-put a (between any d)) refl)
      (path_behind e f f (label v.1.0 ∷ []) (label v.1.1 ∷ []) _ (plain_path terminal.Colon v.1.0 e f (put-at_rest a leaf d tt) refl refl refl) (plain_path terminal.Quoted v.1.1 f f (put-at_rest a any d tt) refl refl refl))

  descriptions_path : (d : Declared) (vs : List Description) → Path (put a (between any d)) (description_labels vs) (All (Contains a.states) (map (λ v. text_of v.0) vs)) (put a (between any d))
  descriptions_path d [] = path_also _ _ _ [] (Unit {0}) _ (λ k. tt) (λ k. All-nil (Contains a.states)) (λ k. refl) (path_nowhere (put a (between any d)))
  descriptions_path d (v ∷ vs) =
      let f = put a (between any d) in
      path_also f f f _ _ _ (all_first (Contains a.states) (text_of v.0) _) (all_more (Contains a.states) (text_of v.0) _) (λ k. refl)
      (path_on f f f (label v.0 ∷ label v.1.0 ∷ label v.1.1 ∷ []) (description_labels vs) _ _ (one_description d v) (λ k. descriptions_path d vs))

  pub described_path : (d : Declared) (o : Option (Value grammar.description)) → Path (put a (between any d)) (labelled (grammar.maybe grammar.description) o) (All (Contains a.states) (described_in o)) (put a (between any d))
  unfolding adds
  described_path d None = path_also _ _ _ [] (Unit {0}) _ (λ k. tt) (λ k. All-nil (Contains a.states)) (λ k. refl) (path_nowhere (put a (between any d)))
  described_path d (Some v) =
      let f = put a (between any d) in
      path_before f f f (label v.0 ∷ []) _ _ (plain_path terminal.Description v.0 f f (put-at_rest a any d tt) refl refl refl) (descriptions_path d v.1)

-- ---- final states

-- what the last token is behind so many names
abbrev pub last_after : {X : Type 0} → List X → Last → Last
last_after [] l = l
last_after (x ∷ xs) l = last_after xs leaf

pub last_after-resting : {X : Type 0} (xs : List X) (l : Last) → IsResting l → IsResting (last_after xs l)
last_after-resting [] l h = h
last_after-resting (x ∷ xs) l h = last_after-resting xs leaf tt

abbrev with_final : ℕ → Started → Started
with_final q a = record a { finals = a.finals ++ q ∷ [] }

one_final : (a : Started) (short : All IsShort a.states) (l : Last) (resting : IsResting l) (d : Declared) (v : Token (terminal.Named role.FinalState)) → Path (put a (between l d)) (label v ∷ []) (Contains a.states (text_of v)) (put (with_final (place_in a.states (text_of v)) a) (between leaf d))
one_final a short l resting d v =
    use_path role.FinalState a (put a (between l d)) (put (with_final (place_in a.states (text_of v)) a) (between leaf d)) v refl (arity_at_rest (put a (between l d)) v.lexeme (put-at_rest a l d resting)) short (current-put a (between l d))
    (ap (λ (w : Declared). record w { last = leaf }) (changed (with_final (place_in a.states (text_of v))) a (between l d)))

abbrev pub with_finals : List Text → Started → Started
with_finals names a = record a { finals = a.finals ++ map (place_in a.states) names }

finals_path : (a : Started) (short : All IsShort a.states) (l : Last) (resting : IsResting l) (d : Declared) (vs : List (Token (terminal.Named role.FinalState))) → Path (put a (between l d)) (flat_map (labelled (grammar.name role.FinalState)) vs) (All (Contains a.states) (map text_of vs)) (put (with_finals (map text_of vs) a) (between (last_after vs l) d))
finals_path a short l resting d [] = path_also _ _ _ [] (Unit {0}) _ (λ k. tt) (λ k. All-nil (Contains a.states)) (λ k. ap (λ s. put (record a { finals = s }) (between l d)) (sym (append-nil a.finals))) (path_nowhere (put a (between l d)))
finals_path a short l resting d (v ∷ vs) =
    path_also _ _ _ _ _ _ (all_first (Contains a.states) (text_of v) _) (all_more (Contains a.states) (text_of v) _)
    (λ k. ap (λ s. put (record a { finals = s }) (between (last_after vs leaf) d)) (append_assoc a.finals (place_in a.states (text_of v) ∷ []) (map (place_in a.states) (map text_of vs))))
    (path_on _ _ _ (label v ∷ []) (flat_map (labelled (grammar.name role.FinalState)) vs) _ _ (one_final a short l resting d v) (λ k. finals_path (with_final (place_in a.states (text_of v)) a) short leaf tt d vs))

pub final_states_path : (a : Started) (short : All IsShort a.states) (d : Declared) (v : Value grammar.final_states) → Path (put a (between any d)) (labelled grammar.final_states v) (All (Contains a.states) (finals_in v)) (put (with_finals (finals_in v) a) (between (last_after v.1.1 any) d))
unfolding adds
final_states_path a short d v =
    let f = put a (between any d) in
    path_before f f _ (label v.0 ∷ []) _ _ (plain_path terminal.Final v.0 f f (put-at_rest a any d tt) refl refl refl)
    (path_before f f _ (label v.1.0 ∷ []) _ _ (plain_path terminal.States v.1.0 f f (put-at_rest a any d tt) refl refl refl)
    (finals_path a short any tt d v.1.1))
