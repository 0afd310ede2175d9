-- The state inside an automaton, and the names of its states.
use Rattle.std.proofs.Common.{◌≡◌, ◌↔◌, Bool, true, false, ◌==◌, cond, if◌then◌else◌, List, [], ◌∷◌, ◌++◌, length, map, Some, None, refl, sym, ap, subst, ◌∙◌, append_assoc}
use Rattle.std.specs.Prelude.{flat_map}
use Rattle.std.proofs.lemmas.List.{append-nil}
use Rattle.ranked_terms.specs.Names.{names_of}
use Rattle.timbuk_grammar.specs.declared.terminal.Role.TheVariants as role
use Rattle.timbuk_grammar.specs.declared.terminal.Terminal.TheVariants as terminal
use Rattle.timbuk_grammar.specs.Grammar as grammar
use Rattle.timbuk_grammar.specs.Trees.{Token, Value}
use Rattle.spec_text.specs.Declarations.{Text, Declared, Started, Last, any, current, with_current, adds}
use Rattle.spec_text.specs.Source.{text_of, state_of}
use Rattle.spec_text.specs.Naming.{AreNewNames}
use Rattle.spec_text.proofs.agreement.tokens.Labels.{label, labelled}
use Rattle.spec_text.proofs.agreement.names.Rows.{IsResting, IsAtRest, IsNew, state_row, new_state}
use Rattle.spec_text.proofs.agreement.names.Texts.{IsNew-middle, AreNewNames-push}
use Rattle.spec_text.proofs.agreement.names.States.{between}
use Rattle.spec_text.proofs.agreement.tokens.Paths.{Path, path_nowhere, path_by, path_on, path_also, path_behind, plain_path}

-- ---- the automaton that is declared last

-- with this as the automaton that is declared last
abbrev pub put : Started → Declared → Declared
put a d = record d { initial = if d.automata == 2 then d.initial else a; second = if d.automata == 2 then a else d.second }

pub current-put : (a : Started) (d : Declared) → current (put a d) ≡ a
current-put a d = by (d.automata == 2)
  where
    by : (b : Bool) → cond b (cond b a d.second) (cond b d.initial a) ≡ a
    by true = refl
    by false = refl

pub put-current : (d : Declared) → put (current d) d ≡ d
put-current d = by (d.automata == 2)
  where
    by : (b : Bool) → record d { initial = cond b d.initial (cond b d.second d.initial); second = cond b (cond b d.second d.initial) d.second } ≡ d
    by true = refl
    by false = refl

-- what the machine does
pub with_current-put : (a b : Started) (d : Declared) → with_current b (put a d) ≡ put b d
with_current-put a b d = by (d.automata == 2)
  where
    by : (c : Bool) → cond c (record d { initial = cond c d.initial a; second = b }) (record d { initial = b; second = cond c a d.second }) ≡ record d { initial = cond c d.initial b; second = cond c b d.second }
    by true = refl
    by false = refl

-- a change of the automaton that is declared last
pub changed : (f : Started → Started) (a : Started) (d : Declared) → with_current (f (current (put a d))) (put a d) ≡ put (f a) d
changed f a d = ap (λ b. with_current (f b) (put a d)) (current-put a d) ∙ with_current-put a (f a) d

pub put-at_rest : (a : Started) (l : Last) (d : Declared) → IsResting l → IsAtRest (put a (between l d))
put-at_rest a l d h = record { applications = refl; last = h }

-- ---- one state

abbrev with_state : Text → Started → Started
with_state name a = record a { states = a.states ++ name ∷ [] }

-- the names beside which a state's is new
abbrev pub taken_by : Declared → List Text
taken_by d = names_of d.symbols ++ d.variables

-- the same at the state of the machine
new_there : (a : Started) (d : Declared) (l : Last) (name : Text) → IsNew (taken_by d ++ a.states) (length a.states) 16384 name ↔ IsNew (names_of d.symbols ++ (d.variables ++ (current (put a (between l d))).states)) (length (current (put a (between l d))).states) 16384 name
new_there a d l name =
    let s = append_assoc (names_of d.symbols) d.variables a.states in
    let e = current-put a (between l d) in (
      λ h. subst (λ (b : Started). IsNew (names_of d.symbols ++ (d.variables ++ b.states)) (length b.states) 16384 name) (sym e) (subst (λ t. IsNew t (length a.states) 16384 name) s h),
      λ h. subst (λ t. IsNew t (length a.states) 16384 name) (sym s) (subst (λ (b : Started). IsNew (names_of d.symbols ++ (d.variables ++ b.states)) (length b.states) 16384 name) e h),
    )

one_state : (a : Started) (d : Declared) (v : Token (terminal.Named role.State)) → Path (put a (between any d)) (label v ∷ []) (IsNew (taken_by d ++ a.states) (length a.states) 16384 (text_of v)) (put (with_state (text_of v) a) (between any d))
unfolding adds
one_state a d v = path_by (terminal.Named role.State) v.lexeme (put a (between any d)) (put (with_state (text_of v) a) (between any d)) _
    (λ h. state_row (put a (between any d)) v.lexeme (put-at_rest a any d tt) v.matched ((new_there a d any (text_of v)).0 h))
    (λ h. (new_there a d any (text_of v)).1 (new_state (put a (between any d)) v.lexeme h))
    (λ h. ap (λ (w : Declared). record w { last = any }) (changed (with_state (text_of v)) a (between any d)))

with_zero : (d : Declared) (o : Value (grammar.maybe (grammar.◌then◌ (grammar.one terminal.Colon) (grammar.one terminal.Zero)))) → IsAtRest d → record d { last = any } ≡ d → Path d (labelled (grammar.maybe (grammar.◌then◌ (grammar.one terminal.Colon) (grammar.one terminal.Zero))) o) (Unit {0}) d
unfolding adds
with_zero d None rest same = path_nowhere d
with_zero d (Some v) rest same =
    path_behind d d d (label v.0 ∷ []) (label v.1 ∷ []) (Unit {0}) (plain_path terminal.Colon v.0 d d rest refl refl same) (plain_path terminal.Zero v.1 d d rest refl refl same)

state_path : (a : Started) (d : Declared) (v : Value (grammar.state role.State)) → Path (put a (between any d)) (labelled (grammar.state role.State) v) (IsNew (taken_by d ++ a.states) (length a.states) 16384 (state_of v)) (put (with_state (state_of v) a) (between any d))
state_path a d v =
    let e = put (with_state (state_of v) a) (between any d) in
    path_behind (put a (between any d)) e e (label v.0 ∷ []) _ _ (one_state a d v.0) (with_zero e v.1 (put-at_rest (with_state (state_of v) a) any d tt) refl)

-- ---- the states of an automaton

abbrev pub with_states : List Text → Started → Started
with_states names a = record a { states = a.states ++ names }

pub states_path : (a : Started) (d : Declared) (vs : List (Value (grammar.state role.State))) → AreNewNames (taken_by d) 16384 a.states → Path (put a (between any d)) (flat_map (labelled (grammar.state role.State)) vs) (AreNewNames (taken_by d) 16384 (a.states ++ map state_of vs)) (put (with_states (map state_of vs) a) (between any d))
states_path a d [] h = path_also _ _ _ [] (Unit {0}) _ (λ k. tt) (λ k. subst (AreNewNames (taken_by d) 16384) (sym (append-nil a.states)) h) (λ k. ap (λ s. put (record a { states = s }) (between any d)) (sym (append-nil a.states))) (path_nowhere (put a (between any d)))
states_path a d (v ∷ vs) h =
    let s = append_assoc a.states (state_of v ∷ []) (map state_of vs) in
    path_also _ _ _ _ (IsNew (taken_by d ++ a.states) (length a.states) 16384 (state_of v) × AreNewNames (taken_by d) 16384 ((a.states ++ state_of v ∷ []) ++ map state_of vs)) _
    (λ k. (IsNew-middle (taken_by d) 16384 a.states (map state_of vs) (state_of v) k, subst (AreNewNames (taken_by d) 16384) (sym s) k))
    (λ k. subst (AreNewNames (taken_by d) 16384) s k.1)
    (λ k. ap (λ t. put (record a { states = t }) (between any d)) s)
    (path_on _ _ _ (labelled (grammar.state role.State) v) (flat_map (labelled (grammar.state role.State)) vs) _ _ (state_path a d v)
    (λ new. states_path (with_state (state_of v) a) d vs (AreNewNames-push (taken_by d) 16384 a.states (state_of v) h new)))
