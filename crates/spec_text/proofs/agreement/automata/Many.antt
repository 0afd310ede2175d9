-- The transitions of an automaton, those under `Prior` among them: what the judge says of their tokens.
use Rattle.std.proofs.Common.{◌≡◌, List, [], ◌∷◌, map, Some, None, All, Contains, refl, ap}
use Rattle.std.specs.Prelude.{flat_map}
use Rattle.std.proofs.lemmas.List.Elements.{All-nil, All-append}
use Rattle.ranked_terms.specs.Names.{names_of, number_of}
use Rattle.timbuk_grammar.specs.declared.terminal.Terminal.TheVariants as terminal
use Rattle.timbuk_grammar.specs.Grammar as grammar
use Rattle.timbuk_grammar.specs.Trees.{Token, Value}
use Rattle.spec_text.specs.Declarations.{Text, Declared, Started, Last, any, leaf, adds}
use Rattle.spec_text.specs.Source.{transition_of, transitions_in}
use Rattle.spec_text.specs.Naming.{IsShort, IsTransition}
use Rattle.spec_text.proofs.agreement.tokens.Labels.{label, labelled}
use Rattle.spec_text.proofs.agreement.names.Rows.{IsResting}
use Rattle.spec_text.proofs.agreement.names.Texts.{all_left}
use Rattle.spec_text.proofs.agreement.names.States.{between}
use Rattle.spec_text.proofs.agreement.tokens.Paths.{Path, path_nowhere, path_on, path_also, path_before, plain_path}
use Rattle.spec_text.proofs.agreement.automata.States.{put, put-at_rest}
use Rattle.spec_text.proofs.agreement.automata.Names.{all_first, all_more, last_after, last_after-resting}
use Rattle.spec_text.proofs.agreement.automata.Transitions.{grown, grown-none, grown-append, transition_path}

module _ (d : Declared) (short_symbols : All IsShort (names_of d.symbols)) where
  pub many_path : (a : Started) → All IsShort a.states → ((t : Text) → Contains a.states t → number_of d.symbols t ≡ None) → (l : Last) → IsResting l → (vs : List (Value grammar.transition)) → Path (put a (between l d)) (flat_map (labelled grammar.transition) vs) (All (IsTransition d.symbols a.states) (map transition_of vs)) (put (grown d.symbols (map transition_of vs) a) (between (last_after vs l) d))
  many_path a short apart l resting [] = path_also _ _ _ [] (Unit {0}) _ (λ k. tt) (λ k. All-nil (IsTransition d.symbols a.states)) (λ k. ap (λ b. put b (between l d)) (grown-none d.symbols a)) (path_nowhere (put a (between l d)))
  many_path a short apart l resting (v ∷ vs) =
      let t = transition_of v in
      let ts = map transition_of vs in
      let middle = put (grown d.symbols (t ∷ []) a) (between leaf d) in
      let ends = put (grown d.symbols ts (grown d.symbols (t ∷ []) a)) (between (last_after vs leaf) d) in
      path_also (put a (between l d)) ends _ _ _ _ (all_first (IsTransition d.symbols a.states) t ts) (all_more (IsTransition d.symbols a.states) t ts)
      (λ k. ap (λ b. put b (between (last_after vs leaf) d)) (grown-append d.symbols (t ∷ []) ts a))
      (path_on (put a (between l d)) middle ends (labelled grammar.transition v) (flat_map (labelled grammar.transition) vs) _ _ (transition_path a short d short_symbols apart l resting v)
      (λ k. many_path (grown d.symbols (t ∷ []) a) short apart leaf tt vs))

  -- the word `Transitions`, and the transitions behind it
  module _ (a : Started) (short : All IsShort a.states) (apart : (t : Text) → Contains a.states t → number_of d.symbols t ≡ None) (l : Last) (resting : IsResting l) where
    last_part : (w : Token terminal.Transitions) (vs : List (Value grammar.transition)) → Path (put a (between l d)) (label w ∷ flat_map (labelled grammar.transition) vs) (All (IsTransition d.symbols a.states) (map transition_of vs)) (put (grown d.symbols (map transition_of vs) a) (between (last_after vs any) d))
    unfolding adds
    last_part w vs =
        path_before (put a (between l d)) (put a (between any d)) (put (grown d.symbols (map transition_of vs) a) (between (last_after vs any) d)) (label w ∷ []) (flat_map (labelled grammar.transition) vs) _
        (plain_path terminal.Transitions w (put a (between l d)) (put a (between any d)) (put-at_rest a l d resting) refl refl refl)
        (many_path a short apart any tt vs)

    first_part : (w : Token terminal.Prior) (vs : List (Value grammar.transition)) → Path (put a (between l d)) (label w ∷ flat_map (labelled grammar.transition) vs) (All (IsTransition d.symbols a.states) (map transition_of vs)) (put (grown d.symbols (map transition_of vs) a) (between (last_after vs any) d))
    unfolding adds
    first_part w vs =
        path_before (put a (between l d)) (put a (between any d)) (put (grown d.symbols (map transition_of vs) a) (between (last_after vs any) d)) (label w ∷ []) (flat_map (labelled grammar.transition) vs) _
        (plain_path terminal.Prior w (put a (between l d)) (put a (between any d)) (put-at_rest a l d resting) refl refl refl)
        (many_path a short apart any tt vs)

  pub transitions_path : (a : Started) → All IsShort a.states → ((t : Text) → Contains a.states t → number_of d.symbols t ≡ None) → (l : Last) → IsResting l → (v : Value grammar.transitions) → Path (put a (between l d)) (labelled grammar.transitions v) (All (IsTransition d.symbols a.states) (transitions_in v)) (put (grown d.symbols (transitions_in v) a) (between (last_after v.1.1 any) d))
  transitions_path a short apart l resting (None, (w, vs)) = last_part a short apart l resting w vs
  transitions_path a short apart l resting (Some p, (w, vs)) =
      let ds = map transition_of p.1 in
      let es = map transition_of vs in
      let b = grown d.symbols ds a in
      let middle = put b (between (last_after p.1 any) d) in
      let ends = put (grown d.symbols es b) (between (last_after vs any) d) in
      path_also (put a (between l d)) ends _ _ _ _ (all_left (IsTransition d.symbols a.states) ds es) (λ k. All-append (IsTransition d.symbols a.states) ds es k.0 k.1)
      (λ k. ap (λ c. put c (between (last_after vs any) d)) (grown-append d.symbols ds es a))
      (path_on (put a (between l d)) middle ends (label p.0 ∷ flat_map (labelled grammar.transition) p.1) (label w ∷ flat_map (labelled grammar.transition) vs) _ _ (first_part a short apart l resting p.0 p.1)
      (λ k. last_part b short apart (last_after p.1 any) (last_after-resting p.1 any tt) w vs))
