-- A whole automaton: what the judge says of its tokens.
use Rattle.std.proofs.Common.{◌≡◌, ◌+◌, ◌<◌, false, ◌||◌, List, [], ◌∷◌, ◌++◌, map, None, Ok, All, Contains, refl, sym, ap, subst, ◌∙◌, append_assoc}
use Rattle.std.specs.Prelude.{flat_map}
use Rattle.std.specs.List.{IsDistinct}
use Rattle.std.specs.Str.{bytes_eq}
use Rattle.std.proofs.lemmas.Cmp.{nat_list_eq_equiv}
use Rattle.std.proofs.lemmas.List.Elements.{All-contains, All-from_recursion, Contains-append_right}
use Rattle.ranked_terms.specs.Names.{Symbol, names_of, number_of}
use Rattle.timbuk_grammar.specs.declared.terminal.Role.TheVariants as role
use Rattle.timbuk_grammar.specs.declared.terminal.Terminal.TheVariants as terminal
use Rattle.timbuk_grammar.specs.Grammar as grammar
use Rattle.timbuk_grammar.specs.Trees.{Token, Value}
use Rattle.spec_text.specs.Declarations.{Text, Declared, Started, Last, any, no_automaton, current, adds}
use Rattle.spec_text.specs.Source.{AutomatonDeclaration, automaton_of}
use Rattle.spec_text.specs.Naming.{IsShort, AreNewNames, place_in, IsTransition, transitions_in}
use Rattle.spec_text.specs.Rows.{is_in}
use Rattle.spec_text.specs.Reading.{End}
use Rattle.spec_text.proofs.agreement.tokens.Labels.{Label, label, labelled, judge}
use Rattle.spec_text.proofs.agreement.names.Rows.{IsResting, automaton_row, room_for_automaton}
use Rattle.spec_text.proofs.agreement.names.Texts.{AreNewNames-nil, position_absent}
use Rattle.spec_text.proofs.agreement.names.States.{between, between-at_rest}
use Rattle.spec_text.proofs.agreement.tokens.Paths.{Path, path_by, path_on, path_also, path_before, plain_path, path-fine, path-only}
use Rattle.spec_text.proofs.agreement.names.Heads.{title_path}
use Rattle.spec_text.proofs.agreement.automata.States.{put, put-current, put-at_rest, taken_by, with_states, states_path}
use Rattle.spec_text.proofs.agreement.automata.Names.{last_after, last_after-resting, described_path, with_finals, final_states_path}
use Rattle.spec_text.proofs.agreement.automata.Transitions.{pairs_in, grown}
use Rattle.spec_text.proofs.agreement.automata.Many.{transitions_path}

-- ---- names of states are no symbols

apart_lists : (xs zs : List Text) (t : Text) → IsDistinct bytes_eq (xs ++ zs) → Contains zs t → is_in xs t ≡ false
unfolding IsDistinct
apart_lists [] zs t d c = refl
apart_lists (x ∷ xs) zs t d c =
    let first : bytes_eq x t ≡ false = All-contains (λ y. bytes_eq x y ≡ false) (xs ++ zs) t (All-from_recursion (λ y. bytes_eq x y ≡ false) (xs ++ zs) d.0) (Contains-append_right xs zs t c) in
    λ i. (nat_list_eq_equiv.symm t x ∙ first) i || apart_lists xs zs t d.1 c i

pub no_symbol : (symbols : List Symbol) (variables states : List Text) → IsDistinct bytes_eq ((names_of symbols ++ variables) ++ states) → (t : Text) → Contains states t → number_of symbols t ≡ None
no_symbol symbols variables states d t c =
    position_absent (names_of symbols) t (apart_lists (names_of symbols) (variables ++ states) t (subst (IsDistinct bytes_eq) (append_assoc (names_of symbols) variables states) d) (Contains-append_right variables states t c))

-- ---- what is allowed

-- an automaton may be declared so behind these declarations
pub record IsAllowedAutomaton (d : Declared) (a : AutomatonDeclaration) : Type 0 where
  pub room : d.automata < 2
  pub title : IsShort a.title
  pub states : AreNewNames (names_of d.symbols ++ d.variables) 16384 a.states
  pub described : All (Contains a.states) a.described
  pub final_states : All (Contains a.states) a.finals
  pub transitions : All (IsTransition d.symbols a.states) a.transitions

-- what is then declared of it
abbrev pub started_by : List Symbol → AutomatonDeclaration → Started
started_by symbols a = record {
  states = a.states;
  finals = map (place_in a.states) a.finals;
  trans = transitions_in symbols a.states a.transitions;
  eps = pairs_in symbols a.states a.transitions;
}

-- one automaton more
abbrev pub next_automaton : Declared → Declared
next_automaton d = record d { automata = d.automata + 1 }

-- what its last token is
abbrev pub last_of : Value grammar.automaton → Last
last_of v = last_after v.1.1.1.1.1.1.1.1 any

-- ---- its tokens

module _ (d : Declared) (distinct : IsDistinct bytes_eq (names_of d.symbols ++ d.variables)) (short_symbols : All IsShort (names_of d.symbols)) (fresh : current (next_automaton d) ≡ no_automaton) where
  begins : (l : Last) → IsResting l → (w : Token terminal.Automaton) → Path (between l d) (label w ∷ []) (d.automata < 2) (put no_automaton (between any (next_automaton d)))
  unfolding adds
  begins l resting w = path_by terminal.Automaton w.lexeme (between l d) (put no_automaton (between any (next_automaton d))) (d.automata < 2)
      (automaton_row (between l d) w.lexeme (between-at_rest l d resting) w.matched)
      (room_for_automaton (between l d) w.lexeme)
      (λ h. sym (put-current (between any (next_automaton d))) ∙ ap (λ b. put b (between any (next_automaton d))) fresh)

  pub automaton_path : (l : Last) → IsResting l → (v : Value grammar.automaton) → Path (between l d) (labelled grammar.automaton v) (IsAllowedAutomaton d (automaton_of v)) (put (started_by d.symbols (automaton_of v)) (between (last_of v) (next_automaton d)))
  unfolding adds
  automaton_path l resting (word, (title, (states_word, (states, (descriptions, (finals, transitions)))))) =
      let a = automaton_of (word, (title, (states_word, (states, (descriptions, (finals, transitions)))))) in
      let e = next_automaton d in
      let start = put no_automaton (between any e) in
      let known = with_states a.states no_automaton in
      let final = with_finals a.finals known in
      let ends = put (grown d.symbols a.transitions final) (between (last_after transitions.1.1 any) e) in
      path_also (between l d) ends ends _ ((d.automata < 2) × (IsShort a.title × (AreNewNames (taken_by d) 16384 a.states × (All (Contains a.states) a.described × (All (Contains a.states) a.finals × All (IsTransition d.symbols a.states) a.transitions))))) _
      (λ k. (k.room, (k.title, (k.states, (k.described, (k.final_states, k.transitions))))))
      (λ k. record { room = k.0; title = k.1.0; states = k.1.1.0; described = k.1.1.1.0; final_states = k.1.1.1.1.0; transitions = k.1.1.1.1.1 })
      (λ k. refl)
      (path_on (between l d) start ends (label word ∷ []) _ _ _ (begins l resting word)
      (λ room. path_on start start ends (label title ∷ []) _ _ _ (title_path any tt (put no_automaton e) title)
      (λ short_title. path_before start start ends (label states_word ∷ []) _ _ (plain_path terminal.States states_word start start (put-at_rest no_automaton any e tt) refl refl refl)
      (path_on start (put known (between any e)) ends (flat_map (labelled (grammar.state role.State)) states) _ _ _ (states_path no_automaton e states (AreNewNames-nil (taken_by d) 16384 distinct))
      (λ new.
      let apart = no_symbol d.symbols d.variables a.states new.distinct in
      path_on (put known (between any e)) (put known (between any e)) ends (labelled (grammar.maybe grammar.description) descriptions) _ _ _ (described_path known new.short e descriptions)
      (λ described. path_on (put known (between any e)) (put final (between (last_after finals.1.1 any) e)) ends (labelled grammar.final_states finals) (labelled grammar.transitions transitions) _ _ (final_states_path known new.short e finals)
      (λ are_final. transitions_path e short_symbols final new.short apart (last_after finals.1.1 any) (last_after-resting finals.1.1 any tt) transitions)))))))

  -- ---- what the judge says

  module _ (end : End) (l : Last) (resting : IsResting l) (v : Value grammar.automaton) (rest : List Label) where
    pub fine_automaton : IsAllowedAutomaton d (automaton_of v) → judge end (between l d) (labelled grammar.automaton v ++ rest) ≡ judge end (put (started_by d.symbols (automaton_of v)) (between (last_of v) (next_automaton d))) rest
    fine_automaton h = path-fine end _ _ (labelled grammar.automaton v) rest _ (automaton_path l resting v) h

    pub only_automaton : (e : Declared) → judge end (between l d) (labelled grammar.automaton v ++ rest) ≡ Ok e → IsAllowedAutomaton d (automaton_of v)
    only_automaton e k = path-only end _ _ (labelled grammar.automaton v) rest _ e (automaton_path l resting v) k

pub last_of-resting : (v : Value grammar.automaton) → IsResting (last_of v)
last_of-resting v = last_after-resting v.1.1.1.1.1.1.1.1 any tt
