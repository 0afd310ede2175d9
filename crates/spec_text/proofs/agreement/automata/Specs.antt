-- The first and the second automaton, and the automaton of a specification that is spelled by what is declared.
use Rattle.std.proofs.Common.{◌≡◌, ◌+◌, ◌<◌, ◌++◌, not, ◌==◌, if◌then◌else◌, List, [], ◌∷◌, length, map, filter, All, Contains, refl, sym, ap, subst, ◌∙◌}
use Rattle.std.specs.List.Sorted.{IsStrictlySortedBy}
use Rattle.std.specs.Ordering.{nat_cmp}
use Rattle.std.specs.declared.cmp.Ordering.{Ordering}
use Rattle.std.proofs.lemmas.List.Elements.{All-map}
use Rattle.ranked_terms.specs.Names.{Symbol, names_of}
use Rattle.ta_core.specs.TreeAutomaton.{TreeAutomaton, bare, trans_cmp, pair_cmp}
use Rattle.list_laws.proofs.Members.{here, none}
use Rattle.spec_text.specs.Declarations.{Declared, Started, Last, no_automaton, current, value_of}
use Rattle.spec_text.specs.Source.{SymbolDeclaration, AutomatonDeclaration}
use Rattle.spec_text.specs.Naming.{IsShort, signature_of, AreSymbols, AreNewNames, place_in, IsTransition, transitions_in, moves_in}
use Rattle.spec_text.specs.SpecText.{IsAscendingSet, IsAutomatonFrom}
use Rattle.spec_text.specs.Spelled.{IsAutomatonOf}
use Rattle.spec_text.proofs.agreement.names.States.{between}
use Rattle.spec_text.proofs.agreement.automata.States.{put}
use Rattle.spec_text.proofs.agreement.automata.Transitions.{pairs_in, moves-pairs}
use Rattle.spec_text.proofs.agreement.automata.Section.{IsAllowedAutomaton, started_by, next_automaton}

-- ---- the first and the second automaton

-- the first is the initial one
pub fresh_first : (d : Declared) → d.automata ≡ 0 → d.initial ≡ no_automaton → current (next_automaton d) ≡ no_automaton
fresh_first d e h = ap (λ n. if n + 1 == 2 then d.second else d.initial) e ∙ h

pub first_put : (a : Started) (l : Last) (d : Declared) → d.automata ≡ 0 → put a (between l (next_automaton d)) ≡ between l (record d { automata = 1; initial = a })
first_put a l d e = ap (λ n. between l (record d { automata = n + 1; initial = if n + 1 == 2 then d.initial else a; second = if n + 1 == 2 then a else d.second })) e

-- the other is the second one
pub fresh_second : (d : Declared) → d.automata ≡ 1 → d.second ≡ no_automaton → current (next_automaton d) ≡ no_automaton
fresh_second d e h = ap (λ n. if n + 1 == 2 then d.second else d.initial) e ∙ h

pub second_put : (a : Started) (l : Last) (d : Declared) → d.automata ≡ 1 → put a (between l (next_automaton d)) ≡ between l (record d { automata = 2; second = a })
second_put a l d e = ap (λ n. between l (record d { automata = n + 1; initial = if n + 1 == 2 then d.initial else a; second = if n + 1 == 2 then a else d.second })) e

-- the names of symbols that may be declared are short
pub symbols_short : (ds : List SymbolDeclaration) → AreSymbols ds → All IsShort (names_of (signature_of ds))
symbols_short ds h = All-map IsShort (λ s. s.0) (signature_of ds) (All-map (λ (s : Symbol). IsShort s.0) (λ d. (d.name, value_of d.arity)) ds h.names)

-- ---- the automaton that is declared, and the one that is spelled

-- the final states and the transitions are those of this declaration
pub record IsStartedBy (symbols : List Symbol) (a : AutomatonDeclaration) (s : Started) : Type 0 where
  pub finals : s.finals ≡ map (place_in a.states) a.finals
  pub trans : s.trans ≡ transitions_in symbols a.states a.transitions
  pub eps : s.eps ≡ pairs_in symbols a.states a.transitions

pub started_by-is : (symbols : List Symbol) (a : AutomatonDeclaration) → IsStartedBy symbols a (started_by symbols a)
started_by-is symbols a = record { finals = refl; trans = refl; eps = refl }

eps_is : (symbols : List Symbol) (a : AutomatonDeclaration) (s : Started) → IsStartedBy symbols a s → filter (λ e. not (e.0 == e.1)) s.eps ≡ moves_in symbols a.states a.transitions
eps_is symbols a s h = ap (filter (λ e. not (e.0 == e.1))) h.eps ∙ moves-pairs symbols a.states a.transitions

pub automaton_from : (symbols : List Symbol) (a : AutomatonDeclaration) (s : Started) (A : TreeAutomaton) → IsStartedBy symbols a s → All (Contains a.states) a.described → All (Contains a.states) a.finals → All (IsTransition symbols a.states) a.transitions → IsAutomatonOf (length a.states) s A → IsAutomatonFrom symbols a A
automaton_from symbols a s A h described finals transitions k = record {
  described = described;
  final_states = finals;
  transitions = transitions;
  states_are = k.states_are;
  next_is = k.next_is;
  finals_are = subst (IsAscendingSet nat_cmp A.finals) h.finals k.finals_are;
  trans_are = subst (IsAscendingSet trans_cmp A.trans) h.trans k.trans_are;
  eps_are = subst (IsAscendingSet pair_cmp A.eps) (eps_is symbols a s h) k.eps_are;
}

pub automaton_to : (symbols : List Symbol) (a : AutomatonDeclaration) (s : Started) (A : TreeAutomaton) → IsStartedBy symbols a s → IsAutomatonFrom symbols a A → IsAutomatonOf (length a.states) s A
automaton_to symbols a s A h k = record {
  states_are = k.states_are;
  next_is = k.next_is;
  finals_are = subst (IsAscendingSet nat_cmp A.finals) (sym h.finals) k.finals_are;
  trans_are = subst (IsAscendingSet trans_cmp A.trans) (sym h.trans) k.trans_are;
  eps_are = subst (IsAscendingSet pair_cmp A.eps) (sym (eps_is symbols a s h)) k.eps_are;
}

-- an automaton that may be declared spells what is declared
pub allowed_automaton : (d : Declared) (a : AutomatonDeclaration) (s : Started) (A : TreeAutomaton) → IsStartedBy d.symbols a s → IsAllowedAutomaton d a → IsAutomatonOf (length a.states) s A → IsAutomatonFrom d.symbols a A
allowed_automaton d a s A h k of = automaton_from d.symbols a s A h k.described k.final_states k.transitions of

-- and one that spells an automaton may be declared, where there is room and its title and its states are fine
pub spelled_automaton : (d : Declared) (a : AutomatonDeclaration) (A : TreeAutomaton) → d.automata < 2 → IsShort a.title → AreNewNames (names_of d.symbols ++ d.variables) 16384 a.states → IsAutomatonFrom d.symbols a A → IsAllowedAutomaton d a
spelled_automaton d a A room title states h = record { room = room; title = title; states = states; described = h.described; final_states = h.final_states; transitions = h.transitions }

-- ---- where no second automaton stands

empty_set : {X : Type 0} (cmp : X → X → Ordering) (xs : List X) → IsAscendingSet cmp xs [] → xs ≡ []
empty_set cmp [] h = refl
empty_set cmp (x ∷ xs) h = absurd (none x ((h.members x).0 (here x xs)))

set_of_none : {X : Type 0} (cmp : X → X → Ordering) → IsAscendingSet cmp [] []
unfolding IsStrictlySortedBy
set_of_none cmp = record { ascends = tt; members = λ x. (λ c. c, λ c. c) }

pub bare-none : (A : TreeAutomaton) → IsAutomatonOf 0 no_automaton A → A ≡ bare 0 []
bare-none A h = λ i. record {
  states = h.states_are i;
  next = h.next_is i;
  finals = empty_set nat_cmp A.finals h.finals_are i;
  trans = empty_set trans_cmp A.trans h.trans_are i;
  eps = empty_set pair_cmp A.eps h.eps_are i;
}

pub none-bare : (A : TreeAutomaton) → A ≡ bare 0 [] → IsAutomatonOf 0 no_automaton A
none-bare A e = subst (IsAutomatonOf 0 no_automaton) (sym e) (record {
  states_are = refl;
  next_is = refl;
  finals_are = set_of_none nat_cmp;
  trans_are = set_of_none trans_cmp;
  eps_are = set_of_none pair_cmp;
})
