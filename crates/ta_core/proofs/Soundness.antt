-- An automaton stays sound with one more state, and without its epsilon transitions.
use Rattle.std.proofs.Common.{◌≡◌, ℕ, ◌+◌, ◌<◌, List, [], ◌∷◌, ◌++◌, sym, subst, arith}
use Rattle.std.specs.List.{Contains}
use Rattle.std.proofs.lemmas.List.Elements.{All-weaker, All-push, Contains-append_left}
use Rattle.list_laws.proofs.Members.{all_from_members, none}
use Rattle.ta_core.specs.TreeAutomaton.{TreeAutomaton, IsSound, IsTransOf, IsEpsOf}
use Rattle.ta_core.specs.declared.trans.Trans.{Trans}

-- one more state
pub sound_more : (A : TreeAutomaton) → IsSound A → IsSound (record A { states = A.states ++ A.next ∷ []; next = A.next + 1 })
sound_more A s =
    let states : List ℕ = A.states ++ A.next ∷ [] in
    let more : (q : ℕ) → Contains A.states q → Contains states q = λ q h. Contains-append_left A.states (A.next ∷ []) q h in
    record {
      below = All-push (λ q. q < A.next + 1) A.states A.next (All-weaker (λ q. q < A.next) (λ q. q < A.next + 1) (λ q h. omega arith) A.states s.below) (omega arith);
      finals = All-weaker (Contains A.states) (Contains states) more A.finals s.finals;
      trans = All-weaker (IsTransOf A.states) (IsTransOf states) (λ t h. record { args = All-weaker (Contains A.states) (Contains states) more t.args h.args; to = more t.to h.to }) A.trans s.trans;
      eps = All-weaker (IsEpsOf A.states) (IsEpsOf states) (λ e h. record { from = more e.0 h.from; to = more e.1 h.to; moves = h.moves }) A.eps s.eps;
    }

-- without epsilon transitions
pub sound_without : (A : TreeAutomaton) → IsSound A → (states finals : List ℕ) (trans : List Trans) (eps : List (ℕ × ℕ)) → states ≡ A.states → finals ≡ A.finals → trans ≡ A.trans → eps ≡ [] →
    IsSound (record { states = states; next = A.next; finals = finals; trans = trans; eps = eps })
sound_without A s states finals trans eps a b c d =
    subst IsSound (λ i. record { states = sym a i; next = A.next; finals = sym b i; trans = sym c i; eps = sym d i })
    (record { below = s.below; finals = s.finals; trans = s.trans; eps = all_from_members (IsEpsOf A.states) [] (λ e i. absurd (none e i)) })
