-- The automata of a specification, of the states and transitions that were read.
use Rattle.std.proofs.Common.{◌≡◌, ◌≢◌, ℕ, ◌+◌, ◌<◌, ◌==◌, Bool, true, false, not, ◌&&◌, nat_lt, List, [], ◌∷◌, ◌++◌, All, Contains, sym, ap, subst, ◌∙◌, refl, inr, ⊎_elim, Result, Ok, Err, OnOk, arith}
use Rattle.std.specs.declared.cmp.Ordering.{Ordering}
use Rattle.std.specs.List.{range_with_len, filter}
use Rattle.std.specs.List.Sorted.{IsStrictlySortedBy}
use Rattle.std.specs.Ordering.{nat_cmp}
use Rattle.std.proofs.lemmas.Bool.Decides.{nat_tests}
use Rattle.std.proofs.lemmas.List.{map-id}
use Rattle.std.proofs.lemmas.List.Elements.{All-weaker, All-filter, filter_passes}
use Rattle.std.proofs.lemmas.List.FromFn.{length-range_with_len, get_or-range_with_len, map-range_with_len_more}
use Rattle.std.proofs.lemmas.List.Sums.{AllPass-from_list_all}
use Rattle.std.proofs.lemmas.Map.Keys.{sorted_from_strictly_increasing}
use Rattle.list_laws.specs.Lists.{IsUnion}
use Rattle.ta_core.specs.TreeAutomaton.{TreeAutomaton, IsTransOf, IsEpsOf, bare, trans_cmp, pair_cmp}
use Rattle.ta_core.specs.declared.trans.Trans.{Trans}
use Rattle.spec_text.specs.Declarations.{Started}
use Rattle.timbuk_reader.specs.Kept.{states_are_below, trans_are_below, eps_are_below}
use Rattle.spec_text.specs.SpecText.{IsAscendingSet}
use Rattle.spec_text.specs.Spelled.{IsAutomatonOf}

-- ---- the numbers of the states

pub numbers_more : (n : ℕ) → range_with_len 0 (n + 1) ≡ range_with_len 0 n ++ n ∷ []
numbers_more n = sym (map-id (range_with_len 0 (n + 1))) ∙ map-range_with_len_more (λ k. k) 0 n n (omega arith) ∙ ap (λ l. l ++ n ∷ []) (map-id (range_with_len 0 n))

pub numbers_ascend : (n : ℕ) → IsStrictlySortedBy nat_cmp (range_with_len 0 n)
numbers_ascend n =
    sorted_from_strictly_increasing (range_with_len 0 n) (λ k l.
    let below : k + 1 < n = omega (arith, l, length-range_with_len 0 n) in
    omega (arith, get_or-range_with_len 0 n k 0 (omega (arith, below)), get_or-range_with_len 0 n (k + 1) 0 below))

pub numbers_below : (n : ℕ) → All (λ q. q < n) (range_with_len 0 n)
numbers_below n = λ k d l.
    let below : k < n = omega (arith, l, length-range_with_len 0 n) in
    omega (arith, get_or-range_with_len 0 n k d below, below)

number_in : (n q : ℕ) → nat_lt q n ≡ true → Contains (range_with_len 0 n) q
number_in n q e =
    let below : q < n = grind (arith, nat_tests) in
    (q, omega (arith, below, length-range_with_len 0 n), omega (arith, get_or-range_with_len 0 n q q below))

-- ---- what is read is of the states

both : (a b : Bool) → (a && b) ≡ true → (a ≡ true) × (b ≡ true)
both true b e = (refl, e)
both false b e = cc

differ : (p q : ℕ) → not (p == q) ≡ true → p ≢ q
differ p q e f = grind (arith, nat_tests)

module _ (count : ℕ) where
  abbrev Numbered : ℕ → Type 0
  Numbered q = Contains (range_with_len 0 count) q

  pub states_numbered : (states : List ℕ) → states_are_below count states ≡ true → All Numbered states
  states_numbered states e = All-weaker (λ q. nat_lt q count ≡ true) Numbered (number_in count) states (AllPass-from_list_all (λ q. nat_lt q count) states e)

  pub trans_numbered : (trans : List Trans) → trans_are_below count trans ≡ true → All (IsTransOf (range_with_len 0 count)) trans
  trans_numbered trans e =
      All-weaker (λ t. (states_are_below count t.args && nat_lt t.to count) ≡ true) (IsTransOf (range_with_len 0 count))
      (λ t h. let both = both (states_are_below count t.args) (nat_lt t.to count) h in record { args = states_numbered t.args both.0; to = number_in count t.to both.1 })
      trans (AllPass-from_list_all (λ t. states_are_below count t.args && nat_lt t.to count) trans e)

  -- those that lead to another state
  pub moves_numbered : (eps : List (ℕ × ℕ)) → eps_are_below count eps ≡ true → All (IsEpsOf (range_with_len 0 count)) (filter (λ e. not (e.0 == e.1)) eps)
  moves_numbered eps e =
      let moves : ℕ × ℕ → Bool = λ e. not (e.0 == e.1) in
      let below : ℕ × ℕ → Bool = λ e. nat_lt e.0 count && nat_lt e.1 count in
      let all : All (λ e. below e ≡ true) (filter moves eps) = All-filter moves (λ e. below e ≡ true) eps (AllPass-from_list_all below eps e) in
      λ k d l.
      let b = both _ _ (all k d l) in
      record { from = number_in count _ b.0; to = number_in count _ b.1; moves = differ _ _ (filter_passes moves eps k d l) }

-- ---- sets

absent : {X : Type 0} (x : X) → Contains [] x → ⊥
absent x c = omega (arith, c.1)

set_of : {X : Type 0} (cmp : X → X → Ordering) (old more all : List X) → old ≡ [] → IsUnion old more all → IsStrictlySortedBy cmp all → IsAscendingSet cmp all more
set_of cmp old more all none union ascends = record {
  ascends = ascends;
  members = λ x. (λ c. ⊎_elim (λ o. absurd (absent x (subst (λ l. Contains l x) none o))) (λ m. m) ((union x).0 c), λ c. (union x).1 (inr c));
}

-- ---- the automaton

-- an automaton of the states, its final states, its transitions, and at last its epsilon transitions
module _ (count : ℕ) (a : Started) (A B C D : TreeAutomaton) (moves : List (ℕ × ℕ)) (e : A ≡ bare count (range_with_len 0 count)) (f : B ≡ record A { finals = B.finals }) (g : C ≡ record B { trans = C.trans }) (h : D ≡ record C { eps = D.eps }) where
  pub b_states : B.states ≡ range_with_len 0 count
  b_states = ap (λ (E : TreeAutomaton). E.states) f ∙ ap (λ (E : TreeAutomaton). E.states) e

  pub c_states : C.states ≡ range_with_len 0 count
  c_states = ap (λ (E : TreeAutomaton). E.states) g ∙ b_states

  pub is_automaton_of : moves ≡ filter (λ e. not (e.0 == e.1)) a.eps → IsUnion A.finals a.finals B.finals → IsStrictlySortedBy nat_cmp B.finals → IsUnion B.trans a.trans C.trans → IsStrictlySortedBy trans_cmp C.trans
      → IsUnion C.eps moves D.eps → IsStrictlySortedBy pair_cmp D.eps → IsAutomatonOf count a D
  is_automaton_of m finals finals_ascend trans trans_ascend eps eps_ascend = record {
    states_are = ap (λ (E : TreeAutomaton). E.states) h ∙ c_states;
    next_is = ap (λ (E : TreeAutomaton). E.next) h ∙ ap (λ (E : TreeAutomaton). E.next) g ∙ ap (λ (E : TreeAutomaton). E.next) f ∙ ap (λ (E : TreeAutomaton). E.next) e;
    finals_are = subst (λ l. IsAscendingSet nat_cmp l a.finals) (sym (ap (λ (E : TreeAutomaton). E.finals) h ∙ ap (λ (E : TreeAutomaton). E.finals) g)) (set_of nat_cmp A.finals a.finals B.finals (ap (λ (E : TreeAutomaton). E.finals) e) finals finals_ascend);
    trans_are = subst (λ l. IsAscendingSet trans_cmp l a.trans) (sym (ap (λ (E : TreeAutomaton). E.trans) h)) (set_of trans_cmp B.trans a.trans C.trans (ap (λ (E : TreeAutomaton). E.trans) f ∙ ap (λ (E : TreeAutomaton). E.trans) e) trans trans_ascend);
    eps_are = subst (λ l. IsAscendingSet pair_cmp D.eps l) m (set_of pair_cmp C.eps moves D.eps (ap (λ (E : TreeAutomaton). E.eps) g ∙ ap (λ (E : TreeAutomaton). E.eps) f ∙ ap (λ (E : TreeAutomaton). E.eps) e) eps eps_ascend);
  }

-- the same where there may be no memory for the epsilon transitions
pub is_automaton_if : {X E : Type 0} (count : ℕ) (a : Started) (A B C D : TreeAutomaton) (moves : List (ℕ × ℕ)) → A ≡ bare count (range_with_len 0 count) → B ≡ record A { finals = B.finals } → C ≡ record B { trans = C.trans }
    → (result : Result X E) → OnOk result (D ≡ record C { eps = D.eps }) → moves ≡ filter (λ e. not (e.0 == e.1)) a.eps → IsUnion A.finals a.finals B.finals → IsStrictlySortedBy nat_cmp B.finals → IsUnion B.trans a.trans C.trans → IsStrictlySortedBy trans_cmp C.trans
    → OnOk result (IsUnion C.eps moves D.eps) → OnOk result (IsStrictlySortedBy pair_cmp D.eps) → OnOk result (IsAutomatonOf count a D)
is_automaton_if count a A B C D moves e f g (Ok x) h m finals finals_ascend trans trans_ascend eps eps_ascend = is_automaton_of count a A B C D moves e f g h m finals finals_ascend trans trans_ascend eps eps_ascend
is_automaton_if count a A B C D moves e f g (Err x) h m finals finals_ascend trans trans_ascend eps eps_ascend = tt

-- no approximation was read
pub none_approximated : (count : ℕ) → nat_lt 0 count ≡ false → count ≡ 0
none_approximated count e = grind (arith, nat_tests)
