-- A set of states that grows at its end until it is closed under epsilon transitions.
-- Nobody has to believe this: it is proved, for the proofs of the crates above.
use Rattle.std.proofs.Common.{◌≡◌, ℕ, ◌+◌, ◌<◌, ◌≤◌, ◌↔◌, ◌⊎◌, ◌==◌, List, [], ◌∷◌, ◌++◌, length, take, slice_get, Some, sym, subst, inl, inr, ⊎_elim}
use Rattle.std.specs.List.{Contains, All, IsDistinct}
use Rattle.std.proofs.lemmas.Map.Views.{Contains-from_any, exact_unsigned_eq}
use Rattle.std.proofs.lemmas.Map.Steps.{length-le_from_distinct_below}
use Rattle.std.proofs.lemmas.Option.{slice_get_within, get_or_from_slice_get}
use Rattle.std.proofs.lemmas.List.{take_all}
use Rattle.std.proofs.lemmas.List.Elements.{Contains-push_cases, Contains-get_or, All-contains}
use Rattle.list_laws.proofs.Members.{none, all_from_members}
use Rattle.list_laws.proofs.Growing.{HasAll, HasTargets, Keeps, taken_stays, still_within, from_start}
use Rattle.ta_core.specs.TreeAutomaton.{TreeAutomaton, IsSound, IsEpsOf}
use Rattle.ta_core.specs.Runs.{Reaches}
use Rattle.ta_core.specs.Reached.{ReachedFrom}

-- from the empty set on
pub closure_from : (A : TreeAutomaton) (set start all : List ℕ) → start ≡ [] → HasAll start set all → (q : ℕ) → ReachedFrom A all q ↔ ReachedFrom A set q
closure_from A set start all e h q = (
  λ r. record { start = r.start; starts = ⊎_elim (λ c. absurd (none r.start (subst (λ xs. Contains xs r.start) e c))) (λ c. c) ((h r.start).0 r.starts); reaches = r.reaches },
  λ r. record { start = r.start; starts = (h r.start).1 (inr r.starts); reaches = r.reaches },
)

pub all_from : (A : TreeAutomaton) (set start all : List ℕ) → start ≡ [] → HasAll start set all → All (Contains A.states) set → All (Contains A.states) all
all_from A set start all e h a = all_from_members (Contains A.states) all (λ q c. ⊎_elim (λ m. absurd (none q (subst (λ xs. Contains xs q) e m))) (λ m. All-contains (Contains A.states) set q a m) ((h q).0 c))

-- ---- the closure

-- what holds once the epsilon transitions of the first `at` members were followed
pub record IsClosing (A : TreeAutomaton) (start : List ℕ) (at : ℕ) (set : List ℕ) : Type 0 where
  pub within : at ≤ length set
  pub keeps : (q : ℕ) → Contains start q → Contains set q
  pub reached : (q : ℕ) → Contains set q → ReachedFrom A start q
  pub inside : All (Contains A.states) set
  pub closed : (p q : ℕ) → Contains A.eps (p, q) → Contains (take at set) p → Contains set q

pub closing_starts : (A : TreeAutomaton) (start : List ℕ) → All (Contains A.states) start → IsClosing A start 0 start
closing_starts A start inside = record {
  within = from_start (length start);
  keeps = λ q c. c;
  reached = λ q c. record { start = q; starts = c; reaches = Reaches.here };
  inside = inside;
  closed = λ p q i c. absurd (none p c);
}

-- a set that nothing leads out of has all that is reached from it
pub holds_reached : {A : TreeAutomaton} (set : List ℕ) → ((p q : ℕ) → Contains A.eps (p, q) → Contains set p → Contains set q) → {p q : ℕ} → Contains set p → Reaches A p q → Contains set q
holds_reached set out c Reaches.here = c
holds_reached set out c (Reaches.on h i) = out _ _ i (holds_reached set out c h)

module _ (A : TreeAutomaton) (start set : List ℕ) (at : ℕ) (c : IsClosing A start at set) where
  -- distinct states are not more than the numbers below `next`
  pub few_states : IsSound A → IsDistinct ◌==◌ set → length set ≤ A.next
  few_states sound distinct =
      length-le_from_distinct_below set A.next distinct (λ q e. All-contains (λ q. q < A.next) A.states q sound.below (All-contains (Contains A.states) set q c.inside (Contains-from_any exact_unsigned_eq q set e)))

  module _ (sound : IsSound A) (state : ℕ) (eps : List (ℕ × ℕ)) (next : List ℕ) (found : slice_get set at ≡ Some state)
      (from : (e : ℕ × ℕ) → Contains eps e ↔ (Contains A.eps e × (e.0 ≡ state))) (targets : HasTargets set eps next) (kept : Keeps set next) where
    state_in : Contains set state
    state_in = subst (Contains set) (get_or_from_slice_get set at state 0 found) (Contains-get_or set at 0 (slice_get_within set at state found))

    on : (q p : ℕ) → Contains A.eps (p, q) × (p ≡ state) → ReachedFrom A start q
    on q p e =
        let r = c.reached state state_in in
        record { start = r.start; starts = r.starts; reaches = Reaches.on (subst (Reaches A r.start) (sym e.1) r.reaches) e.0 }

    -- the members that were followed, and the one that is
    followed : (p : ℕ) → Contains (take (at + 1) next) p → Contains (take at set) p ⊎ (state ≡ p)
    followed p i =
        let same : take (at + 1) next ≡ take at set ++ state ∷ [] = taken_stays set kept.0 next at state found kept.1 in
        Contains-push_cases (take at set) state p (subst (λ l. Contains l p) same i)

    pub closing_more : IsClosing A start (at + 1) next
    closing_more =
        record {
          within = still_within set kept.0 next at state found kept.1;
          keeps = λ q i. (targets q).1 (inl (c.keeps q i));
          reached = λ q i. ⊎_elim (c.reached q) (λ target. on q target.0 ((from (target.0, q)).0 target.1)) ((targets q).0 i);
          inside = all_from_members (Contains A.states) next (λ q i. ⊎_elim (All-contains (Contains A.states) set q c.inside) (λ target. (All-contains (IsEpsOf A.states) A.eps (target.0, q) sound.eps ((from (target.0, q)).0 target.1).0).to) ((targets q).0 i));
          closed = λ p q i at_p. (targets q).1 (⊎_elim (λ before. inl (c.closed p q i before)) (λ same. inr (p, (from (p, q)).1 (i, sym same))) (followed p at_p));
        }

  -- at the end of the set
  pub closing_ends : length set ≤ at → (q : ℕ) → Contains set q ↔ ReachedFrom A start q
  closing_ends l q =
      let out : (p q : ℕ) → Contains A.eps (p, q) → Contains set p → Contains set q = λ p q i h. c.closed p q i (subst (λ l. Contains l p) (sym (take_all at set l)) h) in
      (c.reached q, λ r. holds_reached set out (c.keeps r.start r.starts) r.reaches)
