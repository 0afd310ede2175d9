-- What epsilon transitions lead to, by a table.
use Rattle.std.proofs.Common.{◌≡◌, ◌↔◌, ◌<◌, ◌*◌, ◌/◌, ◌+◌, ℕ, List, [], length, get_or, All, Contains, refl, subst, arith}
use Rattle.std.proofs.lemmas.List.Elements.{All-contains}
use Rattle.list_laws.proofs.Members.{all_from_members}
use Rattle.reach_rows.specs.Bits.{Has}
use Rattle.reach_rows.specs.Paths.{Path, IsInRow}
use Rattle.reach_rows.specs.Tables.{Rows}
use Rattle.reach_rows.specs.lemmas.PathLaws.{path_more}
use Rattle.ranked_terms.specs.declared.term.Config.{State}
use Rattle.ta_core.specs.TreeAutomaton.{TreeAutomaton, IsSound, IsEpsOf}
use Rattle.ta_core.specs.Runs.{Runs, Reaches}
use Rattle.ta_core.specs.Reached.{ReachedFrom}
use Rattle.ta_core.specs.lemmas.RunStates.{runs_of_state}
use Rattle.state_match.specs.Sets.{LeadsOn}

reaches_path : (A : TreeAutomaton) (p q : ℕ) → Reaches A p q → Path A.eps p q
reaches_path A p _ Reaches.here = Path.here
reaches_path A p q (Reaches.on {q = r} h i) = path_more A.eps p r q (reaches_path A p r h) i

reaches_front : (A : TreeAutomaton) (p q r : ℕ) → Contains A.eps (p, q) → Reaches A q r → Reaches A p r
reaches_front A p q _ i Reaches.here = Reaches.on Reaches.here i
reaches_front A p q r i (Reaches.on {q = s} h j) = Reaches.on (reaches_front A p q s i h) j

path_reaches : (A : TreeAutomaton) (p q : ℕ) → Path A.eps p q → Reaches A p q
path_reaches A p q Path.here = Reaches.here
path_reaches A p q (Path.on {q = r} i path) = reaches_front A p r q i (path_reaches A r q path)

-- ---- by the rows of a table

module _ (A : TreeAutomaton) (sound : IsSound A) (reach : Rows) (leads : LeadsOn A reach) (set : List ℕ) (states : All (Contains A.states) set) where
  below : (q : ℕ) → Contains A.states q → q < A.next
  below q i = All-contains (λ q. q < A.next) A.states q sound.below i

  path_ends : (p q : ℕ) → Contains A.states p → Path A.eps p q → Contains A.states q
  path_ends p q i Path.here = i
  path_ends p q i (Path.on {q = r} j path) = path_ends r q (All-contains (IsEpsOf A.states) A.eps (p, r) sound.eps j).to path

  is_state : (p : ℕ) → Contains set p → Contains A.states p
  is_state p i = All-contains (Contains A.states) set p states i

  within : (p : ℕ) → Contains set p → p < length reach.rows
  within p i = omega (arith, below p (is_state p i), leads.long)

  -- there is room for what is in the rows
  pub room_on : (words : List ℕ) (size : ℕ) → size ≡ A.next → length words ≡ size / 64 + 1 → (p q : ℕ) → Contains set p → Has (get_or reach.rows p []) q → q < 64 * length words
  room_on words size e long p q i h = omega (arith, below q (path_ends p q (is_state p i) ((leads.reached p q (within p i)).0 h)), e, long)

  -- the members of a set that the bits have are what is reached
  pub marked_are_reached : (words known : List ℕ) (size : ℕ) → size ≡ A.next → ((q : ℕ) → Has words q ↔ IsInRow reach.rows set q) → ((q : ℕ) → Contains known q ↔ ((q < size) × Has words q)) →
      (q : ℕ) → Contains known q ↔ ReachedFrom A set q
  marked_are_reached words known size e rows exact q = (
    λ i.
        let h = (rows q).0 ((exact q).0 i).1 in
        record { start = h.from; starts = h.member; reaches = path_reaches A h.from q ((leads.reached h.from q (within h.from h.member)).0 h.has) },
    λ h.
        let path = reaches_path A h.start q h.reaches in
        let row : IsInRow reach.rows set q = record { from = h.start; member = h.starts; has = (leads.reached h.start q (within h.start h.starts)).1 path } in
        (exact q).1 (omega (arith, e, below q (path_ends h.start q (is_state h.start h.starts) path)), (rows q).1 row),
  )

-- ---- where no epsilon transition leads on

module _ (A : TreeAutomaton) (set : List ℕ) (stuck : (p q : ℕ) → Contains set p → Contains A.eps (p, q) → ⊥) where
  stays_there : (p q : ℕ) → Contains set p → Reaches A p q → p ≡ q
  stays_there p _ i Reaches.here = refl
  stays_there p q i (Reaches.on {q = r} h j) = absurd (stuck r q (subst (Contains set) (stays_there p r i h) i) j)

  pub reached_there : (q : ℕ) → Contains set q ↔ ReachedFrom A set q
  reached_there q = (λ i. record { start = q; starts = i; reaches = Reaches.here }, λ h. subst (Contains set) (stays_there h.start q h.starts h.reaches) h.starts)

-- ---- from one state

module _ (A : TreeAutomaton) (b : ℕ) (all set : List ℕ) (e : all ≡ A.states) (exact : (x : ℕ) → Contains set x ↔ ((b ≡ x) × Contains all x)) where
  one_exact : (x : ℕ) → Contains set x ↔ ((b ≡ x) × Contains A.states x)
  one_exact x = subst (λ (xs : List ℕ). Contains set x ↔ ((b ≡ x) × Contains xs x)) e (exact x)

  pub one_inside : All (Contains A.states) set
  one_inside = all_from_members (Contains A.states) set (λ x c. ((one_exact x).0 c).1)

  pub state_runs : (known : List ℕ) → ((q : ℕ) → Contains known q ↔ ReachedFrom A set q) → (q : ℕ) → Contains known q ↔ Runs A (State b) q
  state_runs known reached q =
      let runs = runs_of_state A b set one_exact q in
      (λ i. runs.0 ((reached q).0 i), λ r. (reached q).1 (runs.1 r))
