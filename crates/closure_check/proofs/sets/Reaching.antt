-- What epsilon transitions lead to, by tables.
use Rattle.std.proofs.Common.{◌≡◌, ◌↔◌, ◌⊎◌, ◌<◌, ◌≤◌, ◌/◌, ◌%◌, ℕ, List, [], length, get_or, All, Contains, refl, sym, ap, ◌∙◌, subst, inl, inr, ⊎_elim, arith}
use Rattle.std.specs.Int.{bit_at}
use Rattle.std.proofs.lemmas.Bool.{cases_lt}
use Rattle.std.proofs.lemmas.Nat.Bits.{bit_at-zero}
use Rattle.std.proofs.lemmas.List.{get_or_past}
use Rattle.std.proofs.lemmas.List.Elements.{All-contains}
use Rattle.ta_core.specs.TreeAutomaton.{TreeAutomaton, IsSound, IsEpsOf}
use Rattle.ta_core.specs.Runs.{Reaches}
use Rattle.ta_core.specs.Reached.{ReachedFrom}
use Rattle.reach_rows.specs.Bits.{Has}
use Rattle.reach_rows.specs.Paths.{Path, IsInRow}
use Rattle.reach_rows.specs.Tables.{Rows}
use Rattle.reach_rows.specs.lemmas.PathLaws.{path_more}
use Rattle.closure_check.specs.Marking.{LeadsOn, LeadsBack}

-- a row that has a member is there
within_rows : (rows : List (List ℕ)) (p q : ℕ) → Has (get_or rows p []) q → p < length rows
within_rows rows p q h = ⊎_elim (λ l. l) (λ l. absurd (omega (arith, bit_at-zero (q % 64), sym (ap (λ row. bit_at (get_or row (q / 64) 0) (q % 64)) (get_or_past rows p [] l)) ∙ h))) (cases_lt p (length rows))

pub reaches_path : (A : TreeAutomaton) (p q : ℕ) → Reaches A p q → Path A.eps p q
reaches_path A p _ Reaches.here = Path.here
reaches_path A p q (Reaches.on {q = r} h i) = path_more A.eps p r q (reaches_path A p r h) i

reaches_front : (A : TreeAutomaton) (p q r : ℕ) → Contains A.eps (p, q) → Reaches A q r → Reaches A p r
reaches_front A p q _ i Reaches.here = Reaches.on Reaches.here i
reaches_front A p q r i (Reaches.on {q = s} h j) = Reaches.on (reaches_front A p q s i h) j

pub path_reaches : (A : TreeAutomaton) (p q : ℕ) → Path A.eps p q → Reaches A p q
path_reaches A p q Path.here = Reaches.here
path_reaches A p q (Path.on {q = r} i path) = reaches_front A p r q i (path_reaches A r q path)

module _ (A : TreeAutomaton) (sound : IsSound A) where
  below : (q : ℕ) → Contains A.states q → q < A.next
  below q i = All-contains (λ q. q < A.next) A.states q sound.below i

  path_ends : (p q : ℕ) → Contains A.states p → Path A.eps p q → Contains A.states q
  path_ends p q i Path.here = i
  path_ends p q i (Path.on {q = r} j path) = path_ends r q (All-contains (IsEpsOf A.states) A.eps (p, r) sound.eps j).to path

  path_starts : (p q : ℕ) → Path A.eps p q → (p ≡ q) ⊎ Contains A.states p
  path_starts p q Path.here = inl refl
  path_starts p q (Path.on {q = r} j path) = inr (All-contains (IsEpsOf A.states) A.eps (p, r) sound.eps j).from

  -- ---- forwards

  module _ (reach : Rows) (leads : LeadsOn A reach) (set : List ℕ) (states : All (Contains A.states) set) where
    is_state : (p : ℕ) → Contains set p → Contains A.states p
    is_state p i = All-contains (Contains A.states) set p states i

    within : (p : ℕ) → Contains set p → p < length reach.rows
    within p i = omega (arith, below p (is_state p i), leads.long)

    pub room_on : (size : ℕ) → A.next ≤ size → (p q : ℕ) → Contains set p → Has (get_or reach.rows p []) q → q < size
    room_on size enough p q i h = omega (arith, below q (path_ends p q (is_state p i) ((leads.reached p q (within p i)).0 h)), enough)

    pub rows_are_reached : (q : ℕ) → IsInRow reach.rows set q ↔ ReachedFrom A set q
    rows_are_reached q = (
      λ h. record { start = h.from; starts = h.member; reaches = path_reaches A h.from q ((leads.reached h.from q (within h.from h.member)).0 h.has) },
      λ h. record { from = h.start; member = h.starts; has = (leads.reached h.start q (within h.start h.starts)).1 (reaches_path A h.start q h.reaches) },
    )

  -- ---- back

  module _ (reach : Rows) (leads : LeadsBack A reach) (set : List ℕ) where
    pub room_back : (size : ℕ) → A.next ≤ size → ((q : ℕ) → Contains set q → q < size) → (p q : ℕ) → Contains set p → Has (get_or reach.rows p []) q → q < size
    room_back size enough small p q i h = ⊎_elim
        (λ same. omega (arith, same, small p i))
        (λ state. omega (arith, below q state, enough))
        (path_starts q p ((leads.reached p q (within_rows reach.rows p q h)).0 h))

    pub rows_lead_back : (p q : ℕ) → Contains A.states p → Reaches A p q → Contains set q → IsInRow reach.rows set p
    rows_lead_back p q i r member =
        let path = reaches_path A p q r in
        record { from = q; member = member; has = (leads.reached q p (omega (arith, below q (path_ends p q i path), leads.long))).1 path }

-- ---- where no epsilon transition leads on

module _ (A : TreeAutomaton) (set : List ℕ) (stuck : (p q : ℕ) → Contains set p → Contains A.eps (p, q) → ⊥) where
  stays_there : (p q : ℕ) → Contains set p → Reaches A p q → p ≡ q
  stays_there p _ i Reaches.here = refl
  stays_there p q i (Reaches.on {q = r} h j) = absurd (stuck r q (subst (Contains set) (stays_there p r i h) i) j)

  pub reached_there : (q : ℕ) → Contains set q ↔ ReachedFrom A set q
  reached_there q = (λ i. record { start = q; starts = i; reaches = Reaches.here }, λ h. subst (Contains set) (stays_there h.start q h.starts h.reaches) h.starts)
