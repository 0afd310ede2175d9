-- Paths one after the other, and turned round.
-- Nobody has to believe this: it is proved, for the proofs of this crate and of the crates above.
use Rattle.std.proofs.Common.{◌↔◌, ℕ, List, map, Contains, refl, subst}
use Rattle.list_laws.proofs.Members.{map_had, map_has}
use Rattle.reach_rows.specs.Paths.{Path, AreReached, LeadThere, turn_edge}

pub path_join : (edges : List (ℕ × ℕ)) (p q r : ℕ) → Path edges p q → Path edges q r → Path edges p r
path_join edges p q r Path.here path = path
path_join edges p q r (Path.on {q = next} i rest) path = Path.on i (path_join edges next q r rest path)

pub path_more : (edges : List (ℕ × ℕ)) (p q r : ℕ) → Path edges p q → Contains edges (q, r) → Path edges p r
path_more edges p q r path i = path_join edges p q r path (Path.on i Path.here)

pub path_back : (edges turned : List (ℕ × ℕ)) → ((p q : ℕ) → Contains turned (p, q) → Contains edges (q, p)) → (p q : ℕ) → Path turned p q → Path edges q p
path_back edges turned back p q Path.here = Path.here
path_back edges turned back p q (Path.on {q = next} i path) = path_more edges q next p (path_back edges turned back next q path) (back p next i)

-- ---- edges turned round

pub turn_back : (edges : List (ℕ × ℕ)) (p q : ℕ) → Contains (map turn_edge edges) (p, q) ↔ Contains edges (q, p)
turn_back edges p q = (
  λ i. (let h = map_had turn_edge edges (p, q) i in subst (Contains edges) (λ j. ((h.2 j).1, (h.2 j).0)) h.1),
  λ i. map_has turn_edge edges (q, p) (p, q) i refl,
)

pub turned_reached : (edges : List (ℕ × ℕ)) (rows : List (List ℕ)) → LeadThere edges rows → AreReached (map turn_edge edges) rows
turned_reached edges rows leads p q l = (
  λ h. path_back (map turn_edge edges) edges (λ r s i. (turn_back edges s r).1 i) q p ((leads p q l).0 h),
  λ path. (leads p q l).1 (path_back edges (map turn_edge edges) (λ r s i. (turn_back edges r s).0 i) p q path),
)
