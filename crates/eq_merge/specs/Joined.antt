-- A table of classes to which pairs of states are added. This serves private contracts alone.
use Rattle.std.specs.Prelude.{ℕ, ◌==◌, min, max, List, map, if◌then◌else◌}
use Rattle.ta_core.specs.Acceptance.{image}

-- the classes of p and q put together, the lesser one of their least states for both
abbrev pub put_together : List ℕ → ℕ → ℕ → List ℕ
put_together t p q = map (λ r. if r == max (image t p) (image t q) then min (image t p) (image t q) else r) t

-- the one table with pairs put together, one after the other, of which each has this property
pub data Joined (P : ℕ → ℕ → Type 0) (t : List ℕ) : List ℕ → Type 0 where
  none : Joined P t t
  more : {u : List ℕ} {p q : ℕ} → Joined P t u → P p q → Joined P t (put_together u p q)
