-- The way of a visitor through a list (this project's own).
use Rattle.std.specs.Prelude.{List, [], ◌∷◌}

-- the visitor has taken the members of the list one after the other, and each time changed by the relation
pub data GoneThrough {V X : Type 0} (took : V → X → V → Type 0) : V → List X → V → Type 0 where
  none : {v : V} → GoneThrough took v [] v
  more : {u v w : V} {x : X} {xs : List X} → took u x v → GoneThrough took v xs w → GoneThrough took u (x ∷ xs) w
