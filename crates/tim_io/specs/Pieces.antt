-- How much one call of an object in memory moves (this project's own).
use Rattle.std.specs.Prelude.{ℕ, min}

-- as many bytes as there are, but no more than a piece, and no more than there is room for
abbrev pub share : ℕ → ℕ → ℕ → ℕ
share bytes piece room = min bytes (min piece room)
