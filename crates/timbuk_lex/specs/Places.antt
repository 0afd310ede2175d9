-- Lines and columns as functions of the bytes before a place (this project's own).
use Rattle.std.specs.Prelude.{◌≡◌, ℕ, ◌+◌, not, List, reverse, count_by}
use Rattle.std.specs.List.{prefix_len}
use Rattle.timbuk_lex.specs.Bytes.{is_newline}
use Rattle.timbuk_lex.specs.declared.place.Place.{Place}

-- Lines count the newlines before from 1.
abbrev pub line_of : List ℕ → ℕ
line_of before = count_by is_newline before + 1

-- Columns count the bytes of the line before from 1.
abbrev pub column_of : List ℕ → ℕ
column_of before = prefix_len (λ b. not (is_newline b)) (reverse before) + 1

-- the place right after these bytes
pub record IsPlace (place : Place) (before : List ℕ) : Type 0 where
  pub line : place.line ≡ line_of before
  pub column : place.column ≡ column_of before
