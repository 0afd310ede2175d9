-- What an honest shelf holds (this project's own).
use Rattle.std.specs.Prelude.{ℕ, List, [], unwrap_or}
use Rattle.tim_io.specs.Files.{left_in}
use Rattle.tim_io.specs.declared.honest_shelf.HonestShelf.{HonestShelf}

-- the bytes of a name that are not yet taken; a name that is not there is an empty file
abbrev pub left_of : HonestShelf → List ℕ → List ℕ
left_of shelf name = unwrap_or (left_in shelf.files name) []

-- the most bytes that a call gives
abbrev pub piece_of : HonestShelf → ℕ
piece_of shelf = shelf.piece
