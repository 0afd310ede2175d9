-- Files in memory (this project's own).
use Rattle.std.specs.Prelude.{◌≡◌, ℕ, ◌++◌, List, Option, Some, None, length, take, drop, option_map}
use Rattle.std.specs.BTreeMap.{get_by_text}
use Rattle.tim_io.specs.Pieces.{share}
use Rattle.tim_io.specs.declared.file.File.{File}
use Rattle.tim_io.specs.declared.files.Files.{Files}

-- the bytes of a file that are not yet taken
abbrev pub rest_of : File → List ℕ
rest_of file = drop file.at file.bytes.items

-- what the file of a name has left
abbrev pub left_in : Files → List ℕ → Option (List ℕ)
left_in files name = option_map rest_of (get_by_text files.by_name name)

-- what a file has left before and after it gave its share of bytes to buf; a name without a file gives nothing
abbrev pub Gives : Option (List ℕ) → Option (List ℕ) → Option ℕ → List ℕ → ℕ → Type 0
Gives (Some old) (Some new) (Some n) buf most = (n ≡ share (length old) most (length buf)) × (old ≡ take n buf ++ new)
Gives None None None buf most = Unit {0}
Gives old new result buf most = ⊥
