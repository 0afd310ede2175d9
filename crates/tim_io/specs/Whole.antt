-- What reading a whole file and writing a whole text do (this project's own).
use Rattle.std.specs.Prelude.{◌≡◌, ℕ, ◌+◌, ◌<◌, ◌≤◌, List, Option, Result, Ok, Err, length, take}
use Rattle.std.specs.Io.KnownBytes.{Consumes, Appends, IsAtEnd}
use Rattle.tim_io.specs.declared.whole.ReadError.{ReadError}
use Rattle.tim_io.specs.declared.whole.ReadError.TheVariants.{Fault, TooLong, Memory}

-- some bytes were taken, at most so many
abbrev pub TookAtMost : ℕ → Option (List ℕ) → Option (List ℕ) → Type 0
TookAtMost most old new = (bytes : List ℕ) × Consumes old new bytes × (length bytes ≤ most)

-- just so many bytes were taken
abbrev pub TookJust : ℕ → Option (List ℕ) → Option (List ℕ) → Type 0
TookJust count old new = (bytes : List ℕ) × Consumes old new bytes × (length bytes ≡ count)

-- what a file has left before and after it was read whole, with at most `limit` bytes to be given
abbrev pub Reads : ℕ → Option (List ℕ) → Option (List ℕ) → Result (List ℕ) ReadError → Type 0
Reads limit old new (Ok bytes) = Consumes old new bytes × IsAtEnd new × (length bytes ≤ limit)
Reads limit old new (Err TooLong) = TookJust (limit + 1) old new
Reads limit old new (Err Fault) = TookAtMost limit old new
Reads limit old new (Err Memory) = TookAtMost (limit + 1) old new

-- the answer for a file that has these bytes left: all of them, or that they are too many
abbrev pub GivesWhole : ℕ → List ℕ → Result (List ℕ) ReadError → Type 0
GivesWhole limit left (Ok bytes) = (bytes ≡ left) × (length left ≤ limit)
GivesWhole limit left (Err TooLong) = limit < length left
GivesWhole limit left (Err Fault) = Unit {0}
GivesWhole limit left (Err Memory) = Unit {0}

-- a part of the text, from its front and not all of it, was written
abbrev pub AppendsPart : Option (List ℕ) → Option (List ℕ) → List ℕ → Type 0
AppendsPart old new text = (n : ℕ) × (n < length text) × Appends old new (take n text)
