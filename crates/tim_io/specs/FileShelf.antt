-- What is kept of real files (this project's own).
use Rattle.std.specs.Prelude.{◌≡◌, ℕ, ◌<◌, List, Option, Some, None, Result, Ok, Err, IfSome, String, length, take, option_and_then}
use Rattle.std.specs.Io.KnownBytes.{Consumes, Keeps, IsAtEnd}
use Rattle.std.specs.Option.{option_map_or}
use Rattle.std.specs.Global.{Global}
use Rattle.std.specs.BTreeMap.{BTreeMap, get_by_text}
use Rattle.tim_io.specs.declared.file_shelf.Opened.{Opened}

-- of no name it is told what its file has left
abbrev pub untold : List ℕ → Option (List ℕ)
untold name = None

-- how often a name has failed
abbrev pub faults_in : {F : Type 0} → BTreeMap (String Global) (Opened F) → List ℕ → ℕ
faults_in files name = option_map_or (λ opened. opened.faults) (get_by_text files name) 0

-- the file of a name, where it is open
abbrev pub file_in : {F : Type 0} → BTreeMap (String Global) (Opened F) → List ℕ → Option F
file_in files name = option_and_then (λ opened. opened.file) (get_by_text files name)

-- What one call of the system does to the file of a name. At `Ok` it reads on in the file that was open, or in one that it opened, and takes what it
-- gives, none only at the end or with no room; where it fails, what is told of the file stays. `remaining` is what a file's own type tells.
abbrev pub ReadsOn : {F E : Type 0} → (F → Option (List ℕ)) → Option F → Option F → Result ℕ E → List ℕ → Type 0
ReadsOn {F} remaining old new (Ok n) buf =
    (before : F) × (after : F) × IfSome old (λ file. file ≡ before) × (new ≡ Some after)
    × Consumes (remaining before) (remaining after) (take n buf) × (n ≡ 0 → 0 < length buf → IsAtEnd (remaining after))
ReadsOn remaining old new (Err error) buf = Keeps (option_and_then remaining old) (option_and_then remaining new)
