-- What a shelf in memory holds (this project's own).
use Rattle.std.specs.Prelude.{ℕ, List, Option}
use Rattle.tim_io.specs.Counts.{count_of}
use Rattle.tim_io.specs.Files.{left_in}
use Rattle.tim_io.specs.declared.plan.Plan.{Plan}
use Rattle.tim_io.specs.declared.mem_shelf.MemShelf.{MemShelf}

-- the bytes of a name that are not yet taken, where the name is there
abbrev pub left_of : MemShelf → List ℕ → Option (List ℕ)
left_of shelf name = left_in shelf.files name

-- how often a name has failed
abbrev pub faults_of : MemShelf → List ℕ → ℕ
faults_of shelf name = count_of shelf.faults name

-- the piece, the calls that fail, and how many calls there were
abbrev pub plan_of : MemShelf → Plan
plan_of shelf = shelf.plan
