-- Counts of faults by name (this project's own).
use Rattle.std.specs.Prelude.{ℕ, List, unwrap_or}
use Rattle.std.specs.BTreeMap.{get_by_text}
use Rattle.tim_io.specs.declared.counts.Counts.{Counts}

-- how often a name has failed
abbrev pub count_of : Counts → List ℕ → ℕ
count_of counts name = unwrap_or (get_by_text counts.by_name name) 0
