-- How a command ends, as the code has it.
use Rattle.std.specs.Prelude.{[], Result, Ok, Err, String, string_bytes}
use Rattle.std.specs.Global.{Global}
use Rattle.std.specs.declared.alloc.AllocError.{AllocError}
use Rattle.calls.specs.Files.{Told, Text}
use Rattle.calls.specs.declared.reading.Ending.{Ending}
use Rattle.calls.specs.declared.reading.Ending.TheVariants as ending
use Rattle.calls.specs.declared.status.Status.{Status}
use Rattle.calls.specs.declared.status.Status.TheVariants.{Memory}

-- with a text that is told, or without memory
abbrev pub Ends : (Told → Told → Text → Status → Type 0) → Told → Told → Ending → Type 0
Ends Says a b (ending.Told status text) = Says a b text status
Ends Says a b ending.Memory = Says a b [] Memory

-- with a line, where there was memory for it
abbrev pub ending_of : Status → Result (String Global) AllocError → Ending
ending_of status (Ok text) = ending.Told status (string_bytes text)
ending_of status (Err e) = ending.Memory

-- with a status and its line, where there was memory for it
abbrev pub answered : Result (Status × String Global) AllocError → Ending
answered (Ok answer) = ending.Told answer.0 (string_bytes answer.1)
answered (Err e) = ending.Memory
