-- The exit status of each answer. This project's own; from 64 on they are near those of BSD's sysexits.
use Rattle.std.specs.Prelude.{ℕ}
use Rattle.calls.specs.declared.status.Status.{Status}
use Rattle.calls.specs.declared.status.Status.TheVariants.{Unreachable, Reachable, Undecided, Accepted, Rejected, BadWords, BadSpec, BadCert, TooLong, ReadFault, WriteFault, Memory}

abbrev pub code_of : Status → ℕ
code_of Unreachable = 0
code_of Reachable = 1
code_of Undecided = 2
code_of Accepted = 0
code_of Rejected = 3
code_of BadWords = 64
code_of BadSpec = 65
code_of BadCert = 66
code_of TooLong = 67
code_of ReadFault = 70
code_of WriteFault = 71
code_of Memory = 75
