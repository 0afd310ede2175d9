-- What the program has written by the end of a run. This project's own.
use Rattle.std.specs.Prelude.{List, Option}
use Rattle.std.specs.Io.KnownBytes.{Appends}
use Rattle.tim_io.specs.Whole.{AppendsPart}
use Rattle.calls.specs.Files.{Text, Told}
use Rattle.calls.specs.declared.status.Status.{Status}
use Rattle.calls.specs.declared.status.Status.TheVariants.{WriteFault}
use Rattle.top_call.specs.Calls.{Replies}

-- From what is told of the files before a run to what is told of them after it, and from what the output has to what it has then: all that is said is written,
-- which is nothing where memory ran out; or the output has failed, and a part of it is written from its front.
pub data Ran (words : List Text) (a b : Told) (failed : Type 0) (old new : Option Text) : Status → Type 0 where
  whole : {text : Text} {status : Status} → Replies words a b text status → Appends old new text → Ran words a b failed old new status
  part : {text : Text} {status : Status} → failed → Replies words a b text status → AppendsPart old new text → Ran words a b failed old new WriteFault
