-- What the program says to its words, and takes of its files for it. This project's own.
use Rattle.std.specs.Prelude.{◌≡◌, Bool, true, List, [], None, Some, Contains}
use Rattle.ta_core.specs.declared.spec.Spec.{Spec}
use Rattle.command_words.specs.Words.{Limits, Command, complete, check, command_of, names_command, files_of}
use Rattle.cert_text.specs.declared.outcome.Outcome.{Outcome}
use Rattle.cert_text.specs.declared.outcome.Outcome.TheVariants as outcome
use Rattle.verdicts.specs.Completing.{Completes}
use Rattle.calls.specs.AnswerText.{usage}
use Rattle.calls.specs.Checks.{ChecksFiles}
use Rattle.calls.specs.Contents.{OfSpec, spec_limit}
use Rattle.calls.specs.Files.{Text, Told, Reply, OfFile, Aside}
use Rattle.calls.specs.declared.status.Status.{Status}
use Rattle.calls.specs.declared.status.Status.TheVariants.{Unreachable, Reachable, Undecided, BadWords, Memory}

-- ---- `complete FILE`

-- the status of each verdict
abbrev pub status_of : Outcome → Status
status_of (outcome.Unreachable rounds precise A h) = Unreachable
status_of (outcome.Reachable d) = Reachable
status_of (outcome.Undecided why search) = Undecided

-- the verdict on a specification within the limits: its text, and its status
pub data SaysVerdict (spec : Spec) (limits : Limits) : Text → Status → Type 0 where
  verdict : {text : Text} (o : Outcome) → Completes spec limits text o → SaysVerdict spec limits text (status_of o)

-- the file is read whole, and the verdict on the specification that it spells is said
abbrev pub CompletesFile : Text → Limits → Reply
CompletesFile file limits = OfFile file spec_limit (λ bytes. OfSpec bytes (λ spec. Aside (SaysVerdict spec limits)))

-- ---- the commands

abbrev pub Does : Command → Reply
Does (complete file limits) = CompletesFile file limits
Does (check spec cert) = ChecksFiles spec cert

-- What the words ask for is done; where they are no command line, it is said how the program is called. Memory can run out while the words are read, if their first
-- one names a command, and then no file is asked for.
pub data Replies (words : List Text) : Told → Told → Text → Status → Type 0 where
  bad_words : {a : Told} → command_of words ≡ None → Replies words a a usage BadWords
  memory : {a : Told} → names_command words ≡ true → Replies words a a [] Memory
  does : {a b : Told} {text : Text} {status : Status} (command : Command) → command_of words ≡ Some command → Does command a b text status → Replies words a b text status

-- the words name this file
pub record IsFileOf (words : List Text) (name : Text) : Type 0 where
  pub command : Command
  pub is : command_of words ≡ Some command
  pub among : Contains (files_of command) name
