-- What a run has said and written.
use Rattle.std.proofs.Common.{◌≡◌, ◌⊎◌, inl, inr, Bool, true, false, List, [], Option, Some, None, Result, Err, refl, subst, sym}
use Rattle.std.proofs.KnownBytes.{Appends-nil}
use Rattle.std.specs.Io.KnownBytes.{Appends}
use Rattle.tim_io.specs.Whole.{AppendsPart}
use Rattle.ta_core.specs.declared.spec.Spec.{Spec}
use Rattle.spec_text.specs.SpecText.{SpecText}
use Rattle.command_words.specs.Words.{Limits, Command, command_of, names_command}
use Rattle.command_words.specs.declared.command.Command as code
use Rattle.command_words.specs.declared.command.WordsError.{WordsError}
use Rattle.command_words.specs.declared.command.WordsError.TheVariants as error
use Rattle.calls.specs.AnswerText.{usage}
use Rattle.calls.specs.Contents.{OfSpec, spec_limit}
use Rattle.calls.specs.Endings.{Ends}
use Rattle.calls.specs.Files.{Text, Told, IsRead, OfFile, Aside, Never}
use Rattle.calls.specs.declared.reading.Ending.{Ending}
use Rattle.calls.specs.declared.reading.Ending.TheVariants as ending
use Rattle.calls.specs.declared.status.Status.{Status}
use Rattle.calls.specs.declared.status.Status.TheVariants.{BadWords, WriteFault, Memory}
use Rattle.top_call.specs.Calls.{SaysVerdict, CompletesFile, Does, Replies}
use Rattle.top_call.specs.Writing.{Ran}

-- a text that is said is written, whole or in part
pub wrote : (words : List Text) (a b : Told) (failed : Type 0) (old new : Option Text) (text : Text) (status answer : Status) → Replies words a b text status →
    ((answer ≡ status) × Appends old new text) ⊎ ((answer ≡ WriteFault) × failed × AppendsPart old new text) → Ran words a b failed old new answer
wrote words a b failed old new text status answer replies (inl all) = subst (Ran words a b failed old new) (sym all.0) (Ran.whole replies all.1)
wrote words a b failed old new text status answer replies (inr part) = subst (Ran words a b failed old new) (sym part.0) (Ran.part part.1 replies part.2)

-- ---- `complete FILE`

-- the verdict is said of the specification that the file spells
pub says_verdict : (file : Text) (limits : Limits) (a b : Told) (bytes : Text) (spec : Spec) → IsRead file spec_limit a b bytes → SpecText bytes spec → (e : Ending) → Ends (Aside (SaysVerdict spec limits)) b b e →
    Ends (CompletesFile file limits) a b e
says_verdict file limits a b bytes spec read spells (ending.Told status text) says = OfFile.read bytes read (OfSpec.good spec spells says)
says_verdict file limits a b bytes spec read spells ending.Memory says = OfFile.read bytes read (OfSpec.good spec spells says)

in_bytes : (limits : Limits) (bytes : Text) (a b : Told) (text : Text) (status : Status) → OfSpec bytes (λ spec. Never) a b text status → OfSpec bytes (λ spec. Aside (SaysVerdict spec limits)) a b text status
in_bytes limits bytes a b text status (OfSpec.bad none first) = OfSpec.bad none first
in_bytes limits bytes a b text status OfSpec.memory = OfSpec.memory
in_bytes limits bytes a b text status (OfSpec.good spec spells never) = absurd never

in_file : (file : Text) (limits : Limits) (a b : Told) (text : Text) (status : Status) → OfFile file spec_limit (λ bytes. OfSpec bytes (λ spec. Never)) a b text status → CompletesFile file limits a b text status
in_file file limits a b text status (OfFile.too_long took stay) = OfFile.too_long took stay
in_file file limits a b text status (OfFile.fault rose took stay) = OfFile.fault rose took stay
in_file file limits a b text status (OfFile.memory took stay) = OfFile.memory took stay
in_file file limits a b text status (OfFile.read bytes read next) = OfFile.read bytes read (in_bytes limits bytes _ b text status next)

-- or else what is said of the file
pub says_of_file : (file : Text) (limits : Limits) (a b : Told) (e : Ending) → Ends (OfFile file spec_limit (λ bytes. OfSpec bytes (λ spec. Never))) a b e → Ends (CompletesFile file limits) a b e
says_of_file file limits a b (ending.Told status text) says = in_file file limits a b text status says
says_of_file file limits a b ending.Memory says = in_file file limits a b [] Memory says

-- ---- a command that was done

module _ (words : List Text) (a b : Told) (failed : Type 0) (old : Option Text) (command : Command) (is : command_of words ≡ Some command) (e : Ending) (ends : Ends (Does command) a b e) where
  -- its text is written
  pub told : (new : Option Text) (text : Text) (status : Status) → e ≡ ending.Told status text → (bytes : Text) → bytes ≡ text → (answer : Status) →
      ((answer ≡ status) × Appends old new bytes) ⊎ ((answer ≡ WriteFault) × failed × AppendsPart old new bytes) → Ran words a b failed old new answer
  told new text status ended bytes same answer written =
      let says : Does command a b text status = subst (Ends (Does command) a b) ended ends in
      wrote words a b failed old new bytes status answer (Replies.does command is (subst (λ t. Does command a b t status) (sym same) says)) written

  -- or there was no memory for it
  pub untold : e ≡ ending.Memory → Ran words a b failed old old Memory
  untold ended = Ran.whole (Replies.does command is (subst (Ends (Does command) a b) ended ends)) (Appends-nil old)

-- ---- words that are no command

module _ (words : List Text) (a : Told) (failed : Type 0) (old : Option Text) where
  -- it is said how the program is called
  pub no_command : (new : Option Text) → command_of words ≡ None → (bytes : Text) → bytes ≡ usage → (answer : Status) → ((answer ≡ BadWords) × Appends old new bytes) ⊎ ((answer ≡ WriteFault) × failed × AppendsPart old new bytes) →
      Ran words a a failed old new answer
  no_command new none bytes same answer written = wrote words a a failed old new bytes BadWords answer (subst (λ t. Replies words a a t BadWords) (sym same) (Replies.bad_words none)) written

  names : (answer : Result code.Command WordsError) → (names_command words ≡ false → answer ≡ Err error.BadWords) → answer ≡ Err error.Memory → (r : Bool) → names_command words ≡ r → names_command words ≡ true
  names answer unknown is true same = same
  names answer unknown is false same = let other = unknown same in let no : ⊥ = cc in absurd no

  -- words whose first one names no command need no memory
  pub no_words : (answer : Result code.Command WordsError) → (names_command words ≡ false → answer ≡ Err error.BadWords) → answer ≡ Err error.Memory → Ran words a a failed old old Memory
  no_words answer unknown is = Ran.whole (Replies.memory (names answer unknown is (names_command words) refl)) (Appends-nil old)
