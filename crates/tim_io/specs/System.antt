-- What is answered and counted, by what the system answered (this project's own).
use Rattle.std.specs.Prelude.{◌≡◌, ◌≢◌, ℕ, Result, Ok, Err, IsErr}
use Rattle.tim_io.specs.Causes.{one_more}
use Rattle.tim_io.specs.declared.shelf.TakeError.{TakeError}
use Rattle.tim_io.specs.declared.sink.Failed.{Failed}

-- the number is passed on, and no fault is counted
abbrev pub IsPassedOn : {E : Type 0} → ℕ → Result ℕ E → ℕ → ℕ → Type 0
IsPassedOn n result old new = (result ≡ Ok n) × (new ≡ old)

-- a read that failed is `Failed` and one fault more, and any other answer is passed on
abbrev pub ReadAnswered : {E : Type 0} → Result ℕ E → Result ℕ TakeError → ℕ → ℕ → Type 0
ReadAnswered (Ok n) result old new = IsPassedOn n result old new
ReadAnswered (Err error) result old new = (result ≡ Err TakeError.Failed) × (new ≡ one_more old)

-- the sink answers `Failed`, and counts one fault more
abbrev pub IsFault : Result ℕ Failed → ℕ → ℕ → Type 0
IsFault result old new = IsErr result × (new ≡ one_more old)

-- a write that failed is a fault, and so is one of 0 bytes; any other answer is passed on
abbrev pub WriteAnswered : {E : Type 0} → Result ℕ E → Result ℕ Failed → ℕ → ℕ → Type 0
WriteAnswered (Ok n) result old new = (n ≡ 0 → IsFault result old new) × (n ≢ 0 → IsPassedOn n result old new)
WriteAnswered (Err error) result old new = IsFault result old new
