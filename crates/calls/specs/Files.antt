-- What a call does with its files, from one moment to another. This project's own.
use Rattle.std.specs.Prelude.{ℕ, ◌+◌, ◌≤◌, List, [], ◌++◌, Option, length, codes}
use Rattle.std.specs.Io.KnownBytes.{Consumes, IsAtEnd}
use Rattle.tim_io.specs.Causes.{Rose}
use Rattle.tim_io.specs.Shelves.{OthersStay}
use Rattle.tim_io.specs.Whole.{TookAtMost, TookJust}
use Rattle.calls.specs.AnswerText.{line}
use Rattle.calls.specs.declared.status.Status.{Status}
use Rattle.calls.specs.declared.status.Status.TheVariants.{TooLong, ReadFault, Memory}

abbrev pub Text : Type 0
Text = List ℕ

-- what is told at one moment: of each name the bytes that are not yet taken, where they are told, and how often it has failed
pub record Told : Type 0 where
  pub left : Text → Option Text
  pub faults : Text → ℕ

abbrev pub told_by : (Text → Option Text) → (Text → ℕ) → Told
told_by left faults = record { left = left; faults = faults }

-- what is told of each name but this one stays
pub record StayBut (name : Text) (a b : Told) : Type 0 where
  pub left : OthersStay a.left b.left name
  pub faults : OthersStay a.faults b.faults name

-- what an answer needs: what is told before and after it, its text and its status
abbrev pub Reply : Type 1
Reply = Told → Told → Text → Status → Type 0

-- an answer that takes no more of any file; or memory runs out, and nothing is said
pub data Aside (Says : Text → Status → Type 0) : Told → Told → Text → Status → Type 0 where
  says : {a : Told} {text : Text} {status : Status} → Says text status → Aside Says a a text status
  memory : {a : Told} → Aside Says a a [] Memory

-- no answer
abbrev pub Never : Reply
Never a b text status = ⊥

-- the file was read whole: these are the bytes that it had, at most as many as the limit; and no count of faults has fallen
pub record IsRead (name : Text) (limit : ℕ) (a b : Told) (bytes : Text) : Type 0 where
  pub few : length bytes ≤ limit
  pub taken : Consumes (a.left name) (b.left name) bytes
  pub ended : IsAtEnd (b.left name)
  pub others : StayBut name a b
  pub later : (any : Text) → a.faults any ≤ b.faults any

-- A file is read whole, and its bytes decide further. It is too long, and then one byte more than the limit was taken; or it can't be read, and its count of
-- faults has risen; or memory runs out.
pub data OfFile (name : Text) (limit : ℕ) (Next : Text → Told → Told → Text → Status → Type 0) : Told → Told → Text → Status → Type 0 where
  too_long : {a b : Told} → TookJust (limit + 1) (a.left name) (b.left name) → StayBut name a b → OfFile name limit Next a b (line (codes "Too long " ++ name)) TooLong
  fault : {a b : Told} → Rose (a.faults name) (b.faults name) → TookAtMost limit (a.left name) (b.left name) → StayBut name a b → OfFile name limit Next a b (line (codes "Cannot read " ++ name)) ReadFault
  memory : {a b : Told} → TookAtMost (limit + 1) (a.left name) (b.left name) → StayBut name a b → OfFile name limit Next a b [] Memory
  read : {a mid b : Told} {text : Text} {status : Status} (bytes : Text) → IsRead name limit a mid bytes → Next bytes mid b text status → OfFile name limit Next a b text status
