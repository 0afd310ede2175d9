use Rattle.std.proofs.Common.{◌≤◌, ◌+◌, ◌++◌, take, List, ℕ}
use Rattle.timbuk_lex.specs.Places.{IsPlace}
use Rattle.timbuk_lex.proofs.place.Place.after.Given as goal

abbrev pub invariant-loop-b : goal.invariant-loop-b
invariant-loop-b l = record {
  follows : (before : List ℕ) → IsPlace l.fn.self before → IsPlace l.place (before ++ take l.b-index l.bytes);
  line : l.place.line ≤ l.fn.self.line + l.b-index;
  column : l.place.column ≤ l.fn.self.column + l.b-index;
}
