use Rattle.std.proofs.Common.{◌≡◌, ◌≤◌, ◌+◌, ◌-◌, length, take}
use Rattle.timbuk_lex.specs.Lexing.{lexed}
use Rattle.timbuk_lex.specs.Places.{IsPlace}
use Rattle.timbuk_lex.proofs.Cutting.{behind, rest_at}
use Rattle.timbuk_lex.proofs.lex.lex_of.Given as goal

abbrev pub invariant-loop-start : goal.invariant-loop-start
invariant-loop-start l = record {
  within : l.start ≤ length l.bytes;
  bounds : (l.place.line ≤ l.start + 1) × (l.place.column ≤ l.start + 1);
  place : IsPlace l.place (take l.start l.bytes);
  so_far : lexed l.bytes ≡ behind l.tokens (rest_at l.bytes l.start);
}

abbrev pub decreases-loop-start : goal.decreases-loop-start
decreases-loop-start l = length l.bytes - l.start
