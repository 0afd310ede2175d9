use Rattle.std.proofs.Common.{◌≡◌, ◌-◌, drop}
use Rattle.timbuk_lex.specs.Bytes.{close_at}
use Rattle.timbuk_lex.proofs.Closing.{shifted}
use Rattle.timbuk_lex.proofs.piece.close_at.Given as goal

abbrev pub invariant-loop-i : goal.invariant-loop-i
invariant-loop-i l = close_at l.bytes ≡ shifted (l.i - 1) (close_at (drop (l.i - 1) l.bytes))
