use Rattle.reach_rows.proofs.Words.{IsJoining}
use Rattle.reach_rows.proofs.bits.join_words.Given as goal

abbrev pub invariant-loop-at : goal.invariant-loop-at
invariant-loop-at l = IsJoining l.fn.words l.others l.at l.more l.words
