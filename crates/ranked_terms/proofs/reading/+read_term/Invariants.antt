use Rattle.std.proofs.Common.{◌≡◌, length}
use Rattle.ranked_terms.proofs.texts.ReadingLaws.{AreRead}
use Rattle.ranked_terms.proofs.reading.+read_term.Given as goal

abbrev pub decreases-read_term : goal.decreases-read_term
decreases-read_term l = l.room

abbrev pub invariant-loop : goal.invariant-loop
invariant-loop l = record {
  count : length l.args ≡ l.counter;
  read : AreRead l.sig l.head.arity l.room l.head.rest.now l.args l.mark l.rest l.left;
}
