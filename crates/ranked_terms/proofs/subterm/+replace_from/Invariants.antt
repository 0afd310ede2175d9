use Rattle.std.proofs.Common.{◌-◌, length}
use Rattle.ranked_terms.proofs.subterm.+replace_from.Given as goal

abbrev pub decreases-replace_from : goal.decreases-replace_from
decreases-replace_from l = length l.numbers.now - l.from
