use Rattle.std.proofs.Common.{refl}
use Rattle.verdicts.proofs.completing.complete.Goals as goal

pub returns : goal.returns
returns c =
    let found = c.in_ok-outcome.ensures in
    record {
      options = c.args.options;
      same_limits = refl;
      verdict = found.verdict;
      shows = found.shows;
      checkable = found.checkable;
      is_text = c.in_ok-text.ensures;
    }
