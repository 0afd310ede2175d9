use Rattle.std.proofs.Common.{[], refl, sym, append-nil}
use Rattle.ranked_terms.specs.Terms.{occurrences}
use Rattle.trs_rules.proofs.occurrences.repeated_variable.Goals as goal

pub returns : goal.returns
returns c = c.repeat_in.ensures.repeat [] [] (sym (append-nil (occurrences c.args.pattern.now))) (record { no_repeat = refl; last_is = refl })
