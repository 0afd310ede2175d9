use Rattle.std.proofs.Common.{ℕ, rules}
use Rattle.std.proofs.lemmas.Iterator.{cases_from_all, YieldsList-from_slice, YieldsList-from_zip}
use Rattle.ta_clean.specs.Tables.{IsMarked}
use Rattle.ta_clean.proofs.marking.MarkedArguments.{are_all_by}
use Rattle.ta_clean.proofs.meeting.product.are_marked.Goals as goal

pub returns-then-firsts-seconds : goal.returns-then-firsts-seconds
returns-then-firsts-seconds c =
    let ps = c.args.firsts.now in
    let qs = c.args.seconds.now in
    let P = IsMarked c.args.grid.now in
    are_all_by P ps qs c.all.result
    (cases_from_all c.all.new.self _ _ (λ (p : ℕ × ℕ). P p) (λ p. ¬ P p) c.all.ensures.ran (YieldsList-from_zip (YieldsList-from_slice ps cc) (YieldsList-from_slice qs cc)) (λ x q k. search rules) (λ x q k. search rules))
    c.if-firsts-seconds.true
