use Rattle.std.proofs.Common.{ℕ, List, sym, eqb-true, rules}
use Rattle.std.specs.List.{Contains}
use Rattle.std.proofs.lemmas.Iterator.{cases_from_all, YieldsList-from_slice, YieldsList-from_zip}
use Rattle.list_laws.proofs.Zips.{zip_answers, zip_length}
use Rattle.ta_core.proofs.runs.are_members.Goals as goal

pub returns-then-states-sets : goal.returns-then-states-sets
returns-then-states-sets c =
    let qs = c.args.states.now in
    let sets = c.args.sets.now in
    zip_answers qs sets c.all.result c.if-states-sets.true
    (cases_from_all c.all.new.self _ _ (λ (p : ℕ × List ℕ). Contains p.1 p.0) (λ p. ¬ Contains p.1 p.0) c.all.ensures.ran (YieldsList-from_zip (YieldsList-from_slice qs cc) (YieldsList-from_slice sets cc)) (λ x q k. search rules) (λ x q k. search rules))

pub returns-else-states-sets : goal.returns-else-states-sets
returns-else-states-sets c = (
  λ t. absurd (c.if-states-sets.false (eqb-true _ _ t)),
  λ z. absurd (c.if-states-sets.false (sym (zip_length c.args.sets.now c.args.states.now z))),
)
