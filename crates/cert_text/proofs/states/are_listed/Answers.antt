use Rattle.std.proofs.Common.{sym, refl, rules, arith, true≢false, get_or}
use Rattle.std.specs.Prelude.{Contains}
use Rattle.std.proofs.lemmas.List.Elements.{All-from_get_or}
use Rattle.cert_text.proofs.rows.Told.{is_not, is_so}
use Rattle.cert_text.proofs.rows.LineRows.{up_to}
use Rattle.cert_text.proofs.states.are_listed.Goals as goal

pub returns-then-not-there : goal.returns-then-not-there
returns-then-not-there c = ((λ yes. absurd (true≢false (sym yes))), λ all. absurd (is_not c.has-there.result _ (search rules) c.has-there.ensures (all c.loop-number.number-index 0 c.loop-number-test.true)))

pub returns : goal.returns
returns c = ((λ yes. All-from_get_or (Contains c.args.states.now) c.args.numbers.now 0 (λ k lt. c.loop-number.invariant k (omega (arith, lt, c.loop-number-test.false)))), λ all. refl)

pub loop-number-preserved : goal.loop-number-preserved
loop-number-preserved c = up_to (λ k. Contains c.args.states.now (get_or c.args.numbers.now k 0)) c.loop-number.number-index c.loop-number.invariant (is_so c.has-there.result _ (search rules) c.has-there.ensures)
