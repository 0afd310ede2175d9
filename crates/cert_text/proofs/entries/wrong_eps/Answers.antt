use Rattle.std.proofs.Common.{rules}
use Rattle.cert_text.specs.Taking.{state, order}
use Rattle.cert_text.proofs.rows.Told.{is_not, is_so}
use Rattle.cert_text.proofs.entries.wrong_eps.Goals as goal

pub returns-then-not-known-clause-wrong : goal.returns-then-not-known-clause-wrong
returns-then-not-known-clause-wrong c = state (λ both. is_not c.has-known.result _ (search rules) c.has-known.ensures both.0)

pub returns-then-not-there-clause-wrong : goal.returns-then-not-there-clause-wrong
returns-then-not-there-clause-wrong c = state (λ both. is_not c.has-there.result _ (search rules) c.has-there.ensures both.1)

pub returns-then-pair-clause-wrong : goal.returns-then-pair-clause-wrong
returns-then-pair-clause-wrong c =
    order (is_so c.has-known.result _ (search rules) c.has-known.ensures) (is_so c.has-there.result _ (search rules) c.has-there.ensures) (λ both. both.0 c.if-pair.true)

pub returns-then-not-follows-clause-wrong : goal.returns-then-not-follows-clause-wrong
returns-then-not-follows-clause-wrong c =
    order (is_so c.has-known.result _ (search rules) c.has-known.ensures) (is_so c.has-there.result _ (search rules) c.has-there.ensures)
    (λ both. is_not c.pair_follows-follows.result _ (search rules) c.pair_follows-follows.ensures both.1)
