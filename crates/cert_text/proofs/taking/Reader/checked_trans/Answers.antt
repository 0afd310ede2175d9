use Rattle.std.proofs.Common.{rules, option_map}
use Rattle.cert_text.specs.declared.certificate.CertKind.TheVariants as kind
use Rattle.cert_text.specs.Taking.{IsWrongTrans, symbol, state, order}
use Rattle.cert_text.proofs.rows.Told.{is_not, is_so, told_fault}
use Rattle.cert_text.proofs.rows.EntryRows.{args_same}
use Rattle.cert_text.proofs.taking.Reader.checked_trans.Goals as goal

pub returns-in_default-clause-wrong : goal.returns-in_default-clause-wrong
returns-in_default-clause-wrong c = λ f is.
    told_fault (IsWrongTrans c.args.sig.now c.args.states.now (option_map (λ u. u.now) c.args.last) c.args.name.now c.args.args.now c.args.to) c.args.self.now.line kind.Symbol f (cc) (symbol c.in_default.ensures)

pub returns-then-not-known-clause-wrong : goal.returns-then-not-known-clause-wrong
returns-then-not-known-clause-wrong c = λ f is.
    told_fault (IsWrongTrans c.args.sig.now c.args.states.now (option_map (λ u. u.now) c.args.last) c.args.name.now c.args.args.now c.args.to) c.args.self.now.line kind.State f (cc)
    (state (record { sym = c.in-Some.sym; named = c.in-Some.ensures.0; arity = c.in-Some.ensures.1 }) (λ both. is_not c.are_listed-known.result _ (search rules) c.are_listed-known.ensures both.0))

pub returns-then-not-there-clause-wrong : goal.returns-then-not-there-clause-wrong
returns-then-not-there-clause-wrong c = λ f is.
    told_fault (IsWrongTrans c.args.sig.now c.args.states.now (option_map (λ u. u.now) c.args.last) c.args.name.now c.args.args.now c.args.to) c.args.self.now.line kind.State f (cc)
    (state (record { sym = c.in-Some.sym; named = c.in-Some.ensures.0; arity = c.in-Some.ensures.1 }) (λ both. is_not c.has-there.result _ (search rules) c.has-there.ensures both.1))

pub returns-then-not-follows-clause-wrong : goal.returns-then-not-follows-clause-wrong
returns-then-not-follows-clause-wrong c = λ f is.
    told_fault (IsWrongTrans c.args.sig.now c.args.states.now (option_map (λ u. u.now) c.args.last) c.args.name.now c.args.args.now c.args.to) c.args.self.now.line kind.Order f (cc)
    (order c.in-Some.sym c.in-Some.ensures.0 c.in-Some.ensures.1 (is_so c.are_listed-known.result _ (search rules) c.are_listed-known.ensures) (is_so c.has-there.result _ (search rules) c.has-there.ensures)
    (λ follows. is_not c.trans_follows-follows.result _ (search rules) c.trans_follows-follows.ensures (args_same (option_map (λ u. u.now) c.args.last) c.in-Some.sym c.args.to c.args.args.now c.in_ok-args.args c.in_ok-args.ensures follows)))
