use Rattle.std.proofs.Common.{IfOk, string_bytes, sym, subst}
use Rattle.cert_text.specs.Certificates.{IsWithin, IsClaim}
use Rattle.calls.specs.Checks.{Checks}
use Rattle.calls.proofs.checking.checked.Goals as goal

pub checked_automaton-requires-clause-images : goal.checked_automaton-requires-clause-images
checked_automaton-requires-clause-images c =
    let in_claim = c.in-Unreachable in
    let within : IsClaim c.args.spec.now in_claim.rounds in_claim.automaton in_claim.map = subst (IsWithin c.args.spec.now) in_claim.is c.requires in
    within.images

pub returns-in-Unreachable : goal.returns-in-Unreachable
returns-in-Unreachable c = subst (λ x. IfOk c.checked_automaton.result (λ a. Checks c.args.spec.now x (string_bytes a.1) a.0)) (sym c.in-Unreachable.is) c.checked_automaton.ensures

pub returns-in-Reachable : goal.returns-in-Reachable
returns-in-Reachable c = subst (λ x. IfOk c.checked_derivation.result (λ a. Checks c.args.spec.now x (string_bytes a.1) a.0)) (sym c.in-Reachable.is) c.checked_derivation.ensures
