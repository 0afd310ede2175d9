use Rattle.std.proofs.Common.{◌≡◌, true, sym, subst}
use Rattle.cert_text.specs.declared.outcome.Outcome.{Outcome}
use Rattle.cert_text.specs.Certificates.{outcome_is_over}
use Rattle.library_cases.proofs.Over.{within_is_over}
use Rattle.library_cases.proofs.certificates.read_again.Goals as goal

pub again_line-requires : goal.again_line-requires
again_line-requires c =
    let over = within_is_over c.args.spec.now c.in-Ok.certificate c.in-Ok.ensures.reads.within in
    subst (λ (o : Outcome). outcome_is_over c.args.spec.now.signature o ≡ true) (sym c.told_outcome.ensures) over
