use Rattle.cert_text.proofs.uniqueness.OneCertificate.{one_certificate}
use Rattle.cert_text.proofs.laws.certificates_have_different_texts.Goals as goal

pub returns : goal.returns
returns c = one_certificate c.of_terms_over.ensures.texts
