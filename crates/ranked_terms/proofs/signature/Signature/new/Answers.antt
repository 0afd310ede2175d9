use Rattle.ranked_terms.proofs.signatures.SignatureLemmas.{IsSignature-empty}
use Rattle.ranked_terms.proofs.signature.Signature.new.Goals as goal

pub invariant_of-result : goal.invariant_of-result
invariant_of-result c = IsSignature-empty c.new.result.entries c.new.ensures.empty
