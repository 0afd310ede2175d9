use Rattle.std.proofs.Common.{sym, subst, ◌∙◌}
use Rattle.ranked_terms.specs.SignatureRules.{IsSignature}
use Rattle.ranked_terms.proofs.signatures.SignatureLemmas.{symbols_of-clone}
use Rattle.ranked_terms.proofs.signature.Signature.copy.Goals as goal

pub invariant_of-result : goal.invariant_of-result
invariant_of-result c =
    subst IsSignature (sym (symbols_of-clone c.self.inside.symbols.entries c.in_ok-clone.field-0.entries c.in_ok-clone.ensures.cases)) c.self.invariant

pub returns : goal.returns
returns c =
    symbols_of-clone c.self.inside.symbols.entries c.in_ok-clone.field-0.entries c.in_ok-clone.ensures.cases ∙ c.self.view_is
