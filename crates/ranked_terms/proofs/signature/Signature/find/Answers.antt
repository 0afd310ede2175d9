use Rattle.std.proofs.Common.{◌∙◌}
use Rattle.ranked_terms.proofs.signatures.SignatureLemmas.{number_of-view, number_of-unique}
use Rattle.ranked_terms.proofs.signature.Signature.find.Goals as goal

pub returns-in_err-number-clause-value : goal.returns-in_err-number-clause-value
returns-in_err-number-clause-value c =
    c.from_residual.ensures ∙ (c.in_err-number.ensures.index ∙ number_of-view c.self.inside.symbols.entries c.args.self.now c.args.name.now c.self.view_is)

pub returns-in_err-number-clause-only : goal.returns-in_err-number-clause-only
returns-in_err-number-clause-only c = λ number named.
    returns-in_err-number-clause-value c ∙ number_of-unique c.self.inside.symbols.entries c.args.self.now c.args.name.now number c.self.view_is c.self.invariant named

pub returns-clause-value : goal.returns-clause-value
returns-clause-value c =
    c.in_ok-number.ensures.index ∙ number_of-view c.self.inside.symbols.entries c.args.self.now c.args.name.now c.self.view_is

pub returns-clause-only : goal.returns-clause-only
returns-clause-only c = λ number named.
    returns-clause-value c ∙ number_of-unique c.self.inside.symbols.entries c.args.self.now c.args.name.now number c.self.view_is c.self.invariant named
