use Rattle.std.proofs.Common.{sym, ◌∙◌}
use Rattle.ranked_terms.specs.lemmas.EqLaws.{eq-same, same-eq}
use Rattle.ranked_terms.proofs.binding.equal.Goals as goal

pub returns : goal.returns
returns c = (λ h. eq-same c.args.a.now c.args.b.now (sym c.eq.ensures ∙ h), λ e. c.eq.ensures ∙ same-eq c.args.a.now c.args.b.now e)
