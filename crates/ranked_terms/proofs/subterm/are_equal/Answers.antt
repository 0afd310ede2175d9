use Rattle.std.proofs.Common.{sym, ◌∙◌}
use Rattle.ranked_terms.proofs.places.ChangeLaws.{lists-same, same-lists}
use Rattle.ranked_terms.proofs.subterm.are_equal.Goals as goal

pub returns : goal.returns
returns c = (λ h. lists-same c.args.ss.now c.args.ts.now (sym c.eq.ensures ∙ h), λ e. c.eq.ensures ∙ same-lists c.args.ss.now c.args.ts.now e)
