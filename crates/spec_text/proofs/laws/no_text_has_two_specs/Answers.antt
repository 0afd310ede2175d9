-- No text spells two specifications.
use Rattle.spec_text.proofs.uniqueness.Specs.{one_spec}
use Rattle.spec_text.proofs.laws.no_text_has_two_specs.Goals as goal

pub returns : goal.returns
returns c = one_spec
