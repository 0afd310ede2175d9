-- A text is read without a fault exactly where it spells a specification, and so where no row of the table of faults fits.
use Rattle.spec_text.proofs.existence.Specs.{faultless_is_spelled}
use Rattle.spec_text.proofs.agreement.sections.Texts.{read_is_spelled, spelled_is_read}
use Rattle.spec_text.proofs.laws.texts_are_read.Goals as goal

pub returns-clause-read : goal.returns-clause-read
returns-clause-read c = read_is_spelled

pub returns-clause-spelled : goal.returns-clause-spelled
returns-clause-spelled c = spelled_is_read

pub returns-clause-faultless : goal.returns-clause-faultless
returns-clause-faultless c = faultless_is_spelled
