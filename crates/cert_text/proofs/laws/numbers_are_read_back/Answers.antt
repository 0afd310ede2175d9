use Rattle.cert_text.proofs.fields.NumberLines.{numbers_read_back}
use Rattle.cert_text.proofs.laws.numbers_are_read_back.Goals as goal

pub returns : goal.returns
returns c = numbers_read_back
