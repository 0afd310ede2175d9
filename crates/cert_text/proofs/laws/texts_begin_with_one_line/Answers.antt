use Rattle.cert_text.proofs.format.Formed.{begins_once}
use Rattle.cert_text.proofs.laws.texts_begin_with_one_line.Goals as goal

pub returns : goal.returns
returns c = begins_once
