use Rattle.cert_text.proofs.format.OneLine.{line_is_one}
use Rattle.cert_text.proofs.fields.Applied.{words_once}
use Rattle.cert_text.proofs.laws.lines_differ.Goals as goal

pub returns : goal.returns
returns c = line_is_one words_once
