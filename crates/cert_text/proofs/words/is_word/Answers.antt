use Rattle.std.proofs.Common.{rules}
use Rattle.cert_text.proofs.fields.Arrows.{word_by}
use Rattle.cert_text.proofs.words.is_word.Goals as goal

pub returns-then-not-is_empty : goal.returns-then-not-is_empty
returns-then-not-is_empty c = word_by c.are_word_bytes.result c.args.text.now (search rules) c.are_word_bytes.ensures
