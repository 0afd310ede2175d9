use Rattle.cert_text.proofs.format.Symbols.{word_is_utf8}
use Rattle.cert_text.proofs.entries.symbol_of.Goals as goal

pub returns-in_default : goal.returns-in_default
returns-in_default c = λ told. c.in_default.ensures.cases.0 (word_is_utf8 c.args.name.now c.requires)
