use Rattle.std.proofs.Common.{refl}
use Rattle.cert_text.proofs.fields.Texts.{cut_parted, cut_lacking}
use Rattle.cert_text.proofs.cuts.front_word.Goals as goal

pub returns-in-Some : goal.returns-in-Some
returns-in-Some c = cut_parted c.args.byte c.args.line.now c.in-Some.word.now c.in-Some.rest.now c.in-Some.ensures.some

pub returns-in-None : goal.returns-in-None
returns-in-None c = cut_lacking c.args.byte c.args.line.now (c.in-None.ensures.none refl)
