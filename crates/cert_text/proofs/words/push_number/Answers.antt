use Rattle.std.proofs.Common.{arith, rules}
use Rattle.cert_text.proofs.fields.Decimals.{decimal_is}
use Rattle.cert_text.proofs.words.push_number.Goals as goal

pub returns : goal.returns
returns c = rw (decimal_is c.args.number (omega (arith, c.ranges.number.fits))) (search rules)
