use Rattle.std.proofs.Common.{◌<◌, arith}
use Rattle.command_words.proofs.Numbers.{below_million, one_digit_more}
use Rattle.command_words.proofs.number.number_of.Goals as goal

pub overflow_mul-number : goal.overflow_mul-number
overflow_mul-number c =
    let n = c.loop-digit.number in
    let below : n < 1000000 = below_million c.loop-digit.digit-index n (omega (arith, c.loop-digit-test.true, c.requires.few)) c.loop-digit.invariant.1 in
    omega (arith, below)

pub loop-digit-preserved : goal.loop-digit-preserved
loop-digit-preserved c =
    rw c.from.ensures
    (one_digit_more c.args.digits.now c.loop-digit.digit-index c.loop-digit.number c.loop-digit-test.true c.requires.digits c.loop-digit.invariant.0 c.loop-digit.invariant.1)
