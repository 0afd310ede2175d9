use Rattle.std.proofs.Common.{◌≡◌, ◌-◌, ◌+◌, ◌*◌, min, map, get_or, arith, ap, sym, ◌∙◌}
use Rattle.std.specs.Prelude.{take}
use Rattle.std.specs.Int.Digits.{number_from_digits}
use Rattle.std.proofs.lemmas.Int.Digits.{number_more}
use Rattle.std.proofs.lemmas.List.{length-map, get_or-map}
use Rattle.cert_text.proofs.fields.Numbers.{saturates}
use Rattle.cert_text.proofs.words.saturated.Goals as goal

pub loop-digit-preserved : goal.loop-digit-preserved
loop-digit-preserved c =
    let lt = c.loop-digit-test.true in
    let ds = map (λ c. c - 48) c.args.digits.now in
    let i = c.loop-digit.digit-index in
    let more = number_more 10 ds i (omega (arith, length-map c.args.digits.now (λ c. c - 48), lt)) in
    let digit : get_or ds i 0 ≡ c.from.result = get_or-map (λ c. c - 48) c.args.digits.now i 0 0 lt ∙ sym c.from.ensures in
    c.saturating_add-number.ensures ∙ ap (λ x. min (x + c.from.result) 4294967295) c.saturating_mul.ensures
    ∙ saturates (number_from_digits 10 (take i ds)) c.loop-digit.number c.from.result c.loop-digit.invariant
    ∙ ap (λ d. min (number_from_digits 10 (take i ds) * 10 + d) 4294967295) (sym digit) ∙ ap (λ v. min v 4294967295) (sym more)
