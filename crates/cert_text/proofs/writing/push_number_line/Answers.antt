use Rattle.std.proofs.Common.{[], ◌++◌, ◌∷◌, ◌∙◌, ap, sym}
use Rattle.std.proofs.lemmas.List.{append_assoc}
use Rattle.cert_text.specs.Numerals.{behind_each}
use Rattle.cert_text.proofs.format.Written.{joined_is, further}
use Rattle.cert_text.proofs.writing.push_number_line.Goals as goal

pub returns : goal.returns
returns c =
    let o = c.args.out.now.items in
    let p = c.extend_from_slice.new.self.items in
    let q = c.push_numbers.new.out.items in
    let ns = behind_each 32 c.args.numbers.now in
    further o p c.push.new.self.items c.args.head.now (ns ++ 10 ∷ []) c.in_ok-extend_from_slice.ensures.items (further p q c.push.new.self.items ns (10 ∷ []) c.in_ok-push_numbers.ensures c.in_ok-push.ensures.items)
    ∙ ap (λ x. o ++ x) (sym (append_assoc c.args.head.now ns (10 ∷ [])) ∙ ap (λ x. x ++ 10 ∷ []) (sym (joined_is 32 c.args.head.now c.args.numbers.now)))
