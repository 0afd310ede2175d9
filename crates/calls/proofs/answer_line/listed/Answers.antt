use Rattle.std.proofs.Common.{◌≡◌, ℕ, ◌+◌, ◌<◌, List, ◌∷◌, ◌++◌, length, get_or, drop, string_bytes, append_assoc, sym, ap, ◌∙◌}
use Rattle.std.proofs.lemmas.List.{at_drop_more}
use Rattle.std.specs.Fmt.{decimal}
use Rattle.calls.specs.AnswerText.{further_text}
use Rattle.calls.proofs.answer_line.listed.Goals as goal

next_text : (a b whole items : List ℕ) (i : ℕ) → i < length items → a ++ further_text (drop i items) ≡ whole → b ≡ a ++ 44 ∷ decimal (get_or items i 0) → b ++ further_text (drop (i + 1) items) ≡ whole
next_text a b whole items i less before is =
    let rest = drop (i + 1) items in
    let x = get_or items i 0 in
    let split : further_text (drop i items) ≡ further_text (x ∷ rest) = at_drop_more further_text items i 0 less in
    ap (λ t. t ++ further_text rest) is ∙ (append_assoc a (44 ∷ decimal x) (further_text rest) ∙ (ap (λ t. a ++ t) (sym split) ∙ before))

pub loop-state-preserved : goal.loop-state-preserved
loop-state-preserved c =
    next_text (string_bytes c.loop-state.text) (string_bytes c.in_ok-text-2.text) _ c.args.further.now c.loop-state.state-index c.loop-state-test.true c.loop-state.invariant c.in_ok-text-2.ensures.ok
