use Rattle.std.proofs.Common.{◌≡◌, ◌++◌, ◌∷◌, drop, string_bytes}
use Rattle.calls.specs.AnswerText.{sigma_text, further_text}
use Rattle.calls.proofs.answer_line.listed.Given as goal

-- what is to come completes the text
abbrev pub invariant-loop-state : goal.invariant-loop-state
invariant-loop-state l = string_bytes l.text ++ further_text (drop l.state-index l.further) ≡ sigma_text (l.fn.first ∷ l.further)
