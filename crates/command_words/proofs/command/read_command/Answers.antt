use Rattle.std.proofs.Common.{◌∙◌}
use Rattle.command_words.proofs.Outcomes.{no_command}
use Rattle.command_words.proofs.command.read_command.Goals as goal

pub returns-in_default-as_str-clause-bad : goal.returns-in_default-as_str-clause-bad
returns-in_default-as_str-clause-bad c = λ bad.
    no_command c.args.words.now c.in-Some.name.now c.in-Some.ensures.value (λ e. c.in_default-as_str.not-complete (c.as_str.ensures.value ∙ e)) (λ e. c.in_default-as_str.not-check (c.as_str.ensures.value ∙ e))
