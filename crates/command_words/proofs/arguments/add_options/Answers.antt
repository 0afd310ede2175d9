use Rattle.std.proofs.Common.{◌∙◌, refl, ap}
use Rattle.clap.specs.Words.{App, app_of, with_rule}
use Rattle.command_words.specs.Commands.{option_rule}
use Rattle.command_words.proofs.Adding.{next, all_added}
use Rattle.command_words.proofs.arguments.add_options.Goals as goal

pub loop-name-init : goal.loop-name-init
loop-name-init c = refl

pub loop-name-preserved : goal.loop-name-preserved
loop-name-preserved c =
    next (λ (app : App) name. with_rule app (option_rule name)) (app_of c.args.command) c.args.names.now c.loop-name.name-index _ c.loop-name-test.true
    (app_of c.loop-name.command) (app_of c.in_ok-command.command) c.loop-name.invariant
    (c.in_ok-command.ensures.shape c.option.ensures.here ∙ ap (with_rule (app_of c.loop-name.command)) c.option.ensures.rule)

pub returns : goal.returns
returns c = c.loop-name.invariant ∙ all_added (λ (app : App) name. with_rule app (option_rule name)) (app_of c.args.command) c.args.names.now c.loop-name.name-index c.loop-name-test.false
