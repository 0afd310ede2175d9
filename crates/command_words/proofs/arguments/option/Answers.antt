use Rattle.std.proofs.Common.{ap, ◌∙◌, Some}
use Rattle.clap.specs.Words.{Rule, rule_of}
use Rattle.clap.specs.declared.builder.arg.Arg.{Arg}
use Rattle.clap.specs.declared.builder.ArgAction.TheVariants.{Set}
use Rattle.command_words.proofs.arguments.option.Goals as goal

pub returns-clause-rule : goal.returns-clause-rule
returns-clause-rule c =
    let name = c.args.name in
    ap rule_of c.action.ensures ∙ (ap (λ (a : Arg). rule_of (record a { action = Some Set })) c.long.ensures ∙ ap (λ (r : Rule). record r { long = Some name.now; action = Some Set }) c.new.ensures.rule)
