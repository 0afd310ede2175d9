use Rattle.std.proofs.Common.{refl, ap, arith}
use Rattle.std.proofs.lemmas.Grind.{common_steps}
use Rattle.timbuk_grammar.specs.declared.terminal.Terminal.TheVariants as terminal
use Rattle.timbuk_grammar.specs.Grammar.{rule}
use Rattle.spec_text.specs.Declarations.{Declared}
use Rattle.timbuk_reader.specs.View.{closed, state_of}
use Rattle.timbuk_reader.specs.Reads.{Stops}
use Rattle.timbuk_reader.proofs.keeping.Rules.{no_rule_fault, kept_push, rules_push, rules_read, rule_left, rule_arrow, rule_right, rule_whole}
use Rattle.timbuk_reader.proofs.state.Reader.rule.Goals as goal

pub returns-in_err-left-clause-reads : goal.returns-in_err-left-clause-reads
returns-in_err-left-clause-reads c =
    let e = c.in_err-left.field-0.0 in
    let stops : Stops rule closed c.args.self.now e = rule_left c.args.self.now c.side.new.self c.unbind.new.self c.unbind.ensures.same c.unbind.ensures.tokens c.unbind.ensures.bound e c.in_err-left.ensures.reads in
    grind (arith, common_steps)

pub returns-in_err-take-clause-reads : goal.returns-in_err-take-clause-reads
returns-in_err-take-clause-reads c =
    let e = c.in_err-take.field-0.0 in
    let stops : Stops rule closed c.args.self.now e = rule_arrow c.args.self.now c.side.new.self c.unbind.new.self c.unbind.ensures.same c.unbind.ensures.tokens c.unbind.ensures.bound c.in_ok-left.left c.in_ok-left.ensures.reads e c.in_err-take.ensures.takes in
    grind (arith, common_steps)

pub returns-in_err-right-clause-reads : goal.returns-in_err-right-clause-reads
returns-in_err-right-clause-reads c =
    let e = c.in_err-right.field-0.0 in
    let stops : Stops rule closed c.args.self.now e =
    rule_right c.args.self.now c.side.new.self c.unbind.new.self c.unbind.ensures.same c.unbind.ensures.tokens c.unbind.ensures.bound c.in_ok-left.left c.in_ok-left.ensures.reads c.take.new.self c.in_ok-take.ensures.takes e c.in_err-right.ensures.reads in
    grind (arith, common_steps)

pub unreachable-requires : goal.unreachable-requires
unreachable-requires c =
    let m = c.side.new.self in
    no_rule_fault c.in_ok-left.left c.in_ok-right.right c.unbind.new.self m c.take.new.self c.side-2.new.self c.unbind.ensures.bound c.in_ok-left.ensures.reads c.in_ok-take.ensures.takes.bound c.in_ok-right.ensures.reads m.few_bound
    c.in-Err.field-0 c.new.result c.in-Err.is c.new.ensures.variable_left c.new.ensures.not_left_linear c.new.ensures.free_variable c.new.ensures.too_many_variables

pub invariant_of-self-clause-rules_over : goal.invariant_of-self-clause-rules_over
invariant_of-self-clause-rules_over c =
    let left = c.in_ok-left.ensures.reads in
    let right = c.in_ok-right.ensures.reads in
    rules_push c.unbind.new.self c.side.new.self c.take.new.self c.side-2.new.self left.same terminal.Arrow c.in_ok-take.ensures.takes right.same c.push.result c.in_ok-left.left c.in_ok-right.right c.push.new.self c.in-Ok.rule left.over right.over c.in-Ok.ensures.sides c.push.ensures.ok c.push.ensures.err

pub invariant_of-self-clause-are_rules : goal.invariant_of-self-clause-are_rules
invariant_of-self-clause-are_rules c =
    let u = c.side-2.new.self in
    kept_push c.push.result u.rules c.push.new.self c.in-Ok.rule c.push.ensures.ok c.push.ensures.err u.are_rules c.in-Ok.ensures.rule

pub returns-clause-reads : goal.returns-clause-reads
returns-clause-reads c =
    let u = c.side-2.new.self in
    let added = rules_read u.rules c.push.new.self c.in-Ok.rule c.in_ok-left.left c.in_ok-right.right c.in_ok-push-in-Ok.ensures.ok c.in-Ok.ensures.sides in
    rule_whole c.args.self.now c.side.new.self c.unbind.new.self c.unbind.ensures.same c.unbind.ensures.tokens c.unbind.ensures.bound c.in_ok-left.left c.in_ok-left.ensures.reads c.take.new.self c.in_ok-take.ensures.takes
    c.in_ok-right.right c.side-2.new.self _ c.in_ok-right.ensures.reads (ap {B = Declared} (λ z. record (state_of u) { rules = z }) added) refl refl
