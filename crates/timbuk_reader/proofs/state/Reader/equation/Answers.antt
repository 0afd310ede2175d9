use Rattle.std.proofs.Common.{refl, ap, arith}
use Rattle.std.proofs.lemmas.Grind.{common_steps}
use Rattle.timbuk_grammar.specs.Grammar.{equation}
use Rattle.spec_text.specs.Declarations.{Declared}
use Rattle.timbuk_reader.specs.View.{closed, state_of}
use Rattle.timbuk_reader.specs.Reads.{Stops}
use Rattle.trs_rules.specs.Rules.{IsEquation}
use Rattle.timbuk_grammar.specs.declared.terminal.Terminal.TheVariants as terminal
use Rattle.timbuk_reader.proofs.keeping.Rules.{all_push, equations_push, few_equated, equations_read, equation_left, equation_mark, equation_right, equation_whole}
use Rattle.timbuk_reader.proofs.state.Reader.equation.Goals as goal

pub returns-in_err-left-clause-reads : goal.returns-in_err-left-clause-reads
returns-in_err-left-clause-reads c =
    let e = c.in_err-left.field-0.0 in
    let stops : Stops equation closed c.args.self.now e = equation_left c.args.self.now c.side.new.self c.unbind.new.self c.unbind.ensures.same c.unbind.ensures.tokens c.unbind.ensures.bound e c.in_err-left.ensures.reads in
    grind (arith, common_steps)

pub returns-in_err-take-clause-reads : goal.returns-in_err-take-clause-reads
returns-in_err-take-clause-reads c =
    let e = c.in_err-take.field-0.0 in
    let stops : Stops equation closed c.args.self.now e = equation_mark c.args.self.now c.side.new.self c.unbind.new.self c.unbind.ensures.same c.unbind.ensures.tokens c.unbind.ensures.bound c.in_ok-left.left c.in_ok-left.ensures.reads e c.in_err-take.ensures.takes in
    grind (arith, common_steps)

pub returns-in_err-right-clause-reads : goal.returns-in_err-right-clause-reads
returns-in_err-right-clause-reads c =
    let e = c.in_err-right.field-0.0 in
    let stops : Stops equation closed c.args.self.now e =
    equation_right c.args.self.now c.side.new.self c.unbind.new.self c.unbind.ensures.same c.unbind.ensures.tokens c.unbind.ensures.bound c.in_ok-left.left c.in_ok-left.ensures.reads c.take.new.self c.in_ok-take.ensures.takes e c.in_err-right.ensures.reads in
    grind (arith, common_steps)

pub unreachable-requires : goal.unreachable-requires
unreachable-requires c =
    let u = c.side-2.new.self in
    let few = few_equated c.in_ok-left.left c.in_ok-right.right c.unbind.new.self c.side.new.self c.take.new.self u c.unbind.ensures.bound c.in_ok-left.ensures.reads c.in_ok-take.ensures.takes.bound c.in_ok-right.ensures.reads u.few_bound in
    let many = c.in-Err.ensures.refused.0 refl in
    omega arith

pub invariant_of-self-clause-equations_over : goal.invariant_of-self-clause-equations_over
invariant_of-self-clause-equations_over c =
    let left = c.in_ok-left.ensures.reads in
    let right = c.in_ok-right.ensures.reads in
    equations_push c.unbind.new.self c.side.new.self c.take.new.self c.side-2.new.self left.same terminal.Equals c.in_ok-take.ensures.takes right.same c.push.result c.in_ok-left.left c.in_ok-right.right c.push.new.self c.in-Ok.equation left.over right.over c.in-Ok.ensures.sides c.push.ensures.ok c.push.ensures.err

pub invariant_of-self-clause-are_equations : goal.invariant_of-self-clause-are_equations
invariant_of-self-clause-are_equations c =
    let u = c.side-2.new.self in
    all_push IsEquation c.push.result u.equations c.push.new.self c.in-Ok.equation c.push.ensures.ok c.push.ensures.err u.are_equations c.in-Ok.ensures.equation

pub returns-clause-reads : goal.returns-clause-reads
returns-clause-reads c =
    let u = c.side-2.new.self in
    let added = equations_read u.equations c.push.new.self c.in-Ok.equation c.in_ok-left.left c.in_ok-right.right c.in_ok-push-in-Ok.ensures.ok c.in-Ok.ensures.sides in
    equation_whole c.args.self.now c.side.new.self c.unbind.new.self c.unbind.ensures.same c.unbind.ensures.tokens c.unbind.ensures.bound c.in_ok-left.left c.in_ok-left.ensures.reads c.take.new.self c.in_ok-take.ensures.takes
    c.in_ok-right.right c.side-2.new.self _ c.in_ok-right.ensures.reads (ap {B = Declared} (λ z. record (state_of u) { equations = z }) added) refl refl
