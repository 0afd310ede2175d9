use Rattle.std.proofs.Common.{refl, arith}
use Rattle.state_match.proofs.members.KeptTables.{grows_variable, gathers_more, grows_application}
use Rattle.state_match.proofs.nodes.+add_below.Goals as goal

pub loop-arg-preserved : goal.loop-arg-preserved
loop-arg-preserved t c = λ before are.
    gathers_more c.args.vars.now before c.loop-arg.nodes.items c.loop-arg.own.items c.push.new.self.items c.add_below.new.nodes.items c.loop-arg.until c.max-until.result c.as_slice-arg-items.result.now c.loop-arg.arg-index c.arg-item.result c.in_ok-node-in-App.node
    c.loop-arg-test.true c.arg-item.is (c.loop-arg.invariant before are) c.in_ok-node-in-App.ensures c.in_ok-push-in-App.ensures.items (omega (arith, c.max-until.ensures)) (omega (arith, c.max-until.ensures))

pub returns-in-Var : goal.returns-in-Var
returns-in-Var t c = λ before are.
    grows_variable c.args.vars.now before c.args.nodes.now.items c.variable_node.result c.in-Var.variable c.args.pattern.now c.in-Var.is c.variable_node.ensures.until c.variable_node.ensures.source are

pub returns-in_ok-extend_from_slice-in-App : goal.returns-in_ok-extend_from_slice-in-App
returns-in_ok-extend_from_slice-in-App t c = λ before are.
    grows_application c.args.vars.now before c.loop-arg.nodes.items c.loop-arg.own.items c.extend_from_slice.new.self.items c.as_slice-arg-items.result.now c.in-App.args c.loop-arg.arg-index c.in-App.sym c.len-start.result c.len.result _ c.args.pattern.now
    c.loop-arg-test.false c.as_slice-arg-items.ensures c.in-App.is (c.loop-arg.invariant before are) (rw c.as_slice.ensures.value at c.in_ok-extend_from_slice-in-App.ensures.items)
    (omega (arith, c.len-start.ensures, c.loop-arg.nodes.ok.0)) (omega (arith, c.len.ensures, c.loop-arg.own.ok.0)) refl
