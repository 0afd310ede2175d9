use Rattle.std.proofs.Common.{not, IfOk, OnErr, IsTrue, inl, ◌⊎◌}
use Rattle.state_match.specs.Groups.{TookAll, TookFirst, TookUpTo}
use Rattle.state_match.proofs.grouping.Fronts.{took_none, on_err_from}
use Rattle.state_match.proofs.grouping.Starts.{from_start}
use Rattle.state_match.proofs.groups.each_by.Goals as goal

pub returns-clause-whole : goal.returns-clause-whole
returns-clause-whole g c = from_start c.args.automaton.now c.args.vars.now c.args.pattern.now c.args.plain
    c.new-start.result c.new-start.ensures c.new-assignment.result.items c.new-assignment.ensures.items
    (λ P before. IfOk c.walk.result (λ on. IsTrue on → TookAll g.V.Groups.took P before c.args.visitor.now c.walk.new.visitor)) c.walk.ensures.whole

pub returns-clause-ended : goal.returns-clause-ended
returns-clause-ended g c = from_start c.args.automaton.now c.args.vars.now c.args.pattern.now c.args.plain
    c.new-start.result c.new-start.ensures c.new-assignment.result.items c.new-assignment.ensures.items
    (λ P before. IfOk c.walk.result (λ on. IsTrue (not on) → TookUpTo g.V.Groups.took g.V.Groups.ended P before c.args.visitor.now c.walk.new.visitor)) c.walk.ensures.ended

pub returns-clause-err : goal.returns-clause-err
returns-clause-err g c = from_start c.args.automaton.now c.args.vars.now c.args.pattern.now c.args.plain
    c.new-start.result c.new-start.ensures c.new-assignment.result.items c.new-assignment.ensures.items
    (λ P before. OnErr c.walk.result (TookFirst g.V.Groups.took P before c.args.visitor.now c.walk.new.visitor ⊎ TookUpTo g.V.Groups.took g.V.Groups.broke P before c.args.visitor.now c.walk.new.visitor)) c.walk.ensures.err

pub returns-in_err-edge-clause-err : goal.returns-in_err-edge-clause-err
returns-in_err-edge-clause-err g c = on_err_from c.from_residual-in_err-edge.result (inl took_none)

pub returns-in_err-below-clause-err : goal.returns-in_err-below-clause-err
returns-in_err-below-clause-err g c = on_err_from c.from_residual.result (inl took_none)
