use Rattle.std.proofs.Common.{sym, ap, ◌∙◌, ◌==◌}
use Rattle.std.specs.List.{list_any}
use Rattle.timbuk_reader.proofs.keeping.Approximation.{own_new, own_bound, own_there}
use Rattle.timbuk_reader.proofs.approximation.StartedEntry.add_variable.Goals as goal
use Rattle.timbuk_reader.proofs.approximation.StartedEntry.add_variable.Goals.{else-not-contains-via-then-not-contains+else-not-contains-2, else-not-contains-via-else-not-contains}

pub returns-in_ok-push-clause-own : goal.returns-in_ok-push-clause-own
returns-in_ok-push-clause-own c =
    c.in_ok-push.ensures.ok ∙ sym (own_new c.args.bound.now c.args.self.now.own c.args.variable (sym c.contains.ensures ∙ c.if-not-contains.true) (sym (ap (list_any (λ w. c.args.variable == w)) (c.as_slice.ensures)) ∙ sym c.contains-then-not-contains.ensures ∙ c.if-not-contains-2.true))

pub returns-else-not-contains-clause-own : goal.returns-else-not-contains-clause-own
returns-else-not-contains-clause-own c =
    elim c.else-not-contains.branch [
      | else-not-contains-via-then-not-contains+else-not-contains-2 w ↦ sym (own_there c.args.bound.now c.args.self.now.own c.args.variable (sym (ap (list_any (λ w'. c.args.variable == w')) (w.as_slice.ensures)) ∙ sym w.contains-then-not-contains.ensures ∙ w.if-not-contains-2.false))
      | else-not-contains-via-else-not-contains w ↦ sym (own_bound c.args.bound.now c.args.self.now.own c.args.variable (sym c.contains.ensures ∙ w.if-not-contains.false))
    ]
