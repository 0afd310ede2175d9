use Rattle.std.proofs.Common.{◌∙◌, ap, rules, sym}
use Rattle.std.specs.Option.{option_copied}
use Rattle.ranked_terms.specs.declared.term.Pattern.TheViews.{the_lemmas}
use Rattle.ranked_terms.specs.Terms.{instance_of}
use Rattle.ranked_terms.specs.Matching.{binding_of}
use Rattle.ranked_terms.proofs.bindings.BoundLaws.{argument_has, bound_is_some, instances_all, instances_more, var_has}
use Rattle.ranked_terms.proofs.matching.+instance_under.Goals as goal

pub unreachable-requires : goal.unreachable-requires
unreachable-requires t c =
    let v = c.in-Var.v in
    bound_is_some v c.args.b.now (c.requires v (var_has v c.args.p.now c.in-Var.is)) (sym c.get.ensures ∙ ap option_copied c.in_default.is)

pub instance_under-requires : goal.instance_under-requires
instance_under-requires t c = (
  search (rules, the_lemmas),
  λ v has. c.requires v (argument_has v c.args.p.now c.in-App.sym c.in-App.args c.as_slice-arg-items.result.now c.loop-arg.arg-index c.arg-item.result c.in-App.is c.as_slice-arg-items.ensures c.loop-arg-test.true c.arg-item.is has),
)

pub loop-arg-preserved : goal.loop-arg-preserved
loop-arg-preserved t c =
    instances_more (instance_of (binding_of c.args.b.now)) c.as_slice-arg-items.result.now c.loop-arg.arg-index c.arg-item.result c.loop-arg.terms _ _ c.loop-arg-test.true c.arg-item.is c.loop-arg.invariant c.in_ok-instance_under-in-App.ensures c.in_ok-push-in-App.ensures.ok

pub returns-after-loop-arg : goal.returns-after-loop-arg
returns-after-loop-arg t c =
    instances_all c.args.b.now c.args.p.now c.in-App.sym c.in-App.args c.as_slice-arg-items.result.now c.loop-arg.arg-index c.loop-arg.terms c.in-App.is c.as_slice-arg-items.ensures c.loop-arg-test.false c.loop-arg.invariant
