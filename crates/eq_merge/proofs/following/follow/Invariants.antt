use Rattle.eq_merge.specs.Passes.{IsFurther}
use Rattle.eq_merge.proofs.following.follow.Given as goal

abbrev pub invariant-loop : goal.invariant-loop
invariant-loop l = IsFurther l.equations l.automaton l.initial.classes l.classes
