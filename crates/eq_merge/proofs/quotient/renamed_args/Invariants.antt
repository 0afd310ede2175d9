use Rattle.std.proofs.Common.{◌≡◌, map, take}
use Rattle.ta_core.specs.Acceptance.{image}
use Rattle.eq_merge.proofs.quotient.renamed_args.Given as goal

abbrev pub invariant-loop-q : goal.invariant-loop-q
invariant-loop-q l = l.args.items ≡ map (image l.classes) (take l.q-index l.states)
