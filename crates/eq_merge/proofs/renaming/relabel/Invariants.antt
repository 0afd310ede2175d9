use Rattle.std.proofs.Common.{◌≡◌, ◌==◌, ◌++◌, map, take, drop, if◌then◌else◌}
use Rattle.eq_merge.proofs.renaming.relabel.Given as goal

abbrev pub invariant-loop-label : goal.invariant-loop-label
invariant-loop-label l = l.labels ≡ map (λ r. if r == l.from then l.to else r) (take l.label-index l.initial.labels) ++ drop l.label-index l.initial.labels
