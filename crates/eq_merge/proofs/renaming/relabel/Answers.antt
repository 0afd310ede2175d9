use Rattle.std.proofs.Common.{slice_set, get_or, ◌<◌, length, ◌∙◌, ap, sym, subst}
use Rattle.std.proofs.lemmas.List.{get_or_default}
use Rattle.std.proofs.lemmas.List.Edits.{map_over_more}
use Rattle.eq_merge.proofs.quotients.Tables.{relabel}
use Rattle.eq_merge.proofs.renaming.relabel.Goals as goal

pub loop-label-preserved : goal.loop-label-preserved
loop-label-preserved c =
    let ys = c.loop-label.labels in
    let i = c.loop-label.label-index in
    let x = get_or ys i 0 in
    let within : i < length ys = subst (λ n. i < n) (sym c.loop-label.auto.labels) c.loop-label-test.true in
    ap (slice_set ys i) c.relabelled.ensures
    ∙ map_over_more (relabel c.args.from c.args.to) c.args.labels.now ys i x c.loop-label-test.true c.loop-label.invariant (get_or_default ys i 0 x within)
