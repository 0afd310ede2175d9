use Rattle.std.proofs.Common.{◌≡◌, List, Some, take, length, sym, ap, subst, arith}
use Rattle.std.proofs.lemmas.List.{take_all}
use Rattle.std.specs.List.{All}
use Rattle.trs_rules.specs.declared.entry.Entry.{Entry}
use Rattle.ta_core.specs.Acceptance.{image}
use Rattle.normalise.specs.Normalising.{Task, FirstFit}
use Rattle.normalise.proofs.PutSteps.{Never, first_at, none_fits}
use Rattle.normalise.proofs.fitting.Fitting.first_fit.Goals as goal

pub returns-then-branch : goal.returns-then-branch
returns-then-branch c =
    let task = c.args.self.now in
    let node = c.args.node.now in
    let e = c.entry-item.result in
    let es = c.self.inside.entries.now in
    let same : es ≡ task.entries = ap (λ (t : Task). t.entries) c.self.view_is in
    let never = subst (λ (es : List Entry). All (Never task node) (take c.loop-entry.entry-index es)) (sym same) c.loop-entry.invariant in
    let first = first_at task node es c.loop-entry.entry-index e c.loop-entry-test.true (sym c.entry-item.is) never (c.in_ok-fits.ensures.yes c.if-branch.true) in
    subst (λ p. FirstFit task node task.entries (Some p)) (sym c.image_of.ensures) (subst (λ (es : List Entry). FirstFit task node es (Some (image task.places e.target))) same first)

pub returns : goal.returns
returns c =
    let task = c.args.self.now in
    let node = c.args.node.now in
    let same : c.self.inside.entries.now ≡ task.entries = ap (λ (t : Task). t.entries) c.self.view_is in
    let whole = take_all c.loop-entry.entry-index task.entries (omega (arith, c.loop-entry-test.false, ap length same)) in
    none_fits task node task.entries (subst (All (Never task node)) whole c.loop-entry.invariant)
