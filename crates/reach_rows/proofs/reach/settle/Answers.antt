use Rattle.std.proofs.Common.{◌∙◌, All, sym, subst, refl}
use Rattle.reach_rows.specs.Paths.{IsEdgeBelow}
use Rattle.reach_rows.specs.Tables.{IsSettled}
use Rattle.reach_rows.proofs.Rows.{reached_ends}
use Rattle.reach_rows.proofs.reach.settle.Goals as goal

pub returns-clause-reached : goal.returns-clause-reached
returns-clause-reached c =
    let edges = c.args.edges.now in
    let passes = c.loop-rows-test.ensures.passes in
    reached_ends edges c.pass.new.rows passes.reaching (subst (λ n. All (IsEdgeBelow n) edges) (sym (passes.long ∙ c.loop-rows.invariant.long)) c.requires.below)
    (λ e i. subst (λ rows. IsSettled rows e) (sym (passes.same refl)) (passes.settled refl e i))
