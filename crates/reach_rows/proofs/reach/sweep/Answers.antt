use Rattle.std.proofs.Common.{Contains}
use Rattle.std.proofs.lemmas.List.Elements.{All-take, All-drop, Contains-get_or}
use Rattle.reach_rows.proofs.reach.sweep.Goals as goal

pub sweep_some-requires-clause-some : goal.sweep_some-requires-clause-some
sweep_some-requires-clause-some c =
    let edges = c.args.edges.now in
    All-take (Contains edges) _ _ (All-take (Contains edges) _ _ (All-drop (Contains edges) _ _ (λ k d l. Contains-get_or edges k d l)))
