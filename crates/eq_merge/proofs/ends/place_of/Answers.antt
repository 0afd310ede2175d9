use Rattle.std.proofs.Common.{◌==◌, ◌∙◌, rules, tests}
use Rattle.std.proofs.lemmas.Iterator.{YieldsList-from_slice}
use Rattle.std.proofs.lemmas.Iterator.Search.{position_from_yields_List}
use Rattle.list_laws.proofs.Positions.{place_or_length}
use Rattle.eq_merge.proofs.ends.place_of.Goals as goal

pub returns : goal.returns
returns c =
    let v = c.args.variable in
    c.unwrap_or.ensures ∙ place_or_length (λ other. v == other) c.args.variables.now c.position.result
    (position_from_yields_List (λ other. v == other) _ _ c.position.result c.position.ensures.ran (YieldsList-from_slice c.args.variables.now (cc)) (λ x b q k. search (rules, tests)))
