use Rattle.eq_merge.proofs.keeping.MergedCoherence.{joins_stay_coherent, merges_stay_coherent}
use Rattle.eq_merge.proofs.laws.merging_keeps_coherence.Goals as goal

pub returns-clause-joins : goal.returns-clause-joins
returns-clause-joins c =
    let a = c.leads_is_a_preorder.ensures in
    let b = c.equations_are_both_ways.ensures in
    joins_stay_coherent (record { itself = a.itself; transitive = a.transitive; arguments = c.arguments_lead.ensures; sides = b.sides; symmetric = b.symmetric; equal = b.equal })

pub returns-clause-merges : goal.returns-clause-merges
returns-clause-merges c =
    let a = c.leads_is_a_preorder.ensures in
    let b = c.equations_are_both_ways.ensures in
    merges_stay_coherent (record { itself = a.itself; transitive = a.transitive; arguments = c.arguments_lead.ensures; sides = b.sides; symmetric = b.symmetric; equal = b.equal })
