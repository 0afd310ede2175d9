use Rattle.std.proofs.Common.{◌≡◌, length, ap, sym, ◌∙◌, subst, arith}
use Rattle.term_store.specs.Store.{IsStore, terms_of_nodes}
use Rattle.term_store.proofs.StoreLaws.{length-terms, store_is, once_from_distinct}
use Rattle.term_store.proofs.store.Store.len.Goals as goal

pub returns-clause-len : goal.returns-clause-len
returns-clause-len c = c.len.ensures.len ∙ (sym (length-terms c.self.inside.nodes.keys) ∙ ap length c.self.view_is)

pub returns-clause-store : goal.returns-clause-store
returns-clause-store c =
    let nodes = c.self.inside.nodes.keys in
    subst IsStore c.self.view_is (store_is nodes (terms_of_nodes nodes) c.self.invariant.0 (once_from_distinct nodes c.len.ensures.unique) (length-terms nodes))

pub returns-clause-few : goal.returns-clause-few
returns-clause-few c =
    let same : length c.args.self.now ≡ length c.self.inside.nodes.keys = ap length (sym c.self.view_is) ∙ length-terms c.self.inside.nodes.keys in
    omega (arith, same, c.self.invariant.1)
