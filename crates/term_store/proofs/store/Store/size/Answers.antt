use Rattle.std.proofs.Common.{◌≡◌, ◌<◌, [], length, get_or, ap, sym, ◌∙◌, Some, None, slice_get, arith}
use Rattle.std.proofs.lemmas.Option.{get_or_from_slice_get}
use Rattle.std.specs.Option.{option_copied}
use Rattle.ranked_terms.specs.Terms.{node, size_of}
use Rattle.term_store.specs.Store.{terms_of_nodes}
use Rattle.term_store.proofs.StoreLaws.{length-terms, node_at}
use Rattle.term_store.proofs.store.Store.size.Goals as goal

pub returns-in-Some : goal.returns-in-Some
returns-in-Some c =
    let nodes = c.self.inside.nodes.keys in
    let is : slice_get nodes c.args.id ≡ Some c.in-Some.node.now = sym c.get_index.ensures.key ∙ ap option_copied c.in-Some.is in
    let n = c.self.invariant.0 c.args.id c.in-Some.node.now is in
    n.size ∙ ap size_of (sym (get_or_from_slice_get (terms_of_nodes nodes) c.args.id _ (node 0 []) n.is) ∙ ap (λ ts. get_or ts c.args.id (node 0 [])) c.self.view_is)

pub returns-in-None : goal.returns-in-None
returns-in-None c =
    let nodes = c.self.inside.nodes.keys in
    let within : c.args.id < length nodes = omega (arith, c.requires, ap length c.self.view_is, length-terms nodes) in
    let n = node_at nodes c.args.id within in
    let none : slice_get nodes c.args.id ≡ None = sym c.get_index.ensures.key ∙ ap option_copied c.in-None.is in
    let some = n.1 in cc
