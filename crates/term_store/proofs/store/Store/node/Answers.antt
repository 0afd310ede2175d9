use Rattle.std.proofs.Common.{◌≡◌, ◌<◌, [], length, All, slice_get, Some, None, ap, sym, subst, ◌∙◌, arith}
use Rattle.std.specs.Option.{option_copied}
use Rattle.std.proofs.lemmas.Option.{get_or_from_slice_get}
use Rattle.ranked_terms.specs.Terms.{node}
use Rattle.term_store.specs.Store.{term_at, applied, terms_of_nodes}
use Rattle.term_store.proofs.StoreLaws.{length-terms, node_at, args_within_size}
use Rattle.term_store.proofs.store.Store.node.Goals as goal

pub unreachable-requires : goal.unreachable-requires
unreachable-requires c =
    let nodes = c.self.inside.nodes.keys in
    let there : c.args.id < length nodes = omega (arith, c.requires, ap length c.self.view_is, length-terms nodes) in
    let n = node_at nodes c.args.id there in
    let is : Some n.0 ≡ None = sym n.1 ∙ (sym c.get_index.ensures.key ∙ ap option_copied c.in-None.is) in
    cc

pub returns-clause-is : goal.returns-clause-is
returns-clause-is c =
    let nodes = c.self.inside.nodes.keys in
    let is : slice_get nodes c.args.id ≡ Some c.in-Some.node.now = sym c.get_index.ensures.key ∙ ap option_copied c.in-Some.is in
    let n = c.self.invariant.0 c.args.id c.in-Some.node.now is in
    ap (λ ts. term_at ts c.args.id) (sym c.self.view_is) ∙ (get_or_from_slice_get (terms_of_nodes nodes) c.args.id _ (node 0 []) n.is
    ∙ (λ i. applied (c.self.view_is i) c.in-Some.node.now.sym (sym c.as_slice.ensures i)))

pub returns-clause-args : goal.returns-clause-args
returns-clause-args c =
    let nodes = c.self.inside.nodes.keys in
    let is : slice_get nodes c.args.id ≡ Some c.in-Some.node.now = sym c.get_index.ensures.key ∙ ap option_copied c.in-Some.is in
    let n = c.self.invariant.0 c.args.id c.in-Some.node.now is in
    subst (All (λ a. a < c.args.id)) (sym c.as_slice.ensures) n.args

pub returns-clause-few : goal.returns-clause-few
returns-clause-few c =
    let nodes = c.self.inside.nodes.keys in
    let is : slice_get nodes c.args.id ≡ Some c.in-Some.node.now = sym c.get_index.ensures.key ∙ ap option_copied c.in-Some.is in
    let n = c.self.invariant.0 c.args.id c.in-Some.node.now is in
    let few = args_within_size (terms_of_nodes nodes) c.in-Some.node.now.sym c.in-Some.node.now.args in
    subst (λ args. length args < 1024) (sym c.as_slice.ensures) (omega (arith, few, n.size, n.small))
