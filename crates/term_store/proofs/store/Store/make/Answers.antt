use Rattle.std.proofs.Common.{◌<◌, ◌^◌, ◌-◌, All, length, Some, ap, sym, subst, ◌∙◌, arith}
use Rattle.ranked_terms.specs.Terms.{size_of}
use Rattle.term_store.specs.Store.{applied, terms_of_nodes, AreNodes, Keeps}
use Rattle.term_store.specs.declared.store.Node.{Node}
use Rattle.term_store.proofs.StoreLaws.{size_applied, nodes_inserted, keeps_inserted, inserted_few, made_at}
use Rattle.term_store.proofs.store.Store.make.Goals as goal

pub returns-in_default-clause-made : goal.returns-in_default-clause-made
returns-in_default-clause-made c = subst (λ n. 1024 < n) (sym (size_applied c.args.self.now c.args.sym c.args.args.now)) c.in_default.ensures

pub invariant_of-self : goal.invariant_of-self
invariant_of-self c = subst (λ ns. AreNodes ns (terms_of_nodes ns) × (length ns < 2 ^ 32)) (sym c.in_err-at.ensures.err) c.self.invariant

pub invariant_of-self-2 : goal.invariant_of-self-2
invariant_of-self-2 c =
    let nodes = c.self.inside.nodes.keys in
    let n : Node = record { sym = c.args.sym; args = c.in_ok-args.args; size = c.in-Some.size } in (
      nodes_inserted nodes n c.self.invariant.0
          (subst (λ ts. All (λ a. a < length ts) c.in_ok-args.args) (sym c.self.view_is) (subst (All (λ a. a < length c.args.self.now)) (sym c.in_ok-args.ensures) c.requires))
          (c.in-Some.ensures.0 ∙ (sym (size_applied c.args.self.now c.args.sym c.args.args.now) ∙ (λ i. size_of (applied (sym c.self.view_is i) c.args.sym (sym c.in_ok-args.ensures i)))))
          c.in-Some.ensures.1
          c.insert_full.new.self.keys c.in_ok-at.ensures.keys,
      inserted_few nodes n c.insert_full.new.self.keys c.in_ok-at.ensures.keys (2 ^ 32 - 1) (omega (arith, c.if-len.false, c.len.ensures.len)),
    )

pub returns-clause-made : goal.returns-clause-made
returns-clause-made c =
    let nodes = c.self.inside.nodes.keys in
    let after = c.insert_full.new.self.keys in
    let n : Node = record { sym = c.args.sym; args = c.in_ok-args.args; size = c.in-Some.size } in
    let args = subst (λ ts. All (λ a. a < length ts) c.in_ok-args.args) (sym c.self.view_is) (subst (All (λ a. a < length c.args.self.now)) (sym c.in_ok-args.ensures) c.requires) in
    let all = nodes_inserted nodes n c.self.invariant.0 args
    (c.in-Some.ensures.0 ∙ (sym (size_applied c.args.self.now c.args.sym c.args.args.now) ∙ (λ i. size_of (applied (sym c.self.view_is i) c.args.sym (sym c.in_ok-args.ensures i)))))
    c.in-Some.ensures.1 after c.in_ok-at.ensures.keys in
    let k = c.in_ok-at.ensures.stored in
    made_at nodes after n k.0 c.in_ok-at.at args all (keeps_inserted nodes n after c.in_ok-at.ensures.keys) k.1 k.2
    ∙ ap Some (λ i. applied (c.self.view_is i) c.args.sym (c.in_ok-args.ensures i))

pub returns-clause-kept : goal.returns-clause-kept
returns-clause-kept c =
    subst (λ ts. Keeps ts (terms_of_nodes c.insert_full.new.self.keys)) c.self.view_is (keeps_inserted c.self.inside.nodes.keys _ c.insert_full.new.self.keys c.in_ok-at.ensures.keys)
