use Rattle.std.proofs.Common.{ℕ, List, [], All, Contains, length, replicate, sym, ap, subst, ◌∙◌, inl, inr}
use Rattle.std.proofs.lemmas.List.{take_all}
use Rattle.ta_core.specs.TreeAutomaton.{TreeAutomaton, trans_of}
use Rattle.ta_core.specs.declared.trans.Trans.{Trans}
use Rattle.list_laws.proofs.Members.{here}
use Rattle.ta_clean.specs.Productive.{HasAllTerms}
use Rattle.ta_clean.proofs.languages.AllTerms.{all_terms_more, all_zeros, zeros_same}
use Rattle.ta_clean.proofs.emptiness.add_over_zero.Goals as goal

pub add_trans-requires-clause-args : goal.add_trans-requires-clause-args
add_trans-requires-clause-args c =
    let items = c.as_slice-in-loop-t.ensures.value ∙ c.in_ok-zeros.ensures.items_if_clones_equal (λ y e. e) ∙ ap (λ n. replicate n 0) (ap length c.as_slice.ensures) ∙ sym (zeros_same c.t-item.result.args) in
    subst (All (Contains c.loop-t.all.states)) (sym items) (all_zeros c.t-item.result.args (Contains c.loop-t.all.states) (subst (λ (xs : List ℕ). Contains xs 0) (sym c.loop-t.invariant.states) (here 0 [])))

pub loop-t-preserved : goal.loop-t-preserved
loop-t-preserved c =
    let items = c.as_slice-in-loop-t.ensures.value ∙ c.in_ok-zeros.ensures.items_if_clones_equal (λ y e. e) ∙ ap (λ n. replicate n 0) (ap length c.as_slice.ensures) ∙ sym (zeros_same c.t-item.result.args) in
    let added = trans_of c.t-item.result.sym c.as_slice-in-loop-t.result.now 0 in
    all_terms_more c.args.trans.now c.loop-t.t-index c.t-item.result c.loop-t.all c.add_trans.new.self c.loop-t-test.true c.t-item.is c.loop-t.invariant
    (ap (λ (a : TreeAutomaton). a.states) c.in_ok-add_trans.ensures.ok) (ap (λ (a : TreeAutomaton). a.finals) c.in_ok-add_trans.ensures.ok)
    (λ x i. (c.in_ok-add_trans.ensures.members x).1 (inl i))
    (subst (λ (qs : List ℕ). Contains c.add_trans.new.self.trans (trans_of c.t-item.result.sym qs 0)) items ((c.in_ok-add_trans.ensures.members added).1 (inr (here added []))))

pub returns : goal.returns
returns c = subst (λ (ts : List Trans). HasAllTerms ts c.loop-t.all) (take_all c.loop-t.t-index c.args.trans.now c.loop-t-test.false) c.loop-t.invariant
