use Rattle.std.proofs.Common.{sym, ap, subst, ◌∙◌}
use Rattle.std.specs.List.{All}
use Rattle.ta_core.specs.TreeAutomaton.{TreeAutomaton, IsTransOf, IsEpsOf}
use Rattle.ta_core.specs.lemmas.Orders.{trans_total, trans_exact, pair_total, pair_exact}
use Rattle.ta_core.specs.KeptAside.{with_states}
use Rattle.ta_core.proofs.Grown.{finished}
use Rattle.list_laws.proofs.InOrder.{all_aside}
use Rattle.ta_core.proofs.growing.Growing.finish.Goals as goal

pub add_trans_of-requires : goal.add_trans_of-requires
add_trans_of-requires c =
    let i = c.self.inside in
    subst (λ (A : TreeAutomaton). All (IsTransOf A.states) i.trans.keys) (sym c.in_ok-grown.ensures)
    (all_aside trans_total trans_exact (IsTransOf (with_states i.base.now i.fresh).states) i.base.now.trans i.trans.keys c.self.invariant.sound.trans)

pub add_eps_of-requires : goal.add_eps_of-requires
add_eps_of-requires c =
    let i = c.self.inside in
    let same = ap (λ (A : TreeAutomaton). A.states) c.in_ok-add_trans_of.ensures ∙ ap (λ (A : TreeAutomaton). A.states) c.in_ok-grown.ensures in
    subst (λ qs. All (IsEpsOf qs) i.eps.keys) (sym same)
    (all_aside pair_total pair_exact (IsEpsOf (with_states i.base.now i.fresh).states) i.base.now.eps i.eps.keys c.self.invariant.sound.eps)

pub returns : goal.returns
returns c =
    let i = c.self.inside in
    finished i.base.now c.in_ok-grown.grown c.add_trans_of.new.grown c.add_eps_of.new.grown i.fresh i.trans.keys i.eps.keys c.in_ok-grown.ensures c.in_ok-add_trans_of.ensures c.in_ok-add_eps_of.ensures
    ∙ c.self.view_is
