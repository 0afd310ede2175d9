use Rattle.std.proofs.Common.{◌≡◌, ◌++◌, ap, sym, subst, ◌∙◌}
use Rattle.std.specs.List.{All}
use Rattle.std.specs.BTreeSet.{insert_key}
use Rattle.ta_core.specs.TreeAutomaton.{TreeAutomaton, IsTransOf, trans_of, trans_cmp}
use Rattle.ta_core.specs.lemmas.Orders.{trans_total, trans_exact}
use Rattle.ta_core.specs.KeptAside.{grown_by}
use Rattle.ta_core.specs.Growth.{with_trans}
use Rattle.list_laws.specs.InOrder.{in_order}
use Rattle.list_laws.proofs.InOrder.{insert_aside, all_inserted}
use Rattle.ta_core.proofs.growing.Growing.add_trans.Goals as goal

pub invariant_of-self-2 : goal.invariant_of-self-2
invariant_of-self-2 c =
    let i = c.self.inside in
    let old = grown_by i.base.now i.fresh i.trans.keys i.eps.keys in
    let states = ap (λ (A : TreeAutomaton). A.states) c.self.view_is in
    let t = trans_of c.args.sym c.in_ok-args.args c.args.to in
    let sound : IsTransOf old.states t = record { args = rw (states, c.in_ok-args.ensures) c.requires.args; to = rw states c.requires.to } in
    let same : in_order trans_cmp (i.base.now.trans ++ c.insert.new.self.keys) ≡ insert_key trans_cmp old.trans t =
    ap (λ ks. in_order trans_cmp (i.base.now.trans ++ ks)) c.in_ok-insert.ensures.keys ∙ insert_aside trans_total trans_exact i.base.now.trans i.trans.keys t in
    let was = c.self.invariant.sound in
    let all = subst (All (IsTransOf old.states)) (sym same) (all_inserted trans_total trans_exact (IsTransOf old.states) old.trans t was.trans sound) in
    record { sound = record { below = was.below; finals = was.finals; trans = all; eps = was.eps }; few = c.self.invariant.few }

pub returns-clause-ok : goal.returns-clause-ok
returns-clause-ok c =
    let i = c.self.inside in
    let old = grown_by i.base.now i.fresh i.trans.keys i.eps.keys in
    let t = trans_of c.args.sym c.in_ok-args.args c.args.to in
    let same : in_order trans_cmp (i.base.now.trans ++ c.insert.new.self.keys) ≡ insert_key trans_cmp old.trans t =
    ap (λ ks. in_order trans_cmp (i.base.now.trans ++ ks)) c.in_ok-insert.ensures.keys ∙ insert_aside trans_total trans_exact i.base.now.trans i.trans.keys t in
    (λ k. record old { trans = same k })
    ∙ ((λ k. with_trans old c.args.sym (c.in_ok-args.ensures k) c.args.to) ∙ ap (λ A. with_trans A c.args.sym c.args.args.now c.args.to) c.self.view_is)
