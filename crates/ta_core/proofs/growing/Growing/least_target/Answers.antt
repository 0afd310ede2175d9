use Rattle.std.proofs.Common.{◌≡◌, sym, ap, subst}
use Rattle.ta_core.specs.TreeAutomaton.{TreeAutomaton, trans_of}
use Rattle.ta_core.specs.KeptAside.{grown_by, IsLeastOf, lesser}
use Rattle.ta_core.proofs.LeastTargets.{least_of_grown, as_target, as_none}
use Rattle.ta_core.proofs.growing.Growing.least_target.Goals as goal

pub returns-clause-some : goal.returns-clause-some
returns-clause-some c =
    let i = c.self.inside in
    let A = i.base.now in
    let key = trans_of c.args.sym c.in_ok-args.args 0 in
    let old = subst (λ ts. IsLeastOf ts key c.target_in_list-old.result) c.trans.ensures.value c.target_in_list-old.ensures in
    let found = least_of_grown A i.fresh i.trans.keys i.eps.keys key c.target_in_list-old.result c.target_in_set-new.result old c.target_in_set-new.ensures in
    let same : trans_of c.args.sym c.in_ok-args.args 0 ≡ trans_of c.args.sym c.args.args.now 0 = ap (λ ps. trans_of c.args.sym ps 0) c.in_ok-args.ensures in
    as_target c.args.self.now c.args.sym c.args.args.now c.lesser.result
    (subst (IsLeastOf c.args.self.now.trans (trans_of c.args.sym c.args.args.now 0)) (sym c.lesser.ensures)
    (subst (λ (A : TreeAutomaton). IsLeastOf A.trans (trans_of c.args.sym c.args.args.now 0) (lesser c.target_in_list-old.result c.target_in_set-new.result)) c.self.view_is
    (subst (λ k. IsLeastOf (grown_by A i.fresh i.trans.keys i.eps.keys).trans k (lesser c.target_in_list-old.result c.target_in_set-new.result)) same found)))

pub returns-clause-none : goal.returns-clause-none
returns-clause-none c =
    let i = c.self.inside in
    let A = i.base.now in
    let key = trans_of c.args.sym c.in_ok-args.args 0 in
    let old = subst (λ ts. IsLeastOf ts key c.target_in_list-old.result) c.trans.ensures.value c.target_in_list-old.ensures in
    let found = least_of_grown A i.fresh i.trans.keys i.eps.keys key c.target_in_list-old.result c.target_in_set-new.result old c.target_in_set-new.ensures in
    let same : trans_of c.args.sym c.in_ok-args.args 0 ≡ trans_of c.args.sym c.args.args.now 0 = ap (λ ps. trans_of c.args.sym ps 0) c.in_ok-args.ensures in
    as_none c.args.self.now c.args.sym c.args.args.now c.lesser.result
    (subst (IsLeastOf c.args.self.now.trans (trans_of c.args.sym c.args.args.now 0)) (sym c.lesser.ensures)
    (subst (λ (A : TreeAutomaton). IsLeastOf A.trans (trans_of c.args.sym c.args.args.now 0) (lesser c.target_in_list-old.result c.target_in_set-new.result)) c.self.view_is
    (subst (λ k. IsLeastOf (grown_by A i.fresh i.trans.keys i.eps.keys).trans k (lesser c.target_in_list-old.result c.target_in_set-new.result)) same found)))
