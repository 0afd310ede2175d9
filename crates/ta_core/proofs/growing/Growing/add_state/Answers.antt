use Rattle.std.proofs.Common.{◌<◌, ◌+◌, refl, ap, sym, subst, ◌∙◌, arith}
use Rattle.ta_core.specs.TreeAutomaton.{TreeAutomaton, IsKept}
use Rattle.ta_core.proofs.Soundness.{sound_more}
use Rattle.ta_core.specs.KeptAside.{grown_by}
use Rattle.ta_core.specs.Growth.{with_state}
use Rattle.ta_core.proofs.Grown.{grown_state}
use Rattle.ta_core.proofs.growing.Growing.add_state.Goals as goal

pub invariant_of-self : goal.invariant_of-self
invariant_of-self c =
    let i = c.self.inside in
    let old = grown_by i.base.now i.fresh i.trans.keys i.eps.keys in
    let room : old.next < 16384 = subst (λ (A : TreeAutomaton). A.next < 16384) (sym c.self.view_is) c.requires in
    let kept : IsKept (with_state old) = record { sound = sound_more old c.self.invariant.sound; few = omega (arith, room) } in
    subst IsKept (sym (grown_state i.base.now i.fresh (i.fresh + 1) i.trans.keys i.eps.keys refl)) kept

pub returns-clause-grown : goal.returns-clause-grown
returns-clause-grown c =
    let i = c.self.inside in
    grown_state i.base.now i.fresh (i.fresh + 1) i.trans.keys i.eps.keys refl ∙ ap with_state c.self.view_is
