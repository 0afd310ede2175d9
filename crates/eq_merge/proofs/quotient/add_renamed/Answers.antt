use Rattle.std.proofs.Common.{◌<◌, ℕ, map, filter, All, Contains, length, sym, ap, subst, ◌∙◌}
use Rattle.list_laws.specs.Lists.{IsUnion}
use Rattle.ta_core.specs.TreeAutomaton.{TreeAutomaton, IsTransOf, IsEpsOf}
use Rattle.ta_core.specs.Acceptance.{image}
use Rattle.eq_merge.specs.Quotients.{renamed, renamed_eps, moves}
use Rattle.eq_merge.proofs.quotients.QuotientSteps.{all_within, eps_within, finals_there, trans_there, eps_there, of_equal, is_quotient}
use Rattle.eq_merge.proofs.quotient.add_renamed.Goals as goal

pub new_states-requires : goal.new_states-requires
new_states-requires c =
    subst (All (λ q. q < length c.args.classes.now)) (sym c.finals.ensures.value) (all_within c.finals.ensures.sound c.requires.leasts c.args.a.now.finals c.finals.ensures.sound.finals)

pub new_eps-requires : goal.new_eps-requires
new_eps-requires c =
    subst (All (λ (e : ℕ × ℕ). (e.0 < length c.args.classes.now) × (e.1 < length c.args.classes.now))) (sym c.eps.ensures.value) (eps_within c.eps.ensures.sound c.requires.leasts)

pub set_all_final-requires : goal.set_all_final-requires
set_all_final-requires c =
    of_equal (λ S. Contains S) (ap (λ (X : TreeAutomaton). X.states) c.requires.bare) (c.in_ok-finals.ensures ∙ ap (map (image c.args.classes.now)) c.finals.ensures.value)
    (finals_there c.finals.ensures.sound c.requires.leasts)

pub add_all_trans-requires : goal.add_all_trans-requires
add_all_trans-requires c =
    of_equal IsTransOf (ap (λ (X : TreeAutomaton). X.states) c.in_ok-set_all_final.ensures.rest ∙ ap (λ (X : TreeAutomaton). X.states) c.requires.bare)
    (c.in_ok-trans.ensures ∙ ap (map (renamed c.args.classes.now)) c.trans.ensures.value) (trans_there c.finals.ensures.sound c.requires.leasts)

pub add_all_eps-requires : goal.add_all_eps-requires
add_all_eps-requires c =
    of_equal IsEpsOf
    (ap (λ (X : TreeAutomaton). X.states) c.in_ok-add_all_trans.ensures.rest ∙ (ap (λ (X : TreeAutomaton). X.states) c.in_ok-set_all_final.ensures.rest ∙ ap (λ (X : TreeAutomaton). X.states) c.requires.bare))
    (c.in_ok-eps.ensures ∙ ap (λ es. filter moves (map (renamed_eps c.args.classes.now) es)) c.eps.ensures.value) (eps_there c.finals.ensures.sound c.requires.leasts)

pub returns : goal.returns
returns c =
    let A = c.args.a.now in
    let h = c.args.classes.now in
    is_quotient A h c.requires.bare
    (subst (λ xs. IsUnion c.args.merged.now.finals xs c.set_all_final.new.self.finals) (c.in_ok-finals.ensures ∙ ap (map (image h)) c.finals.ensures.value) c.in_ok-set_all_final.ensures.members)
    c.in_ok-set_all_final.ensures.sorted c.in_ok-set_all_final.ensures.rest
    (subst (λ xs. IsUnion c.set_all_final.new.self.trans xs c.add_all_trans.new.self.trans) (c.in_ok-trans.ensures ∙ ap (map (renamed h)) c.trans.ensures.value) c.in_ok-add_all_trans.ensures.members)
    c.in_ok-add_all_trans.ensures.sorted c.in_ok-add_all_trans.ensures.rest
    (subst (λ xs. IsUnion c.add_all_trans.new.self.eps xs c.add_all_eps.new.self.eps) (c.in_ok-eps.ensures ∙ ap (λ es. filter moves (map (renamed_eps h) es)) c.eps.ensures.value) c.in_ok-add_all_eps.ensures.members)
    c.in_ok-add_all_eps.ensures.sorted c.in_ok-add_all_eps.ensures.rest
