use Rattle.std.proofs.Common.{◌≡◌, ◌<◌, ℕ, List, All, Contains, map, refl, sym, subst}
use Rattle.std.proofs.lemmas.Result.{IfOk-weaker}
use Rattle.ta_core.specs.declared.trans.Trans.{Trans}
use Rattle.ta_core.specs.TreeAutomaton.{IsTransOf, bare}
use Rattle.eq_merge.specs.Quotients.{renamed}
use Rattle.eq_merge.specs.Passes.{IsPart}
use Rattle.eq_merge.proofs.finding.Parts.{states_are, each_is_below, between_them, is_part}
use Rattle.eq_merge.proofs.following.part_of.Goals as goal

-- what is chosen are renamed transitions of the automaton
among : (h : List ℕ) (slice trans chosen : List Trans) → slice ≡ trans → ((t : Trans) → Contains chosen t → Contains (map (renamed h) slice) t) → (t : Trans) → Contains chosen t → Contains (map (renamed h) trans) t
among h slice trans chosen e f t c = subst (λ ts. Contains (map (renamed h) ts) t) e (f t c)

pub between-requires-clause-below : goal.between-requires-clause-below
between-requires-clause-below c =
    let A = c.args.automaton.now in
    let h = c.args.classes.now in
    let chosen = c.in_ok-trans.trans in
    subst (λ n. All (λ q. q < n) c.as_slice-2.result.now) (sym c.next.ensures.value)
    (subst (All (λ q. q < A.next)) (sym c.as_slice-2.ensures.value)
    (each_is_below c.lists_ascend.ensures.sound h c.requires chosen (among h c.trans.result.now A.trans chosen c.trans.ensures.value c.in_ok-trans.ensures) c.in_ok-states.states
    (states_are chosen c.as_slice.result.now c.in_ok-states_of.field-0.items c.in_ok-states.states c.as_slice.ensures c.in_ok-states_of.ensures c.in_ok-states.ensures)))

pub between-requires-clause-inside : goal.between-requires-clause-inside
between-requires-clause-inside c =
    let A = c.args.automaton.now in
    let h = c.args.classes.now in
    let chosen = c.in_ok-trans.trans in
    subst (λ S. All (IsTransOf S) chosen) (sym c.as_slice-2.ensures.value)
    (between_them c.lists_ascend.ensures.sound h c.requires chosen (among h c.trans.result.now A.trans chosen c.trans.ensures.value c.in_ok-trans.ensures) c.in_ok-states.states
    (states_are chosen c.as_slice.result.now c.in_ok-states_of.field-0.items c.in_ok-states.states c.as_slice.ensures c.in_ok-states_of.ensures c.in_ok-states.ensures))

pub returns : goal.returns
returns c =
    let A = c.args.automaton.now in
    let h = c.args.classes.now in
    let chosen = c.in_ok-trans.trans in
    IfOk-weaker c.between.result _ (IsPart A h)
    (λ part is. is_part c.lists_ascend.ensures.sound h c.requires chosen (among h c.trans.result.now A.trans chosen c.trans.ensures.value c.in_ok-trans.ensures) c.in_ok-states.states
    (states_are chosen c.as_slice.result.now c.in_ok-states_of.field-0.items c.in_ok-states.states c.as_slice.ensures c.in_ok-states_of.ensures c.in_ok-states.ensures)
    c.next.result (bare c.next.result c.as_slice-2.result.now) part c.as_slice-2.result.now c.next.ensures.value c.as_slice-2.ensures.value refl is.0 is.1)
    c.between.ensures
