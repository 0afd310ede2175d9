use Rattle.std.proofs.Common.{ℕ, List, get_or, Contains, sym, subst, arith}
use Rattle.ta_core.specs.Meeting.{Meets}
use Rattle.ta_clean.specs.Meeting.{IsLeastMeeting}
use Rattle.ta_clean.specs.Walking.{IsLeastIn}
use Rattle.ta_clean.proofs.least.LeastMembers.{NoneMeets, least_pair, no_pair, nones_more}
use Rattle.ta_clean.proofs.final_pairs.least_meeting.Goals as goal

pub loop-state-init : goal.loop-state-init
loop-state-init c = λ j l q i m. absurd (omega (arith, l))

pub least_with-requires : goal.least_with-requires
least_with-requires c = rw c.finals.ensures.value c.finals.ensures.sorted

pub loop-state-preserved : goal.loop-state-preserved
loop-state-preserved c =
    let A = c.args.first.now in
    let B = c.args.second.now in
    let items = c.finals-state-items.result.now in
    let k = c.loop-state.state-index in
    nones_more A B k c.loop-state.invariant
    (subst (λ (xs : List ℕ). NoneMeets A B (get_or xs k 0)) c.finals-state-items.ensures.value
    (λ q i m. c.in_default.ensures.none q (subst (λ (xs : List ℕ). Contains xs q) (sym c.finals.ensures.value) i) ((c.mark.ensures.exact (get_or items k 0, q)).1 m)))

pub returns-in-Some-clause-some : goal.returns-in-Some-clause-some
returns-in-Some-clause-some c =
    let A = c.args.first.now in
    let B = c.args.second.now in
    let k = c.loop-state.state-index in
    let found = c.in-Some.ensures.some in
    let is = c.finals-state-items.ensures.value in
    let here : IsLeastIn (λ q. Meets A B (get_or A.finals k 0, q)) B.finals c.in-Some.other = subst (λ (xs : List ℕ). IsLeastIn (λ q. Meets A B (get_or xs k 0, q)) B.finals c.in-Some.other) is (record {
      has = subst (λ (xs : List ℕ). Contains xs c.in-Some.other) c.finals.ensures.value found.has;
      is = (c.mark.ensures.exact _).0 found.is;
      least = λ s i m. found.least s (subst (λ (xs : List ℕ). Contains xs s) (sym c.finals.ensures.value) i) ((c.mark.ensures.exact _).1 m);
    }) in
    subst (λ (xs : List ℕ). IsLeastMeeting A B (get_or xs k 0) c.in-Some.other) (sym is)
    (least_pair A B k c.in-Some.other c.finals-state-items.ensures.sorted (rw (← is) c.loop-state-test.true) c.loop-state.invariant here)

pub returns-clause-none : goal.returns-clause-none
returns-clause-none c = no_pair c.args.first.now c.args.second.now c.loop-state.state-index (rw (← c.finals-state-items.ensures.value) c.loop-state-test.false) c.loop-state.invariant
