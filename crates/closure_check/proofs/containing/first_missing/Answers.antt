use Rattle.std.proofs.Common.{ℕ, List, All, subst}
use Rattle.ta_core.specs.declared.trans.Trans.{Trans}
use Rattle.closure_check.specs.Answers.{FailsFirst, FailsFirstAt}
use Rattle.ta_core.specs.Acceptance.{TransHolds, EpsHolds, FinalHolds}
use Rattle.closure_check.proofs.sets.RunningSets.{room_by}
use Rattle.closure_check.proofs.firsts.FirstFailures.{all_contained}
use Rattle.closure_check.proofs.containing.first_missing.Goals as goal

pub returns-in-Some-clause-some : goal.returns-in-Some-clause-some
returns-in-Some-clause-some c =
    subst (λ (ts : List Trans). FailsFirstAt (TransHolds c.args.automaton.now c.args.images.now) ts c.in-Some.place) c.trans.ensures.value c.in-Some.ensures.some

pub first_eps-requires-clause-room : goal.first_eps-requires-clause-room
first_eps-requires-clause-room c = room_by c.args.automaton.now c.first_trans.new.sets c.args.sets.now c.first_trans.ensures.sizes c.requires.room

pub returns-in-Some-first_eps-clause-some : goal.returns-in-Some-first_eps-clause-some
returns-in-Some-first_eps-clause-some c = (
  subst (All (TransHolds c.args.automaton.now c.args.images.now)) c.trans.ensures.value c.in_default.ensures.none,
  subst (λ (es : List (ℕ × ℕ)). FailsFirstAt (EpsHolds c.args.automaton.now c.args.images.now) es c.in-Some-first_eps.place) c.eps.ensures.value c.in-Some-first_eps.ensures.some,
)

pub returns-in-Some-first_final-clause-some : goal.returns-in-Some-first_final-clause-some
returns-in-Some-first_final-clause-some c = (
  subst (All (TransHolds c.args.automaton.now c.args.images.now)) c.trans.ensures.value c.in_default.ensures.none,
  subst (All (EpsHolds c.args.automaton.now c.args.images.now)) c.eps.ensures.value c.in_default-first_eps.ensures.none,
  subst (λ (qs : List ℕ). FailsFirst (FinalHolds c.args.automaton.now c.args.images.now) qs c.in-Some-first_final.state) c.finals.ensures.value c.in-Some-first_final.ensures.some,
)

pub returns-clause-none : goal.returns-clause-none
returns-clause-none c =
    all_contained c.args.initial.now c.args.automaton.now c.args.images.now c.trans.ensures.sound c.requires.images c.requires.states
    (subst (All (TransHolds c.args.automaton.now c.args.images.now)) c.trans.ensures.value c.in_default.ensures.none)
    (subst (All (EpsHolds c.args.automaton.now c.args.images.now)) c.eps.ensures.value c.in_default-first_eps.ensures.none)
    (subst (All (FinalHolds c.args.automaton.now c.args.images.now)) c.finals.ensures.value c.in_default-first_final.ensures.none)
