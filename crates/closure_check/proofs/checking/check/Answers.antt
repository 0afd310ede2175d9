use Rattle.std.proofs.Common.{refl, subst}
use Rattle.ta_core.specs.Closure.{Closed, IsFirstOpen}
use Rattle.closure_check.proofs.firsts.Accepting.{none_missing, none_open, none_meet, misses_by}
use Rattle.closure_check.proofs.checking.check.Goals as goal

pub accepted_means_safe-requires : goal.accepted_means_safe-requires
accepted_means_safe-requires c = record {
  accepted = record {
    contained = c.in_default.ensures.none;
    closed = subst (Closed c.args.automaton.now) c.as_slice.ensures c.in_default-first_open.ensures.none;
    misses = misses_by c.args.spec.now.signature c.args.automaton.now c.args.spec.now.forbidden c.in_default-least_meeting.ensures.none;
  };
}

pub returns-clause-answer : goal.returns-clause-answer
returns-clause-answer c = record {
  contained = c.in_default.ensures.none;
  closed = subst (Closed c.args.automaton.now) c.as_slice.ensures c.in_default-first_open.ensures.none;
  misses = misses_by c.args.spec.now.signature c.args.automaton.now c.args.spec.now.forbidden c.in_default-least_meeting.ensures.none;
}

pub returns-clause-yes : goal.returns-clause-yes
returns-clause-yes c = (λ e. returns-clause-answer c, λ a. refl)

pub returns-in-Some-clause-yes : goal.returns-in-Some-clause-yes
returns-in-Some-clause-yes c = (λ e. cc, λ a. absurd (none_missing c.args.spec.now.initial c.args.automaton.now c.args.map.now c.in-Some.missing c.in-Some.ensures.some a.contained))

pub returns-in-Some-first_open-clause-yes : goal.returns-in-Some-first_open-clause-yes
returns-in-Some-first_open-clause-yes c = (
  λ e. cc,
  λ a. absurd (none_open c.closed_automata_have_no_open_pair.ensures.all c.args.automaton.now c.args.spec.now.rules c.in-Some-first_open.pair
      (subst (λ R. IsFirstOpen c.args.automaton.now R c.in-Some-first_open.pair) c.as_slice.ensures c.in-Some-first_open.ensures.some) a.closed),
)

pub returns-in-Some-least_meeting-clause-answer : goal.returns-in-Some-least_meeting-clause-answer
returns-in-Some-least_meeting-clause-answer c = (c.in_default.ensures.none, subst (Closed c.args.automaton.now) c.as_slice.ensures c.in_default-first_open.ensures.none, c.in-Some-least_meeting.ensures.some)

pub returns-in-Some-least_meeting-clause-yes : goal.returns-in-Some-least_meeting-clause-yes
returns-in-Some-least_meeting-clause-yes c = (
  λ e. cc,
  λ a. absurd (none_meet c.accepted_terms_are_over.ensures c.args.spec.now.signature c.args.automaton.now c.args.spec.now.forbidden c.in-Some-least_meeting.first c.in-Some-least_meeting.second
      c.args.spec.now.forbidden_over c.in-Some-least_meeting.ensures.some a.misses),
)
