use Rattle.std.proofs.Common.{All, subst, rules}
use Rattle.std.specs.Result.{IsErrOf}
use Rattle.trs_rules.specs.Rules.{IsRule}
use Rattle.ta_core.specs.TreeAutomaton.{IsSound}
use Rattle.critical_pairs.specs.declared.pairs.PairError.TheVariants.{More}
use Rattle.completion.specs.Stages.{EndsAt, IsLeastMet}
use Rattle.completion.specs.Standing.{Standing}
use Rattle.completion.proofs.Ending.{if_some, if_none, closed_if_none, none_of_few, open_if_some}
use Rattle.completion.proofs.standing.Core.last_end.Goals as goal

pub returns-in-Some : goal.returns-in-Some
returns-in-Some c = EndsAt.meets (if_some (IsLeastMet c.args.self.now.spec c.args.self.now.automaton) c.in_ok-least.field-0 c.in-Some.least c.in_ok-least.ensures.some c.in-Some.is)

pub returns-in-Ok : goal.returns-in-Ok
returns-in-Ok c =
    let s = c.args.self.now in
    let sound = subst (λ (s : Standing). IsSound s.automaton) c.self.view_is c.states.ensures.sound in
    let are_rules = subst (λ (s : Standing). All IsRule s.spec.rules) c.self.view_is (subst (All IsRule) c.as_slice.ensures c.each_is_rule.ensures) in
    let none = closed_if_none c.closed_automata_have_no_open_pair.ensures.none s.automaton s.spec.rules c.in-Ok._none sound are_rules c.in-Ok.ensures.all (none_of_few c.in-Ok._none c.in-Ok.ensures.few) in
    EndsAt.closed (if_none c.in_ok-least.field-0 c.in_ok-least.ensures.none c.in_default.is) none

pub returns-in-Err-More : goal.returns-in-Err-More
returns-in-Err-More c =
    let s = c.args.self.now in
    let full : IsErrOf c.open_up_to.result More = search (rules, c.in-Err-More.is, c.in-Err-More.field-0-is) in
    let more = c.open_up_to.ensures.more full in
    EndsAt.rounds (if_none c.in_ok-least.field-0 c.in_ok-least.ensures.none c.in_default.is)
    (open_if_some c.closed_automata_have_no_open_pair.ensures.all s.automaton s.spec.rules more.0 more.1 more.2) c.requires
