use Rattle.std.proofs.Common.{All, subst, rules}
use Rattle.std.specs.Result.{IsErrOf}
use Rattle.trs_rules.specs.Rules.{IsRule}
use Rattle.ta_core.specs.TreeAutomaton.{IsSound}
use Rattle.critical_pairs.specs.declared.pairs.PairError.TheVariants.{More}
use Rattle.completion.specs.Stages.{EndsAt, IsLeastMet}
use Rattle.completion.specs.Standing.{Standing}
use Rattle.completion.proofs.Ending.{if_some, if_none, closed_if_none}
use Rattle.completion.proofs.standing.Core.turn.Goals as goal

pub returns-in-Some : goal.returns-in-Some
returns-in-Some c = EndsAt.meets (if_some (IsLeastMet c.args.self.now.spec c.args.self.now.automaton) c.in_ok-least.field-0 c.in-Some.least c.in_ok-least.ensures.some c.in-Some.is)

pub returns-in-Err-More : goal.returns-in-Err-More
returns-in-Err-More c =
    let full : IsErrOf c.open_list.result More = search (rules, c.in-Err-More.is, c.in-Err-More.field-0-is) in
    let more = c.open_list.ensures.more full in
    EndsAt.pairs (if_none c.in_ok-least.field-0 c.in_ok-least.ensures.none c.in_default.is) c.requires more.1 more.2

pub returns-then-is_empty : goal.returns-then-is_empty
returns-then-is_empty c =
    let s = c.args.self.now in
    let sound = subst (λ (s : Standing). IsSound s.automaton) c.self.view_is c.states.ensures.sound in
    let are_rules = subst (λ (s : Standing). All IsRule s.spec.rules) c.self.view_is (subst (All IsRule) c.as_slice.ensures c.each_is_rule.ensures) in
    let closed = closed_if_none c.closed_automata_have_no_open_pair.ensures.none s.automaton s.spec.rules c.in-Ok.pairs sound are_rules c.in-Ok.ensures.all (c.is_empty.ensures.0 c.if-is_empty.true) in
    EndsAt.closed (if_none c.in_ok-least.field-0 c.in_ok-least.ensures.none c.in_default.is) closed
