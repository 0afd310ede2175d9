use Rattle.std.proofs.Common.{◌≡◌, All, length, subst, sym, ap, ◌∙◌, ◌+◌, arith}
use Rattle.std.proofs.lemmas.List.{take_all}
use Rattle.std.proofs.lemmas.List.Elements.{All-more}
use Rattle.trs_rules.specs.Rules.{IsRule}
use Rattle.trs_rules.specs.declared.sigma.Pair.{Pair}
use Rattle.closure_check.proofs.triples.Assignments.{of_vars}
use Rattle.ta_core.specs.Closure.{IsSettled, triples_from, IsFirstOpen}
use Rattle.closure_check.specs.Searching.{Settles, OpensFirst}
use Rattle.std.proofs.lemmas.List.{length-map}
use Rattle.closure_check.specs.Marking.{Marked}
use Rattle.closure_check.proofs.sets.RunningSets.{room_by, enough_of_rule}
use Rattle.closure_check.proofs.triples.OpenTriples.{first_of_rules, rules_more, closed_if_settled}
use Rattle.closure_check.proofs.closing.first_open.Goals as goal

pub returns-in-Some-clause-some : goal.returns-in-Some-clause-some
returns-in-Some-clause-some c =
    let same : c.from_slice-sigma.result ≡ c.first_open_from.new.states.items = c.from_slice-sigma.ensures ∙ c.as_slice.ensures.value in
    let from = of_vars c.args.automaton.now c.new-states.result.items c.vars-more.result.now c.rule-item.result.vars c.new-states.ensures c.vars-more.ensures.list in
    let here = first_of_rules c.args.automaton.now c.args.rules.now c.loop-rule.rule-index c.rule-item.result c.loop-rule-test.true c.rule-item.is c.first_open_from.new.states.items c.in-Some.state c.loop-rule.invariant.settled
    (subst (λ pairs. OpensFirst c.args.automaton.now c.rule-item.result pairs (c.first_open_from.new.states.items, c.in-Some.state)) from c.in-Some.ensures.some) in
    subst (λ (p : Pair). IsFirstOpen c.args.automaton.now c.args.rules.now p) (λ i. record { rule = sym c.loop-rule.invariant.number i; sigma = sym same i; state = c.in-Some.state }) here

pub loop-rule-preserved : goal.loop-rule-preserved
loop-rule-preserved c = record {
  sizes = c.first_open_from.ensures.sizes ∙ c.loop-rule.invariant.sizes;
  number = ap (λ n. n + 1) c.loop-rule.invariant.number;
  rules = All-more IsRule c.args.rules.now c.loop-rule.rule-index c.rule-item.result c.loop-rule-test.true c.loop-rule.invariant.rules (subst IsRule c.rule-item.is c.vars-more.ensures.rule);
  settled = rules_more c.args.automaton.now c.args.rules.now c.loop-rule.rule-index c.rule-item.result c.loop-rule-test.true c.rule-item.is c.loop-rule.invariant.settled
      (subst (All (Settles c.args.automaton.now c.rule-item.result)) (of_vars c.args.automaton.now c.new-states.result.items c.vars-more.result.now c.rule-item.result.vars c.new-states.ensures c.vars-more.ensures.list) c.in_default.ensures.none);
}

pub returns-clause-none : goal.returns-clause-none
returns-clause-none c = closed_if_settled c.closed_automata_have_no_open_pair.ensures.none c.args.automaton.now c.args.rules.now c.states.ensures.sound
    (subst (All IsRule) (take_all c.loop-rule.rule-index c.args.rules.now c.loop-rule-test.false) c.loop-rule.invariant.rules)
    (subst (λ R. All (IsSettled c.args.automaton.now c.args.rules.now) (triples_from c.args.automaton.now 0 R)) (take_all c.loop-rule.rule-index c.args.rules.now c.loop-rule-test.false) c.loop-rule.invariant.settled)

pub first_open_from-requires-clause-enough : goal.first_open_from-requires-clause-enough
first_open_from-requires-clause-enough c =
    let size = λ (set : Marked). set.size in
    let long : length c.loop-rule.sets ≡ length c.args.sets.now = omega (arith, ap length c.loop-rule.invariant.sizes, length-map c.loop-rule.sets size, length-map c.args.sets.now size) in
    let more : length c.vars-more.result.now ≡ length c.rule-item.result.vars = ap length c.vars-more.ensures.list in
    omega (arith, enough_of_rule c.args.rules.now c.loop-rule.rule-index c.rule-item.result (length c.args.sets.now) c.loop-rule-test.true c.rule-item.is c.requires.enough, long, more)

pub first_open_from-requires-clause-room : goal.first_open_from-requires-clause-room
first_open_from-requires-clause-room c = room_by c.args.automaton.now c.loop-rule.sets c.args.sets.now c.loop-rule.invariant.sizes c.requires.room
