use Rattle.std.proofs.Common.{◌≡◌, ap, sym, subst, ◌∙◌, arith}
use Rattle.std.proofs.lemmas.Result.{IfOk-weaker}
use Rattle.ta_core.specs.declared.options.Options.{Options}
use Rattle.completion.specs.Stages.{EndsAt, Ends}
use Rattle.completion.specs.Standing.{Standing, Reaches}
use Rattle.completion.specs.declared.end.StageEnd.{StageEnd}
use Rattle.completion.proofs.Ending.{if_some, if_none}
use Rattle.completion.proofs.Passing.{reached_next, reached_end}
use Rattle.completion.proofs.rounds.end_of.Goals as goal

pub loop-number-init : goal.loop-number-init
loop-number-init c = c.requires

pub advance-requires : goal.advance-requires
advance-requires c = λ e.
    let same = ap (λ (o : Options). o.rounds) c.loop-number.invariant.same_options in
    let less = c.loop-number-test.true in
    omega (arith, e, same, less)

pub returns-in-Some-clause-same : goal.returns-in-Some-clause-same
returns-in-Some-clause-same c =
    let r = c.loop-number.invariant in
    let same = c.advance.ensures.same in
    (same.0 ∙ r.same_spec, same.1 ∙ (r.same_options ∙ sym c.requires.same_options))

pub returns-in-Some-clause-ends : goal.returns-in-Some-clause-ends
returns-in-Some-clause-ends c =
    let s = c.loop-number.core in
    let within = c.loop-number-test.true in
    let found = if_some (λ (e : StageEnd). EndsAt s.spec s.options c.loop-number.number s.automaton s.places e × (c.advance.new.self ≡ s)) c.in_ok-end.field-0 c.in-Some.end c.in_ok-end.ensures.some c.in-Some.is in
    subst (λ (t : Standing). Ends c.args.core.now.spec c.args.options t.automaton t.places c.in-Some.end) (sym found.1)
    (reached_end c.args.core.now.spec c.args.options s c.loop-number.number c.in-Some.end c.loop-number.invariant (omega (arith, within)) found.0)

pub loop-number-preserved : goal.loop-number-preserved
loop-number-preserved c =
    let s = c.loop-number.core in
    let same = c.advance.ensures.same in
    reached_next c.stages_are_one.ensures c.args.core.now.spec c.args.options s c.advance.new.self c.loop-number.number c.loop-number.invariant same.0 same.1
    (if_none c.in_ok-end.field-0 c.in_ok-end.ensures.none c.in_default.is)

pub last_end-requires : goal.last_end-requires
last_end-requires c = ap (λ (o : Options). o.rounds) (sym c.loop-number.invariant.same_options)

pub returns-clause-same : goal.returns-clause-same
returns-clause-same c =
    let r = c.loop-number.invariant in
    (r.same_spec, r.same_options ∙ sym c.requires.same_options)

pub returns-clause-ends : goal.returns-clause-ends
returns-clause-ends c =
    let s = c.loop-number.core in
    let done = c.loop-number-test.false in
    let within = c.loop-number.auto.number-end in
    IfOk-weaker c.last_end.result _ (Ends c.args.core.now.spec c.args.options s.automaton s.places)
    (λ end last. reached_end c.args.core.now.spec c.args.options s c.args.options.rounds end (subst (Reaches c.args.core.now.spec c.args.options s) (omega (arith, done, within)) c.loop-number.invariant) (omega arith) last)
    c.last_end.ensures
