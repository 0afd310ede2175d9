use Rattle.std.proofs.Common.{Contains, sym, ap, subst, arith}
use Rattle.std.proofs.lemmas.List.Elements.{All-contains}
use Rattle.ta_core.specs.TreeAutomaton.{IsSound}
use Rattle.ta_clean.specs.Meeting.{IsCommon, FinalsMeet}
use Rattle.ta_clean.specs.Least.{IsLarge, IsSmallest}
use Rattle.ta_clean.specs.Products.{TwoAutomata}
use Rattle.ta_clean.specs.Sizes.{AreSettled, HasSizes}
use Rattle.ta_clean.specs.declared.sizes.Made.{Made}
use Rattle.ta_clean.proofs.least.Lowering.{pair_in}
use Rattle.ta_clean.proofs.least.Building.{language_is_large, term_is_smallest}
use Rattle.ta_clean.proofs.witness.sized_witness.Goals as goal

pub returns-then-get-ge-TOO_LARGE : goal.returns-then-get-ge-TOO_LARGE
returns-then-get-ge-TOO_LARGE c =
    let both = c.new-both.result in
    let is = c.new-both.ensures in
    subst (λ (b : TwoAutomata). IsLarge (IsCommon b.first b.second)) is
    (language_is_large both c.args.sizes.now (subst (λ (b : TwoAutomata). AreSettled b c.args.sizes.now) (sym is) c.requires.sizes.settled) (subst (λ (b : TwoAutomata). IsSound b.first) (sym is) c.next.ensures.sound) (subst (λ (b : TwoAutomata). IsSound b.second) (sym is) c.next-2.ensures.sound)
    c.least_final-state.result c.least_final-state.ensures c.args.some_first c.args.some_second
    (subst (λ (b : TwoAutomata). FinalsMeet b.first b.second c.args.some_first c.args.some_second) (sym is) c.requires.meet)
    (omega (arith, c.if-get-ge-TOO_LARGE.true, ap (λ (m : Made). m.size) c.get.ensures.value)))

pub build-requires-clause-within : goal.build-requires-clause-within
build-requires-clause-within c =
    let both = c.new-both.result in
    let is = c.new-both.ensures in
    let first = subst (λ (b : TwoAutomata). IsSound b.first) (sym is) c.next.ensures.sound in
    let second = subst (λ (b : TwoAutomata). IsSound b.second) (sym is) c.next-2.ensures.sound in
    let pair = c.least_final-state.result in
    pair_in both c.args.sizes.now (subst (λ (b : TwoAutomata). HasSizes b c.args.sizes.now) (sym is) c.requires.sizes.has) first second pair.0 pair.1 (All-contains (Contains both.first.states) both.first.finals pair.0 first.finals c.least_final-state.ensures.first) (All-contains (Contains both.second.states) both.second.finals pair.1 second.finals c.least_final-state.ensures.second)

pub build-requires-clause-small : goal.build-requires-clause-small
build-requires-clause-small c = omega (arith, c.if-get-ge-TOO_LARGE.false, ap (λ (m : Made). m.size) c.get.ensures.value)

pub returns : goal.returns
returns c =
    let both = c.new-both.result in
    let is = c.new-both.ensures in
    subst (λ (b : TwoAutomata). IsSmallest (IsCommon b.first b.second) c.in_ok-term.term) is
    (term_is_smallest both c.args.sizes.now (subst (λ (b : TwoAutomata). AreSettled b c.args.sizes.now) (sym is) c.requires.sizes.settled) (subst (λ (b : TwoAutomata). IsSound b.first) (sym is) c.next.ensures.sound) (subst (λ (b : TwoAutomata). IsSound b.second) (sym is) c.next-2.ensures.sound)
    c.least_final-state.result c.least_final-state.ensures c.in_ok-term.term c.in_ok-term.ensures (omega (arith, c.if-get-ge-TOO_LARGE.false, ap (λ (m : Made). m.size) c.get.ensures.value)))
