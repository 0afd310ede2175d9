use Rattle.std.proofs.Common.{◌==◌, refl, sym, subst, ⊎_elim, arith}
use Rattle.std.proofs.lemmas.Bool.{eq-eqb}
use Rattle.derive_search.proofs.StoreFacts.{when_true, when_false}
use Rattle.derive_search.proofs.pairs.LowRounds.{IsRound, round_zero, states_below, too_many, too_large, round_more, all_pairs, distinct_apart, pair_same}
use Rattle.derive_search.proofs.low_pairs.low_pairs.Goals as goal

pub loop-round-init : goal.loop-round-init
loop-round-init c = subst (λ keys. IsRound c.args.automaton.now c.args.limit c.args.store.now 0 c.args.store.now keys 0) (sym c.new-pairs.ensures.empty) (round_zero c.args.automaton.now c.args.limit c.args.store.now)

pub add_next-requires-clause-states : goal.add_next-requires-clause-states
add_next-requires-clause-states c = states_below c.args.automaton.now c.next.ensures.sound c.args.limit c.args.store.now c.loop-round.round c.loop-round.store c.loop-round.pairs.keys c.loop-round.first c.loop-round.invariant

pub returns-then-not-within-clause-pairs : goal.returns-then-not-within-clause-pairs
returns-then-not-within-clause-pairs c =
    let A = c.args.automaton.now in let limit = c.args.limit in let start = c.args.store.now in let l = c.loop-round in
    let after = c.add_next.new.store in let new = c.add_next.new.pairs.keys in ⊎_elim
    (λ many. too_many A c.next.ensures.sound limit start l.round l.store l.pairs.keys l.first l.invariant after new c.in_ok-within.ensures.grows c.args.height c.loop-round-test.true c.len-terms.ensures.store
    (distinct_apart _ (λ x. pair_same _ _ (eq-eqb x.0 x.0 refl) (eq-eqb x.1 x.1 refl)) new c.len-pairs.ensures.unique) many)
    (λ large. too_large A c.next.ensures.sound limit start l.round l.store l.pairs.keys l.first l.invariant c.args.height c.loop-round-test.true large)
    (when_false _ _ c.in_ok-within.within c.if-not-within.true c.in_ok-within.ensures.all)

pub loop-round-preserved : goal.loop-round-preserved
loop-round-preserved c =
    let A = c.args.automaton.now in let limit = c.args.limit in let start = c.args.store.now in let l = c.loop-round in
    let all = when_true _ _ c.in_ok-within.within c.if-not-within.false c.in_ok-within.ensures.all in
    round_more A c.next.ensures.sound limit start l.round l.store l.pairs.keys l.first l.invariant c.add_next.new.store c.add_next.new.pairs.keys c.in_ok-within.ensures.grows
    (l.round == 0) (λ e. eq-eqb l.round 0 e) all.0 all.1 c.len-end.result c.len-end.ensures.len

pub returns-clause-pairs : goal.returns-clause-pairs
returns-clause-pairs c =
    let A = c.args.automaton.now in let limit = c.args.limit in let start = c.args.store.now in let l = c.loop-round in
    all_pairs A c.next.ensures.sound limit start l.round l.store l.pairs.keys l.first l.invariant c.len-terms-2.ensures.store
    (distinct_apart _ (λ x. pair_same _ _ (eq-eqb x.0 x.0 refl) (eq-eqb x.1 x.1 refl)) l.pairs.keys c.len-pairs-2.ensures.unique) c.args.height (omega (arith, c.loop-round-test.false, l.auto.round-end))
