use Rattle.std.proofs.Common.{◌≡◌, ℕ, suc, ◌+◌, [], ◌∷◌, ◌++◌, Ok, take, drop, sym, ap, subst, inl, ◌∙◌, arith, rules}
use Rattle.std.specs.List.{Contains}
use Rattle.std.specs.Result.{IsErrOf}
use Rattle.std.proofs.lemmas.List.{take_more, take_all}
use Rattle.std.proofs.lemmas.List.Elements.{All-weaker}
use Rattle.trs_rules.specs.declared.entry.Entry.{Entry}
use Rattle.ta_core.specs.TreeAutomaton.{TreeAutomaton}
use Rattle.ta_core.specs.Acceptance.{image}
use Rattle.ta_core.specs.Closure.{IsTriple}
use Rattle.normalise.specs.Normalising.{by, NormalisedAll}
use Rattle.normalise.specs.declared.pairs.NormError.TheVariants.{Full}
use Rattle.normalise.proofs.Stays.{normalised_all_grows}
use Rattle.normalise.proofs.PairSteps.{targets_stand, two_normalised, triple_on, pairs_need, all_only}
use Rattle.normalise.proofs.PutSteps.{parts_at, stays_on}
use Rattle.normalise.proofs.pairs.normalise_all.Goals as goal

pub loop-pair-init : goal.loop-pair-init
loop-pair-init c = record {
  done = subst (λ (B : TreeAutomaton). NormalisedAll (by c.args.entries.now c.args.map.now c.args.rules.now) c.args.a.now [] B) (sym c.on-growing.ensures) NormalisedAll.none;
  within = inl (ap (λ (A : TreeAutomaton). A.next) c.on-growing.ensures);
}

pub resolve-requires-clause-pair : goal.resolve-requires-clause-pair
resolve-requires-clause-pair c =
    let context = by c.args.entries.now c.args.map.now c.args.rules.now in
    let i = c.loop-pair.pair-index in
    let grown = normalised_all_grows context c.args.a.now c.loop-pair.growing (take i c.args.pairs.now) c.loop-pair.invariant.done in
    triple_on c.args.a.now c.loop-pair.growing c.args.rules.now c.pair-item.result grown
    (subst (IsTriple c.args.a.now c.args.rules.now) (sym c.pair-item.is) (c.requires.pairs i c.pair-item.result c.loop-pair-test.true))

pub resolve-requires-clause-targets : goal.resolve-requires-clause-targets
resolve-requires-clause-targets c =
    let context = by c.args.entries.now c.args.map.now c.args.rules.now in
    let h = c.args.map.now in
    let A = c.args.a.now in
    let B = c.loop-pair.growing in
    let grown = normalised_all_grows context A B (take c.loop-pair.pair-index c.args.pairs.now) c.loop-pair.invariant.done in
    All-weaker (λ (e : Entry). Contains A.states (image h e.target)) (λ (e : Entry). Contains B.states (image h e.target)) (λ e i. grown.within.states (image h e.target) i) c.args.entries.now
    (targets_stand A h c.args.entries.now c.requires.map c.requires.entries)

pub returns-in_err-resolve-clause-full : goal.returns-in_err-resolve-clause-full
returns-in_err-resolve-clause-full c = λ e.
    let context = by c.args.entries.now c.args.map.now c.args.rules.now in
    let i = c.loop-pair.pair-index in
    let pairs = c.args.pairs.now in
    let full : IsErrOf c.resolve.result Full = search (rules, c.in_err-resolve.was, c.from_residual.ensures.1, e) in
    pairs_need context c.args.max_states c.args.a.now c.loop-pair.growing pairs (take i pairs) (drop (suc i) pairs) c.pair-item.result
    (parts_at pairs i c.pair-item.result c.loop-pair-test.true (sym c.pair-item.is)) c.requires.pairs c.loop-pair.invariant.done (c.resolve.ensures.full full)

pub loop-pair-preserved : goal.loop-pair-preserved
loop-pair-preserved c =
    let context = by c.args.entries.now c.args.map.now c.args.rules.now in
    let i = c.loop-pair.pair-index in
    let pairs = c.args.pairs.now in
    let more : take (i + 1) pairs ≡ take i pairs ++ c.pair-item.result ∷ [] =
    take_more pairs i c.pair-item.result c.loop-pair-test.true ∙ ap (λ x. take i pairs ++ x ∷ []) (sym c.pair-item.is) in
    record {
      done = subst (λ ps. NormalisedAll context c.args.a.now ps c.resolve.new.growing) (sym more) (two_normalised c.loop-pair.invariant.done (NormalisedAll.more c.in_ok-resolve.ensures.ok NormalisedAll.none));
      within = stays_on c.args.max_states c.args.a.now c.loop-pair.growing c.resolve.new.growing c.loop-pair.invariant.within c.in_ok-resolve.ensures.within;
    }

pub returns-clause-only : goal.returns-clause-only
returns-clause-only c = λ needs.
    let context = by c.args.entries.now c.args.map.now c.args.rules.now in
    let whole = take_all c.loop-pair.pair-index c.args.pairs.now (omega (arith, c.loop-pair-test.false)) in
    all_only {E = ℕ} context c.args.max_states c.args.a.now c.args.pairs.now (Ok c.loop-pair.growing)
    (subst (λ ps. NormalisedAll context c.args.a.now ps c.loop-pair.growing) whole c.loop-pair.invariant.done) c.loop-pair.invariant.within needs
