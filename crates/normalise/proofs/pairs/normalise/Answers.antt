use Rattle.std.proofs.Common.{ℕ, Ok, sym, subst}
use Rattle.trs_rules.specs.declared.entry.Entry.{Entry}
use Rattle.std.specs.List.{All, Contains}
use Rattle.ta_core.specs.TreeAutomaton.{TreeAutomaton}
use Rattle.ta_core.specs.Acceptance.{image}
use Rattle.normalise.specs.Normalising.{by, NeedsMoreFor}
use Rattle.normalise.proofs.PairSteps.{targets_stand, one_only}
use Rattle.normalise.proofs.pairs.normalise.Goals as goal

pub resolve-requires-clause-targets : goal.resolve-requires-clause-targets
resolve-requires-clause-targets c =
    let h = c.args.map.now in
    subst (λ (A : TreeAutomaton). All (λ (e : Entry). Contains A.states (image h e.target)) c.args.entries.now) (sym c.on-growing.ensures)
    (targets_stand c.args.a.now h c.args.entries.now c.requires.map c.requires.entries)

pub returns-clause-only : goal.returns-clause-only
returns-clause-only c = λ needs.
    let context = by c.args.entries.now c.args.map.now c.args.rules.now in
    one_only {E = ℕ} context c.args.max_states c.on-growing.result c.resolve.new.growing c.args.pair.now (Ok c.in_ok-from.from) c.in_ok-from.ensures.ok c.in_ok-from.ensures.within
    (subst (λ (A : TreeAutomaton). NeedsMoreFor context c.args.max_states A c.args.pair.now) (sym c.on-growing.ensures) needs)
