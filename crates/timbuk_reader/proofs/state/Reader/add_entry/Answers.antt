use Rattle.std.proofs.Common.{length}
use Rattle.ta_core.specs.SpecRules.{entries_are_over, entries_are_below, entries_are_small}
use Rattle.timbuk_reader.specs.ApproximationReads.{entry_of}
use Rattle.timbuk_reader.proofs.keeping.Approximation.{pushed, entry_over, entry_below, entry_small}
use Rattle.timbuk_reader.proofs.state.Reader.add_entry.Goals as goal

pub invariant_of-self-clause-entries_over : goal.invariant_of-self-clause-entries_over
invariant_of-self-clause-entries_over c =
    let r = c.args.self.now in
    pushed (entries_are_over r.signature) r.entries c.push.new.self (entry_of c.args.entry c.args.target) c.push.result c.push.ensures.ok c.push.ensures.err r.entries_over
    (entry_over r c.args.entry c.args.target c.requires.started c.requires.full c.requires.target r.entries r.entries_over)

pub invariant_of-self-clause-entries_below : goal.invariant_of-self-clause-entries_below
invariant_of-self-clause-entries_below c =
    let r = c.args.self.now in
    pushed (entries_are_below (length r.initial.states)) r.entries c.push.new.self (entry_of c.args.entry c.args.target) c.push.result c.push.ensures.ok c.push.ensures.err r.entries_below
    (entry_below r c.args.entry c.args.target c.requires.started c.requires.full c.requires.target r.entries r.entries_below)

pub invariant_of-self-clause-entries_small : goal.invariant_of-self-clause-entries_small
invariant_of-self-clause-entries_small c =
    let r = c.args.self.now in
    pushed entries_are_small r.entries c.push.new.self (entry_of c.args.entry c.args.target) c.push.result c.push.ensures.ok c.push.ensures.err r.entries_small
    (entry_small r c.args.entry c.args.target c.requires.started c.requires.full c.requires.target r.entries r.entries_small)
