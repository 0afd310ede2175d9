use Rattle.std.proofs.Common.{◌∙◌, arith}
use Rattle.std.proofs.lemmas.Grind.{common_steps}
use Rattle.timbuk_grammar.specs.Grammar.{entry}
use Rattle.timbuk_grammar.specs.declared.terminal.Terminal.TheVariants as terminal
use Rattle.timbuk_reader.specs.Reads.{Stops}
use Rattle.timbuk_reader.specs.ApproximationReads.{formed}
use Rattle.timbuk_reader.proofs.parsing.ApproximationRules.{entry_stops_at_head, entry_stops_in_arguments, entry_stops_at_arrow, entry_stops_at_target, entry_advances, target_advances, took_same, only_then}
use Rattle.timbuk_reader.proofs.keeping.Approximation.{started_kept}
use Rattle.timbuk_reader.proofs.state.Reader.entry.Goals as goal

pub returns-in_err-entry-clause-reads : goal.returns-in_err-entry-clause-reads
returns-in_err-entry-clause-reads c =
    let e = c.in_err-entry.field-0.0 in
    let stops : Stops entry (formed c.args.form.now) c.args.self.now e = entry_stops_at_head c.args.form.now c.args.self.now e c.in_err-entry.ensures.err in
    grind (arith, common_steps)

pub returns-in_err-entry_arguments-clause-reads : goal.returns-in_err-entry_arguments-clause-reads
returns-in_err-entry_arguments-clause-reads c =
    let e = c.in_err-entry_arguments.field-0.0 in
    let stops : Stops entry (formed c.args.form.now) c.args.self.now e =
    entry_stops_in_arguments c.args.form.now c.args.self.now c.entry_head.new.self c.in_ok-entry.entry c.in_ok-entry.ensures.ok e c.in_err-entry_arguments.ensures.reads in
    grind (arith, common_steps)

pub returns-in_err-mark-clause-reads : goal.returns-in_err-mark-clause-reads
returns-in_err-mark-clause-reads c =
    let e = c.in_err-mark.field-0.0 in
    let stops : Stops entry (formed c.args.form.now) c.args.self.now e =
    entry_stops_at_arrow c.args.form.now c.args.self.now c.entry_head.new.self c.in_ok-entry.entry c.in_ok-entry.ensures.ok
    c.entry_arguments.new.self c.entry_arguments.new.entry c.in_ok-entry_arguments.ensures.reads e c.in_err-mark.ensures.takes in
    grind (arith, common_steps)

pub returns-in_err-target-clause-reads : goal.returns-in_err-target-clause-reads
returns-in_err-target-clause-reads c =
    let e = c.in_err-target.field-0.0 in
    let stops : Stops entry (formed c.args.form.now) c.args.self.now e =
    entry_stops_at_target c.args.form.now c.args.self.now c.entry_head.new.self c.in_ok-entry.entry c.in_ok-entry.ensures.ok
    c.entry_arguments.new.self c.entry_arguments.new.entry c.in_ok-entry_arguments.ensures.reads c.mark.new.self c.in_ok-mark.ensures.takes e c.in_err-target.ensures.err in
    grind (arith, common_steps)

pub add_entry-requires-clause-started : goal.add_entry-requires-clause-started
add_entry-requires-clause-started c =
    let u = c.entry_arguments.new.self in
    let v = c.mark.new.self in
    let w = c.entry_target.new.self in
    started_kept u w c.entry_arguments.new.entry (only_then u v w (took_same terminal.Arrow u v c.in_ok-mark.ensures.takes) c.in_ok-target.ensures.same) c.in_ok-entry_arguments.ensures.started

pub returns-clause-reads : goal.returns-clause-reads
returns-clause-reads c =
    let f = c.entry_arguments.new.entry in
    entry_advances c.args.form.now c.args.self.now c.entry_head.new.self c.in_ok-entry.entry c.in_ok-entry.ensures.ok
    c.entry_arguments.new.self f c.in_ok-entry_arguments.ensures.reads c.mark.new.self c.in_ok-mark.ensures.takes c.add_entry.new.self
    (target_advances f c.args.form.now c.in_ok-target.target c.mark.new.self c.entry_target.new.self c.add_entry.new.self (c.in_ok-entry_arguments.ensures.head.form ∙ c.in_ok-entry.ensures.new.form_is)
    c.in_ok-target.ensures.ok c.in_ok-add_entry.ensures.added c.in_ok-add_entry.ensures.same c.in_ok-add_entry.ensures.tokens)
