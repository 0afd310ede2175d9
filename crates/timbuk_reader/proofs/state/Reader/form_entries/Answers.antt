use Rattle.std.proofs.Common.{arith}
use Rattle.std.proofs.lemmas.Grind.{common_steps}
use Rattle.timbuk_reader.specs.Reads.{Stops}
use Rattle.timbuk_reader.specs.ApproximationReads.{formed, form_entries}
use Rattle.timbuk_reader.proofs.parsing.ApproximationSection.{entries_stop_at_arrow, entries_stop_at_bracket, entries_stop, entries_read}
use Rattle.timbuk_reader.proofs.state.Reader.form_entries.Goals as goal

pub returns-in_err-mark-clause-reads : goal.returns-in_err-mark-clause-reads
returns-in_err-mark-clause-reads c =
    let e = c.in_err-mark.field-0.0 in
    let stops : Stops form_entries (formed c.args.form.now) c.args.self.now e = entries_stop_at_arrow c.args.form.now c.args.self.now e c.in_err-mark.ensures.takes in
    grind (arith, common_steps)

pub returns-in_err-mark-2-clause-reads : goal.returns-in_err-mark-2-clause-reads
returns-in_err-mark-2-clause-reads c =
    let e = c.in_err-mark-2.field-0.0 in
    let stops : Stops form_entries (formed c.args.form.now) c.args.self.now e =
    entries_stop_at_bracket c.args.form.now c.args.self.now c.mark.new.self c.in_ok-mark.ensures.takes e c.in_err-mark-2.ensures.takes in
    grind (arith, common_steps)

pub returns-in_err-entries-clause-reads : goal.returns-in_err-entries-clause-reads
returns-in_err-entries-clause-reads c =
    let e = c.in_err-entries.field-0.0 in
    let stops : Stops form_entries (formed c.args.form.now) c.args.self.now e =
    entries_stop c.args.form.now c.args.self.now c.mark.new.self c.in_ok-mark.ensures.takes c.mark-2.new.self c.in_ok-mark-2.ensures.takes e c.in_err-entries.ensures.reads in
    grind (arith, common_steps)

pub returns-clause-reads : goal.returns-clause-reads
returns-clause-reads c =
    entries_read c.args.form.now c.args.self.now c.mark.new.self c.in_ok-mark.ensures.takes c.mark-2.new.self c.in_ok-mark-2.ensures.takes
    c.entries.new.self c.take.new.self c.take.result c.in_ok-entries.ensures.reads c.take.ensures.takes
