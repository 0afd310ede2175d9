use Rattle.std.proofs.Common.{sym, ◌∙◌, arith}
use Rattle.std.proofs.lemmas.Grind.{common_steps}
use Rattle.timbuk_grammar.specs.Grammar.{some, entry, many}
use Rattle.timbuk_reader.specs.Reads.{Stops}
use Rattle.timbuk_reader.specs.ApproximationReads.{formed}
use Rattle.timbuk_reader.proofs.parsing.Parts.{then_stops}
use Rattle.timbuk_reader.proofs.parsing.ApproximationRules.{enters_first, next_entry_stops}
use Rattle.timbuk_reader.proofs.state.Reader.entries.Goals as goal

pub returns-in_err-entry-clause-reads : goal.returns-in_err-entry-clause-reads
returns-in_err-entry-clause-reads c =
    let e = c.in_err-entry.field-0.0 in
    let stops : Stops (some entry) (formed c.args.form.now) c.args.self.now e = then_stops entry (many entry) (formed c.args.form.now) c.args.self.now e c.in_err-entry.ensures.reads in
    grind (arith, common_steps)

pub loop-self-init : goal.loop-self-init
loop-self-init c =
    let read = c.in_ok-entry.ensures in
    record {
      enters = enters_first c.args.form.now c.args.self.now c.entry.new.self read.reads;
      same = read.same;
      no_longer = omega (arith, read.shorter);
    }

pub returns-in_err-entry-2-clause-reads : goal.returns-in_err-entry-2-clause-reads
returns-in_err-entry-2-clause-reads c =
    let e = c.in_err-entry-2.field-0.0 in
    let stops : Stops (some entry) (formed c.args.form.now) c.args.self.now e =
    next_entry_stops c.args.form.now c.args.self.now c.loop-self.self c.loop-self.invariant.enters (sym c.sees.ensures.value ∙ c.loop-self-test.true) e c.in_err-entry-2.ensures.reads in
    grind (arith, common_steps)
