use Rattle.std.proofs.Common.{arith}
use Rattle.std.proofs.lemmas.Grind.{common_steps}
use Rattle.timbuk_grammar.specs.Grammar.{final_states}
use Rattle.timbuk_reader.specs.View.{closed}
use Rattle.timbuk_reader.specs.Reads.{Stops}
use Rattle.timbuk_reader.proofs.parsing.Parts.{then_stops, later_stops, then_reads}
use Rattle.timbuk_reader.proofs.state.Reader.final_states.Goals as goal

pub returns-in_err-mark-clause-reads : goal.returns-in_err-mark-clause-reads
returns-in_err-mark-clause-reads c =
    let e = c.in_err-mark.field-0.0 in
    let stops : Stops final_states closed c.args.self.now e =
    then_stops _ _ closed c.args.self.now e c.in_err-mark.ensures.reads in
    grind (arith, common_steps)

pub returns-in_err-mark-2-clause-reads : goal.returns-in_err-mark-2-clause-reads
returns-in_err-mark-2-clause-reads c =
    let e = c.in_err-mark-2.field-0.0 in
    let stops : Stops final_states closed c.args.self.now e =
    later_stops _ _ closed closed c.args.self.now c.mark.new.self e c.in_ok-mark.ensures.reads
    (then_stops _ _ closed c.mark.new.self e c.in_err-mark-2.ensures.reads) in
    grind (arith, common_steps)

pub returns-clause-reads : goal.returns-clause-reads
returns-clause-reads c =
    then_reads _ _ closed closed closed c.args.self.now c.mark.new.self c.all_finals.new.self c.all_finals.result c.in_ok-mark.ensures.reads
    (then_reads _ _ closed closed closed c.mark.new.self c.mark-2.new.self c.all_finals.new.self c.all_finals.result c.in_ok-mark-2.ensures.reads c.all_finals.ensures.reads)
