use Rattle.std.proofs.Common.{arith}
use Rattle.std.proofs.lemmas.Grind.{common_steps}
use Rattle.timbuk_grammar.specs.Grammar.{transitions}
use Rattle.timbuk_reader.specs.View.{closed}
use Rattle.timbuk_reader.specs.Reads.{Stops}
use Rattle.timbuk_reader.proofs.parsing.Parts.{then_stops, later_stops, then_reads}
use Rattle.timbuk_reader.proofs.state.Reader.transitions.Goals as goal

pub returns-in_err-prior-clause-reads : goal.returns-in_err-prior-clause-reads
returns-in_err-prior-clause-reads c =
    let e = c.in_err-prior.field-0.0 in
    let stops : Stops transitions closed c.args.self.now e =
    then_stops _ _ closed c.args.self.now e c.in_err-prior.ensures.reads in
    grind (arith, common_steps)

pub returns-in_err-mark-clause-reads : goal.returns-in_err-mark-clause-reads
returns-in_err-mark-clause-reads c =
    let e = c.in_err-mark.field-0.0 in
    let stops : Stops transitions closed c.args.self.now e =
    later_stops _ _ closed closed c.args.self.now c.prior.new.self e c.in_ok-prior.ensures.reads
    (then_stops _ _ closed c.prior.new.self e c.in_err-mark.ensures.reads) in
    grind (arith, common_steps)

pub returns-clause-reads : goal.returns-clause-reads
returns-clause-reads c =
    then_reads _ _ closed closed closed c.args.self.now c.prior.new.self c.all_transitions.new.self c.all_transitions.result c.in_ok-prior.ensures.reads
    (then_reads _ _ closed closed closed c.prior.new.self c.mark.new.self c.all_transitions.new.self c.all_transitions.result c.in_ok-mark.ensures.reads c.all_transitions.ensures.reads)
