use Rattle.std.proofs.Common.{arith}
use Rattle.std.proofs.lemmas.Grind.{common_steps}
use Rattle.timbuk_grammar.specs.declared.terminal.Role.TheVariants as role
use Rattle.timbuk_reader.specs.View.{closed}
use Rattle.timbuk_reader.specs.Reads.{Stops}
use Rattle.timbuk_reader.specs.AutomatonReads.{described}
use Rattle.timbuk_reader.proofs.parsing.Parts.{then_stops, later_stops, then_reads}
use Rattle.timbuk_reader.proofs.parsing.Automaton.{described_advances, stops_closed}
use Rattle.timbuk_reader.proofs.state.Reader.described_state.Goals as goal

pub returns-in_err-state-clause-reads : goal.returns-in_err-state-clause-reads
returns-in_err-state-clause-reads c =
    let r = c.args.self.now in
    let e = c.in_err-state.field-0.0 in
    let stops : Stops described closed r e = then_stops _ _ closed r e (stops_closed role.DescribedState r e c.in_err-state.ensures.err) in
    grind (arith, common_steps)

pub returns-in_err-mark-clause-reads : goal.returns-in_err-mark-clause-reads
returns-in_err-mark-clause-reads c =
    let r = c.args.self.now in
    let m = c.state.new.self in
    let e = c.in_err-mark.field-0.0 in
    let stops : Stops described closed r e =
    later_stops _ _ closed closed r m e (described_advances r m c.in_ok-state.field-0 c.in_ok-state.ensures.ok)
    (then_stops _ _ closed m e c.in_err-mark.ensures.reads) in
    grind (arith, common_steps)

pub returns-clause-reads : goal.returns-clause-reads
returns-clause-reads c =
    let r = c.args.self.now in
    let m = c.state.new.self in
    let u = c.mark-2.new.self in
    then_reads _ _ closed closed closed r m u c.mark-2.result (described_advances r m c.in_ok-state.field-0 c.in_ok-state.ensures.ok)
    (then_reads _ _ closed closed closed m c.mark.new.self u c.mark-2.result c.in_ok-mark.ensures.reads c.mark-2.ensures.reads)
