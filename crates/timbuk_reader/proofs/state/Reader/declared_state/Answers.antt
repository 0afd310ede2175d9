use Rattle.std.proofs.Common.{arith}
use Rattle.std.proofs.lemmas.Grind.{common_steps}
use Rattle.timbuk_grammar.specs.Grammar.{state}
use Rattle.timbuk_reader.specs.View.{closed}
use Rattle.timbuk_reader.specs.Reads.{Stops}
use Rattle.timbuk_reader.proofs.parsing.Parts.{then_stops, then_reads}
use Rattle.timbuk_reader.proofs.state.Reader.declared_state.Goals as goal

pub returns-in_err-state_name-clause-reads : goal.returns-in_err-state_name-clause-reads
returns-in_err-state_name-clause-reads c =
    let e = c.in_err-state_name.field-0.0 in
    let stops : Stops (state c.args.role) closed c.args.self.now e =
    then_stops _ _ closed c.args.self.now e c.in_err-state_name.ensures.reads in
    grind (arith, common_steps)

pub returns-clause-reads : goal.returns-clause-reads
returns-clause-reads c =
    then_reads _ _ closed closed closed c.args.self.now c.state_name.new.self c.no_arity.new.self c.no_arity.result c.in_ok-state_name.ensures.reads c.no_arity.ensures.reads
