use Rattle.std.proofs.Common.{arith}
use Rattle.std.proofs.lemmas.Grind.{common_steps}
use Rattle.timbuk_grammar.specs.Grammar.{file}
use Rattle.timbuk_reader.specs.View.{closed}
use Rattle.timbuk_reader.specs.Reads.{Stops}
use Rattle.timbuk_reader.proofs.parsing.Parts.{then_stops, later_stops, then_reads}
use Rattle.timbuk_reader.proofs.state.Reader.declarations.Goals as goal

pub returns-in_err-ops : goal.returns-in_err-ops
returns-in_err-ops c =
    let e = c.in_err-ops.field-0.0 in
    let stops : Stops file closed c.args.self.now e =
    then_stops _ _ closed c.args.self.now e c.in_err-ops.ensures.reads in
    grind (arith, common_steps)

pub returns-in_err-vars : goal.returns-in_err-vars
returns-in_err-vars c =
    let e = c.in_err-vars.field-0.0 in
    let stops : Stops file closed c.args.self.now e =
    later_stops _ _ closed closed c.args.self.now c.ops.new.self e c.in_ok-ops.ensures.reads
    (then_stops _ _ closed c.ops.new.self e c.in_err-vars.ensures) in
    grind (arith, common_steps)

pub returns : goal.returns
returns c =
    then_reads _ _ closed closed closed c.args.self.now c.ops.new.self c.sections.new.self c.sections.result c.in_ok-ops.ensures.reads
    (then_reads _ _ closed closed closed c.ops.new.self c.vars.new.self c.sections.new.self c.sections.result c.in_ok-vars.ensures c.sections.ensures)
