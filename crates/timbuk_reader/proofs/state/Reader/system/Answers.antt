use Rattle.std.proofs.Common.{arith}
use Rattle.std.proofs.lemmas.Grind.{common_steps}
use Rattle.timbuk_grammar.specs.Grammar.{system}
use Rattle.timbuk_reader.specs.View.{closed}
use Rattle.timbuk_reader.specs.Reads.{Stops}
use Rattle.timbuk_reader.proofs.parsing.Parts.{then_stops, later_stops, then_reads}
use Rattle.timbuk_reader.proofs.state.Reader.system.Goals as goal

pub returns-in_err-system_word-clause-reads : goal.returns-in_err-system_word-clause-reads
returns-in_err-system_word-clause-reads c =
    let e = c.in_err-system_word.field-0.0 in
    let stops : Stops system closed c.args.self.now e =
    then_stops _ _ closed c.args.self.now e c.in_err-system_word.ensures.reads in
    grind (arith, common_steps)

pub returns-in_err-title-clause-reads : goal.returns-in_err-title-clause-reads
returns-in_err-title-clause-reads c =
    let e = c.in_err-title.field-0.0 in
    let stops : Stops system closed c.args.self.now e =
    later_stops _ _ closed closed c.args.self.now c.system_word.new.self e c.in_ok-system_word.ensures.reads
    (then_stops _ _ closed c.system_word.new.self e c.in_err-title.ensures.reads) in
    grind (arith, common_steps)

pub returns-clause-reads : goal.returns-clause-reads
returns-clause-reads c =
    then_reads _ _ closed closed closed c.args.self.now c.system_word.new.self c.all_rules.new.self c.all_rules.result c.in_ok-system_word.ensures.reads
    (then_reads _ _ closed closed closed c.system_word.new.self c.title.new.self c.all_rules.new.self c.all_rules.result c.in_ok-title.ensures.reads c.all_rules.ensures.reads)
