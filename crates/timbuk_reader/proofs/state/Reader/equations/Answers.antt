use Rattle.std.proofs.Common.{arith}
use Rattle.std.proofs.lemmas.Grind.{common_steps}
use Rattle.timbuk_grammar.specs.Grammar.{equations}
use Rattle.timbuk_reader.specs.View.{closed}
use Rattle.timbuk_reader.specs.Reads.{Stops}
use Rattle.timbuk_reader.proofs.parsing.Parts.{then_stops, later_stops, then_reads}
use Rattle.timbuk_reader.proofs.state.Reader.equations.Goals as goal

pub returns-in_err-equations_word-clause-reads : goal.returns-in_err-equations_word-clause-reads
returns-in_err-equations_word-clause-reads c =
    let e = c.in_err-equations_word.field-0.0 in
    let stops : Stops equations closed c.args.self.now e =
    then_stops _ _ closed c.args.self.now e c.in_err-equations_word.ensures.reads in
    grind (arith, common_steps)

pub returns-in_err-title-clause-reads : goal.returns-in_err-title-clause-reads
returns-in_err-title-clause-reads c =
    let e = c.in_err-title.field-0.0 in
    let stops : Stops equations closed c.args.self.now e =
    later_stops _ _ closed closed c.args.self.now c.equations_word.new.self e c.in_ok-equations_word.ensures.reads
    (then_stops _ _ closed c.equations_word.new.self e c.in_err-title.ensures.reads) in
    grind (arith, common_steps)

pub returns-in_err-mark-clause-reads : goal.returns-in_err-mark-clause-reads
returns-in_err-mark-clause-reads c =
    let e = c.in_err-mark.field-0.0 in
    let stops : Stops equations closed c.args.self.now e =
    later_stops _ _ closed closed c.args.self.now c.equations_word.new.self e c.in_ok-equations_word.ensures.reads
    (later_stops _ _ closed closed c.equations_word.new.self c.title.new.self e c.in_ok-title.ensures.reads
    (then_stops _ _ closed c.title.new.self e c.in_err-mark.ensures.reads)) in
    grind (arith, common_steps)

pub returns-clause-reads : goal.returns-clause-reads
returns-clause-reads c =
    then_reads _ _ closed closed closed c.args.self.now c.equations_word.new.self c.all_equations.new.self c.all_equations.result c.in_ok-equations_word.ensures.reads
    (then_reads _ _ closed closed closed c.equations_word.new.self c.title.new.self c.all_equations.new.self c.all_equations.result c.in_ok-title.ensures.reads
    (then_reads _ _ closed closed closed c.title.new.self c.mark.new.self c.all_equations.new.self c.all_equations.result c.in_ok-mark.ensures.reads c.all_equations.ensures.reads))
