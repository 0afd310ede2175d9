use Rattle.std.proofs.Common.{arith}
use Rattle.std.proofs.lemmas.Grind.{common_steps}
use Rattle.timbuk_grammar.specs.Grammar.{name, one, op, ◌then◌}
use Rattle.timbuk_grammar.specs.declared.terminal.Role.TheVariants as role
use Rattle.timbuk_grammar.specs.declared.terminal.Terminal.TheVariants as terminal
use Rattle.timbuk_reader.specs.View.{closed, naming}
use Rattle.timbuk_reader.specs.Reads.{Stops}
use Rattle.timbuk_reader.proofs.parsing.Parts.{then_stops, later_stops, then_reads}
use Rattle.timbuk_reader.proofs.parsing.Tokens.{mark_advances, mark_stops, naming_calm}
use Rattle.timbuk_reader.proofs.state.Reader.op.Goals as goal

pub returns-in_err-name-clause-reads : goal.returns-in_err-name-clause-reads
returns-in_err-name-clause-reads c =
    let e = c.in_err-name.field-0.0 in
    let stops : Stops op closed c.args.self.now e = then_stops _ _ closed c.args.self.now e c.in_err-name.ensures.err in
    grind (arith, common_steps)

pub returns-in_err-mark-clause-reads : goal.returns-in_err-mark-clause-reads
returns-in_err-mark-clause-reads c =
    let r = c.args.self.now in
    let m = c.symbol_name.new.self in
    let text = c.in_ok-name.name.now in
    let e = c.in_err-mark.field-0.0 in
    let stops : Stops op closed r e =
    later_stops _ _ closed (naming text) r m e c.in_ok-name.ensures.ok
    (then_stops _ _ (naming text) m e (mark_stops terminal.Colon (naming text) m e (naming_calm text) c.in_err-mark.ensures.takes)) in
    grind (arith, common_steps)

pub returns-clause-reads : goal.returns-clause-reads
returns-clause-reads c =
    let r = c.args.self.now in
    let m = c.symbol_name.new.self in
    let text = c.in_ok-name.name.now in
    then_reads (name role.Symbol) (one terminal.Colon then one terminal.Number) closed (naming text) closed r m c.arity.new.self c.arity.result c.in_ok-name.ensures.ok
    (then_reads (one terminal.Colon) (one terminal.Number) (naming text) (naming text) closed m c.mark.new.self c.arity.new.self c.arity.result
    (mark_advances terminal.Colon (naming text) m c.mark.new.self tt (naming_calm text) c.in_ok-mark.ensures.takes) c.arity.ensures.reads)
