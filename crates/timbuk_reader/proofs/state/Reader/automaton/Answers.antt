use Rattle.std.proofs.Common.{arith}
use Rattle.std.proofs.lemmas.Grind.{common_steps}
use Rattle.timbuk_grammar.specs.Grammar.{automaton}
use Rattle.timbuk_reader.specs.View.{closed}
use Rattle.timbuk_reader.specs.Reads.{Stops}
use Rattle.timbuk_reader.proofs.parsing.Parts.{then_stops, later_stops, then_reads}
use Rattle.timbuk_reader.proofs.state.Reader.automaton.Goals as goal

pub returns-in_err-automaton_word-clause-reads : goal.returns-in_err-automaton_word-clause-reads
returns-in_err-automaton_word-clause-reads c =
    let e = c.in_err-automaton_word.field-0.0 in
    let stops : Stops automaton closed c.args.self.now e =
    then_stops _ _ closed c.args.self.now e c.in_err-automaton_word.ensures.reads in
    grind (arith, common_steps)

pub returns-in_err-title-clause-reads : goal.returns-in_err-title-clause-reads
returns-in_err-title-clause-reads c =
    let e = c.in_err-title.field-0.0 in
    let stops : Stops automaton closed c.args.self.now e =
    later_stops _ _ closed closed c.args.self.now c.automaton_word.new.self e c.in_ok-automaton_word.ensures.reads
    (then_stops _ _ closed c.automaton_word.new.self e c.in_err-title.ensures.reads) in
    grind (arith, common_steps)

pub returns-in_err-mark-clause-reads : goal.returns-in_err-mark-clause-reads
returns-in_err-mark-clause-reads c =
    let e = c.in_err-mark.field-0.0 in
    let stops : Stops automaton closed c.args.self.now e =
    later_stops _ _ closed closed c.args.self.now c.automaton_word.new.self e c.in_ok-automaton_word.ensures.reads
    (later_stops _ _ closed closed c.automaton_word.new.self c.title.new.self e c.in_ok-title.ensures.reads
    (then_stops _ _ closed c.title.new.self e c.in_err-mark.ensures.reads)) in
    grind (arith, common_steps)

pub returns-in_err-states-clause-reads : goal.returns-in_err-states-clause-reads
returns-in_err-states-clause-reads c =
    let e = c.in_err-states.field-0.0 in
    let stops : Stops automaton closed c.args.self.now e =
    later_stops _ _ closed closed c.args.self.now c.automaton_word.new.self e c.in_ok-automaton_word.ensures.reads
    (later_stops _ _ closed closed c.automaton_word.new.self c.title.new.self e c.in_ok-title.ensures.reads
    (later_stops _ _ closed closed c.title.new.self c.mark.new.self e c.in_ok-mark.ensures.reads
    (then_stops _ _ closed c.mark.new.self e c.in_err-states.ensures.reads))) in
    grind (arith, common_steps)

pub returns-in_err-description-clause-reads : goal.returns-in_err-description-clause-reads
returns-in_err-description-clause-reads c =
    let e = c.in_err-description.field-0.0 in
    let stops : Stops automaton closed c.args.self.now e =
    later_stops _ _ closed closed c.args.self.now c.automaton_word.new.self e c.in_ok-automaton_word.ensures.reads
    (later_stops _ _ closed closed c.automaton_word.new.self c.title.new.self e c.in_ok-title.ensures.reads
    (later_stops _ _ closed closed c.title.new.self c.mark.new.self e c.in_ok-mark.ensures.reads
    (later_stops _ _ closed closed c.mark.new.self c.states.new.self e c.in_ok-states.ensures.reads
    (then_stops _ _ closed c.states.new.self e c.in_err-description.ensures.reads)))) in
    grind (arith, common_steps)

pub returns-in_err-final_states-clause-reads : goal.returns-in_err-final_states-clause-reads
returns-in_err-final_states-clause-reads c =
    let e = c.in_err-final_states.field-0.0 in
    let stops : Stops automaton closed c.args.self.now e =
    later_stops _ _ closed closed c.args.self.now c.automaton_word.new.self e c.in_ok-automaton_word.ensures.reads
    (later_stops _ _ closed closed c.automaton_word.new.self c.title.new.self e c.in_ok-title.ensures.reads
    (later_stops _ _ closed closed c.title.new.self c.mark.new.self e c.in_ok-mark.ensures.reads
    (later_stops _ _ closed closed c.mark.new.self c.states.new.self e c.in_ok-states.ensures.reads
    (later_stops _ _ closed closed c.states.new.self c.description.new.self e c.in_ok-description.ensures.reads
    (then_stops _ _ closed c.description.new.self e c.in_err-final_states.ensures.reads))))) in
    grind (arith, common_steps)

pub returns-clause-reads : goal.returns-clause-reads
returns-clause-reads c =
    then_reads _ _ closed closed closed c.args.self.now c.automaton_word.new.self c.transitions.new.self c.transitions.result c.in_ok-automaton_word.ensures.reads
    (then_reads _ _ closed closed closed c.automaton_word.new.self c.title.new.self c.transitions.new.self c.transitions.result c.in_ok-title.ensures.reads
    (then_reads _ _ closed closed closed c.title.new.self c.mark.new.self c.transitions.new.self c.transitions.result c.in_ok-mark.ensures.reads
    (then_reads _ _ closed closed closed c.mark.new.self c.states.new.self c.transitions.new.self c.transitions.result c.in_ok-states.ensures.reads
    (then_reads _ _ closed closed closed c.states.new.self c.description.new.self c.transitions.new.self c.transitions.result c.in_ok-description.ensures.reads
    (then_reads _ _ closed closed closed c.description.new.self c.final_states.new.self c.transitions.new.self c.transitions.result c.in_ok-final_states.ensures.reads c.transitions.ensures.reads)))))
