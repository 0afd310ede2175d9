use Rattle.std.proofs.Common.{◌≡◌, ◌<◌, length, ap, arith}
use Rattle.std.proofs.lemmas.Grind.{common_steps}
use Rattle.timbuk_grammar.specs.Grammar.{name, arguments}
use Rattle.timbuk_grammar.specs.declared.terminal.Role.TheVariants as role
use Rattle.timbuk_grammar.specs.declared.terminal.Terminal.TheVariants as terminal
use Rattle.timbuk_reader.specs.Reads.{Stops}
use Rattle.timbuk_reader.specs.ApproximationReads.{headed}
use Rattle.timbuk_reader.proofs.parsing.ApproximationRules.{IsBare, none_reads, lacks_first, first_stops, first_argues, lacks_next, next_stops, next_argues, last_reads, took_same, took_shorter, only_then, head_then}
use Rattle.timbuk_reader.proofs.keeping.Approximation.{started_kept, last_started}
use Rattle.timbuk_reader.proofs.state.Reader.entry_arguments.Goals as goal

pub returns-then-entry-eq0-clause-reads : goal.returns-then-entry-eq0-clause-reads
returns-then-entry-eq0-clause-reads c =
    none_reads c.args.entry.now (record { args = c.requires.none; own = c.requires.no_own }) c.args.self.now c.if-entry-eq0.true c.no_arguments.result c.no_arguments.ensures

pub returns-in_err-first_argument-clause-reads : goal.returns-in_err-first_argument-clause-reads
returns-in_err-first_argument-clause-reads c =
    let e = c.in_err-first_argument.field-0.0 in
    let entry = c.args.entry.now in
    let bare : IsBare entry = record { args = c.requires.none; own = c.requires.no_own } in
    let some : 0 < entry.arity = omega arith in
    let stops : Stops (arguments (name role.EntryArgument)) (headed entry) c.args.self.now e = lacks_first entry bare c.args.self.now some e c.in_err-first_argument.ensures in
    grind (arith, common_steps)

pub returns-in_err-entry_argument-clause-reads : goal.returns-in_err-entry_argument-clause-reads
returns-in_err-entry_argument-clause-reads c =
    let e = c.in_err-entry_argument.field-0.0 in
    let entry = c.args.entry.now in
    let bare : IsBare entry = record { args = c.requires.none; own = c.requires.no_own } in
    let some : 0 < entry.arity = omega arith in
    let stops : Stops (arguments (name role.EntryArgument)) (headed entry) c.args.self.now e = first_stops entry bare c.args.self.now some c.first_argument.new.self e c.in_ok-first_argument.ensures c.in_err-entry_argument.ensures.reads in
    grind (arith, common_steps)

pub loop-entry-init : goal.loop-entry-init
loop-entry-init c =
    let r = c.args.self.now in
    let m = c.first_argument.new.self in
    let u = c.entry_argument.new.self in
    let entry = c.args.entry.now in
    let more = c.entry_argument.new.entry in
    let bare : IsBare entry = record { args = c.requires.none; own = c.requires.no_own } in
    let some : 0 < entry.arity = omega arith in
    let took = c.in_ok-first_argument.ensures in
    let read = c.in_ok-entry_argument.ensures in
    record {
      argues = first_argues entry bare r some m u more took read.reads;
      head = read.head;
      started = read.started;
      room = omega (arith, ap length c.requires.none, read.count, read.head.arity);
      same = only_then r m u (took_same terminal.OpenParen r m took) read.same;
      no_longer = omega (arith, took_shorter terminal.OpenParen r m took);
    }

pub returns-in_err-next_argument-clause-reads : goal.returns-in_err-next_argument-clause-reads
returns-in_err-next_argument-clause-reads c =
    let e = c.in_err-next_argument.field-0.0 in
    let f = c.loop-entry.entry in
    let less : length f.args < f.arity = omega arith in
    let stops : Stops (arguments (name role.EntryArgument)) (headed c.args.entry.now) c.args.self.now e = lacks_next c.args.self.now c.loop-entry.self c.args.entry.now f c.loop-entry.invariant.argues less e c.in_err-next_argument.ensures in
    grind (arith, common_steps)

pub entry_argument-requires-in-loop-entry-clause-started : goal.entry_argument-requires-in-loop-entry-clause-started
entry_argument-requires-in-loop-entry-clause-started c =
    started_kept c.loop-entry.self c.next_argument.new.self c.loop-entry.entry (took_same terminal.Comma c.loop-entry.self c.next_argument.new.self c.in_ok-next_argument.ensures) c.loop-entry.invariant.started

pub loop-entry-preserved : goal.loop-entry-preserved
loop-entry-preserved c =
    let r = c.args.self.now in
    let m = c.loop-entry.self in
    let v = c.next_argument.new.self in
    let u = c.entry_argument-in-loop-entry.new.self in
    let e = c.args.entry.now in
    let f = c.loop-entry.entry in
    let g = c.entry_argument-in-loop-entry.new.entry in
    let h = c.loop-entry.invariant in
    let less : length f.args < f.arity = omega arith in
    let took = c.in_ok-next_argument.ensures in
    let read = c.in_ok-entry_argument-2.ensures in
    record {
      argues = next_argues r m e f h.argues less v u g took read.reads;
      head = head_then e f g h.head read.head;
      started = read.started;
      room = omega (arith, read.count, read.head.arity);
      same = only_then r m u h.same (only_then m v u (took_same terminal.Comma m v took) read.same);
      no_longer = omega (arith, took_shorter terminal.Comma m v took, h.no_longer, read.shorter);
    }

pub returns-in_err-entry_argument-2-clause-reads : goal.returns-in_err-entry_argument-2-clause-reads
returns-in_err-entry_argument-2-clause-reads c =
    let e = c.in_err-entry_argument-2.field-0.0 in
    let f = c.loop-entry.entry in
    let less : length f.args < f.arity = omega arith in
    let stops : Stops (arguments (name role.EntryArgument)) (headed c.args.entry.now) c.args.self.now e =
    next_stops c.args.self.now c.loop-entry.self c.args.entry.now f c.loop-entry.invariant.argues less c.next_argument.new.self e c.in_ok-next_argument.ensures c.in_err-entry_argument-2.ensures.reads in
    grind (arith, common_steps)

pub returns-clause-reads : goal.returns-clause-reads
returns-clause-reads c =
    let f = c.loop-entry.entry in
    let room = c.loop-entry.invariant.room in
    let full : length f.args ≡ f.arity = omega arith in
    last_reads c.args.self.now c.loop-entry.self c.last_argument.new.self c.args.entry.now f c.loop-entry.invariant.argues full c.last_argument.result c.last_argument.ensures

pub returns-clause-started : goal.returns-clause-started
returns-clause-started c = last_started c.loop-entry.self c.last_argument.new.self c.loop-entry.entry c.loop-entry.invariant.started c.last_argument.result c.last_argument.ensures
