use Rattle.std.proofs.Common.{sym, ap, ◌∙◌, arith}
use Rattle.std.proofs.lemmas.Grind.{common_steps}
use Rattle.timbuk_reader.specs.View.{state_of}
use Rattle.timbuk_reader.specs.Meanings.{meant_by}
use Rattle.timbuk_reader.specs.ApproximationReads.{StopsLeaf}
use Rattle.timbuk_reader.proofs.parsing.ApproximationNames.{crowded_leaf, unknown_leaf, state_leaf, no_leaf}
use Rattle.timbuk_reader.proofs.state.Reader.next_leaf.Goals as goal
use Rattle.timbuk_reader.proofs.parsing.Arguments.{no_name_stops}

pub returns-in_err-name-clause-err : goal.returns-in_err-name-clause-err
returns-in_err-name-clause-err c =
    let e = c.in_err-name.field-0.0 in
    let stops : StopsLeaf c.args.role c.args.own.now c.args.self.now e = record { by = λ o ready same. no_name_stops c.args.role c.args.self.now e o ready c.in_err-name.ensures.err } in
    grind (arith, common_steps)

pub returns-in-Variable-clause-err : goal.returns-in-Variable-clause-err
returns-in-Variable-clause-err c =
    crowded_leaf c.args.role c.requires.role c.args.own.now c.in_ok-name.name.now c.args.self.now c.in_ok-name.ensures.ok c.in-Variable.variable c.refusal.result
    (sym c.meaning.ensures ∙ ap meant_by c.in-Variable.is) (sym c.has_room.ensures ∙ c.if-not-has_room.true) c.refusal.ensures

pub returns-in-State-clause-ok : goal.returns-in-State-clause-ok
returns-in-State-clause-ok c =
    state_leaf c.args.role c.requires.role c.args.own.now c.in_ok-name.name.now c.args.self.now c.in_ok-name.ensures.ok c.in-State.state (sym c.meaning.ensures ∙ ap meant_by c.in-State.is)

pub returns-in_default-clause-err : goal.returns-in_default-clause-err
returns-in_default-clause-err c =
    let text = c.in_ok-name.name.now in
    unknown_leaf c.args.role c.requires.role c.args.own.now text c.args.self.now c.in_ok-name.ensures.ok c.refusal-in_default.result
    (no_leaf c.args.role text (state_of c.args.self.now) c.meaning.result c.requires.role c.in_default.not-Variable c.in_default.not-State c.meaning.ensures) c.refusal-in_default.ensures
