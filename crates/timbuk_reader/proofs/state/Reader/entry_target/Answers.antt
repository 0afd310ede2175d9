use Rattle.std.proofs.Common.{sym, ◌∙◌, arith}
use Rattle.std.proofs.lemmas.Grind.{common_steps}
use Rattle.timbuk_grammar.specs.declared.terminal.Role.TheVariants as role
use Rattle.timbuk_reader.specs.ApproximationReads.{StopsName}
use Rattle.timbuk_reader.proofs.parsing.ApproximationNames.{target_unknown, target_reads, target_stops}
use Rattle.timbuk_reader.proofs.state.Reader.entry_target.Goals as goal
use Rattle.timbuk_reader.proofs.parsing.Arguments.{no_name_stops}

pub returns-in_err-name-clause-err : goal.returns-in_err-name-clause-err
returns-in_err-name-clause-err c =
    let e = c.in_err-name.field-0.0 in
    let stops : StopsName role.EntryTarget c.args.self.now e = record { by = λ o ready. no_name_stops role.EntryTarget c.args.self.now e o ready c.in_err-name.ensures.err } in
    grind (arith, common_steps)

pub returns-in_default-clause-err : goal.returns-in_default-clause-err
returns-in_default-clause-err c =
    target_unknown c.in_ok-name.name.now c.args.self.now c.in_ok-name.ensures.ok c.refusal.result (sym c.find.ensures ∙ c.in_default.is) c.refusal.ensures

pub returns-in_err-leaf-clause-err : goal.returns-in_err-leaf-clause-err
returns-in_err-leaf-clause-err c =
    let e = c.in_err-leaf.field-0.0 in
    let stops : StopsName role.EntryTarget c.args.self.now e =
    target_stops c.in_ok-name.name.now c.args.self.now c.in_ok-name.ensures.ok c.in-Some.target (sym c.find.ensures ∙ c.in-Some.is) c.leaf.new.self e c.in_err-leaf.ensures in
    grind (arith, common_steps)

pub returns-clause-ok : goal.returns-clause-ok
returns-clause-ok c = target_reads c.in_ok-name.name.now c.args.self.now c.in_ok-name.ensures.ok c.in-Some.target (sym c.find.ensures ∙ c.in-Some.is) c.leaf.new.self c.in_ok-leaf.ensures.0 c.in_ok-leaf.ensures.1
