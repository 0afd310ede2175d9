use Rattle.std.proofs.Common.{arith, sym, ap, ◌∙◌}
use Rattle.std.proofs.lemmas.Grind.{common_steps}
use Rattle.timbuk_reader.specs.Meanings.{meant_by}
use Rattle.timbuk_reader.specs.AutomatonReads.{StopsState}
use Rattle.timbuk_reader.proofs.parsing.Automaton.{uses_means, means_nothing, state_below, unknown_stops, state_advances, applied_stops}
use Rattle.timbuk_reader.proofs.state.Reader.state.Goals as goal

pub returns-in_default : goal.returns-in_default
returns-in_default c =
    let r = c.args.self.now in
    let p = c.args.role in
    let text = c.in_ok-name.name.now in
    record {
      shorter = tt;
      ok = tt;
      err = record { by = λ o ready. unknown_stops p o r (uses_means p c.requires) ready text c.refusal.result c.in_ok-name.ensures.ok (means_nothing p text r c.meaning.result c.requires c.meaning.ensures c.in_default.not-State) c.refusal.ensures };
      below = tt;
      same = tt;
    }

pub returns-in_err-leaf-clause-err : goal.returns-in_err-leaf-clause-err
returns-in_err-leaf-clause-err c =
    let r = c.args.self.now in
    let p = c.args.role in
    let e = c.in_err-leaf.field-0.0 in
    let told = c.in_err-leaf.ensures in
    let means = sym c.meaning.ensures ∙ ap meant_by c.in-State.is in
    let stops : StopsState p r e =
    record { by = λ o ready. applied_stops p o r (uses_means p c.requires) ready c.in_ok-name.name.now c.in-State.state c.leaf.new.self c.in_ok-name.ensures.ok means told.advanced e told.seen told.told } in
    grind (arith, common_steps)

pub returns-clause-ok : goal.returns-clause-ok
returns-clause-ok c =
    let r = c.args.self.now in
    let p = c.args.role in
    let text = c.in_ok-name.name.now in
    let told = c.in_ok-leaf.ensures in
    let means = sym c.meaning.ensures ∙ ap meant_by c.in-State.is in
    record { by = λ o ready. state_advances p o r (uses_means p c.requires) ready text c.in-State.state c.leaf.new.self c.in_ok-name.ensures.ok means told.0 told.1 }

pub returns-clause-below : goal.returns-clause-below
returns-clause-below c =
    let told = c.in_ok-leaf.ensures in
    state_below c.args.role c.in_ok-name.name.now c.args.self.now c.leaf.new.self c.in-State.state c.requires (sym c.meaning.ensures ∙ ap meant_by c.in-State.is) told.0.state
