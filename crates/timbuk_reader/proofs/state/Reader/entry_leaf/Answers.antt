use Rattle.std.proofs.Common.{arith}
use Rattle.std.proofs.lemmas.Grind.{common_steps}
use Rattle.timbuk_reader.specs.ApproximationReads.{StopsLeaf}
use Rattle.timbuk_reader.proofs.parsing.ApproximationNames.{leaf_reads, leaf_stops}
use Rattle.timbuk_reader.proofs.state.Reader.entry_leaf.Goals as goal

pub returns-in_err-leaf-2-clause-err : goal.returns-in_err-leaf-2-clause-err
returns-in_err-leaf-2-clause-err c =
    let e = c.in_err-leaf-2.field-0.0 in
    let stops : StopsLeaf c.args.role c.args.own.now c.args.self.now e = leaf_stops c.args.role c.requires.role c.args.own.now c.args.self.now c.leaf.new.self c.in_ok-leaf.leaf c.in_ok-leaf.ensures.ok e c.in_err-leaf-2.ensures in
    grind (arith, common_steps)

pub returns-clause-ok : goal.returns-clause-ok
returns-clause-ok c = leaf_reads c.args.role c.requires.role c.args.own.now c.args.self.now c.leaf.new.self c.in_ok-leaf.leaf c.in_ok-leaf.ensures.ok c.in_ok-leaf-2.ensures.0 c.in_ok-leaf-2.ensures.1
