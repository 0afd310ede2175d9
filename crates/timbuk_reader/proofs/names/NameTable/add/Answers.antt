use Rattle.timbuk_reader.proofs.keeping.Names.{added-names, added-are}
use Rattle.timbuk_reader.proofs.names.NameTable.add.Goals as goal

pub invariant_of-self-2 : goal.invariant_of-self-2
invariant_of-self-2 c =
    added-are c.self.inside.names.keys c.insert.new.self.keys c.in_ok-key.key c.args.self.now c.args.name.now c.self.view_is c.in_ok-key.ensures.ok c.requires.new c.in_ok-insert.ensures.keys c.requires.room c.in_ok-insert.ensures.unique

pub returns-clause-ok : goal.returns-clause-ok
returns-clause-ok c =
    added-names c.self.inside.names.keys c.insert.new.self.keys c.in_ok-key.key c.args.self.now c.args.name.now c.self.view_is c.in_ok-key.ensures.ok c.requires.new c.in_ok-insert.ensures.keys
