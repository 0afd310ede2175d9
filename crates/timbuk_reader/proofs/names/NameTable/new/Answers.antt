use Rattle.timbuk_reader.proofs.keeping.Names.{texts-empty}
use Rattle.timbuk_reader.proofs.names.NameTable.new.Goals as goal

pub invariant_of-result : goal.invariant_of-result
invariant_of-result c = texts-empty c.new.result.keys c.new.ensures.empty
