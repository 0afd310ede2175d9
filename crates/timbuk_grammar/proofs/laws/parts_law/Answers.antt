-- What may come next at a part, in terms of what it consists of.
use Rattle.timbuk_grammar.proofs.Parts as parts
use Rattle.timbuk_grammar.proofs.laws.parts_law.Goals as goal

pub returns : goal.returns
returns c = parts.parts_law
