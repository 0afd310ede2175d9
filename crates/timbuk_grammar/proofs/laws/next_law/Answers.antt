-- What may come next is what is computed.
use Rattle.timbuk_grammar.proofs.Computed as computed
use Rattle.timbuk_grammar.proofs.laws.next_law.Goals as goal

pub returns : goal.returns
returns c = computed.next_law
