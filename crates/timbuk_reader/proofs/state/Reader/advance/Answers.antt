use Rattle.timbuk_reader.proofs.keeping.Words.{tail_words}
use Rattle.timbuk_reader.proofs.state.Reader.advance.Goals as goal

pub invariant_of-self-clause-words : goal.invariant_of-self-clause-words
invariant_of-self-clause-words c = tail_words c.args.self.now.tokens.now c.requires c.args.self.now.words
