use Rattle.timbuk_reader.proofs.parsing.Names.{no_position}
use Rattle.timbuk_reader.proofs.keeping.Automaton.{longer, own_longer, below_grows, eps_grow, trans_grow, no_entries_below}
use Rattle.timbuk_reader.proofs.state.Reader.add_initial_state.Goals as goal

pub add-requires-clause-new : goal.add-requires-clause-new
add-requires-clause-new c = no_position c.args.self.now.initial.states c.args.name.now c.requires.new

pub invariant_of-self-clause-initial_finals : goal.invariant_of-self-clause-initial_finals
invariant_of-self-clause-initial_finals c = below_grows _ _ _ (own_longer _ _ c.args.self.now.extra (longer c.add.result _ _ _ c.add.ensures.ok c.add.ensures.err)) c.args.self.now.initial_finals

pub invariant_of-self-clause-initial_trans : goal.invariant_of-self-clause-initial_trans
invariant_of-self-clause-initial_trans c = trans_grow _ _ _ (own_longer _ _ c.args.self.now.extra (longer c.add.result _ _ _ c.add.ensures.ok c.add.ensures.err)) c.args.self.now.initial_trans

pub invariant_of-self-clause-initial_eps : goal.invariant_of-self-clause-initial_eps
invariant_of-self-clause-initial_eps c = eps_grow _ _ _ (own_longer _ _ c.args.self.now.extra (longer c.add.result _ _ _ c.add.ensures.ok c.add.ensures.err)) c.args.self.now.initial_eps

pub invariant_of-self-clause-entries_below : goal.invariant_of-self-clause-entries_below
invariant_of-self-clause-entries_below c = no_entries_below _ _ c.requires.early
