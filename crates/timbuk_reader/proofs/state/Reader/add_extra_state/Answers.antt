use Rattle.std.proofs.Common.{◌+◌, ap}
use Rattle.spec_text.specs.Declarations.{Declared, adds}
use Rattle.timbuk_reader.proofs.keeping.Automaton.{extra_own, extra_finals, extra_trans, extra_eps}
use Rattle.timbuk_reader.proofs.state.Reader.add_extra_state.Goals as goal

pub returns-clause-ok : goal.returns-clause-ok
unfolding adds
returns-clause-ok c = ap (λ (d : Declared). record d { extra = d.extra + 1 }) c.in_ok-add_initial_state.ensures.ok

pub invariant_of-self-clause-own_states : goal.invariant_of-self-clause-own_states
invariant_of-self-clause-own_states c = extra_own c.args.self.now c.add_initial_state.new.self c.args.name.now c.in_ok-add_initial_state.ensures.ok

pub invariant_of-self-clause-initial_finals : goal.invariant_of-self-clause-initial_finals
invariant_of-self-clause-initial_finals c = extra_finals c.args.self.now c.add_initial_state.new.self c.args.name.now c.in_ok-add_initial_state.ensures.ok

pub invariant_of-self-clause-initial_trans : goal.invariant_of-self-clause-initial_trans
invariant_of-self-clause-initial_trans c = extra_trans c.args.self.now c.add_initial_state.new.self c.args.name.now c.in_ok-add_initial_state.ensures.ok

pub invariant_of-self-clause-initial_eps : goal.invariant_of-self-clause-initial_eps
invariant_of-self-clause-initial_eps c = extra_eps c.args.self.now c.add_initial_state.new.self c.args.name.now c.in_ok-add_initial_state.ensures.ok
