use Rattle.ta_core.proofs.reached.Reached.to_set.Goals as goal

pub returns : goal.returns
returns c = rw (← c.self.view_is, ← c.as_slice.ensures.keys, ← c.in_ok-states.ensures.items) c.from_states.ensures
