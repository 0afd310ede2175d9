use Rattle.closure_check.proofs.prepared.Prepared.eps_from.Goals as goal

pub returns-clause-members : goal.returns-clause-members
returns-clause-members c = rw (← c.self.view_is) c.eps_from.ensures.members
