use Rattle.library_cases.proofs.store_steps.+put.Given as goal

abbrev pub decreases-put : goal.decreases-put
decreases-put l = goal.size-put l
