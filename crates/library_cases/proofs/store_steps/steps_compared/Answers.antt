use Rattle.library_cases.proofs.store_steps.steps_compared.Goals as goal

pub successors-requires-clause-arguments : goal.successors-requires-clause-arguments
successors-requires-clause-arguments c =
    c.of_terms_over.ensures.narrow c.args.spec.now.signature c.len-symbols.ensures.valid c.in-Some.term ((c.in_ok-term.ensures c.in-Some.term).0 c.in-Some.is).over
