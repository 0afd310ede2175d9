use Rattle.std.proofs.Common.{refl, sym, subst}
use Rattle.trs_rules.specs.Derivations.{IsDerivation}
use Rattle.closure_check.proofs.firsts.LastTerms.{in_language, not_ended, replayed, reaches}
use Rattle.closure_check.proofs.replaying.check_derivation.Goals as goal

pub returns-in-Some-clause-yes : goal.returns-in-Some-clause-yes
returns-in-Some-clause-yes c = (λ e. cc, λ r. let none = c.in-Some.ensures.none.1 (subst (λ R. IsDerivation R c.args.d.now) (sym c.as_slice.ensures) r.steps) in absurd cc)

pub returns-then-not-branch-2-clause-answer : goal.returns-then-not-branch-2-clause-answer
returns-then-not-branch-2-clause-answer c =
    let spec = c.args.spec.now in let d = c.args.d.now in (
      in_language c.accepted_terms_are_over.ensures spec spec.initial d.start spec.initial_over (c.in_ok-accepts.ensures.0 c.if-not-branch.false),
      subst (λ R. IsDerivation R d) c.as_slice.ensures (c.first_bad_step.ensures.none.0 c.in_default.is),
      not_ended spec d c.last_term.result.now c.last_term.ensures (λ h. let yes = c.in_ok-accepts-2.ensures.1 h.accepted in let no_ = c.if-not-branch-2.true in cc),
    )

pub returns-clause-answer : goal.returns-clause-answer
returns-clause-answer c =
    let spec = c.args.spec.now in let d = c.args.d.now in
    replayed spec d c.last_term.result.now
    (in_language c.accepted_terms_are_over.ensures spec spec.initial d.start spec.initial_over (c.in_ok-accepts.ensures.0 c.if-not-branch.false))
    (subst (λ R. IsDerivation R d) c.as_slice.ensures (c.first_bad_step.ensures.none.0 c.in_default.is))
    c.last_term.ensures
    (in_language c.accepted_terms_are_over.ensures spec spec.forbidden c.last_term.result.now spec.forbidden_over (c.in_ok-accepts-2.ensures.0 c.if-not-branch-2.false))

pub returns-clause-yes : goal.returns-clause-yes
returns-clause-yes c = (λ e. returns-clause-answer c, λ r. refl)

pub returns-clause-reaches : goal.returns-clause-reaches
returns-clause-reaches c = λ e. reaches c.derivations_are_chains.ensures c.args.spec.now c.args.d.now (returns-clause-answer c)
