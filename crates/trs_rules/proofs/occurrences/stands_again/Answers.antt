use Rattle.std.proofs.Common.{◌≡◌, [], ◌∷◌, ◌++◌, sym, subst, ◌∙◌}
use Rattle.ranked_terms.specs.Terms.{occurrences}
use Rattle.trs_rules.specs.Variables.{IsSeen}
use Rattle.trs_rules.proofs.patterns.RepeatLaws.{found_again, not_again, first_of_all, seen_more}
use Rattle.trs_rules.proofs.occurrences.stands_again.Goals as goal

pub returns-in_err-before-clause-repeat : goal.returns-in_err-before-clause-repeat
returns-in_err-before-clause-repeat c seen rest is h =
    c.from_residual.ensures ∙ first_of_all seen c.args.v (subst (IsSeen seen) (sym c.in_err-before.ensures.value) h)

pub returns-in_err-before-clause-seen : goal.returns-in_err-before-clause-seen
returns-in_err-before-clause-seen c seen rest is h none =
    subst (IsSeen (seen ++ c.args.v ∷ [])) (sym c.replace.ensures.after) (seen_more seen c.args.v (first_of_all seen c.args.v (subst (IsSeen seen) (sym c.in_err-before.ensures.value) h)))

pub returns-in-Some-clause-repeat : goal.returns-in-Some-clause-repeat
returns-in-Some-clause-repeat c seen rest is h =
    found_again seen rest (occurrences c.args.whole.now) c.args.v c.in_ok-before.before c.in-Some.first c.first_of.result is (subst (IsSeen seen) (sym c.in_ok-before.ensures.value) h) c.first_of.ensures c.in-Some.is c.if-first-v.true

another : goal.returns-in_default-clause-repeat
another c seen rest is h =
    not_again seen rest (occurrences c.args.whole.now) c.args.v c.in_ok-before.before c.first_of.result is (subst (IsSeen seen) (sym c.in_ok-before.ensures.value) h) c.first_of.ensures
    (λ first f same. let e : c.in-Some.first ≡ first = cc (c.in-Some.is) in c.if-first-v.false (e ∙ same))

pub returns-in_default-clause-repeat : goal.returns-in_default-clause-repeat
returns-in_default-clause-repeat = another

pub returns-in_default-clause-seen : goal.returns-in_default-clause-seen
returns-in_default-clause-seen c seen rest is h none =
    subst (IsSeen (seen ++ c.args.v ∷ [])) (sym c.replace.ensures.after) (seen_more seen c.args.v (another c seen rest is h))

neither : goal.returns-in_default-2-clause-repeat
neither c seen rest is h =
    not_again seen rest (occurrences c.args.whole.now) c.args.v c.in_ok-before.before c.first_of.result is (subst (IsSeen seen) (sym c.in_ok-before.ensures.value) h) c.first_of.ensures
    (λ first f same. cc (c.in_default.is))

pub returns-in_default-2-clause-repeat : goal.returns-in_default-2-clause-repeat
returns-in_default-2-clause-repeat = neither

pub returns-in_default-2-clause-seen : goal.returns-in_default-2-clause-seen
returns-in_default-2-clause-seen c seen rest is h none =
    subst (IsSeen (seen ++ c.args.v ∷ [])) (sym c.replace.ensures.after) (seen_more seen c.args.v (neither c seen rest is h))
