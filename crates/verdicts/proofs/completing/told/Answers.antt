use Rattle.std.proofs.Common.{refl, sym, subst, IfOk}
use Rattle.cert_text.specs.declared.outcome.Outcome.TheVariants as outcome
use Rattle.cert_text.specs.declared.outcome.Reason.TheVariants as reason
use Rattle.verdicts.specs.Answers.{Tells}
use Rattle.verdicts.proofs.completing.told.Goals as goal

pub returns-in-Closed : goal.returns-in-Closed
returns-in-Closed c =
    subst (λ e. IfOk c.claim.result (Tells c.args.spec.now c.args.search c.args.core.now.automaton c.args.core.now.places e)) (sym c.in-Closed.is) c.claim.ensures

pub returns-in-Meets : goal.returns-in-Meets
returns-in-Meets c =
    subst (λ e. Tells c.args.spec.now c.args.search c.args.core.now.automaton c.args.core.now.places e (outcome.Undecided (reason.Meets c.in-Meets.stage c.in-Meets.least) c.args.search)) (sym c.in-Meets.is) refl

pub returns-in-Rounds : goal.returns-in-Rounds
returns-in-Rounds c =
    subst (λ e. Tells c.args.spec.now c.args.search c.args.core.now.automaton c.args.core.now.places e (outcome.Undecided (reason.Rounds c.in-Rounds.stage) c.args.search)) (sym c.in-Rounds.is) refl

pub returns-in-Pairs : goal.returns-in-Pairs
returns-in-Pairs c =
    subst (λ e. Tells c.args.spec.now c.args.search c.args.core.now.automaton c.args.core.now.places e (outcome.Undecided (reason.Pairs c.in-Pairs.stage) c.args.search)) (sym c.in-Pairs.is) refl

pub returns-in-States : goal.returns-in-States
returns-in-States c =
    subst (λ e. Tells c.args.spec.now c.args.search c.args.core.now.automaton c.args.core.now.places e (outcome.Undecided (reason.States c.in-States.stage) c.args.search)) (sym c.in-States.is) refl
