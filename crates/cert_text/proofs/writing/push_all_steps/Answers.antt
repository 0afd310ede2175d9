use Rattle.std.proofs.Common.{◌≡◌, true, sym, subst, arith}
use Rattle.std.specs.Prelude.{IsTrue}
use Rattle.std.proofs.lemmas.List.Elements.{All-get_or}
use Rattle.std.proofs.lemmas.List.Sums.{AllPass-from_list_all}
use Rattle.ranked_terms.specs.Terms.{is_over}
use Rattle.trs_rules.specs.declared.derivation.DStep.{DStep}
use Rattle.cert_text.proofs.writing.push_all_steps.Goals as goal

pub push_step-requires : goal.push_step-requires
push_step-requires c =
    subst (λ (step : DStep). IsTrue (is_over c.args.sig.now step.term)) (sym c.step-item.is)
    (All-get_or (λ (step : DStep). is_over c.args.sig.now step.term ≡ true) c.args.steps.now c.loop-step.step-index c.step-item.result (omega (arith, c.loop-step-test.true))
    (AllPass-from_list_all (λ (step : DStep). is_over c.args.sig.now step.term) c.args.steps.now c.requires))
