use Rattle.top_call.proofs.Once.{one_is_named}
use Rattle.top_call.proofs.laws.one_answer_is_named.Goals as goal

pub returns : goal.returns
returns c =
    one_is_named c.no_text_has_two_specs.ensures c.no_text_has_two_first_faults.ensures c.spelled_names_differ.ensures c.certificates_have_different_texts.ensures c.texts_have_one_fault.ensures
    c.verdicts_are_one.ensures.limits c.answers_are_one.ensures
