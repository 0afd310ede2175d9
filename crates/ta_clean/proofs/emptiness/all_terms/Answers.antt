use Rattle.std.proofs.Common.{[], ap, ◌∙◌, inr, arith}
use Rattle.ta_core.specs.TreeAutomaton.{TreeAutomaton}
use Rattle.list_laws.proofs.Members.{here}
use Rattle.ta_clean.proofs.languages.AllTerms.{one_ascends}
use Rattle.ta_clean.proofs.emptiness.all_terms.Goals as goal

pub with_states-requires-clause-ascend : goal.with_states-requires-clause-ascend
with_states-requires-clause-ascend c = one_ascends 0

pub add_over_zero-requires : goal.add_over_zero-requires
add_over_zero-requires c = record {
  states = ap (λ (a : TreeAutomaton). a.states) c.in_ok-set_final.ensures.ok ∙ ap (λ (a : TreeAutomaton). a.states) c.in_ok-all.ensures;
  final = (c.in_ok-set_final.ensures.members 0).1 (inr (here 0 []));
  trans = λ t i. absurd (omega (arith, i.1));
}
