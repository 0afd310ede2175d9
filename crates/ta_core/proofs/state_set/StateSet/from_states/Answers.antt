use Rattle.std.proofs.Common.{⊎_elim, inr, subst}
use Rattle.std.specs.List.{Contains}
use Rattle.list_laws.proofs.Members.{none}
use Rattle.ta_core.proofs.state_set.StateSet.from_states.Goals as goal

pub returns : goal.returns
returns c q =
    let members = c.in_ok-add_all.ensures.members q in (
      λ i. ⊎_elim (λ old. absurd (none q (subst (λ all. Contains all q) c.new-states.ensures old))) (λ new. new) (members.0 i),
      λ i. members.1 (inr i),
    )
