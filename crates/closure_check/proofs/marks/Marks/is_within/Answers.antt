use Rattle.std.proofs.Common.{Contains, subst, sym}
use Rattle.std.proofs.lemmas.List.{take_all}
use Rattle.closure_check.proofs.marks.Marks.is_within.Goals as goal

pub returns : goal.returns
returns c = λ _ q i. c.loop-state.invariant q (subst (λ xs. Contains xs q) (sym (take_all c.loop-state.state-index c.in-Some.list.now c.loop-state-test.false)) ((c.in-Some.ensures.list q).1 i))
