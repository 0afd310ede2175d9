use Rattle.std.proofs.Common.{subst}
use Rattle.std.specs.List.{Contains}
use Rattle.ta_core.specs.Reached.{ReachedFrom}
use Rattle.list_laws.proofs.Growing.{HasAll}
use Rattle.ta_core.specs.lemmas.ReachedSets.{closure_from, all_from}
use Rattle.ta_core.specs.lemmas.RunStates.{exact_by}
use Rattle.ta_core.proofs.automaton.Automaton.closure_of.Goals as goal

pub closed-requires : goal.closed-requires
closed-requires c = all_from c.args.self.now c.args.set.now c.new-reached.result c.add_all.new.self c.new-reached.ensures (subst (λ xs. HasAll c.new-reached.result xs c.add_all.new.self) c.as_slice.ensures.value c.in_ok-add_all.ensures) c.requires

pub returns : goal.returns
returns c =
    let A = c.args.self.now in
    let all = c.add_all.new.self in
    let same = closure_from A c.args.set.now c.new-reached.result all c.new-reached.ensures (subst (λ xs. HasAll c.new-reached.result xs all) c.as_slice.ensures.value c.in_ok-add_all.ensures) in
    exact_by (Contains c.in_ok-closed.closed) (ReachedFrom A c.args.set.now) (λ q. (λ m. (same q).0 ((c.in_ok-closed.ensures q).0 m), λ m. (c.in_ok-closed.ensures q).1 ((same q).1 m))) c.to_set.result c.to_set.ensures
