use Rattle.std.proofs.Common.{ltb, leb, rules, drop}
use Rattle.std.proofs.lemmas.List.{take_rest}
use Rattle.std.proofs.lemmas.List.Sorted.{IsPartitionPoint-from_clause, IsPartitionedBy-ltb, IsPartitionedBy-leb, IsNonDecreasingBy-drop}
use Rattle.list_laws.proofs.Lookups.{part_of_key}
use Rattle.ta_clean.specs.declared.meeting.uses.Use.{Use}
use Rattle.ta_clean.proofs.marking.UseLists.{states_ascend}
use Rattle.ta_clean.proofs.meeting.uses.Uses.of_state.Goals as goal

pub returns : goal.returns
returns c =
    let all = c.as_slice-all.result.now in
    let state = c.args.state in
    let rising = states_ascend all (rw c.as_slice-all.ensures.value c.self.invariant.0) in
    let start = c.partition_point-start.result in
    let lower = IsPartitionPoint-from_clause (λ (used : Use). ltb used.slot.state state) all _ c.partition_point-start.ensures.partitioned (IsPartitionedBy-ltb (λ (used : Use). used.slot.state) all state rising) (λ a r f' called. search rules) in
    let upper = IsPartitionPoint-from_clause (λ (used : Use). leb used.slot.state state) (drop start all) _ (rw (take_rest all start) at c.partition_point-count.ensures.partitioned) (IsPartitionedBy-leb (λ (used : Use). used.slot.state) (drop start all) state (IsNonDecreasingBy-drop (λ (used : Use). used.slot.state) start all rising)) (λ a r f' called. search rules) in
    rw (take_rest all start, ← c.self.view_is, ← c.as_slice-all.ensures.value) (part_of_key (λ (used : Use). used.slot.state) state all _ _ c.partition_point-start.ensures.bound (rw (take_rest all start) at c.partition_point-count.ensures.bound) lower upper)
