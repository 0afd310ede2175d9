use Rattle.std.proofs.Common.{ltb, leb, rules, drop}
use Rattle.std.proofs.lemmas.List.{take_rest}
use Rattle.std.proofs.lemmas.List.Sorted.{IsPartitionPoint-from_clause, IsPartitionedBy-ltb, IsPartitionedBy-leb, IsNonDecreasingBy-drop}
use Rattle.list_laws.proofs.Lookups.{part_of_key}
use Rattle.ta_clean.specs.Slots.{slot_cmp}
use Rattle.ta_clean.specs.declared.meeting.uses.Use.{Use}
use Rattle.ta_clean.proofs.marking.UseLists.{standing, standings_ascend, at_standing, is_less, is_at_most}
use Rattle.ta_clean.proofs.meeting.uses.Uses.at_slot.Goals as goal

pub returns : goal.returns
returns c =
    let all = c.as_slice-all.result.now in
    let slot = c.args.slot in
    let rising = standings_ascend all slot (rw c.as_slice-all.ensures.value c.self.invariant.0) in
    let start = c.partition_point-start.result in
    let lower = IsPartitionPoint-from_clause (λ (used : Use). ltb (standing slot used) 1) all _ c.partition_point-start.ensures.partitioned (IsPartitionedBy-ltb (standing slot) all 1 rising) (λ a r f' called. rw (← is_less (slot_cmp a.0.now.slot slot)) (search rules)) in
    let upper = IsPartitionPoint-from_clause (λ (used : Use). leb (standing slot used) 1) (drop start all) _ (rw (take_rest all start) at c.partition_point-count.ensures.partitioned) (IsPartitionedBy-leb (standing slot) (drop start all) 1 (IsNonDecreasingBy-drop (standing slot) start all rising)) (λ a r f' called. rw (← is_at_most (slot_cmp a.0.now.slot slot)) (search rules)) in
    rw (take_rest all start, ← c.self.view_is, ← c.as_slice-all.ensures.value)
    (at_standing slot all _ (part_of_key (standing slot) 1 all _ _ c.partition_point-start.ensures.bound (rw (take_rest all start) at c.partition_point-count.ensures.bound) lower upper))
