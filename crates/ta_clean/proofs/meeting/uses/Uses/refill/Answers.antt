use Rattle.std.proofs.Common.{◌∙◌, Some, sym, ap, arith}
use Rattle.std.proofs.lemmas.Option.{slice_get-get_or}
use Rattle.ta_clean.proofs.marking.UseLists.{uses_before_more, uses_all}
use Rattle.ta_clean.proofs.marking.ArgumentPlaces.{places_more, places_through}
use Rattle.ta_clean.proofs.meeting.uses.Uses.refill.Goals as goal

pub add_uses-requires : goal.add_uses-requires
add_uses-requires c = omega (arith, c.loop-position.invariant.length, c.loop-position.invariant.capacity, c.loop-position.invariant.room, c.requires, places_through c.args.all.now c.loop-position.position c.index-all-position.result c.loop-position-test.true c.index-all-position.is)

pub loop-position-preserved : goal.loop-position-preserved
loop-position-preserved c =
    let all = c.args.all.now in
    let k = c.loop-position.position in
    let t = c.index-all-position.result in
    record {
      members = uses_before_more all k t c.loop-position.self-inside.items.items c.add_uses.new.items.items
          (slice_get-get_or all k t c.loop-position-test.true ∙ ap Some (sym c.index-all-position.is)) c.loop-position.invariant.members c.add_uses.ensures.members;
      length = omega (arith, c.add_uses.ensures.length, c.loop-position.invariant.length, places_more all k t c.loop-position-test.true c.index-all-position.is);
      capacity = omega (arith, c.loop-position.invariant.capacity, c.add_uses.ensures.capacity);
      room = c.loop-position.invariant.room;
    }

pub returns-clause-uses : goal.returns-clause-uses
returns-clause-uses c = uses_all c.args.all.now c.loop-position.position c.loop-position.self-inside.items.items c.sort_unstable.new.self.items c.loop-position-test.false c.loop-position.invariant.members c.sort_unstable.ensures.permutation
