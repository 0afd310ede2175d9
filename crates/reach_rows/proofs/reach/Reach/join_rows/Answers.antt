use Rattle.std.proofs.Common.{get_or, ◌∙◌, arith, rules}
use Rattle.std.proofs.lemmas.List.Elements.{Contains-get_or}
use Rattle.reach_rows.proofs.Listed.{no_rows, rows_more}
use Rattle.reach_rows.proofs.reach.Reach.join_rows.Goals as goal

pub loop-number-init : goal.loop-number-init
loop-number-init c = record { members = no_rows c.args.self.now.rows c.args.list.now c.args.bits.now c.requires.none; length = search rules }

pub join_one-requires : goal.join_one-requires
join_one-requires c = record { room = λ q h. omega (arith, c.requires.room (get_or c.args.list.now c.loop-number.number-index 0) q (Contains-get_or c.args.list.now c.loop-number.number-index 0 c.loop-number-test.true) h, c.loop-number.invariant.length) }

pub loop-number-preserved : goal.loop-number-preserved
loop-number-preserved c = record {
  members = rows_more c.args.self.now.rows c.requires.reached.0 c.requires.reached.1 c.args.list.now c.loop-number.bits c.join_one.new.bits c.loop-number.number-index c.loop-number-test.true c.loop-number.invariant.members c.join_one.ensures.members c.join_one.ensures.kept c.join_one.ensures.joined;
  length = c.join_one.ensures.length ∙ c.loop-number.invariant.length;
}
