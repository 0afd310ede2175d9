use Rattle.std.proofs.Common.{subst, sym}
use Rattle.std.specs.Prelude.{Contains, ◌↔◌}
use Rattle.std.specs.Cmp.Lexicographic.{slice_cmp}
use Rattle.std.specs.List.Sorted.{IsStrictlySortedBy}
use Rattle.std.specs.Ordering.{nat_cmp}
use Rattle.ranked_terms.specs.Positions.{HasPosition}
use Rattle.ranked_terms.proofs.places.PreorderLaws.{found_whole, positions_exact, positions_ascend}
use Rattle.ranked_terms.proofs.term.Term.positions.Goals as goal

pub returns-clause-each : goal.returns-clause-each
returns-clause-each c p =
    let e = found_whole c.new-path.result.items c.new-found.result c.add_positions.new.found c.args.self.now c.new-path.ensures.items c.new-found.ensures c.in_ok-add_positions.ensures.found in
    subst (λ ps. Contains ps p ↔ HasPosition c.args.self.now p) (sym e) (positions_exact c.args.self.now p)

pub returns-clause-sorted : goal.returns-clause-sorted
returns-clause-sorted c =
    let e = found_whole c.new-path.result.items c.new-found.result c.add_positions.new.found c.args.self.now c.new-path.ensures.items c.new-found.ensures c.in_ok-add_positions.ensures.found in
    subst (IsStrictlySortedBy (slice_cmp nat_cmp)) (sym e) (positions_ascend c.args.self.now)
