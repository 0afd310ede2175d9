use Rattle.std.proofs.Common.{sym, ap, ◌∙◌, reverse}
use Rattle.term_store.specs.Found.{turned}
use Rattle.derive_search.proofs.GrowthLaws.{turned_twice, reverse_turned}
use Rattle.derive_search.proofs.growth.position_of.Goals as goal

pub returns : goal.returns
returns c =
    let e = c.in_ok-items.ensures.items in let r = c.reverse.ensures.items in let a = c.as_slice-2.ensures.value in
    let back = c.as_slice.ensures in
    sym (turned_twice c.args.back.now) ∙ ap turned (sym (reverse_turned c.args.back.now) ∙ (ap reverse (sym back ∙ sym e) ∙ (sym r ∙ (sym a ∙ sym c.in_ok-at.ensures))))
