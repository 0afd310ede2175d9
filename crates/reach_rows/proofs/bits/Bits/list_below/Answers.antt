use Rattle.std.proofs.Common.{◌≡◌, ◌∙◌, ◌+◌, ◌*◌, get_or, sym, ap, subst, arith}
use Rattle.reach_rows.proofs.Listed.{lists_none, lists_word, lists_all}
use Rattle.reach_rows.specs.Bits.{Lists}
use Rattle.reach_rows.proofs.bits.Bits.list_below.Goals.{then-word_at-ne0, else-word_at-ne0}
use Rattle.reach_rows.proofs.bits.Bits.list_below.Goals as goal

pub loop-place-init : goal.loop-place-init
loop-place-init c = record { lists = lists_none c.args.self.now c.clear.new.self.items c.args.size c.clear.ensures.items; room = omega (arith, c.requires.room, c.clear.ensures.capacity) }

pub loop-place-preserved : goal.loop-place-preserved
loop-place-preserved c =
    let words = c.args.self.now in
    let k = c.loop-place.place in
    let next : 64 * k + 64 ≡ 64 * (k + 1) = omega arith in
    elim c.if-word_at-ne0.branch [
      | then-word_at-ne0 w ↦ rw w.list-is (record { lists = subst (λ n. Lists words c.args.size n w.list_word.new.list.items) next w.list_word.ensures.lists; room = w.list_word.ensures.room })
      | else-word_at-ne0 w ↦
          let empty : get_or words k 0 ≡ 0 = sym (c.word_at.ensures ∙ ap (λ ws. get_or ws k 0) (c.as_slice.ensures.value ∙ c.self.view_is)) ∙ w.if-word_at-ne0.false in
          rw w.list-is (record { lists = lists_word words c.args.size k c.loop-place.list.items c.loop-place.invariant.lists empty; room = c.loop-place.invariant.room })
    ]

pub returns-clause-members : goal.returns-clause-members
returns-clause-members c = lists_all c.args.self.now c.args.size _ c.loop-place.list.items c.loop-place.invariant.lists (omega (arith, c.loop-place-test.false))
