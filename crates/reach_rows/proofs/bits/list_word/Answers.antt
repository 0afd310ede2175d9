use Rattle.std.proofs.Common.{◌≡◌, ◌+◌, ◌*◌, ◌++◌, ◌∷◌, [], cond, sym, ap, subst, ◌∙◌, true≢false, arith}
use Rattle.reach_rows.specs.Bits.{Lists}
use Rattle.reach_rows.proofs.Listed.{lists_room, lists_more, lists_skip}
use Rattle.reach_rows.proofs.bits.list_word.Goals.{then-has_below, else-has_below}
use Rattle.reach_rows.proofs.bits.list_word.Goals as goal

pub unwrap-requires : goal.unwrap-requires
unwrap-requires c =
    let h = c.has_below.ensures.0 c.if-has_below.true in
    c.push.ensures.succeeds (omega (arith, lists_room c.args.bits.now c.args.size (64 * c.args.place + c.loop-bit.bit) c.loop-bit.list.items c.loop-bit.invariant.lists h.0, c.loop-bit.list.ok.0, c.loop-bit.invariant.room))

pub loop-bit-preserved : goal.loop-bit-preserved
loop-bit-preserved c =
    let words = c.args.bits.now in
    let n = 64 * c.args.place + c.loop-bit.bit in
    let next : n + 1 ≡ 64 * c.args.place + (c.loop-bit.bit + 1) = omega arith in
    let list = c.loop-bit.list.items in
    elim c.if-has_below.branch [
      | then-has_below w ↦
          let h = c.has_below.ensures.0 w.if-has_below.true in
          let pushed : w.push.new.self.items ≡ list ++ n ∷ [] = w.push.ensures.items ∙ ap (λ b. cond b (list ++ n ∷ []) list) (w.push.ensures.succeeds (omega (arith, lists_room words c.args.size n list c.loop-bit.invariant.lists h.0, c.loop-bit.list.ok.0, c.loop-bit.invariant.room))) in
          rw w.list-is (record {
            lists = subst (λ m. Lists words c.args.size m w.push.new.self.items) next (subst (Lists words c.args.size (n + 1)) (sym pushed) (lists_more words c.args.size n list c.loop-bit.invariant.lists h.0 h.1));
            room = omega (arith, c.loop-bit.invariant.room, w.push.ensures.capacity);
          })
      | else-has_below w ↦ rw w.list-is (record {
        lists = subst (λ m. Lists words c.args.size m list) next (lists_skip words c.args.size n list c.loop-bit.invariant.lists (λ l h. true≢false (sym (c.has_below.ensures.1 (l, h)) ∙ w.if-has_below.false)));
        room = c.loop-bit.invariant.room;
      })
    ]
