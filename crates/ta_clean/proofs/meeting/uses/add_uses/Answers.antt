use Rattle.std.proofs.Common.{◌++◌, ◌∷◌, [], cond, get_or, is_ok, length, length-append, slice_get, sym, ap, ◌∙◌, arith}
use Rattle.std.proofs.lemmas.Option.{slice_get-get_or}
use Rattle.ta_clean.proofs.marking.UseLists.{use_of, uses_more, uses_end}
use Rattle.ta_clean.proofs.meeting.uses.add_uses.Goals as goal

pub unwrap-requires : goal.unwrap-requires
unwrap-requires c = c.push.ensures.succeeds (omega (arith, c.loop-place.invariant.length, c.loop-place.invariant.capacity, c.requires, c.loop-place.items.ok.0, c.loop-place-test.true, ap length c.as_slice-state-items.ensures))

pub loop-place-preserved : goal.loop-place-preserved
loop-place-preserved c =
    let args = c.args.trans.now.args in
    let k = c.loop-place.place in
    let items = c.as_slice-state-items in
    let all = c.loop-place.items.items in
    let pushed = c.push.ensures.items ∙ ap (λ r. cond (is_ok r) (all ++ use_of (get_or items.result.now k 0) c.args.trans.now.sym k c.args.position ∷ []) all) c.unwrap.ensures in
    record {
      members = uses_more c.args.items.now.items all c.push.new.self.items c.args.position c.args.trans.now k _
          (ap (λ xs. slice_get xs k) (sym items.ensures) ∙ slice_get-get_or items.result.now k 0 c.loop-place-test.true) c.loop-place.invariant.members pushed;
      length = omega (arith, ap length pushed, length-append all (use_of (get_or items.result.now k 0) c.args.trans.now.sym k c.args.position ∷ []), c.loop-place.invariant.length);
      capacity = omega (arith, c.loop-place.invariant.capacity, c.push.ensures.capacity);
    }

pub returns-clause-members : goal.returns-clause-members
returns-clause-members c =
    let items = c.as_slice-state-items in
    uses_end c.args.items.now.items c.loop-place.items.items c.args.position c.args.trans.now c.loop-place.place (rw (← items.ensures) c.loop-place-test.false) c.loop-place.invariant.members
