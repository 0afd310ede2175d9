use Rattle.std.proofs.Common.{◌≡◌, ◌+◌, ◌++◌, ◌∷◌, [], List, length, take, drop, get_or, sym, ap, ◌∙◌, subst, true≢false, arith}
use Rattle.std.proofs.lemmas.List.{take_more, take_all, length-drop}
use Rattle.ta_core.specs.declared.trans.Trans.{Trans}
use Rattle.state_match.specs.Rows.{HasNext}
use Rattle.state_match.proofs.members.RowLists.{row_skipped, row_taken}
use Rattle.state_match.proofs.rows.add_each.Goals as goal
use Rattle.state_match.proofs.rows.add_each.Goals.{then-is_wanted+in_ok-push, else-is_wanted}

pub loop-t-preserved : goal.loop-t-preserved
loop-t-preserved c =
    let items = c.args.rows.now in
    let i = c.loop-t.t-index in
    let t = c.t-item.result in
    let sets = drop c.args.place c.args.sets.now in
    let done = take i items in
    let more : take (i + 1) items ≡ done ++ t ∷ [] = take_more items i t c.loop-t-test.true ∙ ap (λ x. done ++ x ∷ []) (sym c.t-item.is) in
    let end : length c.args.sets.now ≡ c.args.place + length sets = omega (arith, length-drop c.args.place c.args.sets.now, c.requires) in
    let old = c.args.found.now.items in
    elim c.if-is_wanted.branch [
      | then-is_wanted+in_ok-push w ↦
          rw more (subst (HasNext old (done ++ t ∷ []) c.args.place sets c.args.others.now c.args.arity c.args.wanted.now) (sym (ap (λ v. v.items) w.found-is))
          (row_taken done t old c.loop-t.found.items w.push.new.self.items w.next_at.result c.loop-t.invariant (c.is_wanted.ensures.0 w.if-is_wanted.true) (w.next_at.ensures ∙ ap (λ k. get_or t.args k t.to) end) w.in_ok-push.ensures.items))
      | else-is_wanted w ↦
          rw more (subst (HasNext old (done ++ t ∷ []) c.args.place sets c.args.others.now c.args.arity c.args.wanted.now) (sym (ap (λ v. v.items) w.found-is))
          (row_skipped done t old c.loop-t.found.items c.loop-t.invariant (λ f. true≢false (sym (c.is_wanted.ensures.1 f) ∙ w.if-is_wanted.false))))
    ]

pub returns : goal.returns
returns c = subst (λ (rows : List Trans). HasNext c.args.found.now.items rows c.args.place (drop c.args.place c.args.sets.now) c.args.others.now c.args.arity c.args.wanted.now c.loop-t.found.items) (take_all c.loop-t.t-index c.args.rows.now c.loop-t-test.false) c.loop-t.invariant
