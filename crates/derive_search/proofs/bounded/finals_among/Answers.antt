use Rattle.std.proofs.Common.{◌+◌, [], take, sym, subst, ◌∙◌, arith}
use Rattle.std.proofs.lemmas.List.{take_all}
use Rattle.derive_search.specs.LowPairs.{AreFinal}
use Rattle.derive_search.proofs.pairs.StartLaws.{no_finals, final_more, not_final_more}
use Rattle.derive_search.proofs.bounded.finals_among.Goals as goal
use Rattle.derive_search.proofs.bounded.finals_among.Goals.{then-is_final+in_ok-push, else-is_final}

pub loop-k-init : goal.loop-k-init
loop-k-init c = subst (AreFinal c.args.automaton.now.finals []) (sym c.new-ids.ensures) (no_finals c.args.automaton.now.finals)

pub loop-k-preserved : goal.loop-k-preserved
loop-k-preserved c =
    let finals = c.args.automaton.now.finals in let keys = c.args.pairs.now.keys in let k = c.loop-k.k in let p = c.pair_at-state.result in
    elim c.if-is_final.branch [
      | then-is_final+in_ok-push w ↦ subst (AreFinal finals (take (k + 1) keys)) (sym (w.ids-is ∙ w.in_ok-push.ensures.ok))
          (final_more finals keys k p.0 p.1 c.loop-k.ids c.pair_at-state.ensures (c.is_final.ensures.0 w.if-is_final.true) c.loop-k.invariant)
      | else-is_final w ↦ subst (AreFinal finals (take (k + 1) keys)) (sym w.ids-is)
          (not_final_more finals keys k p.0 p.1 c.loop-k.ids c.pair_at-state.ensures (λ f. let yes = c.is_final.ensures.1 f in cc (yes, w.if-is_final.false)) c.loop-k.invariant)
    ]

pub returns : goal.returns
returns c = subst (λ ps. AreFinal c.args.automaton.now.finals ps c.loop-k.ids) (take_all c.loop-k.k c.args.pairs.now.keys (omega (arith, c.loop-k-test.false, c.len-k-end.ensures.len))) c.loop-k.invariant
