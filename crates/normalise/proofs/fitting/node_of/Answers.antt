use Rattle.std.proofs.Common.{◌≡◌, ◌+◌, ◌∷◌, [], ◌++◌, map, take, slice_index_or, sym, ap, ◌∙◌, arith}
use Rattle.std.proofs.lemmas.List.{take_more, take_all, map-append}
use Rattle.ranked_terms.specs.declared.term.Config.{State, App}
use Rattle.normalise.proofs.fitting.node_of.Goals as goal

pub loop-state-init : goal.loop-state-init
loop-state-init c = c.new-args.ensures

pub loop-state-preserved : goal.loop-state-preserved
loop-state-preserved c =
    let states = c.args.states.now in
    let i = c.loop-state.state-index in
    let q = slice_index_or states i 0 in
    let more : map State (take (i + 1) states) ≡ map State (take i states) ++ State q ∷ [] =
    ap (map State) (take_more states i 0 c.loop-state-test.true) ∙ map-append State (take i states) (q ∷ []) in
    c.in_ok-push.ensures.ok ∙ (ap (λ args. args ++ State q ∷ []) c.loop-state.invariant ∙ sym more)

pub returns : goal.returns
returns c =
    ap (App c.args.sym) (c.loop-state.invariant ∙ ap (map State) (take_all c.loop-state.state-index c.args.states.now (omega (arith, c.loop-state-test.false))))
