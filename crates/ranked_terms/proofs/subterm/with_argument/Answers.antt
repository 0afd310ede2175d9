use Rattle.std.proofs.Common.{◌≡◌, ◌-◌, [], ◌∷◌, ◌++◌, take, drop, length, ap, ◌∙◌, append_assoc, length-drop, arith}
use Rattle.std.proofs.lemmas.List.{take_all}
use Rattle.ranked_terms.specs.Terms.{node}
use Rattle.ranked_terms.specs.declared.term.Term.TheViews.{out-Term}
use Rattle.ranked_terms.proofs.places.PositionLaws.{args_of}
use Rattle.ranked_terms.proofs.subterm.with_argument.Goals as goal

pub returns : goal.returns
returns c =
    let k = c.args.number in let w = c.args.argument in let term = c.args.term.now in let old = c.as_slice-old.result.now in
    let e : old ≡ args_of term = c.as_slice-old.ensures in
    let front : c.loop-arg.args ≡ take (k - 1) old = c.loop-arg.invariant ∙ take_all c.loop-arg.arg-index (take (k - 1) old) c.loop-arg-test.false in
    let back = take_all c.loop-arg-2.arg-index (take (length old - k) (drop k old)) c.loop-arg-2-test.false ∙ take_all (length old - k) (drop k old) (omega (arith, length-drop k old)) in
    let all : c.loop-arg-2.args ≡ take (k - 1) old ++ w ∷ drop k old =
    c.loop-arg-2.invariant
    ∙ ((λ j. (c.in_ok-push-2.ensures.ok ∙ ap (λ xs. xs ++ w ∷ []) front) j ++ back j)
    ∙ append_assoc (take (k - 1) old) (w ∷ []) (drop k old)) in
    ap (node (out-Term term).sym) (all ∙ ap (λ ts. take (k - 1) ts ++ w ∷ drop k ts) e)
