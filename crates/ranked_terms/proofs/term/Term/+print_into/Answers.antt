use Rattle.std.proofs.Common.{[], ◌∷◌, ◌++◌, ◌+◌, drop, refl, sym, ap, ◌∙◌, rules}
use Rattle.ranked_terms.specs.Texts.{symbol_text, term_text, to_come}
use Rattle.ranked_terms.specs.declared.term.Term.TheViews.{out-Term, the_lemmas}
use Rattle.ranked_terms.proofs.texts.TextLaws.{texts, text_of_term, over_argument, next_to_come, closed, not_closed, cut_start, cut_more, cut_end, cut_here, cut_inside, on_err}
use Rattle.ranked_terms.proofs.term.Term.+print_into.Goals as goal

pub returns-in_err-print_name-clause-err : goal.returns-in_err-print_name-clause-err
returns-in_err-print_name-clause-err t c =
    let text = term_text c.args.sig.now c.args.self.now in
    on_err c.from_residual.result (cut_here c.args.out.now.items text c.args.out.now.items c.print_name.new.out.items text (cut_start c.args.out.now.items text) c.in_err-print_name.ensures.err)

pub loop-arg-init : goal.loop-arg-init
loop-arg-init t c =
    let s = c.args.sig.now in let self = c.args.self.now in let old = c.args.out.now.items in let ts = c.as_slice-arg-items.result.now in
    let piece = symbol_text s (out-Term self).sym in
    cut_more old (term_text s self) old c.print_name.new.out.items piece (to_come 40 (texts s ts)) (term_text s self) (cut_start old (term_text s self))
    (text_of_term s self ∙ ap (λ us. piece ++ to_come 40 (texts s us)) (sym c.as_slice-arg-items.ensures)) c.in_ok-print_name.ensures.ok

pub print_into-requires : goal.print_into-requires
print_into-requires t c = (search (rules, the_lemmas), over_argument c.args.sig.now c.args.self.now c.as_slice-arg-items.result.now c.loop-arg.arg-index c.arg-item.result c.requires c.as_slice-arg-items.ensures c.loop-arg-test.true c.arg-item.is)

pub returns-in_err-push-clause-err : goal.returns-in_err-push-clause-err
returns-in_err-push-clause-err t c = on_err c.from_residual-in_err-push.result (cut_here _ _ _ _ _ c.loop-arg.invariant c.in_err-push.ensures.items)

pub returns-in_err-print_into-clause-err : goal.returns-in_err-print_into-clause-err
returns-in_err-print_into-clause-err t c =
    let s = c.args.sig.now in let self = c.args.self.now in let old = c.args.out.now.items in let ts = c.as_slice-arg-items.result.now in let i = c.loop-arg.arg-index in let u = c.arg-item.result in
    let mark = c.loop-arg.mark in
    let rest = to_come 44 (texts s (drop (i + 1) ts)) in
    let marked = cut_more old (term_text s self) c.loop-arg.out.items c.push.new.self.items (mark ∷ []) (term_text s u ++ rest) (to_come mark (texts s (drop i ts))) c.loop-arg.invariant (next_to_come s mark ts i u c.loop-arg-test.true c.arg-item.is) c.in_ok-push.ensures.items in
    on_err c.from_residual-in_err-print_into.result (cut_inside old (term_text s self) c.push.new.self.items c.print_into.new.out.items (term_text s u) rest (term_text s u ++ rest) marked refl c.in_err-print_into.ensures.err)

pub loop-arg-preserved : goal.loop-arg-preserved
loop-arg-preserved t c =
    let s = c.args.sig.now in let self = c.args.self.now in let old = c.args.out.now.items in let ts = c.as_slice-arg-items.result.now in let i = c.loop-arg.arg-index in let u = c.arg-item.result in
    let mark = c.loop-arg.mark in
    let rest = to_come 44 (texts s (drop (i + 1) ts)) in
    let marked = cut_more old (term_text s self) c.loop-arg.out.items c.push.new.self.items (mark ∷ []) (term_text s u ++ rest) (to_come mark (texts s (drop i ts))) c.loop-arg.invariant (next_to_come s mark ts i u c.loop-arg-test.true c.arg-item.is) c.in_ok-push.ensures.items in
    cut_more old (term_text s self) c.push.new.self.items c.print_into.new.out.items (term_text s u) rest (term_text s u ++ rest) marked refl c.in_ok-print_into.ensures.ok

pub returns-in_err-push-2-clause-err : goal.returns-in_err-push-2-clause-err
returns-in_err-push-2-clause-err t c = on_err c.from_residual-in_err-push-2.result (cut_here _ _ _ _ _ c.loop-arg.invariant c.in_err-push-2.ensures.items)

pub returns-in_ok-push-2-clause-ok : goal.returns-in_ok-push-2-clause-ok
returns-in_ok-push-2-clause-ok t c =
    let s = c.args.sig.now in let self = c.args.self.now in let old = c.args.out.now.items in let ts = c.as_slice-arg-items.result.now in let i = c.loop-arg.arg-index in
    let mark = c.loop-arg.mark in
    let last = closed s mark ts i c.loop-arg-test.false c.if-mark-eq44.true in
    cut_end old (term_text s self) _ [] (cut_more old (term_text s self) c.loop-arg.out.items _ (41 ∷ []) [] (to_come mark (texts s (drop i ts))) c.loop-arg.invariant last c.in_ok-push-2.ensures.items) refl

pub returns-else-mark-eq44-clause-ok : goal.returns-else-mark-eq44-clause-ok
returns-else-mark-eq44-clause-ok t c =
    let s = c.args.sig.now in let self = c.args.self.now in let old = c.args.out.now.items in let ts = c.as_slice-arg-items.result.now in let i = c.loop-arg.arg-index in
    let mark = c.loop-arg.mark in
    cut_end old (term_text s self) c.loop-arg.out.items (to_come mark (texts s (drop i ts))) c.loop-arg.invariant (not_closed s mark ts i c.loop-arg-test.false c.if-mark-eq44.false)
