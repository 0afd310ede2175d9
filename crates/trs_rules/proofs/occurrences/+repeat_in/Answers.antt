use Rattle.std.proofs.Common.{◌≡◌, ◌++◌, ◌+◌, ◌∷◌, [], map, take, drop, ap, sym, subst, ◌∙◌}
use Rattle.ranked_terms.specs.Terms.{joined, occurrences}
use Rattle.trs_rules.specs.Variables.{first_repeat, IsSeen}
use Rattle.ranked_terms.specs.lemmas.TermLaws.{occurrences_var}
use Rattle.trs_rules.proofs.patterns.VariableLaws.{occurrences_args}
use Rattle.trs_rules.proofs.patterns.RepeatLaws.{place, repeat_here, seen_further, seen_all}
use Rattle.trs_rules.proofs.occurrences.+repeat_in.Goals as goal

pub returns-in-Some-clause-repeat : goal.returns-in-Some-clause-repeat
returns-in-Some-clause-repeat t c seen rest is h =
    let items = c.as_slice-arg-items.result.now in
    let at = c.loop-arg.arg-index in
    let k = occurrences_args c.args.part.now c.in-App.field-0 c.in-App.args items c.in-App.is c.as_slice-arg-items.ensures in
    let there = place items at c.arg-item.result (occurrences c.args.whole.now) seen rest c.loop-arg-test.true c.arg-item.is (is ∙ ap (λ vs. seen ++ (vs ++ rest)) k) in
    let found = c.repeat_in.ensures.repeat (seen ++ joined (map occurrences (take at items))) (joined (map occurrences (drop (at + 1) items)) ++ rest) there (c.loop-arg.invariant seen rest is h) in
    repeat_here items at c.arg-item.result seen c.in-Some.v c.loop-arg-test.true c.arg-item.is (sym c.in-Some.is ∙ found) ∙ ap (λ vs. first_repeat (seen ++ vs)) (sym k)

pub loop-arg-preserved : goal.loop-arg-preserved
loop-arg-preserved t c seen rest is h =
    let items = c.as_slice-arg-items.result.now in
    let at = c.loop-arg.arg-index in
    let k = occurrences_args c.args.part.now c.in-App.field-0 c.in-App.args items c.in-App.is c.as_slice-arg-items.ensures in
    let there = place items at c.arg-item.result (occurrences c.args.whole.now) seen rest c.loop-arg-test.true c.arg-item.is (is ∙ ap (λ vs. seen ++ (vs ++ rest)) k) in
    seen_further items at c.arg-item.result seen c.repeat_in.new.last c.loop-arg-test.true c.arg-item.is
    (c.repeat_in.ensures.seen (seen ++ joined (map occurrences (take at items))) (joined (map occurrences (drop (at + 1) items)) ++ rest) there (c.loop-arg.invariant seen rest is h) c.in_default.is)

pub returns-in-Var-clause-repeat : goal.returns-in-Var-clause-repeat
returns-in-Var-clause-repeat t c seen rest is h =
    let k : occurrences c.args.part.now ≡ c.in-Var.v ∷ [] = ap occurrences c.in-Var.is ∙ occurrences_var c.in-Var.v in
    c.stands_again.ensures.repeat seen rest (is ∙ ap (λ vs. seen ++ (vs ++ rest)) k) h ∙ ap (λ vs. first_repeat (seen ++ vs)) (sym k)

pub returns-in-Var-clause-seen : goal.returns-in-Var-clause-seen
returns-in-Var-clause-seen t c seen rest is h none =
    let k : occurrences c.args.part.now ≡ c.in-Var.v ∷ [] = ap occurrences c.in-Var.is ∙ occurrences_var c.in-Var.v in
    subst (λ vs. IsSeen (seen ++ vs) c.stands_again.new.last) (sym k) (c.stands_again.ensures.seen seen rest (is ∙ ap (λ vs. seen ++ (vs ++ rest)) k) h none)

pub returns-after-loop-arg-clause-repeat : goal.returns-after-loop-arg-clause-repeat
returns-after-loop-arg-clause-repeat t c seen rest is h =
    let items = c.as_slice-arg-items.result.now in
    let k = occurrences_args c.args.part.now c.in-App.field-0 c.in-App.args items c.in-App.is c.as_slice-arg-items.ensures in
    let all = seen_all items c.loop-arg.arg-index seen c.loop-arg.last c.loop-arg-test.false (c.loop-arg.invariant seen rest is h) in
    sym all.no_repeat ∙ ap (λ vs. first_repeat (seen ++ vs)) (sym k)

pub returns-after-loop-arg-clause-seen : goal.returns-after-loop-arg-clause-seen
returns-after-loop-arg-clause-seen t c seen rest is h none =
    let items = c.as_slice-arg-items.result.now in
    let k = occurrences_args c.args.part.now c.in-App.field-0 c.in-App.args items c.in-App.is c.as_slice-arg-items.ensures in
    subst (λ vs. IsSeen (seen ++ vs) c.loop-arg.last) (sym k) (seen_all items c.loop-arg.arg-index seen c.loop-arg.last c.loop-arg-test.false (c.loop-arg.invariant seen rest is h))
