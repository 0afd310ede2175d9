use Rattle.std.proofs.Common.{rules, ◌<◌, ◌≤◌, length, take, subst, sym, ap, ◌∙◌, arith}
use Rattle.std.proofs.lemmas.List.{take_all}
use Rattle.ranked_terms.specs.Terms.{node, occurrences}
use Rattle.ranked_terms.specs.declared.term.Pattern.TheVariants.{App}
use Rattle.ranked_terms.specs.declared.term.Pattern.TheViews.{the_lemmas}
use Rattle.ranked_terms.specs.Matching.{IsRefused, bound_in, with_variables}
use Rattle.ranked_terms.proofs.bindings.MatchingLaws.{MatchedAll, opened, all_room, all_step, all_refused, matched_whole, refused_whole}
use Rattle.ranked_terms.proofs.matching.+match_under.Goals as goal

pub match_under-requires : goal.match_under-requires
match_under-requires t c =
    let ps = c.as_slice-ps.result.now in let ts = c.as_slice-ts.result.now in
    let o = opened c.args.p.now c.args.t.now c.in-App.f c.in-App.args ps ts c.in-App.is c.as_slice-ps.ensures c.if-f-t.false c.as_slice-ts.ensures in
    let lt : c.loop-i.i < length ts = omega arith in
    let room = subst (λ p. length (with_variables (bound_in c.args.b.now) (occurrences p)) ≤ 16) (sym o.whole_p) c.requires in (
      search (rules, the_lemmas),
      all_room c.in-App.f ps ts c.loop-i.i c.index-ps-i.result c.index-ts-i.result c.args.b.now c.loop-i.b c.loop-i.b c.loop-i.invariant c.loop-i-test.true lt c.index-ps-i.is c.index-ts-i.is room,
    )

pub returns-then-not-match_under : goal.returns-then-not-match_under
returns-then-not-match_under t c =
    let ps = c.as_slice-ps.result.now in let ts = c.as_slice-ts.result.now in
    let o = opened c.args.p.now c.args.t.now c.in-App.f c.in-App.args ps ts c.in-App.is c.as_slice-ps.ensures c.if-f-t.false c.as_slice-ts.ensures in
    let lt : c.loop-i.i < length ts = omega arith in
    let r = all_refused c.in-App.f ps ts c.loop-i.i c.index-ps-i.result c.index-ts-i.result c.args.b.now c.loop-i.b c.match_under.new.b c.loop-i.invariant c.loop-i-test.true lt c.index-ps-i.is c.index-ts-i.is c.if-not-match_under.ensures in
    let e = c.truncate.ensures ∙ ap (λ n. take n c.match_under.new.b) c.len-start.ensures.len in
    refused_whole c.args.p.now c.args.t.now c.in-App.f ps ts c.args.b.now c.truncate.new.self o
    (subst (λ b. IsRefused (App c.in-App.f ps) (node c.in-App.f ts) c.args.b.now b) (sym e) r)

pub loop-i-preserved : goal.loop-i-preserved
loop-i-preserved t c =
    let ps = c.as_slice-ps.result.now in let ts = c.as_slice-ts.result.now in
    let lt : c.loop-i.i < length ts = omega arith in
    all_step c.in-App.f ps ts c.loop-i.i c.index-ps-i.result c.index-ts-i.result c.args.b.now c.loop-i.b c.match_under.new.b c.loop-i.invariant c.loop-i-test.true lt c.index-ps-i.is c.index-ts-i.is c.if-not-match_under.ensures

pub returns-after-loop-i : goal.returns-after-loop-i
returns-after-loop-i t c =
    let ps = c.as_slice-ps.result.now in let ts = c.as_slice-ts.result.now in
    let o = opened c.args.p.now c.args.t.now c.in-App.f c.in-App.args ps ts c.in-App.is c.as_slice-ps.ensures c.if-f-t.false c.as_slice-ts.ensures in
    let le : length ts ≤ c.loop-i.i = omega arith in
    matched_whole c.args.p.now c.args.t.now c.in-App.f ps ts c.args.b.now c.loop-i.b o
    (subst (λ xs. MatchedAll xs ts c.args.b.now c.loop-i.b) (take_all _ ps c.loop-i-test.false)
    (subst (λ ys. MatchedAll (take c.loop-i.i ps) ys c.args.b.now c.loop-i.b) (take_all _ ts le) c.loop-i.invariant))
