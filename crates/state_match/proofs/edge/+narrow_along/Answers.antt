use Rattle.std.proofs.Common.{rules, List, sym, ap, ◌∙◌}
use Rattle.std.specs.List.{slice_get}
use Rattle.std.specs.Option.{IfSome}
use Rattle.std.proofs.lemmas.Option.{IfSome_then}
use Rattle.std.proofs.lemmas.Result.{IfOk-weaker}
use Rattle.ranked_terms.specs.declared.term.Pattern.{App}
use Rattle.ranked_terms.specs.declared.term.Pattern.TheViews.{the_lemmas}
use Rattle.state_match.proofs.grouping.GroupLists.{IfSome-at_some}
use Rattle.state_match.specs.Edges.{IsEdge}
use Rattle.state_match.specs.declared.edge.Edge.{Edge}
use Rattle.state_match.specs.declared.edge.Edge.TheViews.{out-Edge}
use Rattle.state_match.proofs.members.Belows.{below_argument}
use Rattle.state_match.proofs.members.Edges.{deeper_of_edge, first_of_edge, head, if_some_copied}
use Rattle.state_match.proofs.members.JoinLaws.{Narrows, narrow_first, some_items}
use Rattle.state_match.proofs.edge.+narrow_along.Goals as goal

pub narrow_along-requires : goal.narrow_along-requires
narrow_along-requires t c =
    let A = c.args.automaton.now in
    let args = c.as_slice-args.result.now in
    let arg = c.index-args-0.result in
    let edge = IfSome-at_some (λ edge. IsEdge A c.args.wanted.now c.args.pattern.now edge.now) c.in-Some.is c.requires.edge in
    let some = some_items args (sym c.is_empty.ensures ∙ c.if-not-is_empty.true) in
    let inner = below_argument A c.args.pattern.now c.args.below.now c.requires.below c.in-App.field-0 c.in-App.args args c.in-App.is c.as_slice-args.ensures 0 arg c.index-inner.result.now some c.index-args-0.is c.index-inner.ensures in
    let tail = head args arg some c.index-args-0.is in
    let deeper = if_some_copied (IsEdge A (out-Edge c.in-Some.edge.now).first arg) c.first-deeper.result c.as_slice.result.now c.first-deeper.ensures.value
    (λ d at. deeper_of_edge A c.args.wanted.now c.args.pattern.now c.in-Some.edge.now edge c.in-App.field-0 arg tail.0 d (c.in-App.is ∙ ap (App c.in-App.field-0) (sym c.as_slice-args.ensures ∙ tail.1))
    (ap (λ (xs : List Edge). slice_get xs 0) (sym c.as_slice.ensures.value) ∙ at)) in
    (search (rules, the_lemmas), (c.requires.all, (c.requires.reverse, (deeper, inner))))

pub returns-then-index-bound : goal.returns-then-index-bound
returns-then-index-bound t c =
    let A = c.args.automaton.now in
    let vars = c.args.vars.now in
    let bound = c.args.bound.now in
    let args = c.as_slice-args.result.now in
    let arg = c.index-args-0.result in
    let first = (out-Edge c.in-Some.edge.now).first in
    let edge = IfSome-at_some (λ edge. IsEdge A c.args.wanted.now c.args.pattern.now edge.now) c.in-Some.is c.requires.edge in
    let tail = head args arg (some_items args (sym c.is_empty.ensures ∙ c.if-not-is_empty.true)) c.index-args-0.is in
    IfOk-weaker c.narrow_along.result _ (λ o. IfSome o (Narrows A vars bound c.args.wanted.now c.args.pattern.now))
    (λ o h. IfSome_then o h (λ states inner. narrow_first A vars bound c.args.pattern.now arg c.args.wanted.now first states
    (record { symbol = c.in-App.field-0; others = tail.0; is = c.in-App.is ∙ ap (App c.in-App.field-0) (sym c.as_slice-args.ensures ∙ tail.1) })
    (first_of_edge A c.args.wanted.now c.args.pattern.now c.in-Some.edge.now edge) inner))
    c.narrow_along.ensures
