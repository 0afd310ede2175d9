use Rattle.std.proofs.Common.{rules, List, [], length, refl, sym, ap, ◌∙◌}
use Rattle.ranked_terms.specs.declared.term.Pattern.{Pattern}
use Rattle.ranked_terms.specs.declared.term.Pattern.TheViews.{the_lemmas}
use Rattle.state_match.specs.declared.below.Below.TheViews.{out-Below}
use Rattle.state_match.specs.declared.edge.Edge.{Edge}
use Rattle.state_match.specs.declared.edge.Edge.TheOpen.{Edge-F}
use Rattle.state_match.specs.declared.edge.Edge.TheViews.{out-roll-Edge}
use Rattle.state_match.proofs.members.Belows.{below_argument, sets_below}
use Rattle.state_match.proofs.members.Edges.{edge_is}
use Rattle.state_match.proofs.members.JoinLaws.{first_is, some_items}
use Rattle.state_match.proofs.edge.Edge.+of.Goals as goal

pub of-requires : goal.of-requires
of-requires t c =
    let some = some_items c.as_slice-args.result.now (sym c.is_empty.ensures ∙ c.if-is_empty.false) in
    let inner = below_argument c.args.automaton.now c.args.pattern.now c.args.below.now c.requires.below c.in-App.sym c.in-App.args c.as_slice-args.result.now c.in-App.is c.as_slice-args.ensures 0 c.index-args-0-2.result c.index-inner.result.now some
    c.index-args-0-2.is c.index-inner.ensures in
    (search (rules, the_lemmas), (c.requires.all, (c.requires.reverse, inner)))

pub returns : goal.returns
returns t c =
    let A = c.args.automaton.now in
    let some = some_items c.as_slice-args.result.now (sym c.is_empty.ensures ∙ c.if-is_empty.false) in
    let first = first_is A c.args.reversed.now c.requires.reverse c.args.pattern.now c.in-App.sym c.in-App.args (length c.as_slice-args.result.now) [] (out-Below c.args.below.now).sets.items c.args.wanted.now c.in_ok-first.first c.in-App.is
    (ap (λ (ps : List Pattern). length ps) c.as_slice-args.ensures) refl (sets_below A c.args.pattern.now c.args.below.now c.requires.below) (rw c.deref.ensures.value at c.in_ok-first.ensures) in
    edge_is A c.args.wanted.now c.args.pattern.now _ c.in_ok-first.first c.in_ok-deeper.deeper.items c.in-App.sym c.in-App.args c.as_slice-args.result.now c.index-args-0-2.result c.in_ok-edge.edge
    (ap (λ (e : Edge-F Edge). e.first) (out-roll-Edge _)) (ap (λ (e : Edge-F Edge). e.deeper.items) (out-roll-Edge _)) c.in-App.is c.as_slice-args.ensures some c.index-args-0-2.is first c.in_ok-edge.ensures c.in_ok-deeper.ensures
