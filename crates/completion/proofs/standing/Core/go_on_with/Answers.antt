use Rattle.std.proofs.Common.{◌<◌, List, All, sym, subst}
use Rattle.trs_rules.specs.Rules.{RewriteEquation}
use Rattle.normalise.specs.NormalisingLaws.{IsGrown}
use Rattle.eq_merge.specs.Merging.{Merged, IsLeastMerge}
use Rattle.completion.specs.Standing.{Standing, IsStanding, IsMerged}
use Rattle.completion.proofs.Carrying.{places_below, merged_stands}
use Rattle.completion.proofs.standing.Core.go_on_with.Goals as goal

pub moved-requires : goal.moved-requires
moved-requires c =
    let s : Standing = record { spec = c.self.inside.spec.now; options = c.self.inside.options; automaton = c.self.inside.automaton; places = c.self.inside.map } in
    let grows = subst (λ (s : Standing). IsGrown s.automaton c.args.grown.now) (sym c.self.view_is) c.requires in
    subst (λ n. All (λ q. q < n) c.self.inside.map) (sym c.in_ok-automaton.ensures.least.leasts.each) (places_below s c.args.grown.now c.self.invariant grows c.states.ensures.sound)

pub invariant_of-self : goal.invariant_of-self
invariant_of-self c =
    let s : Standing = record { spec = c.self.inside.spec.now; options = c.self.inside.options; automaton = c.self.inside.automaton; places = c.self.inside.map } in
    let grows = subst (λ (s : Standing). IsGrown s.automaton c.args.grown.now) (sym c.self.view_is) c.requires in
    let classes = c.in_ok-automaton.classes in
    let least = subst (λ (E : List RewriteEquation). IsLeastMerge E c.args.grown.now c.in_ok-automaton.automaton classes) c.as_slice.ensures c.in_ok-automaton.ensures.least in
    subst (λ l. IsStanding (record s { automaton = c.in_ok-automaton.automaton; places = l })) (sym c.in_ok-map.ensures)
    (merged_stands s c.args.grown.now c.in_ok-automaton.automaton classes c.self.invariant c.states-2.ensures.sound grows least)

pub returns-clause-ok : goal.returns-clause-ok
returns-clause-ok c =
    let classes = c.in_ok-automaton.classes in
    let merged = subst (λ (E : List RewriteEquation). Merged E c.args.grown.now c.in_ok-automaton.automaton classes) c.as_slice.ensures c.in_ok-automaton.ensures.merged in
    let s : Standing = record { spec = c.self.inside.spec.now; options = c.self.inside.options; automaton = c.self.inside.automaton; places = c.self.inside.map } in
    subst (λ (s : Standing). IsMerged s c.args.grown.now c.in_ok-automaton.automaton c.in_ok-map.map) c.self.view_is
    (record { classes = classes; merged = merged; places = c.in_ok-map.ensures })
