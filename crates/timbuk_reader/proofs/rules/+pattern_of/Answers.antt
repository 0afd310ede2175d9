use Rattle.std.proofs.Common.{◌≡◌, false, Option, Some, None, MatchOption, sym, ap, ◌∙◌}
use Rattle.std.proofs.lemmas.List.{take_all}
use Rattle.ranked_terms.specs.declared.term.Pattern.{Pattern}
use Rattle.ranked_terms.specs.declared.term.Shape.{Shape}
use Rattle.ranked_terms.specs.declared.term.Shape.TheVariants as shape
use Rattle.ta_core.specs.SpecRules.{shape_is_below}
use Rattle.spec_text.specs.Naming.{shape_of}
use Rattle.timbuk_reader.proofs.keeping.Fits.{not_below}
use Rattle.spec_text.specs.lemmas.Shapes.{shape_of_app}
use Rattle.timbuk_reader.proofs.rules.+pattern_of.Goals as goal

-- where no pattern is found, a state stands in the shape
none_found : (s : Shape) (o : Option Pattern) → MatchOption o (shape_is_below 0 s ≡ false) (λ p. shape_of p ≡ s) → o ≡ None → shape_is_below 0 s ≡ false
none_found s None h e = h
none_found s (Some p) h e = cc

pub returns-in_default : goal.returns-in_default
returns-in_default t c =
    not_below 0 c.in-App.sym c.in-App.args c.as_slice-arg-items.result.now c.args.shape.now c.loop-arg.arg-index c.arg-item.result c.in-App.is c.as_slice-arg-items.ensures c.loop-arg-test.true c.arg-item.is
    (none_found c.arg-item.result c.in_ok-pattern-in-App.field-0 c.in_ok-pattern-in-App.ensures c.in_default.is)

pub returns-after-loop-arg : goal.returns-after-loop-arg
returns-after-loop-arg t c =
    let items = c.as_slice-arg-items.result.now in
    shape_of_app c.in-App.sym c.loop-arg.patterns
    ∙ ap (shape.App c.in-App.sym) (c.loop-arg.invariant ∙ take_all c.loop-arg.arg-index items c.loop-arg-test.false ∙ c.as_slice-arg-items.ensures) ∙ sym c.in-App.is
