use Rattle.std.proofs.Common.{refl, sym, ap, ◌∙◌}
use Rattle.eq_merge.specs.Ends.{places_of}
use Rattle.eq_merge.proofs.finding.Collected.{side_exact, goes_on}
use Rattle.eq_merge.proofs.ends.side_ends.Goals as goal

pub returns : goal.returns
returns c =
    side_exact c.args.matcher.now c.requires.plain c.args.pattern.now c.as_slice-2.result.now c.args.shared.now c.args.side _ c.each_group.new.visitor (c.as_slice-2.ensures.value ∙ c.in-Ok.ensures.ok) refl
    (c.in_ok-places_of.ensures ∙ ap (λ vars. places_of vars c.args.shared.now) (c.as_slice.ensures.value ∙ sym c.as_slice-2.ensures.value)) c.new.ensures
    (goes_on c.in_ok-_on._on c.in_ok-_on.ensures.whole c.in_ok-_on.ensures.ended)
