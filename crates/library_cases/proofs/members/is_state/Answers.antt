use Rattle.std.proofs.Common.{◌≡◌, ◌==◌, sym, ◌∙◌}
use Rattle.std.proofs.lemmas.Map.Views.{Contains-from_any, exact_unsigned_eq}
use Rattle.library_cases.proofs.members.is_state.Goals as goal

pub returns : goal.returns
returns c t =
    Contains-from_any {eq = λ q y. y == q} (λ x y same. sym (exact_unsigned_eq y x same)) c.args.number c.args.states.now (sym c.contains.ensures.value ∙ t)
