use Rattle.std.proofs.Common.{◌≡◌, ◌<◌, ◌-◌, ◌+◌, ℕ, List, length, take, drop, subst, get_or, refl, sym, ◌∙◌, true≢false, arith}
use Rattle.std.proofs.lemmas.Bool.{eqb-true}
use Rattle.std.proofs.lemmas.List.{take_all, length-drop}
use Rattle.state_match.specs.Rows.{FitsFrom}
use Rattle.state_match.proofs.members.JoinLaws.{some_items}
use Rattle.state_match.proofs.members.RowFits.{fits_none, fits_short, fits_apart, fits_on}
use Rattle.state_match.proofs.rows.+fit_from.Goals as goal

pub returns-then-is_empty : goal.returns-then-is_empty
returns-then-is_empty t c = (λ _. fits_none c.args.place c.args.sets.now c.args.args.now (eqb-true _ _ (sym c.is_empty.ensures ∙ c.if-is_empty.true)), λ _. refl)

pub returns-then-place-args : goal.returns-then-place-args
returns-then-place-args t c = (
  λ f. absurd (true≢false (sym f)),
  λ f. absurd (fits_short c.args.place c.args.sets.now c.args.args.now (some_items c.args.sets.now (sym c.is_empty.ensures ∙ c.if-is_empty.false)) (omega (arith, c.if-place-args.true)) f),
)

pub returns-then-not-contains : goal.returns-then-not-contains
returns-then-not-contains t c =
    let inside : 0 < length c.args.sets.now = some_items c.args.sets.now (sym c.is_empty.ensures ∙ c.if-is_empty.false) in (
      λ f. absurd (true≢false (sym f)),
      λ f. absurd (fits_apart c.args.place c.args.sets.now c.index-sets-0.result c.args.args.now inside c.index-sets-0.is (get_or c.args.args.now c.args.place 0) (omega (arith, c.if-place-args.false)) refl
          (λ m. true≢false (sym (c.contains.ensures.1 m) ∙ c.if-not-contains.true)) f),
    )

pub returns : goal.returns
returns t c =
    let inside : 0 < length c.args.sets.now = some_items c.args.sets.now (sym c.is_empty.ensures ∙ c.if-is_empty.false) in
    let on = fits_on c.args.place c.args.sets.now c.index-sets-0.result c.args.args.now inside c.index-sets-0.is (get_or c.args.args.now c.args.place 0) (omega (arith, c.if-place-args.false)) refl (c.contains.ensures.0 c.if-not-contains.false) in
    let tail : take (length c.args.sets.now - 1) (drop 1 c.args.sets.now) ≡ drop 1 c.args.sets.now = take_all (length c.args.sets.now - 1) (drop 1 c.args.sets.now) (omega (arith, length-drop 1 c.args.sets.now)) in (
      λ t. on.0 (subst (λ (ss : List (List ℕ)). FitsFrom (c.args.place + 1) ss c.args.args.now) tail (c.fit_from.ensures.0 t)),
      λ f. c.fit_from.ensures.1 (subst (λ (ss : List (List ℕ)). FitsFrom (c.args.place + 1) ss c.args.args.now) (sym tail) (on.1 f)),
    )
