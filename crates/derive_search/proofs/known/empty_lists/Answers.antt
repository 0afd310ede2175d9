use Rattle.std.proofs.Common.{◌≡◌, ◌+◌, ◌++◌, ◌∷◌, [], length, sym, ap, subst, ◌∙◌, ⊎_elim, arith, length-append}
use Rattle.std.specs.List.{All}
use Rattle.std.proofs.lemmas.List.Elements.{All-contains, Contains-push_cases}
use Rattle.list_laws.proofs.Members.{all_from_members}
use Rattle.derive_search.proofs.known.empty_lists.Goals as goal

pub loop-init : goal.loop-init
loop-init c = (ap length c.new-lists.ensures.items, subst (All (λ list. list ≡ [])) (sym c.new-lists.ensures.items) (λ k d l. absurd (omega (arith, l))))

pub loop-preserved : goal.loop-preserved
loop-preserved c =
    let before = c.loop.lists.items in (
      ap length c.in_ok-push.ensures.items ∙ (length-append before (c.new.result ∷ []) ∙ ap (λ n. n + 1) c.loop.invariant.0),
      subst (All (λ list. list ≡ [])) (sym c.in_ok-push.ensures.items) (all_from_members (λ list. list ≡ []) (before ++ c.new.result ∷ []) (λ x m.
          ⊎_elim (λ old. All-contains (λ list. list ≡ []) before x c.loop.invariant.1 old) (λ e. sym e ∙ c.new.ensures) (Contains-push_cases before c.new.result x m))),
    )

pub returns-clause-len : goal.returns-clause-len
returns-clause-len c = omega (arith, c.loop.invariant.0, c.loop-test.false, c.loop.auto.counter-end)

pub returns-clause-empty : goal.returns-clause-empty
returns-clause-empty c = c.loop.invariant.1
