use Rattle.std.proofs.Common.{◌≡◌, ◌∷◌, ◌++◌, [], List, ℕ, map, Contains, sym, subst, ◌∙◌, ⊎_elim, arith}
use Rattle.std.proofs.lemmas.Bool.Decides.{nat_tests}
use Rattle.std.proofs.lemmas.List.Elements.{Contains-get_or, Contains-append_cases}
use Rattle.list_laws.proofs.Members.{none, parts, map_has}
use Rattle.ta_core.specs.declared.trans.Trans.{Trans}
use Rattle.eq_merge.specs.Quotients.{renamed}
use Rattle.eq_merge.proofs.following.renamed_at.Goals as goal
use Rattle.eq_merge.proofs.following.renamed_at.Goals.{in-Some+in_ok-renamed_one+in_ok-push, in_default}

abbrev Among : List ℕ → List Trans → List Trans → Type 0
Among h trans chosen = (t : Trans) → Contains chosen t → Contains (map (renamed h) trans) t

-- one more renamed transition
more_among : (h : List ℕ) (trans old new : List Trans) (x y : Trans) → Contains trans x → y ≡ renamed h x → new ≡ old ++ y ∷ [] → Among h trans old → Among h trans new
more_among h trans old new x y has is e among t c =
    ⊎_elim (λ first. among t first)
    (λ last. ⊎_elim (λ same. map_has (renamed h) trans x t has (sym is ∙ same)) (λ later. absurd (none t later)) (parts y t [] last))
    (Contains-append_cases old (y ∷ []) t (subst (λ l. Contains l t) e c))

pub loop-place-preserved : goal.loop-place-preserved
loop-place-preserved c =
    let h = c.args.classes.now in
    let trans = c.args.trans.now in
    elim c.match-get.branch [
      | in-Some+in_ok-renamed_one+in_ok-push w ↦ more_among h trans c.loop-place.chosen c.match-get.chosen w.in-Some.t.now w.in_ok-renamed_one.field-0
          (subst (Contains trans) (sym w.in-Some.ensures.lookup.1) (Contains-get_or trans _ w.in-Some.t.now (grind (arith, nat_tests, w.in-Some.ensures.lookup.0)))) w.in_ok-renamed_one.ensures
          (w.chosen-is ∙ w.in_ok-push.ensures.ok) c.loop-place.invariant
      | in_default w ↦ λ t i. c.loop-place.invariant t (subst (λ l. Contains l t) w.chosen-is i)
    ]
