use Rattle.std.proofs.Common.{◌≡◌, ℕ, List, [], ◌<◌, ◌∙◌, length, true, false, get_or, sym, subst, ⊎_elim, arith}
use Rattle.std.specs.Prelude.{IsTrue}
use Rattle.std.specs.List.{Contains}
use Rattle.std.proofs.lemmas.List.{get_or_default}
use Rattle.list_laws.proofs.Zips.{zip_length}
use Rattle.derive_search.specs.StateSets.{sets_at}
use Rattle.derive_search.proofs.StateSetLaws.{zip_from_places, zip_at_place, length-sets_at}
use Rattle.derive_search.proofs.SearchLaws.{last_or}
use Rattle.derive_search.proofs.state_sets.are_members.Goals as goal

no_true : {A : Type 0} → IsTrue false → A
no_true h = cc

pub returns-then-states-args : goal.returns-then-states-args
returns-then-states-args c = (
  λ h. no_true h,
  λ z. absurd (c.if-states-args.true (sym (zip_length (sets_at c.args.sets.now c.args.args.now) c.args.states.now z) ∙ length-sets_at c.args.sets.now c.args.args.now)),
)

pub loop-i-init : goal.loop-i-init
loop-i-init c = λ k l. absurd (omega (arith, l))

-- the set that is looked at
at_set : (sets : List (List ℕ)) (a : ℕ) (set : List ℕ) → a < length sets → set ≡ get_or sets a set → set ≡ get_or sets a []
at_set sets a set l e = e ∙ get_or_default sets a set [] l

pub returns-then-not-contains : goal.returns-then-not-contains
returns-then-not-contains c =
    let i = c.loop-i.i in let args = c.args.args.now in let sets = c.args.sets.now in
    let here = at_set sets (get_or args i 0) c.index-sets-args.result (c.requires i 0 (omega (arith, c.loop-i-test.true, c.if-states-args.false))) c.index-sets-args.is in (
      λ h. no_true h,
      λ z. let yes = c.contains.ensures.1 (subst (λ set. Contains set (get_or c.args.states.now i 0)) (sym here) (zip_at_place sets args c.args.states.now z i c.loop-i-test.true)) in cc (yes, c.if-not-contains.true),
    )

pub loop-i-preserved : goal.loop-i-preserved
loop-i-preserved c =
    let i = c.loop-i.i in let args = c.args.args.now in let sets = c.args.sets.now in
    let here = at_set sets (get_or args i 0) c.index-sets-args.result (c.requires i 0 (omega (arith, c.loop-i-test.true, c.if-states-args.false))) c.index-sets-args.is in
    λ k l. ⊎_elim
    (λ less. c.loop-i.invariant k less)
    (λ same. subst (λ j. Contains (get_or sets (get_or args j 0) []) (get_or c.args.states.now j 0)) (sym same)
    (subst (λ set. Contains set (get_or c.args.states.now i 0)) here (c.contains.ensures.0 c.if-not-contains.false)))
    (last_or k i l)

pub returns : goal.returns
returns c = (
  λ h. zip_from_places c.args.sets.now c.args.args.now c.args.states.now c.if-states-args.false (λ k l. c.loop-i.invariant k (omega (arith, l, c.loop-i-test.false))),
  λ z. let t : IsTrue true = cc in t,
)
