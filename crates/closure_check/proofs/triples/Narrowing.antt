-- From the needed states of a pattern to those of an argument.
use Rattle.std.proofs.Common.{◌≡◌, ◌↔◌, ◌+◌, ◌<◌, ◌≤◌, ◌==◌, ℕ, zero, suc, Some, slice_get, List, [], ◌∷◌, ◌++◌, length, get_or, map, take, Contains, refl, sym, ap, subst, ◌∙◌, ⊎_elim, arith}
use Rattle.std.specs.List.{AllZip, position_or_len, slice_index}
use Rattle.std.proofs.lemmas.Bool.{cases_eq}
use Rattle.std.proofs.lemmas.List.{take_all, take_more, map-append, length-take-le}
use Rattle.std.proofs.Math.Seq.{get_or-append_seam}
use Rattle.std.proofs.lemmas.List.Elements.{All-contains}
use borrow.Rule.Slice.PartMut.{put_mid, post_of}
use Rattle.ranked_terms.specs.Terms.{assigned}
use Rattle.ranked_terms.specs.declared.term.Pattern.{Pattern}
use Rattle.ranked_terms.specs.declared.term.Pattern.TheVariants.{Var, App}
use Rattle.ranked_terms.specs.declared.term.Config.TheVariants as config
use Rattle.ranked_terms.specs.lemmas.TermLaws.{assigned_app, assigned_var}
use Rattle.ta_core.specs.TreeAutomaton.{TreeAutomaton, IsSound, IsTransOf, trans_of}
use Rattle.ta_core.specs.Runs.{Runs, RunsAll, Reaches}
use Rattle.ta_core.specs.Closure.{state_in}
use Rattle.ta_core.specs.Reached.{EntersAndReaches}
use Rattle.ta_core.specs.lemmas.RunsLaws.{run_of_app, run_of_state}
use Rattle.closure_check.specs.Marking.{Marked}
use Rattle.closure_check.specs.Searching.{Covers, Narrows}
use Rattle.closure_check.proofs.sets.RunningSets.{lists, take_seam}

zip_push : {X Y : Type 0} (P : X → Y → Type 0) (xs : List X) (ys : List Y) (x : X) (y : Y) → AllZip P xs ys → P x y → AllZip P (xs ++ x ∷ []) (ys ++ y ∷ [])
zip_push P [] [] x y z h = (h, tt)
zip_push P [] (b ∷ ys) x y z h = absurd z
zip_push P (a ∷ xs) [] x y z h = absurd z
zip_push P (a ∷ xs) (b ∷ ys) x y z h = (z.0, zip_push P xs ys x y z.1 h)

pub covers_put : (P : Pattern → List ℕ → Type 0) (items : List Pattern) (arg : Pattern) (k m : ℕ) (xs ys : List Marked) → k ≤ length xs → 0 < length ys → k < length items → arg ≡ get_or items k arg → AllZip P (take k items) (lists (take k xs)) →
    ((set : Marked) → slice_get ys 0 ≡ Some set → P arg set.members) → AllZip P (take (k + 1) items) (lists (take (k + 1) (put_mid k m xs ys)))
covers_put P items arg k m xs [] le some l is so_far first = absurd (omega (arith, some))
covers_put P items arg k m xs (y ∷ ys) le some l is so_far first =
    let seam : take (k + 1) (put_mid k m xs (y ∷ ys)) ≡ take k xs ++ y ∷ [] = take_seam (take k xs) (ys ++ post_of k m xs) y k (length-take-le k xs le) in
    let more : take (k + 1) items ≡ take k items ++ arg ∷ [] = take_more items k arg l ∙ ap (λ x. take k items ++ x ∷ []) (sym is) in
    let made = zip_push P (take k items) (lists (take k xs)) arg y.members so_far (first y refl) in
    subst (λ ps. AllZip P ps (lists (take (k + 1) (put_mid k m xs (y ∷ ys))))) (sym more) (subst (AllZip P (take k items ++ arg ∷ [])) (sym (ap lists seam ∙ map-append (λ (set : Marked). set.members) (take k xs) (y ∷ []))) made)

-- ---- runs of the arguments

module _ (A : TreeAutomaton) (vars states : List ℕ) where
  covered : (rest : List ℕ) (args : List Pattern) (sets : List (List ℕ)) {qs : List ℕ} → AllZip (Covers A vars states) args sets → RunsAll A (map (assigned (state_in vars (states ++ rest))) args) qs → AllZip Contains sets qs
  covered rest [] [] z RunsAll.none = tt
  covered rest [] (s ∷ sets) z r = absurd z
  covered rest (a ∷ args) [] z r = absurd z
  covered rest (a ∷ args) (s ∷ sets) z (RunsAll.more r rs) = (z.0 rest _ r, covered rest args sets z.1 rs)

  run_at : (σ : ℕ → ℕ) (args : List Pattern) (k : ℕ) (d : Pattern) {qs : List ℕ} → RunsAll A (map (assigned σ) args) qs → k < length args → (k < length qs) × Runs A (assigned σ (get_or args k d)) (get_or qs k 0)
  run_at σ [] k d r l = absurd (omega (arith, l))
  run_at σ (a ∷ args) zero d (RunsAll.more r rs) l = (omega arith, r)
  run_at σ (a ∷ args) (suc k) d (RunsAll.more r rs) l = let h = run_at σ args k d rs (omega (arith, l)) in (omega (arith, h.0), h.1)

  pub covers_app : (f : ℕ) (args items : List Pattern) (p : Pattern) (k n : ℕ) (sets : List Marked) (set : Marked) → p ≡ App f args → items ≡ args → length items ≤ k → k ≡ n →
      AllZip (Covers A vars states) (take k items) (lists (take k sets)) → ((q : ℕ) → Contains set.members q ↔ EntersAndReaches A f (lists (take n sets)) q) → Covers A vars states p set.members
  covers_app f args items p k n sets set e same le is so_far app rest q r =
      let σ = state_in vars (states ++ rest) in
      let covers : AllZip (Covers A vars states) args (lists (take n sets)) =
      subst (λ ps. AllZip (Covers A vars states) ps (lists (take n sets))) (take_all k items le ∙ same) (subst (λ j. AllZip (Covers A vars states) (take k items) (lists (take j sets))) is so_far) in
      let config : assigned σ p ≡ config.App f (map (assigned σ) args) = ap (assigned σ) e ∙ assigned_app σ f args in
      let a = run_of_app f (map (assigned σ) args) q (subst (λ c. Runs A c q) config r) in
      (app q).1 (record { target = a.target; enters = record { args = a.states; fit = covered rest args (lists (take n sets)) covers a.args; has = a.has }; reaches = a.on })

  pub covers_var : (v place : ℕ) (p : Pattern) (set : List ℕ) → p ≡ Var v → place ≡ position_or_len (λ w. v == w) vars → ((rest : List ℕ) (q : ℕ) → Runs A (config.State (slice_index (states ++ rest) place)) q → Contains set q) → Covers A vars states p set
  covers_var v place p set e at h rest q r =
      let σ = state_in vars (states ++ rest) in
      let config : assigned σ p ≡ config.State (slice_index (states ++ rest) place) = ap (assigned σ) e ∙ (assigned_var σ v ∙ ap (λ k. config.State (slice_index (states ++ rest) k)) (sym at)) in
      h rest q (subst (λ c. Runs A c q) config r)

  -- ---- the path to the next variable

  pub narrow_var : (v place count : ℕ) (pattern : Pattern) (needed out : List ℕ) → pattern ≡ Var v → place ≡ position_or_len (λ w. v == w) vars → count ≡ length states →
      (place ≡ count → (p q : ℕ) → Contains A.states p → Reaches A p q → Contains needed q → Contains out p) → ((place ≡ count → ⊥) → (p : ℕ) → Contains A.states p → Contains out p) → Narrows A vars states pattern needed out
  narrow_var v place count pattern needed out e at long widens all p i rest q n r =
      let σ = state_in vars (states ++ p ∷ rest) in
      ⊎_elim
      (λ here.
      let value : slice_index (states ++ p ∷ rest) place ≡ p = ap (slice_index (states ++ p ∷ rest)) (here ∙ long) ∙ get_or-append_seam states p rest 0 in
      let config : assigned σ pattern ≡ config.State p = ap (assigned σ) e ∙ (assigned_var σ v ∙ (ap (λ k. config.State (slice_index (states ++ p ∷ rest) k)) (sym at) ∙ ap config.State value)) in
      widens here p q i (run_of_state p q (subst (λ c. Runs A c q) config r)).1 n)
      (λ other. all other p i)
      (cases_eq place count)

  pub narrow_app : (f : ℕ) (args : List Pattern) (pattern arg : Pattern) (place : ℕ) (needed wide spare refilled out : List ℕ) (sets : List (List ℕ)) → IsSound A → pattern ≡ App f args → place < length args → arg ≡ get_or args place arg → AllZip (Covers A vars states) args sets →
      ((p q : ℕ) → Contains A.states p → Reaches A p q → Contains needed q → Contains wide p) →
      ((qs : List ℕ) (to : ℕ) → Contains A.trans (trans_of f qs to) → AllZip Contains sets qs → Contains wide to → place < length qs → Contains spare (get_or qs place 0)) →
      ((q : ℕ) → Contains A.states q → Contains spare q → Contains refilled q) → Narrows A vars states arg refilled out → Narrows A vars states pattern needed out
  narrow_app f args pattern arg place needed wide spare refilled out sets sound e l is covers widens picks refills narrows p i rest q n r =
      let σ = state_in vars (states ++ p ∷ rest) in
      let config : assigned σ pattern ≡ config.App f (map (assigned σ) args) = ap (assigned σ) e ∙ assigned_app σ f args in
      let a = run_of_app f (map (assigned σ) args) q (subst (λ c. Runs A c q) config r) in
      let t = All-contains (IsTransOf A.states) A.trans (trans_of f a.states a.target) sound.trans a.has in
      let at = run_at σ args place arg a.args l in
      let picked = picks a.states a.target a.has (covered (p ∷ rest) args sets covers a.args) (widens a.target q t.to a.on n) at.0 in
      narrows p i rest (get_or a.states place 0) (refills (get_or a.states place 0) (t.args place 0 at.0) picked) (subst (λ x. Runs A (assigned σ x) (get_or a.states place 0)) (sym is) at.1)

-- ---- without epsilon transitions

pub stays : (A : TreeAutomaton) (p q : ℕ) → length A.eps ≡ 0 → Reaches A p q → p ≡ q
stays A p _ none Reaches.here = refl
stays A p q none (Reaches.on r i) = absurd (omega (arith, none, i.1))
