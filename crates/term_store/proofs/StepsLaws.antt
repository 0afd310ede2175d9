-- All steps from a term: those at the root, and those of each argument in turn.
use Rattle.std.proofs.Common.{◌≡◌, ◌⊎◌, ℕ, zero, suc, ◌+◌, ◌<◌, ◌≤◌, List, [], ◌∷◌, ◌++◌, length, get_or, set, refl, sym, ap, subst, ◌∙◌, inl, inr, ⊎_elim, arith}
use Rattle.std.specs.List.{All}
use Rattle.std.proofs.lemmas.List.Elements.{All-contains}
use Rattle.std.proofs.lemmas.Option.{get_or_from_slice_get, slice_get_within}
use Rattle.ranked_terms.specs.Terms.{node}
use Rattle.ranked_terms.specs.declared.term.Term.{Term}
use Rattle.trs_rules.specs.Rules.{RewriteRule}
use Rattle.trs_rules.specs.Steps.{StepAt}
use Rattle.list_laws.proofs.Members.{all_from_members}
use Rattle.term_store.specs.Store.{term_at, applied, Keeps}
use Rattle.term_store.specs.Found.{changed, IsFound, HasTerm, IsUpTo, AreFoundUpTo, AreFound, StepsToLarge, IsLiftOf, LiftsOne, AreLifted, HasLargeLift}
use Rattle.term_store.specs.declared.found.Found.{Found}
use Rattle.term_store.proofs.StoreLaws.{applied-front, get_or-front}
use Rattle.term_store.proofs.LiftLaws.{lifted_step, lowered, raised, Lowered}
use Rattle.term_store.proofs.FoundLaws.{length-keeps}

cases_le : (n place : ℕ) → (place < n) ⊎ (n ≤ place)
cases_le zero place = inr (omega arith)
cases_le (suc n) zero = inl (omega arith)
cases_le (suc n) (suc place) = ⊎_elim (λ less. inl (omega (arith, less))) (λ low. inr (omega (arith, low))) (cases_le n place)

pub term_at_stays : (a b : List Term) → Keeps a b → (i : ℕ) → i < length a → term_at b i ≡ term_at a i
term_at_stays a b k i l = ap (λ ts. get_or ts i (node 0 [])) k.1 ∙ get_or-front a k.0 i (node 0 []) l

pub applied_stays : (a b : List Term) → Keeps a b → (f : ℕ) (args : List ℕ) → All (λ x. x < length a) args → applied b f args ≡ applied a f args
applied_stays a b k f args h = ap (λ ts. applied ts f args) k.1 ∙ applied-front a k.0 f args h

pub found_stays : (R : List RewriteRule) (s : Term) (a b : List Term) → Keeps a b → (g : Found) → IsFound R s a g → IsFound R s b g
found_stays R s a b k g h = record {
  there = omega (arith, h.there, length-keeps a b k);
  position = h.position;
  back = h.back;
  step = subst (StepAt R g.rule h.position s) (sym (term_at_stays a b k g.term h.there)) h.step;
}

module _ (R : List RewriteRule) (s : Term) (f : ℕ) (args : List ℕ) where
  -- the steps of one argument more
  module _ (place : ℕ) (a b d : List Term) (k : Keeps a b) (l : Keeps b d) (within : place < length args) (there : All (λ x. x < length b) args) (is : s ≡ applied b f args)
      (below old new : List Found) (lifts : AreLifted f args place b d below old new) (inside : AreFound R (term_at b (get_or args place 0)) b below) (earlier : AreFoundUpTo R s a place old) where
    kept_both : Keeps a d
    kept_both = (k.0 ++ l.0, l.1 ∙ (ap (λ x. x ++ l.0) k.1 ∙ assoc a k.0 l.0))
      where
        assoc : (x y z : List Term) → (x ++ y) ++ z ≡ x ++ (y ++ z)
        assoc [] y z = refl
        assoc (u ∷ x) y z = ap (λ v. u ∷ v) (assoc x y z)

    is_at : (g h : Found) → IsLiftOf f args place b d g h → term_at d h.term ≡ changed b f args place g
    is_at g h i = get_or_from_slice_get d h.term _ (node 0 []) i.is

    new_step : (g : Found) → LiftsOne f args place b d below g → IsFound R s d g
    new_step g one =
        let h = All-contains (IsFound R (term_at b (get_or args place 0)) b) below one.step inside.steps one.member in
        let step = lifted_step R b f args one.step.rule h.position place one.step.term within h.step in
        record {
          there = slice_get_within d g.term _ one.is.is;
          position = (place + 1) ∷ h.position;
          back = one.is.back ∙ ap (λ xs. xs ++ (place + 1) ∷ []) h.back;
          step = subst (λ i. StepAt R i ((place + 1) ∷ h.position) s (term_at d g.term)) (sym one.is.rule)
              (subst (λ t. StepAt R one.step.rule ((place + 1) ∷ h.position) s t) (sym (is_at one.step g one.is))
              (subst (λ u. StepAt R one.step.rule ((place + 1) ∷ h.position) u (changed b f args place one.step)) (sym is) step));
        }

    old_term : (t : Term) → HasTerm old a t → HasTerm new d t
    old_term t h =
        let g = All-contains (IsFound R s a) old h.found earlier.steps h.member in
        record { found = h.found; member = lifts.kept h.found h.member; is = term_at_stays a d kept_both h.found.term g.there ∙ h.is }

    new_term : (i n : ℕ) (position : List ℕ) (t : Term) (low : Lowered R b f args i n position t) → low.place ≡ place → HasTerm new d t
    new_term i n position t low e =
        let g = inside.all i position low.to (subst (λ p. StepAt R i position (term_at b (get_or args p 0)) low.to) e low.step) in
        let lift = lifts.all g.found g.member in
        record { found = lift.lifted; member = lift.member; is = is_at g.found lift.lifted lift.is ∙ (ap (λ p. applied b f (set args p g.found.term)) (sym e) ∙ low.is g.found.term g.is) }

    last_or : (n : ℕ) → n ≤ place + 1 → (n ≤ place) ⊎ (n ≡ place + 1)
    last_or n up = go (cases_le n place)
      where
        go : (place < n) ⊎ (n ≤ place) → (n ≤ place) ⊎ (n ≡ place + 1)
        go (inl less) = inr (omega (arith, less, up))
        go (inr low) = inl low

    each : (i : ℕ) (position : List ℕ) (t : Term) → IsUpTo (place + 1) position → StepAt R i position s t → HasTerm new d t
    each i [] t up h = old_term t (earlier.all i [] t tt h)
    each i (n ∷ position) t up h = ⊎_elim
        (λ low. old_term t (earlier.all i (n ∷ position) t low h))
        (λ at. let low = lowered R b f args i n position t (subst (λ u. StepAt R i (n ∷ position) u t) is h) in new_term i n position t low (omega (arith, at, low.number)))
        (last_or n up)

    pub one_argument_more : AreFoundUpTo R s d (place + 1) new
    one_argument_more = record {
      steps = all_from_members (IsFound R s d) new (λ g c. ⊎_elim (λ o. found_stays R s a d kept_both g (All-contains (IsFound R s a) old g earlier.steps o)) (λ one. new_step g one) (lifts.only g c));
      all = each;
    }

  -- all arguments are all steps
  pub all_arguments : (terms : List Term) (base : List Term) (founds : List Found) (count : ℕ) → length args ≤ count → s ≡ applied base f args → AreFoundUpTo R s terms count founds → AreFound R s terms founds
  all_arguments terms base founds count enough is h = record { steps = h.steps; all = each }
    where
      each : (i : ℕ) (position : List ℕ) (t : Term) → StepAt R i position s t → HasTerm founds terms t
      each i [] t step = h.all i [] t tt step
      each i (n ∷ position) t step =
          let low = lowered R base f args i n position t (subst (λ u. StepAt R i (n ∷ position) u t) is step) in
          let w = low.within in let e = low.number in
          h.all i (n ∷ position) t (omega (arith, w, e, enough)) step

  -- a step of an argument to a large term
  pub large_inside : (place : ℕ) (b : List Term) → place < length args → s ≡ applied b f args → StepsToLarge R (term_at b (get_or args place 0)) → StepsToLarge R s
  large_inside place b within is h =
      let r = raised R b f args h.rule h.position place h.to within h.step in
      record { rule = h.rule; position = (place + 1) ∷ h.position; to = r.to; step = subst (λ u. StepAt R h.rule ((place + 1) ∷ h.position) u r.to) (sym is) r.step; large = omega (arith, h.large, r.larger) }

  -- and one that is large as a step of the whole term
  pub large_lift : (place : ℕ) (b : List Term) → place < length args → s ≡ applied b f args → (below : List Found) → AreFound R (term_at b (get_or args place 0)) b below → HasLargeLift f args place b below → StepsToLarge R s
  large_lift place b within is below inside h =
      let g = All-contains (IsFound R (term_at b (get_or args place 0)) b) below h.step inside.steps h.member in
      record {
        rule = h.step.rule;
        position = (place + 1) ∷ g.position;
        to = changed b f args place h.step;
        step = subst (λ u. StepAt R h.step.rule ((place + 1) ∷ g.position) u (changed b f args place h.step)) (sym is) (lifted_step R b f args h.step.rule g.position place h.step.term within g.step);
        large = h.large;
      }
