-- The levels of the search, and what it answers.
use Rattle.std.proofs.Common.{◌≡◌, ◌≢◌, ◌↔◌, ◌⊎◌, ℕ, zero, suc, ◌+◌, ◌<◌, ◌≤◌, false, nat_eq, List, [], ◌∷◌, ◌++◌, map, length, slice_get, Option, Some, None, refl, sym, ap, subst, ◌∙◌, inl, inr, ⊎_elim, length-append, arith}
use Rattle.std.specs.List.{All, AllPairs, AllByRecursion, Contains, IsDistinct}
use Rattle.std.proofs.lemmas.List.Elements.{Contains-append_right, All-contains}
use Rattle.std.proofs.lemmas.Option.{get_or_from_slice_get, slice_get_within}
use Rattle.std.proofs.lemmas.Bool.{eq-eqb}
use Rattle.ranked_terms.specs.Terms.{node, size_of}
use Rattle.ranked_terms.specs.declared.term.Term.{Term}
use Rattle.trs_rules.specs.Rules.{RewriteRule}
use Rattle.trs_rules.specs.Steps.{StepAt, Step}
use Rattle.derive_search.proofs.StepLaws.{placed_steps_are_steps}
use Rattle.trs_rules.specs.declared.derivation.DStep.{DStep}
use Rattle.trs_rules.specs.declared.derivation.Derivation.{Derivation}
use Rattle.trs_rules.specs.Derivations.{terms_along, IsDerivation, LeadsTo}
use Rattle.ta_core.specs.Reachability.{Forbidden}
use Rattle.ta_core.specs.declared.spec.Spec.{Spec}
use Rattle.ta_core.specs.declared.options.Options.{Options}
use Rattle.ta_core.specs.AcceptanceLaws.{AcceptedTermsAreOver}
use Rattle.list_laws.proofs.Members.{all_from_members}
use Rattle.term_store.specs.Store.{term_at, IsStore, Keeps}
use Rattle.derive_search.specs.Search.{IsStart, Reached, IsOver, ReachesForbidden, GoesOnTo, SearchAnswer}
use Rattle.derive_search.specs.Levels.{StepsFrom}
use Rattle.derive_search.specs.Growing.{terms_in, IsStepOrigin, AreGrown, AreClosed, GrowsLarge, IsOneTooMany, ComesFrom, DerivesTo, IsLevel, AreStarts, NoneAccepted, IsHit}
use Rattle.term_store.specs.Found.{turned}
use Rattle.derive_search.specs.declared.growth.Origin.{Origin}
use Rattle.derive_search.specs.declared.bounded.SearchEnd.TheVariants.{Found}
use Rattle.derive_search.proofs.Counts.{more_than}
use Rattle.derive_search.proofs.Levels.{starts_are_reached, reached_more, reached_by_levels}
use Rattle.derive_search.proofs.StoreFacts.{slice_get-front}
use Rattle.derive_search.proofs.StoreFacts.{same_ids}
use Rattle.derive_search.proofs.Ends.{first_level, next_level, not_over}
use Rattle.derive_search.proofs.GrowthLaws.{zip_member, zip_length, zip_at, append_cases, at_cases, at_back, at_map, is_member, at_member, turned_twice, length-terms_in, terms_in-append, terms_in_stay, term_of, in_terms}

pub last_or : (i n : ℕ) → i < n + 1 → (i < n) ⊎ (i ≡ n)
last_or zero zero l = inr refl
last_or zero (suc n) l = inl (omega arith)
last_or (suc i) zero l = absurd (omega (arith, l))
last_or (suc i) (suc n) l = ⊎_elim (λ h. inl (omega (arith, h))) (λ e. inr (ap suc e)) (last_or i n (omega (arith, l)))

none_some : {X A : Type 0} (x : X) → None ≡ Some x → A
none_some x e = cc

pub same_some : {X : Type 0} (x y : X) → Some x ≡ Some y → x ≡ y
same_some x y e = cc

-- ---- where a term came from

abbrev origin_from : (R : List RewriteRule) (ts us : List Term) (first : ℕ) (t : Term) (o : Option Origin) → IsStepOrigin R ts first t o → IsStepOrigin R (ts ++ us) 0 t o
origin_from R ts us first t o h = record {
  origin = h.origin;
  is = h.is;
  late = omega arith;
  from = h.from;
  is_from = slice_get-front ts us h.origin.parent h.from h.is_from;
  position = h.position;
  back = h.back;
  step = h.step;
}

comes_stays : (R : List RewriteRule) (ts us : List Term) (os vs : List (Option Origin)) (place n : ℕ) → ComesFrom R ts os place n → ComesFrom R (ts ++ us) (os ++ vs) place n
comes_stays R ts us os vs place n (ComesFrom.start p e) = ComesFrom.start p (slice_get-front os vs p None e)
comes_stays R ts us os vs place n (ComesFrom.step p m t o e f h l c) =
    ComesFrom.step p m t o (slice_get-front ts us p t e) (slice_get-front os vs p o f) (origin_from R ts us 0 t o h) l (comes_stays R ts us os vs h.origin.parent m c)

module _ (spec : Spec) (height : ℕ) (ts : List Term) (os : List (Option Origin)) (starts : (place : ℕ) (t : Term) → slice_get ts place ≡ Some t → slice_get os place ≡ Some None → IsStart spec height t) where
  comes_reached : (place n : ℕ) → ComesFrom spec.rules ts os place n → (t : Term) → slice_get ts place ≡ Some t → Reached spec height n t
  comes_reached place n (ComesFrom.start p e) t is = (starts_are_reached spec height t).1 (starts p t is e)
  comes_reached place n (ComesFrom.step p m u o e f h l c) t is =
      let q : u ≡ t = same_some u t (sym e ∙ is) in
      subst (Reached spec height (m + 1)) q ((reached_by_levels spec height m u).1 (inr (record {
        from = h.from;
        reached = comes_reached h.origin.parent m c h.from h.is_from;
        step = placed_steps_are_steps spec.rules h.origin.rule h.position h.from u h.step;
      })))

-- ---- a derivation is read back

pub read_start : (R : List RewriteRule) (ts : List Term) (os : List (Option Origin)) (place n : ℕ) (t : Term) → slice_get ts place ≡ Some t → slice_get os place ≡ Some None → ComesFrom R ts os place n → DerivesTo R ts os place n (record { start = t; steps = [] })
read_start R ts os place n t is e (ComesFrom.start p e') = record {
  first = p;
  is_first = is;
  no_origin = e;
  count = refl;
  steps = λ i l. absurd (omega (arith, l));
  last = t;
  is_last = is;
  leads = refl;
}
read_start R ts os place n t is e (ComesFrom.step p m u o e' f h l c) = none_some h.origin (same_some None o (sym e ∙ f) ∙ h.is)

module _ (R : List RewriteRule) (d : Derivation) (s : DStep) where
  one_more : Derivation
  one_more = record { start = d.start; steps = d.steps ++ s ∷ [] }

  along : (steps : List DStep) → map (λ (x : DStep). x.term) (steps ++ s ∷ []) ≡ map (λ (x : DStep). x.term) steps ++ s.term ∷ []
  along [] = refl
  along (x ∷ steps) = ap (λ ys. x.term ∷ ys) (along steps)

  along_more : terms_along (record { start = d.start; steps = d.steps ++ s ∷ [] }) ≡ terms_along d ++ s.term ∷ []
  along_more = ap (λ ys. d.start ∷ ys) (along d.steps)

  length-along : (steps : List DStep) → length (map (λ (x : DStep). x.term) steps) ≡ length steps
  length-along [] = refl
  length-along (x ∷ steps) = ap suc (length-along steps)

  pub more_steps : (t : Term) → IsDerivation R d → LeadsTo d t → StepAt R s.rule s.at t s.term → IsDerivation R (record { start = d.start; steps = d.steps ++ s ∷ [] })
  more_steps t all leads step place l = ⊎_elim
      (λ less. let h = all place less in record {
        step = h.step;
        is_step = slice_get-front d.steps (s ∷ []) place h.step h.is_step;
        before = h.before;
        is_before = ap (λ ys. slice_get ys place) along_more ∙ slice_get-front (terms_along d) (s.term ∷ []) place h.before h.is_before;
        steps = h.steps;
      })
      (λ same. record {
        step = s;
        is_step = ap (slice_get (d.steps ++ s ∷ [])) (same ∙ omega arith) ∙ at_back d.steps (s ∷ []) 0 s refl;
        before = t;
        is_before = ap (λ ys. slice_get ys place) along_more ∙ slice_get-front (terms_along d) (s.term ∷ []) place t (ap (slice_get (terms_along d)) same ∙ leads);
        steps = step;
      })
      (last_or place (length d.steps) (omega (arith, l, length-append d.steps (s ∷ []))))

  pub more_leads : LeadsTo (record { start = d.start; steps = d.steps ++ s ∷ [] }) s.term
  more_leads =
      ap (λ ys. slice_get ys (length (d.steps ++ s ∷ []))) along_more
      ∙ (ap (slice_get (terms_along d ++ s.term ∷ [])) (let e : length (d.steps ++ s ∷ []) ≡ length (terms_along d) + 0 = omega (arith, length-append d.steps (s ∷ []), length-along d.steps) in e)
      ∙ at_back (terms_along d) (s.term ∷ []) 0 s.term refl)

turned_same : (a b : List ℕ) → turned a ≡ turned b → a ≡ b
turned_same a b e = sym (turned_twice a) ∙ (ap turned e ∙ turned_twice b)

pub read_step : (R : List RewriteRule) (ts : List Term) (os : List (Option Origin)) (place n : ℕ) (t : Term) (o : Origin) (at : List ℕ) (d : Derivation) → slice_get ts place ≡ Some t → slice_get os place ≡ Some (Some o) → o.back ≡ turned at
    → ((m : ℕ) → ComesFrom R ts os o.parent m → DerivesTo R ts os o.parent m d) → ComesFrom R ts os place n → DerivesTo R ts os place n (record { start = d.start; steps = d.steps ++ record { rule = o.rule; at = at; term = t } ∷ [] })
read_step R ts os place n t o at d is e back below (ComesFrom.start p e') = none_some o (same_some None (Some o) (sym e' ∙ e))
read_step R ts os place n t o at d is e back below (ComesFrom.step p m u o' e' f h l c) =
    let q : h.origin ≡ o = same_some h.origin o (sym h.is ∙ same_some o' (Some o) (sym f ∙ e)) in
    let r = below m (subst (λ x. ComesFrom R ts os x.parent m) q c) in
    let v : r.last ≡ h.from = same_some r.last h.from (sym r.is_last ∙ (ap (λ x. slice_get ts x.parent) (sym q) ∙ h.is_from)) in
    let w : h.position ≡ at = turned_same h.position at (sym h.back ∙ (ap (λ x. x.back) q ∙ back)) in
    let st : StepAt R o.rule at r.last t = subst (λ x. StepAt R o.rule x r.last t) w (subst (λ x. StepAt R o.rule h.position x t) (sym v) (subst (λ x. StepAt R o.rule h.position h.from x) (same_some u t (sym e' ∙ is)) (subst (λ x. StepAt R x.rule h.position h.from u) q h.step))) in
    record {
      first = r.first;
      is_first = r.is_first;
      no_origin = r.no_origin;
      count = length-append d.steps (record { rule = o.rule; at = at; term = t } ∷ []) ∙ ap (λ k. k + 1) r.count;
      steps = more_steps R d (record { rule = o.rule; at = at; term = t }) r.last r.steps r.leads st;
      last = t;
      is_last = is;
      leads = more_leads R d (record { rule = o.rule; at = at; term = t });
    }

-- no identity stands twice
other : (y : ℕ) (xs : List ℕ) → AllByRecursion (λ z. nat_eq y z ≡ false) xs → (l x : ℕ) → slice_get xs l ≡ Some x → y ≡ x → ⊥
other y [] d l x f q = cc
other y (z ∷ xs) d zero x f q = let r : z ≡ x = cc in let e = eq-eqb y z (q ∙ sym r) in let e' = d.0 in cc
other y (z ∷ xs) d (suc l) x f q = other y xs d.1 l x f q

pairs_apart : (xs : List ℕ) → IsDistinct nat_eq xs → (i l : ℕ) (x : ℕ) → i < l → slice_get xs i ≡ Some x → slice_get xs l ≡ Some x → ⊥
unfolding IsDistinct
pairs_apart [] d i l x m e f = cc
pairs_apart (y ∷ xs) d zero zero x m e f = absurd (omega (arith, m))
pairs_apart (y ∷ xs) d zero (suc l) x m e f = let q : y ≡ x = cc in other y xs d.0 l x f q
pairs_apart (y ∷ xs) d (suc i) zero x m e f = absurd (omega (arith, m))
pairs_apart (y ∷ xs) d (suc i) (suc l) x m e f = pairs_apart xs d.1 i l x (omega (arith, m)) e f

-- ---- the levels

module _ (spec : Spec) (options : Options) (j : ℕ) (terms : List Term) (ids : List ℕ) (os : List (Option Origin)) (first : ℕ) (level : IsLevel spec options j terms ids os first) where
  abbrev ts : List Term
  ts = terms_in terms ids

  small : All (λ t. size_of t ≤ 1024) ts
  small = all_from_members (λ t. size_of t ≤ 1024) ts (λ t c.
      let h = term_of terms ids t c in
      let l = All-contains (λ a. a < length terms) ids h.0 level.there h.1 in
      subst (λ u. size_of u ≤ 1024) h.2 (level.store.small h.0 (node 0 []) l))

  pub within : IsOver spec options j → ⊥
  within = not_over spec options j level.older level.last level.levels (record {
    few = subst (λ n. n ≤ options.terms) (sym (length-terms_in terms ids) ∙ ap length level.split) level.few;
    small = subst (All (λ t. size_of t ≤ 1024)) level.split small;
  }) level.fits

  in_last : (place : ℕ) (t : Term) → first ≤ place → slice_get ts place ≡ Some t → Contains level.last t
  in_last place t l is = ⊎_elim
      (λ h. absurd (omega (arith, l, level.first_is, h.0)))
      (λ h. is_member level.last h.0 t h.2)
      (at_cases level.older level.last place t (ap (λ xs. slice_get xs place) (sym level.split) ∙ is))

  from_last : (t : Term) → Contains level.last t → (place : ℕ) × (first ≤ place) × (slice_get ts place ≡ Some t)
  from_last t c =
      let h = at_member level.last t c in
      (length level.older + h.0, omega (arith, level.first_is), ap (λ xs. slice_get xs (length level.older + h.0)) level.split ∙ at_back level.older level.last h.0 t h.1)

  reached : (place : ℕ) (t : Term) → slice_get ts place ≡ Some t → Reached spec options.height j t
  reached place t is = (level.levels.exact t).0 (subst (λ xs. Contains xs t) level.split (is_member ts place t is))

  module _ (none : NoneAccepted spec ts first) where
    not_forbidden : (t : Term) → Contains (level.older ++ level.last) t → Forbidden spec t → ⊥
    not_forbidden t c f = ⊎_elim
        (λ old. All-contains (λ t. Forbidden spec t → ⊥) level.older t level.tested old f)
        (λ new. let h = from_last t new in none h.0 t h.1 h.2 f.accepted)
        (append_cases level.older level.last t c)

    pub goes_on : GoesOnTo spec options (j + 1)
    goes_on i l = ⊎_elim
        (λ less. level.goes i less)
        (λ same. subst (λ k. (IsOver spec options k → ⊥) × (ReachesForbidden spec options k → ⊥)) (sym same) (within, λ r. not_forbidden r.term ((level.levels.exact r.term).1 r.reached) r.forbidden))
        (last_or i j l)

    module _ (after : List Term) (k : Keeps terms after) (store : IsStore after) (ids' : List ℕ) (os' : List (Option Origin)) (grown : AreGrown spec.rules ts first after ids os ids' os') where
      abbrev news : List Term
      news = terms_in after grown.more

      all_are : terms_in after ids' ≡ ts ++ news
      all_are = ap (terms_in after) grown.ids_are ∙ (terms_in-append after ids grown.more ∙ ap (λ xs. xs ++ news) (terms_in_stay terms after k ids level.there))

      new_step : (t : Term) → Contains news t → StepsFrom spec.rules level.last t
      new_step t c =
          let h = term_of after grown.more t c in
          let p = zip_member (λ id o. IsStepOrigin spec.rules ts first (term_at after id) o) grown.more grown.more_origins grown.each h.0 h.1 in
          record {
            from = p.1.from;
            member = in_last p.1.origin.parent p.1.from p.1.late p.1.is_from;
            step = subst (Step spec.rules p.1.from) h.2 (placed_steps_are_steps spec.rules p.1.origin.rule p.1.position p.1.from (term_at after h.0) p.1.step);
          }

      reached_new : (t : Term) → Contains (terms_in after ids') t → Reached spec options.height (j + 1) t
      reached_new t c = ⊎_elim
          (λ old. let h = at_member ts t old in reached_more spec options.height j (j + 1) t (omega arith) (reached h.0 t h.1))
          (λ new. let s = new_step t new in (reached_by_levels spec options.height j t).1 (inr (record { from = s.from; reached = (level.levels.exact s.from).0 (Contains-append_right level.older level.last s.from s.member); step = s.step })))
          (append_cases ts news t (subst (λ xs. Contains xs t) all_are c))

      pub too_many : IsOneTooMany options.terms ids' → IsOver spec options (j + 1)
      too_many h = inr (inl (more_than (Reached spec options.height (j + 1)) (terms_in after ids') options.terms
          (apart ids' (pairs_apart ids' h.distinct) grown.there)
          (all_from_members (Reached spec options.height (j + 1)) (terms_in after ids') reached_new)
          (length-terms_in after ids' ∙ h.many)))
        where
          apart : (xs : List ℕ) → ((i l : ℕ) (x : ℕ) → i < l → slice_get xs i ≡ Some x → slice_get xs l ≡ Some x → ⊥) → All (λ a. a < length after) xs → AllPairs (λ t u. t ≢ u) (terms_in after xs)
          apart xs once there i l d m w e =
              let n : l < length xs = subst (λ c. l < c) (length-terms_in after xs) w in
              let x = at xs i (omega (arith, m, n)) in
              let y = at xs l n in
              let a = get_or_from_slice_get (terms_in after xs) i (term_at after x.0) d (at_map (term_at after) xs i x.0 x.1) in
              let b = get_or_from_slice_get (terms_in after xs) l (term_at after y.0) d (at_map (term_at after) xs l y.0 y.1) in
              let q : x.0 ≡ y.0 = same_ids after store x.0 y.0 (All-contains (λ a. a < length after) xs x.0 there (is_member xs i x.0 x.1)) (All-contains (λ a. a < length after) xs y.0 there (is_member xs l y.0 y.1)) (sym a ∙ (e ∙ b)) in
              once i l x.0 m x.1 (y.1 ∙ ap Some (sym q))
            where
              at : (xs : List ℕ) (i : ℕ) → i < length xs → (x : ℕ) × (slice_get xs i ≡ Some x)
              at [] i l = absurd (omega (arith, l))
              at (x ∷ xs) zero l = (x, refl)
              at (x ∷ xs) (suc i) l = at xs i (omega (arith, l))

      pub grows_on : AreClosed spec.rules ts first (length ids) (terms_in after ids') → length ids' ≤ options.terms → IsLevel spec options (j + 1) after ids' os' (length ids)
      grows_on closed few = record {
        store = store;
        there = grown.there;
        older = level.older ++ level.last;
        last = news;
        split = all_are ∙ ap (λ xs. xs ++ news) level.split;
        first_is = sym (length-terms_in terms ids) ∙ ap length level.split;
        levels = next_level spec options.height j level.older level.last news level.levels (record {
          steps = all_from_members (StepsFrom spec.rules level.last) news new_step;
          all = λ t s.
              let h = from_last s.from s.member in
              subst (λ xs. Contains xs t) (all_are ∙ ap (λ xs. xs ++ news) level.split)
              (closed h.0 s.from t h.1 (let w = slice_get_within ts h.0 s.from h.2 in omega (arith, w, length-terms_in terms ids)) h.2 s.step);
        });
        few = few;
        fits = level.fits;
        goes = goes_on;
        tested = all_from_members (λ t. Forbidden spec t → ⊥) (level.older ++ level.last) not_forbidden;
        count = ap length grown.origins_are ∙ (length-append os grown.more_origins ∙ ((λ i. level.count i + sym zips i) ∙ sym (ap length grown.ids_are ∙ length-append ids grown.more)));
        earlier = λ place o e. ⊎_elim
            (λ h. level.earlier place o h.1)
            (λ h. let p = origin_at h.0 (Some o) h.2 in
            let q : p.1.origin ≡ o = same_some p.1.origin o (sym p.1.is) in
            let w = slice_get_within ts p.1.origin.parent p.1.from p.1.is_from in
            subst (λ x. x.parent < place) q (omega (arith, w, length-terms_in terms ids, level.count, h.1)))
            (at_cases os grown.more_origins place (Some o) (ap (λ xs. slice_get xs place) (sym grown.origins_are) ∙ e));
        starts = λ place t is e. ⊎_elim
            (λ h. level.starts place t (old_at place t (omega (arith, h.0, level.count)) is) h.1)
            (λ h. let p = origin_at h.0 None h.2 in none_some p.1.origin p.1.is)
            (at_cases os grown.more_origins place None (ap (λ xs. slice_get xs place) (sym grown.origins_are) ∙ e));
        depths = λ place l. subst (λ xs. (n : ℕ) × (n ≤ j + 1) × ComesFrom spec.rules xs os' place n) (sym all_are)
            (subst (λ ys. (n : ℕ) × (n ≤ j + 1) × ComesFrom spec.rules (ts ++ news) ys place n) (sym grown.origins_are) (depth place l));
      }
        where
          zips : length grown.more ≡ length grown.more_origins
          zips = zip_length (λ id o. IsStepOrigin spec.rules ts first (term_at after id) o) grown.more grown.more_origins grown.each

          at : {X : Type 0} (xs : List X) (i : ℕ) → i < length xs → (x : X) × (slice_get xs i ≡ Some x)
          at [] i l = absurd (omega (arith, l))
          at (x ∷ xs) zero l = (x, refl)
          at (x ∷ xs) (suc i) l = at xs i (omega (arith, l))

          origin_at : (i : ℕ) (o : Option Origin) → slice_get grown.more_origins i ≡ Some o → (id : ℕ) × IsStepOrigin spec.rules ts first (term_at after id) o
          origin_at i o e =
              let x = at grown.more i (let w = slice_get_within grown.more_origins i o e in omega (arith, w, zips)) in
              (x.0, zip_at (λ id o. IsStepOrigin spec.rules ts first (term_at after id) o) grown.more grown.more_origins grown.each i x.0 o x.1 e)

          old_at : (place : ℕ) (t : Term) → place < length ids → slice_get (terms_in after ids') place ≡ Some t → slice_get ts place ≡ Some t
          old_at place t l is = ⊎_elim (λ h. h.1) (λ h. absurd (omega (arith, l, h.1, length-terms_in terms ids))) (at_cases ts news place t (ap (λ xs. slice_get xs place) (sym all_are) ∙ is))

          depth : (place : ℕ) → place < length ids' → (n : ℕ) × (n ≤ j + 1) × ComesFrom spec.rules (ts ++ news) (os ++ grown.more_origins) place n
          depth place l =
              let x = at (ids ++ grown.more) place (omega (arith, l, ap length grown.ids_are)) in ⊎_elim
              (λ h. let d = level.depths place h.0 in (d.0, omega (arith, d.1), comes_stays spec.rules ts news os grown.more_origins place d.0 d.2))
              (λ h.
              let y = at grown.more_origins h.0 (let w = slice_get_within grown.more h.0 x.0 h.2 in omega (arith, w, zips)) in
              let p = zip_at (λ id o. IsStepOrigin spec.rules ts first (term_at after id) o) grown.more grown.more_origins grown.each h.0 x.0 y.0 h.2 y.1 in
              let w = slice_get_within ts p.origin.parent p.from p.is_from in
              let d = level.depths p.origin.parent (omega (arith, w, length-terms_in terms ids)) in (
                d.0 + 1,
                omega (arith, d.1),
                ComesFrom.step place d.0 (term_at after x.0) y.0
                    (ap (slice_get (ts ++ news)) (h.1 ∙ ap (λ n. n + h.0) (sym (length-terms_in terms ids))) ∙ at_back ts news h.0 (term_at after x.0) (at_map (term_at after) grown.more h.0 x.0 h.2))
                    (ap (slice_get (os ++ grown.more_origins)) (h.1 ∙ ap (λ n. n + h.0) (sym level.count)) ∙ at_back os grown.more_origins h.0 y.0 y.1)
                    (origin_from spec.rules ts news first (term_at after x.0) y.0 p)
                    (omega (arith, w, length-terms_in terms ids, h.1))
                    (comes_stays spec.rules ts news os grown.more_origins p.origin.parent d.0 d.2),
              ))
              (at_cases ids grown.more place x.0 x.1)

    pub too_large : GrowsLarge spec.rules ts first → IsOver spec options (j + 1)
    too_large h = inr (inr (record {
      member = h.to;
      has = (reached_by_levels spec options.height j h.to).1 (inr (record { from = h.from; reached = reached h.place h.from h.is_from; step = h.step }));
      large = h.large;
    }))

  pub found_at : AcceptedTermsAreOver → (d : Derivation) → j ≤ options.steps → IsHit spec ts os first d → SearchAnswer spec options (Found d)
  found_at accepted_terms_are_over d l hit =
      let depth = level.depths hit.place (let w = slice_get_within ts hit.place hit.term hit.is_term in omega (arith, w, length-terms_in terms ids)) in
      let derived = hit.derives depth.0 depth.2 in
      let same = same_some derived.last hit.term (sym derived.is_last ∙ hit.is_term) in
      let reaches = comes_reached spec options.height ts os level.starts hit.place depth.0 depth.2 hit.term hit.is_term in
      let begins = level.starts derived.first d.start derived.is_first derived.no_origin in
      ⊎_elim
      (λ less. absurd ((level.goes depth.0 less).1 (record { term = hit.term; reached = reaches; forbidden = forbidden hit })))
      (λ exact. let count : length d.steps ≡ j = derived.count ∙ exact in
      SearchAnswer.found d (omega (arith, l, count)) (subst (GoesOnTo spec options) (sym count) level.goes) (λ o. within (subst (IsOver spec options) count o)) begins.low
      (record { starts = begins.language; steps = derived.steps; last = derived.last; leads = derived.leads; forbidden = subst (Forbidden spec) (sym same) (forbidden hit) }))
      (last_or depth.0 j (omega (arith, depth.1)))
    where
      forbidden : (h : IsHit spec ts os first d) → Forbidden spec h.term
      forbidden h = record { over = accepted_terms_are_over spec.signature spec.forbidden spec.forbidden_over h.term h.accepted; accepted = h.accepted }

pub level_zero : (spec : Spec) (options : Options) (terms : List Term) (starts ids : List ℕ) (os : List (Option Origin)) → IsStore terms → AreStarts spec options terms starts → ((id : ℕ) → Contains ids id ↔ Contains starts id) → length ids ≤ length starts → length os ≡ length ids → All (λ o. o ≡ None) os → IsLevel spec options 0 terms ids os 0
level_zero spec options terms starts ids os store are same few count nowhere = record {
  store = store;
  there = all_from_members (λ a. a < length terms) ids (λ x c. All-contains (λ a. a < length terms) starts x are.there ((same x).0 c));
  older = [];
  last = terms_in terms ids;
  split = refl;
  first_is = refl;
  levels = first_level spec options.height (terms_in terms ids) exact;
  few = omega (arith, few, are.few);
  fits = are.fits;
  goes = λ i l. absurd (omega (arith, l));
  tested = λ k d l. absurd (omega (arith, l));
  count = count;
  earlier = λ place o e. none_some o (sym (All-contains (λ o. o ≡ None) os (Some o) nowhere (is_member os place (Some o) e)));
  starts = λ place t is e. (exact t).0 (is_member (terms_in terms ids) place t is);
  depths = λ place l. (0, omega arith, ComesFrom.start place (at os place (omega (arith, l, count)) nowhere));
}
  where
    exact : (t : Term) → Contains (terms_in terms ids) t ↔ IsStart spec options.height t
    exact t = (
      λ c. let h = term_of terms ids t c in (are.exact t).0 (subst (Contains (terms_in terms starts)) h.2 (in_terms terms starts h.0 ((same h.0).0 h.1))),
      λ s. let h = term_of terms starts t ((are.exact t).1 s) in subst (Contains (terms_in terms ids)) h.2 (in_terms terms ids h.0 ((same h.0).1 h.1)),
    )

    at : (os : List (Option Origin)) (i : ℕ) → i < length os → All (λ o. o ≡ None) os → slice_get os i ≡ Some None
    at [] i l h = absurd (omega (arith, l))
    at (o ∷ os) zero l h = ap Some (h 0 None (omega arith))
    at (o ∷ os) (suc i) l h = at os i (omega (arith, l)) (λ k d m. h (suc k) d (omega (arith, m)))
