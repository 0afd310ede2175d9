-- Steps inside an argument, over the places of terms.
use Rattle.std.proofs.Common.{◌≡◌, ℕ, zero, suc, ◌+◌, ◌<◌, List, [], ◌∷◌, ◌++◌, map, length, take, drop, get_or, set, refl, sym, ap, subst, ◌∙◌, arith}
use Rattle.std.proofs.lemmas.List.Sums.{sum-map, sum_by-append}
use Rattle.ranked_terms.specs.Terms.{node, size_of}
use Rattle.ranked_terms.specs.declared.term.Term.{Term}
use Rattle.ranked_terms.specs.lemmas.TermLaws.{node_args, node_sym, size_node}
use Rattle.trs_rules.specs.Rules.{RewriteRule}
use Rattle.trs_rules.specs.Steps.{StepAt}
use Rattle.term_store.specs.Store.{term_at, applied}

module _ {X Y : Type 0} (f : X → Y) where
  split_at : (xs : List X) (k : ℕ) (d : X) → k < length xs → map f xs ≡ map f (take k xs) ++ f (get_or xs k d) ∷ map f (drop (suc k) xs)
  split_at [] k d l = absurd (omega (arith, l))
  split_at (x ∷ xs) zero d l = refl
  split_at (x ∷ xs) (suc k) d l = ap (λ ys. f x ∷ ys) (split_at xs k d (omega (arith, l)))

  split_set : (xs : List X) (k : ℕ) (y : X) → k < length xs → map f (set xs k y) ≡ map f (take k xs) ++ f y ∷ map f (drop (suc k) xs)
  split_set [] k y l = absurd (omega (arith, l))
  split_set (x ∷ xs) zero y l = refl
  split_set (x ∷ xs) (suc k) y l = ap (λ ys. f x ∷ ys) (split_set xs k y (omega (arith, l)))

  -- a list that is cut at one place
  same_cut : (xs : List X) (k : ℕ) (d : X) (before : List Y) (u : Y) (after : List Y) → map f xs ≡ before ++ u ∷ after → k ≡ length before → (k < length xs) × (f (get_or xs k d) ≡ u) × (map f (take k xs) ≡ before) × (map f (drop (suc k) xs) ≡ after)
  same_cut [] k d [] u after e n = cc
  same_cut [] k d (b ∷ before) u after e n = cc
  same_cut (x ∷ xs) zero d [] u after e n = (omega arith, cc, refl, cc)
  same_cut (x ∷ xs) (suc k) d [] u after e n = absurd (omega (arith, n))
  same_cut (x ∷ xs) zero d (b ∷ before) u after e n = absurd (omega (arith, n))
  same_cut (x ∷ xs) (suc k) d (b ∷ before) u after e n =
      let h : f x ≡ b = cc in
      let t : map f xs ≡ before ++ u ∷ after = cc in
      let r = same_cut xs k d before u after t (omega (arith, n)) in
      (omega (arith, r.0), r.1, (λ i. h i ∷ r.2 i), r.3)

  length-front : (xs : List X) (k : ℕ) → k < length xs → length (map f (take k xs)) ≡ k
  length-front [] k l = absurd (omega (arith, l))
  length-front (x ∷ xs) zero l = refl
  length-front (x ∷ xs) (suc k) l = ap suc (length-front xs k (omega (arith, l)))

module _ (R : List RewriteRule) (terms : List Term) (f : ℕ) (args : List ℕ) where
  -- a step from an argument is a step from the term
  pub lifted_step : (i : ℕ) (position : List ℕ) (k x : ℕ) → k < length args → StepAt R i position (term_at terms (get_or args k 0)) (term_at terms x) → StepAt R i ((k + 1) ∷ position) (applied terms f args) (applied terms f (set args k x))
  lifted_step i position k x l h = record {
    sym = f;
    before = map (term_at terms) (take k args);
    u = term_at terms (get_or args k 0);
    v = term_at terms x;
    after = map (term_at terms) (drop (suc k) args);
    place = ap (λ n. n + 1) (sym (length-front (term_at terms) args k l));
    from = ap (node f) (split_at (term_at terms) args k 0 l);
    to = ap (node f) (split_set (term_at terms) args k x l);
    changes = h;
  }

  -- and each step inside is one from an argument
  pub record Lowered (i n : ℕ) (position : List ℕ) (t : Term) : Type 0 where
    pub place : ℕ
    pub within : place < length args
    pub number : n ≡ place + 1
    pub to : Term
    pub step : StepAt R i position (term_at terms (get_or args place 0)) to
    pub is : (x : ℕ) → term_at terms x ≡ to → applied terms f (set args place x) ≡ t
    pub inside : size_of to < size_of t

  inside_is_smaller : (g : ℕ) (before after : List Term) (v : Term) → size_of v < size_of (node g (before ++ v ∷ after))
  inside_is_smaller g before after v = omega (arith, size_node g (before ++ v ∷ after), sum-map size_of (before ++ v ∷ after), sum_by-append size_of before (v ∷ after), sum_by-append size_of (v ∷ []) after)

  pub lowered : (i n : ℕ) (position : List ℕ) (t : Term) → StepAt R i (n ∷ position) (applied terms f args) t → Lowered i n position t
  lowered i n position t h =
      let e = node_args f h.sym _ _ h.from in
      let g = node_sym f h.sym _ _ h.from in
      let c = same_cut (term_at terms) args (length h.before) 0 h.before h.u h.after e refl in
      record {
        place = length h.before;
        within = c.0;
        number = h.place;
        to = h.v;
        step = subst (λ u. StepAt R i position u h.v) (sym c.1) h.changes;
        is = λ x is. ap (node f) (split_set (term_at terms) args (length h.before) x c.0 ∙ (λ j. c.2 j ++ is j ∷ c.3 j)) ∙ (ap (λ g. node g (h.before ++ h.v ∷ h.after)) g ∙ sym h.to);
        inside = subst (λ t. size_of h.v < size_of t) (sym h.to) (inside_is_smaller h.sym h.before h.after h.v);
      }

  -- a step from an argument to a large term is a step from the term to a larger one
  pub record Raised (i : ℕ) (position : List ℕ) (v : Term) : Type 0 where
    pub to : Term
    pub step : StepAt R i position (applied terms f args) to
    pub larger : size_of v < size_of to

  pub raised : (i : ℕ) (position : List ℕ) (k : ℕ) (v : Term) → k < length args → StepAt R i position (term_at terms (get_or args k 0)) v → Raised i ((k + 1) ∷ position) v
  raised i position k v l h =
      let before = map (term_at terms) (take k args) in
      let after = map (term_at terms) (drop (suc k) args) in
      record {
        to = node f (before ++ v ∷ after);
        step = record {
          sym = f;
          before = before;
          u = term_at terms (get_or args k 0);
          v = v;
          after = after;
          place = ap (λ n. n + 1) (sym (length-front (term_at terms) args k l));
          from = ap (node f) (split_at (term_at terms) args k 0 l);
          to = refl;
          changes = h;
        };
        larger = inside_is_smaller f before after v;
      }
