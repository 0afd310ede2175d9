-- What instances depend on, and that they are over a signature.
-- Nobody has to believe this: it is proved, for the proofs of the crates above.
use Rattle.std.proofs.Common.{◌≡◌, ℕ, Bool, true, ◌&&◌, List, [], ◌∷◌, ◌++◌, map, length, All, refl, sym, ap, subst, ◌∙◌}
use Rattle.std.specs.List.{AllByRecursion, list_all}
use Rattle.std.specs.Cmp.{first_so, second_so}
use Rattle.std.proofs.lemmas.List.{length-map}
use Rattle.std.proofs.lemmas.List.Elements.{recursion_from_All}
use Rattle.std.proofs.lemmas.List.Folds.{list_all-map}
use Rattle.ranked_terms.specs.Names.{Symbol}
use Rattle.ranked_terms.specs.Terms.{node, is_symbol, is_over, pattern_is_over, instance_of, assigned, joined, occurrences}
use Rattle.ranked_terms.specs.declared.term.Term.{Term}
use Rattle.ranked_terms.specs.declared.term.Pattern.{Pattern}
use Rattle.ranked_terms.specs.declared.term.Pattern.TheVariants.{Var, App}
use Rattle.ranked_terms.specs.declared.term.Config.TheVariants as config
use Rattle.ranked_terms.specs.lemmas.TermLaws.{is_over_node, pattern_induction, instance_var, instance_app, assigned_var, assigned_app, occurrences_var, occurrences_app, pattern_is_over_app}

-- ---- over a signature

pub both : (a b : Bool) → a ≡ true → b ≡ true → (a && b) ≡ true
both a b e h = λ i. e i && h i

-- each element that passes one test passes the other
pub along : {X : Type 0} (p q : X → Bool) (xs : List X) → AllByRecursion (λ x. p x ≡ true → q x ≡ true) xs → list_all p xs ≡ true → list_all q xs ≡ true
along p q [] h e = refl
along p q (x ∷ xs) h e =
    both (q x) (list_all q xs) (h.0 (first_so (p x) (list_all p xs) e)) (along p q xs h.1 (second_so (p x) (list_all p xs) e))

-- ---- what an instance depends on

module _ (R : ℕ → Type 0) where
  parts : (xs ys : List ℕ) → AllByRecursion R (xs ++ ys) → AllByRecursion R xs × AllByRecursion R ys
  parts [] ys h = (tt, h)
  parts (x ∷ xs) ys h = let p = parts xs ys h.1 in ((h.0, p.0), p.1)

  -- two functions by cases that agree at each variable of a pattern agree at it
  module _ {A : Type 0} (F G : Pattern → A) (var : (v : ℕ) → R v → F (Var v) ≡ G (Var v))
      (app : (f : ℕ) (ps : List Pattern) → map F ps ≡ map G ps → F (App f ps) ≡ G (App f ps)) where
    abbrev Agrees : Pattern → Type 0
    Agrees p = AllByRecursion R (occurrences p) → F p ≡ G p

    all_agree : (ps : List Pattern) → AllByRecursion Agrees ps → AllByRecursion R (joined (map occurrences ps)) → map F ps ≡ map G ps
    all_agree [] each h = refl
    all_agree (p ∷ ps) each h =
        let at = parts (occurrences p) (joined (map occurrences ps)) h in
        λ i. each.0 at.0 i ∷ all_agree ps each.1 at.1 i

    agrees : (p : Pattern) → Agrees p
    agrees = pattern_induction Agrees
        (λ v h. var v (subst (AllByRecursion R) (occurrences_var v) h).0)
        (λ f ps each h. app f ps (all_agree ps each (subst (AllByRecursion R) (occurrences_app f ps) h)))

pub instance_of-agree : (θ η : ℕ → Term) (p : Pattern) → All (λ v. θ v ≡ η v) (occurrences p) → instance_of θ p ≡ instance_of η p
instance_of-agree θ η p h =
    agrees (λ v. θ v ≡ η v) (instance_of θ) (instance_of η)
    (λ v e. instance_var θ v ∙ (e ∙ sym (instance_var η v)))
    (λ f ps e. instance_app θ f ps ∙ (ap (node f) e ∙ sym (instance_app η f ps)))
    p (recursion_from_All (λ v. θ v ≡ η v) (occurrences p) h)

pub assigned-agree : (σ τ : ℕ → ℕ) (p : Pattern) → All (λ v. σ v ≡ τ v) (occurrences p) → assigned σ p ≡ assigned τ p
assigned-agree σ τ p h =
    agrees (λ v. σ v ≡ τ v) (assigned σ) (assigned τ)
    (λ v e. assigned_var σ v ∙ (ap config.State e ∙ sym (assigned_var τ v)))
    (λ f ps e. assigned_app σ f ps ∙ (ap (config.App f) e ∙ sym (assigned_app τ f ps)))
    p (recursion_from_All (λ v. σ v ≡ τ v) (occurrences p) h)

-- ---- instances over a signature

module _ (s : List Symbol) (θ : ℕ → Term) where
  abbrev IsGood : ℕ → Type 0
  IsGood v = is_over s (θ v) ≡ true

  abbrev StaysOver : Pattern → Type 0
  StaysOver p = AllByRecursion IsGood (occurrences p) → pattern_is_over s p ≡ true → is_over s (instance_of θ p) ≡ true

  each_over : (ps : List Pattern) → AllByRecursion StaysOver ps → AllByRecursion IsGood (joined (map occurrences ps)) → AllByRecursion (λ p. pattern_is_over s p ≡ true → is_over s (instance_of θ p) ≡ true) ps
  each_over [] each h = tt
  each_over (p ∷ ps) each h =
      let at = parts IsGood (occurrences p) (joined (map occurrences ps)) h in
      (each.0 at.0, each_over ps each.1 at.1)

  app_over : (f : ℕ) (ps : List Pattern) → AllByRecursion StaysOver ps → StaysOver (App f ps)
  app_over f ps each h over =
      let good = subst (AllByRecursion IsGood) (occurrences_app f ps) h in
      let symbol = is_symbol s f (length ps) in
      let k : (is_symbol s f (length ps) && list_all (pattern_is_over s) ps) ≡ true = sym (pattern_is_over_app s f ps) ∙ over in
      let all : list_all (λ p. is_over s (instance_of θ p)) ps ≡ true = along (pattern_is_over s) (λ p. is_over s (instance_of θ p)) ps (each_over ps each good) (second_so (is_symbol s f (length ps)) (list_all (pattern_is_over s) ps) k) in
      ap (is_over s) (instance_app θ f ps) ∙ (is_over_node s f (map (instance_of θ) ps)
      ∙ ((λ i. is_symbol s f (length-map ps (instance_of θ) i) && list_all-map (is_over s) (instance_of θ) ps i)
      ∙ both (is_symbol s f (length ps)) (list_all (λ p. is_over s (instance_of θ p)) ps) (first_so (is_symbol s f (length ps)) (list_all (pattern_is_over s) ps) k) all))

  pub instance_of-over : (p : Pattern) → pattern_is_over s p ≡ true → All IsGood (occurrences p) → is_over s (instance_of θ p) ≡ true
  instance_of-over p over h =
      pattern_induction StaysOver
      (λ v g o. ap (is_over s) (instance_var θ v) ∙ (subst (AllByRecursion IsGood) (occurrences_var v) g).0)
      app_over p (recursion_from_All IsGood (occurrences p) h) over
