-- Rules over a signature keep terms over it.
use Rattle.std.proofs.Common.{◌≡◌, ℕ, zero, suc, ◌-◌, ◌<◌, Bool, true, false, ◌&&◌, IsTrue, List, [], ◌∷◌, ◌++◌, map, length, get_or, slice_get, Some, refl, sym, subst, arith, length-append}
use Rattle.std.specs.List.{All, AllByRecursion, Contains, list_all}
use Rattle.std.proofs.lemmas.List.{length-map}
use Rattle.std.proofs.lemmas.Option.{slice_get_within, get_or_from_slice_get}
use Rattle.ranked_terms.specs.Names.{Symbol}
use Rattle.ranked_terms.specs.Terms.{is_over, is_symbol, pattern_is_over, instance_of, joined, occurrences}
use Rattle.ranked_terms.specs.declared.term.Term.{Term}
use Rattle.ranked_terms.specs.declared.term.Pattern.{Pattern}
use Rattle.ranked_terms.specs.declared.term.Pattern.TheVariants.{Var, App}
use Rattle.trs_rules.specs.Rules.{RewriteRule}
use Rattle.trs_rules.specs.Steps.{RootStep, Step, at_root, inside, Chain, more}
use Rattle.trs_rules.specs.Laws.{IsRuleOver, StepsStayOver, ChainsStayOver}
use Rattle.ranked_terms.specs.lemmas.TermLaws.{pattern_induction, occurrences_var, occurrences_app, instance_var, instance_app, over_app, over_node}

-- ---- tests of a list

both_left : (a b : Bool) → IsTrue (a && b) → IsTrue a
both_left true b h = refl
both_left false b h = h

both_right : (a b : Bool) → IsTrue (a && b) → IsTrue b
both_right true b h = h
both_right false b h = cc

both : (a b : Bool) → IsTrue a → IsTrue b → IsTrue (a && b)
both true b h k = k
both false b h k = h

-- ---- elements

Each-append : {A : Type 0} (P : A → Type 0) (xs ys : List A) → AllByRecursion P xs → AllByRecursion P ys → AllByRecursion P (xs ++ ys)
Each-append P [] ys h k = k
Each-append P (x ∷ xs) ys h k = (h.0, Each-append P xs ys h.1 k)

Each-left : {A : Type 0} (P : A → Type 0) (xs ys : List A) → AllByRecursion P (xs ++ ys) → AllByRecursion P xs
Each-left P [] ys h = tt
Each-left P (x ∷ xs) ys h = (h.0, Each-left P xs ys h.1)

Each-right : {A : Type 0} (P : A → Type 0) (xs ys : List A) → AllByRecursion P (xs ++ ys) → AllByRecursion P ys
Each-right P [] ys h = h
Each-right P (x ∷ xs) ys h = Each-right P xs ys h.1

pub Each-at : {A : Type 0} (P : A → Type 0) (xs : List A) (k : ℕ) (x : A) → k < length xs → get_or xs k x ≡ x → AllByRecursion P xs → P x
Each-at P [] k x lt e h = absurd (omega arith)
Each-at P (y ∷ xs) zero x lt e h = subst P e h.0
Each-at P (y ∷ xs) (suc k) x lt e h = Each-at P xs k x (omega arith) e h.1

pub Each-from : {A : Type 0} (P : A → Type 0) (xs : List A) → ((x : A) → Contains xs x → P x) → AllByRecursion P xs
Each-from P [] h = tt
Each-from P (x ∷ xs) h = (h x (0, omega arith, refl), Each-from P xs (λ y c. h y (suc c.0, omega (arith, c.1), c.2)))

-- ---- instances

abbrev IsOverAt : List Symbol → (ℕ → Term) → ℕ → Type 0
IsOverAt signature θ v = IsTrue (is_over signature (θ v))

module _ (signature : List Symbol) (θ : ℕ → Term) where
  abbrev Binds : Pattern → Type 0
  Binds p = IsTrue (is_over signature (instance_of θ p)) → AllByRecursion (IsOverAt signature θ) (occurrences p)

  binds_var : (v : ℕ) → Binds (Var v)
  binds_var v h =
      let k : IsOverAt signature θ v = subst (λ t. IsTrue (is_over signature t)) (instance_var θ v) h in
      subst (AllByRecursion (IsOverAt signature θ)) (sym (occurrences_var v)) (k, tt)

  binds_all : (ps : List Pattern) → AllByRecursion Binds ps → IsTrue (list_all (λ b. b) (map (is_over signature) (map (instance_of θ) ps))) → AllByRecursion (IsOverAt signature θ) (joined (map occurrences ps))
  binds_all [] hs k = tt
  binds_all (p ∷ ps) hs k =
      let a = is_over signature (instance_of θ p) in
      let b = list_all (λ b. b) (map (is_over signature) (map (instance_of θ) ps)) in
      Each-append (IsOverAt signature θ) (occurrences p) (joined (map occurrences ps)) (hs.0 (both_left a b k)) (binds_all ps hs.1 (both_right a b k))

  binds_app : (f : ℕ) (ps : List Pattern) → AllByRecursion Binds ps → Binds (App f ps)
  binds_app f ps hs k =
      let ts = map (instance_of θ) ps in
      let h : IsTrue (is_symbol signature f (length ts) && list_all (λ b. b) (map (is_over signature) ts)) =
      subst IsTrue (over_node signature f ts) (subst (λ t. IsTrue (is_over signature t)) (instance_app θ f ps) k) in
      subst (AllByRecursion (IsOverAt signature θ)) (sym (occurrences_app f ps)) (binds_all ps hs (both_right (is_symbol signature f (length ts)) (list_all (λ b. b) (map (is_over signature) ts)) h))

  -- what an instance over the signature binds is over it
  pub instance_binds : (p : Pattern) → Binds p
  instance_binds = pattern_induction Binds binds_var binds_app

  abbrev Builds : Pattern → Type 0
  Builds p = IsTrue (pattern_is_over signature p) → AllByRecursion (IsOverAt signature θ) (occurrences p) → IsTrue (is_over signature (instance_of θ p))

  builds_var : (v : ℕ) → Builds (Var v)
  builds_var v o h =
      let k : AllByRecursion (IsOverAt signature θ) (v ∷ []) = subst (AllByRecursion (IsOverAt signature θ)) (occurrences_var v) h in
      subst (λ t. IsTrue (is_over signature t)) (sym (instance_var θ v)) k.0

  builds_all : (ps : List Pattern) → AllByRecursion Builds ps → IsTrue (list_all (λ b. b) (map (pattern_is_over signature) ps)) → AllByRecursion (IsOverAt signature θ) (joined (map occurrences ps)) →
      IsTrue (list_all (λ b. b) (map (is_over signature) (map (instance_of θ) ps)))
  builds_all [] hs o k = refl
  builds_all (p ∷ ps) hs o k =
      let a = pattern_is_over signature p in
      let b = list_all (λ b. b) (map (pattern_is_over signature) ps) in
      both (is_over signature (instance_of θ p)) (list_all (λ b. b) (map (is_over signature) (map (instance_of θ) ps)))
      (hs.0 (both_left a b o) (Each-left (IsOverAt signature θ) (occurrences p) (joined (map occurrences ps)) k))
      (builds_all ps hs.1 (both_right a b o) (Each-right (IsOverAt signature θ) (occurrences p) (joined (map occurrences ps)) k))

  builds_app : (f : ℕ) (ps : List Pattern) → AllByRecursion Builds ps → Builds (App f ps)
  builds_app f ps hs o k =
      let ts = map (instance_of θ) ps in
      let a = is_symbol signature f (length ps) in
      let b = list_all (λ b. b) (map (pattern_is_over signature) ps) in
      let h : IsTrue (a && b) = subst IsTrue (over_app signature f ps) o in
      let s : IsTrue (is_symbol signature f (length ts)) = subst (λ n. IsTrue (is_symbol signature f n)) (sym (length-map ps (instance_of θ))) (both_left a b h) in
      let all = builds_all ps hs (both_right a b h) (subst (AllByRecursion (IsOverAt signature θ)) (occurrences_app f ps) k) in
      subst (λ t. IsTrue (is_over signature t)) (sym (instance_app θ f ps))
      (subst IsTrue (sym (over_node signature f ts)) (both (is_symbol signature f (length ts)) (list_all (λ b. b) (map (is_over signature) ts)) s all))

  -- a pattern over the signature has an instance over it, where all that it binds is over it
  pub instance_builds : (p : Pattern) → Builds p
  instance_builds = pattern_induction Builds builds_var builds_app

-- ---- steps

rule_over : (signature : List Symbol) (R : List RewriteRule) (i : ℕ) (rule : RewriteRule) → slice_get R i ≡ Some rule → All (IsRuleOver signature) R → IsRuleOver signature rule
rule_over signature R i rule e h =
    subst (IsRuleOver signature) (get_or_from_slice_get R i rule rule e) (h i rule (slice_get_within R i rule e))

root_over : (signature : List Symbol) (R : List RewriteRule) (i : ℕ) (s t : Term) → All (IsRuleOver signature) R → IsTrue (is_over signature s) → RootStep R i s t → IsTrue (is_over signature t)
root_over signature R i s t all over h =
    let r : IsRuleOver signature h.rule = rule_over signature R i h.rule h.is_rule all in
    let P : ℕ → Type 0 = IsOverAt signature h.θ in
    let left : AllByRecursion P (occurrences h.rule.left) = instance_binds signature h.θ h.rule.left (subst (λ x. IsTrue (is_over signature x)) h.from over) in
    let right : AllByRecursion P (occurrences h.rule.right) = Each-from P (occurrences h.rule.right) (λ v c. let d = r.is_rule.right_is_bound v c in Each-at P (occurrences h.rule.left) d.0 v d.1 d.2 left) in
    subst (λ x. IsTrue (is_over signature x)) (sym h.to) (instance_builds signature h.θ h.rule.right r.right_is_over right)

-- one argument among others
argument_over : (g : Term → Bool) (u : Term) (before after : List Term) → IsTrue (list_all (λ b. b) (map g (before ++ u ∷ after))) → IsTrue (g u)
argument_over g u [] after h = both_left (g u) (list_all (λ b. b) (map g after)) h
argument_over g u (x ∷ before) after h = argument_over g u before after (both_right (g x) (list_all (λ b. b) (map g (before ++ u ∷ after))) h)

changed_over : (g : Term → Bool) (u v : Term) (before after : List Term) → IsTrue (list_all (λ b. b) (map g (before ++ u ∷ after))) → IsTrue (g v) → IsTrue (list_all (λ b. b) (map g (before ++ v ∷ after)))
changed_over g u v [] after h k = both (g v) (list_all (λ b. b) (map g after)) k (both_right (g u) (list_all (λ b. b) (map g after)) h)
changed_over g u v (x ∷ before) after h k =
    let a = g x in
    let b = list_all (λ b. b) (map g (before ++ u ∷ after)) in
    both a (list_all (λ b. b) (map g (before ++ v ∷ after))) (both_left a b h) (changed_over g u v before after (both_right a b h) k)

step_over : (signature : List Symbol) (R : List RewriteRule) → All (IsRuleOver signature) R → {s t : Term} → Step R s t → IsTrue (is_over signature s) → IsTrue (is_over signature t)
step_over signature R all (at_root {s = s} {t = t} i h) over = root_over signature R i s t all over h
step_over signature R all (inside {u = u} {v = v} f before after h) over =
    let old = before ++ u ∷ after in
    let new = before ++ v ∷ after in
    let same : length old ≡ length new = omega (arith, length-append before (u ∷ after), length-append before (v ∷ after)) in
    let k : IsTrue (is_symbol signature f (length old) && list_all (λ b. b) (map (is_over signature) old)) = subst IsTrue (over_node signature f old) over in
    let a = is_symbol signature f (length old) in
    let b = list_all (λ b. b) (map (is_over signature) old) in
    let h' = step_over signature R all h (argument_over (is_over signature) u before after (both_right a b k)) in
    subst IsTrue (sym (over_node signature f new)) (both (is_symbol signature f (length new)) (list_all (λ b. b) (map (is_over signature) new))
    (subst (λ n. IsTrue (is_symbol signature f n)) same (both_left a b k)) (changed_over (is_over signature) u v before after (both_right a b k) h'))

pub steps_stay_over : StepsStayOver
steps_stay_over signature R s t all over h = step_over signature R all h over

chain_over : (signature : List Symbol) (R : List RewriteRule) → All (IsRuleOver signature) R → (x : Term) (ts : List Term) → Chain R (x ∷ ts) → IsTrue (is_over signature x) → AllByRecursion (λ t. IsTrue (is_over signature t)) (x ∷ ts)
chain_over signature R all x [] c over = (over, tt)
chain_over signature R all x (y ∷ ts) (more h c) over = (over, chain_over signature R all y ts c (step_over signature R all h over))

over_at : (signature : List Symbol) (R : List RewriteRule) → All (IsRuleOver signature) R → (ts : List Term) (s t : Term) (k : ℕ) → Chain R ts → slice_get ts 0 ≡ Some s → slice_get ts k ≡ Some t → IsTrue (is_over signature s) → IsTrue (is_over signature t)
over_at signature R all [] s t k c b e over = cc
over_at signature R all (x ∷ ts) s t k c b e over =
    let h : s ≡ x = cc in
    Each-at (λ y. IsTrue (is_over signature y)) (x ∷ ts) k t (slice_get_within (x ∷ ts) k t e) (get_or_from_slice_get (x ∷ ts) k t t e)
    (chain_over signature R all x ts c (subst (λ y. IsTrue (is_over signature y)) h over))

pub chains_stay_over : ChainsStayOver
chains_stay_over signature R s t all over c = over_at signature R all c.terms s t (length c.terms - 1) c.chain c.begins c.ends over
