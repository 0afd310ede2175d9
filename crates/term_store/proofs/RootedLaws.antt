-- Matching over the terms of a store, instances made there, and the steps at the root.
use Rattle.std.proofs.Common.{◌≡◌, ◌≢◌, ◌↔◌, ◌⊎◌, ℕ, zero, suc, ◌+◌, ◌<◌, ◌≤◌, Bool, true, false, ◌==◌, if◌then◌else◌, List, [], ◌∷◌, ◌++◌, map, length, take, drop, get_or, slice_get, Option, Some, None, refl, sym, ap, subst, ◌∙◌, inl, inr, ⊎_elim, arith, sum_by}
use Rattle.std.specs.Prelude.{MatchBool}
use Rattle.std.specs.List.{All, Contains}
use Rattle.std.proofs.lemmas.Bool.{eqb-true, eq-eqb}
use Rattle.std.proofs.Math.ListN.{get_or-map}
use Rattle.std.proofs.lemmas.List.{get_or_default, drop_more, take_more, take_all, drop_all, length-map}
use Rattle.std.proofs.lemmas.List.Sums.{sum-map, sum_by_more_le}
use Rattle.std.proofs.lemmas.List.Elements.{All-contains, All-head, All-tail, All-cons, All-weaker, Contains-append_left, Contains-append_right, Contains-push, Contains-push_cases}
use Rattle.std.proofs.lemmas.Option.{get_or_from_slice_get, slice_get_within}
use Rattle.ranked_terms.specs.Terms.{node, size_of, instance_of, occurrences, joined}
use Rattle.ranked_terms.specs.declared.term.Term.{Term}
use Rattle.ranked_terms.specs.declared.term.Pattern.{Pattern}
use Rattle.ranked_terms.specs.declared.term.Pattern.TheVariants.{Var, App}
use Rattle.ranked_terms.specs.lemmas.TermLaws.{instance_var, occurrences_var, instance_app, size_node, node_args, node_sym}
use Rattle.ranked_terms.specs.lemmas.InstanceLaws.{instance_of-agree}
use Rattle.ranked_terms.specs.lemmas.VariableLaws.{occurrences-in_variables_of}
use Rattle.trs_rules.specs.Rules.{RewriteRule, IsRule}
use Rattle.trs_rules.specs.Steps.{RootStep, StepAt}
use Rattle.list_laws.proofs.Members.{parts, none}
use Rattle.list_laws.proofs.Members.{all_from_members}
use Rattle.ranked_terms.specs.Matching.{IsBoundBy, IsRefused, binding_of, bound_in, lookup, or_constant}
use Rattle.term_store.proofs.MatchingLaws.{agrees_at, bind_found, bind_new, mismatch, MatchedAll, all_step, all_whole, all_refused, matched_instance}
use Rattle.term_store.specs.Store.{term_at, applied, IsStore, Keeps}
use Rattle.term_store.specs.Found.{IsFound, HasTerm, IsUpTo, AreFoundUpTo, StepsToLarge}
use Rattle.term_store.specs.Rooted.{id_of, named, AreIds, IsMatch, IsNoMatch, instance_by, AreFoundBy}
use Rattle.term_store.specs.Index.{HasRoot, IsIndexOf}
use Rattle.term_store.specs.declared.found.Found.{Found}
use Rattle.term_store.proofs.StoreLaws.{below}
use Rattle.term_store.proofs.StepsLaws.{term_at_stays, applied_stays, found_stays}
use Rattle.term_store.proofs.FoundLaws.{length-keeps}

-- the variables of the arguments from one on
args_more : (ps : List Pattern) (i : ℕ) (p : Pattern) → i < length ps → p ≡ get_or ps i p →
    joined (map occurrences (drop i ps)) ≡ occurrences p ++ joined (map occurrences (drop (i + 1) ps))
args_more ps i p lt is =
    ap (λ qs. joined (map occurrences qs)) (drop_more ps i p lt) ∙ ap (λ q. occurrences q ++ joined (map occurrences (drop (i + 1) ps))) (sym is)

-- ---- bindings

if_true : {A : Type 0} (b : Bool) (x y : A) → b ≡ true → (if b then x else y) ≡ x
if_true true x y h = refl
if_true false x y h = cc

if_false : {A : Type 0} (b : Bool) (x y : A) → (b ≡ true → ⊥) → (if b then x else y) ≡ y
if_false true x y h = absurd (h refl)
if_false false x y h = refl

pub found_here : (b : List (ℕ × ℕ)) (i v : ℕ) (d : ℕ × ℕ) → i < length b → (get_or b i d).0 ≡ v → id_of (drop i b) v ≡ id_of b v → Some (get_or b i d).1 ≡ id_of b v
found_here b i v d l same h =
    sym (if_true (v == (get_or b i d).0) (Some (get_or b i d).1) (id_of (drop (i + 1) b) v) (eq-eqb v (get_or b i d).0 (sym same))) ∙ (ap (λ c. id_of c v) (sym (drop_more b i d l)) ∙ h)

pub passed : (b : List (ℕ × ℕ)) (i v : ℕ) (d : ℕ × ℕ) → i < length b → (get_or b i d).0 ≢ v → id_of (drop i b) v ≡ id_of b v → id_of (drop (i + 1) b) v ≡ id_of b v
passed b i v d l other h =
    sym (if_false (v == (get_or b i d).0) (Some (get_or b i d).1) (id_of (drop (i + 1) b) v) (λ e. other (sym (eqb-true v (get_or b i d).0 e)))) ∙ (ap (λ c. id_of c v) (sym (drop_more b i d l)) ∙ h)

pub not_found : (b : List (ℕ × ℕ)) (i v : ℕ) → length b ≤ i → id_of (drop i b) v ≡ id_of b v → None ≡ id_of b v
not_found b i v l h = ap (λ c. id_of c v) (sym (drop_all i b l)) ∙ h

choice : {A B : Type 0} (f : A → B) (b : Bool) (x : A) (o : Option A) (p : Option B) → ((a : A) → o ≡ Some a → p ≡ Some (f a)) → (a : A) → (if b then Some x else o) ≡ Some a → (if b then Some (f x) else p) ≡ Some (f a)
choice f true x o p h a e = let q : x ≡ a = cc in ap (λ y. Some (f y)) q
choice f false x o p h a e = h a e

neither : {A B : Type 0} (b : Bool) (x : A) (y : B) (o : Option A) (p : Option B) → (o ≡ None → p ≡ None) → (if b then Some x else o) ≡ None → (if b then Some y else p) ≡ None
neither true x y o p h e = cc
neither false x y o p h e = h e

module _ (terms : List Term) where
  pub lookup_named : (b : List (ℕ × ℕ)) (v id : ℕ) → id_of b v ≡ Some id → lookup (named terms b) v ≡ Some (term_at terms id)
  lookup_named [] v id h = cc
  lookup_named (e ∷ b) v id h = choice (term_at terms) (v == e.0) e.1 (id_of b v) (lookup (named terms b) v) (λ a k. lookup_named b v a k) id h

  pub lookup_none : (b : List (ℕ × ℕ)) (v : ℕ) → id_of b v ≡ None → lookup (named terms b) v ≡ None
  lookup_none [] v h = refl
  lookup_none (e ∷ b) v h = neither (v == e.0) e.1 (term_at terms e.1) (id_of b v) (lookup (named terms b) v) (λ k. lookup_none b v k) h

  named-push : (b : List (ℕ × ℕ)) (e : ℕ × ℕ) → named terms (b ++ e ∷ []) ≡ named terms b ++ (e.0, term_at terms e.1) ∷ []
  named-push [] e = refl
  named-push (x ∷ b) e = ap (λ c. (x.0, term_at terms x.1) ∷ c) (named-push b e)

  AreIds-push : (b : List (ℕ × ℕ)) (e : ℕ × ℕ) → AreIds terms b → e.1 < length terms → AreIds terms (b ++ e ∷ [])
  AreIds-push [] e h l = All-cons (λ (e : ℕ × ℕ). e.1 < length terms) e [] l h
  AreIds-push (x ∷ b) e h l = All-cons (λ (e : ℕ × ℕ). e.1 < length terms) x (b ++ e ∷ []) (All-head (λ (e : ℕ × ℕ). e.1 < length terms) x b h) (AreIds-push b e (All-tail (λ (e : ℕ × ℕ). e.1 < length terms) x b h) l)

  at_hit : (b : Bool) (x n id : ℕ) (o : Option ℕ) → x < n → (o ≡ Some id → id < n) → (if b then Some x else o) ≡ Some id → id < n
  at_hit true x n id o l h e = let q : x ≡ id = cc in subst (λ y. y < n) q l
  at_hit false x n id o l h e = h e

  pub id_there : (b : List (ℕ × ℕ)) (v id : ℕ) → AreIds terms b → id_of b v ≡ Some id → id < length terms
  id_there [] v id h e = cc
  id_there (x ∷ b) v id h e = at_hit (v == x.0) x.1 (length terms) id (id_of b v) (All-head (λ (e : ℕ × ℕ). e.1 < length terms) x b h) (λ k. id_there b v id (All-tail (λ (e : ℕ × ℕ). e.1 < length terms) x b h) k) e

  pub same_ids : IsStore terms → (i j : ℕ) → i < length terms → j < length terms → term_at terms i ≡ term_at terms j → i ≡ j
  same_ids store i j l k e = go (i == j) refl
    where
      go : (b : Bool) → (i == j) ≡ b → i ≡ j
      go true h = eqb-true i j h
      go false h = absurd (apart (order i j (λ q. let x : (i == j) ≡ true = eq-eqb i j q in cc)))
        where
          order : (i j : ℕ) → (i ≡ j → ⊥) → (i < j) ⊎ (j < i)
          order zero zero n = absurd (n refl)
          order zero (suc j) n = inl (omega arith)
          order (suc i) zero n = inr (omega arith)
          order (suc i) (suc j) n = ⊎_elim (λ l. inl (omega (arith, l))) (λ l. inr (omega (arith, l))) (order i j (λ e. n (ap suc e)))

          apart : (i < j) ⊎ (j < i) → ⊥
          apart (inl less) = store.distinct i j (node 0 []) less k e
          apart (inr more) = store.distinct j i (node 0 []) more l (sym e)

  at_id : (ts : List Term) (id : ℕ) → id < length ts → slice_get ts id ≡ Some (term_at ts id)
  at_id [] id l = absurd (omega (arith, l))
  at_id (t ∷ ts) zero l = refl
  at_id (t ∷ ts) (suc id) l = at_id ts id (omega (arith, l))

  -- ---- one variable

  weaker : (p : Pattern) (id : ℕ) (b b' : List (ℕ × ℕ)) (r : Bool) → AreIds terms b' → MatchBool r (IsBoundBy p (term_at terms id) (named terms b) (named terms b')) (IsRefused p (term_at terms id) (named terms b) (named terms b'))
      → MatchBool r (IsMatch p id terms b b') (IsNoMatch p (term_at terms id) (named terms b))
  weaker p id b b' true ids h = record { bound = h; ids = ids }
  weaker p id b b' false ids h = h.none

  pub bound_before : IsStore terms → (v : ℕ) (b : List (ℕ × ℕ)) (bound id : ℕ) → AreIds terms b → id < length terms → id_of b v ≡ Some bound → MatchBool (bound == id) (IsMatch (Var v) id terms b b) (IsNoMatch (Var v) (term_at terms id) (named terms b))
  bound_before store v b bound id ids l e =
      weaker (Var v) id b b (bound == id) ids (bind_found v (named terms b) (term_at terms bound) (term_at terms id) (bound == id) (lookup_named b v bound e)
      (λ h. ap (term_at terms) (eqb-true bound id h), λ h. eq-eqb bound id (same_ids store bound id (id_there b v bound ids e) l h)))

  pub bound_now : (v : ℕ) (b : List (ℕ × ℕ)) (id : ℕ) → AreIds terms b → id < length terms → id_of b v ≡ None → IsMatch (Var v) id terms b (b ++ (v, id) ∷ [])
  bound_now v b id ids l e = record {
    bound = subst (λ c. IsBoundBy (Var v) (term_at terms id) (named terms b) c) (sym (named-push b (v, id))) (bind_new v (named terms b) (term_at terms id) (lookup_none b v e));
    ids = AreIds-push b (v, id) ids l;
  }

  -- ---- the arguments one by one

  map-take : (n : ℕ) (ids : List ℕ) → map (term_at terms) (take n ids) ≡ take n (map (term_at terms) ids)
  map-take zero ids = refl
  map-take (suc n) [] = refl
  map-take (suc n) (x ∷ ids) = ap (λ ts. term_at terms x ∷ ts) (map-take n ids)

  length-map' : (ids : List ℕ) → length (map (term_at terms) ids) ≡ length ids
  length-map' [] = refl
  length-map' (x ∷ ids) = ap suc (length-map' ids)

  get_or-map' : (ids : List ℕ) (i d : ℕ) (t : Term) → i < length ids → term_at terms (get_or ids i d) ≡ get_or (map (term_at terms) ids) i t
  get_or-map' [] i d t l = absurd (omega (arith, l))
  get_or-map' (x ∷ ids) zero d t l = refl
  get_or-map' (x ∷ ids) (suc i) d t l = get_or-map' ids i d t (omega (arith, l))

  module _ (f : ℕ) (ps : List Pattern) (ids : List ℕ) (i : ℕ) (p : Pattern) (d : ℕ) (b₀ b : List (ℕ × Term)) (all : MatchedAll (take i ps) (map (term_at terms) (take i ids)) b₀ b)
      (at_p : i < length ps) (at_t : i < length ids) (is_p : p ≡ get_or ps i p) where
    t : Term
    t = term_at terms (get_or ids i d)

    at_u : i < length (map (term_at terms) ids)
    at_u = omega (arith, at_t, length-map' ids)

    all' : MatchedAll (take i ps) (take i (map (term_at terms) ids)) b₀ b
    all' = subst (λ ts. MatchedAll (take i ps) ts b₀ b) (map-take i ids) all

    pub one_more : (b' : List (ℕ × Term)) → IsBoundBy p (term_at terms (get_or ids i d)) b b' → MatchedAll (take (i + 1) ps) (map (term_at terms) (take (i + 1) ids)) b₀ b'
    one_more b' h = subst (λ ts. MatchedAll (take (i + 1) ps) ts b₀ b') (sym (map-take (i + 1) ids))
        (all_step f ps (map (term_at terms) ids) i p (term_at terms (get_or ids i d)) b₀ b b' all' at_p at_u is_p (get_or-map' ids i d (term_at terms (get_or ids i d)) at_t) h)

    pub no_more : IsNoMatch p (term_at terms (get_or ids i d)) b → IsNoMatch (App f ps) (applied terms f ids) b₀
    no_more h = (all_refused f ps (map (term_at terms) ids) i p (term_at terms (get_or ids i d)) b₀ b b all' at_p at_u is_p (get_or-map' ids i d (term_at terms (get_or ids i d)) at_t) (record { none = h; same = refl })).none

  pub whole_match : (f id : ℕ) (ps : List Pattern) (ids : List ℕ) (i : ℕ) (before after : List (ℕ × ℕ)) → term_at terms id ≡ applied terms f ids → length ps ≤ i → length ids ≤ i → MatchedAll (take i ps) (map (term_at terms) (take i ids)) (named terms before) (named terms after) → AreIds terms after
      → IsMatch (App f ps) id terms before after
  whole_match f id ps ids i before after is n m h a = record {
    bound = subst (λ t. IsBoundBy (App f ps) t (named terms before) (named terms after)) (sym is) (all_whole f ps (map (term_at terms) ids) (named terms before) (named terms after)
        (subst (λ xs. MatchedAll xs (map (term_at terms) ids) (named terms before) (named terms after)) (take_all i ps n)
        (subst (λ ys. MatchedAll (take i ps) (map (term_at terms) ys) (named terms before) (named terms after)) (take_all i ids m) h)));
    ids = a;
  }

  pub other_shape : (f g : ℕ) (ps : List Pattern) (ids : List ℕ) (b : List (ℕ × Term)) → (f ≡ g → length ps ≡ length ids → ⊥) → IsNoMatch (App f ps) (applied terms g ids) b
  other_shape f g ps ids b n = (mismatch f g ps (map (term_at terms) ids) b (λ e h. n e (h ∙ length-map' ids))).none

-- ---- instances

pub named_stays : (a b : List Term) → Keeps a b → (xs : List (ℕ × ℕ)) → AreIds a xs → named b xs ≡ named a xs
named_stays a b k [] h = refl
named_stays a b k (x ∷ xs) h =
    let e = term_at_stays a b k x.1 (All-head (λ (e : ℕ × ℕ). e.1 < length a) x xs h) in
    let es = named_stays a b k xs (All-tail (λ (e : ℕ × ℕ). e.1 < length a) x xs h) in
    λ i. (x.0, e i) ∷ es i

pub ids_stay : (a b : List Term) → Keeps a b → (xs : List (ℕ × ℕ)) → AreIds a xs → AreIds b xs
ids_stay a b k xs h = All-weaker (λ (e : ℕ × ℕ). e.1 < length a) (λ (e : ℕ × ℕ). e.1 < length b) (λ e l. omega (arith, l, length-keeps a b k)) xs h

pub by_stays : (a b : List Term) → Keeps a b → (xs : List (ℕ × ℕ)) → AreIds a xs → (p : Pattern) → instance_by b xs p ≡ instance_by a xs p
by_stays a b k xs h p = ap (λ c. instance_of (binding_of c) p) (named_stays a b k xs h)

pub instance_at : (terms : List Term) (b : List (ℕ × ℕ)) (v id : ℕ) → AreIds terms b → id_of b v ≡ Some id → slice_get terms id ≡ Some (instance_by terms b (Var v))
instance_at terms b v id h e = at_id terms terms id (id_there terms b v id h e) ∙ ap Some (sym (instance_var (binding_of (named terms b)) v ∙ ap or_constant (lookup_named terms b v id e)))

has_none : (b : List (ℕ × Term)) (v : ℕ) → lookup b v ≡ None → Contains (bound_in b) v → ⊥
has_none [] v h c = none v c
has_none (e ∷ b) v h c = ⊎_elim
    (λ same. let x = if_true (v == e.0) (Some e.1) (lookup b v) (eq-eqb v e.0 (sym same)) in cc)
    (λ later. has_none b v (go (v == e.0) h) later)
    (parts e.0 v (bound_in b) c)
  where
    go : (r : Bool) → (if r then Some e.1 else lookup b v) ≡ None → lookup b v ≡ None
    go true k = cc
    go false k = k

pub is_bound : (terms : List Term) (b : List (ℕ × ℕ)) (v : ℕ) (p : Pattern) → p ≡ Var v → ((v : ℕ) → Contains (occurrences p) v → Contains (bound_in (named terms b)) v) → id_of b v ≡ None → ⊥
is_bound terms b v p is h e = has_none (named terms b) v (lookup_none terms b v e) (h v (subst (λ q. Contains (occurrences q) v) (sym is) (subst (λ vs. Contains vs v) (sym (one_variable v)) (0, omega arith, refl))))
  where
    one_variable : (v : ℕ) → occurrences (Var v) ≡ v ∷ []
    one_variable v = occurrences_var v

-- ---- steps at the root

pub rule_at : (R : List RewriteRule) (i : ℕ) (rule : RewriteRule) → i < length R → rule ≡ get_or R i rule → slice_get R i ≡ Some rule
rule_at [] i rule l e = absurd (omega (arith, l))
rule_at (x ∷ R) zero rule l e = ap Some (sym e)
rule_at (x ∷ R) (suc i) rule l e = rule_at R i rule (omega (arith, l)) e

in_binding : (b : List (ℕ × Term)) (v : ℕ) → Contains (bound_in b) v → (t : Term) × (lookup b v ≡ Some t)
in_binding b v c = go (lookup b v) refl
  where
    go : (o : Option Term) → lookup b v ≡ o → (t : Term) × (lookup b v ≡ Some t)
    go None e = absurd (has_none b v e c)
    go (Some t) e = (t, e)

module _ (R : List RewriteRule) (i : ℕ) (rule : RewriteRule) (is_rule : slice_get R i ≡ Some rule) (good : IsRule rule) (s : Term) (b : List (ℕ × Term)) (m : IsBoundBy rule.left s [] b) where
  pub right_is_there : (v : ℕ) → Contains (occurrences rule.right) v → Contains (bound_in b) v
  right_is_there v c = subst (λ vs. Contains vs v) (sym m.bound) (occurrences-in_variables_of rule.left v (good.right_is_bound v c))

  pub step_by : RootStep R i s (instance_of (binding_of b) rule.right)
  step_by = record { rule = rule; is_rule = is_rule; θ = binding_of b; from = sym (matched_instance rule.left s b m); to = refl }

  pub only_by : (t : Term) → RootStep R i s t → instance_of (binding_of b) rule.right ≡ t
  only_by t h = go h.rule (let q : rule ≡ h.rule = cc in q) h.from h.to
    where
      go : (r : RewriteRule) → rule ≡ r → s ≡ instance_of h.θ r.left → t ≡ instance_of h.θ r.right → instance_of (binding_of b) rule.right ≡ t
      go r e from to =
          let agrees = (m.exactly h.θ).1 (tt, ap (λ r. instance_of h.θ r.left) e ∙ sym from) in
          instance_of-agree (binding_of b) h.θ rule.right (all_from_members (λ v. binding_of b v ≡ h.θ v) (occurrences rule.right) (λ v c.
          let l = in_binding b v (right_is_there v c) in ap or_constant l.1 ∙ sym (agrees_at h.θ b v l.0 l.1 agrees)))
          ∙ (ap (λ r. instance_of h.θ r.right) e ∙ sym to)

pub last_or : (i n : ℕ) → i < n + 1 → (i < n) ⊎ (i ≡ n)
last_or zero zero l = inr refl
last_or zero (suc n) l = inl (omega arith)
last_or (suc i) zero l = absurd (omega (arith, l))
last_or (suc i) (suc n) l = ⊎_elim (λ h. inl (omega (arith, h))) (λ e. inr (ap suc e)) (last_or i n (omega (arith, l)))

-- an entry of a root symbol is the number of a rule
pub entry_there : (R : List RewriteRule) (index : List (ℕ × ℕ)) → IsIndexOf R index → (f : ℕ) (entries : List (ℕ × ℕ)) → ((e : ℕ × ℕ) → Contains entries e ↔ (Contains index e × (e.0 ≡ f))) → (k : ℕ) (d : ℕ × ℕ) → k < length entries → (get_or entries k d).1 < length R
entry_there R index indexed f entries same k d l =
    indexed.there (get_or entries k d) ((same (get_or entries k d)).0 (k, l, get_or_default entries k (get_or entries k d) d l)).0

module _ (R : List RewriteRule) (s : Term) where
  pub no_rule : (terms : List Term) → AreFoundBy R s terms [] []
  no_rule terms = record { steps = λ k d l. absurd (omega (arith, l)); all = λ f i t c h. absurd (none (f, i) c) }

  -- a rule that does not match
  pub rule_passed : (terms : List Term) (tried : List (ℕ × ℕ)) (e : ℕ × ℕ) (founds : List Found) (rule : RewriteRule) → slice_get R e.1 ≡ Some rule → IsNoMatch rule.left s [] → AreFoundBy R s terms tried founds → AreFoundBy R s terms (tried ++ e ∷ []) founds
  rule_passed terms tried e founds rule is other h = record {
    steps = h.steps;
    all = λ f i t c step. ⊎_elim
        (λ old. h.all f i t old step)
        (λ new. absurd (at step.rule (let q : slice_get R e.1 ≡ Some step.rule = ap (λ (x : ℕ × ℕ). slice_get R x.1) new ∙ step.is_rule in let r : rule ≡ step.rule = cc in r) step.θ step.from))
        (Contains-push_cases tried e (f, i) c);
  }
    where
      at : (r : RewriteRule) → rule ≡ r → (θ : ℕ → Term) → s ≡ instance_of θ r.left → ⊥
      at r e θ from = other θ tt (ap (λ r. instance_of θ r.left) e ∙ sym from)

  -- and one that does
  pub rule_found : (a c : List Term) (k : Keeps a c) (tried : List (ℕ × ℕ)) (e : ℕ × ℕ) (founds : List Found) (rule : RewriteRule) → slice_get R e.1 ≡ Some rule → IsRule rule → (b : List (ℕ × Term)) → IsBoundBy rule.left s [] b → (term : ℕ) → slice_get c term ≡ Some (instance_of (binding_of b) rule.right)
      → AreFoundBy R s a tried founds → AreFoundBy R s c (tried ++ e ∷ []) (founds ++ record { rule = e.1; back = []; term = term } ∷ [])
  rule_found a c k tried e founds rule is good b m term made h = record {
    steps = all_from_members (IsFound R s c) (founds ++ new ∷ []) (λ g x. ⊎_elim
        (λ old. found_stays R s a c k g (All-contains (IsFound R s a) founds g h.steps old))
        (λ same. subst (IsFound R s c) same (record { there = slice_get_within c term _ made; position = []; back = refl; step = subst (RootStep R e.1 s) (sym at) (step_by R e.1 rule is good s b m) }))
        (Contains-push_cases founds new g x));
    all = λ f i t x step. ⊎_elim
        (λ old. let g = h.all f i t old step in record {
          found = g.found;
          member = Contains-append_left founds (new ∷ []) g.found g.member;
          is = term_at_stays a c k g.found.term (All-contains (IsFound R s a) founds g.found h.steps g.member).there ∙ g.is;
        })
        (λ same. record { found = new; member = Contains-push founds new; is = at ∙ only_by R e.1 rule is good s b m t (subst (λ j. RootStep R j s t) (sym (ap (λ (x : ℕ × ℕ). x.1) same)) step) })
        (Contains-push_cases tried e (f, i) x);
  }
    where
      new : Found
      new = record { rule = e.1; back = []; term = term }

      at : term_at c term ≡ instance_of (binding_of b) rule.right
      at = get_or_from_slice_get c term _ (node 0 []) made

  -- all rules of the term's root symbol are all rules that may apply
  pub all_rules : (index : List (ℕ × ℕ)) → IsIndexOf R index → (f : ℕ) (ts : List Term) → s ≡ node f ts → (tried : List (ℕ × ℕ)) → ((e : ℕ × ℕ) → Contains index e → e.0 ≡ f → Contains tried e)
      → (terms : List Term) (founds : List Found) → AreFoundBy R s terms tried founds → AreFoundUpTo R s terms 0 founds
  all_rules index indexed f ts shape tried enough terms founds h = record { steps = h.steps; all = each }
    where
      root : (i g : ℕ) (t : Term) → (step : RootStep R i s t) → HasRoot step.rule g → g ≡ f
      root i g t step r =
          node_sym g f (map (instance_of step.θ) r.0) ts (sym (instance_app step.θ g r.0) ∙ (ap (instance_of step.θ) (sym r.1) ∙ (sym step.from ∙ shape)))

      each : (i : ℕ) (position : List ℕ) (t : Term) → IsUpTo 0 position → StepAt R i position s t → HasTerm founds terms t
      each i [] t up step =
          let x = indexed.each i step.rule step.is_rule in
          h.all x.0 i t (enough (x.0, i) x.2 (root i x.0 t step x.1)) step
      each i (k ∷ position) t up step = let p = step.place in absurd (omega (arith, up, p))

-- ---- for the answers

pub no_match_at : (p q : Pattern) (t u : Term) (b : List (ℕ × Term)) → p ≡ q → t ≡ u → IsNoMatch q u b → IsNoMatch p t b
no_match_at p q t u b e h n θ a k = n θ a (sym (ap (instance_of θ) e) ∙ (k ∙ h))

push_all : {X : Type 0} (P : X → Type 0) (xs : List X) (x : X) → All P xs → P x → All P (xs ++ x ∷ [])
push_all P [] x h p = All-cons P x [] p h
push_all P (y ∷ xs) x h p = All-cons P y (xs ++ x ∷ []) (All-head P y xs h) (push_all P xs x (All-tail P y xs h) p)

map-push : {X Y : Type 0} (f : X → Y) (xs : List X) (x : X) → map f (xs ++ x ∷ []) ≡ map f xs ++ f x ∷ []
map-push f [] x = refl
map-push f (y ∷ xs) x = ap (λ ys. f y ∷ ys) (map-push f xs x)

module _ (start now : List Term) (k : Keeps start now) (b : List (ℕ × ℕ)) (ids_there : AreIds start b) (args : List Pattern) (i : ℕ) (p : Pattern) (lt : i < length args) (is : p ≡ get_or args i p) where
  -- the variables of the next argument are bound
  pub next_bound : ((v : ℕ) → Contains (joined (map occurrences (drop i args))) v → Contains (bound_in (named start b)) v) → (v : ℕ) → Contains (occurrences p) v → Contains (bound_in (named now b)) v
  next_bound h v c =
      subst (λ x. Contains (bound_in x) v) (sym (named_stays start now k b ids_there))
      (h v (subst (λ vs. Contains vs v) (sym (args_more args i p lt is)) (Contains-append_left (occurrences p) (joined (map occurrences (drop (i + 1) args))) v c)))

  pub rest_bound : ((v : ℕ) → Contains (joined (map occurrences (drop i args))) v → Contains (bound_in (named start b)) v) → (v : ℕ) → Contains (joined (map occurrences (drop (i + 1) args))) v → Contains (bound_in (named start b)) v
  rest_bound h v c = h v (subst (λ vs. Contains vs v) (sym (args_more args i p lt is)) (Contains-append_right (occurrences p) (joined (map occurrences (drop (i + 1) args))) v c))

  -- one argument more is made
  pub made_more : (after : List Term) → Keeps now after → (ids : List ℕ) → All (λ a. a < length now) ids → map (term_at now) ids ≡ map (instance_by start b) (take i args) → (id : ℕ) → slice_get after id ≡ Some (instance_by now b p)
      → All (λ a. a < length after) (ids ++ id ∷ []) × (map (term_at after) (ids ++ id ∷ []) ≡ map (instance_by start b) (take (i + 1) args))
  made_more after l ids there e id made = (
    push_all (λ a. a < length after) ids id (below (length now) (length after) ids (length-keeps now after l) there) (slice_get_within after id _ made),
    map-push (term_at after) ids id
        ∙ ((λ j. (node_args 0 0 _ _ (applied_stays now after l 0 ids there) ∙ e) j ++ (get_or_from_slice_get after id _ (node 0 []) made ∙ (by_stays start now k b ids_there p ∙ ap (instance_by start b) is)) j ∷ [])
        ∙ (sym (map-push (instance_by start b) (take i args) (get_or args i p)) ∙ ap (map (instance_by start b)) (sym (take_more args i p lt)))),
  )

  -- or it is large, and then so is the whole
  pub large_part : (f : ℕ) (q : Pattern) → q ≡ App f args → 1024 < size_of (instance_by now b p) → 1024 < size_of (instance_by start b q)
  large_part f q e large =
      let θ = binding_of (named start b) in
      let ts = map (instance_of θ) args in
      let at : size_of (get_or ts i (instance_of θ p)) ≡ size_of (instance_by now b p) = ap size_of (get_or-map (instance_of θ) args i p ∙ (ap (instance_of θ) (sym is) ∙ sym (by_stays start now k b ids_there p))) in
      let within = sum_by_more_le size_of ts i (instance_of θ p) (omega (arith, lt, length-map args (instance_of θ))) in
      let whole : size_of (instance_by start b q) ≡ sum_by size_of ts + 1 = ap size_of (ap (instance_of θ) e ∙ instance_app θ f args) ∙ (size_node f ts ∙ ap (λ n. n + 1) (sum-map size_of ts)) in
      omega (arith, large, at, within, whole)

pub made_whole : (start now : List Term) (b : List (ℕ × ℕ)) (f : ℕ) (args : List Pattern) (q : Pattern) (i : ℕ) (ids : List ℕ) → q ≡ App f args → length args ≤ i → map (term_at now) ids ≡ map (instance_by start b) (take i args) → applied now f ids ≡ instance_by start b q
made_whole start now b f args q i ids e enough h =
    ap (node f) (h ∙ ap (map (instance_by start b)) (take_all i args enough)) ∙ (sym (instance_app (binding_of (named start b)) f args) ∙ ap (instance_by start b) (sym e))

module _ (R : List RewriteRule) (start now : List Term) (k : Keeps start now) (id : ℕ) (there : id < length start) (e : ℕ × ℕ) (rule : RewriteRule) (lt : e.1 < length R) (is : rule ≡ get_or R e.1 rule) (good : IsRule rule)
    (left : Pattern) (is_left : left ≡ rule.left) (before : List (ℕ × ℕ)) (empty : before ≡ []) where
  here : term_at now id ≡ term_at start id
  here = term_at_stays start now k id there

  matched : (b : List (ℕ × ℕ)) → IsMatch left id now before b → IsBoundBy rule.left (term_at start id) [] (named now b)
  matched b m =
      subst (λ p. IsBoundBy p (term_at start id) [] (named now b)) is_left
      (subst (λ t. IsBoundBy left t [] (named now b)) here
      (subst (λ xs. IsBoundBy left (term_at now id) (named now xs) (named now b)) empty m.bound))

  pub step_passed : (tried : List (ℕ × ℕ)) (founds : List Found) → IsNoMatch left (term_at now id) (named now before) → AreFoundBy R (term_at start id) now tried founds → AreFoundBy R (term_at start id) now (tried ++ e ∷ []) founds
  step_passed tried founds other h =
      rule_passed R (term_at start id) now tried e founds rule (rule_at R e.1 rule lt is)
      (no_match_at rule.left left (term_at start id) (term_at now id) [] (sym is_left) (sym here) (subst (λ xs. IsNoMatch left (term_at now id) (named now xs)) empty other)) h

  module _ (b b' : List (ℕ × ℕ)) (m : IsMatch left id now before b) (same : b' ≡ b) (right : Pattern) (is_right : right ≡ rule.right) where
    is_by : instance_by now b' right ≡ instance_of (binding_of (named now b)) rule.right
    is_by = λ i. instance_of (binding_of (named now (same i))) (is_right i)

    pub bound_right : (v : ℕ) → Contains (occurrences right) v → Contains (bound_in (named now b')) v
    bound_right v c =
        subst (λ xs. Contains (bound_in (named now xs)) v) (sym same)
        (right_is_there R e.1 rule (rule_at R e.1 rule lt is) good (term_at start id) (named now b) (matched b m) v (subst (λ p. Contains (occurrences p) v) is_right c))

    pub large_step : 1024 < size_of (instance_by now b' right) → StepsToLarge R (term_at start id)
    large_step large = record {
      rule = e.1;
      position = [];
      to = instance_of (binding_of (named now b)) rule.right;
      step = step_by R e.1 rule (rule_at R e.1 rule lt is) good (term_at start id) (named now b) (matched b m);
      large = subst (λ t. 1024 < size_of t) is_by large;
    }

    pub step_found : (after : List Term) → Keeps now after → (tried : List (ℕ × ℕ)) (founds : List Found) (term : ℕ) → slice_get after term ≡ Some (instance_by now b' right) → AreFoundBy R (term_at start id) now tried founds
        → AreFoundBy R (term_at start id) after (tried ++ e ∷ []) (founds ++ record { rule = e.1; back = []; term = term } ∷ [])
    step_found after l tried founds term made h =
        rule_found R (term_at start id) now after l tried e founds rule (rule_at R e.1 rule lt is) good (named now b) (matched b m) term (made ∙ ap Some is_by) h
