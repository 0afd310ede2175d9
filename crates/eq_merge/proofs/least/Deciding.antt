-- Whether a pair is forced is decided, so merging has a result.
use Rattle.std.proofs.Common.{◌≡◌, ℕ, ◌==◌, ◌⊎◌, not, cond, eqb, List, [], ◌∷◌, ◌++◌, All, Contains, refl, sym, ap, subst, ◌∙◌, ⊎_elim, inl, inr, eq-eqb, ne_eqb}
use Rattle.std.specs.List.{filter}
use Rattle.std.proofs.lemmas.List.Elements.{All-nil, All-cons, All-head, All-tail, All-contains, Contains-append_left, Contains-append_right}
use Rattle.list_laws.specs.Lists.{Decided}
use Rattle.list_laws.proofs.Decided.{member}
use Rattle.list_laws.proofs.Members.{here, there, none, parts, all_from_members}
use Rattle.ranked_terms.specs.Terms.{assigned, occurrences, firsts}
use Rattle.ranked_terms.specs.declared.term.Pattern.{Pattern}
use Rattle.ranked_terms.specs.lemmas.InstanceLaws.{assigned-agree}
use Rattle.ranked_terms.specs.lemmas.VariableLaws.{firsts-cons}
use Rattle.trs_rules.specs.Rules.{RewriteEquation, IsEquation}
use Rattle.ta_core.specs.TreeAutomaton.{TreeAutomaton}
use Rattle.ta_core.specs.Laws.{PlainRunsAreDecided}
use Rattle.ta_core.specs.Runs.{RunsPlain}
use Rattle.eq_merge.specs.Merging.{Equates, Forces, ForcedAmong}
use Rattle.eq_merge.proofs.quotients.Filtered.{filter_has}
use Rattle.eq_merge.proofs.quotients.Survival.{same_or_not}
use Rattle.eq_merge.proofs.quotients.Composition.{not_same}

abbrev pub Some_of : {X : Type 0} → List X → (X → Type 0) → Type 0
Some_of {X} xs P = (x : X) × Contains xs x × P x

pub some_known : {X : Type 0} (xs : List X) (P : X → Type 0) → ((x : X) → Contains xs x → Decided (P x)) → Decided (Some_of xs P)
some_known [] P h = inr (λ s. none s.0 s.1)
some_known (x ∷ xs) P h =
    ⊎_elim (λ yes. inl (x, here x xs, yes))
    (λ never. ⊎_elim (λ s. inl (s.0, there x s.0 xs s.1, s.2))
    (λ others. inr (λ s. ⊎_elim (λ e. never (subst P (sym e) s.2)) (λ i. others (s.0, i, s.2)) (parts x s.0 xs s.1)))
    (some_known xs P (λ y c. h y (there x y xs c))))
    (h x (here x xs))

pub both_known : {X Y : Type 0} → Decided X → Decided Y → Decided (X × Y)
both_known a b = ⊎_elim (λ x. ⊎_elim (λ y. inl (x, y)) (λ never. inr (λ p. never p.1)) b) (λ never. inr (λ p. never p.0)) a

pub either_known : {X Y : Type 0} → Decided X → Decided Y → Decided (X ⊎ Y)
either_known a b = ⊎_elim (λ x. inl (inl x)) (λ never. ⊎_elim (λ y. inl (inr y)) (λ never'. inr (λ e. ⊎_elim (λ x. never x) (λ y. never' y) e)) b) a

-- ---- assignments

abbrev pub set_at : (ℕ → ℕ) → ℕ → ℕ → ℕ → ℕ
set_at σ v q w = cond (eqb w v) q (σ w)

pub set_self : (σ : ℕ → ℕ) (v q : ℕ) → set_at σ v q v ≡ q
set_self σ v q = rw (eq-eqb v v refl)

pub set_other : (σ : ℕ → ℕ) (v q w : ℕ) → (w ≡ v → ⊥) → set_at σ v q w ≡ σ w
set_other σ v q w h = rw (ne_eqb w v h)

module _ (states : List ℕ) (Q : (ℕ → ℕ) → Type 0) (known : (σ : ℕ → ℕ) → Decided (Q σ)) where
  -- states for the variables of the list; each other variable keeps what it has
  record Assigns (vs : List ℕ) (σ₀ : ℕ → ℕ) : Type 0 where
    pub σ : ℕ → ℕ
    pub outside : (v : ℕ) → (Contains vs v → ⊥) → σ v ≡ σ₀ v
    pub inside : All (λ v. Contains states (σ v)) vs
    pub holds : Q σ

  one_more : (v : ℕ) (vs : List ℕ) (σ₀ : ℕ → ℕ) (s : ℕ) → Contains states s → Assigns vs (set_at σ₀ v s) → Assigns (v ∷ vs) σ₀
  one_more v vs σ₀ s c a = record {
    σ = a.σ;
    outside = λ w never. a.outside w (λ i. never (there v w vs i)) ∙ set_other σ₀ v s w (λ e. never (subst (Contains (v ∷ vs)) (sym e) (here v vs)));
    inside = All-cons (λ w. Contains states (a.σ w)) v vs
        (⊎_elim (λ i. All-contains (λ w. Contains states (a.σ w)) vs v a.inside i)
        (λ never. subst (Contains states) (sym (a.outside v never ∙ set_self σ₀ v s)) c) (member vs v)) a.inside;
    holds = a.holds;
  }

  one_less : (v : ℕ) (vs : List ℕ) (σ₀ : ℕ → ℕ) (a : Assigns (v ∷ vs) σ₀) → Assigns vs (set_at σ₀ v (a.σ v))
  one_less v vs σ₀ a = record {
    σ = a.σ;
    outside = λ w never. ⊎_elim (λ e. ap a.σ e ∙ sym (ap (set_at σ₀ v (a.σ v)) e ∙ set_self σ₀ v (a.σ v)))
        (λ d. a.outside w (λ i. ⊎_elim (λ e. d (sym e)) (λ j. never j) (parts v w vs i)) ∙ sym (set_other σ₀ v (a.σ v) w d)) (same_or_not w v);
    inside = All-tail (λ w. Contains states (a.σ w)) v vs a.inside;
    holds = a.holds;
  }

  assigns_known : (vs : List ℕ) (σ₀ : ℕ → ℕ) → Decided (Assigns vs σ₀)
  assigns_known [] σ₀ =
      ⊎_elim (λ h. inl (record { σ = σ₀; outside = λ v never. refl; inside = All-nil (λ v. Contains states (σ₀ v)); holds = h }))
      (λ never. inr (λ a. never (subst Q (λ i v. a.outside v (λ c. none v c) i) a.holds))) (known σ₀)
  assigns_known (v ∷ vs) σ₀ =
      ⊎_elim (λ h. inl (one_more v vs σ₀ h.0 h.1 h.2))
      (λ never. inr (λ a. never (a.σ v, All-head (λ w. Contains states (a.σ w)) v vs a.inside, one_less v vs σ₀ a)))
      (some_known states (λ s. Assigns vs (set_at σ₀ v s)) (λ s c. assigns_known vs (set_at σ₀ v s)))

-- ---- forced pairs

pub firsts_has : (vs : List ℕ) (v : ℕ) → Contains vs v → Contains (firsts vs) v
firsts_has [] v c = absurd (none v c)
firsts_has (w ∷ vs) v c =
    subst (λ xs. Contains xs v) (sym (firsts-cons w vs))
    (⊎_elim (λ e. subst (Contains (w ∷ filter (λ x. not (w == x)) (firsts vs))) e (here w (filter (λ x. not (w == x)) (firsts vs))))
    (λ d. there w v (filter (λ x. not (w == x)) (firsts vs))
    (filter_has (λ x. not (w == x)) (firsts vs) v (firsts_has vs v (⊎_elim (λ e. absurd (d e)) (λ i. i) (parts w v vs c))) (not_same w v d)))
    (same_or_not w v))

module _ (decided : PlainRunsAreDecided) (A : TreeAutomaton) (e : RewriteEquation) (is : IsEquation e) where
  -- the assignment at the equation's variables, and 0 elsewhere
  abbrev cut : (ℕ → ℕ) → ℕ → ℕ
  cut σ v = ⊎_elim (λ i. σ v) (λ never. 0) (member e.vars v)

  cut_in : (σ : ℕ → ℕ) (v : ℕ) → Contains e.vars v → cut σ v ≡ σ v
  cut_in σ v c = elim (member e.vars v) as (λ k. ⊎_elim (λ i. σ v) (λ never. 0) k ≡ σ v) [ inl i ↦ refl | inr never ↦ absurd (never c) ]

  cut_out : (σ : ℕ → ℕ) (v : ℕ) → (Contains e.vars v → ⊥) → cut σ v ≡ 0
  cut_out σ v d = elim (member e.vars v) as (λ k. ⊎_elim (λ i. σ v) (λ never. 0) k ≡ 0) [ inl i ↦ absurd (d i) | inr never ↦ refl ]

  has_left : (v : ℕ) → Contains (occurrences e.left) v → Contains e.vars v
  has_left v c = subst (λ xs. Contains xs v) (sym is.vars_are) (firsts_has (occurrences e.left ++ occurrences e.right) v (Contains-append_left (occurrences e.left) (occurrences e.right) v c))

  has_right : (v : ℕ) → Contains (occurrences e.right) v → Contains e.vars v
  has_right v c = subst (λ xs. Contains xs v) (sym is.vars_are) (firsts_has (occurrences e.left ++ occurrences e.right) v (Contains-append_right (occurrences e.left) (occurrences e.right) v c))

  side_cut : (σ : ℕ → ℕ) (p : Pattern) → ((v : ℕ) → Contains (occurrences p) v → Contains e.vars v) → assigned σ p ≡ assigned (cut σ) p
  side_cut σ p h = assigned-agree σ (cut σ) p (all_from_members (λ v. σ v ≡ cut σ v) (occurrences p) (λ v c. sym (cut_in σ v (h v c))))

  abbrev Sides : ℕ → ℕ → (ℕ → ℕ) → Type 0
  Sides p q σ = RunsPlain A (assigned σ e.left) p × RunsPlain A (assigned σ e.right) q

  pub equates_known : (p q : ℕ) → Decided (Equates A e p q)
  equates_known p q =
      ⊎_elim (λ a. inl (record { σ = a.σ; are_states = a.inside; left = a.holds.0; right = a.holds.1 }))
      (λ never. inr (λ x. never (record {
        σ = cut x.σ;
        outside = λ v d. cut_out x.σ v d;
        inside = all_from_members (λ v. Contains A.states (cut x.σ v)) e.vars (λ v c. subst (Contains A.states) (sym (cut_in x.σ v c)) (All-contains (λ v. Contains A.states (x.σ v)) e.vars v x.are_states c));
        holds = (subst (λ c. RunsPlain A c p) (side_cut x.σ e.left has_left) x.left, subst (λ c. RunsPlain A c q) (side_cut x.σ e.right has_right) x.right);
      })))
      (assigns_known A.states (Sides p q) (λ σ. both_known (decided A (assigned σ e.left) p) (decided A (assigned σ e.right) q)) e.vars (λ v. 0))

pub forces_known : PlainRunsAreDecided → (A : TreeAutomaton) (E : List RewriteEquation) → All IsEquation E → (p q : ℕ) → Decided (Forces A E p q)
forces_known decided A E are p q =
    ⊎_elim (λ same. inr (λ x. x.differ same))
    (λ d. ⊎_elim (λ h. inl (record { differ = d; equation = h.0; is_equation = h.1; equates = h.2 }))
    (λ never. inr (λ x. never (x.equation, x.is_equation, x.equates)))
    (some_known E (λ e. Equates A e p q ⊎ Equates A e q p) (λ e c.
    let is = All-contains IsEquation E e are c in either_known (equates_known decided A e is p q) (equates_known decided A e is q p))))
    (same_or_not p q)

abbrev Listed : TreeAutomaton → List RewriteEquation → List (ℕ × ℕ) → Type 0
Listed A E pairs = (xs : List (ℕ × ℕ)) × ForcedAmong A E pairs xs

pub forced_listed : PlainRunsAreDecided → (A : TreeAutomaton) (E : List RewriteEquation) → All IsEquation E → (pairs : List (ℕ × ℕ)) → Listed A E pairs
forced_listed decided A E are [] = ([], ForcedAmong.none)
forced_listed decided A E are (x ∷ pairs) =
    let rest = forced_listed decided A E are pairs in
    ⊎_elim (λ f. (x ∷ rest.0, ForcedAmong.forced_one f rest.1)) (λ never. (rest.0, ForcedAmong.free_one never rest.1)) (forces_known decided A E are x.0 x.1)
