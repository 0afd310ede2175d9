-- A run without epsilon transitions stays one in each quotient; a forced pair is one state there, or forced there.
use Rattle.std.proofs.Common.{◌≡◌, ◌≢◌, ℕ, ◌==◌, ◌⊎◌, Bool, true, false, true≢false, List, [], ◌∷◌, map, Contains, refl, sym, ap, subst, ◌∙◌, ⊎_elim, inl, inr, arith}
use Rattle.std.specs.List.{AllByRecursion}
use Rattle.std.proofs.lemmas.List.Elements.{All-weaker}
use Rattle.list_laws.proofs.InOrder.{in_order_has}
use Rattle.ranked_terms.specs.Terms.{assigned, config_of}
use Rattle.ranked_terms.specs.declared.term.Term.{Term}
use Rattle.ranked_terms.specs.declared.term.Pattern.{Pattern}
use Rattle.ranked_terms.specs.declared.term.Config.{Config}
use Rattle.ranked_terms.specs.declared.term.Config.TheVariants as config
use Rattle.ranked_terms.specs.declared.term.Config.TheVariants.{rolls-App, rolls-State}
use Rattle.ranked_terms.specs.declared.term.Config.TheOpen as layer
use Rattle.ranked_terms.specs.declared.term.Config.TheFolds.{fold-Config, fold-roll-Config}
use Rattle.ranked_terms.specs.lemmas.TermLaws.{config_node, term_induction, pattern_induction, assigned_var, assigned_app}
use Rattle.trs_rules.specs.Rules.{RewriteEquation}
use Rattle.ta_core.specs.declared.trans.Trans.{Trans}
use Rattle.ta_core.specs.TreeAutomaton.{TreeAutomaton, trans_of}
use Rattle.ta_core.specs.Runs.{RunsPlain, RunsAllPlain}
use Rattle.ta_core.specs.Acceptance.{image}
use Rattle.ta_core.specs.lemmas.Orders.{trans_total, trans_exact}
use Rattle.eq_merge.specs.Quotients.{AreLeasts, quotient, renamed}
use Rattle.eq_merge.specs.Merging.{Equates, Forces}
use Rattle.eq_merge.specs.MergingLaws.{PlainRunsSurvive, ForcedPairsStay}
use Rattle.eq_merge.proofs.quotients.Filtered.{image_in, filter_has}

-- ---- configurations with other states

abbrev mapped_step : List ℕ → layer.Config-F Config → Config
mapped_step h (layer.State q) = config.State (image h q)
mapped_step h (layer.App f cs) = config.App f cs

abbrev pub mapped : List ℕ → Config → Config
mapped h = fold-Config Config (mapped_step h)

pub mapped_state : (h : List ℕ) (q : ℕ) → mapped h (config.State q) ≡ config.State (image h q)
mapped_state h q = ap (mapped h) (sym (rolls-State q)) ∙ fold-roll-Config Config (mapped_step h) (layer.State q)

pub mapped_app : (h : List ℕ) (f : ℕ) (cs : List Config) → mapped h (config.App f cs) ≡ config.App f (map (mapped h) cs)
mapped_app h f cs = ap (mapped h) (sym (rolls-App f cs)) ∙ fold-roll-Config Config (mapped_step h) (layer.App f cs)

-- a ground term has no states
all_ground : (h : List ℕ) (ts : List Term) → AllByRecursion (λ t. mapped h (config_of t) ≡ config_of t) ts → map (mapped h) (map config_of ts) ≡ map config_of ts
all_ground h [] each = refl
all_ground h (t ∷ ts) each = λ i. each.0 i ∷ all_ground h ts each.1 i

pub mapped_ground : (h : List ℕ) (t : Term) → mapped h (config_of t) ≡ config_of t
mapped_ground h = term_induction (λ t. mapped h (config_of t) ≡ config_of t) (λ f ts each.
    ap (mapped h) (config_node f ts) ∙ (mapped_app h f (map config_of ts) ∙ (ap (config.App f) (all_ground h ts each) ∙ sym (config_node f ts))))

module _ (h : List ℕ) (σ : ℕ → ℕ) where
  abbrev image_of : ℕ → ℕ
  image_of v = image h (σ v)

  all_assigned : (ps : List Pattern) → AllByRecursion (λ p. mapped h (assigned σ p) ≡ assigned image_of p) ps → map (mapped h) (map (assigned σ) ps) ≡ map (assigned image_of) ps
  all_assigned [] each = refl
  all_assigned (p ∷ ps) each = λ i. each.0 i ∷ all_assigned ps each.1 i

  pub mapped_assigned : (p : Pattern) → mapped h (assigned σ p) ≡ assigned image_of p
  mapped_assigned = pattern_induction (λ p. mapped h (assigned σ p) ≡ assigned image_of p)
      (λ v. ap (mapped h) (assigned_var σ v) ∙ (mapped_state h (σ v) ∙ sym (assigned_var image_of v)))
      (λ f ps each. ap (mapped h) (assigned_app σ f ps) ∙ (mapped_app h f (map (assigned σ) ps) ∙ (ap (config.App f) (all_assigned ps each) ∙ sym (assigned_app image_of f ps))))

-- ---- runs

pub is_same : (p q : ℕ) → p ≡ q → (p == q) ≡ true
is_same p q e = grind (arith, e)

module _ {A : TreeAutomaton} {h : List ℕ} (leasts : AreLeasts A h) where
  -- the least state of a class is a state of the quotient
  pub state_survives : (q : ℕ) → Contains A.states q → Contains (quotient A h).states (image h q)
  state_survives q c = filter_has (λ p. image h p == p) A.states (image h q) (leasts.states q c) (is_same (image h (image h q)) (image h q) (leasts.in_class q c))

  pub trans_survives : (t : Trans) → Contains A.trans t → Contains (quotient A h).trans (renamed h t)
  trans_survives t c = in_order_has trans_total trans_exact (map (renamed h) A.trans) (renamed h t) (image_in (renamed h) A.trans t c)

  mutual
    pub survives : {c : Config} {q : ℕ} → RunsPlain A c q → RunsPlain (quotient A h) (mapped h c) (image h q)
    survives (RunsPlain.at {q = q} i) = subst (λ c. RunsPlain (quotient A h) c (image h q)) (sym (mapped_state h q)) (RunsPlain.at (state_survives q i))
    survives (RunsPlain.app {f = f} {q = q} {cs = cs} {qs = qs} r i) =
        subst (λ c. RunsPlain (quotient A h) c (image h q)) (sym (mapped_app h f cs)) (RunsPlain.app (all_survive r) (trans_survives (trans_of f qs q) i))

    pub all_survive : {cs : List Config} {qs : List ℕ} → RunsAllPlain A cs qs → RunsAllPlain (quotient A h) (map (mapped h) cs) (map (image h) qs)
    all_survive RunsAllPlain.none = RunsAllPlain.none
    all_survive (RunsAllPlain.more r rs) = RunsAllPlain.more (survives r) (all_survive rs)

  pub assigned_survives : (σ : ℕ → ℕ) (p : Pattern) (q : ℕ) → RunsPlain A (assigned σ p) q → RunsPlain (quotient A h) (assigned (image_of h σ) p) (image h q)
  assigned_survives σ p q r = subst (λ c. RunsPlain (quotient A h) c (image h q)) (mapped_assigned h σ p) (survives r)

  pub ground_survives : (t : Term) (q : ℕ) → RunsPlain A (config_of t) q → RunsPlain (quotient A h) (config_of t) (image h q)
  ground_survives t q r = subst (λ c. RunsPlain (quotient A h) c (image h q)) (mapped_ground h t) (survives r)

  -- ---- forced pairs

  equates_still : (e : RewriteEquation) (p q : ℕ) → Equates A e p q → Equates (quotient A h) e (image h p) (image h q)
  equates_still e p q x = record {
    σ = image_of h x.σ;
    are_states = All-weaker (λ v. Contains A.states (x.σ v)) (λ v. Contains (quotient A h).states (image h (x.σ v))) (λ v c. state_survives (x.σ v) c) e.vars x.are_states;
    left = assigned_survives x.σ e.left p x.left;
    right = assigned_survives x.σ e.right q x.right;
  }

  pub stays_forced : (E : List RewriteEquation) (p q : ℕ) → Forces A E p q → image h p ≢ image h q → Forces (quotient A h) E (image h p) (image h q)
  stays_forced E p q x differ = record {
    differ = differ;
    equation = x.equation;
    is_equation = x.is_equation;
    equates = ⊎_elim (λ y. inl (equates_still x.equation p q y)) (λ y. inr (equates_still x.equation q p y)) x.equates;
  }

-- ---- the laws

pub plain_runs_survive : PlainRunsSurvive
plain_runs_survive A h leasts σ p q r = assigned_survives leasts σ p q r

-- two numbers are one, or differ
pub same_or_not : (p q : ℕ) → (p ≡ q) ⊎ (p ≢ q)
same_or_not p q = by (p == q) refl
  where
    by : (b : Bool) → (p == q) ≡ b → (p ≡ q) ⊎ (p ≢ q)
    by true e = inl (grind (arith, e))
    by false e = inr (λ same. absurd (true≢false (sym (is_same p q same) ∙ e)))

pub forced_pairs_stay : ForcedPairsStay
forced_pairs_stay A E h leasts p q x = ⊎_elim (λ same. inl same) (λ differ. inr (stays_forced leasts E p q x differ)) (same_or_not (image h p) (image h q))
