-- A run of an instance of a linear pattern goes by way of states for its variables, and such states make a run of the instance.
use Rattle.std.proofs.Common.{◌≡◌, ℕ, cond, eqb, List, [], ◌∷◌, map, refl, sym, ap, subst, ◌∙◌, ⊎_elim, eq-eqb, ne_eqb}
use Rattle.std.specs.List.{AllByRecursion, AllZip, Contains}
use Rattle.std.proofs.lemmas.List.Elements.{Contains-append_left, Contains-append_right, Contains-append_cases, Contains-get_or}
use Rattle.ranked_terms.specs.Terms.{instance_of, assigned, config_of, joined, occurrences}
use Rattle.ranked_terms.specs.declared.term.Term.{Term}
use Rattle.ranked_terms.specs.declared.term.Pattern.{Pattern}
use Rattle.ranked_terms.specs.declared.term.Pattern.TheVariants.{Var, App}
use Rattle.ranked_terms.specs.declared.term.Config.TheVariants as config
use Rattle.ranked_terms.specs.lemmas.TermLaws.{config_node, pattern_induction, instance_var, instance_app, assigned_var, assigned_app, occurrences_var, occurrences_app}
use Rattle.ranked_terms.specs.lemmas.InstanceLaws.{assigned-agree}
use Rattle.list_laws.proofs.Different.{AreDifferent, front_differs, back_differs, not_in_both}
use Rattle.ta_core.specs.TreeAutomaton.{TreeAutomaton, IsSound}
use Rattle.ta_core.specs.Runs.{Runs}
use Rattle.ta_core.specs.ClosureLaws.{InstancesFactor, InstancesCompose}
use Rattle.list_laws.proofs.Members.{here, none, parts}
use Rattle.ta_core.specs.lemmas.RunsLaws.{run_ends, run_of_app, run_of_state, reached, all_from_zip, zip_from_all}

-- ---- equations

config_var : (θ : ℕ → Term) (v : ℕ) → config_of (instance_of θ (Var v)) ≡ config_of (θ v)
config_var θ v = ap config_of (instance_var θ v)

config_app : (θ : ℕ → Term) (f : ℕ) (ps : List Pattern) → config_of (instance_of θ (App f ps)) ≡ config.App f (map config_of (map (instance_of θ) ps))
config_app θ f ps = ap config_of (instance_app θ f ps) ∙ config_node f (map (instance_of θ) ps)

occurs_self : (v : ℕ) → Contains (occurrences (Var v)) v
occurs_self v = subst (λ vs. Contains vs v) (sym (occurrences_var v)) (here v [])

self_is : (v w : ℕ) → Contains (occurrences (Var v)) w → v ≡ w
self_is v w c = ⊎_elim (λ e. e) (λ no. absurd (none w no)) (parts v w [] (subst (λ vs. Contains vs w) (occurrences_var v) c))

-- the variables of an application are those of its arguments
under : (f : ℕ) (ps : List Pattern) (v : ℕ) → Contains (joined (map occurrences ps)) v → Contains (occurrences (App f ps)) v
under f ps v c = subst (λ vs. Contains vs v) (sym (occurrences_app f ps)) c

within : (f : ℕ) (ps : List Pattern) (v : ℕ) → Contains (occurrences (App f ps)) v → Contains (joined (map occurrences ps)) v
within f ps v c = subst (λ vs. Contains vs v) (occurrences_app f ps) c

-- ---- from the run of an instance to states

abbrev set_at : (ℕ → ℕ) → ℕ → ℕ → ℕ → ℕ
set_at σ v q w = cond (eqb w v) q (σ w)

set_at_self : (σ : ℕ → ℕ) (v q : ℕ) → set_at σ v q v ≡ q
set_at_self σ v q = rw (eq-eqb v v refl)

set_at_other : (σ : ℕ → ℕ) (v q w : ℕ) → (w ≡ v → ⊥) → set_at σ v q w ≡ σ w
set_at_other σ v q w h = rw (ne_eqb w v h)

module _ {A : TreeAutomaton} (sound : IsSound A) (θ : ℕ → Term) where
  -- the states of the variables are those of σ₀ outside the pattern, so the patterns of a list share one assignment
  record Threads (σ₀ : ℕ → ℕ) (p : Pattern) (q : ℕ) : Type 0 where
    pub σ : ℕ → ℕ
    pub terms : (v : ℕ) → Contains (occurrences p) v → Runs A (config_of (θ v)) (σ v)
    pub pattern : Runs A (assigned σ p) q
    pub outside : (v : ℕ) → (Contains (occurrences p) v → ⊥) → σ v ≡ σ₀ v

  record ThreadsAll (σ₀ : ℕ → ℕ) (ps : List Pattern) (qs : List ℕ) : Type 0 where
    pub σ : ℕ → ℕ
    pub terms : (v : ℕ) → Contains (joined (map occurrences ps)) v → Runs A (config_of (θ v)) (σ v)
    pub patterns : AllZip (Runs A) (map (assigned σ) ps) qs
    pub outside : (v : ℕ) → (Contains (joined (map occurrences ps)) v → ⊥) → σ v ≡ σ₀ v

  abbrev IsThreaded : Pattern → Type 0
  IsThreaded p = (σ₀ : ℕ → ℕ) (q : ℕ) → AreDifferent (occurrences p) → Runs A (config_of (instance_of θ p)) q → Threads σ₀ p q

  thread_var : (v : ℕ) → IsThreaded (Var v)
  thread_var v σ₀ q different r =
      let run : Runs A (config_of (θ v)) q = subst (λ c. Runs A c q) (config_var θ v) r in
      let σ = set_at σ₀ v q in
      let self : σ v ≡ q = set_at_self σ₀ v q in
      record {
        σ = σ;
        terms = λ w c. subst (λ x. Runs A (config_of (θ x)) (σ x)) (self_is v w c) (subst (Runs A (config_of (θ v))) (sym self) run);
        pattern = subst (λ c. Runs A c q) (sym (assigned_var σ v)) (subst (λ x. Runs A (config.State x) q) (sym self) (Runs.at (run_ends sound run)));
        outside = λ w no. set_at_other σ₀ v q w (λ e. no (subst (Contains (occurrences (Var v))) (sym e) (occurs_self v)));
      }

  thread_all : (ps : List Pattern) (qs : List ℕ) → AllByRecursion IsThreaded ps → (σ₀ : ℕ → ℕ) → AreDifferent (joined (map occurrences ps)) →
      AllZip (Runs A) (map config_of (map (instance_of θ) ps)) qs → ThreadsAll σ₀ ps qs
  thread_all [] [] each σ₀ different r = record { σ = σ₀; terms = λ v c. absurd (none v c); patterns = tt; outside = λ v no. refl }
  thread_all [] (q ∷ qs) each σ₀ different r = absurd r
  thread_all (p ∷ ps) [] each σ₀ different r = absurd r
  thread_all (p ∷ ps) (q ∷ qs) each σ₀ different r =
      let front = occurrences p in
      let back = joined (map occurrences ps) in
      let a = each.0 σ₀ q (front_differs front back different) r.0 in
      let b = thread_all ps qs each.1 a.σ (back_differs front back different) r.1 in
      let same : (v : ℕ) → Contains front v → a.σ v ≡ b.σ v = λ v c. sym (b.outside v (not_in_both front back v different c)) in
      let alike : assigned a.σ p ≡ assigned b.σ p = assigned-agree a.σ b.σ p (λ k d l. same _ (Contains-get_or front k d l)) in
      record {
        σ = b.σ;
        terms = λ v c. ⊎_elim (λ first. subst (Runs A (config_of (θ v))) (same v first) (a.terms v first)) (λ later. b.terms v later) (Contains-append_cases front back v c);
        patterns = (subst (λ c. Runs A c q) alike a.pattern, b.patterns);
        outside = λ v no. b.outside v (λ c. no (Contains-append_right front back v c)) ∙ a.outside v (λ c. no (Contains-append_left front back v c));
      }

  thread_app : (f : ℕ) (ps : List Pattern) → AllByRecursion IsThreaded ps → IsThreaded (App f ps)
  thread_app f ps each σ₀ q different r =
      let run = run_of_app f (map config_of (map (instance_of θ) ps)) q (subst (λ c. Runs A c q) (config_app θ f ps) r) in
      let a = thread_all ps run.states each σ₀ (subst AreDifferent (occurrences_app f ps) different) (zip_from_all run.args) in
      record {
        σ = a.σ;
        terms = λ v c. a.terms v (within f ps v c);
        pattern = subst (λ c. Runs A c q) (sym (assigned_app a.σ f ps)) (reached (Runs.app (all_from_zip (map (assigned a.σ) ps) run.states a.patterns) run.has) run.on);
        outside = λ v no. a.outside v (λ c. no (under f ps v c));
      }

  thread : (p : Pattern) → IsThreaded p
  thread = pattern_induction IsThreaded thread_var thread_app

pub instances_factor : InstancesFactor
instances_factor A sound θ p q linear r =
    let a = thread sound θ p (λ v. v) q linear r in
    record { σ = a.σ; terms = a.terms; pattern = a.pattern }

-- ---- and back

module _ (A : TreeAutomaton) (θ : ℕ → Term) (σ : ℕ → ℕ) where
  abbrev Composes : Pattern → Type 0
  Composes p = (q : ℕ) → ((v : ℕ) → Contains (occurrences p) v → Runs A (config_of (θ v)) (σ v)) → Runs A (assigned σ p) q → Runs A (config_of (instance_of θ p)) q

  compose_var : (v : ℕ) → Composes (Var v)
  compose_var v q terms r =
      let on = (run_of_state (σ v) q (subst (λ c. Runs A c q) (assigned_var σ v) r)).1 in
      subst (λ c. Runs A c q) (sym (config_var θ v)) (reached (terms v (occurs_self v)) on)

  compose_all : (ps : List Pattern) (qs : List ℕ) → AllByRecursion Composes ps → ((v : ℕ) → Contains (joined (map occurrences ps)) v → Runs A (config_of (θ v)) (σ v)) →
      AllZip (Runs A) (map (assigned σ) ps) qs → AllZip (Runs A) (map config_of (map (instance_of θ) ps)) qs
  compose_all [] [] each terms r = tt
  compose_all [] (q ∷ qs) each terms r = absurd r
  compose_all (p ∷ ps) [] each terms r = absurd r
  compose_all (p ∷ ps) (q ∷ qs) each terms r =
      let front = occurrences p in
      let back = joined (map occurrences ps) in
      (each.0 q (λ v c. terms v (Contains-append_left front back v c)) r.0, compose_all ps qs each.1 (λ v c. terms v (Contains-append_right front back v c)) r.1)

  compose_app : (f : ℕ) (ps : List Pattern) → AllByRecursion Composes ps → Composes (App f ps)
  compose_app f ps each q terms r =
      let run = run_of_app f (map (assigned σ) ps) q (subst (λ c. Runs A c q) (assigned_app σ f ps) r) in
      let all = compose_all ps run.states each (λ v c. terms v (under f ps v c)) (zip_from_all run.args) in
      subst (λ c. Runs A c q) (sym (config_app θ f ps)) (reached (Runs.app (all_from_zip (map config_of (map (instance_of θ) ps)) run.states all) run.has) run.on)

  compose : (p : Pattern) → Composes p
  compose = pattern_induction Composes compose_var compose_app

pub instances_compose : InstancesCompose
instances_compose A θ p q h = compose A θ h.σ p q h.terms h.pattern
