-- An automaton that is closed under left-linear rules keeps its runs along their steps; and lists of states do for all assignments.
use Rattle.std.proofs.Common.{◌≡◌, ℕ, ◌-◌, List, [], ◌∷◌, ◌++◌, map, length, slice_get, Some, All, Contains, refl, sym, subst, ◌∙◌, arith}
use Rattle.std.specs.List.{AllZip}
use Rattle.std.proofs.lemmas.List.Elements.{Contains-get_or}
use Rattle.ranked_terms.specs.Terms.{instance_of, config_of}
use Rattle.ranked_terms.specs.declared.term.Term.{Term}
use Rattle.ranked_terms.specs.lemmas.TermLaws.{config_node}
use Rattle.trs_rules.specs.Rules.{RewriteRule, IsRule}
use Rattle.trs_rules.specs.Steps.{Step, at_root, inside, Chain, one, more}
use Rattle.list_laws.proofs.Ends.{last_cons}
use Rattle.list_laws.proofs.Members.{at_place}
use Rattle.ta_core.specs.lemmas.Assignments.{occurs_left, closed_at_list, closed_from_lists}
use Rattle.ta_core.specs.TreeAutomaton.{TreeAutomaton, IsSound}
use Rattle.ta_core.specs.Runs.{Runs}
use Rattle.ta_core.specs.Closure.{IsClosedUnder, Closed}
use Rattle.ta_core.specs.ClosureLaws.{ClosedKeepsRuns, ClosedAcceptsReached, ClosedByLists}
use Rattle.ta_core.proofs.closure.Factor.{instances_factor, instances_compose}
use Rattle.ta_core.specs.lemmas.RunsLaws.{run_ends, run_of_app, reached, all_from_zip, zip_from_all}

-- ---- steps

-- a step at the root
root_keeps : (A : TreeAutomaton) → IsSound A → (rule : RewriteRule) → IsRule rule → IsClosedUnder A rule → (θ : ℕ → Term) (q : ℕ) →
    Runs A (config_of (instance_of θ rule.left)) q → Runs A (config_of (instance_of θ rule.right)) q
root_keeps A sound rule is closed θ q r =
    let a = instances_factor A sound θ rule.left q is.left_is_linear r in
    let each : All (λ v. Contains A.states (a.σ v)) rule.vars = λ k d l. run_ends sound (a.terms _ (occurs_left rule is _ (Contains-get_or rule.vars k d l))) in
    instances_compose A θ rule.right q (record { σ = a.σ; terms = λ v c. a.terms v (is.right_is_bound v c); pattern = closed a.σ each q a.pattern })

-- one argument is another one, which runs to each state to which the first one runs
change_one : (A : TreeAutomaton) (u v : Term) → ((q : ℕ) → Runs A (config_of u) q → Runs A (config_of v) q) → (before after : List Term) (qs : List ℕ) →
    AllZip (Runs A) (map config_of (before ++ u ∷ after)) qs → AllZip (Runs A) (map config_of (before ++ v ∷ after)) qs
change_one A u v keeps [] after [] r = absurd r
change_one A u v keeps [] after (q ∷ qs) r = (keeps q r.0, r.1)
change_one A u v keeps (t ∷ before) after [] r = absurd r
change_one A u v keeps (t ∷ before) after (q ∷ qs) r = (r.0, change_one A u v keeps before after qs r.1)

module _ {A : TreeAutomaton} (sound : IsSound A) {R : List RewriteRule} (rules : All IsRule R) (closed : Closed A R) where
  step_keeps : {s t : Term} → Step R s t → (q : ℕ) → Runs A (config_of s) q → Runs A (config_of t) q
  step_keeps (at_root i h) q r =
      let is = at_place IsRule R i h.rule rules h.is_rule in
      let kept = root_keeps A sound h.rule is (at_place (IsClosedUnder A) R i h.rule closed h.is_rule) h.θ q in
      subst (λ t. Runs A (config_of t) q) (sym h.to) (kept (subst (λ s. Runs A (config_of s) q) h.from r))
  step_keeps (inside {u} {v} f before after h) q r =
      let run = run_of_app f (map config_of (before ++ u ∷ after)) q (subst (λ c. Runs A c q) (config_node f (before ++ u ∷ after)) r) in
      let args = change_one A u v (step_keeps h) before after run.states (zip_from_all run.args) in
      subst (λ c. Runs A c q) (sym (config_node f (before ++ v ∷ after)))
      (reached (Runs.app (all_from_zip (map config_of (before ++ v ∷ after)) run.states args) run.has) run.on)

  chain_keeps : {ts : List Term} → Chain R ts → (s t : Term) → slice_get ts 0 ≡ Some s → slice_get ts (length ts - 1) ≡ Some t → (q : ℕ) → Runs A (config_of s) q → Runs A (config_of t) q
  chain_keeps (one x) s t b e q r =
      let same : s ≡ t = cc in
      subst (λ x. Runs A (config_of x) q) same r
  chain_keeps (more {s = x} {t = y} {ts = ts} h c) s t b e q r =
      let same : s ≡ x = cc in
      chain_keeps c y t refl (sym (last_cons x (y ∷ ts) (omega arith)) ∙ e) q (step_keeps h q (subst (λ x. Runs A (config_of x) q) same r))

pub closed_keeps_runs : ClosedKeepsRuns
closed_keeps_runs A R sound rules closed s t q leads r = chain_keeps sound rules closed leads.chain s t leads.begins leads.ends q r

pub closed_accepts_reached : ClosedAcceptsReached
closed_accepts_reached A R sound rules closed s t accepts leads =
    record { state = accepts.state; runs = closed_keeps_runs A R sound rules closed s t accepts.state leads accepts.runs; final = accepts.final }

-- ---- lists of states

pub closed_by_lists : ClosedByLists
closed_by_lists A rule is = (closed_at_list A rule, closed_from_lists A rule is)
