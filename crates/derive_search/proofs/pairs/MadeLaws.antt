-- When all pairs that are lower than the height are taken, each term of at most the height is there with its states.
use Rattle.std.proofs.Common.{ℕ, ◌<◌, ◌≤◌, List, [], ◌∷◌, map, refl, sym, subst, arith}
use Rattle.std.specs.List.{AllByRecursion, AllZip, Contains}
use Rattle.ranked_terms.specs.Terms.{node, height_of, greatest, config_of}
use Rattle.ranked_terms.specs.declared.term.Term.{Term}
use Rattle.ranked_terms.specs.lemmas.TermLaws.{height_node, config_node, term_induction}
use Rattle.ta_core.specs.TreeAutomaton.{TreeAutomaton}
use Rattle.ta_core.specs.Runs.{Runs, RunsAll}
use Rattle.ta_core.specs.lemmas.RunsLaws.{run_of_app, reached}
use Rattle.derive_search.specs.Starts.{IsLowRun}
use Rattle.derive_search.specs.Made.{IsMade, AreTaken}

module _ (A : TreeAutomaton) (height : ℕ) (taken pairs : List (ℕ × Term)) (all : AreTaken A height taken pairs) where
  abbrev IsThere : Term → Type 0
  IsThere t = (q : ℕ) → height_of t ≤ height → Runs A (config_of t) q → Contains pairs (q, t)

  args_taken : (ts : List Term) → AllByRecursion IsThere ts → greatest (map height_of ts) < height → (qs : List ℕ) → RunsAll A (map config_of ts) qs → AllZip (λ p u. Contains taken (p, u)) qs ts
  args_taken [] each low [] RunsAll.none = tt
  args_taken [] each low (q ∷ qs) x = elim x [ ]
  args_taken (t ∷ ts) each low [] x = elim x [ ]
  args_taken (t ∷ ts) each low (q ∷ qs) (RunsAll.more r rs) = (
    all.low (q, t) (each.0 q (omega (arith, low)) r) (omega (arith, low)),
    args_taken ts each.1 (omega (arith, low)) qs rs,
  )

  there : (t : Term) → IsThere t
  there = term_induction IsThere (λ f ts each q low r.
      let a = run_of_app f (map config_of ts) q (subst (λ c. Runs A c q) (config_node f ts) r) in
      all.made (q, node f ts) (record {
        sym = f;
        states = a.states;
        args = ts;
        target = a.target;
        has = a.has;
        fit = args_taken ts each (omega (arith, low, height_node f ts)) a.states a.args;
        on = a.on;
        is = refl;
      }))

  pub each_low_run : (pair : ℕ × Term) → IsLowRun A height pair → Contains pairs pair
  each_low_run pair h = there pair.1 pair.0 h.low h.runs

-- and what is made of terms that run is a run
fit_runs : (A : TreeAutomaton) (pairs : List (ℕ × Term)) → ((pair : ℕ × Term) → Contains pairs pair → Runs A (config_of pair.1) pair.0) → (qs : List ℕ) (ts : List Term) → AllZip (λ p u. Contains pairs (p, u)) qs ts → RunsAll A (map config_of ts) qs
fit_runs A pairs all [] [] z = RunsAll.none
fit_runs A pairs all [] (t ∷ ts) z = absurd z
fit_runs A pairs all (q ∷ qs) [] z = absurd z
fit_runs A pairs all (q ∷ qs) (t ∷ ts) z = RunsAll.more (all (q, t) z.0) (fit_runs A pairs all qs ts z.1)

pub made_runs : (A : TreeAutomaton) (pairs : List (ℕ × Term)) → ((pair : ℕ × Term) → Contains pairs pair → Runs A (config_of pair.1) pair.0) → (pair : ℕ × Term) → IsMade A pairs pair → Runs A (config_of pair.1) pair.0
made_runs A pairs all pair m =
    subst (λ t. Runs A (config_of t) pair.0) (sym m.is) (subst (λ c. Runs A c pair.0) (sym (config_node m.sym m.args)) (reached (Runs.app (fit_runs A pairs all m.states m.args m.fit) m.has) m.on))
