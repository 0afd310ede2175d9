-- What runs in an automaton runs in each one that contains it, and each automaton contains itself.
use Rattle.std.proofs.Common.{◌≡◌, ℕ, ◌<◌, List, [], ◌∷◌, map, Contains, sym, ◌∙◌, subst, arith}
use Rattle.std.specs.List.{AllByRecursion, AllZip, range_with_len}
use Rattle.std.proofs.lemmas.List.Elements.{All-contains}
use Rattle.std.proofs.lemmas.List.FromFn.{get_or-range_with_len, length-range_with_len}
use Rattle.ranked_terms.specs.Terms.{node, config_of}
use Rattle.ranked_terms.specs.declared.term.Term.{Term}
use Rattle.ranked_terms.specs.declared.term.Config.{Config, State, App}
use Rattle.ranked_terms.specs.lemmas.TermLaws.{config_node, term_induction}
use Rattle.ta_core.specs.TreeAutomaton.{TreeAutomaton, IsSound, IsTransOf, IsEpsOf, trans_of}
use Rattle.ta_core.specs.Runs.{Runs, RunsAll, Reaches}
use Rattle.ta_core.specs.Acceptance.{IsContained, StateHolds, TransHolds, EpsHolds, FinalHolds, image}
use Rattle.ta_core.specs.AcceptanceLaws.{ContainedKeepsRuns, ContainedKeepsAccepted, ContainsItself}
use Rattle.list_laws.proofs.Members.{all_from_members, here, there}
use Rattle.ta_core.specs.lemmas.RunsLaws.{run_of_app, run_of_state, reached, all_from_zip, zip_from_all}

-- ---- runs

-- the states that states go to, as configurations
abbrev images : List ℕ → List ℕ → List Config
images h qs = map (λ p. State (image h p)) qs

module _ {A₀ A : TreeAutomaton} {h : List ℕ} (contained : IsContained A₀ A h) where
  reaches_on : {p q : ℕ} → Reaches A₀ p q → (c : Config) → Runs A c (image h p) → Runs A c (image h q)
  reaches_on Reaches.here c r = r
  reaches_on (Reaches.on {q = p} {r = q} before i) c r = reached (reaches_on before c r) (run_of_state (image h p) (image h q) (All-contains (EpsHolds A h) A₀.eps (p, q) contained.eps i)).1

  abbrev IsKept : Term → Type 0
  IsKept t = (q : ℕ) → Runs A₀ (config_of t) q → Runs A (config_of t) (image h q)

  -- the arguments' runs take the places of the states
  all_kept : (ts : List Term) (qs rs : List ℕ) → AllByRecursion IsKept ts → AllZip (Runs A₀) (map config_of ts) qs → AllZip (Runs A) (images h qs) rs → AllZip (Runs A) (map config_of ts) rs
  all_kept [] [] rs each args on = on
  all_kept [] (q ∷ qs) rs each args on = absurd args
  all_kept (t ∷ ts) [] rs each args on = absurd args
  all_kept (t ∷ ts) (q ∷ qs) [] each args on = absurd on
  all_kept (t ∷ ts) (q ∷ qs) (r ∷ rs) each args on =
      (reached (each.0 q args.0) (run_of_state (image h q) r on.0).1, all_kept ts qs rs each.1 args.1 on.1)

  node_kept : (f : ℕ) (ts : List Term) → AllByRecursion IsKept ts → IsKept (node f ts)
  node_kept f ts each q r =
      let run = run_of_app f (map config_of ts) q (subst (λ c. Runs A₀ c q) (config_node f ts) r) in
      let mapped = run_of_app f (images h run.states) (image h run.target) (All-contains (TransHolds A h) A₀.trans (trans_of f run.states run.target) contained.trans run.has) in
      let args = all_kept ts run.states mapped.states each (zip_from_all run.args) (zip_from_all mapped.args) in
      let first : Runs A (App f (map config_of ts)) (image h run.target) = reached (Runs.app (all_from_zip (map config_of ts) mapped.states args) mapped.has) mapped.on in
      subst (λ c. Runs A c (image h q)) (sym (config_node f ts)) (reaches_on run.on (App f (map config_of ts)) first)

  kept : (t : Term) → IsKept t
  kept = term_induction IsKept node_kept

pub contained_keeps_runs : ContainedKeepsRuns
contained_keeps_runs A₀ A h contained t q r = kept contained t q r

pub contained_keeps_accepted : ContainedKeepsAccepted
contained_keeps_accepted A₀ A h contained t accepts =
    record { state = image h accepts.state; runs = kept contained t accepts.state accepts.runs; final = All-contains (FinalHolds A h) A₀.finals accepts.state contained.finals accepts.final }

-- ---- each automaton contains itself

stays : (next q : ℕ) → q < next → image (range_with_len 0 next) q ≡ q
stays next q below = get_or-range_with_len 0 next q 0 below ∙ omega arith

module _ (A : TreeAutomaton) (sound : IsSound A) where
  abbrev same : List ℕ
  same = range_with_len 0 A.next

  state_stays : (q : ℕ) → Contains A.states q → image same q ≡ q
  state_stays q c = stays A.next q (All-contains (λ q. q < A.next) A.states q sound.below c)

  -- what a state goes to runs to the state
  state_runs : (q : ℕ) → Contains A.states q → Runs A (State (image same q)) q
  state_runs q c = subst (λ p. Runs A (State p) q) (sym (state_stays q c)) (Runs.at c)

  states_run : (qs : List ℕ) → ((q : ℕ) → Contains qs q → Contains A.states q) → RunsAll A (images same qs) qs
  states_run [] are = RunsAll.none
  states_run (q ∷ qs) are = RunsAll.more (state_runs q (are q (here q qs))) (states_run qs (λ p c. are p (there q p qs c)))

  to_same : (c : Config) (q : ℕ) → Contains A.states q → Runs A c q → Runs A c (image same q)
  to_same c q is r = subst (Runs A c) (sym (state_stays q is)) r

  itself : IsContained A A same
  itself = record {
    each_state = omega (arith, length-range_with_len 0 A.next);
    states = all_from_members (StateHolds A same) A.states (λ q c. subst (Contains A.states) (sym (state_stays q c)) c);
    trans = all_from_members (TransHolds A same) A.trans (λ t i.
        let is = All-contains (IsTransOf A.states) A.trans t sound.trans i in
        to_same (App t.sym (images same t.args)) t.to is.to (Runs.app (states_run t.args (λ p c. All-contains (Contains A.states) t.args p is.args c)) i));
    eps = all_from_members (EpsHolds A same) A.eps (λ e i.
        let is = All-contains (IsEpsOf A.states) A.eps e sound.eps i in
        to_same (State (image same e.0)) e.1 is.to (Runs.step (state_runs e.0 is.from) i));
    finals = all_from_members (FinalHolds A same) A.finals (λ q i. subst (Contains A.finals) (sym (state_stays q (All-contains (Contains A.states) A.finals q sound.finals i))) i);
  }

pub contains_itself : ContainsItself
contains_itself A sound = itself A sound
