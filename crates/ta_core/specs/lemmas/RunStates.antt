-- From the states of the arguments to the states of an application.
-- Nobody has to believe this: it is proved, for the proofs of the crates above.
use Rattle.std.proofs.Common.{◌≡◌, ℕ, ◌↔◌, ◌==◌, List, [], ◌∷◌, ◌++◌, map, Result, Ok, Err, IfOk, refl, sym, ap, ◌∙◌, subst, inl, inr, ⊎_elim}
use Rattle.std.specs.List.{Contains, AllZip}
use Rattle.std.proofs.lemmas.List.Elements.{Contains-push_cases, Contains-append_left, Contains-push}
use Rattle.indexmap.specs.IndexSet.{insert_key}
use Rattle.ranked_terms.specs.Terms.{config_of, config_step}
use Rattle.ranked_terms.specs.declared.term.Term.{Term}
use Rattle.ranked_terms.specs.declared.term.Term.TheViews.{out-Term, roll-out-Term}
use Rattle.ranked_terms.specs.declared.term.Term.TheFolds.{fold-roll-Term}
use Rattle.ranked_terms.specs.declared.term.Config.{Config, State, App}
use Rattle.ta_core.specs.TreeAutomaton.{TreeAutomaton, trans_of}
use Rattle.ta_core.specs.Runs.{Runs, RunsAll}
use Rattle.ta_core.specs.Reached.{ReachedFrom, HasTransInto, EntersAndReaches}
use Rattle.ta_core.specs.declared.trans.Trans.{Trans}
use Rattle.list_laws.proofs.Members.{none, here, parts}
use Rattle.list_laws.proofs.Growing.{members_insert}
use Rattle.ta_core.specs.lemmas.RunsLaws.{reached, run_of_app, run_of_state}

-- a list whose members are given in other words
pub exact_by : {E : Type 0} (Q P : ℕ → Type 0) → ((q : ℕ) → Q q ↔ P q) → (r : Result (List ℕ) E) → IfOk r (λ all. (q : ℕ) → Contains all q ↔ Q q) → IfOk r (λ all. (q : ℕ) → Contains all q ↔ P q)
exact_by Q P same (Ok all) h = λ q. (λ i. (same q).0 ((h q).0 i), λ p. (h q).1 ((same q).1 p))
exact_by Q P same (Err e) h = tt

-- ---- targets

-- one more transition
module _ (done : List Trans) (t : Trans) (sym' : ℕ) (sets : List (List ℕ)) (all : List ℕ) (exact : (q : ℕ) → Contains all q ↔ HasTransInto done sym' sets q) where
  later : (q : ℕ) → HasTransInto done sym' sets q → HasTransInto (done ++ t ∷ []) sym' sets q
  later q h = record { args = h.args; fit = h.fit; has = Contains-append_left done (t ∷ []) (trans_of sym' h.args q) h.has }

  pub trans_fits : (next : List ℕ) → t.sym ≡ sym' → AllZip Contains sets t.args → next ≡ insert_key ◌==◌ all t.to → (q : ℕ) → Contains next q ↔ HasTransInto (done ++ t ∷ []) sym' sets q
  trans_fits next e fit is q =
      let inserted = members_insert all t.to q in (
        λ c. ⊎_elim
            (λ before. later q ((exact q).0 before))
            (λ here. record { args = t.args; fit = fit; has = subst (Contains (done ++ t ∷ [])) (ap (λ s. trans_of s t.args t.to) e ∙ ap (trans_of sym' t.args) here) (Contains-push done t) })
            (inserted.0 (subst (λ xs. Contains xs q) is c)),
        λ h. subst (λ xs. Contains xs q) (sym is) (inserted.1 (⊎_elim
            (λ before. inl ((exact q).1 (record { args = h.args; fit = h.fit; has = before })))
            (λ here. inr (ap (λ (x : Trans). x.to) here))
            (Contains-push_cases done t (trans_of sym' h.args q) h.has))),
      )

  pub trans_skipped : (AllZip Contains sets t.args → ⊥) → (q : ℕ) → Contains all q ↔ HasTransInto (done ++ t ∷ []) sym' sets q
  trans_skipped unfit q = (
    λ c. later q ((exact q).0 c),
    λ h. ⊎_elim
        (λ before. (exact q).1 (record { args = h.args; fit = h.fit; has = before }))
        (λ here. absurd (unfit (subst (AllZip Contains sets) (sym (ap (λ (x : Trans). x.args) here)) h.fit)))
        (Contains-push_cases done t (trans_of sym' h.args q) h.has),
  )

-- the transitions of the symbol are enough
pub into_from_range : (trans range : List Trans) (f : ℕ) (sets : List (List ℕ)) → ((t : Trans) → Contains range t ↔ (Contains trans t × (t.sym ≡ f))) → (q : ℕ) → HasTransInto range f sets q ↔ HasTransInto trans f sets q
into_from_range trans range f sets members q = (
  λ h. record { args = h.args; fit = h.fit; has = ((members (trans_of f h.args q)).0 h.has).0 },
  λ h. record { args = h.args; fit = h.fit; has = (members (trans_of f h.args q)).1 (h.has, refl) },
)

-- ---- from the arguments to the application

-- each set has exactly the states of its configuration
abbrev pub AreExact : TreeAutomaton → List Config → List (List ℕ) → Type 0
AreExact A cs sets = AllZip (λ c set. (q : ℕ) → Contains set q ↔ Runs A c q) cs sets

pub exact_more : (A : TreeAutomaton) (cs : List Config) (sets : List (List ℕ)) (c : Config) (set : List ℕ) → AreExact A cs sets → ((q : ℕ) → Contains set q ↔ Runs A c q) → AreExact A (cs ++ c ∷ []) (sets ++ set ∷ [])
exact_more A [] [] c set e h = (h, tt)
exact_more A [] (s ∷ sets) c set e h = absurd e
exact_more A (x ∷ cs) [] c set e h = absurd e
exact_more A (x ∷ cs) (s ∷ sets) c set e h = (e.0, exact_more A cs sets c set e.1 h)

members_run : (A : TreeAutomaton) (cs : List Config) (sets : List (List ℕ)) (qs : List ℕ) → AreExact A cs sets → AllZip Contains sets qs → RunsAll A cs qs
members_run A [] [] [] e z = RunsAll.none
members_run A [] [] (q ∷ qs) e z = absurd z
members_run A [] (s ∷ sets) qs e z = absurd e
members_run A (c ∷ cs) [] qs e z = absurd e
members_run A (c ∷ cs) (s ∷ sets) [] e z = absurd z
members_run A (c ∷ cs) (s ∷ sets) (q ∷ qs) e z = RunsAll.more ((e.0 q).0 z.0) (members_run A cs sets qs e.1 z.1)

run_members : (A : TreeAutomaton) {cs : List Config} {qs : List ℕ} (sets : List (List ℕ)) → AreExact A cs sets → RunsAll A cs qs → AllZip Contains sets qs
run_members A [] e RunsAll.none = tt
run_members A (s ∷ sets) e RunsAll.none = absurd e
run_members A [] e (RunsAll.more r rs) = absurd e
run_members A (s ∷ sets) e (RunsAll.more r rs) = ((e.0 _).1 r, run_members A sets e.1 rs)

pub runs_of_app : (A : TreeAutomaton) (f : ℕ) (cs : List Config) (sets : List (List ℕ)) → AreExact A cs sets → (q : ℕ) → EntersAndReaches A f sets q ↔ Runs A (App f cs) q
runs_of_app A f cs sets exact q = (
  λ h. reached (Runs.app (members_run A cs sets h.enters.args exact h.enters.fit) h.enters.has) h.reaches,
  λ r. let a = run_of_app f cs q r in record { target = a.target; enters = record { args = a.states; fit = run_members A sets exact a.args; has = a.has }; reaches = a.on },
)

-- from the targets on
pub entered_and_reached : (A : TreeAutomaton) (f : ℕ) (sets : List (List ℕ)) (set : List ℕ) → ((q : ℕ) → Contains set q ↔ HasTransInto A.trans f sets q) → (q : ℕ) → ReachedFrom A set q ↔ EntersAndReaches A f sets q
entered_and_reached A f sets set exact q = (
  λ h. record { target = h.start; enters = (exact h.start).0 h.starts; reaches = h.reaches },
  λ h. record { start = h.target; starts = (exact h.target).1 h.enters; reaches = h.reaches },
)

-- a ground term as a configuration
pub config_is : (t : Term) → config_of t ≡ App (out-Term t).sym (map config_of (out-Term t).args)
config_is t = ap config_of (sym (roll-out-Term t)) ∙ fold-roll-Term Config config_step (out-Term t)

-- ---- a state

pub one_state : (states : List ℕ) (p : ℕ) (set : List ℕ) → Contains states p → set ≡ p ∷ [] → (x : ℕ) → Contains set x ↔ ((p ≡ x) × Contains states x)
one_state states p set i e x =
    subst (λ set. Contains set x ↔ ((p ≡ x) × Contains states x)) (sym e)
    (λ c. ⊎_elim (λ same. (same, subst (Contains states) same i)) (λ t. absurd (none x t)) (parts p x [] c), λ h. subst (Contains (p ∷ [])) h.0 (here p []))

pub runs_of_state : (A : TreeAutomaton) (p : ℕ) (set : List ℕ) → ((x : ℕ) → Contains set x ↔ ((p ≡ x) × Contains A.states x)) → (q : ℕ) → ReachedFrom A set q ↔ Runs A (State p) q
runs_of_state A p set exact q = (
  λ h. let i = (exact h.start).0 h.starts in reached (subst (λ x. Runs A (State x) h.start) (sym i.0) (Runs.at i.1)) h.reaches,
  λ r. let h = run_of_state p q r in record { start = p; starts = (exact p).1 (refl, h.0); reaches = h.1 },
)
