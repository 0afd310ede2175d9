-- From the states of the arguments to the states of an application, without epsilon transitions.
-- Nobody has to believe this: it is proved, for the proofs of the crates above.
use Rattle.std.proofs.Common.{◌≡◌, ◌↔◌, ℕ, List, [], ◌∷◌, ◌++◌, sym, subst}
use Rattle.std.specs.List.{Contains, AllZip}
use Rattle.ranked_terms.specs.declared.term.Config.{Config, State, App}
use Rattle.ranked_terms.specs.declared.term.Config.TheVariants.{outs-App, outs-State}
use Rattle.ta_core.specs.TreeAutomaton.{TreeAutomaton}
use Rattle.ta_core.specs.Runs.{RunsPlain, RunsAllPlain}
use Rattle.ta_core.specs.Reached.{HasTransInto}
use Rattle.ta_core.specs.lemmas.RunsLaws.{EntersPlain, inverted_plain}

-- each set has exactly the states of its configuration
abbrev pub ArePlain : TreeAutomaton → List Config → List (List ℕ) → Type 0
ArePlain A cs sets = AllZip (λ c set. (q : ℕ) → Contains set q ↔ RunsPlain A c q) cs sets

pub plain_more : (A : TreeAutomaton) (cs : List Config) (sets : List (List ℕ)) (c : Config) (set : List ℕ) → ArePlain A cs sets → ((q : ℕ) → Contains set q ↔ RunsPlain A c q) → ArePlain A (cs ++ c ∷ []) (sets ++ set ∷ [])
plain_more A [] [] c set e h = (h, tt)
plain_more A [] (s ∷ sets) c set e h = absurd e
plain_more A (x ∷ cs) [] c set e h = absurd e
plain_more A (x ∷ cs) (s ∷ sets) c set e h = (e.0, plain_more A cs sets c set e.1 h)

members_run : (A : TreeAutomaton) (cs : List Config) (sets : List (List ℕ)) (qs : List ℕ) → ArePlain A cs sets → AllZip Contains sets qs → RunsAllPlain A cs qs
members_run A [] [] [] e z = RunsAllPlain.none
members_run A [] [] (q ∷ qs) e z = absurd z
members_run A [] (s ∷ sets) qs e z = absurd e
members_run A (c ∷ cs) [] qs e z = absurd e
members_run A (c ∷ cs) (s ∷ sets) [] e z = absurd z
members_run A (c ∷ cs) (s ∷ sets) (q ∷ qs) e z = RunsAllPlain.more ((e.0 q).0 z.0) (members_run A cs sets qs e.1 z.1)

run_members : (A : TreeAutomaton) {cs : List Config} {qs : List ℕ} (sets : List (List ℕ)) → ArePlain A cs sets → RunsAllPlain A cs qs → AllZip Contains sets qs
run_members A [] e RunsAllPlain.none = tt
run_members A (s ∷ sets) e RunsAllPlain.none = absurd e
run_members A [] e (RunsAllPlain.more r rs) = absurd e
run_members A (s ∷ sets) e (RunsAllPlain.more r rs) = ((e.0 _).1 r, run_members A sets e.1 rs)

pub plain_of_app : (A : TreeAutomaton) (f : ℕ) (cs : List Config) (sets : List (List ℕ)) → ArePlain A cs sets → (q : ℕ) → HasTransInto A.trans f sets q ↔ RunsPlain A (App f cs) q
plain_of_app A f cs sets exact q = (
  λ h. RunsPlain.app (members_run A cs sets h.args exact h.fit) h.has,
  λ r.
      let first = subst (λ o. EntersPlain A o q) (outs-App f cs) (inverted_plain r) in
      record { args = first.0; fit = run_members A sets exact first.1; has = first.2 },
)

pub plain_of_state : (A : TreeAutomaton) (p q : ℕ) → ((p ≡ q) × Contains A.states q) ↔ RunsPlain A (State p) q
plain_of_state A p q = (
  λ h. subst (λ x. RunsPlain A (State x) q) (sym h.0) (RunsPlain.at h.1),
  λ r. subst (λ o. EntersPlain A o q) (outs-State p) (inverted_plain r),
)
