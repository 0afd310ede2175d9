-- Laws of runs.
-- Nobody has to believe this: it is proved, for the proofs of the crates above.
use Rattle.std.proofs.Common.{◌≡◌, ℕ, List, [], ◌∷◌, refl, sym, ap, ◌∙◌, subst}
use Rattle.std.specs.List.{Contains, AllZip}
use Rattle.std.proofs.lemmas.List.Elements.{All-contains}
use Rattle.ranked_terms.specs.declared.term.Config.{Config, State, App, out-Config, roll-Config, roll-out-Config}
use Rattle.ranked_terms.specs.declared.term.Config.TheOpen as open'
use Rattle.ranked_terms.specs.declared.term.Config.TheVariants.{outs-App, outs-State, rolls-App, rolls-State}
use Rattle.ta_core.specs.TreeAutomaton.{TreeAutomaton, IsSound, IsTransOf, IsEpsOf, trans_of}
use Rattle.ta_core.specs.Runs.{Runs, RunsAll, RunsPlain, RunsAllPlain, Reaches}
use Rattle.ta_core.specs.Laws.{IsClosed, IsWithin}
use Rattle.list_laws.proofs.Members.{none}

mutual
  pub runs_within : {A B : TreeAutomaton} (w : IsWithin A B) {c : Config} {q : ℕ} → Runs A c q → Runs B c q
  runs_within w (Runs.at i) = Runs.at (w.states _ i)
  runs_within w (Runs.app r i) = Runs.app (all_within w r) (w.trans _ _ _ i)
  runs_within w (Runs.step r i) = Runs.step (runs_within w r) (w.eps _ _ i)

  pub all_within : {A B : TreeAutomaton} (w : IsWithin A B) {cs : List Config} {qs : List ℕ} → RunsAll A cs qs → RunsAll B cs qs
  all_within w RunsAll.none = RunsAll.none
  all_within w (RunsAll.more r rs) = RunsAll.more (runs_within w r) (all_within w rs)

mutual
  pub run_from_plain : {A : TreeAutomaton} {c : Config} {q : ℕ} → RunsPlain A c q → Runs A c q
  run_from_plain (RunsPlain.at i) = Runs.at i
  run_from_plain (RunsPlain.app r i) = Runs.app (all_from_plain r) i

  pub all_from_plain : {A : TreeAutomaton} {cs : List Config} {qs : List ℕ} → RunsAllPlain A cs qs → RunsAll A cs qs
  all_from_plain RunsAllPlain.none = RunsAll.none
  all_from_plain (RunsAllPlain.more r rs) = RunsAll.more (run_from_plain r) (all_from_plain rs)

-- without its epsilon transitions
abbrev pub plain : TreeAutomaton → TreeAutomaton
plain A = record A { eps = [] }

mutual
  pub run_of_plain : {A : TreeAutomaton} {c : Config} {q : ℕ} → RunsPlain A c q → Runs (plain A) c q
  run_of_plain (RunsPlain.at i) = Runs.at i
  run_of_plain (RunsPlain.app r i) = Runs.app (all_of_plain r) i

  pub all_of_plain : {A : TreeAutomaton} {cs : List Config} {qs : List ℕ} → RunsAllPlain A cs qs → RunsAll (plain A) cs qs
  all_of_plain RunsAllPlain.none = RunsAll.none
  all_of_plain (RunsAllPlain.more r rs) = RunsAll.more (run_of_plain r) (all_of_plain rs)

-- where there is no epsilon transition, runs are plain
module _ {A B : TreeAutomaton} (w : IsWithin A B) (no_eps : (p q : ℕ) → Contains A.eps (p, q) → ⊥) where
  mutual
    pub plain_from_run : {c : Config} {q : ℕ} → Runs A c q → RunsPlain B c q
    plain_from_run (Runs.at i) = RunsPlain.at (w.states _ i)
    plain_from_run (Runs.app r i) = RunsPlain.app (plain_from_all r) (w.trans _ _ _ i)
    plain_from_run (Runs.step r i) = absurd (no_eps _ _ i)

    pub plain_from_all : {cs : List Config} {qs : List ℕ} → RunsAll A cs qs → RunsAllPlain B cs qs
    plain_from_all RunsAll.none = RunsAllPlain.none
    plain_from_all (RunsAll.more r rs) = RunsAllPlain.more (plain_from_run r) (plain_from_all rs)

pub plain_is_within : (A : TreeAutomaton) → IsWithin (plain A) A
plain_is_within A = record { states = λ q i. i; trans = λ f qs q i. i; eps = λ p q i. absurd (none (p, q) i) }

pub plain_of_run : {A : TreeAutomaton} {c : Config} {q : ℕ} → Runs (plain A) c q → RunsPlain A c q
plain_of_run {A = A} r = plain_from_run (plain_is_within A) (λ p q i. none (p, q) i) r

module _ {A : TreeAutomaton} {P : Config → ℕ → Type 0} (closed : IsClosed A P) where
  mutual
    pub least : {c : Config} {q : ℕ} → Runs A c q → P c q
    least (Runs.at i) = closed.at _ i
    least (Runs.app r i) = closed.app _ _ _ _ (least_all r) i
    least (Runs.step r i) = closed.step _ _ _ (least r) i

    pub least_all : {cs : List Config} {qs : List ℕ} → RunsAll A cs qs → AllZip P cs qs
    least_all RunsAll.none = tt
    least_all (RunsAll.more r rs) = (least r, least_all rs)

pub all_from_zip : {A : TreeAutomaton} (cs : List Config) (qs : List ℕ) → AllZip (Runs A) cs qs → RunsAll A cs qs
all_from_zip [] [] h = RunsAll.none
all_from_zip [] (q ∷ qs) h = absurd h
all_from_zip (c ∷ cs) [] h = absurd h
all_from_zip (c ∷ cs) (q ∷ qs) h = RunsAll.more h.0 (all_from_zip cs qs h.1)

pub runs_closed : (A : TreeAutomaton) → IsClosed A (Runs A)
runs_closed A = record {
  at = λ q i. Runs.at i;
  app = λ f q cs qs z i. Runs.app (all_from_zip cs qs z) i;
  step = λ c p q r i. Runs.step r i;
}

pub zip_from_all : {A : TreeAutomaton} {cs : List Config} {qs : List ℕ} → RunsAll A cs qs → AllZip (Runs A) cs qs
zip_from_all {A = A} r = least_all (runs_closed A) r

-- the relation of all configurations to the states
ends : (A : TreeAutomaton) → IsSound A → IsClosed A (λ c q. Contains A.states q)
ends A sound = record {
  at = λ q i. i;
  app = λ f q cs qs z i. (All-contains (IsTransOf A.states) A.trans (trans_of f qs q) sound.trans i).to;
  step = λ c p q r i. (All-contains (IsEpsOf A.states) A.eps (p, q) sound.eps i).to;
}

pub run_ends : {A : TreeAutomaton} → IsSound A → {c : Config} {q : ℕ} → Runs A c q → Contains A.states q
run_ends {A = A} sound r = least (ends A sound) r

-- ---- inversion

-- what the first step of a run shows, by the form of the configuration
abbrev pub Enters : TreeAutomaton → open'.Config-F Config → ℕ → Type 0
Enters A (open'.State p) q = (p ≡ q) × Contains A.states q
Enters A (open'.App f cs) q = (qs : List ℕ) × RunsAll A cs qs × Contains A.trans (trans_of f qs q)

-- a run is a first step and then epsilon transitions
pub inverted : {A : TreeAutomaton} {c : Config} {q : ℕ} → Runs A c q → (p : ℕ) × Enters A (out-Config c) p × Reaches A p q
inverted {A = A} (Runs.at {q = q} i) = (q, subst (λ o. Enters A o q) (sym (outs-State q)) (refl, i), Reaches.here)
inverted {A = A} (Runs.app {f = f} {q = q} {cs = cs} {qs = qs} r i) = (q, subst (λ o. Enters A o q) (sym (outs-App f cs)) (qs, r, i), Reaches.here)
inverted (Runs.step r i) = let h = inverted r in (h.0, h.1, Reaches.on h.2 i)

-- and back
pub reached : {A : TreeAutomaton} {c : Config} {p q : ℕ} → Runs A c p → Reaches A p q → Runs A c q
reached r Reaches.here = r
reached r (Reaches.on h i) = Runs.step (reached r h) i

pub entered : {A : TreeAutomaton} (c : Config) (q : ℕ) (o : open'.Config-F Config) → out-Config c ≡ o → Enters A o q → Runs A c q
entered {A = A} c q (open'.State p) e h =
    subst (λ c. Runs A c q) (sym (rolls-State p) ∙ ap roll-Config (sym e) ∙ roll-out-Config c) (subst (λ x. Runs A (State x) q) (sym h.0) (Runs.at h.1))
entered {A = A} c q (open'.App f cs) e h =
    subst (λ c. Runs A c q) (sym (rolls-App f cs) ∙ ap roll-Config (sym e) ∙ roll-out-Config c) (Runs.app h.1 h.2)

-- what a run of a state, and of an application, shows
pub run_of_state : {A : TreeAutomaton} (p q : ℕ) → Runs A (State p) q → Contains A.states p × Reaches A p q
run_of_state {A = A} p q r =
    let h = inverted r in
    let first = subst (λ o. Enters A o h.0) (outs-State p) h.1 in
    (subst (Contains A.states) (sym first.0) first.1, subst (λ x. Reaches A x q) (sym first.0) h.2)

pub record AppRun (A : TreeAutomaton) (f : ℕ) (cs : List Config) (q : ℕ) : Type 0 where
  pub states : List ℕ
  pub target : ℕ
  pub args : RunsAll A cs states
  pub has : Contains A.trans (trans_of f states target)
  pub on : Reaches A target q

pub run_of_app : {A : TreeAutomaton} (f : ℕ) (cs : List Config) (q : ℕ) → Runs A (App f cs) q → AppRun A f cs q
run_of_app {A = A} f cs q r =
    let h = inverted r in
    let first = subst (λ o. Enters A o h.0) (outs-App f cs) h.1 in
    record { states = first.0; target = h.0; args = first.1; has = first.2; on = h.2 }

-- the same of a run without epsilon transitions
abbrev pub EntersPlain : TreeAutomaton → open'.Config-F Config → ℕ → Type 0
EntersPlain A (open'.State p) q = (p ≡ q) × Contains A.states q
EntersPlain A (open'.App f cs) q = (qs : List ℕ) × RunsAllPlain A cs qs × Contains A.trans (trans_of f qs q)

pub inverted_plain : {A : TreeAutomaton} {c : Config} {q : ℕ} → RunsPlain A c q → EntersPlain A (out-Config c) q
inverted_plain {A = A} (RunsPlain.at {q = q} i) = subst (λ o. EntersPlain A o q) (sym (outs-State q)) (refl, i)
inverted_plain {A = A} (RunsPlain.app {f = f} {q = q} {cs = cs} {qs = qs} r i) = subst (λ o. EntersPlain A o q) (sym (outs-App f cs)) (qs, r, i)
