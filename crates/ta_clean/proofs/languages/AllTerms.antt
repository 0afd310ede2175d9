-- Each ground term that runs by an automaton runs by the one of all terms over its symbols.
use Rattle.std.proofs.Common.{◌≡◌, ◌↔◌, ◌+◌, ◌<◌, ◌≤◌, ℕ, List, [], ◌∷◌, ◌++◌, length, get_or, take, map, replicate, All, Contains, refl, sym, ap, subst, ◌∙◌, ⊎_elim}
use Rattle.std.specs.List.{AllZip, AllByRecursion}
use Rattle.std.specs.Ordering.{nat_cmp}
use Rattle.std.specs.List.Sorted.{IsStrictlySortedBy}
use Rattle.std.proofs.lemmas.List.{take_more, take_all}
use Rattle.std.proofs.lemmas.List.Elements.{All-nil, All-cons, Contains-push_cases, Contains-append_left, Contains-push}
use Rattle.ranked_terms.specs.Terms.{node, config_of}
use Rattle.ranked_terms.specs.declared.term.Term.{Term}
use Rattle.ranked_terms.specs.lemmas.TermLaws.{config_node, term_induction}
use Rattle.ta_core.specs.TreeAutomaton.{TreeAutomaton, IsSound, trans_of}
use Rattle.ta_core.specs.declared.trans.Trans.{Trans}
use Rattle.ta_core.specs.Runs.{Runs, RunsAll}
use Rattle.ta_core.specs.Languages.{Accepts}
use Rattle.ta_core.specs.lemmas.RunsLaws.{run_ends, run_of_app, zip_from_all}
use Rattle.ta_core.specs.Meeting.{Meets}
use Rattle.ta_clean.specs.Meeting.{IsCommon}
use Rattle.ta_clean.specs.Tables.{Table, IsMarked}
use Rattle.ta_clean.specs.Productive.{IsProductive, HasAllTerms}

module _ (A U : TreeAutomaton) (has : HasAllTerms A.trans U) where
  abbrev RunsToo : Term → Type 0
  RunsToo t = (q : ℕ) → Runs A (config_of t) q → Runs U (config_of t) 0

  all_zero : (ts : List Term) (qs : List ℕ) → AllByRecursion RunsToo ts → AllZip (Runs A) (map config_of ts) qs → RunsAll U (map config_of ts) (map {B = ℕ} (λ _. 0) qs)
  all_zero [] [] each args = RunsAll.none
  all_zero [] (q ∷ qs) each args = absurd args
  all_zero (t ∷ ts) [] each args = absurd args
  all_zero (t ∷ ts) (q ∷ qs) each args = RunsAll.more (each.0 q args.0) (all_zero ts qs each.1 args.1)

  node_zero : (f : ℕ) (ts : List Term) → AllByRecursion RunsToo ts → RunsToo (node f ts)
  node_zero f ts each q r =
      let run = run_of_app f (map config_of ts) q (subst (λ c. Runs A c q) (config_node f ts) r) in
      subst (λ c. Runs U c 0) (sym (config_node f ts)) (Runs.app (all_zero ts run.states each (zip_from_all run.args)) (has.trans (trans_of f run.states run.target) run.has))

  pub runs_too : (t : Term) → RunsToo t
  runs_too = term_induction RunsToo node_zero

  pub common_is_accepted : (t : Term) → IsCommon A U t ↔ Accepts A t
  common_is_accepted t = (λ c. c.first, λ a. record { first = a; second = record { state = 0; runs = runs_too t a.state a.runs; final = has.final } })

  productive_is_met : (q : ℕ) → Meets A U (q, 0) ↔ IsProductive A q
  productive_is_met q = (λ m. record { term = m.term; runs = m.first }, λ p. record { term = p.term; first = p.runs; second = runs_too p.term q p.runs })

  pub productive_by : (all : List ℕ) → IsSound A → ((q : ℕ) → Contains all q ↔ (Contains A.states q × Meets A U (q, 0))) → (q : ℕ) → Contains all q ↔ IsProductive A q
  productive_by all sound h q =
      let p = productive_is_met q in (
        λ c. p.0 ((h q).0 c).1,
        λ productive. (h q).1 (run_ends sound productive.runs, p.1 productive),
      )

-- ---- the states that are marked

-- those of the first states that are marked
abbrev pub HasMarked : Table → List ℕ → List ℕ → Type 0
HasMarked table done all = (q : ℕ) → Contains all q ↔ (Contains done q × IsMarked table (q, 0))

module _ (table : Table) (items : List ℕ) (k : ℕ) (inside : k < length items) where
  more : take (k + 1) items ≡ take k items ++ get_or items k 0 ∷ []
  more = take_more items k 0 inside

  pub marked_more : (all new : List ℕ) → HasMarked table (take k items) all → IsMarked table (get_or items k 0, 0) → new ≡ all ++ get_or items k 0 ∷ [] → HasMarked table (take (k + 1) items) new
  marked_more all new h marked is q = rw (is, more) (
    λ c. ⊎_elim
        (λ i. let b = (h q).0 i in (Contains-append_left (take k items) (get_or items k 0 ∷ []) q b.0, b.1))
        (λ same. (subst (Contains (take k items ++ get_or items k 0 ∷ [])) same (Contains-push (take k items) (get_or items k 0)), subst (λ n. IsMarked table (n, 0)) same marked))
        (Contains-push_cases all (get_or items k 0) q c),
    λ b. ⊎_elim
        (λ before. Contains-append_left all (get_or items k 0 ∷ []) q ((h q).1 (before, b.1)))
        (λ same. subst (Contains (all ++ get_or items k 0 ∷ [])) same (Contains-push all (get_or items k 0)))
        (Contains-push_cases (take k items) (get_or items k 0) q b.0),
  )

  pub marked_no_more : (all : List ℕ) → HasMarked table (take k items) all → (IsMarked table (get_or items k 0, 0) → ⊥) → HasMarked table (take (k + 1) items) all
  marked_no_more all h not q = rw more (
    λ c. let b = (h q).0 c in (Contains-append_left (take k items) (get_or items k 0 ∷ []) q b.0, b.1),
    λ b. ⊎_elim
        (λ before. (h q).1 (before, b.1))
        (λ same. absurd (not (subst (λ n. IsMarked table (n, 0)) (sym same) b.1)))
        (Contains-push_cases (take k items) (get_or items k 0) q b.0),
  )

pub marked_all : (table : Table) (items : List ℕ) (k : ℕ) (all : List ℕ) → length items ≤ k → HasMarked table (take k items) all → HasMarked table items all
marked_all table items k all l h = subst (λ xs. HasMarked table xs all) (take_all k items l) h

-- the table's marks say which states meet
pub met_by : (A U : TreeAutomaton) (table : Table) (items all : List ℕ) → ((pair : ℕ × ℕ) → IsMarked table pair ↔ Meets A U pair) → items ≡ A.states → HasMarked table items all →
    (q : ℕ) → Contains all q ↔ (Contains A.states q × Meets A U (q, 0))
met_by A U table items all exact is h q = (
  λ c. let b = (h q).0 c in (subst (λ xs. Contains xs q) is b.0, (exact (q, 0)).0 b.1),
  λ b. (h q).1 (subst (λ xs. Contains xs q) (sym is) b.0, (exact (q, 0)).1 b.1),
)

-- ---- the automaton of all terms

pub all_terms_more : (ts : List Trans) (k : ℕ) (t : Trans) (old new : TreeAutomaton) → k < length ts → t ≡ get_or ts k t → HasAllTerms (take k ts) old → new.states ≡ old.states → new.finals ≡ old.finals →
    ((x : Trans) → Contains old.trans x → Contains new.trans x) → Contains new.trans (trans_of t.sym (map (λ _. 0) t.args) 0) → HasAllTerms (take (k + 1) ts) new
all_terms_more ts k t old new l is h states finals kept has = record {
  states = states ∙ h.states;
  final = subst (λ xs. Contains xs 0) (sym finals) h.final;
  trans = λ x i.
      let more : take (k + 1) ts ≡ take k ts ++ t ∷ [] = take_more ts k t l ∙ ap (λ z. take k ts ++ z ∷ []) (sym is) in
      ⊎_elim (λ before. kept _ (h.trans x before)) (λ same. subst (λ (y : Trans). Contains new.trans (trans_of y.sym (map (λ _. 0) y.args) 0)) same has)
      (Contains-push_cases (take k ts) t x (subst (λ xs. Contains xs x) more i));
}

pub zeros_same : (xs : List ℕ) → map {B = ℕ} (λ _. 0) xs ≡ replicate (length xs) 0
zeros_same [] = refl
zeros_same (x ∷ xs) = ap (λ l. 0 ∷ l) (zeros_same xs)

pub all_zeros : (xs : List ℕ) (P : ℕ → Type 0) → P 0 → All P (map {B = ℕ} (λ _. 0) xs)
all_zeros [] P p = All-nil P
all_zeros (x ∷ xs) P p = All-cons P 0 (map {B = ℕ} (λ _. 0) xs) p (all_zeros xs P p)

pub one_ascends : (x : ℕ) → IsStrictlySortedBy nat_cmp (x ∷ [])
unfolding IsStrictlySortedBy
one_ascends x = (tt, tt)
