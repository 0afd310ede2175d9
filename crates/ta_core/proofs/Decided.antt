-- Each configuration runs to the states of a list, so runs are decided.
use Rattle.std.proofs.Common.{◌≡◌, ℕ, ◌↔◌, List, [], ◌∷◌, ◌++◌, Contains, refl, sym, ap, subst, inl, inr, ⊎_elim}
use Rattle.std.specs.List.{AllByRecursion, AllZip}
use Rattle.std.proofs.lemmas.Cmp.{nat_cmp_total}
use Rattle.std.proofs.lemmas.List.Elements.{Contains-append_left, Contains-append_right, Contains-append_cases}
use Rattle.std.proofs.lemmas.Map.Lookups.{exact_unsigned}
use Rattle.ranked_terms.specs.Terms.{config_of, is_over}
use Rattle.ranked_terms.specs.declared.term.Config.{Config, State, App}
use Rattle.ranked_terms.specs.lemmas.TermLaws.{config_induction}
use Rattle.list_laws.proofs.Decided.{from_test, both, same_number, member, members, listing_of_members, listing_by, decided_by_listing, some_member}
use Rattle.ta_core.specs.TreeAutomaton.{TreeAutomaton, trans_of}
use Rattle.ta_core.specs.Runs.{Runs, Reaches}
use Rattle.ta_core.specs.Laws.{RunsAreListed, PlainRunsAreListed, RunsAreDecided, PlainRunsAreDecided, LanguagesAreDecided}
use Rattle.ta_core.specs.Reached.{ReachedFrom, HasTransInto}
use Rattle.ta_core.specs.declared.trans.Trans.{Trans}
use Rattle.list_laws.proofs.Members.{here, there, parts, none}
use Rattle.ta_core.specs.lemmas.ReachedSets.{holds_reached}
use Rattle.ta_core.specs.lemmas.RunStates.{AreExact, runs_of_app, entered_and_reached, one_state, runs_of_state}
use Rattle.ta_core.specs.lemmas.RunsLaws.{plain, run_of_plain, plain_of_run}

-- ---- where epsilon transitions lead

led_on : {A : TreeAutomaton} {p q r : ℕ} → Reaches A p q → Reaches A q r → Reaches A p r
led_on a Reaches.here = a
led_on a (Reaches.on b i) = Reaches.on (led_on a b) i

module _ (A : TreeAutomaton) where
  -- the set with whatever these epsilon transitions lead to
  record IsClosedBy (eps : List (ℕ × ℕ)) (set all : List ℕ) : Type 0 where
    keeps : (q : ℕ) → Contains set q → Contains all q
    out : (p q : ℕ) → Contains eps (p, q) → Contains all p → Contains all q
    reached : (q : ℕ) → Contains all q → ReachedFrom A set q

  -- with one more: where the others lead to its source, on from its target by the others
  closed_by : (eps : List (ℕ × ℕ)) → ((p q : ℕ) → Contains eps (p, q) → Contains A.eps (p, q)) → (set : List ℕ) → (all : List ℕ) × IsClosedBy eps set all
  closed_by [] within set = (set, record { keeps = λ q c. c; out = λ p q i c. absurd (none (p, q) i); reached = λ q c. record { start = q; starts = c; reaches = Reaches.here } })
  closed_by (e ∷ eps) within set =
      let fewer : (p q : ℕ) → Contains eps (p, q) → Contains A.eps (p, q) = λ p q i. within p q (there e (p, q) eps i) in
      one_more e eps set (within e.0 e.1 (here e eps)) (closed_by eps fewer set) (closed_by eps fewer (e.1 ∷ []))
    where
      one_more : (e : ℕ × ℕ) (eps : List (ℕ × ℕ)) (set : List ℕ) → Contains A.eps (e.0, e.1) → (all : List ℕ) × IsClosedBy eps set all → (all : List ℕ) × IsClosedBy eps (e.1 ∷ []) all →
          (all : List ℕ) × IsClosedBy (e ∷ eps) set all
      one_more e eps set is a b = ⊎_elim
          (λ source. (
            a.0 ++ b.0,
            record {
              keeps = λ q c. Contains-append_left a.0 b.0 q (a.1.keeps q c);
              out = λ p q i c. ⊎_elim
                  (λ same. Contains-append_right a.0 b.0 q (b.1.keeps q (subst (Contains (e.1 ∷ [])) (ap (λ (x : ℕ × ℕ). x.1) same) (here e.1 []))))
                  (λ later. ⊎_elim (λ d. Contains-append_left a.0 b.0 q (a.1.out p q later d)) (λ d. Contains-append_right a.0 b.0 q (b.1.out p q later d)) (Contains-append_cases a.0 b.0 p c))
                  (parts e (p, q) eps i);
              reached = λ q c. ⊎_elim (a.1.reached q)
                  (λ d.
                  let first = a.1.reached e.0 source in
                  let then' = b.1.reached q d in
                  let same : e.1 ≡ then'.start = ⊎_elim (λ s. s) (λ no. absurd (none then'.start no)) (parts e.1 then'.start [] then'.starts) in
                  record { start = first.start; starts = first.starts; reaches = led_on (Reaches.on first.reaches is) (subst (λ x. Reaches A x q) (sym same) then'.reaches) })
                  (Contains-append_cases a.0 b.0 q c);
            },
          ))
          (λ no. (
            a.0,
            record {
              keeps = a.1.keeps;
              out = λ p q i c. ⊎_elim (λ same. absurd (no (subst (Contains a.0) (sym (ap (λ (x : ℕ × ℕ). x.0) same)) c))) (λ later. a.1.out p q later c) (parts e (p, q) eps i);
              reached = a.1.reached;
            },
          ))
          (member a.0 e.0)

  reached_list : (set : List ℕ) → (all : List ℕ) × ((q : ℕ) → Contains all q ↔ ReachedFrom A set q)
  reached_list set =
      let c = closed_by A.eps (λ p q i. i) set in
      (c.0, λ q. (c.1.reached q, λ h. holds_reached c.0 c.1.out (c.1.keeps h.start h.starts) h.reaches))

-- ---- targets

module _ (f : ℕ) (sets : List (List ℕ)) where
  into_later : (t : Trans) (trans : List Trans) (q : ℕ) → HasTransInto trans f sets q → HasTransInto (t ∷ trans) f sets q
  into_later t trans q h = record { args = h.args; fit = h.fit; has = there t (trans_of f h.args q) trans h.has }

  target_list : (trans : List Trans) → (all : List ℕ) × ((q : ℕ) → Contains all q ↔ HasTransInto trans f sets q)
  target_list [] = ([], λ q. (λ c. absurd (none q c), λ h. absurd (none (trans_of f h.args q) h.has)))
  target_list (t ∷ trans) = one_more t trans (target_list trans)
    where
      one_more : (t : Trans) (trans : List Trans) → (all : List ℕ) × ((q : ℕ) → Contains all q ↔ HasTransInto trans f sets q) → (all : List ℕ) × ((q : ℕ) → Contains all q ↔ HasTransInto (t ∷ trans) f sets q)
      one_more t trans rest = ⊎_elim
          (λ yes. (
            t.to ∷ rest.0,
            λ q. (
              λ c. ⊎_elim
                  (λ same. record { args = t.args; fit = yes.1; has = subst (Contains (t ∷ trans)) (λ k. trans_of (yes.0 k) t.args (same k)) (here t trans) })
                  (λ later. into_later t trans q ((rest.1 q).0 later))
                  (parts t.to q rest.0 c),
              λ h. ⊎_elim
                  (λ same. subst (Contains (t.to ∷ rest.0)) (ap (λ (x : Trans). x.to) same) (here t.to rest.0))
                  (λ later. there t.to q rest.0 ((rest.1 q).1 (record { args = h.args; fit = h.fit; has = later })))
                  (parts t (trans_of f h.args q) trans h.has),
            ),
          ))
          (λ no. (
            rest.0,
            λ q. (
              λ c. into_later t trans q ((rest.1 q).0 c),
              λ h. ⊎_elim
                  (λ same. absurd (no (ap (λ (x : Trans). x.sym) same, subst (AllZip Contains sets) (sym (ap (λ (x : Trans). x.args) same)) h.fit)))
                  (λ later. (rest.1 q).1 (record { args = h.args; fit = h.fit; has = later }))
                  (parts t (trans_of f h.args q) trans h.has),
            ),
          ))
          (both (same_number t.sym f) (members sets t.args))

-- ---- runs

module _ (A : TreeAutomaton) where
  -- a list of the states to which the configuration runs
  abbrev HasStates : Config → Type 0
  HasStates c = (all : List ℕ) × ((q : ℕ) → Contains all q ↔ Runs A c q)

  states_of_state : (p : ℕ) → HasStates (State p)
  states_of_state p =
      let start : (set : List ℕ) × ((x : ℕ) → Contains set x ↔ ((p ≡ x) × Contains A.states x)) =
      ⊎_elim (λ is. (p ∷ [], one_state A.states p (p ∷ []) is refl)) (λ no. ([], λ x. (λ c. absurd (none x c), λ h. absurd (no (subst (Contains A.states) (sym h.0) h.1))))) (member A.states p) in
      let all = reached_list A start.0 in
      let runs = runs_of_state A p start.0 start.1 in
      (all.0, λ q. (λ c. (runs q).0 ((all.1 q).0 c), λ r. (all.1 q).1 ((runs q).1 r)))

  sets_of : (cs : List Config) → AllByRecursion HasStates cs → (sets : List (List ℕ)) × AreExact A cs sets
  sets_of [] each = ([], tt)
  sets_of (c ∷ cs) each = let rest = sets_of cs each.1 in (each.0.0 ∷ rest.0, (each.0.1, rest.1))

  states_of_app : (f : ℕ) (cs : List Config) → AllByRecursion HasStates cs → HasStates (App f cs)
  states_of_app f cs each =
      let sets = sets_of cs each in
      let targets = target_list f sets.0 A.trans in
      let all = reached_list A targets.0 in
      let enters = entered_and_reached A f sets.0 targets.0 targets.1 in
      let runs = runs_of_app A f cs sets.0 sets.1 in
      (all.0, λ q. (λ c. (runs q).0 ((enters q).0 ((all.1 q).0 c)), λ r. (all.1 q).1 ((enters q).1 ((runs q).1 r))))

  states_of : (c : Config) → HasStates c
  states_of = config_induction HasStates states_of_state states_of_app

pub runs_are_listed : RunsAreListed
runs_are_listed A c =
    let all = states_of A c in
    let listing = listing_of_members nat_cmp_total exact_unsigned all.0 in
    (listing.0, listing_by all.1 listing.0 listing.1)

pub plain_runs_are_listed : PlainRunsAreListed
plain_runs_are_listed A c =
    let all = runs_are_listed (plain A) c in
    (all.0, listing_by (λ q. (λ r. plain_of_run r, λ r. run_of_plain r)) all.0 all.1)

pub runs_are_decided : RunsAreDecided
runs_are_decided A c q = let all = runs_are_listed A c in decided_by_listing all.0 all.1 q

pub plain_runs_are_decided : PlainRunsAreDecided
plain_runs_are_decided A c q = let all = plain_runs_are_listed A c in decided_by_listing all.0 all.1 q

-- ---- languages

pub languages_are_decided : LanguagesAreDecided
languages_are_decided signature A t =
    ⊎_elim
    (λ h. inl (record { over = h.0; accepted = record { state = h.1.0; runs = h.1.2; final = h.1.1 } }))
    (λ no. inr (λ h. no (h.over, (h.accepted.state, h.accepted.final, h.accepted.runs))))
    (both (from_test (is_over signature t) (λ e. e, λ e. e)) (some_member (runs_are_decided A (config_of t)) A.finals))
