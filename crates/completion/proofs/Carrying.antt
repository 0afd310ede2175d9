-- What the initial automaton has stays, so it is contained.
use Rattle.std.proofs.Common.{◌≡◌, ℕ, ◌+◌, ◌<◌, ◌^◌, List, [], ◌∷◌, ◌++◌, map, take, length, All, Contains, refl, sym, ap, subst, ◌∙◌, ⊎_elim, inl, inr, arith, eq-eqb, ne_eqb, not, Bool, true, false, cond, ◌==◌}
use Rattle.std.specs.List.{range_with_len, filter}
use Rattle.std.proofs.lemmas.Cmp.{nat_cmp_total}
use Rattle.std.proofs.lemmas.Map.Lookups.{exact_unsigned}
use Rattle.std.proofs.lemmas.List.{get_or-take, length-take-le, length-map, get_or-map}
use Rattle.std.proofs.lemmas.List.FromFn.{length-range_with_len}
use Rattle.std.proofs.lemmas.List.Elements.{All-weaker, All-contains, All-map, All-head, All-tail, Contains-append_left, Contains-append_right}
use Rattle.std.proofs.lemmas.Bool.{cases_lt}
use Rattle.list_laws.proofs.Members.{here, there, none, parts, map_has, all_from_members}
use Rattle.list_laws.proofs.Decided.{same_number}
use Rattle.list_laws.proofs.InOrder.{in_order_has}
use Rattle.ranked_terms.specs.declared.term.Config.TheVariants.{State, App}
use Rattle.ta_core.specs.declared.trans.Trans.{Trans}
use Rattle.ta_core.specs.declared.spec.Spec.{Spec}
use Rattle.ta_core.specs.TreeAutomaton.{TreeAutomaton, IsSound, IsTransOf, IsEpsOf, trans_of}
use Rattle.ta_core.specs.Runs.{Runs, RunsAll}
use Rattle.ta_core.specs.Acceptance.{IsContained, image, TransHolds, EpsHolds, FinalHolds, StateHolds}
use Rattle.normalise.specs.NormalisingLaws.{IsGrown}
use Rattle.ta_core.specs.lemmas.Orders.{trans_total, trans_exact, pair_total, pair_exact}
use Rattle.eq_merge.specs.Quotients.{AreLeasts, quotient, renamed, renamed_eps, moves, apart, followed}
use Rattle.eq_merge.specs.Merging.{IsLeastMerge}
use Rattle.completion.specs.Stages.{started}
use Rattle.completion.specs.Standing.{Standing, Carries, IsStanding, Follows}
use Rattle.completion.proofs.Sequences.{range_had, range_has, ranges_join, apart_at, images_same, map_itself, map_map}

-- ---- what sound automata name

state_below : {A : TreeAutomaton} → IsSound A → (q : ℕ) → Contains A.states q → q < A.next
state_below {A = A} sound q c = All-contains (λ q. q < A.next) A.states q sound.below c

-- ---- carrying

carries_apart : (A B : TreeAutomaton) (next : ℕ) → ((q : ℕ) → Contains A.states q → q < next) → ((q : ℕ) → Contains A.states q → Contains B.states q) → B.trans ≡ A.trans → B.eps ≡ A.eps →
    B.finals ≡ A.finals → Carries A B (apart next)
carries_apart A B next below states trans eps finals =
    let at : (q : ℕ) → Contains A.states q → image (apart next) q ≡ q = λ q c. apart_at next q (below q c) in
    record {
      states = λ q c. subst (Contains B.states) (sym (at q c)) (states q c);
      trans = λ t is c.
          let args = images_same (image (apart next)) (λ p. p) (Contains A.states) at t.args is.args ∙ map_itself t.args in
          subst (λ l. Contains l (renamed (apart next) t)) (sym trans) (subst (Contains A.trans) (λ i. trans_of t.sym (sym args i) (sym (at t.to is.to) i)) c);
      eps = λ p q is_p is_q c. inr (subst (λ l. Contains l (image (apart next) p, image (apart next) q)) (sym eps) (subst (Contains A.eps) (λ i. (sym (at p is_p) i, sym (at q is_q) i)) c));
      finals = λ q is c. subst (λ l. Contains l (image (apart next) q)) (sym finals) (subst (Contains A.finals) (sym (at q is)) c);
    }

carries_grown : (A B C : TreeAutomaton) (h : List ℕ) → Carries A B h → IsGrown B C → Carries A C h
carries_grown A B C h k g = record {
  states = λ q c. g.within.states (image h q) (k.states q c);
  trans = λ t is c. g.within.trans t.sym (map (image h) t.args) (image h t.to) (k.trans t is c);
  eps = λ p q is_p is_q c. ⊎_elim (λ same. inl same) (λ i. inr (g.within.eps (image h p) (image h q) i)) (k.eps p q is_p is_q c);
  finals = λ q is c. subst (λ l. Contains l (image h q)) (sym g.finals) (k.finals q is c);
}

-- ---- the first stage

first_has : (spec : Spec) (q : ℕ) → q < spec.initial.next + spec.extra → Contains (started spec).states q
first_has spec q below =
    ⊎_elim
    (λ old. Contains-append_left spec.initial.states (range_with_len spec.initial.next spec.extra) q
    (subst (λ l. Contains l q) (sym spec.initial_states) (range_has 0 spec.initial.next q (omega arith) (omega (arith, old)))))
    (λ new. Contains-append_right spec.initial.states (range_with_len spec.initial.next spec.extra) q (range_has spec.initial.next spec.extra q new below))
    (cases_lt q spec.initial.next)

-- its states are the numbers below its `next`
pub first_states : (spec : Spec) → (started spec).states ≡ apart (started spec).next
first_states spec = ap (λ l. l ++ range_with_len spec.initial.next spec.extra) spec.initial_states ∙ ranges_join 0 spec.initial.next spec.initial.next spec.extra (omega arith)

pub first_stands : (s : Standing) → s.automaton ≡ started s.spec → s.places ≡ apart (started s.spec).next → length s.spec.rules < 2 ^ 32 → IsStanding s
first_stands s is places few =
    let spec = s.spec in
    let next = spec.initial.next + spec.extra in
    let old : (q : ℕ) → Contains spec.initial.states q → q < next =
    λ q c. let b = (range_had 0 spec.initial.next q (subst (λ l. Contains l q) spec.initial_states c)).1 in omega (arith, b) in
    record {
      places = record {
        each = ap length places ∙ length-range_with_len 0 next;
        states = subst (λ (A : TreeAutomaton). All (Contains A.states) s.places) (sym is) (subst (All (Contains (started spec).states)) (sym places)
            (all_from_members (Contains (started spec).states) (apart next) (λ q c. first_has spec q (let b = (range_had 0 next q c).1 in omega (arith, b)))));
      };
      carries = subst (λ A. Carries spec.initial A s.places) (sym is) (subst (Carries spec.initial (started spec)) (sym places)
          (carries_apart spec.initial (started spec) next old (λ q c. first_has spec q (old q c)) refl refl refl));
      few_rules = few;
    }

-- ---- merging

not_same : (p q : ℕ) → (p ≡ q → ⊥) → not (p == q) ≡ true
not_same p q h = rw (ne_eqb p q h) refl

module _ {X : Type 0} (p : X → Bool) where
  keep_has : (z x : X) (xs : List X) (b : Bool) → Contains (filter p xs) x → Contains (cond b (z ∷ filter p xs) (filter p xs)) x
  keep_has z x xs true c = there z x (filter p xs) c
  keep_has z x xs false c = c

  filter_has : (xs : List X) (x : X) → Contains xs x → p x ≡ true → Contains (filter p xs) x
  filter_has [] x c e = absurd (none x c)
  filter_has (z ∷ xs) x c e =
      ⊎_elim
      (λ same. subst (λ b. Contains (cond b (z ∷ filter p xs) (filter p xs)) x) (sym (ap p same ∙ e)) (subst (Contains (z ∷ filter p xs)) same (here z (filter p xs))))
      (λ later. keep_has z x xs (p z) (filter_has xs x later e)) (parts z x xs c)

-- an epsilon transition of the merged automaton, or its states are one
eps_has : (A : TreeAutomaton) (h : List ℕ) (e : ℕ × ℕ) → Contains A.eps e → (image h e.0 ≡ image h e.1 → ⊥) → Contains (quotient A h).eps (renamed_eps h e)
eps_has A h e c d =
    in_order_has pair_total pair_exact (filter moves (map (renamed_eps h) A.eps)) (renamed_eps h e)
    (filter_has moves (map (renamed_eps h) A.eps) (renamed_eps h e) (map_has (renamed_eps h) A.eps e (renamed_eps h e) c refl) (not_same (image h e.0) (image h e.1) d))

-- each state, read through the classes, is a least state of its class
least_is : (A : TreeAutomaton) (h : List ℕ) → AreLeasts A h → (q : ℕ) → Contains A.states q → Contains (quotient A h).states (image h q)
least_is A h l q c = filter_has (λ q. image h q == q) A.states (image h q) (l.states q c) (let same = l.in_class q c in eq-eqb (image h (image h q)) (image h q) same)

carries_merged : (A : TreeAutomaton) (h : List ℕ) → AreLeasts A h → Carries A (quotient A h) h
carries_merged A h l = record {
  states = least_is A h l;
  trans = λ t is c. in_order_has trans_total trans_exact (map (renamed h) A.trans) (renamed h t) (map_has (renamed h) A.trans t (renamed h t) c refl);
  eps = λ p q is_p is_q c. ⊎_elim (λ same. inl same) (λ d. inr (eps_has A h (p, q) c d)) (same_number (image h p) (image h q));
  finals = λ q is c. in_order_has nat_cmp_total exact_unsigned (map (image h) A.finals) (image h q) (map_has (image h) A.finals q (image h q) c refl);
}

image_followed : (h g : List ℕ) (q : ℕ) → q < length h → image (followed h g) q ≡ image g (image h q)
image_followed h g q below = get_or-map (image g) h q 0 0 below

carries_on : (A B C : TreeAutomaton) (h g : List ℕ) → ((q : ℕ) → Contains A.states q → q < length h) → Carries A B h → Carries B C g → Carries A C (followed h g)
carries_on A B C h g long k l =
    let at : (q : ℕ) → Contains A.states q → image (followed h g) q ≡ image g (image h q) = λ q c. image_followed h g q (long q c) in
    record {
      states = λ q c. subst (Contains C.states) (sym (at q c)) (l.states (image h q) (k.states q c));
      trans = λ t is c.
          let moved : IsTransOf B.states (renamed h t) =
          record { args = All-map (Contains B.states) (image h) t.args (All-weaker (Contains A.states) (λ q. Contains B.states (image h q)) k.states t.args is.args); to = k.states t.to is.to } in
          let args = images_same (image (followed h g)) (λ p. image g (image h p)) (Contains A.states) at t.args is.args ∙ sym (map_map (image g) (image h) t.args) in
          subst (Contains C.trans) (λ i. trans_of t.sym (sym args i) (sym (at t.to is.to) i)) (l.trans (renamed h t) moved (k.trans t is c));
      eps = λ p q is_p is_q c.
          subst (λ x. Follows C x (image (followed h g) q)) (sym (at p is_p)) (subst (Follows C (image g (image h p))) (sym (at q is_q))
          (⊎_elim (λ same. inl (ap (image g) same)) (l.eps (image h p) (image h q) (k.states p is_p) (k.states q is_q)) (k.eps p q is_p is_q c)));
      finals = λ q is c. subst (Contains C.finals) (sym (at q is)) (l.finals (image h q) (k.states q is) (k.finals q is c));
    }

-- ---- later on

-- what is named by the map stays below `next`
pub places_below : (s : Standing) (B : TreeAutomaton) → IsStanding s → IsGrown s.automaton B → IsSound B → All (λ q. q < B.next) s.places
places_below s B k g sound = All-weaker (Contains s.automaton.states) (λ q. q < B.next) (λ q c. state_below sound q (g.within.states q c)) s.places k.places.states

pub merged_stands : (s : Standing) (grown B : TreeAutomaton) (classes : List ℕ) → IsStanding s → IsSound s.spec.initial → IsGrown s.automaton grown → IsLeastMerge s.spec.equations grown B classes →
    IsStanding (record s { automaton = B; places = followed s.places classes })
merged_stands s grown B classes k sound g least =
    let Q = quotient grown classes in
    let moves : (q : ℕ) → Contains s.automaton.states q → Contains Q.states (image classes q) = λ q c. least_is grown classes least.leasts q (g.within.states q c) in
    let within : (q : ℕ) → Contains s.spec.initial.states q → q < length s.places = λ q c. let e = k.places.each in let b = state_below sound q c in omega (arith, e, b) in
    let carried = carries_grown s.spec.initial s.automaton grown s.places k.carries g in
    let states : All (Contains Q.states) (followed s.places classes) =
    All-map (Contains Q.states) (image classes) s.places (All-weaker (Contains s.automaton.states) (λ q. Contains Q.states (image classes q)) moves s.places k.places.states) in
    record {
      places = record { each = length-map s.places (image classes) ∙ k.places.each; states = subst (λ (X : TreeAutomaton). All (Contains X.states) (followed s.places classes)) (sym least.is_quotient) states };
      carries = subst (λ X. Carries s.spec.initial X (followed s.places classes)) (sym least.is_quotient)
          (carries_on s.spec.initial grown Q s.places classes within carried (carries_merged grown classes least.leasts));
      few_rules = k.few_rules;
    }

-- ---- containment

module _ (s : Standing) (k : IsStanding s) (sound : IsSound s.spec.initial) where
  abbrev A₀ : TreeAutomaton
  A₀ = s.spec.initial

  abbrev A : TreeAutomaton
  A = s.automaton

  abbrev h : List ℕ
  h = s.places

  abbrev first : List ℕ
  first = take A₀.next h

  at : (q : ℕ) → Contains A₀.states q → image first q ≡ image h q
  at q c = get_or-take A₀.next h q 0 (state_below sound q c)

  states_run : (qs : List ℕ) → All (Contains A₀.states) qs → RunsAll A (map (λ p. State (image first p)) qs) (map (image h) qs)
  states_run [] all = RunsAll.none
  states_run (q ∷ qs) all =
      let is = All-head (Contains A₀.states) q qs all in
      RunsAll.more (subst (λ p. Runs A (State p) (image h q)) (sym (at q is)) (Runs.at (k.carries.states q is))) (states_run qs (All-tail (Contains A₀.states) q qs all))

  trans_holds : (t : Trans) → Contains A₀.trans t → TransHolds A first t
  trans_holds t c =
      let is = All-contains (IsTransOf A₀.states) A₀.trans t sound.trans c in
      subst (Runs A (App t.sym (map (λ p. State (image first p)) t.args))) (sym (at t.to is.to)) (Runs.app (states_run t.args is.args) (k.carries.trans t is c))

  eps_holds : (e : ℕ × ℕ) → Contains A₀.eps e → EpsHolds A first e
  eps_holds e c =
      let is = All-contains (IsEpsOf A₀.states) A₀.eps e sound.eps c in
      let start : Runs A (State (image h e.0)) (image h e.0) = Runs.at (k.carries.states e.0 is.from) in
      subst (λ x. Runs A (State x) (image first e.1)) (sym (at e.0 is.from)) (subst (Runs A (State (image h e.0))) (sym (at e.1 is.to))
      (⊎_elim (λ same. subst (Runs A (State (image h e.0))) same start) (λ i. Runs.step start i) (k.carries.eps e.0 e.1 is.from is.to c)))

  pub contained : IsContained A₀ A first
  contained = record {
    each_state = let l = length-take-le A₀.next h (let e = k.places.each in omega (arith, e)) in omega (arith, l);
    states = all_from_members (StateHolds A first) A₀.states (λ q c. subst (Contains A.states) (sym (at q c)) (k.carries.states q c));
    trans = all_from_members (TransHolds A first) A₀.trans trans_holds;
    eps = all_from_members (EpsHolds A first) A₀.eps eps_holds;
    finals = all_from_members (FinalHolds A first) A₀.finals (λ q c. let is = All-contains (Contains A₀.states) A₀.finals q sound.finals c in subst (Contains A.finals) (sym (at q is)) (k.carries.finals q is c));
  }
