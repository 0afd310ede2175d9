-- Joining forced states, and merging, keep coherence.
use Rattle.std.proofs.Common.{◌≡◌, ℕ, ◌<◌, min, max, List, [], ◌∷◌, ◌++◌, map, Contains, sym, subst, ⊎_elim, arith}
use Rattle.std.specs.List.{AllZip}
use Rattle.std.proofs.lemmas.List.Elements.{All-contains}
use Rattle.ranked_terms.specs.Terms.{node, instance_of, config_of}
use Rattle.ranked_terms.specs.declared.term.Term.{Term}
use Rattle.trs_rules.specs.Rules.{RewriteRule, RewriteEquation}
use Rattle.ta_core.specs.declared.trans.Trans.{Trans}
use Rattle.ta_core.specs.TreeAutomaton.{TreeAutomaton, IsSound}
use Rattle.ta_core.specs.Runs.{RunsPlain}
use Rattle.ta_core.specs.Acceptance.{image}
use Rattle.list_laws.proofs.Members.{here, there}
use Rattle.eq_merge.specs.Quotients.{AreLeasts, quotient, joining, followed}
use Rattle.eq_merge.specs.Merging.{Equates, Forces, Merged}
use Rattle.ta_core.specs.Coherence.{IsCoherent}
use Rattle.trs_rules.specs.Modulo.{EqualModulo, Modulo, both_ways}
use Rattle.eq_merge.specs.CoherenceLaws.{MergeKeepsCoherence, JoinsStayCoherent, MergesStayCoherent}
use Rattle.eq_merge.proofs.quotients.Survival.{same_or_not, ground_survives, state_survives}
use Rattle.eq_merge.proofs.quotients.Composition.{state_had, trans_had, eps_had, trans_is, eps_is, state_below, quotient_sound, image_followed}
use Rattle.eq_merge.proofs.quotients.Joining.{into_hi, into_other, lesser_greater, apart_at}
use Rattle.eq_merge.proofs.least.LeastMerges.{joining_leasts, forced_first, forced_second, first_is_forced}
use Rattle.eq_merge.proofs.keeping.Coherence.{Chains, IsLocal, coherent, local, instance_runs}

-- ---- quotients

module _ (laws : Chains) {A : TreeAutomaton} {R : List RewriteRule} {E : List RewriteEquation} {m : ℕ → Term} (sound : IsSound A) (l : IsLocal A R E m)
    {h : List ℕ} (leasts : AreLeasts A h) (same : (q : ℕ) → Contains A.states q → EqualModulo E (m q) (m (image h q))) where
  all_same : (qs : List ℕ) → ((q : ℕ) → Contains qs q → Contains A.states q) → AllZip (EqualModulo E) (map m qs) (map m (map (image h) qs))
  all_same [] f = tt
  all_same (q ∷ qs) f = (same q (f q (here q qs)), all_same qs (λ p c. f p (there q p qs c)))

  pub quotient_local : IsLocal (quotient A h) R E m
  quotient_local = record {
    represents = λ q c.
        let is = state_had A h q c in
        subst (RunsPlain (quotient A h) (config_of (m q))) is.1 (ground_survives leasts (m q) q (l.represents q is.0));
    trans = λ t c.
        let o = trans_had A h t c in
        let is = trans_is sound o.0 o.1 in
        let n = node o.0.sym (map m o.0.args) in
        let k = node o.0.sym (map m (map (image h) o.0.args)) in
        let e : EqualModulo E (m (image h o.0.to)) k =
        laws.transitive (both_ways E) (m (image h o.0.to)) (m o.0.to) k (laws.symmetric E (m o.0.to) (m (image h o.0.to)) (same o.0.to is.to))
        (laws.transitive (both_ways E) (m o.0.to) n k (l.trans o.0 o.1)
        (laws.arguments (both_ways E) o.0.sym (map m o.0.args) (map m (map (image h) o.0.args)) (all_same o.0.args (λ q d. All-contains (Contains A.states) o.0.args q is.args d)))) in
        subst (λ (x : Trans). EqualModulo E (m x.to) (node x.sym (map m x.args))) o.2 e;
    eps = λ e c.
        let o = eps_had A h e c in
        let is = eps_is sound o.0 o.1 in
        let all = R ++ both_ways E in
        let to : Modulo R E (m (image h o.0.1)) (m o.0.1) = laws.equal R E (m (image h o.0.1)) (m o.0.1) (laws.symmetric E (m o.0.1) (m (image h o.0.1)) (same o.0.1 is.to)) in
        let from : Modulo R E (m o.0.0) (m (image h o.0.0)) = laws.equal R E (m o.0.0) (m (image h o.0.0)) (same o.0.0 is.from) in
        subst (λ (x : ℕ × ℕ). Modulo R E (m x.1) (m x.0)) o.2
        (laws.transitive all (m (image h o.0.1)) (m o.0.1) (m (image h o.0.0)) to
        (laws.transitive all (m o.0.1) (m o.0.0) (m (image h o.0.0)) (l.eps o.0 o.1) from));
  }

-- ---- forced states

module _ (laws : Chains) {A : TreeAutomaton} {R : List RewriteRule} {E : List RewriteEquation} {m : ℕ → Term} (sound : IsSound A) (k : IsCoherent A R E m) where
  sides_equal : (e : RewriteEquation) → Contains E e → (p q : ℕ) → Contains A.states p → Contains A.states q → Equates A e p q → EqualModulo E (m p) (m q)
  sides_equal e c p q is_p is_q x =
      let θ : ℕ → Term = λ v. m (x.σ v) in
      let s = instance_of θ e.left in
      let t = instance_of θ e.right in
      laws.transitive (both_ways E) (m p) s (m q) (k.equal p s is_p (instance_runs sound k x.σ e.left p x.left))
      (laws.transitive (both_ways E) s t (m q) (laws.sides E e θ c)
      (laws.symmetric E (m q) t (k.equal q t is_q (instance_runs sound k x.σ e.right q x.right))))

  pub forced_equal : (p q : ℕ) → Forces A E p q → EqualModulo E (m p) (m q)
  forced_equal p q x =
      let is_p = forced_first sound x in
      let is_q = forced_second sound x in
      ⊎_elim (λ y. sides_equal x.equation x.is_equation p q is_p is_q y) (λ y. laws.symmetric E (m q) (m p) (sides_equal x.equation x.is_equation q p is_q is_p y)) x.equates

  module _ (p q : ℕ) (x : Forces A E p q) where
    ends_equal : EqualModulo E (m (max p q)) (m (min p q))
    ends_equal =
        ⊎_elim (λ e. subst (λ a. EqualModulo E (m a) (m (min p q))) (sym e.1) (subst (λ b. EqualModulo E (m q) (m b)) (sym e.0) (laws.symmetric E (m p) (m q) (forced_equal p q x))))
        (λ e. subst (λ a. EqualModulo E (m a) (m (min p q))) (sym e.1) (subst (λ b. EqualModulo E (m p) (m b)) (sym e.0) (forced_equal p q x))) (lesser_greater p q)

    join_same : (r : ℕ) → Contains A.states r → EqualModulo E (m r) (m (image (joining A.next p q) r))
    join_same r c =
        let below = state_below sound r c in
        ⊎_elim
        (λ e. subst (λ a. EqualModulo E (m a) (m (image (joining A.next p q) a))) (sym e)
        (subst (λ b. EqualModulo E (m (max p q)) (m b)) (sym (into_hi A.next (min p q) (max p q) (subst (λ a. a < A.next) e below))) ends_equal))
        (λ d. subst (λ b. EqualModulo E (m r) (m b)) (sym (into_other A.next (min p q) (max p q) r below d)) (laws.itself (both_ways E) (m r))) (same_or_not r (max p q))

    pub join_coherent : IsCoherent (quotient A (joining A.next p q)) R E m
    join_coherent = coherent laws (quotient_local laws sound (local sound k) (joining_leasts A p q sound (forced_first sound x) (forced_second sound x) x.differ) join_same)

pub joins_stay_coherent : Chains → JoinsStayCoherent
joins_stay_coherent laws A p q sound E x R m k = record { terms = m; coherent = join_coherent laws sound k p q x; equal = join_same laws sound k p q x }

pub merge_coherent : Chains → {E : List RewriteEquation} {A B : TreeAutomaton} {h : List ℕ} → Merged E A B h → IsSound A → MergeKeepsCoherence E A B h
merge_coherent laws {E = E} (Merged.done {A = A} empty) sound R m k = record {
  terms = m;
  coherent = k;
  equal = λ q c. subst (λ a. EqualModulo E (m q) (m a)) (sym (apart_at A.next q (state_below sound q c))) (laws.itself (both_ways E) (m q));
}
merge_coherent laws {E = E} (Merged.join {A = A} {B = B} {p = p} {q = q} {h = h} forced rest) sound R m k =
    let x = first_is_forced forced in
    let f = joining A.next p q in
    let leasts = joining_leasts A p q sound (forced_first sound x) (forced_second sound x) x.differ in
    let s = merge_coherent laws rest (quotient_sound sound f leasts) R m (join_coherent laws sound k p q x) in
    record {
      terms = s.terms;
      coherent = s.coherent;
      equal = λ r c.
          let at : image (followed f h) r ≡ image h (image f r) = image_followed f h r (omega (arith, leasts.each, state_below sound r c)) in
          laws.transitive (both_ways E) (m r) (m (image f r)) (s.terms (image (followed f h) r)) (join_same laws sound k p q x r c)
          (subst (λ a. EqualModulo E (m (image f r)) (s.terms a)) (sym at) (s.equal (image f r) (state_survives leasts r c)));
    }

pub merges_stay_coherent : Chains → MergesStayCoherent
merges_stay_coherent laws E A B h sound merged = merge_coherent laws merged sound
