-- Coherence is a condition on each transition and each epsilon transition; joining two forced states keeps it.
use Rattle.std.proofs.Common.{ℕ, List, [], ◌∷◌, ◌++◌, map, Contains, sym, ap, subst, ◌∙◌}
use Rattle.std.specs.List.{AllByRecursion, AllZip}
use Rattle.std.proofs.lemmas.List.Elements.{All-contains}
use Rattle.ranked_terms.specs.declared.term.Config.{Config}
use Rattle.ranked_terms.specs.Terms.{node, instance_of, assigned, config_of}
use Rattle.ranked_terms.specs.declared.term.Term.{Term}
use Rattle.ranked_terms.specs.declared.term.Pattern.{Pattern}
use Rattle.ranked_terms.specs.declared.term.Config.TheVariants as config
use Rattle.ranked_terms.specs.declared.term.Config.TheVariants.{outs-App, outs-State}
use Rattle.ranked_terms.specs.lemmas.TermLaws.{config_node, term_induction, pattern_induction, instance_var, instance_app, assigned_var, assigned_app}
use Rattle.trs_rules.specs.Rules.{RewriteRule, RewriteEquation}
use Rattle.ta_core.specs.TreeAutomaton.{TreeAutomaton, IsSound, trans_of}
use Rattle.ta_core.specs.Runs.{Runs, RunsPlain, RunsAllPlain, Reaches}
use Rattle.list_laws.proofs.Members.{here, there}
use Rattle.ta_core.specs.lemmas.RunsLaws.{EntersPlain, inverted_plain, run_of_app, run_from_plain, zip_from_all}
use Rattle.trs_rules.specs.Laws.{LeadsToItself, LeadsAreTransitive}
use Rattle.ta_core.specs.Coherence.{IsCoherent}
use Rattle.ta_core.specs.declared.trans.Trans.{Trans}
use Rattle.trs_rules.specs.Modulo.{ArgumentsLead, SidesAreEqual, EqualIsSymmetric, EqualIsModulo, EqualModulo, Modulo, both_ways}
use Rattle.eq_merge.proofs.quotients.Composition.{trans_is, eps_is}

-- ---- runs of lists, state by state

zip_plain : {A : TreeAutomaton} {cs : List Config} {qs : List ℕ} → RunsAllPlain A cs qs → AllZip (RunsPlain A) cs qs
zip_plain RunsAllPlain.none = tt
zip_plain (RunsAllPlain.more r rs) = (r, zip_plain rs)

plain_zip : {A : TreeAutomaton} (cs : List Config) (qs : List ℕ) → AllZip (RunsPlain A) cs qs → RunsAllPlain A cs qs
plain_zip [] [] h = RunsAllPlain.none
plain_zip [] (q ∷ qs) h = absurd h
plain_zip (c ∷ cs) [] h = absurd h
plain_zip (c ∷ cs) (q ∷ qs) h = RunsAllPlain.more h.0 (plain_zip cs qs h.1)

-- the laws of chains that are used
pub record Chains : Type 0 where
  pub itself : LeadsToItself
  pub transitive : LeadsAreTransitive
  pub arguments : ArgumentsLead
  pub sides : SidesAreEqual
  pub symmetric : EqualIsSymmetric
  pub equal : EqualIsModulo

-- coherence, part by part: each state is represented; the two ends of each transition are equal; those of each epsilon transition lead the one to the other
pub record IsLocal (A : TreeAutomaton) (R : List RewriteRule) (E : List RewriteEquation) (m : ℕ → Term) : Type 0 where
  pub represents : (q : ℕ) → Contains A.states q → RunsPlain A (config_of (m q)) q
  pub trans : (t : Trans) → Contains A.trans t → EqualModulo E (m t.to) (node t.sym (map m t.args))
  pub eps : (e : ℕ × ℕ) → Contains A.eps e → Modulo R E (m e.1) (m e.0)

-- ---- from parts to the whole

module _ (laws : Chains) {A : TreeAutomaton} {R : List RewriteRule} {E : List RewriteEquation} {m : ℕ → Term} (l : IsLocal A R E m) where
  abbrev IsEqual : Term → Type 0
  IsEqual t = (q : ℕ) → RunsPlain A (config_of t) q → EqualModulo E (m q) t

  each_equal : (ts : List Term) (qs : List ℕ) → AllByRecursion IsEqual ts → AllZip (RunsPlain A) (map config_of ts) qs → AllZip (EqualModulo E) (map m qs) ts
  each_equal [] [] each h = tt
  each_equal [] (q ∷ qs) each h = absurd h
  each_equal (t ∷ ts) [] each h = absurd h
  each_equal (t ∷ ts) (q ∷ qs) each h = (each.0 q h.0, each_equal ts qs each.1 h.1)

  node_equal : (f : ℕ) (ts : List Term) → AllByRecursion IsEqual ts → IsEqual (node f ts)
  node_equal f ts each q r =
      let h = subst (λ o. EntersPlain A o q) (outs-App f (map config_of ts)) (inverted_plain (subst (λ c. RunsPlain A c q) (config_node f ts) r)) in
      laws.transitive (both_ways E) (m q) (node f (map m h.0)) (node f ts) (l.trans (trans_of f h.0 q) h.2)
      (laws.arguments (both_ways E) f (map m h.0) ts (each_equal ts h.0 each (zip_plain h.1)))

  pub equal_terms : (t : Term) → IsEqual t
  equal_terms = term_induction IsEqual node_equal

  abbrev IsReached : Term → Type 0
  IsReached t = (q : ℕ) → Runs A (config_of t) q → Modulo R E (m q) t

  each_reached : (ts : List Term) (qs : List ℕ) → AllByRecursion IsReached ts → AllZip (Runs A) (map config_of ts) qs → AllZip (Modulo R E) (map m qs) ts
  each_reached [] [] each h = tt
  each_reached [] (q ∷ qs) each h = absurd h
  each_reached (t ∷ ts) [] each h = absurd h
  each_reached (t ∷ ts) (q ∷ qs) each h = (each.0 q h.0, each_reached ts qs each.1 h.1)

  along : {p q : ℕ} → Reaches A p q → Modulo R E (m q) (m p)
  along {p = p} Reaches.here = laws.itself (R ++ both_ways E) (m p)
  along {p = p} (Reaches.on {q = q} {r = r} h i) = laws.transitive (R ++ both_ways E) (m r) (m q) (m p) (l.eps (q, r) i) (along h)

  node_reached : (f : ℕ) (ts : List Term) → AllByRecursion IsReached ts → IsReached (node f ts)
  node_reached f ts each q r =
      let h = run_of_app f (map config_of ts) q (subst (λ c. Runs A c q) (config_node f ts) r) in
      let n = node f (map m h.states) in
      laws.transitive (R ++ both_ways E) (m q) (m h.target) (node f ts) (along h.on)
      (laws.transitive (R ++ both_ways E) (m h.target) n (node f ts) (laws.equal R E (m h.target) n (l.trans (trans_of f h.states h.target) h.has))
      (laws.arguments (R ++ both_ways E) f (map m h.states) ts (each_reached ts h.states each (zip_from_all h.args))))

  pub reached_terms : (t : Term) → IsReached t
  reached_terms = term_induction IsReached node_reached

  pub coherent : IsCoherent A R E m
  coherent = record { represents = l.represents; equal = λ q t c r. equal_terms t q r; reached = λ q t c r. reached_terms t q r }

-- ---- from the whole to its parts

module _ {A : TreeAutomaton} {R : List RewriteRule} {E : List RewriteEquation} {m : ℕ → Term} (sound : IsSound A) (k : IsCoherent A R E m) where
  all_represent : (qs : List ℕ) → ((q : ℕ) → Contains qs q → Contains A.states q) → AllZip (RunsPlain A) (map config_of (map m qs)) qs
  all_represent [] h = tt
  all_represent (q ∷ qs) h = (k.represents q (h q (here q qs)), all_represent qs (λ p c. h p (there q p qs c)))

  pub local : IsLocal A R E m
  local = record {
    represents = k.represents;
    trans = λ t c.
        let is = trans_is sound t c in
        let runs : RunsPlain A (config.App t.sym (map config_of (map m t.args))) t.to =
        RunsPlain.app (plain_zip (map config_of (map m t.args)) t.args (all_represent t.args (λ q d. All-contains (Contains A.states) t.args q is.args d))) c in
        k.equal t.to (node t.sym (map m t.args)) is.to (subst (λ c. RunsPlain A c t.to) (sym (config_node t.sym (map m t.args))) runs);
    eps = λ e c. let is = eps_is sound e c in k.reached e.1 (m e.0) is.to (Runs.step (run_from_plain (k.represents e.0 is.from)) c);
  }

  -- a side of an equation with representatives for its variables
  abbrev at_states : (ℕ → ℕ) → ℕ → Term
  at_states σ v = m (σ v)

  abbrev IsInstance : (ℕ → ℕ) → Pattern → Type 0
  IsInstance σ p = (q : ℕ) → RunsPlain A (assigned σ p) q → RunsPlain A (config_of (instance_of (at_states σ) p)) q

  each_instance : (σ : ℕ → ℕ) (ps : List Pattern) (qs : List ℕ) → AllByRecursion (IsInstance σ) ps → AllZip (RunsPlain A) (map (assigned σ) ps) qs →
      AllZip (RunsPlain A) (map config_of (map (instance_of (at_states σ)) ps)) qs
  each_instance σ [] [] each h = tt
  each_instance σ [] (q ∷ qs) each h = absurd h
  each_instance σ (p ∷ ps) [] each h = absurd h
  each_instance σ (p ∷ ps) (q ∷ qs) each h = (each.0 q h.0, each_instance σ ps qs each.1 h.1)

  pub instance_runs : (σ : ℕ → ℕ) (p : Pattern) → IsInstance σ p
  instance_runs σ = pattern_induction (IsInstance σ)
      (λ v q r.
      let h = subst (λ o. EntersPlain A o q) (outs-State (σ v)) (inverted_plain (subst (λ c. RunsPlain A c q) (assigned_var σ v) r)) in
      subst (λ t. RunsPlain A (config_of t) q) (sym (instance_var (at_states σ) v ∙ ap m h.0)) (k.represents q h.1))
      (λ f ps each q r.
      let h = subst (λ o. EntersPlain A o q) (outs-App f (map (assigned σ) ps)) (inverted_plain (subst (λ c. RunsPlain A c q) (assigned_app σ f ps) r)) in
      let ts = map (instance_of (at_states σ)) ps in
      subst (λ c. RunsPlain A c q) (sym (ap config_of (instance_app (at_states σ) f ps) ∙ config_node f ts))
      (RunsPlain.app (plain_zip (map config_of ts) h.0 (each_instance σ ps h.0 each (zip_plain h.1))) h.2))
