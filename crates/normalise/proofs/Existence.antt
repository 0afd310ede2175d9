-- Whether an entry fits is decided, so putting and normalising have a result.
use Rattle.std.proofs.Common.{◌≡◌, ℕ, ◌≤◌, ◌⊎◌, List, [], ◌∷◌, Option, Some, None, Contains, refl, sym, ap, subst, ⊎_elim, inl, inr, arith}
use Rattle.std.specs.List.{AllByRecursion}
use Rattle.std.proofs.lemmas.List.Elements.{All-head, All-tail}
use Rattle.std.proofs.lemmas.Bool.{cases_lt}
use Rattle.ranked_terms.specs.declared.term.Config.{Config}
use Rattle.ranked_terms.specs.declared.term.Config.TheVariants as config
use Rattle.ranked_terms.specs.lemmas.TermLaws.{config_induction}
use Rattle.trs_rules.specs.declared.entry.Entry.{Entry}
use Rattle.list_laws.specs.Lists.{Decided}
use Rattle.list_laws.proofs.Members.{here, there, none, parts}
use Rattle.list_laws.proofs.Decided.{both, same_number}
use Rattle.ta_core.specs.declared.trans.Trans.{Trans}
use Rattle.ta_core.specs.TreeAutomaton.{TreeAutomaton, trans_of}
use Rattle.ta_core.specs.Acceptance.{image}
use Rattle.ta_core.specs.Growth.{with_state, with_trans, with_eps}
use Rattle.normalise.specs.Normalising.{Task, Fits, FirstFit, IsSent, Goes, Puts, PutsAll, NormalisedAll, filled, node_of, task_of}
use Rattle.normalise.specs.NormalisingLaws.{PutResult, EachIsPut, NamesRule, EachIsNormalised, AllAreNormalised}
use Rattle.normalise.proofs.Assigning.{Asked, asked, both_asked, bound_known}

-- ---- entries

pub fits_known : (task : Task) (node : Config) (e : Entry) → Decided (Fits task node e)
fits_known task node e =
    let h = task.places in
    let whole = λ (τ : ℕ → ℕ). filled h τ e.whole in
    let at = λ (τ : ℕ → ℕ). filled h τ e.at in
    let made = λ (τ : ℕ → ℕ). filled h τ e.node in
    let q = config.State task.state in
    let three : Asked ((Config × Config) × Config) (λ τ. ((whole τ, at τ), made τ)) ((task.whole, q), node) =
    both_asked (λ τ. (whole τ, at τ)) made (task.whole, q) node (both_asked whole at task.whole q (asked h e.whole task.whole) (asked h e.at q)) (asked h e.node node) in
    ⊎_elim
    (λ k. ⊎_elim (λ s. let all = k.makes s.0 s.1 in inl (record { τ = s.0; whole = λ i. (all i).0.0; at = λ i. (all i).0.1; made = λ i. (all i).1 }))
    (λ never. inr (λ x. never (x.τ, k.needs x.τ (λ i. ((x.whole i, x.at i), x.made i)))))
    (bound_known k.pairs))
    (λ never. inr (λ x. never x.τ (λ i. ((x.whole i, x.at i), x.made i))))
    three

pub first_fit : (task : Task) (node : Config) (es : List Entry) → (found : Option ℕ) × FirstFit task node es found
first_fit task node [] = (None, FirstFit.none)
first_fit task node (e ∷ es) =
    ⊎_elim (λ fits. (Some (image task.places e.target), FirstFit.fits fits)) (λ never. let rest = first_fit task node es in (rest.0, FirstFit.later never rest.1)) (fits_known task node e)

-- ---- targets

lists_known : (xs ys : List ℕ) → Decided (xs ≡ ys)
lists_known [] [] = inl refl
lists_known [] (y ∷ ys) = inr (λ e. cc)
lists_known (x ∷ xs) [] = inr (λ e. cc)
lists_known (x ∷ xs) (y ∷ ys) =
    ⊎_elim (λ a. ⊎_elim (λ b. inl (λ i. a i ∷ b i)) (λ d. inr (λ e. let h : xs ≡ ys = cc in d h)) (lists_known xs ys)) (λ d. inr (λ e. let h : x ≡ y = cc in d h)) (same_number x y)

module _ (f : ℕ) (ps : List ℕ) where
  -- p is the least target in the list
  pub record Least (ts : List Trans) (p : ℕ) : Type 0 where
    pub has : Contains ts (trans_of f ps p)
    pub least : (q : ℕ) → Contains ts (trans_of f ps q) → p ≤ q

  abbrev NoTarget : List Trans → Type 0
  NoTarget ts = (q : ℕ) → Contains ts (trans_of f ps q) → ⊥

  abbrev Found : List Trans → Type 0
  Found ts = ((p : ℕ) × Least ts p) ⊎ NoTarget ts

  target_same : (p q : ℕ) → trans_of f ps p ≡ trans_of f ps q → p ≡ q
  target_same p q e = ap (λ (t : Trans). t.to) e

  with_first : (p : ℕ) (ts : List Trans) → Found ts → Found (trans_of f ps p ∷ ts)
  with_first p ts found =
      ⊎_elim
      (λ s. ⊎_elim
      (λ less. inl (
        p,
        record {
          has = here (trans_of f ps p) ts;
          least = λ q c. ⊎_elim (λ e. omega (arith, target_same p q e)) (λ later. omega (arith, less, s.1.least q later)) (parts (trans_of f ps p) (trans_of f ps q) ts c);
        },
      ))
      (λ more. inl (
        s.0,
        record {
          has = there (trans_of f ps p) (trans_of f ps s.0) ts s.1.has;
          least = λ q c. ⊎_elim (λ e. omega (arith, more, target_same p q e)) (λ later. s.1.least q later) (parts (trans_of f ps p) (trans_of f ps q) ts c);
        },
      ))
      (either p s.0))
      (λ never. inl (
        p,
        record {
          has = here (trans_of f ps p) ts;
          least = λ q c. ⊎_elim (λ e. omega (arith, target_same p q e)) (λ later. absurd (never q later)) (parts (trans_of f ps p) (trans_of f ps q) ts c);
        },
      ))
      found
    where
      either : (a b : ℕ) → (a ≤ b) ⊎ (b ≤ a)
      either a b = ⊎_elim (λ h. inl (omega (arith, h))) (λ h. inr h) (cases_lt a b)

  without_first : (t : Trans) (ts : List Trans) → ((q : ℕ) → t ≡ trans_of f ps q → ⊥) → Found ts → Found (t ∷ ts)
  without_first t ts other found =
      ⊎_elim
      (λ s. inl (
        s.0,
        record {
          has = there t (trans_of f ps s.0) ts s.1.has;
          least = λ q c. ⊎_elim (λ e. absurd (other q e)) (λ later. s.1.least q later) (parts t (trans_of f ps q) ts c);
        },
      ))
      (λ never. inr (λ q c. ⊎_elim (λ e. other q e) (λ later. never q later) (parts t (trans_of f ps q) ts c)))
      found

  pub least_found : (ts : List Trans) → Found ts
  least_found [] = inr (λ q c. none (trans_of f ps q) c)
  least_found (t ∷ ts) =
      ⊎_elim (λ same. subst (λ t. Found (t ∷ ts)) (λ i. trans_of (sym same.0 i) (sym same.1 i) t.to) (with_first t.to ts (least_found ts)))
      (λ differ. without_first t ts (λ q e. differ (ap (λ (t : Trans). t.sym) e, ap (λ (t : Trans). t.args) e)) (least_found ts))
      (both (same_number t.sym f) (lists_known t.args ps))

-- ---- putting has a result

pub record Gone (task : Task) (A : TreeAutomaton) (f : ℕ) (ps : List ℕ) : Type 0 where
  pub state : ℕ
  pub grown : TreeAutomaton
  pub goes : Goes task A f ps state grown

pub node_goes : (task : Task) (A : TreeAutomaton) (f : ℕ) (ps : List ℕ) → Gone task A f ps
node_goes task A f ps = let found = first_fit task (node_of f ps) task.entries in by found.0 found.1
  where
    by : (found : Option ℕ) → IsSent task f ps found → Gone task A f ps
    by (Some p) sent = record { state = p; grown = with_trans A f ps p; goes = Goes.entry sent }
    by None sent =
        ⊎_elim (λ s. record { state = s.0; grown = A; goes = Goes.reuse sent (record { has = s.1.has; least = s.1.least }) })
        (λ never. record { state = A.next; grown = with_trans (with_state A) f ps A.next; goes = Goes.fresh sent never })
        (least_found f ps A.trans)

pub record AllPut (task : Task) (A : TreeAutomaton) (cs : List Config) : Type 0 where
  pub states : List ℕ
  pub grown : TreeAutomaton
  pub puts : PutsAll task A cs states grown

module _ (task : Task) where
  abbrev IsPut : Config → Type 0
  IsPut c = (A : TreeAutomaton) → PutResult task A c

  all_put : (cs : List Config) → AllByRecursion IsPut cs → (A : TreeAutomaton) → AllPut task A cs
  all_put [] each A = record { states = []; grown = A; puts = PutsAll.none }
  all_put (c ∷ cs) each A =
      let first = each.0 A in
      let rest = all_put cs each.1 first.grown in
      record { states = first.state ∷ rest.states; grown = rest.grown; puts = PutsAll.more first.puts rest.puts }

  pub put_result : (c : Config) (A : TreeAutomaton) → PutResult task A c
  put_result = config_induction IsPut (λ q A. record { state = q; grown = A; puts = Puts.state })
      (λ f cs each A.
      let args = all_put cs each A in
      let gone = node_goes task args.grown f args.states in
      record { state = gone.state; grown = gone.grown; puts = Puts.node args.puts gone.goes })

pub each_is_put : EachIsPut
each_is_put task A c = put_result task c A

pub each_is_normalised : EachIsNormalised
each_is_normalised context A pair names =
    let rule = names.0 in
    let task = task_of context rule pair in
    let r = put_result task task.whole A in
    record {
      state = r.state;
      grown = with_eps r.grown r.state pair.state;
      normalised = record { rule = rule; is_rule = names.1; put = r.grown; puts = r.puts; led = refl };
    }

pub all_are_normalised : AllAreNormalised
all_are_normalised context A [] names = record { grown = A; normalised = NormalisedAll.none }
all_are_normalised context A (pair ∷ pairs) names =
    let first = each_is_normalised context A pair (All-head (NamesRule context.rules) pair pairs names) in
    let rest = all_are_normalised context first.grown pairs (All-tail (NamesRule context.rules) pair pairs names) in
    record { grown = rest.grown; normalised = NormalisedAll.more first.normalised rest.normalised }
