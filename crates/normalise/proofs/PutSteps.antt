-- The steps of putting with a limit: one node, and the arguments of a node one after the other.
use Rattle.std.proofs.Common.{◌≡◌, ℕ, zero, suc, get_or, ◌<◌, ◌≤◌, List, [], ◌∷◌, ◌++◌, map, take, drop, length, Option, Some, None, All, Contains, IfSome, IfNone, refl, sym, ap, subst, ◌∙◌, ⊎_elim, inl, inr, arith, eq-eqb, ne_eqb, Result, Ok, Err, IfOk}
use Rattle.std.specs.List.{AllByRecursion}
use Rattle.std.proofs.lemmas.List.{take-append-drop}
use Rattle.std.proofs.Math.Seq.{drop-cons}
use Rattle.std.proofs.lemmas.List.Elements.{All-head, All-tail, All-contains, All-weaker, Contains-append_left, Contains-append_right, Contains-push}
use Rattle.ranked_terms.specs.Terms.{joined}
use Rattle.ranked_terms.specs.declared.term.Config.{Config}
use Rattle.ranked_terms.specs.declared.term.Config.TheVariants as config
use Rattle.ranked_terms.specs.lemmas.TermLaws.{config_induction}
use Rattle.trs_rules.specs.declared.entry.Entry.{Entry}
use Rattle.list_laws.proofs.Decided.{same_number}
use Rattle.list_laws.proofs.Inserting.{inserted}
use Rattle.list_laws.proofs.Members.{all_from_members}
use Rattle.ta_core.specs.TreeAutomaton.{TreeAutomaton, IsSound, IsTransOf, trans_of}
use Rattle.ta_core.specs.Acceptance.{image}
use Rattle.ta_core.specs.Runs.{Runs, RunsAll}
use Rattle.ta_core.specs.Growth.{with_state, with_trans, with_eps, IsLeastTarget, HasNoTarget}
use Rattle.ta_core.specs.lemmas.Orders.{trans_total, trans_exact, pair_total, pair_exact}
use Rattle.ta_core.specs.lemmas.RunsLaws.{runs_within, all_within}
use Rattle.normalise.specs.Normalising.{Task, Fits, FirstFit, IsSent, Goes, Puts, PutsAll, StaysWithin}
use Rattle.normalise.specs.AtWork.{HasTargets, HasStates, states_in, PutNeedsMore, NodeNeedsMore}
use Rattle.normalise.specs.NormalisingLaws.{IsGrown}
use Rattle.normalise.proofs.Existence.{put_result, node_goes, AllPut}
use Rattle.normalise.proofs.OneResult.{Enters, NodePut, inverted}
use Rattle.normalise.proofs.Parts.{states_in_app, of_state}
use Rattle.normalise.proofs.Stays.{goes_grown, put_grown, all_grown, eps_grown}

-- ---- the first entry that fits

abbrev pub Never : Task → Config → Entry → Type 0
Never task node e = Fits task node e → ⊥

pub first_at : (task : Task) (node : Config) (es : List Entry) (i : ℕ) (e : Entry) → i < length es → get_or es i e ≡ e → All (Never task node) (take i es) → Fits task node e →
    FirstFit task node es (Some (image task.places e.target))
first_at task node [] i e l is never fits = absurd (omega (arith, l))
first_at task node (x ∷ es) zero e l is never fits =
    subst (λ (x : Entry). FirstFit task node (x ∷ es) (Some (image task.places e.target))) (sym is) (FirstFit.fits fits)
first_at task node (x ∷ es) (suc i) e l is never fits =
    FirstFit.later (All-head (Never task node) x (take i es) never) (first_at task node es i e (omega (arith, l)) is (All-tail (Never task node) x (take i es) never) fits)

pub none_fits : (task : Task) (node : Config) (es : List Entry) → All (Never task node) es → FirstFit task node es None
none_fits task node [] never = FirstFit.none
none_fits task node (x ∷ es) never = FirstFit.later (All-head (Never task node) x es never) (none_fits task node es (All-tail (Never task node) x es never))

-- ---- one node

fit_target : {task : Task} {node : Config} {es : List Entry} {found : Option ℕ} → FirstFit task node es found → (A : TreeAutomaton) (p : ℕ) → found ≡ Some p →
    All (λ (e : Entry). Contains A.states (image task.places e.target)) es → Contains A.states p
fit_target FirstFit.none A p e all = absurd (cc)
fit_target {task = task} (FirstFit.fits {e = entry} {es = es} fits) A p e all =
    let same : image task.places entry.target ≡ p = cc in
    subst (Contains A.states) same (All-head (λ (e : Entry). Contains A.states (image task.places e.target)) entry es all)
fit_target {task = task} (FirstFit.later {e = entry} {es = es} never rest) A p e all =
    fit_target rest A p e (All-tail (λ (e : Entry). Contains A.states (image task.places e.target)) entry es all)

pub sent_stands : (task : Task) (A : TreeAutomaton) (f : ℕ) (ps : List ℕ) (found : Option ℕ) (p : ℕ) → HasTargets A task → IsSent task f ps found → found ≡ Some p → Contains A.states p
sent_stands task A f ps found p has sent is = fit_target sent A p is has

pub entry_goes : (task : Task) (A B : TreeAutomaton) (f : ℕ) (ps : List ℕ) (found : Option ℕ) (p : ℕ) → IsSent task f ps found → found ≡ Some p → B ≡ with_trans A f ps p → Goes task A f ps p B
entry_goes task A B f ps found p sent is same = subst (Goes task A f ps p) (sym same) (Goes.entry (subst (IsSent task f ps) is sent))

pub reuse_goes : (task : Task) (A : TreeAutomaton) (f : ℕ) (ps : List ℕ) (lack found : Option ℕ) (p : ℕ) → IsSent task f ps lack → lack ≡ None → IfSome found (IsLeastTarget A f ps) → found ≡ Some p → Goes task A f ps p A
reuse_goes task A f ps lack found p sent is least same = Goes.reuse (subst (IsSent task f ps) is sent) (subst (λ o. IfSome o (IsLeastTarget A f ps)) same least)

pub reuse_stands : (A : TreeAutomaton) (f : ℕ) (ps : List ℕ) (found : Option ℕ) (p : ℕ) → IsSound A → IfSome found (IsLeastTarget A f ps) → found ≡ Some p → Contains A.states p
reuse_stands A f ps found p sound least same =
    let l : IsLeastTarget A f ps p = subst (λ o. IfSome o (IsLeastTarget A f ps)) same least in
    (All-contains (IsTransOf A.states) A.trans (trans_of f ps p) sound.trans l.has).to

pub fresh_goes : (task : Task) (A M B : TreeAutomaton) (f : ℕ) (ps : List ℕ) (lack found : Option ℕ) (p : ℕ) → IsSent task f ps lack → lack ≡ None → IfNone found (HasNoTarget A f ps) → found ≡ None →
    p ≡ A.next → M ≡ with_state A → B ≡ with_trans M f ps p → Goes task A f ps p B
fresh_goes task A M B f ps lack found p sent is never nothing number grown same =
    subst (λ p. Goes task A f ps p B) (sym number)
    (subst (Goes task A f ps A.next) (sym (same ∙ (λ i. with_trans (grown i) f ps (number i))))
    (Goes.fresh (subst (IsSent task f ps) is sent) (subst (λ o. IfNone o (HasNoTarget A f ps)) nothing never)))

pub fresh_needs : (task : Task) (A : TreeAutomaton) (f : ℕ) (ps : List ℕ) (lack found : Option ℕ) (most : ℕ) → IsSent task f ps lack → lack ≡ None → IfNone found (HasNoTarget A f ps) → found ≡ None →
    most ≤ A.next → NodeNeedsMore task most A f ps
fresh_needs task A f ps lack found most sent is never nothing limit = record {
  state = A.next;
  grown = with_trans (with_state A) f ps A.next;
  goes = fresh_goes task A (with_state A) (with_trans (with_state A) f ps A.next) f ps lack found A.next sent is never nothing refl refl refl;
  needs = record { some = omega arith; above = omega (arith, limit) };
}

pub fresh_args : (A M : TreeAutomaton) (ps : List ℕ) → M ≡ with_state A → All (Contains A.states) ps → All (Contains M.states) ps
fresh_args A M ps grown all =
    subst (λ (M : TreeAutomaton). All (Contains M.states) ps) (sym grown) (All-weaker (Contains A.states) (Contains (A.states ++ A.next ∷ [])) (λ q c. Contains-append_left A.states (A.next ∷ []) q c) ps all)

pub fresh_stands : (A M : TreeAutomaton) (p : ℕ) → p ≡ A.next → M ≡ with_state A → Contains M.states p
fresh_stands A M p number grown = subst (λ p. Contains M.states p) (sym number) (subst (λ (M : TreeAutomaton). Contains M.states A.next) (sym grown) (Contains-push A.states A.next))

pub trans_states : (A B : TreeAutomaton) (f : ℕ) (ps : List ℕ) (p q : ℕ) → B ≡ with_trans A f ps p → Contains A.states q → Contains B.states q
trans_states A B f ps p q same c = subst (λ (B : TreeAutomaton). Contains B.states q) (sym same) c

-- ---- configurations

pub stays_on : (most : ℕ) (A B C : TreeAutomaton) → StaysWithin most A B → StaysWithin most B C → StaysWithin most A C
stays_on most A B C a b =
    ⊎_elim (λ same. ⊎_elim (λ first. inl (same ∙ first)) (λ below. inr (omega (arith, same, below))) a) (λ below. inr below) b

put_two : {task : Task} {A B C : TreeAutomaton} {cs ds : List Config} {ps qs : List ℕ} → PutsAll task A cs ps B → PutsAll task B ds qs C → PutsAll task A (cs ++ ds) (ps ++ qs) C
put_two PutsAll.none rest = rest
put_two (PutsAll.more first others) rest = PutsAll.more first (put_two others rest)

each_put : (task : Task) (cs : List Config) (A : TreeAutomaton) → AllPut task A cs
each_put task [] A = record { states = []; grown = A; puts = PutsAll.none }
each_put task (c ∷ cs) A =
    let first = put_result task c A in
    let rest = each_put task cs first.grown in
    record { states = first.state ∷ rest.states; grown = rest.grown; puts = PutsAll.more first.puts rest.puts }

-- an argument that needs more, and so the node does
pub node_needs : (task : Task) (most : ℕ) (A M : TreeAutomaton) (f : ℕ) (before behind : List Config) (c : Config) (ps : List ℕ) → PutsAll task A before ps M → PutNeedsMore task most M c →
    PutNeedsMore task most A (config.App f (before ++ c ∷ behind))
node_needs task most A M f before behind c ps so_far needs =
    let rest = each_put task behind needs.grown in
    let all : PutsAll task A (before ++ c ∷ behind) (ps ++ needs.state ∷ rest.states) rest.grown = put_two so_far (PutsAll.more needs.puts rest.puts) in
    let gone = node_goes task rest.grown f (ps ++ needs.state ∷ rest.states) in
    let a = (all_grown so_far).next in
    let b = needs.needs.some in
    let b' = needs.needs.above in
    let d = (all_grown rest.puts).next in
    let e = (goes_grown gone.goes).next in
    record {
      state = gone.state;
      grown = gone.grown;
      puts = Puts.node all gone.goes;
      needs = record { some = omega (arith, a, b, d, e); above = omega (arith, b', d, e) };
    }

-- the node itself needs more
pub last_needs : (task : Task) (most : ℕ) (A M : TreeAutomaton) (f : ℕ) (cs : List Config) (ps : List ℕ) → PutsAll task A cs ps M → NodeNeedsMore task most M f ps → PutNeedsMore task most A (config.App f cs)
last_needs task most A M f cs ps so_far needs =
    let a = (all_grown so_far).next in
    let b = needs.needs.some in
    let b' = needs.needs.above in
    record { state = needs.state; grown = needs.grown; puts = Puts.node so_far needs.goes; needs = record { some = omega (arith, a, b); above = omega (arith, b') } }

-- one argument more
pub put_more : {task : Task} {A B C : TreeAutomaton} {cs : List Config} {ps : List ℕ} {c : Config} {p : ℕ} → PutsAll task A cs ps B → Puts task B c p C → PutsAll task A (cs ++ c ∷ []) (ps ++ p ∷ []) C
put_more PutsAll.none q = PutsAll.more q PutsAll.none
put_more (PutsAll.more r rs) q = PutsAll.more r (put_more rs q)

pub targets_on : (task : Task) (A B : TreeAutomaton) → IsGrown A B → HasTargets A task → HasTargets B task
targets_on task A B g has =
    All-weaker (λ (e : Entry). Contains A.states (image task.places e.target)) (λ (e : Entry). Contains B.states (image task.places e.target)) (λ e c. g.within.states (image task.places e.target) c) task.entries has

-- a list around a place
pub parts_at : {X : Type 0} (xs : List X) (i : ℕ) (x : X) → i < length xs → get_or xs i x ≡ x → take i xs ++ x ∷ drop (suc i) xs ≡ xs
parts_at xs i x l e = ap (λ ys. take i xs ++ ys) (ap (λ y. y ∷ drop (suc i) xs) (sym e) ∙ sym (drop-cons xs i x l)) ∙ take-append-drop i xs

-- ---- the right side runs

goes_has : {task : Task} {A B : TreeAutomaton} {f p : ℕ} {ps : List ℕ} → Goes task A f ps p B → Contains B.trans (trans_of f ps p)
goes_has {A = A} {f = f} {ps = ps} (Goes.entry {p = p} sent) = inserted trans_total trans_exact A.trans (trans_of f ps p)
goes_has (Goes.reuse sent has) = has.has
goes_has {A = A} {f = f} {ps = ps} (Goes.fresh sent never) = inserted trans_total trans_exact A.trans (trans_of f ps A.next)

module _ (task : Task) where
  abbrev RunsWherePut : Config → Type 0
  RunsWherePut c = (A : TreeAutomaton) → HasStates A c → (q : ℕ) (B : TreeAutomaton) → Puts task A c q B → Runs B c q

  all_run : (cs : List Config) → AllByRecursion RunsWherePut cs → (A : TreeAutomaton) → All (Contains A.states) (joined (map states_in cs)) → (qs : List ℕ) (B : TreeAutomaton) →
      PutsAll task A cs qs B → RunsAll B cs qs
  all_run [] each A stand qs B PutsAll.none = RunsAll.none
  all_run (c ∷ cs) each A stand qs B (PutsAll.more {B = M} {p = q} {ps = others} first rest) =
      let here' : All (Contains A.states) (states_in c) = all_from_members (Contains A.states) (states_in c)
      (λ s i. All-contains (Contains A.states) (joined (map states_in (c ∷ cs))) s stand (Contains-append_left (states_in c) (joined (map states_in cs)) s i)) in
      let later : All (Contains M.states) (joined (map states_in cs)) = all_from_members (Contains M.states) (joined (map states_in cs))
      (λ s i. (put_grown first).within.states s (All-contains (Contains A.states) (joined (map states_in (c ∷ cs))) s stand (Contains-append_right (states_in c) (joined (map states_in cs)) s i))) in
      RunsAll.more (runs_within (all_grown rest).within (each.0 A here' q M first)) (all_run cs each.1 M later others B rest)

  state_runs : (p : ℕ) → RunsWherePut (config.State p)
  state_runs p A stand q B put =
      let e = subst (λ o. Enters task A o q B) (config.outs-State p) (inverted put) in
      subst (λ (X : TreeAutomaton). Runs X (config.State p) q) e.1 (subst (Runs A (config.State p)) e.0 (Runs.at (of_state (Contains A.states) p stand)))

  app_runs : (f : ℕ) (cs : List Config) → AllByRecursion RunsWherePut cs → RunsWherePut (config.App f cs)
  app_runs f cs each A stand q B put =
      let d : NodePut task A f cs q B = subst (λ o. Enters task A o q B) (config.outs-App f cs) (inverted put) in
      let args = all_run cs each A (subst (All (Contains A.states)) (states_in_app f cs) stand) d.states d.mid d.args in
      Runs.app (all_within (goes_grown d.goes).within args) (goes_has d.goes)

  pub put_runs : (c : Config) → RunsWherePut c
  put_runs = config_induction RunsWherePut state_runs app_runs

-- on to the pair's state
pub eps_runs : (A : TreeAutomaton) (p q : ℕ) (c : Config) → Runs A c p → Runs (with_eps A p q) c q
eps_runs A p q c r =
    ⊎_elim (λ same. rw (eq-eqb p q same) (subst (Runs A c) same r))
    (λ differ. Runs.step {p = p} {q = q} (runs_within (eps_grown A p q).within r) (rw (ne_eqb p q differ) (inserted pair_total pair_exact A.eps (p, q)))) (same_number p q)

-- ---- the same of calls that may have been refused

pub put_state : (task : Task) (A : TreeAutomaton) (q : ℕ) → Puts task A (config.State q) q A
put_state task A q = Puts.state

pub put_node_ok : {X : Type 0} (task : Task) (A B C : TreeAutomaton) (f : ℕ) (cs : List Config) (qs : List ℕ) (r : Result ℕ X) → PutsAll task A cs qs B →
    IfOk r (λ p. Goes task B f qs p C) → IfOk r (λ p. Puts task A (config.App f cs) p C)
put_node_ok task A B C f cs qs (Ok p) all goes = Puts.node all goes
put_node_ok task A B C f cs qs (Err x) all goes = tt
