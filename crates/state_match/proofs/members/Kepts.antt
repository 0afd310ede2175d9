-- The subterms of a pattern in a table, and the states to which each of them runs.
use Rattle.std.proofs.Common.{◌≡◌, ◌↔◌, ◌<◌, ◌≤◌, ◌+◌, ◌-◌, ℕ, zero, suc, Bool, true, false, true≢false, List, [], ◌∷◌, ◌++◌, length, take, drop, map, get_or, set, sym, ap, ◌∙◌, subst, length-append, arith}
use Rattle.std.specs.List.{Contains}
use Rattle.ranked_terms.specs.Terms.{assigned}
use Rattle.ranked_terms.specs.declared.term.Pattern.{Pattern, Var}
use Rattle.ranked_terms.specs.declared.term.Config.{Config, State, App}
use Rattle.ranked_terms.specs.lemmas.TermLaws.{assigned_app, assigned_var}
use Rattle.ta_core.specs.TreeAutomaton.{TreeAutomaton}
use Rattle.ta_core.specs.Closure.{state_in}
use Rattle.ta_core.specs.Runs.{Runs}
use Rattle.ta_core.specs.lemmas.RunStates.{AreExact, runs_of_app}
use Rattle.state_match.specs.declared.nodes.Node.{Node}
use Rattle.state_match.specs.declared.nodes.Source.{Source}
use Rattle.state_match.specs.declared.nodes.Source.TheVariants.{Variable, Application}
use Rattle.state_match.specs.Sides.{Side}
use Rattle.state_match.specs.Kepts.{IsFrom, IsNode, IsTable, AreNodes, HasPatterns, HasLast, RunsFrom, IsExact, AreExactTo, AreExactAll, Renews, IsKept}
use Rattle.state_match.proofs.members.KeptTables.{take_less, table_long, table_at}

-- ---- the sets

module _ (A : TreeAutomaton) (vars σ : List ℕ) where
  abbrev given : Pattern → Config
  given = assigned (state_in vars σ)

  exact_front : (staying c k : ℕ) (ns : List Node) (ps : List Pattern) (sets : List (List ℕ)) → c ≤ k → AreExactTo A vars σ staying k ns ps sets → AreExact A (map given (take c ps)) (take c sets)
  exact_front staying zero k ns ps sets l t = tt
  exact_front staying (suc c) zero ns ps sets l t = absurd (omega arith)
  exact_front staying (suc c) (suc k) [] [] [] l t = tt
  exact_front staying (suc c) (suc k) [] [] (s ∷ sets) l t = absurd t
  exact_front staying (suc c) (suc k) [] (p ∷ ps) sets l t = absurd t
  exact_front staying (suc c) (suc k) (n ∷ ns) [] sets l t = absurd t
  exact_front staying (suc c) (suc k) (n ∷ ns) (p ∷ ps) [] l t = absurd t
  exact_front staying (suc c) (suc k) (n ∷ ns) (p ∷ ps) (s ∷ sets) l t = (t.0, exact_front staying c k ns ps sets (omega arith) t.1)

  exact_slice : (staying s c k : ℕ) (ns : List Node) (ps : List Pattern) (sets : List (List ℕ)) → s + c ≤ k → AreExactTo A vars σ staying k ns ps sets → AreExact A (map given (take c (drop s ps))) (take c (drop s sets))
  exact_slice staying zero c k ns ps sets l t = exact_front staying c k ns ps sets (omega arith) t
  exact_slice staying (suc s) c zero ns ps sets l t = absurd (omega arith)
  exact_slice staying (suc s) zero (suc k) [] [] [] l t = tt
  exact_slice staying (suc s) (suc c) (suc k) [] [] [] l t = tt
  exact_slice staying (suc s) c (suc k) [] [] (x ∷ sets) l t = absurd t
  exact_slice staying (suc s) c (suc k) [] (p ∷ ps) sets l t = absurd t
  exact_slice staying (suc s) c (suc k) (n ∷ ns) [] sets l t = absurd t
  exact_slice staying (suc s) c (suc k) (n ∷ ns) (p ∷ ps) [] l t = absurd t
  exact_slice staying (suc s) c (suc k) (n ∷ ns) (p ∷ ps) (x ∷ sets) l t = exact_slice staying s c k ns ps sets (omega arith) t.1

  -- what its source says is exact
  exact_from : (staying k : ℕ) (ns : List Node) (ps : List Pattern) (sets : List (List ℕ)) (source : Source) (p : Pattern) (set : List ℕ) → IsFrom vars ps k source p → AreExactTo A vars σ staying k ns ps sets →
      ((q : ℕ) → Contains set q ↔ RunsFrom A σ sets source q) → IsExact A vars σ p set
  exact_from staying k ns ps sets (Variable place) p set h t runs q =
      let same : State (get_or σ place 0) ≡ assigned (state_in vars σ) p = ap (λ j. State (get_or σ j 0)) h.2 ∙ (sym (assigned_var (state_in vars σ) h.0) ∙ ap (assigned (state_in vars σ)) (sym h.1)) in
      subst (λ c. Contains set q ↔ Runs A c q) same (runs q)
  exact_from staying k ns ps sets (Application f start count) p set h t runs q =
      let whole : AreExact A (map given (take count (drop start ps))) (take count (drop start sets)) = exact_slice staying start count k ns ps sets h.0 t in
      let app = runs_of_app A f (map given (take count (drop start ps))) (take count (drop start sets)) whole q in
      let same : App f (map given (take count (drop start ps))) ≡ given p = sym (assigned_app (state_in vars σ) f (take count (drop start ps))) ∙ ap (assigned (state_in vars σ)) (sym h.1) in
      subst (λ c. Contains set q ↔ Runs A c q) same (λ i. app.0 ((runs q).0 i), λ r. (runs q).1 (app.1 r))

  exact_skip : (staying k : ℕ) (ns : List Node) (ps : List Pattern) (sets : List (List ℕ)) (n : Node) → k < length ns → (get_or ns k n).until < staying → AreExactTo A vars σ staying k ns ps sets → AreExactTo A vars σ staying (suc k) ns ps sets
  exact_skip staying k [] ps sets n l u t = absurd (omega arith)
  exact_skip staying zero (m ∷ ns) [] sets n l u t = absurd t
  exact_skip staying zero (m ∷ ns) (p ∷ ps) [] n l u t = absurd t
  exact_skip staying zero (m ∷ ns) (p ∷ ps) (s ∷ sets) n l u t = (t.0 u, t.1)
  exact_skip staying (suc k) (m ∷ ns) [] sets n l u t = absurd t
  exact_skip staying (suc k) (m ∷ ns) (p ∷ ps) [] n l u t = absurd t
  exact_skip staying (suc k) (m ∷ ns) (p ∷ ps) (s ∷ sets) n l u t = (t.0, exact_skip staying k ns ps sets n (omega arith) u t.1)

  exact_set : (staying k : ℕ) (ns : List Node) (ps : List Pattern) (sets : List (List ℕ)) (p : Pattern) (set' : List ℕ) → k < length ns → IsExact A vars σ (get_or ps k p) set' → AreExactTo A vars σ staying k ns ps sets → AreExactTo A vars σ staying (suc k) ns ps (set sets k set')
  exact_set staying k [] ps sets p v l e t = absurd (omega arith)
  exact_set staying zero (m ∷ ns) [] sets p v l e t = absurd t
  exact_set staying zero (m ∷ ns) (q ∷ ps) [] p v l e t = absurd t
  exact_set staying zero (m ∷ ns) (q ∷ ps) (s ∷ sets) p v l e t = (e, t.1)
  exact_set staying (suc k) (m ∷ ns) [] sets p v l e t = absurd t
  exact_set staying (suc k) (m ∷ ns) (q ∷ ps) [] p v l e t = absurd t
  exact_set staying (suc k) (m ∷ ns) (q ∷ ps) (s ∷ sets) p v l e t = (t.0, exact_set staying k ns ps sets p v (omega arith) e t.1)

  exact_none : (ns : List Node) (ps : List Pattern) (sets : List (List ℕ)) → length ps ≡ length ns → length sets ≡ length ns → AreExactTo A vars σ 0 0 ns ps sets
  exact_none [] [] [] e f = tt
  exact_none [] [] (s ∷ sets) e f = absurd (omega (arith, f))
  exact_none [] (p ∷ ps) sets e f = absurd (omega (arith, e))
  exact_none (n ∷ ns) [] sets e f = absurd (omega (arith, e))
  exact_none (n ∷ ns) (p ∷ ps) [] e f = absurd (omega (arith, f))
  exact_none (n ∷ ns) (p ∷ ps) (s ∷ sets) e f = (λ l. absurd (omega (arith, l)), exact_none ns ps sets (omega (arith, e)) (omega (arith, f)))

  -- at the end nothing depends on what stayed
  exact_all : (staying : ℕ) (ns : List Node) (ps : List Pattern) (sets : List (List ℕ)) → AreExactTo A vars σ staying (length ns) ns ps sets → AreExactAll A vars σ ns ps sets
  exact_all staying [] [] [] t = tt
  exact_all staying [] [] (s ∷ sets) t = absurd t
  exact_all staying [] (p ∷ ps) sets t = absurd t
  exact_all staying (n ∷ ns) [] sets t = absurd t
  exact_all staying (n ∷ ns) (p ∷ ps) [] t = absurd t
  exact_all staying (n ∷ ns) (p ∷ ps) (s ∷ sets) t = (t.0, exact_all staying ns ps sets t.1)

  -- those of another assignment with the same first states
  exact_stay : (last : List ℕ) (f staying : ℕ) (patterns : List Pattern) (k : ℕ) (ns : List Node) (ps : List Pattern) (sets : List (List ℕ)) → staying ≡ f + 1 → take f last ≡ take f σ → IsTable vars patterns k ns ps → AreExactAll A vars last ns ps sets →
      AreExactTo A vars σ staying 0 ns ps sets
  exact_stay last f staying patterns k [] [] [] e front t x = tt
  exact_stay last f staying patterns k [] [] (s ∷ sets) e front t x = absurd x
  exact_stay last f staying patterns k [] (p ∷ ps) sets e front t x = absurd t
  exact_stay last f staying patterns k (n ∷ ns) [] sets e front t x = absurd t
  exact_stay last f staying patterns k (n ∷ ns) (p ∷ ps) [] e front t x = absurd x
  exact_stay last f staying patterns k (n ∷ ns) (p ∷ ps) (s ∷ sets) e front t x = (
    λ l q. subst (λ c. Contains s q ↔ Runs A c q) (t.0.decides last σ (take_less n.until f last σ (omega (arith, l, e)) front)) (x.0 q),
    exact_stay last f staying patterns (suc k) ns ps sets e front t.1 x.1,
  )

  no_sets : (ns : List Node) (before : List Pattern) (p : Pattern) → AreExactAll A vars σ ns (before ++ p ∷ []) [] → ⊥
  no_sets [] [] p t = t
  no_sets [] (b ∷ before) p t = t
  no_sets (n ∷ ns) [] p t = t
  no_sets (n ∷ ns) (b ∷ before) p t = t

  exact_last : (ns : List Node) (before : List Pattern) (p : Pattern) (sets : List (List ℕ)) (k : ℕ) (d : List ℕ) → length sets ≡ suc k → AreExactAll A vars σ ns (before ++ p ∷ []) sets → IsExact A vars σ p (get_or sets k d)
  exact_last ns before p [] k d e t = absurd (no_sets ns before p t)
  exact_last [] [] p (s ∷ sets) k d e t = absurd t
  exact_last [] (b ∷ before) p (s ∷ sets) k d e t = absurd t
  exact_last (n ∷ ns) [] p (s ∷ sets) zero d e t = t.0
  exact_last (n ∷ []) [] p (s ∷ []) (suc k) d e t = absurd (omega (arith, e))
  exact_last (n ∷ []) [] p (s ∷ s' ∷ sets) (suc k) d e t = absurd t.1
  exact_last (n ∷ m ∷ ns) [] p (s ∷ sets) (suc k) d e t = absurd t.1
  exact_last (n ∷ ns) (b ∷ before) p (s ∷ []) zero d e t = absurd (no_sets ns before p t.1)
  exact_last (n ∷ ns) (b ∷ before) p (s ∷ s' ∷ sets) zero d e t = absurd (omega (arith, e))
  exact_last (n ∷ ns) (b ∷ before) p (s ∷ sets) (suc k) d e t = exact_last ns before p sets k d (omega (arith, e)) t.1

-- ---- one turn

module _ (A : TreeAutomaton) (σ : List ℕ) (staying : ℕ) (ns : List Node) (old : List (List ℕ)) where
  -- up to the place
  abbrev pub RenewsTo : ℕ → List (List ℕ) → Type 0
  RenewsTo k now = (vars : List ℕ) (ps : List Pattern) → AreNodes vars ns ps → AreExactTo A vars σ staying 0 ns ps old → AreExactTo A vars σ staying k ns ps now

  pub renews_skip : (k : ℕ) (now : List (List ℕ)) (n : Node) → k < length ns → n ≡ get_or ns k n → n.until < staying → RenewsTo k now → RenewsTo (k + 1) now
  renews_skip k now n l at u r vars ps are x =
      subst (λ j. AreExactTo A vars σ staying j ns ps now) (omega arith) (exact_skip A vars σ staying k ns ps now n l (subst (λ (m : Node). m.until < staying) at u) (r vars ps are x))

  pub renews_set : (k : ℕ) (now next : List (List ℕ)) (n : Node) (set' : List ℕ) → k < length ns → n ≡ get_or ns k n → ((q : ℕ) → Contains set' q ↔ RunsFrom A σ now n.source q) → next ≡ set now k set' → RenewsTo k now → RenewsTo (k + 1) next
  renews_set k now next n set' l at runs e r vars ps are x =
      let before = r vars ps are x in
      let p : Pattern = get_or ps k (Var 0) in
      let there : IsNode vars ps (0 + k) (get_or ns k n) p = table_at vars ps 0 k ns ps n (Var 0) l are in
      let here : IsNode vars ps k n p = subst (λ m. IsNode vars ps k m p) (sym at) (subst (λ j. IsNode vars ps j (get_or ns k n) p) (omega arith) there) in
      let exact : IsExact A vars σ p set' = exact_from A vars σ staying k ns ps now n.source p set' here.from before runs in
      let after : AreExactTo A vars σ staying (suc k) ns ps (set now k set') = exact_set A vars σ staying k ns ps now (Var 0) set' l exact before in
      subst (λ j. AreExactTo A vars σ staying j ns ps next) (omega arith) (subst (λ sets. AreExactTo A vars σ staying (suc k) ns ps sets) (sym e) after)

-- ---- from one assignment to the next

pub kept_first : (side : Side) (ns : List Node) (sets : List (List ℕ)) (is_known : Bool) (last : List ℕ) → HasLast side.vars side.pattern ns → length sets ≡ length ns → is_known ≡ false → IsKept side ns sets is_known last
kept_first side ns sets is_known last h long e = record { before = h.before; are = h.are; long = long; exact = λ yes. absurd (true≢false (sym yes ∙ e)) }

pub kept_unknown : (side : Side) (ns : List Node) (sets new : List (List ℕ)) (known is_known : Bool) (last later : List ℕ) → IsKept side ns sets known last → length new ≡ length sets → is_known ≡ false → IsKept side ns new is_known later
kept_unknown side ns sets new known is_known last later h long e = record { before = h.before; are = h.are; long = long ∙ h.long; exact = λ yes. absurd (true≢false (sym yes ∙ e)) }

pub kept_patterns : (side : Side) (ns : List Node) (sets : List (List ℕ)) (known : Bool) (last : List ℕ) → IsKept side ns sets known last → HasPatterns ns
kept_patterns side ns sets known last h = record { vars = side.vars; patterns = h.before ++ side.pattern ∷ []; are = h.are }

pub some_nodes : (side : Side) (ns : List Node) (sets : List (List ℕ)) (known : Bool) (last : List ℕ) → IsKept side ns sets known last → 0 < length ns
some_nodes side ns sets known last h =
    let long : length (h.before ++ side.pattern ∷ []) ≡ length ns = table_long side.vars (h.before ++ side.pattern ∷ []) 0 ns (h.before ++ side.pattern ∷ []) h.are in
    omega (arith, long, length-append h.before (side.pattern ∷ []))

-- what stays of the last assignment
abbrev pub Stays : Bool → List ℕ → List ℕ → ℕ → Type 0
Stays known last next staying = 0 < staying → (known ≡ true) × (f : ℕ) × (staying ≡ f + 1) × (take f last ≡ take f next)

pub kept_exact : (side : Side) (ns : List Node) (sets new : List (List ℕ)) (known : Bool) (last σ : List ℕ) (staying : ℕ) → (h : IsKept side ns sets known last) → Stays known last σ staying → Renews side.automaton σ staying ns sets new →
    AreExactAll side.automaton side.vars σ ns (h.before ++ side.pattern ∷ []) new
kept_exact side ns sets new known last σ staying h stays renews =
    let ps : List Pattern = h.before ++ side.pattern ∷ [] in
    exact_all side.automaton side.vars σ staying ns ps new (renews side.vars ps h.are (start staying stays))
  where
    start : (staying : ℕ) → Stays known last σ staying → AreExactTo side.automaton side.vars σ staying 0 ns (h.before ++ side.pattern ∷ []) sets
    start zero stays = exact_none side.automaton side.vars σ ns (h.before ++ side.pattern ∷ []) sets (table_long side.vars (h.before ++ side.pattern ∷ []) 0 ns (h.before ++ side.pattern ∷ []) h.are) h.long
    start (suc n) stays =
        let s = stays (omega arith) in
        exact_stay side.automaton side.vars σ last s.1 (suc n) (h.before ++ side.pattern ∷ []) 0 ns (h.before ++ side.pattern ∷ []) sets s.2 s.3 h.are (h.exact s.0)

pub kept_next : (side : Side) (ns : List Node) (sets new : List (List ℕ)) (known is_known : Bool) (last σ later : List ℕ) (staying : ℕ) → IsKept side ns sets known last → Stays known last σ staying → Renews side.automaton σ staying ns sets new → length new ≡ length sets → later ≡ σ →
    IsKept side ns new is_known later
kept_next side ns sets new known is_known last σ later staying h stays renews long e = record {
  before = h.before;
  are = h.are;
  long = long ∙ h.long;
  exact = λ yes. subst (λ τ. AreExactAll side.automaton side.vars τ ns (h.before ++ side.pattern ∷ []) new) (sym e) (kept_exact side ns sets new known last σ staying h stays renews);
}

-- the pattern's own states
pub kept_last : (side : Side) (ns : List Node) (sets new : List (List ℕ)) (known : Bool) (last σ : List ℕ) (staying : ℕ) → IsKept side ns sets known last → Stays known last σ staying → Renews side.automaton σ staying ns sets new → length new ≡ length sets →
    IsExact side.automaton side.vars σ side.pattern (get_or new (length new - 1) [])
kept_last side ns sets new known last σ staying h stays renews long =
    let some = some_nodes side ns sets known last h in
    exact_last side.automaton side.vars σ ns h.before side.pattern new (length new - 1) [] (omega (arith, some, h.long, long)) (kept_exact side ns sets new known last σ staying h stays renews)

-- ---- as the code has it

module _ (side : Side) (ns : List Node) (sets new : List (List ℕ)) (known : Bool) (last σ : List ℕ) (staying : ℕ) (kept : IsKept side ns sets known last) (A : TreeAutomaton) (at : A ≡ side.automaton) (ms : List Node) (there : ms ≡ ns) (before : List ℕ) (was : before ≡ last)
    (stays : Stays known before σ staying) (renews : Renews A σ staying ms sets new) (long : length new ≡ length sets) where
  stays_last : Stays known last σ staying
  stays_last = subst (λ xs. Stays known xs σ staying) was stays

  renews_here : Renews side.automaton σ staying ns sets new
  renews_here = subst (λ (B : TreeAutomaton). Renews B σ staying ns sets new) at (subst (λ (ks : List Node). Renews A σ staying ks sets new) there renews)

  pub kept_on : (later : List ℕ) → later ≡ σ → IsKept side ns new true later
  kept_on later e = kept_next side ns sets new known true last σ later staying kept stays_last renews_here long e

  pub states_are : (all : List (List ℕ)) → all ≡ new → (set' : List ℕ) → set' ≡ get_or all (length all - 1) [] → IsExact side.automaton side.vars σ side.pattern set'
  states_are all e set' f = subst (λ xs. IsExact side.automaton side.vars σ side.pattern xs) (sym (f ∙ ap (λ (xs : List (List ℕ)). get_or xs (length xs - 1) []) e)) (kept_last side ns sets new known last σ staying kept stays_last renews_here long)
