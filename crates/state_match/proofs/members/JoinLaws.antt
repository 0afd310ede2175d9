-- From the states of arguments to those of an application, and back.
use Rattle.std.proofs.Common.{◌≡◌, ◌↔◌, ◌<◌, ◌≤◌, ◌+◌, ℕ, zero, suc, List, [], ◌∷◌, ◌++◌, length, take, drop, map, get_or, refl, sym, ap, ◌∙◌, subst, inr, Bool, true, false, true≢false, ◌==◌, arith}
use Rattle.std.specs.List.{Contains, All, AllZip, position_or_len}
use Rattle.std.proofs.lemmas.Bool.{eqb-true}
use Rattle.std.proofs.lemmas.List.{length-map, take_more, take_all, drop_more, map-append, take-append-drop}
use Rattle.std.proofs.lemmas.List.Elements.{All-contains, All-cons}
use Rattle.ranked_terms.specs.Terms.{assigned}
use Rattle.ranked_terms.specs.declared.term.Pattern.{Pattern, Var, App as App'}
use Rattle.ranked_terms.specs.declared.term.Config.{Config, State, App}
use Rattle.ranked_terms.specs.lemmas.TermLaws.{assigned_app, assigned_var, same_application}
use Rattle.ta_core.specs.Closure.{state_in}
use Rattle.ta_core.specs.TreeAutomaton.{TreeAutomaton, IsSound, IsTransOf, IsEpsOf, bare, trans_of}
use Rattle.list_laws.specs.Lists.{IsUnion}
use Rattle.ta_core.specs.Runs.{Runs, RunsAll, Reaches}
use Rattle.ta_core.specs.declared.trans.Trans.{Trans}
use Rattle.ta_core.specs.Reached.{ReachedFrom, HasTransInto, EntersAndReaches}
use Rattle.list_laws.proofs.Members.{all_from_members}
use Rattle.ta_core.specs.lemmas.RunsLaws.{run_of_app, run_of_state, run_of_plain, plain_of_run}
use Rattle.ta_core.specs.lemmas.RunStates.{AreExact, exact_more, runs_of_app, entered_and_reached}
use Rattle.list_laws.proofs.Zips.{zip_length}
use Rattle.state_match.specs.Rows.{AreWantedNext, FitsFrom, IsNextAt, IsClosedBack, IsFirst, IsFirstOf, IsReverse, turn, turn_row, RunsFor}
use Rattle.state_match.specs.Belows.{RunsInto}
use Rattle.state_match.proofs.members.Members.{here, there, map_has, map_had}
use Rattle.state_match.proofs.members.Belows.{Into, into_given, into_runs, zip_from}

-- ---- sets of states at their places

fits_up : (k q : ℕ) (sets : List (List ℕ)) (qs : List ℕ) → FitsFrom k sets qs → FitsFrom (suc k) sets (q ∷ qs)
fits_up k q [] qs f = tt
fits_up k q (set ∷ sets) qs f = (f.0, f.1, f.2, fits_up (suc k) q sets qs f.3)

fits_down : (k q : ℕ) (sets : List (List ℕ)) (qs : List ℕ) → FitsFrom (suc k) sets (q ∷ qs) → FitsFrom k sets qs
fits_down k q [] qs f = tt
fits_down k q (set ∷ sets) qs f = (f.0, f.1, f.2, fits_down (suc k) q sets qs f.3)

fits_from_zip : (sets : List (List ℕ)) (qs : List ℕ) → AllZip Contains sets qs → FitsFrom 0 sets qs
fits_from_zip [] qs z = tt
fits_from_zip (set ∷ sets) [] z = absurd z
fits_from_zip (set ∷ sets) (q ∷ qs) z = (q, refl, z.0, fits_up 0 q sets qs (fits_from_zip sets qs z.1))

zip_from_fits : (sets : List (List ℕ)) (qs : List ℕ) → FitsFrom 0 sets qs → length qs ≡ length sets → AllZip Contains sets qs
zip_from_fits [] [] f e = tt
zip_from_fits [] (q ∷ qs) f e = absurd (omega arith)
zip_from_fits (set ∷ sets) [] f e = absurd (omega arith)
zip_from_fits (set ∷ sets) (q ∷ qs) f e =
    let same : f.0 ≡ q = omega (arith, f.1) in
    (subst (Contains set) same f.2, zip_from_fits sets qs (fits_down 0 q sets qs f.3) (omega arith))

get_past : (k : ℕ) (qs : List ℕ) (d : ℕ) → length qs ≤ k → get_or qs k d ≡ d
get_past k [] d l = refl
get_past zero (q ∷ qs) d l = absurd (omega arith)
get_past (suc k) (q ∷ qs) d l = get_past k qs d (omega arith)

get_has : (k : ℕ) (qs : List ℕ) (d : ℕ) (P : ℕ → Type 0) → All P qs → P d → P (get_or qs k d)
get_has k qs d P a p = go k qs (λ q c. All-contains P qs q a c)
  where
    go : (k : ℕ) (qs : List ℕ) → ((q : ℕ) → Contains qs q → P q) → P (get_or qs k d)
    go k [] h = p
    go zero (q ∷ qs) h = h q (here q qs)
    go (suc k) (q ∷ qs) h = go k qs (λ r c. h r (there q r qs c))

-- what stands next is a state
pub next_inside : (A : TreeAutomaton) → IsSound A → (f arity : ℕ) (sets others : List (List ℕ)) (wanted all : List ℕ) → ((x : ℕ) → Contains all x ↔ IsNextAt A.trans f sets others arity wanted x) → All (Contains A.states) all
next_inside A sound f arity sets others wanted all exact = all_from_members (Contains A.states) all (λ x c.
    let n = ((exact x).0 c).next in
    let t = All-contains (IsTransOf A.states) A.trans n.row sound.trans n.has in
    subst (Contains A.states) n.is (get_has (0 + length sets) n.row.args n.row.to (Contains A.states) t.args t.to))

-- of the same transitions
pub exact_at : (ts us : List Trans) (f count : ℕ) (sets others : List (List ℕ)) (ends all : List ℕ) → ts ≡ us → ((x : ℕ) → Contains all x ↔ IsNextAt ts f sets others count ends x) → (x : ℕ) → Contains all x ↔ IsNextAt us f sets others count ends x
exact_at ts us f count sets others ends all e h x = subst (λ (rows : List Trans). Contains all x ↔ IsNextAt rows f sets others count ends x) e (h x)

-- ---- behind all arguments stands the target

pub targets_next : (A : TreeAutomaton) → IsSound A → (f : ℕ) (sets : List (List ℕ)) (states : List ℕ) → states ≡ A.states → (x : ℕ) → IsNextAt A.trans f sets [] (length sets) states x ↔ HasTransInto A.trans f sets x
targets_next A sound f sets states e x = (
  λ n.
      let m = n.next in
      let end : get_or m.row.args (0 + length sets) m.row.to ≡ m.row.to = get_past (0 + length sets) m.row.args m.row.to (omega (arith, m.arity)) in
      let is : m.row.to ≡ x = sym end ∙ m.is in
      let same : m.row ≡ trans_of f m.row.args x = λ i. trans_of (n.symbol i) m.row.args (is i) in
      record { args = m.row.args; fit = zip_from_fits sets m.row.args m.fits m.arity; has = subst (Contains A.trans) same m.has },
  λ h.
      let long = zip_length sets h.args h.fit in
      record {
        next = record {
          row = trans_of f h.args x;
          has = h.has;
          fits = fits_from_zip sets h.args h.fit;
          on = tt;
          arity = sym long;
          wanted = subst (λ xs. Contains xs x) (sym e) (All-contains (IsTransOf A.states) A.trans (trans_of f h.args x) sound.trans h.has).to;
          is = get_past (0 + length sets) h.args x (omega (arith, long));
        };
        symbol = refl;
      },
)

pub applied_is : (A : TreeAutomaton) → IsSound A → (f : ℕ) (sets : List (List ℕ)) (states targets : List ℕ) → states ≡ A.states → ((x : ℕ) → Contains targets x ↔ IsNextAt A.trans f sets [] (length sets) states x) →
    (q : ℕ) → ReachedFrom A targets q ↔ EntersAndReaches A f sets q
applied_is A sound f sets states targets e exact = entered_and_reached A f sets targets (λ x.
    let t = targets_next A sound f sets states e x in
    (λ c. t.0 ((exact x).0 c), λ h. (exact x).1 (t.1 h)))

-- ---- backwards

reaches_on : {A : TreeAutomaton} {p q r : ℕ} → Reaches A p q → Reaches A q r → Reaches A p r
reaches_on a Reaches.here = a
reaches_on a (Reaches.on b e) = Reaches.on (reaches_on a b) e

turned : {A B : TreeAutomaton} → IsReverse A B → {p q : ℕ} → Reaches A p q → Reaches B q p
turned v Reaches.here = Reaches.here
turned v (Reaches.on {q = q} {r = r} a e) = reaches_on (Reaches.on Reaches.here (v.eps q r e)) (turned v a)

pub closed_back : (A B : TreeAutomaton) → IsReverse A B → (column back : List ℕ) → ((q : ℕ) → Contains back q ↔ ReachedFrom B column q) → IsClosedBack A back
closed_back A B v column back exact p q r c =
    let h = (exact q).0 c in
    (exact p).1 (record { start = h.start; starts = h.starts; reaches = reaches_on h.reaches (turned v r) })

pub in_back : (B : TreeAutomaton) (column back : List ℕ) → ((q : ℕ) → Contains back q ↔ ReachedFrom B column q) → (q : ℕ) → Contains column q → Contains back q
in_back B column back exact q c = (exact q).1 (record { start = q; starts = c; reaches = Reaches.here })

pub inside_reverse : (A B : TreeAutomaton) → IsReverse A B → (all : List ℕ) → All (Contains A.states) all → All (Contains B.states) all
inside_reverse A B v all a = all_from_members (Contains B.states) all (λ q c. v.states q (All-contains (Contains A.states) all q a c))

-- ---- the next argument

-- the first ones are in their sets, those from the next one on in the others, and the next one runs to what stands next
record Split (A : TreeAutomaton) (sets others : List (List ℕ)) (qs : List ℕ) (c : Config) : Type 0 where
  state : ℕ
  fits : FitsFrom 0 sets qs
  on : FitsFrom (length sets) others qs
  is : (d : ℕ) → get_or qs (length sets) d ≡ state
  runs : Runs A c state

split : (A : TreeAutomaton) (cs : List Config) (c : Config) (more : List Config) (sets others : List (List ℕ)) {qs : List ℕ} → AreExact A cs sets → Into A (c ∷ more) others → RunsAll A (cs ++ c ∷ more) qs → Split A sets others qs c
split A [] c more [] others e z (RunsAll.more {q = q} {qs = qs} r rs) = record { state = q; fits = tt; on = fits_from_zip others (q ∷ qs) (into_runs A others z (RunsAll.more r rs)); is = λ d. refl; runs = r }
split A [] c more (s ∷ sets) others e z r = absurd e
split A (x ∷ cs) c more [] others e z r = absurd e
split A (x ∷ cs) c more (s ∷ sets) others e z (RunsAll.more {q = q} {qs = qs} r rs) =
    let h = split A cs c more sets others e.1 z rs in
    record { state = h.state; fits = (q, refl, (e.0 q).1 r, fits_up 0 q sets qs h.fits); on = fits_up (length sets) q others qs h.on; is = λ d. h.is d; runs = h.runs }

runs_length : {A : TreeAutomaton} {cs : List Config} {qs : List ℕ} → RunsAll A cs qs → length qs ≡ length cs
runs_length RunsAll.none = refl
runs_length (RunsAll.more r rs) = ap suc (runs_length rs)

-- the argument runs to a state of the column
pub column_has : (A : TreeAutomaton) (f q : ℕ) (cs : List Config) (c : Config) (more : List Config) (sets others : List (List ℕ)) (wanted column : List ℕ) → IsClosedBack A wanted → AreExact A cs sets → Into A (c ∷ more) others →
    ((x : ℕ) → IsNextAt A.trans f sets others (length (cs ++ c ∷ more)) wanted x → Contains column x) → Contains wanted q → Runs A (App f (cs ++ c ∷ more)) q → (x : ℕ) × Contains column x × Runs A c x
column_has A f q cs c more sets others wanted column closed exact into members want r =
    let a = run_of_app f (cs ++ c ∷ more) q r in
    let h = split A cs c more sets others exact into a.args in
    let plain_sum : 0 + length sets ≡ length sets = omega arith in (
      h.state,
      members h.state (record {
        next = record {
          row = trans_of f a.states a.target;
          has = a.has;
          fits = h.fits;
          on = subst (λ k. FitsFrom k others a.states) (sym plain_sum) h.on;
          arity = runs_length a.args;
          wanted = closed a.target q a.on want;
          is = ap (λ k. get_or a.states k a.target) plain_sum ∙ h.is a.target;
        };
        symbol = refl;
      }),
      h.runs,
    )

pub some_items : {X : Type 0} (items : List X) → (length items == 0) ≡ false → 0 < length items
some_items [] e = absurd (true≢false e)
some_items (x ∷ xs) e = omega arith

-- ---- the sets of the first arguments

module _ (A : TreeAutomaton) (vars bound : List ℕ) where
  mapped_length : (g : Pattern → Config) (ps : List Pattern) → length (map g ps) ≡ length ps
  mapped_length g [] = refl
  mapped_length g (p ∷ ps) = ap suc (mapped_length g ps)

  abbrev given : List ℕ → Pattern → Config
  given rest = assigned (state_in vars (bound ++ rest))

  abbrev pub AreSets : List Pattern → List (List ℕ) → Type 0
  AreSets ps sets = (rest : List ℕ) → AreExact A (map (assigned (state_in vars (bound ++ rest))) ps) sets

  abbrev pub IsValue : Pattern → List ℕ → Type 0
  IsValue p set = (rest : List ℕ) (q : ℕ) → Contains set q ↔ Runs A (assigned (state_in vars (bound ++ rest)) p) q

  pub sets_more : (items : List Pattern) (i : ℕ) (arg : Pattern) (sets next : List (List ℕ)) (set : List ℕ) → i < length items → arg ≡ get_or items i arg → AreSets (take i items) sets → IsValue arg set →
      next ≡ sets ++ set ∷ [] → AreSets (take (i + 1) items) next
  sets_more items i arg sets next set l e exact is n rest =
      let more : map (given rest) (take (i + 1) items) ≡ map (given rest) (take i items) ++ given rest arg ∷ [] =
      ap (map (given rest)) (take_more items i arg l ∙ ap (λ x. take i items ++ x ∷ []) (sym e)) ∙ map-append (given rest) (take i items) (arg ∷ []) in
      subst (λ cs. AreExact A cs next) (sym more) (subst (AreExact A (map (given rest) (take i items) ++ given rest arg ∷ [])) (sym n) (exact_more A (map (given rest) (take i items)) sets (given rest arg) set (exact rest) (is rest)))

  pub value_app : (f : ℕ) (items args : List Pattern) (i : ℕ) (sets : List (List ℕ)) (states : List ℕ) → length items ≤ i → items ≡ args → AreSets (take i items) sets → ((q : ℕ) → Contains states q ↔ EntersAndReaches A f sets q) →
      IsValue (App' f args) states
  value_app f items args i sets states end e exact is rest q =
      let whole : AreExact A (map (given rest) args) sets = subst (λ ps. AreExact A (map (given rest) ps) sets) (take_all i items end ∙ e) (exact rest) in
      let h = runs_of_app A f (map (given rest) args) sets whole q in
      subst (λ c. Contains states q ↔ Runs A c q) (sym (assigned_app (state_in vars (bound ++ rest)) f args)) (λ c. h.0 ((is q).0 c), λ r. (is q).1 (h.1 r))

  append_left : (k : ℕ) (xs ys : List ℕ) (d e : ℕ) → k < length xs → get_or (xs ++ ys) k d ≡ get_or xs k e
  append_left k [] ys d e l = absurd (omega arith)
  append_left zero (x ∷ xs) ys d e l = refl
  append_left (suc k) (x ∷ xs) ys d e l = append_left k xs ys d e (omega arith)

  pub value_var : (v place b d : ℕ) (states : List ℕ) → place ≡ position_or_len (λ w. v == w) vars → place < length bound → b ≡ get_or bound place d → ((q : ℕ) → Contains states q ↔ Runs A (State b) q) → IsValue (Var v) states
  value_var v place b d states at l e is rest q =
      let same : state_in vars (bound ++ rest) v ≡ b = ap (λ k. get_or (bound ++ rest) k 0) (sym at) ∙ (append_left place bound rest 0 d l ∙ sym e) in
      subst (λ c. Contains states q ↔ Runs A c q) (sym (assigned_var (state_in vars (bound ++ rest)) v ∙ ap State same)) (is q)

  -- by another list of the same members
  pub value_same : (p : Pattern) (set listed : List ℕ) → ((q : ℕ) → Contains listed q ↔ Contains set q) → IsValue p set → IsValue p listed
  value_same p set listed same is rest q = (λ i. (is rest q).0 ((same q).0 i), λ r. (same q).1 ((is rest q).1 r))

  -- ---- the next variable

  abbrev pub Narrows : List ℕ → Pattern → List ℕ → Type 0
  Narrows wanted p states = IsClosedBack A wanted → (s : ℕ) (rest : List ℕ) (q : ℕ) → Contains wanted q → Runs A (assigned (state_in vars (bound ++ s ∷ rest)) p) q → Contains states s

  next_there : (xs : List ℕ) (s : ℕ) (ys : List ℕ) → get_or (xs ++ s ∷ ys) (length xs) 0 ≡ s
  next_there [] s ys = refl
  next_there (x ∷ xs) s ys = next_there xs s ys

  pub narrow_var : (v place : ℕ) (wanted states : List ℕ) → place ≡ position_or_len (λ w. v == w) vars → place ≡ length bound → states ≡ wanted → Narrows wanted (Var v) states
  narrow_var v place wanted states at l e closed s rest q want r =
      let same : state_in vars (bound ++ s ∷ rest) v ≡ s = ap (λ k. get_or (bound ++ s ∷ rest) k 0) (sym at ∙ l) ∙ next_there bound s rest in
      let run : Runs A (State s) q = subst (λ c. Runs A c q) (assigned_var (state_in vars (bound ++ s ∷ rest)) v ∙ ap State same) r in
      subst (λ xs. Contains xs s) (sym e) (closed s q (run_of_state s q run).1 want)

  pub narrow_app : (f : ℕ) (items args : List Pattern) (i arity : ℕ) (arg : Pattern) (sets others belows : List (List ℕ)) (wanted back : List ℕ) (B : TreeAutomaton) → IsReverse A B → items ≡ args → i < length items → arg ≡ get_or items i arg → arity ≡ length args →
      AreSets (take i items) sets → others ≡ drop i belows → AllZip (RunsInto A) args belows → AreWantedNext A B f sets others arity wanted back →
      (states : List ℕ) → Narrows back arg states → Narrows wanted (App' f args) states
  narrow_app f items args i arity arg sets others belows wanted back B v e l is long exact from under known states inner closed s rest q want r =
      let g : Pattern → Config = assigned (state_in vars (bound ++ s ∷ rest)) in
      let parts' : items ≡ take i items ++ arg ∷ drop (i + 1) items = sym (take-append-drop i items) ∙ ap (λ ps. take i items ++ ps) (drop_more items i arg l ∙ (λ k. sym is k ∷ drop (i + 1) items)) in
      let cs : map g args ≡ map g (take i items) ++ g arg ∷ map g (drop (i + 1) items) = ap (map g) (sym e ∙ parts') ∙ map-append g (take i items) (arg ∷ drop (i + 1) items) in
      let behind : drop i items ≡ arg ∷ drop (i + 1) items = drop_more items i arg l ∙ (λ k. sym is k ∷ drop (i + 1) items) in
      let into : Into A (g arg ∷ map g (drop (i + 1) items)) others = subst (λ ps. Into A (map g ps) others) behind (into_given A (state_in vars (bound ++ s ∷ rest)) (drop i items) others
      (subst (AllZip (RunsInto A) (drop i items)) (sym from) (zip_from (RunsInto A) i items belows (subst (λ ps. AllZip (RunsInto A) ps belows) (sym e) under)))) in
      let count : arity ≡ length (map g (take i items) ++ g arg ∷ map g (drop (i + 1) items)) = long ∙ (sym (mapped_length g args) ∙ ap (λ (xs : List Config). length xs) cs) in
      let run : Runs A (App f (map g (take i items) ++ g arg ∷ map g (drop (i + 1) items))) q = subst (λ c. Runs A c q) (assigned_app (state_in vars (bound ++ s ∷ rest)) f args ∙ ap (App f) cs) r in
      let h = column_has A f q (map g (take i items)) (g arg) (map g (drop (i + 1) items)) sets others wanted known.column closed (exact (s ∷ rest)) into
      (λ x. subst (λ n. IsNextAt A.trans f sets others n wanted x → Contains known.column x) count (known.next x)) want run in
      inner (closed_back A B v known.column back known.closed) s rest h.0 (in_back B known.column back known.closed h.0 h.1) h.2

  -- ---- the first argument of the whole pattern

  pub narrow_first : (p arg : Pattern) (all first states : List ℕ) → IsFirstOf p arg → IsFirst A all p first → Narrows first arg states → Narrows all p states
  narrow_first p arg all first states is known inner closed s rest q want r =
      let x = known.has arg is closed (state_in vars (bound ++ s ∷ rest)) q want r in
      inner known.closed s rest x.0 x.1 x.2

-- what is wanted of the first argument
pub first_is : (A B : TreeAutomaton) → IsReverse A B → (p : Pattern) (sym' : ℕ) (args : List Pattern) (count : ℕ) (sets others : List (List ℕ)) (wanted back : List ℕ) → p ≡ App' sym' args → count ≡ length args → sets ≡ [] →
    ((f : ℕ) (args : List Pattern) → p ≡ App' f args → AllZip (RunsInto A) args others) →
    AreWantedNext A B sym' sets others count wanted back → IsFirst A wanted p back
first_is A B v p sym' args count sets others wanted back is long empty under known = record {
  closed = closed_back A B v known.column back known.closed;
  has = λ arg first closed σ q want r.
      let f = first.symbol in
      let rest = first.others in
      let g : Pattern → Config = assigned σ in
      let same : App' f (arg ∷ rest) ≡ App' sym' args = sym first.is ∙ is in
      let both = same_application f sym' (map g (arg ∷ rest)) (map g args) (sym (assigned_app σ f (arg ∷ rest)) ∙ (ap g same ∙ assigned_app σ sym' args)) in
      let as_many : length (g arg ∷ map g rest) ≡ length args = ap (λ (cs : List Config). length cs) both.1 ∙ length-map args g in
      let enough : count ≡ length (g arg ∷ map g rest) = long ∙ sym as_many in
      let run : Runs A (App f (g arg ∷ map g rest)) q = subst (λ c. Runs A c q) (ap g first.is ∙ assigned_app σ f (arg ∷ rest)) r in
      let h = column_has A f q [] (g arg) (map g rest) [] others wanted known.column closed tt (into_given A σ (arg ∷ rest) others (under f (arg ∷ rest) first.is))
      (λ x m. known.next x (subst (λ ss. IsNextAt A.trans sym' ss others count wanted x) (sym empty) (subst (λ k. IsNextAt A.trans sym' [] others k wanted x) (sym enough)
      (subst (λ g. IsNextAt A.trans g [] others (length (assigned σ arg ∷ map (assigned σ) rest)) wanted x) both.0 m)))) want run in
      (h.0, in_back B known.column back known.closed h.0 h.1, h.2);
}

-- ---- automata that runs are looked up in

pub turned_pairs : (A C : TreeAutomaton) (states : List ℕ) (eps : List (ℕ × ℕ)) → IsSound A → eps ≡ map turn A.eps → C.states ≡ A.states → All (IsEpsOf C.states) eps
turned_pairs A C states eps sound e same = all_from_members (IsEpsOf C.states) eps (λ x c.
    let h = map_had turn A.eps x (subst (λ xs. Contains xs x) e c) in
    let s = All-contains (IsEpsOf A.states) A.eps h.0 sound.eps h.1 in
    subst (IsEpsOf C.states) h.2 (record { from = subst (λ qs. Contains qs h.0.1) (sym same) s.to; to = subst (λ qs. Contains qs h.0.0) (sym same) s.from; moves = λ k. s.moves (sym k) }))

pub turned_trans : (A C : TreeAutomaton) (rows : List Trans) → IsSound A → rows ≡ map turn_row A.trans → C.states ≡ A.states → All (IsTransOf C.states) rows
turned_trans A C rows sound e same = all_from_members (IsTransOf C.states) rows (λ x c.
    let h = map_had turn_row A.trans x (subst (λ xs. Contains xs x) e c) in
    let s = All-contains (IsTransOf A.states) A.trans h.0 sound.trans h.1 in
    subst (IsTransOf C.states) h.2 (subst (λ qs. IsTransOf qs (turn_row h.0)) (sym same) (record { args = All-cons (Contains A.states) h.0.to h.0.args s.to s.args; to = s.to })))

pub reverse_is : (A B C D : TreeAutomaton) (eps : List (ℕ × ℕ)) (rows : List Trans) → eps ≡ map turn A.eps → rows ≡ map turn_row A.trans → C ≡ bare A.next A.states → IsUnion C.eps eps B.eps → B ≡ record C { eps = B.eps } →
    IsUnion B.trans rows D.trans → D ≡ record B { trans = D.trans } → IsReverse A D
reverse_is A B C D eps rows e f c union b more d = record {
  states = λ q i. subst (λ (X : TreeAutomaton). Contains X.states q) (sym d) (subst (λ (X : TreeAutomaton). Contains X.states q) (sym b) (subst (λ (X : TreeAutomaton). Contains X.states q) (sym c) i));
  eps = λ p q i. subst (λ (X : TreeAutomaton). Contains X.eps (q, p)) (sym d) ((union (q, p)).1 (inr (subst (λ xs. Contains xs (q, p)) (sym e) (map_has turn A.eps (p, q) i))));
  trans = λ t i. (more (turn_row t)).1 (inr (subst (λ xs. Contains xs (turn_row t)) (sym f) (map_has turn_row A.trans t i)));
}

pub no_sets : (sets : List (List ℕ)) → (length sets == 0) ≡ true → sets ≡ []
no_sets [] e = refl
no_sets (x ∷ xs) e = let z : length (x ∷ xs) ≡ 0 = eqb-true _ _ e in absurd (omega arith)

-- what stands as the first argument of a transition to a wanted state stands behind its target, where that comes first
pub next_turned : (A B : TreeAutomaton) → IsSound A → IsReverse A B → (f arity : ℕ) (others : List (List ℕ)) (wanted all : List ℕ) → all ≡ A.states → (x : ℕ) → IsNextAt A.trans f [] others arity wanted x → IsNextAt B.trans f (wanted ∷ []) others (arity + 1) all x
next_turned A B sound v f arity others wanted all e x n =
    let m = n.next in
    record {
      next = record {
        row = turn_row m.row;
        has = v.trans m.row m.has;
        fits = (m.row.to, refl, m.wanted, tt);
        on = fits_up 0 m.row.to others m.row.args m.on;
        arity = omega (arith, m.arity);
        wanted = subst (λ qs. Contains qs m.row.to) (sym e) (All-contains (IsTransOf A.states) A.trans m.row sound.trans m.has).to;
        is = m.is;
      };
      symbol = n.symbol;
    }

pub runs_for_all : (A B : TreeAutomaton) (plain : Bool) → plain ≡ false → B ≡ A → RunsFor plain A B
runs_for_all A B plain e same = subst (λ b. RunsFor b A B) (sym e) (subst (RunsFor false A) (sym same) (record { states = refl; runs = λ c q. (λ r. r, λ r. r) }))

pub runs_for_plain : (A B : TreeAutomaton) (plain : Bool) → plain ≡ true → B ≡ record A { eps = [] } → RunsFor plain A B
runs_for_plain A B plain e same = subst (λ b. RunsFor b A B) (sym e) (subst (RunsFor true A) (sym same) (record { states = refl; runs = λ c q. (λ r. run_of_plain r, λ r. plain_of_run r) }))
