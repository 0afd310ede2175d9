-- From the open pairs of assignments to those of a rule.
use Rattle.std.proofs.Common.{◌≡◌, ◌⊎◌, ◌↔◌, ◌<◌, ◌≤◌, ℕ, false, List, [], ◌∷◌, ◌++◌, map, length, refl, sym, ap, ◌∙◌, subst, inl, inr, ⊎_elim, Contains, append_assoc, append-nil, length-append, ◌-◌, arith}
use Rattle.std.specs.declared.cmp.Ordering.TheVariants.{Less}
use Rattle.std.specs.Ordering.{nat_cmp, ordering_then}
use Rattle.std.specs.Cmp.Lexicographic.{slice_cmp}
use Rattle.std.specs.List.Sorted.{IsStrictlySortedBy}
use Rattle.std.proofs.lemmas.Cmp.{nat_cmp_total, nat_list_cmp_total, tied_itself}
use Rattle.std.proofs.lemmas.List.{length-map}
use Rattle.std.proofs.lemmas.List.Elements.{All-contains, All-from_recursion, recursion_from_All, Contains-get_or, Contains-append_left, Contains-append_right}
use Rattle.list_laws.specs.Listings.{IsListing}
use Rattle.trs_rules.specs.declared.sigma.Pair.{Pair}
use Rattle.ranked_terms.specs.declared.term.Pattern.{Pattern}
use Rattle.ta_core.specs.Runs.{Runs}
use Rattle.ranked_terms.specs.Terms.{assigned}
use Rattle.ta_core.specs.Closure.{state_in}
use Rattle.ta_core.specs.ClosureLaws.{pair_order}
use Rattle.list_laws.proofs.Ascending.{ascends-map, second_decides}
use Rattle.list_laws.proofs.Members.{map_has, map_had}
use Rattle.list_laws.proofs.Members.{here, there, parts, none}
use Rattle.list_laws.proofs.Places.{nothing_ascends}
use Rattle.state_match.specs.Visits.{GoneThrough}
use Rattle.state_match.specs.Matches.{MatchesAt}
use Rattle.state_match.specs.Groups.{Group, group_of, group_order, after, IsGroup, TookAll, TookUpTo}
use Rattle.critical_pairs.specs.Opens.{Setting, IsMissed, IsOpenOf, AddsAll, ExceedsWith, Opening, IsOpenIn, Adds, Exceeds, pair_of}
use Rattle.critical_pairs.proofs.Joined.{listing_none, listing_by, listing_append}

-- ---- groups

-- an open pair of one of the assignments
record IsOpenAmong (s : Setting) (gs : List Group) (pair : Pair) : Type 0 where
  group : Group
  has : Contains gs group
  opens : IsOpenIn s group pair

same_number : (s : Setting) (x y : Pair) → x.rule ≡ s.number → y.rule ≡ s.number → slice_cmp nat_cmp x.sigma y.sigma ≡ Less → pair_order x y ≡ Less
same_number s x y a b l =
    (λ i. ordering_then (nat_cmp (a i) (b i)) (ordering_then (slice_cmp nat_cmp x.sigma y.sigma) (nat_cmp x.state y.state)))
    ∙ (ap (λ r. ordering_then r (ordering_then (slice_cmp nat_cmp x.sigma y.sigma) (nat_cmp x.state y.state))) (tied_itself nat_cmp_total s.number)
    ∙ ap (λ r. ordering_then r (nat_cmp x.state y.state)) l)

-- pairs of an assignment come before those of a later one
in_order : (s : Setting) (g h : Group) → group_order g h ≡ Less → (x y : Pair) → IsOpenIn s g x → IsOpenIn s h y → pair_order x y ≡ Less
in_order s g h l x y a b = same_number s x y a.number b.number ((λ i. slice_cmp nat_cmp (a.sigma i) (b.sigma i)) ∙ l)

above : (g : Group) (gs : List Group) → IsStrictlySortedBy group_order (g ∷ gs) → (h : Group) → Contains gs h → group_order g h ≡ Less
unfolding IsStrictlySortedBy
above g gs s h c = All-contains (λ h. group_order g h ≡ Less) gs h (All-from_recursion (λ h. group_order g h ≡ Less) gs s.0) c

later_groups : (g : Group) (gs : List Group) → IsStrictlySortedBy group_order (g ∷ gs) → IsStrictlySortedBy group_order gs
unfolding IsStrictlySortedBy
later_groups g gs s = s.1

-- those of one assignment and those of the others
cases : (s : Setting) (g : Group) (gs : List Group) (x : Pair) → (IsOpenIn s g x ⊎ IsOpenAmong s gs x) ↔ IsOpenAmong s (g ∷ gs) x
cases s g gs x = (
  ⊎_elim (λ o. record { group = g; has = here g gs; opens = o }) (λ o. record { group = o.group; has = there g o.group gs o.has; opens = o.opens }),
  λ o. ⊎_elim (λ same. inl (subst (λ h. IsOpenIn s h x) (sym same) o.opens)) (λ later. inr (record { group = o.group; has = later; opens = o.opens })) (parts g o.group gs o.has),
)

-- what comes to the pairs that are there
record AddsAmong (s : Setting) (gs : List Group) (u v : Opening) : Type 0 where
  opens : List Pair
  are : IsListing pair_order (IsOpenAmong s gs) opens
  setting : v.setting ≡ s
  limit : v.limit ≡ u.limit
  found : v.pairs ≡ u.pairs ++ opens
  few : length u.pairs ≤ u.limit → length v.pairs ≤ u.limit

gone : (s : Setting) {u v : Opening} (gs : List Group) → u.setting ≡ s → IsStrictlySortedBy group_order gs → GoneThrough Adds u (map (after []) gs) v → AddsAmong s gs u v
gone s [] e sorted GoneThrough.none =
    record { opens = []; are = listing_none (nothing_ascends pair_order) (λ x o. none o.group o.has); setting = e; limit = refl; found = sym (append-nil _); few = λ l. l }
gone s (g ∷ gs) e sorted (GoneThrough.more {u = u} {v = v} {w = w} a rest) =
    let same : v.setting ≡ u.setting = ap (λ (o : Opening). o.setting) a.found in
    let limit : v.limit ≡ u.limit = ap (λ (o : Opening). o.limit) a.found in
    let first : v.pairs ≡ u.pairs ++ a.opens = ap (λ (o : Opening). o.pairs) a.found in
    let b = gone s gs (same ∙ e) (later_groups g gs sorted) rest in
    let one : IsListing pair_order (IsOpenIn s g) a.opens = subst (λ t. IsListing pair_order (IsOpenIn t g) a.opens) e a.are in
    record {
      opens = a.opens ++ b.opens;
      are = listing_by (cases s g gs) (a.opens ++ b.opens) (listing_append a.opens b.opens one b.are (λ x y p q. in_order s g q.group (above g gs sorted q.group q.has) x y p q.opens));
      setting = b.setting;
      limit = b.limit ∙ limit;
      found = b.found ∙ (ap (λ xs. xs ++ b.opens) first ∙ append_assoc u.pairs a.opens b.opens);
      few = λ l. let m = a.few l in let n = b.few (omega (arith, m, limit)) in omega (arith, n, limit);
    }

-- ---- the whole rule

abbrev Left : Setting → List ℕ → ℕ → Type 0
Left s = MatchesAt false s.automaton s.rule.vars s.rule.left

of_group : (s : Setting) (g : Group) → IsGroup (Left s) g → (x : Pair) → IsOpenIn s g x → IsOpenOf s x
of_group s g i x o = record {
  number = o.number;
  left = subst (λ σ. Left s σ x.state) (sym o.sigma) ((i.states.exact x.state).0 o.state);
  right = subst (λ σ. IsMissed s σ x.state) (sym o.sigma) o.right;
}

in_group : (s : Setting) (g : Group) → IsGroup (Left s) g → (x : Pair) → g.sigma ≡ x.sigma → IsOpenOf s x → IsOpenIn s g x
in_group s g i x e o = record {
  number = o.number;
  sigma = sym e;
  state = (i.states.exact x.state).1 (subst (λ σ. Left s σ x.state) (sym e) o.left);
  right = subst (λ σ. IsMissed s σ x.state) (sym e) o.right;
}

pub whole_rule : (s : Setting) (u v : Opening) → u.setting ≡ s → TookAll Adds (Left s) [] u v → AddsAll s u.limit u.pairs v.pairs
whole_rule s u v e t =
    let a = gone s t.groups e t.are.ascend t.gone in
    record {
      opens = a.opens;
      are = listing_by (λ x. (
        λ o. of_group s o.group (t.are.each o.group o.has) x o.opens,
        λ o. let h = t.are.all x.sigma x.state o.left in record { group = h.group; has = h.has; opens = in_group s h.group (t.are.each h.group h.has) x h.same o },
      )) a.opens a.are;
      found = a.found;
      few = a.few;
    }

-- ---- more than the limit

cons_ascends : (x : Group) (gs : List Group) → ((h : Group) → Contains gs h → group_order x h ≡ Less) → IsStrictlySortedBy group_order gs → IsStrictlySortedBy group_order (x ∷ gs)
unfolding IsStrictlySortedBy
cons_ascends x gs a s = (recursion_from_All (λ h. group_order x h ≡ Less) gs (λ k d l. a _ (Contains-get_or gs k d l)), s)

before_last : (gs : List Group) (g : Group) → IsStrictlySortedBy group_order (gs ++ g ∷ []) → IsStrictlySortedBy group_order gs × ((h : Group) → Contains gs h → group_order h g ≡ Less)
before_last [] g s = (nothing_ascends group_order, λ h c. absurd (none h c))
before_last (x ∷ gs) g s =
    let rest = before_last gs g (later_groups x (gs ++ g ∷ []) s) in (
      cons_ascends x gs (λ h c. above x (gs ++ g ∷ []) s h (Contains-append_left gs (g ∷ []) h c)) rest.0,
      λ h c. ⊎_elim (λ same. subst (λ h. group_order h g ≡ Less) same (above x (gs ++ g ∷ []) s g (Contains-append_right gs (g ∷ []) g (here g [])))) (λ later. rest.1 h later) (parts x h gs c),
    )

pub over_limit : (s : Setting) (u v : Opening) → u.setting ≡ s → TookUpTo Adds (λ (u : Opening) (g : Group) (v : Opening). Exceeds u g) (Left s) [] u v → ExceedsWith s u.limit u.pairs
over_limit s u v e t =
    let b = before_last t.groups t.last t.first.ascend in
    let a = gone s t.groups e b.0 t.gone in
    let o = t.over in
    let last : IsListing pair_order (IsOpenIn s t.last) o.opens = subst (λ r. IsListing pair_order (IsOpenIn r t.last) o.opens) a.setting o.are in
    let all = listing_append a.opens o.opens a.are last (λ x y p q. in_order s p.group t.last (b.1 p.group p.has) x y p.opens q) in
    record {
      opens = a.opens ++ o.opens;
      ascend = all.ascends;
      each = λ x c. ⊎_elim
          (λ p. of_group s p.group (t.first.each p.group (Contains-append_left t.groups (t.last ∷ []) p.group p.has)) x p.opens)
          (λ p. of_group s t.last (t.first.each t.last (Contains-append_right t.groups (t.last ∷ []) t.last (here t.last []))) x p)
          ((all.exact x).0 c);
      more = omega (arith, o.more, a.limit, ap (λ (xs : List Pair). length xs) a.found, length-append t.middle.pairs o.opens, length-append u.pairs a.opens, length-append a.opens o.opens, length-append u.pairs (a.opens ++ o.opens));
    }

-- ---- one assignment, as the code has it

pub missed_by : (s : Setting) (σ states opens vars : List ℕ) (side : Pattern) → vars ≡ s.rule.vars → side ≡ s.rule.right →
    ((q : ℕ) → Contains opens q ↔ (Contains states q × (Runs s.automaton (assigned (state_in vars σ) side) q → ⊥))) → (q : ℕ) → Contains opens q ↔ (Contains states q × IsMissed s σ q)
missed_by s σ states opens vars side e f exact q =
    subst (λ vs. Contains opens q ↔ (Contains states q × (Runs s.automaton (assigned (state_in vs σ) s.rule.right) q → ⊥))) e
    (subst (λ p. Contains opens q ↔ (Contains states q × (Runs s.automaton (assigned (state_in vars σ) p) q → ⊥))) f (exact q))

pub opens_are : (s : Setting) (σ states open_states : List ℕ) → IsStrictlySortedBy nat_cmp open_states → ((q : ℕ) → Contains open_states q ↔ (Contains states q × IsMissed s σ q)) →
    IsListing pair_order (IsOpenIn s (group_of σ states)) (map (pair_of s.number σ) open_states)
opens_are s σ states opens sorted members =
    let of = pair_of s.number σ in
    record {
      ascends = ascends-map nat_cmp pair_order of (λ p q l. second_decides nat_cmp_total s.number _ (second_decides nat_list_cmp_total σ (nat_cmp p q) l)) opens sorted;
      exact = λ x. (
        λ c.
            let h = map_had of opens x c in
            let m = (members h.0).0 h.1 in
            subst (IsOpenIn s (group_of σ states)) h.2 (record { number = refl; sigma = refl; state = m.0; right = m.1 }),
        λ o. map_has of opens x.state x ((members x.state).1 (o.state, o.right)) (λ i. pair_of (sym o.number i) (sym o.sigma i) x.state),
      );
    }

module _ (s : Setting) (limit : ℕ) (old : List Pair) (u : Opening) (is : record { setting = s; limit = limit; pairs = old } ≡ u) (g : Group) (open_states : List ℕ)
    (are : IsListing pair_order (IsOpenIn s g) (map (pair_of s.number g.sigma) open_states)) (count had room : ℕ) (counted : count ≡ length open_states) (there_are : had ≡ length old) (left : room ≡ limit - had) where
  pub added : (new : List Pair) → new ≡ old ++ map (pair_of s.number g.sigma) open_states → count ≤ room → Adds u g (record { setting = s; limit = limit; pairs = new })
  added new e fits = subst (λ u. Adds u g (record { setting = s; limit = limit; pairs = new })) is (record {
    opens = map (pair_of s.number g.sigma) open_states;
    are = are;
    found = λ i. record { setting = s; limit = limit; pairs = e i };
    few = λ l. omega (arith, ap (λ (xs : List Pair). length xs) e, length-append old (map (pair_of s.number g.sigma) open_states), length-map {A = ℕ} {B = Pair});
  })

  pub exceeded : room < count → Exceeds u g
  exceeded more = subst (λ u. Exceeds u g) is (record {
    opens = map (pair_of s.number g.sigma) open_states;
    are = are;
    more = omega (arith, length-append old (map (pair_of s.number g.sigma) open_states), length-map {A = ℕ} {B = Pair});
  })

-- ---- one rule, as the code has it

module _ (s : Setting) (limit : ℕ) (pairs : List Pair) (vars : List ℕ) (side : Pattern) (u v : Opening) (is : u ≡ record { setting = s; limit = limit; pairs = pairs }) (vars_are : vars ≡ s.rule.vars) (side_is : side ≡ s.rule.left) where
  abbrev Runs_by : List ℕ → Pattern → List ℕ → ℕ → Type 0
  Runs_by vs p = MatchesAt false s.automaton vs p

  pub whole_rule_at : (all : List Pair) → all ≡ v.pairs → TookAll Adds (Runs_by vars side) [] u v → AddsAll s limit pairs all
  whole_rule_at all e t =
      let a = whole_rule s u v (ap (λ (o : Opening). o.setting) is) (subst (λ vs. TookAll Adds (Runs_by vs s.rule.left) [] u v) vars_are (subst (λ p. TookAll Adds (Runs_by vars p) [] u v) side_is t)) in
      subst (λ all. AddsAll s limit pairs all) (sym e) (subst (λ (o : Opening). AddsAll s o.limit o.pairs v.pairs) is a)

  pub over_limit_at : TookUpTo Adds (λ (u : Opening) (g : Group) (v : Opening). Exceeds u g) (Runs_by vars side) [] u v → ExceedsWith s limit pairs
  over_limit_at t =
      let ends : Opening → Group → Opening → Type 0 = λ (u : Opening) (g : Group) (v : Opening). Exceeds u g in
      let a = over_limit s u v (ap (λ (o : Opening). o.setting) is) (subst (λ vs. TookUpTo Adds ends (Runs_by vs s.rule.left) [] u v) vars_are (subst (λ p. TookUpTo Adds ends (Runs_by vars p) [] u v) side_is t)) in
      subst (λ (o : Opening). ExceedsWith s o.limit o.pairs) is a
