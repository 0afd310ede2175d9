-- The first groups: what has been taken where the walk stops before its end.
use Rattle.std.proofs.Common.{Result, Ok, Err, OnErr, ◌≡◌, ◌↔◌, ℕ, suc, zero, ◌<◌, ◌⊎◌, List, [], ◌∷◌, ◌++◌, map, length, take, get_or, refl, sym, ap, ◌∙◌, subst, inl, inr, ⊎_elim, All, Contains, arith}
use Rattle.std.specs.declared.cmp.Ordering.TheVariants.{Less}
use Rattle.std.specs.Ordering.{nat_cmp, ordering_then}
use Rattle.std.specs.Cmp.Lexicographic.{slice_cmp}
use Rattle.std.specs.List.Sorted.{IsStrictlySortedBy}
use Rattle.std.proofs.lemmas.Cmp.{nat_cmp_total, tied_itself}
use Rattle.std.proofs.lemmas.List.Elements.{Contains-append_left, Contains-append_right, Contains-append_cases, Contains-get_or, All-contains}
use Rattle.std.proofs.lemmas.List.{map-append, append_assoc, length-take-le, get_or-take, get_or_default, append-nil}
use Rattle.std.proofs.lemmas.Map.Keys.{Less-from_sorted}
use Rattle.state_match.specs.Visits.{GoneThrough}
use Rattle.state_match.specs.Groups.{Group, group_of, group_order, after, IsGroup, HasGroup, AreGroups, AreFirstGroups, TookAll, TookFirst, TookUpTo}
use Rattle.state_match.proofs.members.Members.{map_has, map_had, ascends_append, ascends_map}
use Rattle.state_match.proofs.grouping.GroupLists.{BeginsIn, group_has, less_after, less_first, take_below, first_none, through_after, regroup_one}

all_from : {X : Type 0} (P : X → Type 0) (xs : List X) → ((x : X) → Contains xs x → P x) → All P xs
all_from P xs h k d l = h _ (Contains-get_or xs k d l)

less_rest : (s : ℕ) (σ τ : List ℕ) → slice_cmp nat_cmp σ τ ≡ Less → slice_cmp nat_cmp (s ∷ σ) (s ∷ τ) ≡ Less
less_rest s σ τ e = ap (λ r. ordering_then r (slice_cmp nat_cmp σ τ)) (tied_itself nat_cmp_total s) ∙ e

-- a place in a list is before, at or after another one
data Side (k i : ℕ) : Type 0 where
  is_before : k < i → Side k i
  is_at : k ≡ i → Side k i
  is_behind : i < k → Side k i

side : (k i : ℕ) → Side k i
side zero zero = Side.is_at refl
side zero (suc i) = Side.is_before (omega arith)
side (suc k) zero = Side.is_behind (omega arith)
side (suc k) (suc i) = go (side k i)
  where
    go : Side k i → Side (suc k) (suc i)
    go (Side.is_before l) = Side.is_before (omega arith)
    go (Side.is_at e) = Side.is_at (ap suc e)
    go (Side.is_behind l) = Side.is_behind (omega arith)

-- those that begin with a state before the place, and the first of those that begin with the state at it
module _ {P : List ℕ → ℕ → Type 0} (cs : List ℕ) (i more : ℕ) (l : i < length cs) (sorted : IsStrictlySortedBy nat_cmp cs) (some : more ≡ 0 → ⊥)
    (long : (σ : List ℕ) (q : ℕ) → P σ q → length σ ≡ more) (has : (s : ℕ) (rest : List ℕ) (q : ℕ) → P (s ∷ rest) q → Contains cs s) where
  abbrev here_state : ℕ
  here_state = get_or cs i 0

  begun : (gs : List Group) → AreGroups (BeginsIn P (take i cs)) gs → (g : Group) → Contains gs g → (t : ℕ) × (rest : List ℕ) × (g.sigma ≡ t ∷ rest) × Contains (take i cs) t
  begun gs a g c = let p = group_has g (a.each g c) in (p.1.state, p.1.begins.rest, p.1.begins.is, p.1.has)

  -- before those of a state that is not passed
  passed_less : (gs : List Group) → AreGroups (BeginsIn P (take i cs)) gs → (s : ℕ) (τ : List ℕ) → ((t : ℕ) → Contains (take i cs) t → nat_cmp t s ≡ Less) →
      (g : Group) → Contains gs g → slice_cmp nat_cmp g.sigma (s ∷ τ) ≡ Less
  passed_less gs a s τ below g c =
      let b = begun gs a g c in
      ap (λ σ. slice_cmp nat_cmp σ (s ∷ τ)) b.2 ∙ less_first b.0 s b.1 τ (below b.0 b.3)

  made : (g : Group) → IsGroup (BeginsIn P (take i cs)) g → IsGroup P g
  made g x =
      let p = group_has g x in
      record {
        states = record {
          ascends = x.states.ascends;
          exact = λ q. (
            λ c. ((x.states.exact q).0 c).begins.holds,
            λ y. (x.states.exact q).1 (record { state = p.1.state; has = p.1.has; begins = record { rest = p.1.begins.rest; is = p.1.begins.is; holds = y } }),
          );
        };
        some = x.some;
      }

  made_after : {N : List ℕ → ℕ → Type 0} → ((rest : List ℕ) (q : ℕ) → N rest q ↔ P (get_or cs i 0 ∷ rest) q) → (g : Group) → IsGroup N g → IsGroup P (after (get_or cs i 0 ∷ []) g)
  made_after same g x = record {
    states = record {
      ascends = x.states.ascends;
      exact = λ q. (λ c. (same g.sigma q).0 ((x.states.exact q).0 c), λ y. (x.states.exact q).1 ((same g.sigma q).1 y));
    };
    some = x.some;
  }

  all_less : (gs hs : List Group) (σ : List ℕ) → ((g : Group) → Contains gs g → slice_cmp nat_cmp g.sigma σ ≡ Less) →
      ((h : Group) → Contains hs h → slice_cmp nat_cmp (get_or cs i 0 ∷ h.sigma) σ ≡ Less) → All (λ g. slice_cmp nat_cmp g.sigma σ ≡ Less) (gs ++ map (after (get_or cs i 0 ∷ [])) hs)
  all_less gs hs σ f h = all_from (λ g. slice_cmp nat_cmp g.sigma σ ≡ Less) (gs ++ map (after (get_or cs i 0 ∷ [])) hs) (λ g c.
      ⊎_elim (f g)
      (λ d. let x = map_had (after (get_or cs i 0 ∷ [])) hs g d in ap (λ (g : Group). slice_cmp nat_cmp g.sigma σ) (sym x.2) ∙ h x.0 x.1)
      (Contains-append_cases gs (map (after (get_or cs i 0 ∷ [])) hs) g c))

  pub front_with : {N : List ℕ → ℕ → Type 0} → ((rest : List ℕ) (q : ℕ) → N rest q ↔ P (get_or cs i 0 ∷ rest) q) → (gs hs : List Group) →
      AreGroups (BeginsIn P (take i cs)) gs → AreFirstGroups N hs → AreFirstGroups P (gs ++ map (after (get_or cs i 0 ∷ [])) hs)
  front_with {N} same gs hs a b =
      let s = get_or cs i 0 in
      let new = map (after (s ∷ [])) hs in
      let below = take_below cs i l sorted in
      record {
        ascend = ascends_append group_order gs new a.ascend (ascends_map group_order group_order (after (s ∷ [])) (λ g h e. less_after s g h e) hs b.ascend) (λ g h c d.
            let x = map_had (after (s ∷ [])) hs h d in
            ap (λ (h : Group). slice_cmp nat_cmp g.sigma h.sigma) (sym x.2) ∙ passed_less gs a s x.0.sigma below g c);
        each = λ g c. ⊎_elim (λ c. made g (a.each g c))
            (λ d. let x = map_had (after (s ∷ [])) hs g d in subst (IsGroup P) x.2 (made_after same x.0 (b.each x.0 x.1)))
            (Contains-append_cases gs new g c);
        first = first;
      }
    where
      first : (σ : List ℕ) (q : ℕ) → P σ q → HasGroup (gs ++ map (after (get_or cs i 0 ∷ [])) hs) σ ⊎ All (λ g. slice_cmp nat_cmp g.sigma σ ≡ Less) (gs ++ map (after (get_or cs i 0 ∷ [])) hs)
      first [] q p = absurd (some (sym (long [] q p)))
      first (t ∷ rest) q p = go (has t rest q p).0 (has t rest q p).1 (has t rest q p).2 (side (has t rest q p).0 i)
        where
          go : (k : ℕ) → k < length cs → get_or cs k t ≡ t → Side k i →
              HasGroup (gs ++ map (after (get_or cs i 0 ∷ [])) hs) (t ∷ rest) ⊎ All (λ g. slice_cmp nat_cmp g.sigma (t ∷ rest) ≡ Less) (gs ++ map (after (get_or cs i 0 ∷ [])) hs)
          go k j e (Side.is_before m) =
              let inside : Contains (take i cs) t = (k, omega (arith, m, length-take-le i cs (omega (arith, l))), get_or-take i cs k t m ∙ e) in
              let h = a.all (t ∷ rest) q (record { state = t; has = inside; begins = record { rest = rest; is = refl; holds = p } }) in
              inl (record { group = h.group; has = Contains-append_left gs (map (after (get_or cs i 0 ∷ [])) hs) h.group h.has; same = h.same })
          go k j e (Side.is_at m) =
              let is : get_or cs i 0 ≡ t = ap (λ n. get_or cs n 0) (sym m) ∙ get_or_default cs k 0 t j ∙ e in
              let n : N rest q = (same rest q).1 (subst (λ x. P (x ∷ rest) q) (sym is) p) in
              ⊎_elim (λ h. inl (record {
                group = after (get_or cs i 0 ∷ []) h.group;
                has = Contains-append_right gs (map (after (get_or cs i 0 ∷ [])) hs) (after (get_or cs i 0 ∷ []) h.group) (map_has (after (get_or cs i 0 ∷ [])) hs h.group h.has);
                same = (λ k. is k ∷ h.same k);
              }))
              (λ f. inr (all_less gs hs (t ∷ rest) (passed_less gs a t rest (λ x c. subst (λ y. nat_cmp x y ≡ Less) is (take_below cs i l sorted x c)))
              (λ h c. ap (λ y. slice_cmp nat_cmp (get_or cs i 0 ∷ h.sigma) (y ∷ rest)) (sym is) ∙ less_rest (get_or cs i 0) h.sigma rest (All-contains (λ (g : Group). slice_cmp nat_cmp g.sigma rest ≡ Less) hs h f c))))
              (b.first rest q n)
          go k j e (Side.is_behind m) =
              let is : get_or cs k 0 ≡ t = get_or_default cs k 0 t j ∙ e in
              let next : nat_cmp (get_or cs i 0) t ≡ Less = ap (nat_cmp (get_or cs i 0)) (sym is) ∙ Less-from_sorted nat_cmp cs i k 0 sorted m j in
              inr (all_less gs hs (t ∷ rest) (passed_less gs a t rest (λ x c. nat_cmp_total.trans x (get_or cs i 0) t (take_below cs i l sorted x c) next))
              (λ h c. less_first (get_or cs i 0) t h.sigma rest next))

  -- nothing has been taken of those that begin with the state at the place
  pub front_before : (gs : List Group) → AreGroups (BeginsIn P (take i cs)) gs → AreFirstGroups P gs
  front_before gs a = subst (AreFirstGroups P) (append-nil gs) (front_with {N = λ rest q. P (get_or cs i 0 ∷ rest) q} (λ rest q. (λ x. x, λ x. x)) gs [] a first_none)

pub first_from_whole : {P : List ℕ → ℕ → Type 0} (gs : List Group) → AreGroups P gs → AreFirstGroups P gs
first_from_whole gs a = record { ascend = a.ascend; each = a.each; first = λ σ q p. inl (a.all σ q p) }

pub on_err_from : {T E P : Type 0} (r : Result T E) → P → OnErr r P
on_err_from (Ok x) p = tt
on_err_from (Err e) p = p

-- the visitor stopped, or memory ran out, at the state at the place
module _ {V : Type 0} (took : V → Group → V → Type 0) {P : List ℕ → ℕ → Type 0} (cs all : List ℕ) (e : cs ≡ all) (i more : ℕ) (l : i < length cs)
    (sorted : IsStrictlySortedBy nat_cmp all) (some : more ≡ 0 → ⊥) (long : (σ : List ℕ) (q : ℕ) → P σ q → length σ ≡ more)
    (has : (s : ℕ) (rest : List ℕ) (q : ℕ) → P (s ∷ rest) q → Contains all s) (before : List ℕ) where
  ascends : IsStrictlySortedBy nat_cmp cs
  ascends = subst (IsStrictlySortedBy nat_cmp) (sym e) sorted

  has_it : (s : ℕ) (rest : List ℕ) (q : ℕ) → P (s ∷ rest) q → Contains cs s
  has_it s rest q p = subst (λ xs. Contains xs s) (sym e) (has s rest q p)

  pub stopped_before : {u v : V} → TookAll took (BeginsIn P (take i cs)) before u v → TookFirst took P before u v
  stopped_before gone = record { groups = gone.groups; first = front_before cs i more l ascends some long has_it gone.groups gone.are; gone = gone.gone }

  module _ {N : List ℕ → ℕ → Type 0} (same : (rest : List ℕ) (q : ℕ) → N rest q ↔ P (get_or cs i 0 ∷ rest) q) (longer : List ℕ) (is : longer ≡ before ++ get_or cs i 0 ∷ []) {u v w : V}
      (gone : TookAll took (BeginsIn P (take i cs)) before u v) where
    pub stopped_in : TookFirst took N longer v w → TookFirst took P before u w
    stopped_in inner = record {
      groups = gone.groups ++ map (after (get_or cs i 0 ∷ [])) inner.groups;
      first = front_with cs i more l ascends some long has_it same gone.groups inner.groups gone.are inner.first;
      gone = through_after before longer (get_or cs i 0) gone.groups inner.groups is gone.gone inner.gone;
    }

    pub ended_in : (ends : V → Group → V → Type 0) → TookUpTo took ends N longer v w → TookUpTo took ends P before u w
    ended_in ends inner =
        let s = get_or cs i 0 in
        let f = after (s ∷ []) in
        record {
          groups = gone.groups ++ map f inner.groups;
          last = f inner.last;
          middle = inner.middle;
          first = subst (AreFirstGroups P) (ap (λ xs. gone.groups ++ xs) (map-append f inner.groups (inner.last ∷ [])) ∙ sym (append_assoc gone.groups (map f inner.groups) (f inner.last ∷ [])))
              (front_with cs i more l ascends some long has_it same gone.groups (inner.groups ++ inner.last ∷ []) gone.are inner.first);
          gone = through_after before longer s gone.groups inner.groups is gone.gone inner.gone;
          over = subst (λ g. ends inner.middle g w) (regroup_one before longer s inner.last is) inner.over;
        }

-- no variable is left, and the visitor is over with the states
pub one_over : {V : Type 0} (took ends : V → Group → V → Type 0) (u v : V) {P : List ℕ → ℕ → Type 0} (before states : List ℕ) →
    AreGroups P (group_of [] states ∷ []) → ends u (group_of before states) v → TookUpTo took ends P before u v
one_over took ends u v before states a t = record {
  groups = [];
  last = group_of [] states;
  middle = u;
  first = first_from_whole (group_of [] states ∷ []) a;
  gone = GoneThrough.none;
  over = subst (λ xs. ends u (group_of xs states) v) (sym (append-nil before)) t;
}

pub took_none : {V : Type 0} {took : V → Group → V → Type 0} {P : List ℕ → ℕ → Type 0} {before : List ℕ} {u : V} → TookFirst took P before u u
took_none = record { groups = []; first = first_none; gone = GoneThrough.none }
