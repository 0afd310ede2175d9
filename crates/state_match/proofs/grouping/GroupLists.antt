-- Groups of matches, made of those by which the next variable stands for one state after the other.
use Rattle.std.proofs.Common.{◌-◌, Option, Some, None, IfSome, IfNone, length-append, true≢false, ◌≡◌, ◌↔◌, ℕ, ◌+◌, ◌<◌, ◌≤◌, ◌==◌, true, false, ◌⊎◌, List, [], ◌∷◌, ◌++◌, map, length, take, get_or, refl, sym, ap, ◌∙◌, subst, inl, inr, ⊎_elim, Contains, arith}
use Rattle.std.proofs.lemmas.List.Elements.{All-nil}
use Rattle.std.proofs.lemmas.List.{take_more, append-nil, append_assoc, map-append, take_all, length-take-le, get_or-take, get_or_default}
use Rattle.std.proofs.lemmas.Map.Keys.{Less-from_sorted}
use Rattle.std.proofs.lemmas.Bool.{eqb-true}
use Rattle.std.proofs.Math.Seq.{take-append_seam}
use Rattle.std.specs.declared.cmp.Ordering.{Ordering}
use Rattle.std.specs.declared.cmp.Ordering.TheVariants.{Less}
use Rattle.std.specs.Ordering.{nat_cmp, ordering_then}
use Rattle.std.specs.Cmp.Lexicographic.{slice_cmp}
use Rattle.std.specs.List.Sorted.{IsStrictlySortedBy}
use Rattle.std.proofs.lemmas.Cmp.{nat_cmp_total, nat_list_cmp_total, tied_itself}
use Rattle.std.proofs.lemmas.List.Elements.{Contains-append_left, Contains-append_right, Contains-append_cases}
use Rattle.list_laws.specs.Listings.{IsFront}
use Rattle.state_match.specs.Visits.{GoneThrough}
use Rattle.state_match.specs.Groups.{Group, group_of, group_order, after, IsGroup, AreGroups, AreFirstGroups, TookAll}
use Rattle.state_match.proofs.members.Members.{here, parts, none, map_has, map_had, nothing_ascends, one_ascends, ascends_append, ascends_map}

-- ---- the way of the visitor

pub through_append : {V X : Type 0} {took : V → X → V → Type 0} {u v w : V} {xs ys : List X} → GoneThrough took u xs v → GoneThrough took v ys w → GoneThrough took u (xs ++ ys) w
through_append GoneThrough.none b = b
through_append (GoneThrough.more t a) b = GoneThrough.more t (through_append a b)

-- ---- the order

not_less : (σ : List ℕ) → slice_cmp nat_cmp σ σ ≡ Less → ⊥
not_less σ e = let h = tied_itself nat_list_cmp_total σ in cc

pub less_after : (s : ℕ) (g h : Group) → group_order g h ≡ Less → group_order (after (s ∷ []) g) (after (s ∷ []) h) ≡ Less
less_after s g h e = ap (λ r. ordering_then r (slice_cmp nat_cmp g.sigma h.sigma)) (tied_itself nat_cmp_total s) ∙ e

pub less_first : (s t : ℕ) (σ τ : List ℕ) → nat_cmp s t ≡ Less → slice_cmp nat_cmp (s ∷ σ) (t ∷ τ) ≡ Less
less_first s t σ τ e = ap (λ r. ordering_then r (slice_cmp nat_cmp σ τ)) e

-- ---- groups

module _ {P : List ℕ → ℕ → Type 0} where
  pub groups_none : ((σ : List ℕ) (q : ℕ) → P σ q → ⊥) → AreGroups P []
  groups_none never = record { ascend = nothing_ascends group_order; each = λ g c. absurd (none g c); all = λ σ q p. absurd (never σ q p) }

  pub groups_one : (states : List ℕ) → IsStrictlySortedBy nat_cmp states → 0 < length states → ((q : ℕ) → Contains states q ↔ P [] q) →
      ((σ : List ℕ) (q : ℕ) → P σ q → length σ ≡ 0) → AreGroups P (group_of [] states ∷ [])
  groups_one states s some exact short =
      let g : IsGroup P (group_of [] states) = record { states = record { ascends = s; exact = exact }; some = some } in
      record {
        ascend = one_ascends group_order (group_of [] states);
        each = λ h c. ⊎_elim (λ same. subst (IsGroup P) same g) (λ later. absurd (none h later)) (parts (group_of [] states) h [] c);
        all = λ σ q p. record { group = group_of [] states; has = here (group_of [] states) []; same = empty σ (short σ q p) };
      }
    where
      empty : (σ : List ℕ) → length σ ≡ 0 → [] ≡ σ
      empty [] e = refl
      empty (x ∷ σ) e = absurd (omega arith)

  pub group_has : (g : Group) → IsGroup P g → (q : ℕ) × P g.sigma q
  group_has g i = go g.states i.some i.states.exact
    where
      go : (states : List ℕ) → 0 < length states → ((q : ℕ) → Contains states q ↔ P g.sigma q) → (q : ℕ) × P g.sigma q
      go [] l e = absurd (omega arith)
      go (q ∷ qs) l e = (q, (e q).0 (here q qs))

-- those of the one kind, and after them those of the other
module _ {P Q R : List ℕ → ℕ → Type 0} where
  pub groups_append : (gs hs : List Group) → AreGroups P gs → AreGroups Q hs → ((σ τ : List ℕ) (q r : ℕ) → P σ q → Q τ r → slice_cmp nat_cmp σ τ ≡ Less) →
      ((σ : List ℕ) (q : ℕ) → R σ q ↔ (P σ q ⊎ Q σ q)) → AreGroups R (gs ++ hs)
  groups_append gs hs a b below both = record {
    ascend = ascends_append group_order gs hs a.ascend b.ascend (λ g h c d.
        let p = group_has g (a.each g c) in
        let q = group_has h (b.each h d) in
        below g.sigma h.sigma p.0 q.0 p.1 q.1);
    each = λ g c. ⊎_elim (λ c. left g (a.each g c)) (λ c. right g (b.each g c)) (Contains-append_cases gs hs g c);
    all = λ σ q r. ⊎_elim
        (λ p. let h = a.all σ q p in record { group = h.group; has = Contains-append_left gs hs h.group h.has; same = h.same })
        (λ p. let h = b.all σ q p in record { group = h.group; has = Contains-append_right gs hs h.group h.has; same = h.same })
        ((both σ q).0 r);
  }
    where
      left : (g : Group) → IsGroup P g → IsGroup R g
      left g i =
          let p = group_has g i in
          record {
            states = record {
              ascends = i.states.ascends;
              exact = λ q. (
                λ c. (both g.sigma q).1 (inl ((i.states.exact q).0 c)),
                λ r. ⊎_elim (λ x. (i.states.exact q).1 x) (λ y. absurd (not_less g.sigma (below g.sigma g.sigma p.0 q p.1 y))) ((both g.sigma q).0 r),
              );
            };
            some = i.some;
          }

      right : (g : Group) → IsGroup Q g → IsGroup R g
      right g i =
          let p = group_has g i in
          record {
            states = record {
              ascends = i.states.ascends;
              exact = λ q. (
                λ c. (both g.sigma q).1 (inr ((i.states.exact q).0 c)),
                λ r. ⊎_elim (λ x. absurd (not_less g.sigma (below g.sigma g.sigma q p.0 x p.1))) (λ y. (i.states.exact q).1 y) ((both g.sigma q).0 r),
              );
            };
            some = i.some;
          }

-- those that begin with a state
pub record Begins (P : List ℕ → ℕ → Type 0) (s : ℕ) (σ : List ℕ) (q : ℕ) : Type 0 where
  pub rest : List ℕ
  pub is : σ ≡ s ∷ rest
  pub holds : P σ q

module _ {P N : List ℕ → ℕ → Type 0} where
  pub groups_after : (s : ℕ) → ((rest : List ℕ) (q : ℕ) → N rest q ↔ P (s ∷ rest) q) → (gs : List Group) → AreGroups N gs → AreGroups (Begins P s) (map (after (s ∷ [])) gs)
  groups_after s same gs a = record {
    ascend = ascends_map group_order group_order (after (s ∷ [])) (λ g h e. less_after s g h e) gs a.ascend;
    each = λ g c. let h = map_had (after (s ∷ [])) gs g c in subst (IsGroup (Begins P s)) h.2 (made h.0 (a.each h.0 h.1));
    all = λ σ q b.
        let h = a.all b.rest q ((same b.rest q).1 (subst (λ σ. P σ q) b.is b.holds)) in
        record { group = after (s ∷ []) h.group; has = map_has (after (s ∷ [])) gs h.group h.has; same = ap (λ τ. s ∷ τ) h.same ∙ sym b.is };
  }
    where
      tail_of : (g : Group) (q : ℕ) → Begins P s (s ∷ g.sigma) q → P (s ∷ g.sigma) q
      tail_of g q b = b.holds

      made : (g : Group) → IsGroup N g → IsGroup (Begins P s) (after (s ∷ []) g)
      made g i = record {
        states = record {
          ascends = i.states.ascends;
          exact = λ q. (
            λ c. record { rest = g.sigma; is = refl; holds = (same g.sigma q).0 ((i.states.exact q).0 c) },
            λ b. (i.states.exact q).1 ((same g.sigma q).1 (tail_of g q b)),
          );
        };
        some = i.some;
      }

-- those that begin with one of the states
pub record BeginsIn (P : List ℕ → ℕ → Type 0) (states : List ℕ) (σ : List ℕ) (q : ℕ) : Type 0 where
  pub state : ℕ
  pub has : Contains states state
  pub begins : Begins P state σ q

-- ---- nothing yet

pub front_none : {X : Type 0} (order : X → X → Ordering) (P : X → Type 0) → IsFront order P []
front_none order P = record { ascends = nothing_ascends order; each = λ x c. absurd (none x c); first = λ x p. inr (All-nil (λ y. order y x ≡ Less)) }

pub first_none : {P : List ℕ → ℕ → Type 0} → AreFirstGroups P []
first_none = record { ascend = nothing_ascends group_order; each = λ g c. absurd (none g c); first = λ σ q p. inr (All-nil (λ g. slice_cmp nat_cmp g.sigma σ ≡ Less)) }

-- ---- the same groups for the same matches

pub groups_same : {P Q : List ℕ → ℕ → Type 0} (gs : List Group) → AreGroups P gs → ((σ : List ℕ) (q : ℕ) → Q σ q ↔ P σ q) → AreGroups Q gs
groups_same {P} {Q} gs a same = record {
  ascend = a.ascend;
  each = λ g c. made g (a.each g c);
  all = λ σ q p. a.all σ q ((same σ q).0 p);
}
  where
    made : (g : Group) → IsGroup P g → IsGroup Q g
    made g i = record {
      states = record { ascends = i.states.ascends; exact = λ q. (λ c. (same g.sigma q).1 ((i.states.exact q).0 c), λ p. (i.states.exact q).1 ((same g.sigma q).0 p)) };
      some = i.some;
    }

-- ---- the steps of the walk

begins_first : {P : List ℕ → ℕ → Type 0} {s : ℕ} {σ : List ℕ} {q : ℕ} → Begins P s σ q → (rest : List ℕ) × (σ ≡ s ∷ rest)
begins_first b = (b.rest, b.is)

-- no state has passed
pub passed_none : {P : List ℕ → ℕ → Type 0} → AreGroups (BeginsIn P []) []
passed_none = groups_none (λ σ q b. none b.state b.has)

one_more : (cs : List ℕ) (i : ℕ) → i < length cs → take (i + 1) cs ≡ take i cs ++ get_or cs i 0 ∷ []
one_more cs i l = take_more cs i 0 l

-- what begins with one of one more state
split : {P : List ℕ → ℕ → Type 0} (xs ys : List ℕ) (s : ℕ) → ys ≡ xs ++ s ∷ [] → (σ : List ℕ) (q : ℕ) → BeginsIn P ys σ q ↔ (BeginsIn P xs σ q ⊎ Begins P s σ q)
split {P} xs ys s e σ q = (
  λ b. ⊎_elim (λ c. inl (record { state = b.state; has = c; begins = b.begins }))
      (λ c. inr (⊎_elim (λ (same : s ≡ b.state). subst (λ x. Begins P x σ q) (sym same) b.begins) (λ n. absurd (none b.state n)) (parts s b.state [] c)))
      (Contains-append_cases xs (s ∷ []) b.state (subst (λ zs. Contains zs b.state) e b.has)),
  ⊎_elim (λ b. record { state = b.state; has = subst (λ zs. Contains zs b.state) (sym e) (Contains-append_left xs (s ∷ []) b.state b.has); begins = b.begins })
      (λ b. record { state = s; has = subst (λ zs. Contains zs s) (sym e) (Contains-append_right xs (s ∷ []) s (here s [])); begins = b }),
)

pub take_below : (cs : List ℕ) (i : ℕ) → i < length cs → IsStrictlySortedBy nat_cmp cs → (x : ℕ) → Contains (take i cs) x → nat_cmp x (get_or cs i 0) ≡ Less
take_below cs i l s x c =
    let k = c.0 in
    let short : k < i = omega (arith, c.1, length-take-le i cs (omega (arith, l))) in
    let is : get_or cs k x ≡ x = sym (get_or-take i cs k x short) ∙ c.2 in
    ap (λ y. nat_cmp y (get_or cs i 0)) (sym is ∙ get_or_default cs k x 0 (omega (arith, short, l))) ∙ Less-from_sorted nat_cmp cs k i 0 s short l

module _ {P : List ℕ → ℕ → Type 0} (cs : List ℕ) (i : ℕ) (l : i < length cs) where
  -- the next state begins no match
  pub passed_by : (gs : List Group) → AreGroups (BeginsIn P (take i cs)) gs → ((rest : List ℕ) (q : ℕ) → P (get_or cs i 0 ∷ rest) q → ⊥) → AreGroups (BeginsIn P (take (i + 1) cs)) gs
  passed_by gs a never = groups_same gs a (λ σ q. (
    λ b. ⊎_elim (λ x. x) (λ (x : Begins P (get_or cs i 0) σ q). absurd (never x.rest q (subst (λ τ. P τ q) x.is x.holds)))
        ((split (take i cs) (take (i + 1) cs) (get_or cs i 0) (one_more cs i l) σ q).0 b),
    λ b. (split (take i cs) (take (i + 1) cs) (get_or cs i 0) (one_more cs i l) σ q).1 (inl b),
  ))

  -- the next state begins these
  pub passed_with : {N : List ℕ → ℕ → Type 0} → IsStrictlySortedBy nat_cmp cs → (gs hs : List Group) → AreGroups (BeginsIn P (take i cs)) gs → AreGroups N hs →
      ((rest : List ℕ) (q : ℕ) → N rest q ↔ P (get_or cs i 0 ∷ rest) q) → AreGroups (BeginsIn P (take (i + 1) cs)) (gs ++ map (after (get_or cs i 0 ∷ [])) hs)
  passed_with sorted gs hs a b same =
      let s = get_or cs i 0 in
      groups_append gs (map (after (s ∷ [])) hs) a (groups_after s same hs b)
      (λ σ τ q r x y.
      let less = less_first x.state s x.begins.rest y.rest (take_below cs i l sorted x.state x.has) in
      (λ k. slice_cmp nat_cmp (x.begins.is k) (y.is k)) ∙ less)
      (split (take i cs) (take (i + 1) cs) s (one_more cs i l))

-- all states have passed
pub passed_all : {P : List ℕ → ℕ → Type 0} (cs : List ℕ) (i more : ℕ) → length cs ≤ i → (more ≡ 0 → ⊥) → ((σ : List ℕ) (q : ℕ) → P σ q → length σ ≡ more) →
    ((s : ℕ) (rest : List ℕ) (q : ℕ) → P (s ∷ rest) q → Contains cs s) → (gs : List Group) → AreGroups (BeginsIn P (take i cs)) gs → AreGroups P gs
passed_all {P} cs i more end some long has gs a =
    let whole : AreGroups (BeginsIn P cs) gs = subst (λ xs. AreGroups (BeginsIn P xs) gs) (take_all i cs (omega (arith, end))) a in
    groups_same gs whole (λ σ q. (begins σ q, λ b. b.begins.holds))
  where
    begins : (σ : List ℕ) (q : ℕ) → P σ q → BeginsIn P cs σ q
    begins [] q p = absurd (some (sym (long [] q p)))
    begins (s ∷ rest) q p = record { state = s; has = has s rest q p; begins = record { rest = rest; is = refl; holds = p } }

-- no variable is left, and there is no state
pub none_left : {P : List ℕ → ℕ → Type 0} (more : ℕ) (states : List ℕ) → more ≡ 0 → (length states == 0) ≡ true → ((σ : List ℕ) (q : ℕ) → P σ q → length σ ≡ more) →
    ((q : ℕ) → Contains states q ↔ P [] q) → AreGroups P []
none_left {P} more states e f long exact = groups_none (λ σ q p. never σ q p (long σ q p ∙ e))
  where
    nothing : (xs : List ℕ) (q : ℕ) → (length xs == 0) ≡ true → Contains xs q → ⊥
    nothing [] q e c = none q c
    nothing (x ∷ xs) q e c = let z : length (x ∷ xs) ≡ 0 = eqb-true _ _ e in omega arith

    never : (σ : List ℕ) (q : ℕ) → P σ q → length σ ≡ 0 → ⊥
    never [] q p l = nothing states q f ((exact q).1 p)
    never (x ∷ σ) q p l = omega arith

pub whole_one : {P : List ℕ → ℕ → Type 0} (more : ℕ) (states : List ℕ) → more ≡ 0 → (length states == 0) ≡ false → IsStrictlySortedBy nat_cmp states →
    ((σ : List ℕ) (q : ℕ) → P σ q → length σ ≡ more) → ((q : ℕ) → Contains states q ↔ P [] q) → AreGroups P (group_of [] states ∷ [])
whole_one more states e f sorted long exact = groups_one states sorted (some states f) exact (λ σ q p. long σ q p ∙ e)
  where
    some : (xs : List ℕ) → (length xs == 0) ≡ false → 0 < length xs
    some [] e = absurd (true≢false e)
    some (x ∷ xs) e = omega arith

-- no variable is left, and the visitor takes the states
pub one_left : {V : Type 0} (took : V → Group → V → Type 0) (u v : V) {P : List ℕ → ℕ → Type 0} (before states : List ℕ) → AreGroups P (group_of [] states ∷ []) →
    took u (group_of before states) v → TookAll took P before u v
one_left took u v before states a t = record {
  groups = group_of [] states ∷ [];
  are = a;
  gone = GoneThrough.more (subst (λ xs. took u (group_of xs states) v) (sym (append-nil before)) t) GoneThrough.none;
}

pub regroup_one : (before longer : List ℕ) (s : ℕ) (h : Group) → longer ≡ before ++ s ∷ [] → after longer h ≡ after before (after (s ∷ []) h)
regroup_one before longer s h e = ap (λ σ. group_of σ h.states) (ap (λ xs. xs ++ h.sigma) e ∙ append_assoc before (s ∷ []) h.sigma)

-- the visitor's way through those that begin with the states before, and on
pub through_after : {V : Type 0} {took : V → Group → V → Type 0} {u v w : V} (before longer : List ℕ) (s : ℕ) (gs hs : List Group) → longer ≡ before ++ s ∷ [] →
    GoneThrough took u (map (after before) gs) v → GoneThrough took v (map (after longer) hs) w → GoneThrough took u (map (after before) (gs ++ map (after (s ∷ [])) hs)) w
through_after {V} {took} {u} {v} {w} before longer s gs hs e a b =
    subst (λ xs. GoneThrough took u xs w) (sym (map-append (after before) gs (map (after (s ∷ [])) hs)))
    (through_append a (subst (λ xs. GoneThrough took v xs w) (regroup hs) b))
  where
    regroup : (hs : List Group) → map (after longer) hs ≡ map (after before) (map (after (s ∷ [])) hs)
    regroup [] = refl
    regroup (h ∷ hs) = (λ k. group_of ((ap (λ xs. xs ++ h.sigma) e ∙ append_assoc before (s ∷ []) h.sigma) k) h.states ∷ regroup hs k)

-- ---- a list that a state is put on and taken off

pub pushed : {xs ys zs : List ℕ} (x : ℕ) → zs ≡ ys ++ x ∷ [] → ys ≡ xs → zs ≡ xs ++ x ∷ []
pushed x e h = e ∙ ap (λ qs. qs ++ x ∷ []) h

pub popped : {xs ys ys' zs : List ℕ} {n : ℕ} (x : ℕ) → ys ≡ xs ++ x ∷ [] → ys' ≡ ys → n ≡ length ys' → zs ≡ take (n - 1) ys' → zs ≡ xs
popped {xs} {n} x e f long h =
    let one : n - 1 ≡ length xs = omega (arith, ap length f, ap length e, length-append xs (x ∷ [])) in
    h ∙ ((λ i. take (one i) ((f ∙ e) i)) ∙ take-append_seam xs (x ∷ []))

pub IfSome-at_some : {X : Type 0} (P : X → Type 0) {o : Option X} {x : X} → o ≡ Some x → IfSome o P → P x
IfSome-at_some P e h = subst (λ o. IfSome o P) e h

pub IfNone-at_none : {X : Type 0} (P : Type 0) {o : Option X} → o ≡ None → IfNone o P → P
IfNone-at_none P e h = subst (λ o. IfNone o P) e h
