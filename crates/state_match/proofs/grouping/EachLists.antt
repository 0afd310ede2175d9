-- The visitor's way through the matches of groups.
use Rattle.std.proofs.Common.{◌≡◌, ◌<◌, ◌+◌, ℕ, List, [], ◌∷◌, ◌++◌, map, take, drop, get_or, length, ◌⊎◌, refl, sym, ap, ◌∙◌, subst, inl, inr, ⊎_elim, Contains, Bool, true, false, not, IsTrue}
use Rattle.std.specs.declared.cmp.Ordering.{Ordering}
use Rattle.std.specs.declared.cmp.Ordering.TheVariants.{Less}
use Rattle.std.specs.Ordering.{nat_cmp, ordering_then}
use Rattle.std.specs.Cmp.Lexicographic.{slice_cmp}
use Rattle.std.specs.List.{flat_map}
use Rattle.std.specs.List.Sorted.{IsStrictlySortedBy}
use Rattle.std.proofs.lemmas.List.{append_assoc}
use Rattle.std.proofs.lemmas.List.Elements.{All-contains, All-from_recursion, Contains-append_cases, Contains-append_left, Contains-append_right}
use Rattle.list_laws.proofs.Members.{all_from_members}
use Rattle.state_match.specs.Matches.{match_order}
use Rattle.state_match.proofs.members.Members.{none, parts}
use Rattle.state_match.proofs.listing.MatchLists.{had, has, matches_ascend, are_matches, each_match, beginning, flat_map_last}
use Rattle.std.proofs.lemmas.List.{take_more, take-append-drop, map-append}
use Rattle.list_laws.specs.Listings.{IsListing, IsFront}
use Rattle.state_match.specs.Visits.{GoneThrough}
use Rattle.state_match.specs.Groups.{Group, group_of, after, AreFirstGroups, TookAll, TookFirst, TookUpTo}
use Rattle.state_match.specs.Collected.{match_of, matches_of}
use Rattle.state_match.specs.declared.lists.Match.{Match}
use Rattle.state_match.proofs.grouping.GroupLists.{through_append}

-- one more match of a group
pub go_on : {V : Type 0} (took : V → Match → V → Type 0) {u v w : V} (σ states : List ℕ) (i : ℕ) (τ : List ℕ) → τ ≡ σ → i < length states →
    GoneThrough took u (map (match_of σ) (take i states)) v → took v (match_of τ (get_or states i 0)) w → GoneThrough took u (map (match_of σ) (take (i + 1) states)) w
go_on took {u} {v} {w} σ states i τ e l gone t =
    subst (λ ms. GoneThrough took u ms w) (sym (ap (map (match_of σ)) (take_more states i 0 l) ∙ map-append (match_of σ) (take i states) (get_or states i 0 ∷ [])))
    (through_append gone (GoneThrough.more (subst (λ σ. took v (match_of σ (get_or states i 0)) w) e t) GoneThrough.none))

-- a part of a group's matches
pub go_rest : {V : Type 0} (took : V → Match → V → Type 0) {u v w : V} (σ states : List ℕ) (i : ℕ) → GoneThrough took u (map (match_of σ) (take i states)) v → w ≡ v →
    (first : List Match) × (rest : List Match) × (matches_of (group_of σ states) ≡ first ++ rest) × GoneThrough took u first w
go_rest took {u} σ states i gone e = (
  map (match_of σ) (take i states),
  map (match_of σ) (drop i states),
  ap (map (match_of σ)) (sym (take-append-drop i states)) ∙ map-append (match_of σ) (take i states) (drop i states),
  subst (λ w. GoneThrough took u (map (match_of σ) (take i states)) w) (sym e) gone,
)

-- ---- fronts

across : {X : Type 0} (c : X → X → Ordering) (xs ys : List X) → IsStrictlySortedBy c (xs ++ ys) → (x y : X) → Contains xs x → Contains ys y → c x y ≡ Less
unfolding IsStrictlySortedBy
across c [] ys s x y i j = absurd (none x i)
across c (z ∷ xs) ys s x y i j = ⊎_elim
    (λ same. subst (λ w. c w y ≡ Less) same (All-contains (λ w. c z w ≡ Less) (xs ++ ys) y (All-from_recursion (λ w. c z w ≡ Less) (xs ++ ys) s.0) (Contains-append_right xs ys y j)))
    (λ later. across c xs ys s.1 x y later j)
    (parts z x xs i)

front_beginning : {X : Type 0} (c : X → X → Ordering) (P : X → Type 0) (xs ys : List X) → IsFront c P (xs ++ ys) → IsFront c P xs
front_beginning c P xs ys f = record {
  ascends = beginning c xs ys f.ascends;
  each = λ x i. f.each x (Contains-append_left xs ys x i);
  first = λ x p. ⊎_elim
      (λ i. ⊎_elim (λ i. inl i) (λ j. inr (all_from_members (λ y. c y x ≡ Less) xs (λ y k. across c xs ys f.ascends y x k j))) (Contains-append_cases xs ys x i))
      (λ a. inr (all_from_members (λ y. c y x ≡ Less) xs (λ y k. All-contains (λ y. c y x ≡ Less) (xs ++ ys) y a (Contains-append_left xs ys y k))))
      (f.first x p);
}

module _ {P : List ℕ → ℕ → Type 0} where
  first_matches : (gs : List Group) → AreFirstGroups P gs → IsFront match_order (λ (m : Match). P m.sigma m.state) (flat_map matches_of gs)
  first_matches gs a = record {
    ascends = matches_ascend gs a.ascend (λ g c. (a.each g c).states.ascends);
    each = each_match gs a;
    first = λ m p. ⊎_elim
        (λ h. inl (has gs m (record { group = h.group; has = h.has; same = sym h.same; state = ((a.each h.group h.has).states.exact m.state).1 (subst (λ σ. P σ m.state) (sym h.same) p) })))
        (λ below. inr (all_from_members (λ n. match_order n m ≡ Less) (flat_map matches_of gs) (λ n c.
        let h = had gs n c in
        (λ i. match_order (record { sigma = h.same i; state = n.state }) m) ∙ ap (λ r. ordering_then r (nat_cmp n.state m.state)) (All-contains (λ g. slice_cmp nat_cmp g.sigma m.sigma ≡ Less) gs h.group below h.has))))
        (a.first m.sigma m.state p);
  }

-- ---- the whole way

module _ {S V N : Type 0} (now : S → V) (name : S → N) (took : V → Match → V → Type 0) where
  abbrev pub Takes : S → Group → S → Type 0
  Takes u g v = (name v ≡ name u) × GoneThrough took (now u) (matches_of g) (now v)

  abbrev pub Breaks : S → Group → S → Type 0
  Breaks u g v = (name v ≡ name u) × ((first : List Match) × (rest : List Match) × (matches_of g ≡ first ++ rest) × GoneThrough took (now u) first (now v))

  each_gone : (gs : List Group) (u v : S) → GoneThrough Takes u (map (after []) gs) v → (name v ≡ name u) × GoneThrough took (now u) (flat_map matches_of gs) (now v)
  each_gone [] u _ GoneThrough.none = (refl, GoneThrough.none)
  each_gone (g ∷ gs) u w (GoneThrough.more {v = v} t rest) =
      let b = each_gone gs v w rest in
      (b.0 ∙ t.0, through_append t.1 b.1)

  module _ {P : List ℕ → ℕ → Type 0} (u v : S) where
    pub each_all : TookAll Takes P [] u v → (name v ≡ name u) × ((all : List Match) × IsListing match_order (λ (m : Match). P m.sigma m.state) all × GoneThrough took (now u) all (now v))
    each_all t =
        let a = each_gone t.groups u v t.gone in
        (a.0, (flat_map matches_of t.groups, are_matches t.groups t.are, a.1))

    pub each_first : TookFirst Takes P [] u v ⊎ TookUpTo Takes Breaks P [] u v → (name v ≡ name u) × ((first : List Match) × IsFront match_order (λ (m : Match). P m.sigma m.state) first × GoneThrough took (now u) first (now v))
    each_first = ⊎_elim
        (λ t.
        let a = each_gone t.groups u v t.gone in
        (a.0, (flat_map matches_of t.groups, first_matches t.groups t.first, a.1)))
        (λ t.
        let gs = t.groups ++ t.last ∷ [] in
        let a = each_gone t.groups u t.middle t.gone in
        let b = t.over.1 in
        let before = flat_map matches_of t.groups in
        let whole : flat_map matches_of gs ≡ (before ++ b.0) ++ b.1 = flat_map_last t.groups t.last ∙ (ap (λ ms. before ++ ms) b.2 ∙ sym (append_assoc before b.0 b.1)) in (
          t.over.0 ∙ a.0,
          (
            before ++ b.0,
            front_beginning match_order (λ (m : Match). P m.sigma m.state) (before ++ b.0) b.1 (subst (IsFront match_order (λ (m : Match). P m.sigma m.state)) whole (first_matches gs t.first)),
            through_append a.1 b.3,
          ),
        ))

-- a visitor that never has enough has taken all
pub all_of_groups : {S : Type 0} {took : S → Group → S → Type 0} {P : List ℕ → ℕ → Type 0} {before : List ℕ} {u v : S} (on : Bool) → (IsTrue on → TookAll took P before u v) →
    (IsTrue (not on) → TookUpTo took (λ (u : S) (g : Group) (v : S). ⊥) P before u v) → TookAll took P before u v
all_of_groups true f g = f refl
all_of_groups false f g = absurd ((g refl).over)

-- the same where the variables are said in other words
module _ {S V N : Type 0} (now : S → V) (name : S → N) (took : V → Match → V → Type 0) (P : List ℕ → List ℕ → ℕ → Type 0) (xs ys : List ℕ) (same : xs ≡ ys) (u v : S) where
  pub each_all_at : (on : Bool) → (IsTrue on → TookAll (Takes now name took) (P xs) [] u v) → (IsTrue (not on) → TookUpTo (Takes now name took) (λ (u : S) (g : Group) (v : S). ⊥) (P xs) [] u v) →
      (name v ≡ name u) × ((all : List Match) × IsListing match_order (λ (m : Match). P ys m.sigma m.state) all × GoneThrough took (now u) all (now v))
  each_all_at on f g = each_all now name took u v (subst (λ zs. TookAll (Takes now name took) (P zs) [] u v) same (all_of_groups on f g))

  pub each_first_at : TookFirst (Takes now name took) (P xs) [] u v ⊎ TookUpTo (Takes now name took) (Breaks now name took) (P xs) [] u v →
      (name v ≡ name u) × ((first : List Match) × IsFront match_order (λ (m : Match). P ys m.sigma m.state) first × GoneThrough took (now u) first (now v))
  each_first_at t = each_first now name took u v (subst (λ zs. TookFirst (Takes now name took) (P zs) [] u v ⊎ TookUpTo (Takes now name took) (Breaks now name took) (P zs) [] u v) same t)
