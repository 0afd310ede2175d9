-- From groups to matches.
use Rattle.std.proofs.Common.{◌≡◌, ◌<◌, ◌≤◌, ℕ, ◌+◌, take, drop, get_or, List, [], ◌∷◌, ◌++◌, map, length, refl, sym, ap, ◌∙◌, subst, ⊎_elim, Contains, append_assoc, append-nil, arith}
use Rattle.std.specs.declared.cmp.Ordering.{Ordering}
use Rattle.std.specs.declared.cmp.Ordering.TheVariants.{Less}
use Rattle.std.specs.Ordering.{nat_cmp, ordering_then}
use Rattle.std.specs.Cmp.Lexicographic.{slice_cmp}
use Rattle.std.specs.List.{flat_map}
use Rattle.std.specs.List.Sorted.{IsStrictlySortedBy}
use Rattle.std.proofs.lemmas.Cmp.{nat_list_cmp_total, tied_itself}
use Rattle.std.proofs.lemmas.List.{length-append, take-append-drop, drop_more, map-append}
use Rattle.std.proofs.lemmas.List.Elements.{All-contains, All-from_recursion, recursion_from_All, Contains-get_or, Contains-append_cases, Contains-append_left, Contains-append_right}
use Rattle.list_laws.specs.Listings.{IsListing, HasMoreThan}
use Rattle.state_match.specs.Visits.{GoneThrough}
use Rattle.list_laws.proofs.Listings.{distinct_if_ascends}
use Rattle.state_match.specs.Matches.{match_order}
use Rattle.state_match.specs.Groups.{Group, group_of, after, group_order, AreGroups, AreFirstGroups, TookAll, TookUpTo}
use Rattle.state_match.specs.Collected.{match_of, matches_of, Adds, Fills}
use Rattle.state_match.specs.declared.lists.Match.{Match}
use Rattle.state_match.specs.declared.collect.Collector.{Collector}
use Rattle.state_match.proofs.listing.Uniqueness.{match_order_total}
use Rattle.state_match.proofs.members.Members.{here, there, parts, none, map_has, map_had, nothing_ascends, ascends_append, ascends_map}

-- a match of one of the groups
pub record HasMatch (gs : List Group) (m : Match) : Type 0 where
  pub group : Group
  pub has : Contains gs group
  pub same : m.sigma ≡ group.sigma
  pub state : Contains group.states m.state

pub of_group : (g : Group) (m : Match) → Contains (matches_of g) m → (m.sigma ≡ g.sigma) × Contains g.states m.state
of_group g m c =
    let h = map_had (match_of g.sigma) g.states m c in
    (sym (ap (λ (x : Match). x.sigma) h.2), subst (Contains g.states) (ap (λ (x : Match). x.state) h.2) h.1)

pub had : (gs : List Group) (m : Match) → Contains (flat_map matches_of gs) m → HasMatch gs m
had [] m c = absurd (none m c)
had (g ∷ gs) m c = ⊎_elim
    (λ c. let h = of_group g m c in record { group = g; has = here g gs; same = h.0; state = h.1 })
    (λ c. let h = had gs m c in record { group = h.group; has = there g h.group gs h.has; same = h.same; state = h.state })
    (Contains-append_cases (matches_of g) (flat_map matches_of gs) m c)

pub has : (gs : List Group) (m : Match) → HasMatch gs m → Contains (flat_map matches_of gs) m
has [] m h = absurd (none h.group h.has)
has (g ∷ gs) m h = ⊎_elim
    (λ same.
    let at : Contains g.states m.state = subst (λ (x : Group). Contains x.states m.state) (sym same) h.state in
    let is : match_of g.sigma m.state ≡ m = λ i. match_of ((ap (λ (x : Group). x.sigma) same ∙ sym h.same) i) m.state in
    Contains-append_left (matches_of g) (flat_map matches_of gs) m (subst (Contains (matches_of g)) is (map_has (match_of g.sigma) g.states m.state at)))
    (λ later. Contains-append_right (matches_of g) (flat_map matches_of gs) m (has gs m (record { group = h.group; has = later; same = h.same; state = h.state })))
    (parts g h.group gs h.has)

pub group_ascends : (g : Group) → IsStrictlySortedBy nat_cmp g.states → IsStrictlySortedBy match_order (matches_of g)
group_ascends g s = ascends_map nat_cmp match_order (match_of g.sigma) (λ p q l. ap (λ r. ordering_then r (nat_cmp p q)) (tied_itself nat_list_cmp_total g.sigma) ∙ l) g.states s

pub matches_ascend : (gs : List Group) → IsStrictlySortedBy group_order gs → ((g : Group) → Contains gs g → IsStrictlySortedBy nat_cmp g.states) → IsStrictlySortedBy match_order (flat_map matches_of gs)
unfolding IsStrictlySortedBy
matches_ascend [] s each = nothing_ascends match_order
matches_ascend (g ∷ gs) s each =
    ascends_append match_order (matches_of g) (flat_map matches_of gs) (group_ascends g (each g (here g gs))) (matches_ascend gs s.1 (λ h c. each h (there g h gs c))) (λ m n c d.
    let a = of_group g m c in
    let b = had gs n d in
    let below : slice_cmp nat_cmp g.sigma b.group.sigma ≡ Less = All-contains (λ h. group_order g h ≡ Less) gs b.group (All-from_recursion (λ h. group_order g h ≡ Less) gs s.0) b.has in
    (λ i. match_order (record { sigma = a.0 i; state = m.state }) (record { sigma = b.same i; state = n.state })) ∙ ap (λ r. ordering_then r (nat_cmp m.state n.state)) below)

module _ {P : List ℕ → ℕ → Type 0} where
  pub are_matches : (gs : List Group) → AreGroups P gs → IsListing match_order (λ (m : Match). P m.sigma m.state) (flat_map matches_of gs)
  are_matches gs a = record {
    ascends = matches_ascend gs a.ascend (λ g c. (a.each g c).states.ascends);
    exact = λ m. (
      λ c. let h = had gs m c in subst (λ σ. P σ m.state) (sym h.same) (((a.each h.group h.has).states.exact m.state).0 h.state),
      λ p. let h = a.all m.sigma m.state p in
          has gs m (record { group = h.group; has = h.has; same = sym h.same; state = ((a.each h.group h.has).states.exact m.state).1 (subst (λ σ. P σ m.state) (sym h.same) p) }),
    );
  }

  pub each_match : (gs : List Group) → AreFirstGroups P gs → (m : Match) → Contains (flat_map matches_of gs) m → P m.sigma m.state
  each_match gs a m c = let h = had gs m c in subst (λ σ. P σ m.state) (sym h.same) (((a.each h.group h.has).states.exact m.state).0 h.state)

-- a beginning of a list that ascends
pub beginning : {X : Type 0} (c : X → X → Ordering) (xs ys : List X) → IsStrictlySortedBy c (xs ++ ys) → IsStrictlySortedBy c xs
unfolding IsStrictlySortedBy
beginning c [] ys s = tt
beginning c (x ∷ xs) ys s = (recursion_from_All (λ y. c x y ≡ Less) xs (λ k d l. All-contains (λ y. c x y ≡ Less) (xs ++ ys) _ (All-from_recursion (λ y. c x y ≡ Less) (xs ++ ys) s.0) (Contains-append_left xs ys _ (Contains-get_or xs k d l))), beginning c xs ys s.1)

pub flat_map_last : (gs : List Group) (g : Group) → flat_map matches_of (gs ++ g ∷ []) ≡ flat_map matches_of gs ++ matches_of g
flat_map_last [] g = append-nil (matches_of g)
flat_map_last (h ∷ gs) g = ap (λ ms. matches_of h ++ ms) (flat_map_last gs g) ∙ sym (append_assoc (matches_of h) (flat_map matches_of gs) (matches_of g))

-- ---- the collector's way

record Adds' (u : Collector) (ms : List Match) (v : Collector) : Type 0 where
  found : v.found ≡ u.found ++ ms
  limit : v.limit ≡ u.limit
  few : length u.found ≤ u.limit → length v.found ≤ v.limit

gone : {u v : Collector} (gs : List Group) → GoneThrough Adds u (map (after []) gs) v →
    Adds' u (flat_map matches_of gs) v
gone [] GoneThrough.none = record { found = sym (append-nil _); limit = refl; few = λ l. l }
gone (g ∷ gs) (GoneThrough.more {u = u} {v = v} {w = w} a rest) =
    let b = gone gs rest in
    record {
      found = b.found ∙ (ap (λ ms. ms ++ flat_map matches_of gs) a.found ∙ append_assoc u.found (matches_of g) (flat_map matches_of gs));
      limit = b.limit ∙ a.limit;
      few = λ l. b.few (a.few l);
    }

module _ {P : List ℕ → ℕ → Type 0} (u v : Collector) (empty : u.found ≡ []) where
  pub collected_all : TookAll Adds P [] u v → IsListing match_order (λ (m : Match). P m.sigma m.state) v.found
  collected_all t =
      let a = gone t.groups t.gone in
      subst (IsListing match_order (λ (m : Match). P m.sigma m.state)) (sym (a.found ∙ ap (λ ms. ms ++ flat_map matches_of t.groups) empty)) (are_matches t.groups t.are)

  pub collected_few : TookAll Adds P [] u v → length v.found ≤ u.limit
  collected_few t =
      let a = gone t.groups t.gone in
      omega (arith, a.few (omega (arith, ap (λ (ms : List Match). length ms) empty)), a.limit)

  pub collected_more : TookUpTo Adds Fills P [] u v → HasMoreThan u.limit (λ (m : Match). P m.sigma m.state)
  collected_more t =
      let gs = t.groups ++ t.last ∷ [] in
      let a = gone t.groups t.gone in
      let f = t.over in
      let before = flat_map matches_of t.groups in
      let some : List Match = before ++ (f.first ++ f.next ∷ []) in
      let whole : flat_map matches_of gs ≡ some ++ f.rest =
      flat_map_last t.groups t.last ∙ (ap (λ ms. before ++ ms) (f.are ∙ sym (append_assoc f.first (f.next ∷ []) f.rest)) ∙ sym (append_assoc before (f.first ++ f.next ∷ []) f.rest)) in
      let ascend = subst (IsStrictlySortedBy match_order) whole (matches_ascend gs t.first.ascend (λ g c. (t.first.each g c).states.ascends)) in
      let full : length (before ++ f.first) ≡ u.limit = sym (ap (λ ms. length (ms ++ f.first)) (a.found ∙ ap (λ ms. ms ++ before) empty)) ∙ (f.full ∙ a.limit) in
      record {
        some = some;
        distinct = distinct_if_ascends match_order_total some (beginning match_order some f.rest ascend);
        each = λ m c. each_match gs t.first m (subst (λ ms. Contains ms m) (sym whole) (Contains-append_left some f.rest m c));
        more = omega (arith, full, length-append before (f.first ++ f.next ∷ []), length-append f.first (f.next ∷ []), length-append before f.first);
      }

-- the limit is reached at the next state
pub fills : (u v w : Collector) (σ states : List ℕ) (i : ℕ) → i < length states → w.found ≡ u.found ++ map (match_of σ) (take i states) → length w.found ≡ u.limit → Fills u (group_of σ states) v
fills u v w σ states i l e full = record {
  first = map (match_of σ) (take i states);
  next = match_of σ (get_or states i 0);
  rest = map (match_of σ) (drop (i + 1) states);
  are = ap (map (match_of σ)) (sym (take-append-drop i states) ∙ ap (λ qs. take i states ++ qs) (drop_more states i 0 l)) ∙ map-append (match_of σ) (take i states) (get_or states i 0 ∷ drop (i + 1) states);
  full = ap (λ (ms : List Match). length ms) (sym e) ∙ full;
}
