-- Rows that grow.
use Rattle.std.proofs.Common.{◌≡◌, ◌↔◌, ◌⊎◌, ℕ, Bool, true, false, true≢false, ◌||◌, ◌+◌, ◌<◌, ◌≤◌, List, [], ◌∷◌, ◌++◌, length, get_or, map, take, set, All, Contains, refl, sym, ap, subst, ◌∙◌, inl, inr, ⊎_elim, arith}
use Rattle.std.proofs.lemmas.Bool.{cases_eq}
use Rattle.std.proofs.lemmas.List.{take_more, get_or_default, length-map, map-append, take_at, take_more_set}
use Rattle.std.specs.List.Sorted.{IsPermutation}
use Rattle.std.proofs.lemmas.List.Sorted.{Contains-permutation, IsPermutation-sym}
use Rattle.std.proofs.lemmas.List.Elements.{All-contains, Contains-push_cases, Contains-get_or}
use Rattle.reach_rows.specs.Bits.{Has}
use Rattle.reach_rows.specs.Paths.{Path, AreReached, IsEdgeBelow, LeadThere, turn_edge}
use Rattle.reach_rows.specs.lemmas.PathLaws.{path_back, turn_back}
use Rattle.reach_rows.specs.Tables.{AreReaching, AreWide, Joins, Passes, IsSettled}

pub reaching_joined : (edges : List (ℕ × ℕ)) (old new : List (List ℕ)) (from to : ℕ) (more : Bool) → AreReaching edges old → Contains edges (from, to) → from < length old → to < length old → Joins old new from to more → AreReaching edges new
reaching_joined edges old new from to more reaching has l k joins = record {
  here = λ p below. ⊎_elim
      (λ e. rw e ((joins.members from).1 (inl (reaching.here from l))))
      (λ n. rw (joins.others p n) (reaching.here p (omega (arith, below, joins.long))))
      (cases_eq p from);
  sound = λ p q below h. ⊎_elim
      (λ e. subst (λ r. Path edges r q) (sym e) (⊎_elim (λ own. reaching.sound from q l own) (λ other. Path.on has (reaching.sound to q k other)) ((joins.members q).0 (subst (λ r. Has (get_or new r []) q) e h))))
      (λ n. reaching.sound p q (omega (arith, below, joins.long)) (subst (λ row. Has row q) (joins.others p n) h))
      (cases_eq p from);
}

-- ---- a pass

pub passes_starts : (edges : List (ℕ × ℕ)) (old : List (List ℕ)) → AreReaching edges old → Passes edges [] old old false
passes_starts edges old reaching = record { long = refl; reaching = reaching; at_most = omega arith; falls = λ e. absurd (true≢false (sym e)); same = λ _. refl; settled = λ _ e i. absurd (omega (arith, i.1)) }

or_false : (a b : Bool) → (a || b) ≡ false → (a ≡ false) × (b ≡ false)
or_false true b e = absurd (true≢false e)
or_false false b e = (refl, e)

or_true : (a b : Bool) → (a || b) ≡ true → (a ≡ true) ⊎ (b ≡ true)
or_true true b e = inl refl
or_true false b e = inr e

module _ (edges : List (ℕ × ℕ)) (old now : List (List ℕ)) (at : ℕ) (more : Bool) (passes : Passes edges (take at edges) old now more) (from to : ℕ) (below : All (IsEdgeBelow (length old)) edges) (within : at < length edges) (edge : get_or edges at (0, 0) ≡ (from, to)) where
  has_edge : Contains edges (from, to)
  has_edge = subst (Contains edges) edge (Contains-get_or edges at (0, 0) within)

  pub edge_below : (from < length now) × (to < length now)
  edge_below = let e = All-contains (IsEdgeBelow (length old)) edges (from, to) below has_edge in (omega (arith, e.0, passes.long), omega (arith, e.1, passes.long))

  pub passes_more : (new : List (List ℕ)) (found : Bool) → Joins now new from to found → Passes edges (take (at + 1) edges) old new (more || found)
  passes_more new found joins = record {
    long = joins.long ∙ passes.long;
    reaching = reaching_joined edges now new from to found passes.reaching has_edge edge_below.0 edge_below.1 joins;
    at_most = omega (arith, joins.at_most, passes.at_most);
    falls = λ e. ⊎_elim (λ m. omega (arith, passes.falls m, joins.at_most)) (λ f. omega (arith, joins.falls f, passes.at_most)) (or_true more found e);
    same = λ e. let no = or_false more found e in joins.same no.1 ∙ passes.same no.0;
    settled = λ e edge' i. let no = or_false more found e in ⊎_elim
        (λ before. passes.settled no.0 edge' before)
        (λ this. subst (IsSettled old) this (here no.0 no.1))
        (Contains-push_cases (take at edges) (from, to) edge' (subst (λ xs. Contains xs edge') (take_more edges at (0, 0) within ∙ ap (λ x. take at edges ++ x ∷ []) edge) i));
  }
    where
      here : more ≡ false → found ≡ false → IsSettled old (from, to)
      here m f x h =
          let stays : new ≡ old = joins.same f ∙ passes.same m in
          subst (λ rows. Has (get_or rows from []) x) stays ((joins.members x).1 (inr (subst (λ rows. Has (get_or rows to []) x) (sym (passes.same m)) h)))

-- ---- the end

pub reached_ends : (edges : List (ℕ × ℕ)) (rows : List (List ℕ)) → AreReaching edges rows → All (IsEdgeBelow (length rows)) edges → ((e : ℕ × ℕ) → Contains edges e → IsSettled rows e) → AreReached edges rows
reached_ends edges rows reaching below settled p q l = (reaching.sound p q l, complete p q l)
  where
    complete : (from to : ℕ) → from < length rows → Path edges from to → Has (get_or rows from []) to
    complete from to k Path.here = reaching.here from k
    complete from to k (Path.on {q = next} i path) = settled (from, next) i to (complete next to (All-contains (IsEdgeBelow (length rows)) edges (from, next) below i).1 path)

-- ---- the beginning

pub record Begins (old : List (List ℕ)) (at : ℕ) (new : List (List ℕ)) : Type 0 where
  pub here : (p : ℕ) → p < at → Has (get_or new p []) p
  pub alone : (p q : ℕ) → p < at → Has (get_or new p []) q → q ≡ p
  pub wide : (p : ℕ) → length (get_or new p []) ≡ length (get_or old p [])
  pub long : length new ≡ length old

pub begins_starts : (old : List (List ℕ)) → Begins old 0 old
begins_starts old = record { here = λ p l. absurd (omega (arith, l)); alone = λ p q l h. absurd (omega (arith, l)); wide = λ p. refl; long = refl }

pub begins_ends : (old new : List (List ℕ)) (at : ℕ) → Begins old at new → length old ≤ at → (edges : List (ℕ × ℕ)) → AreReaching edges new
begins_ends old new at begins end edges = record {
  here = λ p l. begins.here p (omega (arith, l, end, begins.long));
  sound = λ p q l h. subst (Path edges p) (sym (begins.alone p q (omega (arith, l, end, begins.long)) h)) Path.here;
}

pub begins_wide : (old new : List (List ℕ)) (at : ℕ) → Begins old at new → (width : ℕ) → AreWide width old → AreWide width new
begins_wide old new at begins width wide k d l = ap length (get_or_default new k d [] l) ∙ (begins.wide k ∙ wide k [] (omega (arith, l, begins.long)))

-- ---- turned round

pub leads_there : (edges turned : List (ℕ × ℕ)) (rows : List (List ℕ)) → ((p q : ℕ) → Contains turned (p, q) ↔ Contains edges (q, p)) → AreReached turned rows → LeadThere edges rows
leads_there edges turned rows same reached p q l = (
  λ h. path_back edges turned (λ r s. (same r s).0) p q ((reached p q l).0 h),
  λ path. (reached p q l).1 (path_back turned edges (λ r s. (same s r).1) q p path),
)

pub turn_more : (turned edges : List (ℕ × ℕ)) (k : ℕ) → k < length turned → k < length edges → take k turned ≡ map turn_edge (take k edges) → take (k + 1) (set turned k (turn_edge (get_or edges k (0, 0)))) ≡ map turn_edge (take (k + 1) edges)
turn_more turned edges k l m so_far =
    let e = get_or edges k (0, 0) in
    take_more_set turned k (turn_edge e) l ∙ (ap (λ xs. xs ++ turn_edge e ∷ []) so_far ∙ (sym (map-append turn_edge (take k edges) (e ∷ [])) ∙ ap (map turn_edge) (sym (take_more edges k (0, 0) m))))

-- the first places, sorted, of which the rest stay
pub turned_members : (edges turned sorted rest : List (ℕ × ℕ)) → turned ≡ map turn_edge edges → IsPermutation turned sorted → length sorted ≡ length turned → (p q : ℕ) → Contains (take (length edges) (sorted ++ rest)) (p, q) ↔ Contains edges (q, p)
turned_members edges turned sorted rest is moved same p q =
    let first : take (length edges) (sorted ++ rest) ≡ sorted = take_at sorted rest (length edges) (omega (arith, same, ap length is, length-map edges turn_edge)) in
    let back = turn_back edges p q in (
      λ i. back.0 (subst (λ xs. Contains xs (p, q)) is (Contains-permutation sorted turned (p, q) (IsPermutation-sym turned sorted moved) (subst (λ xs. Contains xs (p, q)) first i))),
      λ i. subst (λ xs. Contains xs (p, q)) (sym first) (Contains-permutation turned sorted (p, q) moved (subst (λ xs. Contains xs (p, q)) (sym is) (back.1 i))),
    )

pub turned_below : (edges turned : List (ℕ × ℕ)) (n : ℕ) → ((p q : ℕ) → Contains turned (p, q) ↔ Contains edges (q, p)) → All (IsEdgeBelow n) edges → All (IsEdgeBelow n) turned
turned_below edges turned n same below k d l =
    let e = get_or turned k d in
    let back = All-contains (IsEdgeBelow n) edges (e.1, e.0) below ((same e.0 e.1).0 (Contains-get_or turned k d l)) in
    (back.1, back.0)
