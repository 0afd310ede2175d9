-- Terms that are built from their arguments, and the sizes that they have.
use Rattle.std.proofs.Common.{◌≡◌, ◌↔◌, ⊎_elim, ℕ, zero, suc, ◌+◌, ◌<◌, ◌≤◌, List, [], ◌∷◌, ◌++◌, length, get_or, take, map, sum, zip, Some, slice_get, Contains, refl, sym, ap, subst, ◌∙◌, arith}
use Rattle.std.specs.List.{AllZip}
use Rattle.std.proofs.lemmas.List.{take_more, take_all, map-append, length-take-le, get_or_default}
use Rattle.std.proofs.lemmas.List.Elements.{All-contains}
use Rattle.std.proofs.lemmas.Bool.{cases_lt}
use Rattle.std.proofs.lemmas.Option.{slice_get_within, slice_get-get_or}
use Rattle.std.proofs.lemmas.Slice.Zip.{get_or-zip, length-zip}
use Rattle.ranked_terms.specs.Terms.{node, size_of, config_of}
use Rattle.ranked_terms.specs.declared.term.Term.{Term}
use Rattle.ranked_terms.specs.lemmas.TermLaws.{config_node, size_node}
use Rattle.ta_core.specs.TreeAutomaton.{TreeAutomaton, IsSound, IsTransOf, trans_of}
use Rattle.ta_core.specs.declared.trans.Trans.{Trans}
use Rattle.ta_core.specs.Runs.{Runs}
use Rattle.ta_core.specs.lemmas.RunsLaws.{reached, all_from_zip}
use Rattle.ta_clean.specs.Meeting.{IsCommon, FinalsMeet}
use Rattle.ta_clean.specs.Least.{Witnesses, IsLarge, IsSmallest}
use Rattle.ta_clean.specs.Products.{TwoAutomata}
use Rattle.ta_clean.specs.Sizes.{Sizing, IsPairOf, HasSizes, IsMadeBy, IsTermOf, IsLeastFinal, AreSettled, made_at, size_at, sum_at}
use Rattle.ta_clean.specs.declared.sizes.Made.{Made}
use Rattle.ta_clean.specs.declared.witness.Witness.{Witness}
use Rattle.ta_clean.specs.declared.witness.Witness.TheVariants as witness
use Rattle.ta_clean.proofs.least.Sizing.{sum_first, sizes_are_least}
use Rattle.ta_clean.proofs.least.Lowering.{at_contains}
use Rattle.ta_clean.proofs.marking.UseLists.{same_some}

-- ---- lists that are pushed to

zip_push : {X Y : Type 0} (P : X → Y → Type 0) (xs : List X) (ys : List Y) (x : X) (y : Y) → AllZip P xs ys → P x y → AllZip P (xs ++ x ∷ []) (ys ++ y ∷ [])
zip_push P [] [] x y all p = (p, tt)
zip_push P [] (b ∷ ys) x y all p = absurd all
zip_push P (a ∷ xs) [] x y all p = absurd all
zip_push P (a ∷ xs) (b ∷ ys) x y all p = (all.0, zip_push P xs ys x y all.1 p)

zip-push : (ps qs : List ℕ) (p q : ℕ) → length ps ≡ length qs → zip (ps ++ p ∷ []) (qs ++ q ∷ []) ≡ zip ps qs ++ (p, q) ∷ []
zip-push [] [] p q e = refl
zip-push [] (b ∷ qs) p q e = absurd (omega (arith, e))
zip-push (a ∷ ps) [] p q e = absurd (omega (arith, e))
zip-push (a ∷ ps) (b ∷ qs) p q e = ap (λ l. (a, b) ∷ l) (zip-push ps qs p q (omega (arith, e)))

sum_push : {X : Type 0} (f : X → ℕ) (xs : List X) (x : X) → sum (map f (xs ++ x ∷ [])) ≡ sum (map f xs) + f x
sum_push f [] x = omega (arith, sum_first f x [])
sum_push f (y ∷ xs) x = omega (arith, sum_first f y xs, sum_first f y (xs ++ x ∷ []), sum_push f xs x)

part_le : {X : Type 0} (f : X → ℕ) (xs : List X) (k : ℕ) (d : X) → k < length xs → f (get_or xs k d) ≤ sum (map f xs)
part_le f [] k d l = absurd (omega (arith, l))
part_le f (x ∷ xs) zero d l = omega (arith, sum_first f x xs)
part_le f (x ∷ xs) (suc k) d l = omega (arith, sum_first f x xs, part_le f xs k d (omega (arith, l)))

module _ (s : Sizing) where
  pub sum_more : (ps qs : List ℕ) (k : ℕ) → length ps ≡ length qs → k < length ps → sum_at s (take (k + 1) ps) (take (k + 1) qs) ≡ sum_at s (take k ps) (take k qs) + size_at s (get_or ps k 0, get_or qs k 0)
  sum_more ps qs k count l =
      let p = get_or ps k 0 in
      let q = get_or qs k 0 in
      let more_ps : take (k + 1) ps ≡ take k ps ++ p ∷ [] = take_more ps k 0 l in
      let more_qs : take (k + 1) qs ≡ take k qs ++ q ∷ [] = take_more qs k 0 (omega (arith, l, count)) in
      let same : length (take k ps) ≡ length (take k qs) = length-take-le k ps (omega (arith, l)) ∙ sym (length-take-le k qs (omega (arith, l, count))) in
      ap (λ xs. sum_at s xs (take (k + 1) qs)) more_ps ∙ ap (λ ys. sum_at s (take k ps ++ p ∷ []) ys) more_qs ∙ ap (λ l. sum (map (size_at s) l)) (zip-push (take k ps) (take k qs) p q same) ∙ sum_push (size_at s) (zip (take k ps) (take k qs)) (p, q)

  -- the sum of the first ones is no more than that of all
  pub sum_front : (ps qs : List ℕ) (k : ℕ) → sum_at s (take k ps) (take k qs) ≤ sum_at s ps qs
  sum_front ps qs zero = omega arith
  sum_front [] qs (suc k) = omega arith
  sum_front (p ∷ ps) [] (suc k) = omega arith
  sum_front (p ∷ ps) (q ∷ qs) (suc k) = omega (arith, sum_first (size_at s) (p, q) (zip ps qs), sum_first (size_at s) (p, q) (zip (take k ps) (take k qs)), sum_front ps qs k)

  pub sum_all : (ps qs : List ℕ) (k : ℕ) → length ps ≡ length qs → length ps ≤ k → sum_at s (take k ps) (take k qs) ≡ sum_at s ps qs
  sum_all ps qs k count l = ap (λ xs. sum_at s xs (take k qs)) (take_all k ps l) ∙ ap (λ ys. sum_at s ps ys) (take_all k qs (omega (arith, l, count)))

module _ (both : TwoAutomata) (s : Sizing) where
  -- terms for the first arguments
  pub record AreBuilt (ps qs : List ℕ) (k : ℕ) (terms : List Term) : Type 0 where
    pub first : AllZip (Runs both.first) (map config_of terms) (take k ps)
    pub second : AllZip (Runs both.second) (map config_of terms) (take k qs)
    pub small : sum (map size_of terms) ≤ sum_at s (take k ps) (take k qs)

  pub built_more : (ps qs : List ℕ) (k : ℕ) (terms : List Term) (t : Term) → length ps ≡ length qs → k < length ps → AreBuilt ps qs k terms → IsTermOf both (get_or ps k 0, get_or qs k 0) (size_at s (get_or ps k 0, get_or qs k 0)) t → AreBuilt ps qs (k + 1) (terms ++ t ∷ [])
  built_more ps qs k terms t count l b is =
      let p = get_or ps k 0 in
      let q = get_or qs k 0 in
      let more_ps : take (k + 1) ps ≡ take k ps ++ p ∷ [] = take_more ps k 0 l in
      let more_qs : take (k + 1) qs ≡ take k qs ++ q ∷ [] = take_more qs k 0 (omega (arith, l, count)) in
      let configs : map config_of (terms ++ t ∷ []) ≡ map config_of terms ++ config_of t ∷ [] = map-append config_of terms (t ∷ []) in
      let sums = sum_more s ps qs k count l in
      record {
        first = subst (λ xs. AllZip (Runs both.first) xs (take (k + 1) ps)) (sym configs) (subst (AllZip (Runs both.first) (map config_of terms ++ config_of t ∷ [])) (sym more_ps) (zip_push (Runs both.first) (map config_of terms) (take k ps) (config_of t) p b.first is.first));
        second = subst (λ xs. AllZip (Runs both.second) xs (take (k + 1) qs)) (sym configs) (subst (AllZip (Runs both.second) (map config_of terms ++ config_of t ∷ [])) (sym more_qs) (zip_push (Runs both.second) (map config_of terms) (take k qs) (config_of t) q b.second is.second));
        small = omega (arith, sum_push size_of terms t, b.small, is.small, sums);
      }

  pub built_ends : (pair : ℕ × ℕ) (made : Made) (m : IsMadeBy both s pair made) (k : ℕ) (terms : List Term) → Contains both.first.trans m.left → Contains both.second.trans m.right → length m.left.args ≤ k → AreBuilt m.left.args m.right.args k terms →
      IsTermOf both pair made.size (node m.left.sym terms)
  built_ends pair made m k terms l r end b =
      let is = config_node m.left.sym terms in
      let configs = map config_of terms in
      let firsts = subst (AllZip (Runs both.first) configs) (take_all k m.left.args end) b.first in
      let seconds = subst (AllZip (Runs both.second) configs) (take_all k m.right.args (omega (arith, end, m.count))) b.second in
      let has : Contains both.second.trans (trans_of m.left.sym m.right.args m.right.to) = subst (λ f. Contains both.second.trans (trans_of f m.right.args m.right.to)) (sym m.same) r in
      let sums : sum_at s (take k m.left.args) (take k m.right.args) ≡ sum_at s m.left.args m.right.args = ap (λ xs. sum_at s xs (take k m.right.args)) (take_all k m.left.args end) ∙ ap (λ ys. sum_at s m.left.args ys) (take_all k m.right.args (omega (arith, end, m.count))) in
      record {
        first = subst (λ c. Runs both.first c pair.0) (sym is) (reached (Runs.app (all_from_zip configs m.left.args firsts) l) m.first);
        second = subst (λ c. Runs both.second c pair.1) (sym is) (reached (Runs.app (all_from_zip configs m.right.args seconds) has) m.second);
        small = omega (arith, size_node m.left.sym terms, b.small, sums, m.small);
      }

  -- an argument's pair has a lesser number
  pub argument_less : (ps qs : List ℕ) (k : ℕ) → length ps ≡ length qs → k < length ps → size_at s (get_or ps k 0, get_or qs k 0) ≤ sum_at s ps qs
  argument_less ps qs k count l =
      let at = get_or-zip ps qs k (0, 0) l (omega (arith, l, count)) in
      subst (λ (x : ℕ × ℕ). size_at s x ≤ sum_at s ps qs) at (part_le (size_at s) (zip ps qs) k (0, 0) (omega (arith, length-zip ps qs, l, count)))

  pub argument_in : (left right : Trans) (k : ℕ) → IsSound both.first → IsSound both.second → HasSizes both s → Contains both.first.trans left → Contains both.second.trans right → length left.args ≡ length right.args → k < length left.args →
      IsPairOf s (get_or left.args k 0, get_or right.args k 0)
  argument_in left right k first second has l r count inside =
      let p = (All-contains (IsTransOf both.first.states) both.first.trans left first.trans l).args k 0 inside in
      let q = (All-contains (IsTransOf both.second.states) both.second.trans right second.trans r).args k 0 (omega (arith, inside, count)) in
      let below_p = All-contains (λ n. n < both.first.next) both.first.states (get_or left.args k 0) first.below p in
      let below_q = All-contains (λ n. n < both.second.next) both.second.states (get_or right.args k 0) second.below q in
      record { first = omega (arith, below_p, has.first); second = omega (arith, below_q, has.second) }

  -- ---- what the least number says

  module _ (settled : AreSettled both s) (first : IsSound both.first) (second : IsSound both.second) (pair : ℕ × ℕ) (least : IsLeastFinal both s pair) where
    pub common_is_no_less : (t : Term) → IsCommon both.first both.second t → size_at s pair ≤ size_of t
    common_is_no_less t c = omega (arith, least.least c.first.state c.second.state c.first.final c.second.final, sizes_are_least both s settled first second t c.first.state c.second.state c.first.runs c.second.runs)

    pub term_is_smallest : (t : Term) → IsTermOf both pair (size_at s pair) t → size_at s pair ≤ 1024 → IsSmallest (IsCommon both.first both.second) t
    term_is_smallest t is small = record {
      is_least = record {
        has = record { first = record { state = pair.0; runs = is.first; final = least.first }; second = record { state = pair.1; runs = is.second; final = least.second } };
        least = λ u c. omega (arith, is.small, common_is_no_less u c);
      };
      small = omega (arith, is.small, small);
    }

    pub language_is_large : (p q : ℕ) → FinalsMeet both.first both.second p q → 1025 ≤ size_at s pair → IsLarge (IsCommon both.first both.second)
    language_is_large p q m large = record {
      one = m.meets.term;
      has = record { first = record { state = p; runs = m.meets.first; final = m.first }; second = record { state = q; runs = m.meets.second; final = m.second } };
      each = λ u c. omega (arith, large, common_is_no_less u c);
    }

-- nothing is common where no two final states meet
pub none_in_common : (A B : TreeAutomaton) → ((p q : ℕ) → FinalsMeet A B p q → ⊥) → (t : Term) → IsCommon A B t → ⊥
none_in_common A B none t c = none c.first.state c.second.state (record { first = c.first.final; second = c.second.final; meets = record { term = t; first = c.first.runs; second = c.second.runs } })

-- ---- the transitions of which a pair is made

module _ (both : TwoAutomata) (s : Sizing) (pair : ℕ × ℕ) (m : IsMadeBy both s pair (made_at s pair)) (made : Made) (is : made ≡ made_at s pair) (lefts rights : List Trans) (is_lefts : lefts ≡ both.first.trans) (is_rights : rights ≡ both.second.trans) where
  at_lefts : slice_get lefts made.left ≡ Some m.left
  at_lefts = ap (λ (ts : List Trans). slice_get ts made.left) is_lefts ∙ (ap (λ (x : Made). slice_get both.first.trans x.left) is ∙ m.at_left)

  at_rights : slice_get rights made.right ≡ Some m.right
  at_rights = ap (λ (ts : List Trans). slice_get ts made.right) is_rights ∙ (ap (λ (x : Made). slice_get both.second.trans x.right) is ∙ m.at_right)

  pub left_within : made.left < length lefts
  left_within = slice_get_within lefts made.left m.left at_lefts

  pub right_within : made.right < length rights
  right_within = slice_get_within rights made.right m.right at_rights

  pub is_left : (left : Trans) → left ≡ get_or lefts made.left left → left ≡ m.left
  is_left left e = same_some left m.left (slice_get-get_or lefts made.left left left_within ∙ ap Some (sym e)) at_lefts

  pub is_right : (right : Trans) → right ≡ get_or rights made.right right → right ≡ m.right
  is_right right e = same_some right m.right (slice_get-get_or rights made.right right right_within ∙ ap Some (sym e)) at_rights

  module _ (left right : Trans) (l : left ≡ get_or lefts made.left left) (r : right ≡ get_or rights made.right right) where
    pub same_count : length left.args ≡ length right.args
    same_count = ap (λ (t : Trans). length t.args) (is_left left l) ∙ (m.count ∙ ap (λ (t : Trans). length t.args) (sym (is_right right r)))

    pub sum_less : sum_at s left.args right.args < size_at s pair
    sum_less =
        let e : sum_at s left.args right.args ≡ sum_at s m.left.args m.right.args = ap (λ (t : Trans). sum_at s t.args right.args) (is_left left l) ∙ ap (λ (t : Trans). sum_at s m.left.args t.args) (is_right right r) in
        omega (arith, m.small, e)

    pub left_in : Contains both.first.trans left
    left_in = subst (Contains both.first.trans) (sym (is_left left l)) (at_contains both.first.trans (made_at s pair).left m.left m.at_left)

    pub right_in : Contains both.second.trans right
    right_in = subst (Contains both.second.trans) (sym (is_right right r)) (at_contains both.second.trans (made_at s pair).right m.right m.at_right)

    pub term_is_built : (k : ℕ) (firsts seconds : List ℕ) (terms : List Term) → firsts ≡ left.args → seconds ≡ right.args → length firsts ≤ k → AreBuilt both s firsts seconds k terms → IsTermOf both pair (size_at s pair) (node left.sym terms)
    term_is_built k firsts seconds terms e f end b =
        let a : firsts ≡ m.left.args = e ∙ ap (λ (t : Trans). t.args) (is_left left l) in
        let b' = subst (λ xs. AreBuilt both s xs m.right.args k terms) a (subst (λ ys. AreBuilt both s firsts ys k terms) (f ∙ ap (λ (t : Trans). t.args) (is_right right r)) b) in
        subst (λ (t : Trans). IsTermOf both pair (size_at s pair) (node t.sym terms)) (sym (is_left left l))
        (built_ends both s pair (made_at s pair) m k terms (at_contains both.first.trans (made_at s pair).left m.left m.at_left) (at_contains both.second.trans (made_at s pair).right m.right m.at_right) (omega (arith, end, ap length a)) b')

-- ---- the least of some numbers

module _ (s : Sizing) (items : List ℕ) (k state : ℕ) where
  pub least_then : (first second : ℕ) → size_at s (state, get_or items k 0) < size_at s (first, second) → ((j : ℕ) → j < k → size_at s (first, second) ≤ size_at s (state, get_or items j 0)) →
      (j : ℕ) → j < k + 1 → size_at s (state, get_or items k 0) ≤ size_at s (state, get_or items j 0)
  least_then first second less h j l = ⊎_elim (λ before. let e = h j before in omega (arith, e, less)) (λ last. let same : k ≡ j = omega (arith, l, last) in subst (λ n. size_at s (state, get_or items k 0) ≤ size_at s (state, get_or items n 0)) same (omega arith)) (cases_lt j k)

  pub least_else : (first second : ℕ) → size_at s (first, second) ≤ size_at s (state, get_or items k 0) → ((j : ℕ) → j < k → size_at s (first, second) ≤ size_at s (state, get_or items j 0)) →
      (j : ℕ) → j < k + 1 → size_at s (first, second) ≤ size_at s (state, get_or items j 0)
  least_else first second at h j l = ⊎_elim (λ before. h j before) (λ last. let same : k ≡ j = omega (arith, l, last) in subst (λ n. size_at s (first, second) ≤ size_at s (state, get_or items n 0)) same at) (cases_lt j k)

-- what holds at each place holds of each member
pub at_each : (P : ℕ → Type 0) (items : List ℕ) (k : ℕ) → length items ≤ k → ((j : ℕ) → j < k → P (get_or items j 0)) → (q : ℕ) → Contains items q → P q
at_each P items k l h q i = subst P (get_or_default items i.0 0 q i.1 ∙ i.2) (h i.0 (omega (arith, i.1, l)))

-- one more place
pub each_more : (P : ℕ → Type 0) (items : List ℕ) (k : ℕ) → ((j : ℕ) → j < k → P (get_or items j 0)) → P (get_or items k 0) → (j : ℕ) → j < k + 1 → P (get_or items j 0)
each_more P items k h here j l = ⊎_elim (λ before. h j before) (λ last. let same : k ≡ j = omega (arith, l, last) in subst (λ n. P (get_or items n 0)) same here) (cases_lt j k)

-- the same terms have the same witnesses
pub witnesses_same : (P Q : Term → Type 0) → ((t : Term) → P t ↔ Q t) → (w : Witness) → Witnesses P w → Witnesses Q w
witnesses_same P Q same witness.None none = λ t q. none t ((same t).1 q)
witnesses_same P Q same (witness.Term t) is = record { is_least = record { has = (same t).0 is.is_least.has; least = λ u q. is.is_least.least u ((same u).1 q) }; small = is.small }
witnesses_same P Q same witness.Large large = record { one = large.one; has = (same large.one).0 large.has; each = λ u q. large.each u ((same u).1 q) }
