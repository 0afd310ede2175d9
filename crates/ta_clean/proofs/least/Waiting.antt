-- Numbers of pairs that fall, and pairs that wait until what they lead to is looked at.
use Rattle.std.proofs.Common.{◌≡◌, ◌↔◌, ◌⊎◌, ℕ, zero, suc, ◌+◌, ◌*◌, ◌/◌, ◌%◌, ◌<◌, ◌≤◌, Bool, true, false, true≢false, List, [], ◌∷◌, ◌++◌, length, get_or, set, take, map, sum, zip, Some, slice_get, Contains, refl, sym, ap, subst, ◌∙◌, inl, inr, ⊎_elim, arith}
use Rattle.std.proofs.Math.Nat.{mul-le-mul_right, div-add-mod}
use Rattle.std.proofs.lemmas.Bool.{cases_lt}
use Rattle.std.proofs.lemmas.List.{get_or-set_same, get_or-set_other, get_or_past, get_or_default, take_more, take_all}
use Rattle.std.proofs.lemmas.List.Elements.{All-contains, Contains-push_cases}
use Rattle.std.proofs.lemmas.List.Sums.{sum_by-set}
use Rattle.std.proofs.lemmas.Option.{slice_get-get_or}
use Rattle.std.proofs.lemmas.Slice.Zip.{get_or-zip, length-zip}
use Rattle.list_laws.proofs.Members.{here, there, parts, none}
use Rattle.ta_core.specs.TreeAutomaton.{IsSound, IsEpsOf}
use Rattle.ta_core.specs.declared.trans.Trans.{Trans}
use Rattle.ta_clean.specs.Products.{TwoAutomata}
use Rattle.ta_clean.specs.Sizes.{Sizing, IsSizing, IsUnmade, IsPairOf, MayLower, StopsWaiting, IsMadeBy, AreMade, AreSettled, HasSizes, Lowers, SomeWaits, IsFollowed, FollowedBy, unmade, made_at, size_at, sum_at, waits_in, waits_at, work_at, work_of}
use Rattle.ta_clean.specs.declared.sizes.Made.{Made}
use Rattle.ta_clean.specs.Uses.{IsUseOf, AreUsesOf}
use Rattle.ta_clean.specs.declared.meeting.uses.Use.{Use}
use Rattle.ta_clean.proofs.marking.TableMarks.{same_place, pair_same}
use Rattle.ta_clean.proofs.marking.UseLists.{use_of, used_sym}
use Rattle.ta_clean.proofs.least.Sizing.{sum_first, sum_falls, within, unmade_at}
use Rattle.ta_clean.proofs.least.Building.{argument_in}
use Rattle.ta_clean.proofs.least.Lowering.{pair_in}

nat_cases : (m n : ℕ) → (m ≡ n) ⊎ (m ≡ n → ⊥)
nat_cases m n = ⊎_elim (λ l. inr (λ e. omega (arith, e, l))) (λ h. ⊎_elim (λ l. inr (λ e. omega (arith, e, l))) (λ k. inl (omega (arith, h, k))) (cases_lt n m)) (cases_lt m n)

work_le : (b : Bool) (n : ℕ) → n + n ≤ work_at b n
work_le true n = omega arith
work_le false n = omega arith

-- ---- another entry at one pair

module _ (old : Sizing) (pair : ℕ × ℕ) (made : Made) (ok : IsSizing old) (is : IsPairOf old pair) where
  abbrev pub after : Sizing
  after = record old { made = set old.made (pair.0 * old.width + pair.1) made }

  here_is : get_or after.made (pair.0 * old.width + pair.1) unmade ≡ made
  here_is = get_or-set_same old.made (pair.0 * old.width + pair.1) made unmade (within old pair ok is)

  pub record IsHere (x : ℕ × ℕ) : Type 0 where
    pub place : x.0 * old.width + x.1 ≡ pair.0 * old.width + pair.1
    pub was : made_at old x ≡ made_at old pair
    pub now : made_at after x ≡ made

  pub here_or_same : (x : ℕ × ℕ) → IsHere x ⊎ (made_at after x ≡ made_at old x)
  here_or_same x = ⊎_elim
      (λ e. inl (record { place = e; was = ap (λ n. get_or old.made n unmade) e; now = ap (λ n. get_or after.made n unmade) e ∙ here_is }))
      (λ apart. inr (get_or-set_other old.made (pair.0 * old.width + pair.1) (x.0 * old.width + x.1) made unmade apart))
      (nat_cases (x.0 * old.width + x.1) (pair.0 * old.width + pair.1))

  pub now_at : made_at after pair ≡ made
  now_at = here_is

  pub work_after : work_of after + work_at (waits_at old pair) (size_at old pair) ≡ work_of old + work_at made.waits made.size
  work_after = sum_by-set (λ (m : Made). work_at m.waits m.size) old.made (pair.0 * old.width + pair.1) made unmade (within old pair ok is)

  pub same_pair : (x : ℕ × ℕ) → IsPairOf old x → IsHere x → x ≡ pair
  same_pair x inside h = let same = same_place old.width x.0 x.1 pair.0 pair.1 inside.second is.second h.place in pair_same x pair same.0 same.1

-- what is made of numbers is made of lesser ones
made_still : (both : TwoAutomata) (old new : Sizing) (x : ℕ × ℕ) (m : Made) (b : Bool) → ((y : ℕ × ℕ) → size_at new y ≤ size_at old y) → IsMadeBy both old x m → IsMadeBy both new x (record m { waits = b })
made_still both old new x m b falls h = record {
  left = h.left;
  right = h.right;
  at_left = h.at_left;
  at_right = h.at_right;
  same = h.same;
  count = h.count;
  first = h.first;
  second = h.second;
  small = omega (arith, h.small, sum_falls (size_at new) (size_at old) falls (zip h.left.args h.right.args));
}

module _ (both : TwoAutomata) where
  pub lowers_itself : (s : Sizing) → AreMade both s → Lowers both s s
  lowers_itself s all = record {
    height = refl;
    width = refl;
    made = all;
    falls = λ x. omega arith;
    waits = λ x w. w;
    fallen = λ x l. absurd (omega (arith, l));
    work = omega arith;
  }

  pub lowers_on : (old now new : Sizing) → Lowers both old now → Lowers both now new → Lowers both old new
  lowers_on old now new h k = record {
    height = k.height ∙ h.height;
    width = k.width ∙ h.width;
    made = k.made;
    falls = λ x. omega (arith, h.falls x, k.falls x);
    waits = λ x w. k.waits x (h.waits x w);
    fallen = λ x l. ⊎_elim (λ less. k.fallen x less) (λ no. k.waits x (h.fallen x (omega (arith, l, no)))) (cases_lt (size_at new x) (size_at now x));
    work = omega (arith, h.work, k.work);
  }

  pub has_lowered : (old new : Sizing) → HasSizes both old → Lowers both old new → HasSizes both new
  has_lowered old new has h = record { first = omega (arith, has.first, h.height); second = omega (arith, has.second, h.width) }

  pub pair_lowered : (old new : Sizing) (pair : ℕ × ℕ) → IsPairOf old pair → Lowers both old new → IsPairOf new pair
  pair_lowered old new pair is h = record { first = omega (arith, is.first, h.height); second = omega (arith, is.second, h.width) }

  -- ---- one number falls

  module _ (old : Sizing) (pair : ℕ × ℕ) (made : Made) (ok : IsSizing old) (is : IsPairOf old pair) (less : made.size < size_at old pair) (by : IsMadeBy both old pair made) (all : AreMade both old) where
    abbrev low : Sizing
    low = after old pair (record made { waits = true }) ok is

    low_falls : (x : ℕ × ℕ) → size_at low x ≤ size_at old x
    low_falls x = ⊎_elim
        (λ h. omega (arith, less, ap (λ (m : Made). m.size) h.was, ap (λ (m : Made). m.size) h.now))
        (λ same. omega (arith, ap (λ (m : Made). m.size) same))
        (here_or_same old pair (record made { waits = true }) ok is x)

    low_made : AreMade both low
    low_made x inside small =
        let inside' : IsPairOf old x = record { first = inside.first; second = inside.second } in
        ⊎_elim
        (λ h. subst (IsMadeBy both low x) (sym h.now) (subst (λ y. IsMadeBy both low y (record made { waits = true })) (sym (same_pair old pair (record made { waits = true }) ok is x inside' h)) (made_still both old low pair made true low_falls by)))
        (λ same. subst (IsMadeBy both low x) (sym same) (made_still both old low x (made_at old x) (waits_at old x) low_falls (all x inside' (omega (arith, small, ap (λ (m : Made). m.size) same)))))
        (here_or_same old pair (record made { waits = true }) ok is x)

    lowers_one : Lowers both old low
    lowers_one = record {
      height = refl;
      width = refl;
      made = low_made;
      falls = low_falls;
      waits = λ x w. ⊎_elim (λ h. ap (λ (m : Made). m.waits) h.now) (λ same. ap (λ (m : Made). m.waits) same ∙ w) (here_or_same old pair (record made { waits = true }) ok is x);
      fallen = λ x l. ⊎_elim (λ h. ap (λ (m : Made). m.waits) h.now) (λ same. absurd (omega (arith, l, ap (λ (m : Made). m.size) same))) (here_or_same old pair (record made { waits = true }) ok is x);
      work = omega (arith, less, work_after old pair (record made { waits = true }) ok is, work_le (waits_at old pair) (size_at old pair));
    }

  pub may_lower : (old new : Sizing) (pair : ℕ × ℕ) (made : Made) → IsSizing old → IsPairOf old pair → AreMade both old → (made.size < size_at old pair → IsMadeBy both old pair made) → MayLower old new pair made → Lowers both old new
  may_lower old new pair made ok is all by may = ⊎_elim
      (λ l. subst (Lowers both old) (sym l.is) (lowers_one old pair made ok is l.less (by l.less) all))
      (λ same. subst (Lowers both old) (sym same.0) (lowers_itself old all))
      may

  pub may_reach : (old new : Sizing) (pair : ℕ × ℕ) (made : Made) → IsSizing old → IsPairOf old pair → MayLower old new pair made → size_at new pair ≤ made.size
  may_reach old new pair made ok is may = ⊎_elim
      (λ l. omega (arith, ap (λ (s : Sizing). size_at s pair) l.is, ap (λ (m : Made). m.size) (now_at old pair (record made { waits = true }) ok is)))
      (λ same. omega (arith, same.1, ap (λ (s : Sizing). size_at s pair) same.0))
      may

  -- ---- what was followed still is

  module _ (old new : Sizing) (h : Lowers both old new) where
    sum_or_waits : (xs : List (ℕ × ℕ)) → (sum (map (size_at new) xs) ≡ sum (map (size_at old) xs)) ⊎ SomeWaits new xs
    sum_or_waits [] = inl refl
    sum_or_waits (x ∷ xs) = ⊎_elim
        (λ less. inr (record { pair = x; has = here x xs; waits = h.fallen x less }))
        (λ no. ⊎_elim
        (λ e. inl (omega (arith, e, no, h.falls x, sum_first (size_at new) x xs, sum_first (size_at old) x xs)))
        (λ w. inr (record { pair = w.pair; has = there x w.pair xs w.has; waits = w.waits }))
        (sum_or_waits xs))
        (cases_lt (size_at new x) (size_at old x))

    pub followed_later : (xs : List (ℕ × ℕ)) (pair : ℕ × ℕ) (n : ℕ) → IsFollowed old xs pair n → IsFollowed new xs pair n
    followed_later xs pair n f = ⊎_elim
        (λ l. ⊎_elim (λ e. inl (omega (arith, l, e, h.falls pair))) (λ w. inr w) (sum_or_waits xs))
        (λ w. inr (record { pair = w.pair; has = w.has; waits = h.waits w.pair w.waits }))
        f

    -- a pair that has come so low by these arguments
    pub followed_now : (xs : List (ℕ × ℕ)) (pair : ℕ × ℕ) (n : ℕ) → size_at new pair ≤ sum (map (size_at old) xs) + n → IsFollowed new xs pair n
    followed_now xs pair n l = ⊎_elim (λ e. inl (omega (arith, l, e))) (λ w. inr w) (sum_or_waits xs)

    pub followed_by_later : (left right : Trans) → FollowedBy left right old → FollowedBy left right new
    followed_by_later left right f same count = followed_later (zip left.args right.args) (left.to, right.to) 1 (f same count)

  -- ---- loops

  -- what a loop has done once it has passed the first of its items
  pub record IsLowering {X : Type 0} (D : X → Sizing → Type 0) (old : Sizing) (done : List X) (now : Sizing) : Type 0 where
    pub lowers : Lowers both old now
    pub followed : (x : X) → Contains done x → D x now

  module _ {X : Type 0} (D : X → Sizing → Type 0) (old : Sizing) where
    pub lowering_starts : AreMade both old → IsLowering D old [] old
    lowering_starts all = record { lowers = lowers_itself old all; followed = λ x i. absurd (none x i) }

    pub lowering_more : (items : List X) (k : ℕ) (x : X) (now new : Sizing) → k < length items → x ≡ get_or items k x → IsLowering D old (take k items) now → Lowers both now new →
        ((y : X) → D y now → D y new) → D x new → IsLowering D old (take (k + 1) items) new
    lowering_more items k x now new l is m lowers later one = record {
      lowers = lowers_on old now new m.lowers lowers;
      followed = λ y i.
          let more : take (k + 1) items ≡ take k items ++ x ∷ [] = take_more items k x l ∙ ap (λ z. take k items ++ z ∷ []) (sym is) in
          ⊎_elim (λ before. later y (m.followed y before)) (λ same. subst (λ z. D z new) same one)
          (Contains-push_cases (take k items) x y (subst (λ all. Contains all y) more i));
    }

    pub lowering_ends : (items : List X) (k : ℕ) (now : Sizing) → length items ≤ k → IsLowering D old (take k items) now → IsLowering D old items now
    lowering_ends items k now l m = subst (λ all. IsLowering D old all now) (take_all k items l) m

  -- ---- uses

  -- a use of the second automaton at the same slot, for each transition with the state there
  pub record IsUsedWith (items : List Use) (right : Trans) : Type 0 where
    pub other : Use
    pub has : Contains items other
    pub at : slice_get both.second.trans other.position ≡ Some right

  pub used_with : (left : Trans) (used : Use) (q : ℕ) (uses items : List Use) → IsUseOf both.first.trans used → slice_get both.first.trans used.position ≡ Some left → AreUsesOf both.second.trans uses →
      ((other : Use) → Contains items other ↔ (Contains uses other × (other.slot ≡ (use_of q used.slot.sym used.slot.place 0).slot))) →
      (right : Trans) → Contains both.second.trans right → slice_get right.args used.slot.place ≡ Some q → left.sym ≡ right.sym → IsUsedWith items right
  used_with left used q uses items is at are members right i there same =
      let position : slice_get both.second.trans i.0 ≡ Some right = slice_get-get_or both.second.trans i.0 right i.1 ∙ ap Some i.2 in
      let other = use_of q used.slot.sym used.slot.place i.0 in
      let sym_is : right.sym ≡ used.slot.sym = sym same ∙ used_sym both.first.trans used left is at in
      let has = (are other).1 (record { trans = right; at = position; is = record { sym = sym_is; state = there } }) in
      record { other = other; has = (members other).1 (has, refl); at = position }

  -- a use of the first automaton's state, for each two transitions with the pair among those of their arguments
  pub record IsUsedAt (items : List Use) (q : ℕ) (left right : Trans) : Type 0 where
    pub used : Use
    pub has : Contains items used
    pub at : slice_get both.first.trans used.position ≡ Some left
    pub there : slice_get right.args used.slot.place ≡ Some q

  pub used_at : (p q : ℕ) (uses items : List Use) → AreUsesOf both.first.trans uses → ((used : Use) → Contains items used ↔ (Contains uses used × (used.slot.state ≡ p))) →
      (left right : Trans) → Contains both.first.trans left → Contains (zip left.args right.args) (p, q) → IsUsedAt items q left right
  used_at p q uses items are members left right first i =
      let k = i.0 in
      let in_left : k < length left.args = omega (arith, i.1, length-zip left.args right.args) in
      let in_right : k < length right.args = omega (arith, i.1, length-zip left.args right.args) in
      let pair : ◌≡◌ {A = ℕ × ℕ} (get_or left.args k p, get_or right.args k q) (p, q) = sym (get_or-zip left.args right.args k (p, q) in_left in_right) ∙ i.2 in
      let at_left : slice_get left.args k ≡ Some p = slice_get-get_or left.args k p in_left ∙ ap (λ (x : ℕ × ℕ). Some x.0) pair in
      let at_right : slice_get right.args k ≡ Some q = slice_get-get_or right.args k q in_right ∙ ap (λ (x : ℕ × ℕ). Some x.1) pair in
      let position : slice_get both.first.trans first.0 ≡ Some left = slice_get-get_or both.first.trans first.0 left first.1 ∙ ap Some first.2 in
      let used = use_of p left.sym k first.0 in
      let has = (are used).1 (record { trans = left; at = position; is = record { sym = refl; state = at_left } }) in
      record { used = used; has = (members used).1 (has, refl); at = position; there = at_right }

  -- ---- pairs are taken until none waits

  pub record AreFollowed (s : Sizing) : Type 0 where
    pub trans : (left right : Trans) → Contains both.first.trans left → Contains both.second.trans right → FollowedBy left right s
    pub first : (e : ℕ × ℕ) → Contains both.first.eps e → (q : ℕ) → Contains both.second.states q → IsFollowed s ((e.0, q) ∷ []) (e.1, q) 0
    pub second : (e : ℕ × ℕ) → Contains both.second.eps e → (p : ℕ) → Contains both.first.states p → IsFollowed s ((p, e.0) ∷ []) (p, e.1) 0

  module _ (height width : ℕ) (old now : Sizing) (unmade_is : IsUnmade height width old) (h : Lowers both old now) where
    large : (x : ℕ × ℕ) → size_at old x ≡ 1025
    large x = ap (λ (m : Made). m.size) (unmade_at height width old unmade_is x)

    sum_large : (ps qs : List ℕ) → length ps ≡ length qs → (length ps ≡ 0 → ⊥) → 1025 ≤ sum_at old ps qs
    sum_large [] qs e some = absurd (some refl)
    sum_large (p ∷ ps) [] e some = absurd (omega (arith, e))
    sum_large (p ∷ ps) (q ∷ qs) e some = omega (arith, sum_first (size_at old) (p, q) (zip ps qs), large (p, q))

    pub followed_starts : ((left : Trans) → Contains both.first.trans left → length left.args ≡ 0 → (right : Trans) → Contains both.second.trans right → FollowedBy left right now) → AreFollowed now
    followed_starts constants = record {
      trans = λ left right l r same count. ⊎_elim
          (λ e. constants left l e right r same count)
          (λ some. followed_later old now h (zip left.args right.args) (left.to, right.to) 1 (inl (omega (arith, large (left.to, right.to), sum_large left.args right.args count some))))
          (nat_cases (length left.args) 0);
      first = λ e i q j. followed_later old now h ((e.0, q) ∷ []) (e.1, q) 0 (inl (omega (arith, large (e.0, q), large (e.1, q), sum_first (size_at old) (e.0, q) [])));
      second = λ e i p j. followed_later old now h ((p, e.0) ∷ []) (p, e.1) 0 (inl (omega (arith, large (p, e.0), large (p, e.1), sum_first (size_at old) (p, e.0) [])));
    }

  module _ (s t : Sizing) (pair : ℕ × ℕ) (stops : StopsWaiting s t pair) (ok : IsSizing s) where
    abbrev rests : Made
    rests = record (made_at s pair) { waits = false }

    abbrev taken : Sizing
    taken = after s pair rests ok stops.within

    same_sizes : (x : ℕ × ℕ) → size_at taken x ≡ size_at s x
    same_sizes x = ⊎_elim
        (λ h. ap (λ (m : Made). m.size) h.now ∙ sym (ap (λ (m : Made). m.size) h.was))
        (λ same. ap (λ (m : Made). m.size) same)
        (here_or_same s pair rests ok stops.within x)

    taken_made : AreMade both s → AreMade both taken
    taken_made all x inside small =
        let inside' : IsPairOf s x = record { first = inside.first; second = inside.second } in
        let by = all x inside' (omega (arith, small, same_sizes x)) in
        let falls : (y : ℕ × ℕ) → size_at taken y ≤ size_at s y = λ y. omega (arith, same_sizes y) in
        ⊎_elim
        (λ h. subst (IsMadeBy both taken x) (sym h.now) (subst (λ (m : Made). IsMadeBy both taken x (record m { waits = false })) h.was (made_still both s taken x (made_at s x) false falls by)))
        (λ same. subst (IsMadeBy both taken x) (sym same) (made_still both s taken x (made_at s x) (waits_at s x) falls by))
        (here_or_same s pair rests ok stops.within x)

    pub made_taken : AreMade both s → AreMade both t
    made_taken all = subst (AreMade both) (sym stops.is) (taken_made all)

    pub has_taken : HasSizes both s → HasSizes both t
    has_taken has = subst (HasSizes both) (sym stops.is) (record { first = has.first; second = has.second })

    pub pair_taken : IsPairOf t pair
    pair_taken = subst (λ (u : Sizing). IsPairOf u pair) (sym stops.is) (record { first = stops.within.first; second = stops.within.second })

    pub work_taken : work_of t < work_of s
    work_taken = omega (arith, ap work_of stops.is, work_after s pair rests ok stops.within, ap (λ b. work_at b (size_at s pair)) stops.waited)

    followed_or_at : (xs : List (ℕ × ℕ)) (to : ℕ × ℕ) (n : ℕ) → ((x : ℕ × ℕ) → Contains xs x → IsPairOf s x) → IsFollowed s xs to n → IsFollowed taken xs to n ⊎ Contains xs pair
    followed_or_at xs to n inside f = ⊎_elim
        (λ l. inl (inl (omega (
          arith,
          l,
          same_sizes to,
          sum_falls (size_at s) (size_at taken) (λ y. omega (arith, same_sizes y)) xs,
        ))))
        (λ w. ⊎_elim
        (λ h. inr (subst (Contains xs) (same_pair s pair rests ok stops.within w.pair (inside w.pair w.has) h) w.has))
        (λ same. inl (inr (record { pair = w.pair; has = w.has; waits = ap (λ (m : Made). m.waits) same ∙ w.waits })))
        (here_or_same s pair rests ok stops.within w.pair))
        f

    pub followed_or_taken : (xs : List (ℕ × ℕ)) (to : ℕ × ℕ) (n : ℕ) → ((x : ℕ × ℕ) → Contains xs x → IsPairOf s x) → IsFollowed s xs to n → IsFollowed t xs to n ⊎ Contains xs pair
    followed_or_taken xs to n inside f = subst (λ (u : Sizing). IsFollowed u xs to n ⊎ Contains xs pair) (sym stops.is) (followed_or_at xs to n inside f)

  arguments_in : (s : Sizing) (left right : Trans) → IsSound both.first → IsSound both.second → HasSizes both s → Contains both.first.trans left → Contains both.second.trans right → length left.args ≡ length right.args → (x : ℕ × ℕ) → Contains (zip left.args right.args) x → IsPairOf s x
  arguments_in s left right first second has l r count x i =
      let k = i.0 in
      let in_left : k < length left.args = omega (arith, i.1, length-zip left.args right.args) in
      let in_right : k < length right.args = omega (arith, in_left, count) in
      let at : ◌≡◌ {A = ℕ × ℕ} (get_or left.args k 0, get_or right.args k 0) x = sym (get_or-zip left.args right.args k (0, 0) in_left in_right) ∙ (get_or_default (zip left.args right.args) k (0, 0) x i.1 ∙ i.2) in
      subst (IsPairOf s) at (argument_in both s left right k first second has l r count in_left)

  module _ (s t u v : Sizing) (pair : ℕ × ℕ) (first : IsSound both.first) (second : IsSound both.second) (has : HasSizes both s) (ok : IsSizing s) (stops : StopsWaiting s t pair) (epsilons : Lowers both t u) (transitions : Lowers both u v) where
    to_end : Lowers both t v
    to_end = lowers_on t u v epsilons transitions

    one_in : (x : ℕ × ℕ) → IsPairOf s x → (y : ℕ × ℕ) → Contains (x ∷ []) y → IsPairOf s y
    one_in x is y i = ⊎_elim (λ same. subst (IsPairOf s) same is) (λ no. absurd (none y no)) (parts x y [] i)

    -- an epsilon transition from one pair
    one_followed : (x to : ℕ × ℕ) → IsPairOf s x → IsFollowed s (x ∷ []) to 0 → (x ≡ pair → IsFollowed u (x ∷ []) to 0) → IsFollowed v (x ∷ []) to 0
    one_followed x to is before at = ⊎_elim
        (λ f. followed_later t v to_end (x ∷ []) to 0 f)
        (λ i. followed_later u v transitions (x ∷ []) to 0 (⊎_elim (λ same. at same) (λ no. absurd (none pair no)) (parts x pair [] i)))
        (followed_or_taken s t pair stops ok (x ∷ []) to 0 (one_in x is) before)

    pub followed_more : AreFollowed s → ((p : ℕ) → Contains both.first.eps (pair.0, p) → IsFollowed u (pair ∷ []) (p, pair.1) 0) → ((q : ℕ) → Contains both.second.eps (pair.1, q) → IsFollowed u (pair ∷ []) (pair.0, q) 0) →
        ((left right : Trans) → Contains both.first.trans left → Contains both.second.trans right → Contains (zip left.args right.args) pair → FollowedBy left right v) → AreFollowed v
    followed_more f firsts seconds enters = record {
      trans = λ left right l r same count. ⊎_elim
          (λ g. followed_later t v to_end (zip left.args right.args) (left.to, right.to) 1 g)
          (λ i. enters left right l r i same count)
          (followed_or_taken s t pair stops ok (zip left.args right.args) (left.to, right.to) 1 (arguments_in s left right first second has l r count) (f.trans left right l r same count));
      first = λ e i q j.
          let from = (All-contains (IsEpsOf both.first.states) both.first.eps e first.eps i).from in
          one_followed (e.0, q) (e.1, q) (pair_in both s has first second e.0 q from j) (f.first e i q j)
          (λ same. subst (λ (x : ℕ × ℕ). IsFollowed u (x ∷ []) (e.1, x.1) 0) (sym same) (firsts e.1 (subst (λ (x : ℕ × ℕ). Contains both.first.eps (x.0, e.1)) same i)));
      second = λ e i p j.
          let from = (All-contains (IsEpsOf both.second.states) both.second.eps e second.eps i).from in
          one_followed (p, e.0) (p, e.1) (pair_in both s has first second p e.0 j from) (f.second e i p j)
          (λ same. subst (λ (x : ℕ × ℕ). IsFollowed u (x ∷ []) (x.0, e.1) 0) (sym same) (seconds e.1 (subst (λ (x : ℕ × ℕ). Contains both.second.eps (x.1, e.1)) same i)));
    }

  pub followed_ends : (s : Sizing) → AreFollowed s → ((pair : ℕ × ℕ) → waits_at s pair ≡ false) → AreSettled both s
  followed_ends s f rest = record {
    trans = λ left right l r same count. is (zip left.args right.args) (left.to, right.to) 1 (f.trans left right l r same count);
    first = λ e i q j. omega (arith, is ((e.0, q) ∷ []) (e.1, q) 0 (f.first e i q j), sum_first (size_at s) (e.0, q) []);
    second = λ e i p j. omega (arith, is ((p, e.0) ∷ []) (p, e.1) 0 (f.second e i p j), sum_first (size_at s) (p, e.0) []);
  }
    where
      is : (xs : List (ℕ × ℕ)) (pair : ℕ × ℕ) (n : ℕ) → IsFollowed s xs pair n → size_at s pair ≤ sum (map (size_at s) xs) + n
      is xs pair n g = ⊎_elim (λ l. l) (λ w. absurd (true≢false (sym w.waits ∙ rest w.pair))) g

-- ---- a place that waits

module _ (s : Sizing) (ok : IsSizing s) (place : ℕ) (waits : waits_in s.made place ≡ true) where
  pub place_within : place < length s.made
  place_within = ⊎_elim (λ l. l) (λ h. absurd (true≢false (sym waits ∙ ap (λ (m : Made). m.waits) (get_or_past s.made place unmade h)))) (cases_lt place (length s.made))

  pub place_wide : 0 < s.width
  place_wide = go s.width refl
    where
      go : (w : ℕ) → s.width ≡ w → 0 < s.width
      go zero e = absurd (omega (arith, place_within, ok.full, ap (λ w. s.height * w) e))
      go (suc w) e = omega (arith, e)

  abbrev pub pair_of : ℕ × ℕ
  pair_of = (place / s.width, place % s.width)

  is_place : pair_of.0 * s.width + pair_of.1 ≡ place
  is_place = omega (arith, div-add-mod place s.width)

  pub pair_within : IsPairOf s pair_of
  pair_within =
      let w = place_wide in
      let second : place % s.width < s.width = omega arith in
      let first : place / s.width < s.height = ⊎_elim (λ l. l) (λ h. absurd (omega (arith, mul-le-mul_right s.width h, div-add-mod place s.width, place_within, ok.full))) (cases_lt (place / s.width) s.height) in
      record { first = first; second = second }

  -- it no longer waits
  pub place_stops : (made : Made) → made ≡ get_or s.made place made → StopsWaiting s (record s { made = set s.made place (record made { waits = false }) }) pair_of
  place_stops made is = record {
    within = pair_within;
    waited = ap (λ n. waits_in s.made n) is_place ∙ waits;
    is = ap (λ (m : Made). record s { made = set s.made place (record m { waits = false }) }) here_made ∙ ap (λ n. record s { made = set s.made n (record (made_at s pair_of) { waits = false }) }) (sym is_place);
  }
    where
      here_made : made ≡ made_at s pair_of
      here_made = is ∙ (get_or_default s.made place made unmade place_within ∙ ap (λ n. get_or s.made n unmade) (sym is_place))

pub none_waits : (s : Sizing) → ((place : ℕ) → waits_in s.made place ≡ false) → (pair : ℕ × ℕ) → waits_at s pair ≡ false
none_waits s none pair = none (pair.0 * s.width + pair.1)
