-- Lists of uses: how they are made, and what is at a key of one that ascends.
use Rattle.std.proofs.Common.{◌≡◌, ◌↔◌, ◌⊎◌, ℕ, ◌+◌, ◌<◌, ◌≤◌, false, ltb, leb, List, [], ◌∷◌, ◌++◌, length, get_or, Option, Some, slice_get, Contains, refl, sym, ap, subst, ◌∙◌, inl, inr, ⊎_elim, arith}
use Rattle.std.specs.declared.cmp.Ordering.{Ordering}
use Rattle.std.specs.declared.cmp.Ordering.TheVariants.{Less, Equal, Greater}
use Rattle.std.specs.Ordering.{nat_cmp, ordering_then, ordering_index, is_lt, is_le}
use Rattle.std.specs.Cmp.{IsTotalOrder}
use Rattle.std.specs.List.Sorted.{IsNonDecreasingBy, IsPermutation}
use Rattle.std.proofs.lemmas.Bool.{cases_lt}
use Rattle.std.proofs.lemmas.Cmp.{nat_cmp_total, on_total, then_total, tied_itself}
use Rattle.std.proofs.lemmas.List.Elements.{Contains-append_left, Contains-push, Contains-push_cases, Contains-get_or}
use Rattle.std.proofs.lemmas.List.Sorted.{searchable_from_sorted, IsNonDecreasingBy-from_sort, Contains-permutation, IsPermutation-sym}
use Rattle.std.proofs.lemmas.Map.Lookups.{CmpEqualImpliesEq, exact_unsigned, exact_pairs}
use Rattle.std.proofs.lemmas.Option.{slice_get_within, slice_get-get_or, get_or_from_slice_get}
use Rattle.ta_core.specs.declared.trans.Trans.{Trans}
use Rattle.ta_clean.specs.declared.meeting.uses.Slot.{Slot}
use Rattle.ta_clean.specs.declared.meeting.uses.Use.{Use}
use Rattle.ta_clean.specs.Slots.{slot_cmp, AscendBySlot}
use Rattle.ta_clean.specs.Uses.{IsUseIn, IsUseOf, AreUsesOf}

-- ---- all uses in a transition, and in a list

-- the uses at the first places of the transition are added
abbrev pub HasUsesBelow : List Use → ℕ → Trans → ℕ → List Use → Type 0
HasUsesBelow old position trans k all = (used : Use) → Contains all used ↔ (Contains old used ⊎ ((used.position ≡ position) × IsUseIn trans used × (used.slot.place < k)))

-- the uses in the first transitions
abbrev pub HasUsesBefore : List Trans → ℕ → List Use → Type 0
HasUsesBefore trans k all = (used : Use) → Contains all used ↔ (IsUseOf trans used × (used.position < k))

-- a use of these parts
abbrev pub use_of : ℕ → ℕ → ℕ → ℕ → Use
use_of state sym place position = record { slot = record { state = state; sym = sym; place = place }; position = position }

pub same_some : {X : Type 0} {o : Option X} (x y : X) → o ≡ Some x → o ≡ Some y → x ≡ y
same_some x y e f = cc

-- the use at the next place
pub uses_more : (old all new : List Use) (position : ℕ) (trans : Trans) (k state : ℕ) → slice_get trans.args k ≡ Some state → HasUsesBelow old position trans k all →
    new ≡ all ++ use_of state trans.sym k position ∷ [] → HasUsesBelow old position trans (k + 1) new
uses_more old all new position trans k state at h is used =
    let u = use_of state trans.sym k position in
    let fits : IsUseIn trans u = record { sym = refl; state = at } in
    rw is (
      λ c. ⊎_elim
          (λ i. ⊎_elim (λ o. inl o) (λ b. inr (b.0, b.1, omega (arith, b.2))) ((h used).0 i))
          (λ same. inr (ap (λ (v : Use). v.position) (sym same), subst (IsUseIn trans) same fits, omega (arith, ap (λ (v : Use). v.slot.place) same)))
          (Contains-push_cases all u used c),
      λ either. ⊎_elim
          (λ o. Contains-append_left all (u ∷ []) used ((h used).1 (inl o)))
          (λ b. ⊎_elim
          (λ below. Contains-append_left all (u ∷ []) used ((h used).1 (inr (b.0, b.1, below))))
          (λ last.
          let place : k ≡ used.slot.place = omega (arith, last, b.2) in
          let there : state ≡ used.slot.state = same_some state used.slot.state (sym (ap (λ n. slice_get trans.args n) place) ∙ at) b.1.state in
          let same : u ≡ used = λ i. use_of (there i) (b.1.sym i) (place i) (sym b.0 i) in
          subst (Contains (all ++ u ∷ [])) same (Contains-push all u))
          (cases_lt used.slot.place k))
          either,
    )

-- the uses at all places
pub uses_end : (old all : List Use) (position : ℕ) (trans : Trans) (k : ℕ) → length trans.args ≤ k → HasUsesBelow old position trans k all →
    (used : Use) → Contains all used ↔ (Contains old used ⊎ ((used.position ≡ position) × IsUseIn trans used))
uses_end old all position trans k l h used = (
  λ c. ⊎_elim (λ o. inl o) (λ b. inr (b.0, b.1)) ((h used).0 c),
  λ either. (h used).1 (⊎_elim (λ o. inl o) (λ b. inr (b.0, b.1, omega (arith, l, slice_get_within trans.args used.slot.place used.slot.state b.1.state))) either),
)

-- the uses in the next transition
pub uses_before_more : (trans : List Trans) (k : ℕ) (t : Trans) (all new : List Use) → slice_get trans k ≡ Some t → HasUsesBefore trans k all →
    ((used : Use) → Contains new used ↔ (Contains all used ⊎ ((used.position ≡ k) × IsUseIn t used))) → HasUsesBefore trans (k + 1) new
uses_before_more trans k t all new at h adds used = (
  λ c. ⊎_elim
      (λ i. let b = (h used).0 i in (b.0, omega (arith, b.1)))
      (λ b. (record { trans = t; at = ap (λ n. slice_get trans n) b.0 ∙ at; is = b.1 }, omega (arith, b.0)))
      ((adds used).0 c),
  λ b. (adds used).1 (⊎_elim
      (λ below. inl ((h used).1 (b.0, below)))
      (λ last.
      let place : used.position ≡ k = omega (arith, last, b.1) in
      let same : b.0.trans ≡ t = same_some b.0.trans t (sym (ap (λ n. slice_get trans n) place) ∙ b.0.at) at in
      inr (place, subst (λ t. IsUseIn t used) same b.0.is))
      (cases_lt used.position k)),
)

-- the uses in all transitions, in any order
pub uses_all : (trans : List Trans) (k : ℕ) (all moved : List Use) → length trans ≤ k → HasUsesBefore trans k all → IsPermutation all moved → AreUsesOf trans moved
uses_all trans k all moved l h permutation used = (
  λ c. ((h used).0 (Contains-permutation moved all used (IsPermutation-sym all moved permutation) c)).0,
  λ is. Contains-permutation all moved used permutation ((h used).1 (is, omega (arith, l, slice_get_within trans used.position is.trans is.at))),
)

-- ---- orders

first_not_less : (r s : Ordering) → is_lt (ordering_then r s) ≡ false → is_lt r ≡ false
first_not_less Less s e = e
first_not_less Equal s e = refl
first_not_less Greater s e = refl

-- uses that ascend by slot do so by state
pub states_ascend : (uses : List Use) → AscendBySlot uses → IsNonDecreasingBy (λ (used : Use). used.slot.state) uses
states_ascend uses s = IsNonDecreasingBy-from_sort (λ (used : Use). used.slot.state) uses (λ k d low high. first_not_less _ _ (s k d low high))

slot_total : IsTotalOrder slot_cmp
slot_total = then_total (on_total (λ (s : Slot). s.state) nat_cmp_total) (then_total (on_total (λ (s : Slot). s.sym) nat_cmp_total) (on_total (λ (s : Slot). s.place) nat_cmp_total))

-- the last two parts
rest_exact : CmpEqualImpliesEq (λ (a b : ℕ × ℕ). ordering_then (nat_cmp a.0 b.0) (nat_cmp a.1 b.1))
rest_exact = exact_pairs nat_cmp nat_cmp exact_unsigned exact_unsigned

slot_exact : CmpEqualImpliesEq slot_cmp
slot_exact a b h =
    ap (λ (p : ℕ × (ℕ × ℕ)). (use_of p.0 p.1.0 p.1.1 0).slot)
    (exact_pairs nat_cmp (λ (a b : ℕ × ℕ). ordering_then (nat_cmp a.0 b.0) (nat_cmp a.1 b.1)) exact_unsigned rest_exact (a.state, (a.sym, a.place)) (b.state, (b.sym, b.place)) h)

-- where a slot stands to another one
abbrev pub standing : Slot → Use → ℕ
standing slot used = ordering_index (slot_cmp used.slot slot)

pub standings_ascend : (uses : List Use) (slot : Slot) → AscendBySlot uses → IsNonDecreasingBy (standing slot) uses
standings_ascend uses slot s = searchable_from_sorted slot_total (λ (used : Use). used.slot) uses slot s

pub is_less : (o : Ordering) → is_lt o ≡ ltb (ordering_index o) 1
is_less Less = refl
is_less Equal = refl
is_less Greater = refl

pub is_at_most : (o : Ordering) → is_le o ≡ leb (ordering_index o) 1
is_at_most Less = refl
is_at_most Equal = refl
is_at_most Greater = refl

is_equal : (o : Ordering) → ordering_index o ≡ 1 → o ≡ Equal
is_equal Less e = absurd (omega arith)
is_equal Equal e = refl
is_equal Greater e = absurd (omega arith)

-- it is the same one
pub stands_at : (slot : Slot) (used : Use) → (standing slot used ≡ 1) ↔ (used.slot ≡ slot)
stands_at slot used = (
  λ e. slot_exact used.slot slot (is_equal (slot_cmp used.slot slot) e),
  λ same. ap (λ s. ordering_index (slot_cmp s slot)) same ∙ ap ordering_index (tied_itself slot_total slot),
)

-- uses at a standing are those at the slot
pub at_standing : (slot : Slot) (all part : List Use) → ((used : Use) → Contains part used ↔ (Contains all used × (standing slot used ≡ 1))) → (used : Use) → Contains part used ↔ (Contains all used × (used.slot ≡ slot))
at_standing slot all part h used = (λ c. let b = (h used).0 c in (b.0, (stands_at slot used).0 b.1), λ b. (h used).1 (b.0, (stands_at slot used).1 b.1))

-- what is known of one of the uses at a slot
pub record IsUseAt (all : List Trans) (slot : Slot) (used : Use) : Type 0 where
  pub is : IsUseOf all used
  pub at : used.slot ≡ slot

pub slot_use : (all : List Trans) (uses items : List Use) (slot : Slot) → AreUsesOf all uses → ((used : Use) → Contains items used ↔ (Contains uses used × (used.slot ≡ slot))) → (k : ℕ) (d : Use) → k < length items → IsUseAt all slot (get_or items k d)
slot_use all uses items slot are members k d l =
    let used = get_or items k d in
    let has = (members used).0 (Contains-get_or items k d l) in
    record { is = (are used).0 has.0; at = has.1 }

-- the transition at a use's position, in a list that was read
pub used_trans : (trans read : List Trans) (used : Use) (t : Trans) → read ≡ trans → IsUseOf trans used → t ≡ get_or read used.position t → slice_get trans used.position ≡ Some t
used_trans trans read used t same is e =
    slice_get-get_or trans used.position t (slice_get_within trans used.position is.trans is.at) ∙ ap Some (sym (e ∙ ap (λ (l : List Trans). get_or l used.position t) same))

-- it is one of the list, and has the use's symbol
pub used_in : (trans : List Trans) (used : Use) (t : Trans) → slice_get trans used.position ≡ Some t → Contains trans t
used_in trans used t at = subst (Contains trans) (get_or_from_slice_get trans used.position t t at) (Contains-get_or trans used.position t (slice_get_within trans used.position t at))

pub used_sym : (trans : List Trans) (used : Use) (t : Trans) → IsUseOf trans used → slice_get trans used.position ≡ Some t → t.sym ≡ used.slot.sym
used_sym trans used t is e = ap (λ (t : Trans). t.sym) (same_some t is.trans e is.at) ∙ is.is.sym

-- it stands before the end of the list that was read
pub used_within : (trans read : List Trans) (used : Use) → read ≡ trans → IsUseOf trans used → used.position < length read
used_within trans read used same is = subst (λ (l : List Trans). used.position < length l) (sym same) (slice_get_within trans used.position is.trans is.at)

-- transitions at uses of one symbol have it both
pub same_sym : (lefts rights : List Trans) (used other : Use) (left right : Trans) → IsUseOf lefts used → IsUseOf rights other → slice_get lefts used.position ≡ Some left → slice_get rights other.position ≡ Some right → other.slot.sym ≡ used.slot.sym → left.sym ≡ right.sym
same_sym lefts rights used other left right is_used is_other at_left at_right same = used_sym lefts used left is_used at_left ∙ sym (used_sym rights other right is_other at_right ∙ same)
