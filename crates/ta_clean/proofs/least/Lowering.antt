-- What two transitions make, or an epsilon transition.
use Rattle.std.proofs.Common.{◌≡◌, ℕ, ◌+◌, ◌<◌, true, length, Some, slice_get, List, Contains, subst, arith}
use Rattle.std.proofs.lemmas.List.Elements.{All-contains, Contains-get_or}
use Rattle.std.proofs.lemmas.Option.{slice_get_within, get_or_from_slice_get}
use Rattle.ta_core.specs.TreeAutomaton.{TreeAutomaton, IsSound, IsTransOf, IsEpsOf}
use Rattle.ta_core.specs.declared.trans.Trans.{Trans}
use Rattle.ta_core.specs.Runs.{Reaches}
use Rattle.ta_clean.specs.Products.{TwoAutomata}
use Rattle.ta_clean.specs.Sizes.{Sizing, IsSizing, IsPairOf, IsMadeBy, AreMade, HasSizes, made_at, size_at, sum_at}
use Rattle.ta_clean.specs.declared.sizes.Made.{Made}
use Rattle.ta_clean.proofs.least.Sizing.{capped_at}

-- the transition at a place is one of the list
pub at_contains : {X : Type 0} (xs : List X) (k : ℕ) (x : X) → slice_get xs k ≡ Some x → Contains xs x
at_contains xs k x at = subst (Contains xs) (get_or_from_slice_get xs k x x at) (Contains-get_or xs k x (slice_get_within xs k x at))

abbrev pub made_of : ℕ → ℕ → ℕ → Made
made_of size k j = record { size = size; waits = true; left = k; right = j }

pub state_below : (A : TreeAutomaton) → IsSound A → (q : ℕ) → Contains A.states q → q < A.next
state_below A sound q i = All-contains (λ q. q < A.next) A.states q sound.below i

module _ (both : TwoAutomata) (old : Sizing) (has : HasSizes both old) (first : IsSound both.first) (second : IsSound both.second) where
  pub pair_in : (p q : ℕ) → Contains both.first.states p → Contains both.second.states q → IsPairOf old (p, q)
  pair_in p q i j = record { first = omega (arith, state_below both.first first p i, has.first); second = omega (arith, state_below both.second second q j, has.second) }

  pub targets_in : (left right : Trans) → Contains both.first.trans left → Contains both.second.trans right → IsPairOf old (left.to, right.to)
  targets_in left right l r = pair_in left.to right.to (All-contains (IsTransOf both.first.states) both.first.trans left first.trans l).to (All-contains (IsTransOf both.second.states) both.second.trans right second.trans r).to

  module _ (ok : IsSizing old) where
    -- what two transitions make
    pub two_made : (left right : Trans) (k j size : ℕ) → slice_get both.first.trans k ≡ Some left → slice_get both.second.trans j ≡ Some right → left.sym ≡ right.sym → length left.args ≡ length right.args →
        (size < 1025 → size ≡ sum_at old left.args right.args + 1) → size < size_at old (left.to, right.to) → IsMadeBy both old (left.to, right.to) (made_of size k j)
    two_made left right k j size at_left at_right same count small less = record {
      left = left;
      right = right;
      at_left = at_left;
      at_right = at_right;
      same = same;
      count = count;
      first = Reaches.here;
      second = Reaches.here;
      small = let is = small (omega (arith, less, capped_at old ok (left.to, right.to))) in omega (arith, is);
    }

-- ---- epsilon transitions from a pair

module _ (both : TwoAutomata) (old : Sizing) (p q : ℕ) (within : IsPairOf old (p, q)) where
  module _ (has : HasSizes both old) (to : ℕ) where
    pub first_in : IsSound both.first → Contains both.first.eps (p, to) → IsPairOf old (to, q)
    first_in first i =
        let e = All-contains (IsEpsOf both.first.states) both.first.eps (p, to) first.eps i in
        record { first = omega (arith, state_below both.first first to e.to, has.first); second = within.second }

    pub second_in : IsSound both.second → Contains both.second.eps (q, to) → IsPairOf old (p, to)
    second_in second i =
        let e = All-contains (IsEpsOf both.second.states) both.second.eps (q, to) second.eps i in
        record { first = within.first; second = omega (arith, state_below both.second second to e.to, has.second) }

  module _ (ok : IsSizing old) (all : AreMade both old) (to : ℕ) where
    -- what makes a pair makes those to which an epsilon transition leads from it
    pub first_made : Contains both.first.eps (p, to) → size_at old (p, q) < size_at old (to, q) → IsMadeBy both old (to, q) (made_at old (p, q))
    first_made i less =
        let m = all (p, q) within (omega (arith, less, capped_at old ok (to, q))) in
        record { left = m.left; right = m.right; at_left = m.at_left; at_right = m.at_right; same = m.same; count = m.count; first = Reaches.on m.first i; second = m.second; small = m.small }

    pub second_made : Contains both.second.eps (q, to) → size_at old (p, q) < size_at old (p, to) → IsMadeBy both old (p, to) (made_at old (p, q))
    second_made i less =
        let m = all (p, q) within (omega (arith, less, capped_at old ok (p, to))) in
        record { left = m.left; right = m.right; at_left = m.at_left; at_right = m.at_right; same = m.same; count = m.count; first = m.first; second = Reaches.on m.second i; small = m.small }
