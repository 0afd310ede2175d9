-- The list of open pairs: that there is one, what is in it, in which order, and its head.
use Rattle.std.proofs.Common.{◌≡◌, ◌⊎◌, List, [], ◌∷◌, ◌++◌, All, Contains, refl, ap, subst, inl, inr, ⊎_elim}
use Rattle.std.specs.declared.cmp.Ordering.TheVariants.{Less}
use Rattle.std.specs.Ordering.{nat_cmp}
use Rattle.std.specs.Cmp.{IsTotalOrder}
use Rattle.std.specs.List.Sorted.{IsStrictlySortedBy}
use Rattle.std.proofs.lemmas.Cmp.{nat_cmp_total, nat_list_cmp_total, then_total, on_total}
use Rattle.std.proofs.lemmas.List.Elements.{All-nil, All-cons, All-head, All-tail, All-contains, All-from_recursion, recursion_from_All}
use Rattle.list_laws.specs.Listings.{IsListing, IsFirst}
use Rattle.list_laws.proofs.Listings.{listing_one, listing_front, longer_if_more}
use Rattle.trs_rules.specs.Rules.{RewriteRule}
use Rattle.trs_rules.specs.declared.sigma.Pair.{Pair}
use Rattle.ta_core.specs.TreeAutomaton.{TreeAutomaton}
use Rattle.ta_core.specs.Closure.{Closed, IsTriple, IsOpen, IsOpenTriple, IsSettled, OpenAmong, AreOpenPairs, IsFirstOpen, assigned_by, triples_from}
use Rattle.ta_core.specs.ClosureLaws.{pair_order, TriplesAreDecided, OpenPairsAreListed, OpenPairsAreOpenTriples, OpenPairsAreListing, FirstOpenIsHead, ClosedOrFirstOpen, FrontsBeginOpenPairs, MoreOpenAreLonger}
use Rattle.ta_core.proofs.closure.Ascending.{triples_ascend}
use Rattle.ta_core.proofs.Decided.{runs_are_decided}
use Rattle.list_laws.proofs.Members.{all_from_members, here, there, none, parts}
use Rattle.ta_core.proofs.closure.OpenPairs.{not_both, triples_are_all, closed_has_no_open_pair}

pub pair_order_total : IsTotalOrder pair_order
pair_order_total = then_total (on_total (λ (x : Pair). x.rule) nat_cmp_total) (then_total (on_total (λ (x : Pair). x.sigma) nat_list_cmp_total) (on_total (λ (x : Pair). x.state) nat_cmp_total))

-- ---- open or settled

pub triples_are_decided : TriplesAreDecided
triples_are_decided A R pair t =
    ⊎_elim
    (λ right. inr (record { rule = t.rule; is_rule = t.is_rule; follows = λ left. right }))
    (λ no_right. ⊎_elim
    (λ left. inl (record { rule = t.rule; is_rule = t.is_rule; left = left; right = no_right }))
    (λ no_left. inr (record { rule = t.rule; is_rule = t.is_rule; follows = λ left. absurd (no_left left) }))
    (runs_are_decided A (assigned_by t.rule pair.sigma t.rule.left) pair.state))
    (runs_are_decided A (assigned_by t.rule pair.sigma t.rule.right) pair.state)

module _ (A : TreeAutomaton) (R : List RewriteRule) where
  opens_among : (pairs : List Pair) → ((pair : Pair) → Contains pairs pair → IsTriple A R pair) → (opens : List Pair) × OpenAmong A R pairs opens
  opens_among [] triples = ([], OpenAmong.none)
  opens_among (pair ∷ pairs) triples =
      let rest = opens_among pairs (λ x c. triples x (there pair x pairs c)) in
      ⊎_elim (λ o. (pair ∷ rest.0, OpenAmong.open_one o rest.1)) (λ s. (rest.0, OpenAmong.settled_one s rest.1)) (triples_are_decided A R pair (triples pair (here pair pairs)))

  -- ---- members

  was_open : {pairs opens : List Pair} → OpenAmong A R pairs opens → (x : Pair) → Contains opens x → Contains pairs x × IsOpen A R x
  was_open OpenAmong.none x c = absurd (none x c)
  was_open (OpenAmong.open_one {pair = pair} {pairs = pairs} {opens = opens} o a) x c =
      ⊎_elim (λ same. (subst (Contains (pair ∷ pairs)) same (here pair pairs), subst (IsOpen A R) same o)) (λ later. let h = was_open a x later in (there pair x pairs h.0, h.1)) (parts pair x opens c)
  was_open (OpenAmong.settled_one {pair = pair} {pairs = pairs} s a) x c = let h = was_open a x c in (there pair x pairs h.0, h.1)

  is_among : {pairs opens : List Pair} → OpenAmong A R pairs opens → (x : Pair) → Contains pairs x → IsOpen A R x → Contains opens x
  is_among OpenAmong.none x c o = absurd (none x c)
  is_among (OpenAmong.open_one {pair = pair} {pairs = pairs} {opens = opens} p a) x c o =
      ⊎_elim (λ same. subst (Contains (pair ∷ opens)) same (here pair opens)) (λ later. there pair x opens (is_among a x later o)) (parts pair x pairs c)
  is_among (OpenAmong.settled_one {pair = pair} {pairs = pairs} s a) x c o =
      ⊎_elim (λ same. absurd (not_both A R x o (subst (IsSettled A R) same s))) (λ later. is_among a x later o) (parts pair x pairs c)

  -- ---- order

  among_ascends : {pairs opens : List Pair} → OpenAmong A R pairs opens → IsStrictlySortedBy pair_order pairs → IsStrictlySortedBy pair_order opens
  unfolding IsStrictlySortedBy
  among_ascends OpenAmong.none s = s
  among_ascends (OpenAmong.open_one {pair = pair} {pairs = pairs} {opens = opens} o a) s =
      let above = All-from_recursion (λ y. pair_order pair y ≡ Less) pairs s.0 in
      (recursion_from_All (λ y. pair_order pair y ≡ Less) opens (all_from_members (λ y. pair_order pair y ≡ Less) opens (λ x c. All-contains (λ y. pair_order pair y ≡ Less) pairs x above (was_open a x c).0)), among_ascends a s.1)
  among_ascends (OpenAmong.settled_one s' a) s = among_ascends a s.1

  -- ---- the head

  head_of : (before after opens : List Pair) (pair : Pair) → All (IsSettled A R) before → IsOpen A R pair → OpenAmong A R (before ++ pair ∷ after) opens → (rest : List Pair) × (opens ≡ pair ∷ rest)
  head_of [] after _ pair settled o (OpenAmong.open_one {opens = rest} p a) = (rest, refl)
  head_of [] after opens pair settled o (OpenAmong.settled_one s a) = absurd (not_both A R pair o s)
  head_of (x ∷ before) after _ pair settled o (OpenAmong.open_one p a) = absurd (not_both A R x p (All-head (IsSettled A R) x before settled))
  head_of (x ∷ before) after opens pair settled o (OpenAmong.settled_one s a) = head_of before after opens pair (All-tail (IsSettled A R) x before settled) o a

  first_of : {pairs opens : List Pair} → OpenAmong A R pairs opens → (pair : Pair) (rest : List Pair) → opens ≡ pair ∷ rest → IsFirst (IsOpen A R) (IsSettled A R) pairs pair
  first_of OpenAmong.none pair rest e = cc
  first_of (OpenAmong.open_one {pair = x} {pairs = pairs} o a) pair rest e =
      let same : x ≡ pair = cc in
      record { before = []; after = pairs; splits = ap (λ y. y ∷ pairs) same; is = subst (IsOpen A R) same o; earlier = All-nil (IsSettled A R) }
  first_of (OpenAmong.settled_one {pair = x} {pairs = pairs} s a) pair rest e =
      let f = first_of a pair rest e in
      record { before = x ∷ f.before; after = f.after; splits = ap (λ l. x ∷ l) f.splits; is = f.is; earlier = All-cons (IsSettled A R) x f.before s f.earlier }

-- ---- the laws

pub open_pairs_are_listed : OpenPairsAreListed
open_pairs_are_listed A R = opens_among A R (triples_from A 0 R) (λ pair c. (triples_are_all A R pair).0 c)

pub open_pairs_are_open_triples : OpenPairsAreOpenTriples
open_pairs_are_open_triples A R pairs a pair = (
  λ c. let h = was_open A R a pair c in record { triple = (triples_are_all A R pair).0 h.0; is_open = h.1 },
  λ t. is_among A R a pair ((triples_are_all A R pair).1 t.triple) t.is_open,
)

is_listing : (A : TreeAutomaton) (R : List RewriteRule) (pairs : List Pair) → IsStrictlySortedBy nat_cmp A.states → AreOpenPairs A R pairs → IsListing pair_order (IsOpenTriple A R) pairs
is_listing A R pairs s a = record { ascends = among_ascends A R a (triples_ascend A R s); exact = open_pairs_are_open_triples A R pairs a }

pub open_pairs_are_listing : OpenPairsAreListing
open_pairs_are_listing A R pairs s = (
  is_listing A R pairs s,
  λ l. let all = open_pairs_are_listed A R in subst (AreOpenPairs A R) (listing_one pair_order_total all.0 pairs (is_listing A R all.0 s all.1) l) all.1,
)

pub first_open_is_head : FirstOpenIsHead
first_open_is_head A R pair pairs a = (
  λ f. head_of A R f.before f.after pairs pair f.earlier f.is (subst (λ l. OpenAmong A R l pairs) f.splits a),
  λ h. first_of A R a pair h.0 h.1,
)

pub closed_or_first_open : ClosedOrFirstOpen
closed_or_first_open A R sound rules = go (open_pairs_are_listed A R)
  where
    go : (pairs : List Pair) × AreOpenPairs A R pairs → Closed A R ⊎ ((pair : Pair) × IsFirstOpen A R pair)
    go ([], a) = inl ((closed_has_no_open_pair A R sound rules).1 a)
    go (pair ∷ rest, a) = inr (pair, first_of A R a pair rest refl)

pub fronts_begin_open_pairs : FrontsBeginOpenPairs
fronts_begin_open_pairs A R xs pairs s f a = listing_front pair_order_total xs pairs f (is_listing A R pairs s a)

pub more_open_are_longer : MoreOpenAreLonger
more_open_are_longer A R n pairs many a = longer_if_more n pairs (λ pair t. (open_pairs_are_open_triples A R pairs a pair).1 t) many
