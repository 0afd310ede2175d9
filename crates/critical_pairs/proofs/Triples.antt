-- From the open pairs of each rule to all open triples.
use Rattle.std.proofs.Common.{◌≡◌, ◌⊎◌, ◌↔◌, ◌<◌, ◌≤◌, ◌+◌, ℕ, List, [], ◌++◌, length, slice_get, get_or, Some, Result, Err, refl, sym, ap, ◌∙◌, subst, inl, inr, ⊎_elim, Contains, arith}
use Rattle.std.specs.declared.cmp.Ordering.TheVariants.{Less}
use Rattle.std.specs.Ordering.{nat_cmp, ordering_then}
use Rattle.std.specs.Cmp.{IsTotalOrder, nat_cmp_is}
use Rattle.std.proofs.lemmas.Cmp.{nat_cmp_total, nat_list_cmp_total, then_total, on_total}
use Rattle.std.specs.Cmp.Lexicographic.{slice_cmp}
use Rattle.std.specs.List.Sorted.{IsStrictlySortedBy}
use Rattle.std.proofs.Math.Nat.{eq-or-lt_of_le}
use Rattle.std.proofs.lemmas.List.Elements.{Contains-append_cases}
use Rattle.std.proofs.lemmas.Option.{slice_get_within, slice_get_read}
use Rattle.std.specs.Result.{IsErrAnd, IsErrOf}
use Rattle.std.proofs.lemmas.Result.{err_from_is_err_and}
use Rattle.list_laws.specs.Listings.{IsListing, HasMoreThan}
use Rattle.list_laws.proofs.Listings.{distinct_if_ascends}
use Rattle.trs_rules.specs.Rules.{RewriteRule}
use Rattle.trs_rules.specs.declared.sigma.Pair.{Pair}
use Rattle.ta_core.specs.TreeAutomaton.{TreeAutomaton, IsSound}
use Rattle.ta_core.specs.Runs.{Runs}
use Rattle.ta_core.specs.Closure.{IsOpenTriple, AreOpenPairs, assigned_by}
use Rattle.ta_core.specs.ClosureLaws.{pair_order, OpenPairsAreListed, OpenPairsAreListing, MoreOpenAreLonger}
use Rattle.list_laws.proofs.Ascending.{ascends-append}
use Rattle.list_laws.proofs.Places.{nothing_ascends}
use Rattle.ta_core.specs.lemmas.RunsLaws.{run_ends}
use Rattle.critical_pairs.specs.Opens.{Setting, IsOpenOf, AddsAll, ExceedsWith}
use Rattle.critical_pairs.proofs.Joined.{listing_none, listing_by, listing_append}

pub rule_at : (R : List RewriteRule) (i : ℕ) (rule : RewriteRule) → i < length R → rule ≡ get_or R i rule → slice_get R i ≡ Some rule
rule_at R i rule l e = slice_get_read R (length R) i rule refl l e

-- the error that was passed on
pub same_error : {T U E : Type 0} (r : Result T E) (e x : E) → r ≡ Err e → IsErrAnd r (λ y. y ≡ x) → IsErrOf {T = U} {E = E} (Err x) e
same_error r e x is passed = let h = err_from_is_err_and r passed in let a = h.1 in let b = h.2 in cc

pair_order_total : IsTotalOrder pair_order
pair_order_total = then_total (on_total (λ (x : Pair). x.rule) nat_cmp_total) (then_total (on_total (λ (x : Pair). x.sigma) nat_list_cmp_total) (on_total (λ (x : Pair). x.state) nat_cmp_total))

abbrev pub setting_of : TreeAutomaton → ℕ → RewriteRule → Setting
setting_of A i rule = record { automaton = A; number = i; rule = rule }

-- an open triple of one of the first rules
pub record IsOpenBefore (A : TreeAutomaton) (R : List RewriteRule) (i : ℕ) (pair : Pair) : Type 0 where
  is : IsOpenTriple A R pair
  early : pair.rule < i

-- the open triples of the first rules, at most as many as the limit
pub record AreOpenBefore (A : TreeAutomaton) (R : List RewriteRule) (limit i : ℕ) (pairs : List Pair) : Type 0 where
  pub are : IsListing pair_order (IsOpenBefore A R i) pairs
  pub few : length pairs ≤ limit

pub none_before : (A : TreeAutomaton) (R : List RewriteRule) (limit : ℕ) (pairs : List Pair) → pairs ≡ [] → AreOpenBefore A R limit 0 pairs
none_before A R limit pairs e = subst (AreOpenBefore A R limit 0) (sym e) (record { are = listing_none (nothing_ascends pair_order) (λ x o. absurd (omega (arith, o.early))); few = omega arith })

module _ (A : TreeAutomaton) (R : List RewriteRule) (i : ℕ) (rule : RewriteRule) (is_rule : slice_get R i ≡ Some rule) where
  -- a pair of this rule is an open triple
  triple : IsSound A → (x : Pair) → IsOpenOf (setting_of A i rule) x → IsOpenTriple A R x
  triple sound x o =
      let at : slice_get R x.rule ≡ Some rule = ap (slice_get R) o.number ∙ is_rule in
      record {
        triple = record { rule = rule; is_rule = at; each_variable = o.left.each_variable; are_states = o.left.are_states; is_state = run_ends sound o.left.runs };
        is_open = record { rule = rule; is_rule = at; left = o.left.runs; right = o.right };
      }

  same_rule : (x : Pair) → x.rule ≡ i → (other : RewriteRule) → slice_get R x.rule ≡ Some other → other ≡ rule
  same_rule x e other h = let k : Some other ≡ Some rule = sym h ∙ (ap (slice_get R) e ∙ is_rule) in cc

  -- an open triple of this number is a pair of this rule
  of_rule : (x : Pair) → x.rule ≡ i → IsOpenTriple A R x → IsOpenOf (setting_of A i rule) x
  of_rule x e t =
      let same = same_rule x e t.triple.rule t.triple.is_rule in
      let open_same = same_rule x e t.is_open.rule t.is_open.is_rule in
      record {
        number = e;
        left = record {
          each_variable = subst (λ r. length x.sigma ≡ length r.vars) same t.triple.each_variable;
          are_states = t.triple.are_states;
          runs = subst (λ r. Runs A (assigned_by r x.sigma r.left) x.state) open_same t.is_open.left;
        };
        right = subst (λ r. Runs A (assigned_by r x.sigma r.right) x.state → ⊥) open_same t.is_open.right;
      }

  split : IsSound A → (x : Pair) → (IsOpenBefore A R i x ⊎ IsOpenOf (setting_of A i rule) x) ↔ IsOpenBefore A R (i + 1) x
  split sound x = (
    ⊎_elim (λ b. record { is = b.is; early = omega (arith, b.early) }) (λ o. record { is = triple sound x o; early = omega (arith, o.number) }),
    λ b. ⊎_elim (λ (e : x.rule ≡ i). inr (of_rule x e b.is)) (λ (l : x.rule < i). inl (record { is = b.is; early = l })) (eq-or-lt_of_le {n = x.rule} {m = i} (omega (arith, b.early))),
  )

  in_order : (x y : Pair) → IsOpenBefore A R i x → IsOpenOf (setting_of A i rule) y → pair_order x y ≡ Less
  in_order x y a b =
      let less : nat_cmp x.rule y.rule ≡ Less = sym (nat_cmp_is x.rule y.rule Less (omega (arith, a.early, b.number))) in
      ap (λ r. ordering_then r (ordering_then (slice_cmp nat_cmp x.sigma y.sigma) (nat_cmp x.state y.state))) less

  -- one more rule
  pub one_more : IsSound A → (limit : ℕ) (pairs all : List Pair) → AreOpenBefore A R limit i pairs → AddsAll (setting_of A i rule) limit pairs all → AreOpenBefore A R limit (i + 1) all
  one_more sound limit pairs all b a = record {
    are = subst (IsListing pair_order (IsOpenBefore A R (i + 1))) (sym a.found) (listing_by (split sound) (pairs ++ a.opens) (listing_append pairs a.opens b.are a.are in_order));
    few = a.few b.few;
  }

  -- with this rule there are more than the limit, so the list is longer
  pub too_many : OpenPairsAreListed → MoreOpenAreLonger → IsSound A → (limit : ℕ) (pairs : List Pair) → AreOpenBefore A R limit i pairs → ExceedsWith (setting_of A i rule) limit pairs → (all : List Pair) × AreOpenPairs A R all × (limit < length all)
  too_many listed longer sound limit pairs b x =
      let some = pairs ++ x.opens in
      let ascend : IsStrictlySortedBy pair_order some = ascends-append pair_order pairs x.opens b.are.ascends x.ascend (λ y z c d. in_order y z ((b.are.exact y).0 c) (x.each z d)) in
      let each : (y : Pair) → Contains some y → IsOpenTriple A R y = λ y c. ⊎_elim (λ l. ((b.are.exact y).0 l).is) (λ r. triple sound y (x.each y r)) (Contains-append_cases pairs x.opens y c) in
      let many : HasMoreThan limit (IsOpenTriple A R) = record { some = some; distinct = distinct_if_ascends pair_order_total some ascend; each = each; more = x.more } in
      let all = listed A R in
      (all.0, all.1, longer A R limit all.0 many all.1)

-- all rules
pub all_rules : OpenPairsAreListing → (A : TreeAutomaton) (R : List RewriteRule) (limit i : ℕ) (pairs : List Pair) → IsStrictlySortedBy nat_cmp A.states → length R ≤ i → AreOpenBefore A R limit i pairs → AreOpenPairs A R pairs
all_rules listing A R limit i pairs s end b = (listing A R pairs s).1 (listing_by (λ x. (
  λ o. o.is,
  λ t. record { is = t; early = let l : x.rule < length R = slice_get_within R x.rule t.triple.rule t.triple.is_rule in omega (arith, l, end) },
)) pairs b.are)
