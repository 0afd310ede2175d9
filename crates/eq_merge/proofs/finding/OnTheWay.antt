-- From pass to pass: classes on the way, one after the other.
use Rattle.std.proofs.Common.{◌≡◌, ◌≢◌, ℕ, ◌<◌, ◌==◌, true, false, true≢false, Option, Some, None, IfSome, IfNone, List, length, All, sym, ap, subst, ◌∙◌, ⊎_elim, arith}
use Rattle.std.specs.Option.{is_some}
use Rattle.std.proofs.lemmas.List.{get_or_default}
use Rattle.list_laws.proofs.Decided.{member}
use Rattle.trs_rules.specs.Rules.{RewriteEquation}
use Rattle.ta_core.specs.TreeAutomaton.{TreeAutomaton, IsSound}
use Rattle.ta_core.specs.Acceptance.{image}
use Rattle.eq_merge.specs.Quotients.{AreLeasts, quotient, apart, followed}
use Rattle.eq_merge.specs.Merging.{ForcesNothing, IsLeastMerge}
use Rattle.eq_merge.specs.MergingLaws.{IsInOrder, IsOnTheWay}
use Rattle.eq_merge.specs.Ends.{AreEquatedBy}
use Rattle.eq_merge.specs.Joined.{Joined}
use Rattle.eq_merge.specs.Passes.{GoesOn}
use Rattle.eq_merge.specs.declared.merging.Merging.{Merging}
use Rattle.eq_merge.proofs.quotients.Composition.{followed_leasts, quotient_twice}
use Rattle.eq_merge.proofs.quotients.Joining.{not_test}
use Rattle.eq_merge.proofs.least.LeastMerges.{quotient_apart}
use Rattle.eq_merge.proofs.least.AnyOrder.{grouped, begins, ends, least_below}
use Rattle.eq_merge.proofs.least.Results.{one_fewer}
use Rattle.eq_merge.proofs.finding.Leading.{first_below, second_below, pairs_on}

-- a number that another one stands for is a state, and is gone
pub fewer_left : {A : TreeAutomaton} {h : List ℕ} → AreLeasts A h → (q : ℕ) → q < A.next → image h q ≢ q → length (quotient A h).states < length A.states
fewer_left {A = A} {h = h} leasts q below d =
    ⊎_elim (λ c. one_fewer (λ r. image h r == r) A.states q c (not_test (image h q) q d)) (λ never. absurd (d (leasts.others q below never))) (member A.states q)

-- where nothing that is equated was apart, nothing is forced
pub nothing_forced : {A : TreeAutomaton} (sound : IsSound A) {E : List RewriteEquation} (h : List ℕ) → ((p q : ℕ) → AreEquatedBy A E p q → image h p ≡ image h q) → ((q : ℕ) → q < A.next → image h q ≡ q) →
    ForcesNothing A E
nothing_forced sound h all stays p q x =
    let e = x.equation in
    x.differ (sym (stays p (first_below sound e p q x.equates)) ∙ (all p q (e, x.is_equation, x.equates) ∙ stays q (second_below sound e p q x.equates)))

-- each place is below `next`
pub all_below : {A : TreeAutomaton} → IsSound A → (t : List ℕ) → AreLeasts A t → All (λ q. q < A.next) t
all_below {A = A} sound t leasts k d l = subst (λ r. r < A.next) (get_or_default t k 0 d l) (least_below sound leasts k (omega (arith, l, leasts.each)))

module _ {A : TreeAutomaton} (sound : IsSound A) {E : List RewriteEquation} where
  pub way_after : {t u : List ℕ} → IsOnTheWay E A t → IsOnTheWay E (quotient A t) u → IsOnTheWay E A (followed t u)
  way_after {t = t} {u = u} way next = record {
    leasts = followed_leasts sound way.leasts next.leasts;
    goes_on = λ B h m.
        let first = next.goes_on B h (subst (λ X. IsLeastMerge E X B h) (sym (quotient_twice sound way.leasts next.leasts)) m) in
        subst (IsLeastMerge E A B) (grouped sound t u h way.leasts next.leasts.each) (way.goes_on B (followed u h) first);
  }

-- what a table says whose numbers all stand for themselves, and one whose numbers don't
pub none_holds : {P : Type 0} (o : Option ℕ) → is_some o ≡ false → IfNone o P → P
none_holds None e h = h
none_holds (Some x) e h = absurd (true≢false e)

pub some_holds : {P : ℕ → Type 0} (o : Option ℕ) → is_some o ≡ true → IfSome o P → (x : ℕ) × P x
some_holds None e h = absurd (true≢false (sym e))
some_holds (Some x) e h = (x, h)

-- ---- what stands after some passes

pub record IsMerging (E : List RewriteEquation) (A : TreeAutomaton) (m : Merging) : Type 0 where
  pub way : IsOnTheWay E A m.renaming
  pub is : m.automaton ≡ quotient A m.renaming

module _ {A : TreeAutomaton} (sound : IsSound A) (order : IsInOrder A) {E : List RewriteEquation} where
  -- what a pass puts together is on the way
  pub pass_way : (n : ℕ) (first classes : List ℕ) → n ≡ A.next → first ≡ apart n → Joined (AreEquatedBy A E) first classes → IsOnTheWay E A classes
  pass_way n first classes n-is all j = pairs_on sound order j (subst (IsOnTheWay E A) (sym (all ∙ ap apart n-is)) (begins sound order))

  pub at_first : (m : Merging) (n : ℕ) → m.automaton ≡ A → n ≡ A.next → m.renaming ≡ apart n → IsMerging E A m
  at_first m n same n-is all =
      let e : m.renaming ≡ apart A.next = all ∙ ap apart n-is in
      record {
        way = subst (IsOnTheWay E A) (sym e) (begins sound order);
        is = same ∙ (sym (quotient_apart A sound order) ∙ ap (quotient A) (sym e));
      }

  pub after_pass : (m n : Merging) → IsMerging E A m → GoesOn E m n → IsMerging E A n
  after_pass m n h g = record {
    way = subst (IsOnTheWay E A) (sym g.renaming) (way_after sound h.way (subst (λ X. IsOnTheWay E X g.classes) h.is g.way));
    is = g.automaton
        ∙ (ap (λ X. quotient X g.classes) h.is
        ∙ (quotient_twice sound h.way.leasts (subst (λ X. AreLeasts X g.classes) h.is g.way.leasts) ∙ ap (quotient A) (sym g.renaming)));
  }

  pub at_end : (m : Merging) → IsMerging E A m → ForcesNothing m.automaton E → IsLeastMerge E A m.automaton m.renaming
  at_end m h nothing =
      subst (λ X. IsLeastMerge E A X m.renaming) (sym h.is) (ends sound order m.renaming h.way (subst (λ X. ForcesNothing X E) h.is nothing))

  pub places_below : (m : Merging) → IsMerging E A m → All (λ q. q < m.automaton.next) m.renaming
  places_below m h = subst (λ n. All (λ q. q < n) m.renaming) (sym (ap (λ (X : TreeAutomaton). X.next) h.is)) (all_below sound m.renaming h.way.leasts)
