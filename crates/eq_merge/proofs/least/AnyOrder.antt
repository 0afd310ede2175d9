-- Joining forced states in any order leads to the least merge.
use Rattle.std.proofs.Common.{◌≡◌, ℕ, ◌<◌, List, length, sym, ap, subst, ◌∙◌, ⊎_elim, arith}
use Rattle.std.proofs.lemmas.Grind.{same_number_lists}
use Rattle.std.proofs.lemmas.List.{length-map}
use Rattle.std.proofs.lemmas.List.FromFn.{length-range_with_len}
use Rattle.trs_rules.specs.Rules.{RewriteEquation}
use Rattle.ta_core.specs.TreeAutomaton.{TreeAutomaton, IsSound}
use Rattle.ta_core.specs.Acceptance.{image}
use Rattle.eq_merge.specs.Quotients.{AreLeasts, quotient, joining, apart, followed}
use Rattle.eq_merge.specs.Merging.{Forces, ForcesNothing, IsLeastMerge}
use Rattle.eq_merge.specs.MergingLaws.{IsInOrder, IsOnTheWay, AnyOrderWill}
use Rattle.eq_merge.proofs.quotients.Composition.{state_below, quotient_sound, image_followed, followed_leasts, quotient_twice}
use Rattle.eq_merge.proofs.quotients.Joining.{apart_at, apart_leasts}
use Rattle.eq_merge.proofs.least.LeastMerges.{joining_leasts, forced_first, forced_second, join_before, quotient_apart, quotient_in_order, stays}
use Rattle.list_laws.proofs.Decided.{member}

module _ {A : TreeAutomaton} (sound : IsSound A) where
  -- a representative is a number below `next`
  pub least_below : {t : List ℕ} → AreLeasts A t → (q : ℕ) → q < A.next → image t q < A.next
  least_below {t = t} leasts q below =
      ⊎_elim (λ c. state_below sound (image t q) (leasts.states q c)) (λ never. omega (arith, below, leasts.others q below never)) (member A.states q)

  pub apart_first : (h : List ℕ) → length h ≡ A.next → followed (apart A.next) h ≡ h
  apart_first h e =
      same_number_lists (followed (apart A.next) h) h (length-map (apart A.next) (image h) ∙ (length-range_with_len 0 A.next ∙ sym e)) (λ q l.
      let below : q < A.next = omega (arith, l, length-map (apart A.next) (image h), length-range_with_len 0 A.next) in
      image_followed (apart A.next) h q (omega (arith, below, length-range_with_len 0 A.next)) ∙ ap (image h) (apart_at A.next q below))

  apart_last : (t : List ℕ) → AreLeasts A t → followed t (apart A.next) ≡ t
  apart_last t leasts =
      same_number_lists (followed t (apart A.next)) t (length-map t (image (apart A.next))) (λ q l.
      let below : q < A.next = omega (arith, l, length-map t (image (apart A.next)), leasts.each) in
      image_followed t (apart A.next) q (omega (arith, below, leasts.each)) ∙ apart_at A.next (image t q) (least_below leasts q below))

  -- three after one another
  pub grouped : (t f h : List ℕ) → AreLeasts A t → length f ≡ A.next → followed t (followed f h) ≡ followed (followed t f) h
  grouped t f h leasts e =
      same_number_lists (followed t (followed f h)) (followed (followed t f) h)
      (length-map t (image (followed f h)) ∙ sym (length-map (followed t f) (image h) ∙ length-map t (image f))) (λ q l.
      let below : q < A.next = omega (arith, l, length-map t (image (followed f h)), leasts.each) in
      let here : q < length t = omega (arith, below, leasts.each) in
      image_followed t (followed f h) q here
      ∙ (image_followed f h (image t q) (omega (arith, e, least_below leasts q below))
      ∙ sym (image_followed (followed t f) h q (omega (arith, here, length-map t (image f))) ∙ ap (image h) (image_followed t f q here))))

  module _ {E : List RewriteEquation} (order : IsInOrder A) where
    pub begins : IsOnTheWay E A (apart A.next)
    begins = record {
      leasts = apart_leasts sound;
      goes_on = λ B h m.
          let n = subst (λ X. IsLeastMerge E X B h) (quotient_apart A sound order) m in
          subst (IsLeastMerge E A B) (sym (apart_first h n.leasts.each)) n;
    }

    pub joins : (t : List ℕ) (p q : ℕ) → IsOnTheWay E A t → Forces (quotient A t) E p q → IsOnTheWay E A (followed t (joining A.next p q))
    joins t p q way x =
        let s = quotient_sound sound t way.leasts in
        let f = joining A.next p q in
        let fl = joining_leasts (quotient A t) p q s (forced_first s x) (forced_second s x) x.differ in
        record {
          leasts = followed_leasts sound way.leasts fl;
          goes_on = λ B h m.
              let n = subst (λ X. IsLeastMerge E X B h) (sym (quotient_twice sound way.leasts fl)) m in
              subst (IsLeastMerge E A B) (grouped t f h way.leasts fl.each) (way.goes_on B (followed f h) (join_before s x n));
        }

    pub ends : (t : List ℕ) → IsOnTheWay E A t → ForcesNothing (quotient A t) E → IsLeastMerge E A (quotient A t) t
    ends t way free =
        let Q = quotient A t in
        let s = quotient_sound sound t way.leasts in
        let o = quotient_in_order A t order in
        subst (IsLeastMerge E A Q) (apart_last t way.leasts) (way.goes_on Q (apart A.next) (record {
          leasts = apart_leasts s;
          is_quotient = sym (quotient_apart Q s o);
          forces_nothing = free;
          least = λ g leasts free r k is_r is_k same. ap (image g) (sym (stays Q s o r is_r) ∙ (same ∙ stays Q s o k is_k));
        }))

pub any_order_will : AnyOrderWill
any_order_will E A sound order = (begins sound order, (joins sound order, ends sound order))
