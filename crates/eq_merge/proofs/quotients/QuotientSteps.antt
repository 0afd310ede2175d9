-- A quotient from its parts.
use Rattle.std.proofs.Common.{◌≡◌, ℕ, ◌<◌, List, [], map, filter, length, All, Contains, sym, ap, subst, ◌∙◌, arith}
use Rattle.std.specs.Ordering.{nat_cmp}
use Rattle.std.specs.List.Sorted.{IsStrictlySortedBy}
use Rattle.std.proofs.lemmas.Cmp.{nat_cmp_total}
use Rattle.std.proofs.lemmas.Map.Lookups.{exact_unsigned}
use Rattle.std.proofs.lemmas.List.Elements.{All-weaker}
use Rattle.list_laws.specs.Lists.{IsUnion}
use Rattle.list_laws.proofs.Members.{all_from_members}
use Rattle.list_laws.proofs.InOrder.{all_aside, in_order_union}
use Rattle.ta_core.specs.TreeAutomaton.{TreeAutomaton, IsSound, IsTransOf, IsEpsOf, bare, trans_cmp, pair_cmp}
use Rattle.ta_core.specs.Acceptance.{image}
use Rattle.ta_core.specs.lemmas.Orders.{trans_total, trans_exact, pair_total, pair_exact}
use Rattle.eq_merge.specs.Quotients.{AreLeasts, quotient, renamed, renamed_eps, moves}
use Rattle.eq_merge.proofs.quotients.Composition.{state_below, quotient_sound}

-- what holds of all of a list holds of all of an equal one, among equal states
pub of_equal : {X : Type 0} (P : List ℕ → X → Type 0) {S T : List ℕ} {xs ys : List X} → S ≡ T → xs ≡ ys → All (P T) ys → All (P S) xs
of_equal P {S = S} {T = T} {xs = xs} {ys = ys} e h all = subst (λ zs. All (P S) zs) (sym h) (subst (λ R. All (P R) ys) (sym e) all)

module _ {A : TreeAutomaton} {h : List ℕ} (sound : IsSound A) (leasts : AreLeasts A h) where
  pub within : (q : ℕ) → Contains A.states q → q < length h
  within q c = omega (arith, leasts.each, state_below sound q c)

  pub all_within : (qs : List ℕ) → All (Contains A.states) qs → All (λ q. q < length h) qs
  all_within qs all = All-weaker (Contains A.states) (λ q. q < length h) within qs all

  pub states_within : All (λ q. q < length h) A.states
  states_within = all_from_members (λ q. q < length h) A.states within

  pub eps_within : All (λ (e : ℕ × ℕ). (e.0 < length h) × (e.1 < length h)) A.eps
  eps_within = All-weaker (IsEpsOf A.states) (λ (e : ℕ × ℕ). (e.0 < length h) × (e.1 < length h)) (λ e is. (within e.0 is.from, within e.1 is.to)) A.eps sound.eps

  pub below : All (λ q. q < A.next) (quotient A h).states
  below = (quotient_sound sound h leasts).below

  pub finals_there : All (Contains (quotient A h).states) (map (image h) A.finals)
  finals_there = all_aside nat_cmp_total exact_unsigned (Contains (quotient A h).states) [] (map (image h) A.finals) (quotient_sound sound h leasts).finals

  pub trans_there : All (IsTransOf (quotient A h).states) (map (renamed h) A.trans)
  trans_there = all_aside trans_total trans_exact (IsTransOf (quotient A h).states) [] (map (renamed h) A.trans) (quotient_sound sound h leasts).trans

  pub eps_there : All (IsEpsOf (quotient A h).states) (filter moves (map (renamed_eps h) A.eps))
  eps_there = all_aside pair_total pair_exact (IsEpsOf (quotient A h).states) [] (filter moves (map (renamed_eps h) A.eps)) (quotient_sound sound h leasts).eps

module _ (A : TreeAutomaton) (h : List ℕ) {B C D E : TreeAutomaton} (first : B ≡ bare A.next (quotient A h).states)
    (finals : IsUnion B.finals (map (image h) A.finals) C.finals) (f_ascend : IsStrictlySortedBy nat_cmp C.finals) (second : C ≡ record B { finals = C.finals })
    (trans : IsUnion C.trans (map (renamed h) A.trans) D.trans) (t_ascend : IsStrictlySortedBy trans_cmp D.trans) (third : D ≡ record C { trans = D.trans })
    (eps : IsUnion D.eps (filter moves (map (renamed_eps h) A.eps)) E.eps) (e_ascend : IsStrictlySortedBy pair_cmp E.eps) (last : E ≡ record D { eps = E.eps }) where
  finals_are : C.finals ≡ (quotient A h).finals
  finals_are =
      in_order_union nat_cmp_total exact_unsigned [] (map (image h) A.finals) C.finals
      (subst (λ xs. IsUnion xs (map (image h) A.finals) C.finals) (ap (λ (X : TreeAutomaton). X.finals) first) finals) f_ascend

  with_finals : C ≡ record (bare A.next (quotient A h).states) { finals = (quotient A h).finals }
  with_finals = second ∙ (λ i. record (first i) { finals = finals_are i })

  trans_are : D.trans ≡ (quotient A h).trans
  trans_are =
      in_order_union trans_total trans_exact [] (map (renamed h) A.trans) D.trans
      (subst (λ xs. IsUnion xs (map (renamed h) A.trans) D.trans) (ap (λ (X : TreeAutomaton). X.trans) with_finals) trans) t_ascend

  with_trans : D ≡ record (bare A.next (quotient A h).states) { finals = (quotient A h).finals; trans = (quotient A h).trans }
  with_trans = third ∙ (λ i. record (with_finals i) { trans = trans_are i })

  eps_are : E.eps ≡ (quotient A h).eps
  eps_are =
      in_order_union pair_total pair_exact [] (filter moves (map (renamed_eps h) A.eps)) E.eps
      (subst (λ xs. IsUnion xs (filter moves (map (renamed_eps h) A.eps)) E.eps) (ap (λ (X : TreeAutomaton). X.eps) with_trans) eps) e_ascend

  pub is_quotient : E ≡ quotient A h
  is_quotient = last ∙ (λ i. record (with_trans i) { eps = eps_are i })
