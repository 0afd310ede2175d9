-- Lists that grow by what each member of another list gives.
use Rattle.std.proofs.Common.{◌≡◌, ◌↔◌, ◌⊎◌, ℕ, suc, ◌+◌, ◌≤◌, ◌<◌, nat_lt, List, [], ◌∷◌, ◌++◌, take, get_or, map, filter, length, All, Contains, refl, sym, ap, subst, ◌∙◌, ⊎_elim, inl, inr, arith}
use Rattle.std.specs.Ordering.{nat_cmp}
use Rattle.std.specs.List.{AllZip}
use Rattle.std.specs.List.Sorted.{IsStrictlySortedBy}
use Rattle.std.proofs.lemmas.Bool.{ltb-true, lt-ltb}
use Rattle.std.proofs.lemmas.List.{take_more, take_all, length-append, length-map}
use Rattle.std.proofs.lemmas.List.Elements.{All-contains, Contains-append_left, Contains-append_right, Contains-append_cases}
use Rattle.std.proofs.lemmas.List.Kept.{IsStrictlySortedBy-filter}
use Rattle.list_laws.specs.Listings.{IsListing}
use Rattle.list_laws.proofs.Members.{here, there, none, parts, map_has, map_had}
use Rattle.trs_rules.specs.Rules.{RewriteEquation, IsEquation}
use Rattle.ta_core.specs.TreeAutomaton.{TreeAutomaton, trans_of}
use Rattle.ta_core.specs.declared.trans.Trans.{Trans}
use Rattle.eq_merge.specs.Ends.{AreEnds, EndsAt, across, AreEquated, AreEquatedBy}
use Rattle.eq_merge.specs.Rows.{HasMore, LeadsAcross, IsOpposite, AreOpposite}
use Rattle.eq_merge.proofs.quotients.Filtered.{filter_has, filter_had}
use Rattle.eq_merge.proofs.finding.Leading.{taken_or_next}
use Rattle.eq_merge.proofs.finding.Equating.{equated, left_end, right_end}

pub take_within : {X : Type 0} (xs : List X) (i : ℕ) (d x : X) → i < length xs → Contains (take i xs) x → Contains (take (i + 1) xs) x
take_within xs i d x l c = subst (λ ys. Contains ys x) (sym (take_more xs i d l)) (Contains-append_left (take i xs) (get_or xs i d ∷ []) x c)

pub take_has : {X : Type 0} (xs : List X) (i : ℕ) (d : X) → i < length xs → Contains (take (i + 1) xs) (get_or xs i d)
take_has xs i d l = subst (λ ys. Contains ys (get_or xs i d)) (sym (take_more xs i d l)) (Contains-append_right (take i xs) (get_or xs i d ∷ []) (get_or xs i d) (here (get_or xs i d) []))

-- one more member
pub more_of : {X : Type 0} (old : List ℕ) (xs : List X) (Q : X → ℕ → Type 0) (i : ℕ) (x : X) (cur new : List ℕ) → i < length xs → x ≡ get_or xs i x → HasMore old (take i xs) Q cur →
    ((q : ℕ) → Contains new q ↔ (Contains cur q ⊎ Q x q)) → HasMore old (take (i + 1) xs) Q new
more_of old xs Q i x cur new l is before step q = (
  λ c. ⊎_elim
      (λ k. ⊎_elim (λ o. inl o) (λ h. inr (h.0, take_within xs i x h.0 l h.1, h.2)) ((before q).0 k))
      (λ h. inr (x, subst (Contains (take (i + 1) xs)) (sym is) (take_has xs i x l), h)) ((step q).0 c),
  λ h. (step q).1 (⊎_elim (λ o. inl ((before q).1 (inl o)))
      (λ k. ⊎_elim (λ c. inl ((before q).1 (inr (k.0, c, k.2)))) (λ same. inr (subst (λ y. Q y q) (sym (is ∙ same)) k.2)) (taken_or_next xs i x k.0 l k.1)) h),
)

pub none_of : {X : Type 0} (old new : List ℕ) (Q : X → ℕ → Type 0) → new ≡ old → HasMore old [] Q new
none_of old new Q e q = (λ c. inl (subst (λ xs. Contains xs q) e c), λ h. subst (λ xs. Contains xs q) (sym e) (⊎_elim (λ c. c) (λ k. absurd (none k.0 k.1)) h))

pub all_of : {X : Type 0} (old : List ℕ) (xs : List X) (Q : X → ℕ → Type 0) (i : ℕ) (new : List ℕ) → length xs ≤ i → HasMore old (take i xs) Q new → HasMore old xs Q new
all_of old xs Q i new l h = subst (λ ys. HasMore old ys Q new) (take_all i xs l) h

-- ---- across from an end

pub adds_targets : (B : TreeAutomaton) (p f : ℕ) (ps : List ℕ) (t : Trans) (range : List Trans) (old new : List ℕ) → t.to ≡ p → f ≡ across t.sym → ps ≡ t.args →
    ((u : Trans) → Contains range u ↔ (Contains B.trans u × (u.sym ≡ f) × ((rest : List ℕ) × (u.args ≡ ps ++ rest)))) → new ≡ old ++ map (λ (u : Trans). u.to) range →
    (q : ℕ) → Contains new q ↔ (Contains old q ⊎ LeadsAcross B p t q)
adds_targets B p f ps t range old new to f-is ps-is members e q = (
  λ c. ⊎_elim (λ o. inl o)
      (λ k. let h = map_had (λ (u : Trans). u.to) range q k in
      let m = (members h.0).0 h.1 in
      inr (record { to = to; other = h.0; has = m.0; side = m.1 ∙ f-is; rest = m.2.0; args = m.2.1 ∙ ap (λ xs. xs ++ m.2.0) ps-is; leads = h.2 }))
      (Contains-append_cases old (map (λ (u : Trans). u.to) range) q (subst (λ xs. Contains xs q) e c)),
  λ h. subst (λ xs. Contains xs q) (sym e) (⊎_elim (λ o. Contains-append_left old (map (λ (u : Trans). u.to) range) q o)
      (λ k. Contains-append_right old (map (λ (u : Trans). u.to) range) q (map_has (λ (u : Trans). u.to) range k.other q
      ((members k.other).1 (k.has, k.side ∙ sym f-is, (k.rest, k.args ∙ ap (λ xs. xs ++ k.rest) (sym ps-is)))) k.leads)) h),
)

pub adds_nothing : (B : TreeAutomaton) (p : ℕ) (t : Trans) (old : List ℕ) → (t.to ≡ p → ⊥) → (q : ℕ) → Contains old q ↔ (Contains old q ⊎ LeadsAcross B p t q)
adds_nothing B p t old d q = (λ c. inl c, λ h. ⊎_elim (λ o. o) (λ k. absurd (d k.to)) h)

-- ---- what is across is equated

no_rest : (xs ys rest : List ℕ) → length xs ≡ length ys → xs ≡ ys ++ rest → rest ≡ []
no_rest xs ys [] e h = refl
no_rest xs ys (r ∷ rest) e h = absurd (omega (arith, e, ap length h, length-append ys (r ∷ rest)))

append_none : (ys rest : List ℕ) → rest ≡ [] → ys ++ rest ≡ ys
append_none [] rest e = e
append_none (y ∷ ys) rest e = ap (λ zs. y ∷ zs) (append_none ys rest e)

module _ {A : TreeAutomaton} (e : RewriteEquation) (is : IsEquation e) {B : TreeAutomaton} (are : AreEnds A e B) where
  ends_long : (t : Trans) → Contains B.trans t → length t.args ≡ length are.shared
  ends_long t c = ⊎_elim (λ h. ap length h.1.same ∙ length-map are.shared _) (λ h. ap length h.1.same ∙ length-map are.shared _) ((are.exact t).0 c)

  same_args : (t u : Trans) → Contains B.trans t → Contains B.trans u → (rest : List ℕ) → u.args ≡ t.args ++ rest → u.args ≡ t.args
  same_args t u c d rest h = h ∙ append_none t.args rest (no_rest u.args t.args rest (ends_long u d ∙ sym (ends_long t c)) h)

  opposite_equated : (p q : ℕ) → IsOpposite p B q → AreEquated A e p q
  opposite_equated p q x =
      let t = x.0 in
      let k = x.2 in
      let u = k.other in
      let args = same_args t u x.1 k.has k.rest k.args in
      let there = (are.exact u).0 k.has in
      subst (λ p. AreEquated A e p q) k.to (subst (AreEquated A e t.to) k.leads
      (⊎_elim
      (λ l. ⊎_elim (λ bad. absurd (omega (arith, ap across l.0, bad.0, k.side))) (λ r. inl (equated e is are.are_shared l.1 (subst (λ ps. EndsAt A e.right are.shared ps u.to) args r.1))) there)
      (λ r. ⊎_elim (λ l. inr (equated e is are.are_shared (subst (λ ps. EndsAt A e.left are.shared ps u.to) args l.1) r.1)) (λ bad. absurd (omega (arith, ap across r.0, bad.0, k.side))) there)
      ((are.exact t).0 x.1)))

  leads_across : (f : ℕ) (ps : List ℕ) (p q : ℕ) → Contains B.trans (trans_of f ps p) → Contains B.trans (trans_of (across f) ps q) → IsOpposite p B q
  leads_across f ps p q c d =
      (trans_of f ps p, c, record { to = refl; other = trans_of (across f) ps q; has = d; side = refl; rest = []; args = sym (append_none ps [] refl); leads = refl })

  equated_opposite : (p q : ℕ) → AreEquated A e p q → IsOpposite p B q
  equated_opposite p q x =
      ⊎_elim
      (λ y. leads_across 0 (map y.σ are.shared) p q ((are.exact (trans_of 0 (map y.σ are.shared) p)).1 (inl (refl, left_end e is are.are_shared y)))
      ((are.exact (trans_of 1 (map y.σ are.shared) q)).1 (inr (refl, right_end e is are.are_shared y))))
      (λ y. leads_across 1 (map y.σ are.shared) p q ((are.exact (trans_of 1 (map y.σ are.shared) p)).1 (inr (refl, right_end e is are.are_shared y)))
      ((are.exact (trans_of 0 (map y.σ are.shared) q)).1 (inl (refl, left_end e is are.are_shared y)))) x

-- of all equations
module _ {A : TreeAutomaton} where
  pub all_equated : (E : List RewriteEquation) (all : List TreeAutomaton) → All IsEquation E → AllZip (AreEnds A) E all → (p q : ℕ) → AreOpposite all p q → AreEquatedBy A E p q
  all_equated [] [] are z p q x = absurd (none x.0 x.1)
  all_equated [] (B ∷ all) are z p q x = absurd z
  all_equated (e ∷ E) [] are z p q x = absurd z
  all_equated (e ∷ E) (B ∷ all) are z p q x =
      ⊎_elim (λ same. (e, here e E, opposite_equated e (All-contains IsEquation (e ∷ E) e are (here e E)) z.0 p q (subst (λ C. IsOpposite p C q) (sym same) x.2)))
      (λ later. let h = all_equated E all (λ k d l. are (suc k) d (omega (arith, l))) z.1 p q (x.0, later, x.2) in (h.0, there e h.0 E h.1, h.2))
      (parts B x.0 all x.1)

  pub all_opposite : (E : List RewriteEquation) (all : List TreeAutomaton) → All IsEquation E → AllZip (AreEnds A) E all → (p q : ℕ) → AreEquatedBy A E p q → AreOpposite all p q
  all_opposite [] all are z p q x = absurd (none x.0 x.1)
  all_opposite (e ∷ E) [] are z p q x = absurd z
  all_opposite (e ∷ E) (B ∷ all) are z p q x =
      ⊎_elim (λ same. (B, here B all, equated_opposite e (All-contains IsEquation (e ∷ E) e are (here e E)) z.0 p q (subst (λ d. AreEquated A d p q) (sym same) x.2)))
      (λ later. let h = all_opposite E all (λ k d l. are (suc k) d (omega (arith, l))) z.1 p q (x.0, later, x.2) in (h.0, there B h.0 all h.1, h.2))
      (parts e x.0 E x.1)

pub one_more_zip : {X Y : Type 0} (R : X → Y → Type 0) (xs : List X) (ys : List Y) (x : X) (y : Y) → AllZip R xs ys → R x y → AllZip R (xs ++ x ∷ []) (ys ++ y ∷ [])
one_more_zip R [] [] x y z r = (r, tt)
one_more_zip R [] (b ∷ ys) x y z r = absurd z
one_more_zip R (a ∷ xs) [] x y z r = absurd z
one_more_zip R (a ∷ xs) (b ∷ ys) x y z r = (z.0, one_more_zip R xs ys x y z.1 r)

-- ---- those above a number

pub row_is : (p : ℕ) (all : List TreeAutomaton) (found set row : List ℕ) → HasMore [] all (IsOpposite p) found → ((q : ℕ) → Contains set q ↔ Contains found q) → IsStrictlySortedBy nat_cmp set →
    row ≡ filter (λ q. nat_lt p q) set → IsListing nat_cmp (λ q. (p < q) × AreOpposite all p q) row
row_is p all found set row h same ascend e = record {
  ascends = subst (IsStrictlySortedBy nat_cmp) (sym e) (IsStrictlySortedBy-filter nat_cmp (λ q. nat_lt p q) set ascend);
  exact = λ q. (
    λ c. let k = filter_had (λ q. nat_lt p q) set q (subst (λ xs. Contains xs q) e c) in
        (ltb-true p q k.1, ⊎_elim (λ o. absurd (none q o)) (λ x. x) ((h q).0 ((same q).0 k.0))),
    λ x. subst (λ xs. Contains xs q) (sym e) (filter_has (λ q. nat_lt p q) set q ((same q).1 ((h q).1 (inr x.1))) (lt-ltb p q x.0)),
  );
}
