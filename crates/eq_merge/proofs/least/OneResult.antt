-- There is at most one list of forced pairs, and at most one result of merging.
use Rattle.std.proofs.Common.{◌≡◌, ℕ, List, ◌∷◌, refl, sym, ap, subst}
use Rattle.trs_rules.specs.Rules.{RewriteEquation}
use Rattle.ta_core.specs.TreeAutomaton.{TreeAutomaton}
use Rattle.list_laws.proofs.Members.{not_empty, same_first}
use Rattle.eq_merge.specs.Quotients.{quotient, joining, followed}
use Rattle.eq_merge.specs.Merging.{ForcedAmong, Merged}
use Rattle.eq_merge.specs.MergingLaws.{ForcedPairsAreOne, MergedIsOne}

forced_one : {A : TreeAutomaton} {E : List RewriteEquation} {pairs xs ys : List (ℕ × ℕ)} → ForcedAmong A E pairs xs → ForcedAmong A E pairs ys → xs ≡ ys
forced_one ForcedAmong.none ForcedAmong.none = refl
forced_one (ForcedAmong.forced_one {p = p} {q = q} f a) (ForcedAmong.forced_one g b) = ap (λ l. (p, q) ∷ l) (forced_one a b)
forced_one (ForcedAmong.forced_one f a) (ForcedAmong.free_one never b) = absurd (never f)
forced_one (ForcedAmong.free_one never a) (ForcedAmong.forced_one f b) = absurd (never f)
forced_one (ForcedAmong.free_one never a) (ForcedAmong.free_one never' b) = forced_one a b

pub forced_pairs_are_one : ForcedPairsAreOne
forced_pairs_are_one A E xs ys a b = forced_one a b

merge_one : {E : List RewriteEquation} {A B C : TreeAutomaton} {h g : List ℕ} → Merged E A B h → Merged E A C g → (B ≡ C) × (h ≡ g)
merge_one (Merged.done a) (Merged.done b) = (refl, refl)
merge_one (Merged.done a) (Merged.join {p = p} {q = q} {others = others} b m) = absurd (not_empty (p, q) others (forced_one a b))
merge_one (Merged.join {p = p} {q = q} {others = others} a m) (Merged.done b) = absurd (not_empty (p, q) others (forced_one b a))
merge_one {E = E} {C = C} (Merged.join {A = A} {p = p} {q = q} {others = others} {h = h} a m) (Merged.join {p = r} {q = s} {others = rest} {h = g} b n) =
    let e : (p, q) ≡ (r, s) = same_first (p, q) (r, s) others rest (forced_one a b) in
    let f : joining A.next p q ≡ joining A.next r s = λ i. joining A.next (e i).0 (e i).1 in
    let k = merge_one m (subst (λ f. Merged E (quotient A f) C g) (sym f) n) in
    (k.0, λ i. followed (f i) (k.1 i))

pub merged_is_one : MergedIsOne
merged_is_one E A B C h g a b = merge_one a b
