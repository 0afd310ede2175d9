-- An index of rules grows by one rule after the other.
use Rattle.std.proofs.Common.{◌≡◌, ℕ, ◌+◌, ◌<◌, ◌≤◌, List, [], ◌∷◌, ◌++◌, length, slice_get, Some, sym, ap, subst, ◌∙◌, ⊎_elim, arith}
use Rattle.std.specs.List.{Contains}
use Rattle.std.specs.List.Sorted.{IsPermutation}
use Rattle.std.proofs.lemmas.List.Elements.{Contains-append_left, Contains-push, Contains-push_cases}
use Rattle.std.proofs.lemmas.List.Sorted.{Contains-permutation, IsPermutation-sym}
use Rattle.std.proofs.lemmas.Option.{slice_get_within}
use Rattle.list_laws.proofs.Members.{none}
use Rattle.trs_rules.specs.Rules.{RewriteRule}
use Rattle.term_store.specs.Index.{HasRoot, IsIndexOf, IsIndexUpTo}
use Rattle.term_store.proofs.RootedLaws.{last_or}

module _ (R : List RewriteRule) where
  pub no_rule_yet : IsIndexUpTo R 0 []
  no_rule_yet = record { there = λ e c. absurd (none e c); each = λ i rule l is. absurd (omega (arith, l)) }

  pub one_rule_more : (n f : ℕ) (rule : RewriteRule) (index : List (ℕ × ℕ)) → n < length R → slice_get R n ≡ Some rule → HasRoot rule f → IsIndexUpTo R n index → IsIndexUpTo R (n + 1) (index ++ (f, n) ∷ [])
  one_rule_more n f rule index l is root h = record {
    there = λ e c. ⊎_elim (λ old. h.there e old) (λ new. subst (λ (x : ℕ × ℕ). x.1 < length R) new l) (Contains-push_cases index (f, n) e c);
    each = λ i r m at. ⊎_elim
        (λ less. let x = h.each i r less at in (x.0, x.1, Contains-append_left index ((f, n) ∷ []) (x.0, i) x.2))
        (λ same.
        let q : rule ≡ r = some_same (sym is ∙ (ap (slice_get R) (sym same) ∙ at)) in
        (f, subst (λ r. HasRoot r f) q root, subst (λ j. Contains (index ++ (f, n) ∷ []) (f, j)) (sym same) (Contains-push index (f, n))))
        (last_or i n m);
  }
    where
      some_same : {X : Type 0} {x y : X} → Some x ≡ Some y → x ≡ y
      some_same e = cc

  pub whole_index : (n : ℕ) (index sorted : List (ℕ × ℕ)) → length R ≤ n → IsPermutation index sorted → IsIndexUpTo R n index → IsIndexOf R sorted
  whole_index n index sorted enough moved h = record {
    there = λ e c. h.there e (Contains-permutation sorted index e (IsPermutation-sym index sorted moved) c);
    each = λ i rule is. let w = slice_get_within R i rule is in let x = h.each i rule (omega (arith, w, enough)) is in
        (x.0, x.1, Contains-permutation index sorted (x.0, i) moved x.2);
  }
