-- A set that grows at its end, as the keys of a map in the order of insertion.
use Rattle.std.proofs.Common.{◌≡◌, ◌↔◌, ◌⊎◌, ℕ, ◌+◌, ◌<◌, ◌≤◌, Bool, true, false, ◌==◌, List, [], ◌∷◌, ◌++◌, length, get_or, take, slice_get, Some, None, All, Contains, refl, sym, ap, ◌∙◌, subst, inl, inr, ⊎_elim, true≢false, is_some, append_assoc, append-nil, length-append, arith}
use Rattle.std.specs.List.{list_any}
use Rattle.std.proofs.lemmas.Bool.{cases_lt}
use Rattle.std.proofs.lemmas.List.{take_more, take-append-le}
use Rattle.std.proofs.lemmas.List.Elements.{Contains-push_cases, Contains-push, Contains-append_left, All-push}
use Rattle.std.proofs.lemmas.Map.Views.{Contains-from_any, exact_unsigned_eq}
use Rattle.std.proofs.lemmas.Option.{slice_get_within, slice_get-get_or, get_or_from_slice_get}
use Rattle.indexmap.specs.IndexSet.{insert_key}
use Rattle.list_laws.proofs.Members.{none}

-- ---- an insertion at the end

module _ (keys : List ℕ) (q : ℕ) where
  after_insert : (P : List ℕ → Type 0) → (list_any (λ y. q == y) keys ≡ true → P keys) → P (keys ++ q ∷ []) → P (insert_key ◌==◌ keys q)
  after_insert P there new = go (list_any (λ y. q == y) keys) refl
    where
      go : (b : Bool) → list_any (λ y. q == y) keys ≡ b → P (insert_key ◌==◌ keys q)
      go true e = rw e (there e)
      go false e = rw e new

  pub members_insert : (x : ℕ) → Contains (insert_key ◌==◌ keys q) x ↔ (Contains keys x ⊎ (q ≡ x))
  members_insert = after_insert (λ all. (x : ℕ) → Contains all x ↔ (Contains keys x ⊎ (q ≡ x)))
      (λ e x. (λ c. inl c, λ h. ⊎_elim (λ c. c) (λ same. subst (Contains keys) same (Contains-from_any exact_unsigned_eq q keys e)) h))
      (λ x. (λ c. Contains-push_cases keys q x c, λ h. ⊎_elim (λ c. Contains-append_left keys (q ∷ []) x c) (λ same. subst (Contains (keys ++ q ∷ [])) same (Contains-push keys q)) h))

  pub all_insert : (P : ℕ → Type 0) → All P keys → P q → All P (insert_key ◌==◌ keys q)
  all_insert P all p = after_insert (All P) (λ e. all) (All-push P keys q all p)

  pub kept_insert : (rest : List ℕ) × (insert_key ◌==◌ keys q ≡ keys ++ rest)
  kept_insert = after_insert (λ all. (rest : List ℕ) × (all ≡ keys ++ rest)) (λ e. ([], sym (append-nil keys))) (q ∷ [], refl)

-- ---- loops that insert

-- the targets of the pairs are added to the set
abbrev pub HasTargets : List ℕ → List (ℕ × ℕ) → List ℕ → Type 0
HasTargets set eps all = (q : ℕ) → Contains all q ↔ (Contains set q ⊎ ((p : ℕ) × Contains eps (p, q)))

-- the states are added to the set
abbrev pub HasAll : List ℕ → List ℕ → List ℕ → Type 0
HasAll set xs all = (q : ℕ) → Contains all q ↔ (Contains set q ⊎ Contains xs q)

pub has_none : (set : List ℕ) → HasAll set [] set
has_none set q = (λ c. inl c, λ h. ⊎_elim (λ c. c) (λ n. absurd (none q n)) h)

pub has_one_more : (set xs : List ℕ) (k d : ℕ) (all next : List ℕ) → k < length xs → HasAll set (take k xs) all → next ≡ insert_key ◌==◌ all (get_or xs k d) → HasAll set (take (k + 1) xs) next
has_one_more set xs k d all next l h e q =
    let x : ℕ = get_or xs k d in
    let more : take (k + 1) xs ≡ take k xs ++ x ∷ [] = take_more xs k d l in
    let inserted : Contains next q ↔ (Contains all q ⊎ (x ≡ q)) = subst (λ next. Contains next q ↔ (Contains all q ⊎ (x ≡ q))) (sym e) (members_insert all x q) in
    rw more (
      λ c. ⊎_elim
          (λ i. ⊎_elim (λ old. inl old) (λ m. inr (Contains-append_left (take k xs) (x ∷ []) q m)) ((h q).0 i))
          (λ same. inr (subst (λ y. Contains (take k xs ++ x ∷ []) y) same (Contains-push (take k xs) x)))
          (inserted.0 c),
      λ either. inserted.1 (⊎_elim
          (λ old. inl ((h q).1 (inl old)))
          (λ m. ⊎_elim (λ i. inl ((h q).1 (inr i))) (λ same. inr same) (Contains-push_cases (take k xs) x q m))
          either),
    )

-- the set begins as the earlier one
abbrev pub Keeps : List ℕ → List ℕ → Type 0
Keeps set all = (rest : List ℕ) × (all ≡ set ++ rest)

-- those of one more pair
pub one_more_target : (set : List ℕ) (eps : List (ℕ × ℕ)) (k : ℕ) (d : ℕ × ℕ) (all next : List ℕ) → k < length eps → HasTargets set (take k eps) all → next ≡ insert_key ◌==◌ all (get_or eps k d).1 → HasTargets set (take (k + 1) eps) next
one_more_target set eps k d all next l h e q =
    let x : ℕ × ℕ = get_or eps k d in
    let more : take (k + 1) eps ≡ take k eps ++ x ∷ [] = take_more eps k d l in
    let inserted : Contains next q ↔ (Contains all q ⊎ (x.1 ≡ q)) = subst (λ next. Contains next q ↔ (Contains all q ⊎ (x.1 ≡ q))) (sym e) (members_insert all x.1 q) in
    rw more (
      λ c. ⊎_elim
          (λ i. ⊎_elim (λ old. inl old) (λ target. inr (target.0, Contains-append_left (take k eps) (x ∷ []) (target.0, q) target.1)) ((h q).0 i))
          (λ same. inr (x.0, subst (λ y. Contains (take k eps ++ x ∷ []) (x.0, y)) same (Contains-push (take k eps) x)))
          (inserted.0 c),
      λ either. inserted.1 (⊎_elim
          (λ old. inl ((h q).1 (inl old)))
          (λ target. ⊎_elim (λ i. inl ((h q).1 (inr (target.0, i)))) (λ same. inr (ap (λ (e : ℕ × ℕ). e.1) same)) (Contains-push_cases (take k eps) x (target.0, q) target.1))
          either),
    )

pub keeps_more : (set all next : List ℕ) (q : ℕ) → Keeps set all → next ≡ insert_key ◌==◌ all q → Keeps set next
keeps_more set all next q h e =
    let more = kept_insert all q in
    (h.0 ++ more.0, e ∙ (more.1 ∙ (ap (λ l. l ++ more.0) h.1 ∙ append_assoc set h.0 more.0)))

-- ---- places

pub past_end : (xs : List ℕ) (at : ℕ) → slice_get xs at ≡ None → length xs ≤ at
past_end xs at e = ⊎_elim (λ l. absurd (true≢false (ap is_some (sym (slice_get-get_or xs at 0 l) ∙ e)))) (λ l. l) (cases_lt at (length xs))

pub take_found : (xs : List ℕ) (at x : ℕ) → slice_get xs at ≡ Some x → take (at + 1) xs ≡ take at xs ++ x ∷ []
take_found xs at x found = take_more xs at 0 (slice_get_within xs at x found) ∙ ap (λ y. take at xs ++ y ∷ []) (get_or_from_slice_get xs at x 0 found)

-- what was taken of a list is still what is taken of one that begins so
pub taken_stays : (xs rest ys : List ℕ) (at x : ℕ) → slice_get xs at ≡ Some x → ys ≡ xs ++ rest → take (at + 1) ys ≡ take at xs ++ x ∷ []
taken_stays xs rest ys at x found kept =
    let inside = slice_get_within xs at x found in
    ap (take (at + 1)) kept ∙ (take-append-le (at + 1) xs rest (omega (arith, inside)) ∙ take_found xs at x found)

pub still_within : (xs rest ys : List ℕ) (at x : ℕ) → slice_get xs at ≡ Some x → ys ≡ xs ++ rest → at + 1 ≤ length ys
still_within xs rest ys at x found kept =
    let inside = slice_get_within xs at x found in omega (arith, inside, ap length kept, length-append xs rest)

pub from_start : (n : ℕ) → 0 ≤ n
from_start n = omega arith
