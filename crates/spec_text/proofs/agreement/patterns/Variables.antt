-- The variables that a declaration takes one after the other, against its lists of variables.
use Rattle.std.proofs.Common.{◌≡◌, ◌≢◌, ℕ, zero, suc, ◌+◌, ◌≤◌, ◌<◌, Bool, true, false, not, ◌&&◌, ◌||◌, ◌==◌, cond, List, [], ◌∷◌, ◌++◌, fold, length, get_or, Contains, refl, ap, sym, ◌∙◌, subst, arith, append_assoc}
use Rattle.std.specs.Prelude.{nat_lt, nat_le, if◌then◌else◌, Some, None, is_some}
use Rattle.std.specs.List.{AllPairs, list_any, prefix_len}
use Rattle.std.proofs.lemmas.Bool.{and_from, and_parts, or_left, or_right, not-true, lt-ltb, le-ltb, ltb-true, ltb-false, lt-leb, leb-false, eqb-true, eq-eqb, false_from_ne_true}
use Rattle.std.proofs.lemmas.List.{append-nil, get_or_append_left, get_or_at, length-append}
use Rattle.std.proofs.lemmas.Map.Views.{Contains-from_any}
use Rattle.ranked_terms.specs.Terms as terms
use Rattle.timbuk_grammar.specs.declared.terminal.Role.{Role}
use Rattle.timbuk_grammar.specs.declared.terminal.Role.TheVariants as role
use Rattle.spec_text.specs.Declarations.{has, with_variable}
use Rattle.spec_text.proofs.agreement.patterns.Fits.{is_twice, is_unbound, is_crowded, takes}
use Rattle.spec_text.proofs.agreement.patterns.Patterns.{all_taken}

-- ---- one of these

found : (n most : ℕ) (b : Bool) → is_some (cond b (Some n) None) ≡ b
found n most true = refl
found n most false = refl

same_below : (m n : ℕ) (b : Bool) → nat_lt m n ≡ b → nat_lt (1 + m) (suc n) ≡ b
same_below m n true e = let h = ltb-true m n e in lt-ltb (1 + m) (suc n) (omega arith)
same_below m n false e = let h = ltb-false m n e in le-ltb (1 + m) (suc n) (omega arith)

at_front : (m n : ℕ) (b : Bool) → nat_lt (cond (not b) (1 + m) 0) (suc n) ≡ (b || nat_lt m n)
at_front m n true = lt-ltb 0 (suc n) (omega arith)
at_front m n false = same_below m n (nat_lt m n) refl

has_below : (vs : List ℕ) (v : ℕ) → has vs v ≡ nat_lt (prefix_len (λ w. not (v == w)) vs) (length vs)
has_below vs v = found (prefix_len (λ w. not (v == w)) vs) (length vs) _

below_any : (vs : List ℕ) (v : ℕ) → nat_lt (prefix_len (λ w. not (v == w)) vs) (length vs) ≡ list_any (λ w. v == w) vs
below_any [] v = refl
below_any (w ∷ vs) v = at_front (prefix_len (λ w. not (v == w)) vs) (length vs) (v == w) ∙ ap (λ b. (v == w) || b) (below_any vs v)

pub has-any : (vs : List ℕ) (v : ℕ) → has vs v ≡ list_any (λ w. v == w) vs
has-any vs v = has_below vs v ∙ below_any vs v

-- the list with one more variable is the same, however the test is written
pub with_variable_is : (vs : List ℕ) (v : ℕ) → with_variable vs v ≡ terms.with_variable vs v
with_variable_is vs v = ap (λ b. if b then vs else (vs ++ v ∷ [])) (has-any vs v)

pub taken_firsts : (bound vs : List ℕ) → fold with_variable bound vs ≡ fold terms.with_variable bound vs
taken_firsts bound [] = refl
taken_firsts bound (v ∷ vs) = ap (λ z. fold with_variable z vs) (with_variable_is bound v) ∙ taken_firsts (terms.with_variable bound v) vs

pub has_contains : (vs : List ℕ) (v : ℕ) → has vs v ≡ true → Contains vs v
has_contains vs v e = Contains-from_any eqb-true v vs (sym (has-any vs v) ∙ e)

any_at : (vs : List ℕ) (v k : ℕ) → k < length vs → get_or vs k v ≡ v → list_any (λ w. v == w) vs ≡ true
any_at [] v k h e = absurd (omega arith)
any_at (w ∷ vs) v zero h e = or_left (v == w) _ (eq-eqb v w (sym e))
any_at (w ∷ vs) v (suc k) h e = or_right (v == w) _ (any_at vs v k (omega arith) e)

pub contains_has : (vs : List ℕ) (v : ℕ) → Contains vs v → has vs v ≡ true
contains_has vs v c = has-any vs v ∙ any_at vs v c.0 c.1 c.2

-- ---- how many there are

-- one more variable, or none
with_by : (bound : List ℕ) (v : ℕ) (b : Bool) → has bound v ≡ b → with_variable bound v ≡ (if b then bound else (bound ++ v ∷ []))
with_by bound v b e = ap (λ z. if z then bound else (bound ++ v ∷ [])) e

grows_by : (bound : List ℕ) (v : ℕ) (b : Bool) → length bound ≤ length (if b then bound else (bound ++ v ∷ []))
grows_by bound v true = omega arith
grows_by bound v false = let h : length (bound ++ v ∷ []) ≡ length bound + 1 = length-append bound (v ∷ []) in omega (arith, h)

pub grows : (bound vs : List ℕ) → length bound ≤ length (fold with_variable bound vs)
grows bound [] = omega arith
grows bound (v ∷ vs) =
    let one : length bound ≤ length (with_variable bound v) = grows_by bound v (has bound v) in
    let more : length (with_variable bound v) ≤ length (fold with_variable (with_variable bound v) vs) = grows (with_variable bound v) vs in
    omega (arith, one, more)

few_by : (bound : List ℕ) (v : ℕ) (b : Bool) → not (not (b || false) && nat_le 16 (length bound + 0)) ≡ true → length bound ≤ 16 → length (if b then bound else (bound ++ v ∷ [])) ≤ 16
few_by bound v true e h = h
few_by bound v false e h =
    let less : length bound + 0 < 16 = leb-false 16 (length bound + 0) (not-true _ e) in
    let one : length (bound ++ v ∷ []) ≡ length bound + 1 = length-append bound (v ∷ []) in
    omega (arith, less, one)

-- variables that are taken are at most 16
pub taken_few : (p : Role) (bound vs : List ℕ) → all_taken p bound [] vs ≡ true → length bound ≤ 16 → length (fold with_variable bound vs) ≤ 16
taken_few p bound [] e h = h
taken_few p bound (v ∷ vs) e h =
    let k = and_parts (takes p bound [] v) _ e in
    let l = and_parts (not (is_crowded bound [] v)) _ k.0 in
    taken_few p (with_variable bound v) vs k.1 (few_by bound v (has bound v) l.0 h)

crowded_by : (bound : List ℕ) (v : ℕ) (b : Bool) → length (if b then bound else (bound ++ v ∷ [])) ≤ 16 → not (not (b || false) && nat_le 16 (length bound + 0)) ≡ true
crowded_by bound v true h = refl
crowded_by bound v false h =
    let one : length (bound ++ v ∷ []) ≡ length bound + 1 = length-append bound (v ∷ []) in
    let less : length bound + 0 < 16 = omega (arith, one, h) in
    ap not (lt-leb 16 (length bound + 0) less)

-- variables that may stand more than once, and at most 16 of them
pub few_taken : (p : Role) → ((bound : List ℕ) (v : ℕ) → is_twice p bound v ≡ false) → ((bound : List ℕ) (v : ℕ) → is_unbound p bound v ≡ false)
    → (bound vs : List ℕ) → length (fold with_variable bound vs) ≤ 16 → all_taken p bound [] vs ≡ true
few_taken p once free bound [] h = refl
few_taken p once free bound (v ∷ vs) h =
    let more : length (with_variable bound v) ≤ length (fold with_variable (with_variable bound v) vs) = grows (with_variable bound v) vs in
    let one : length (with_variable bound v) ≤ 16 = omega (arith, more, h) in
    and_from _ _
    (and_from _ _ (crowded_by bound v (has bound v) one) (and_from _ _ (ap not (once bound v)) (ap not (free bound v))))
    (few_taken p once free (with_variable bound v) vs h)

-- ---- left sides: each variable once

-- the variable stands in the list for the first time
new_variable : (bound : List ℕ) (v : ℕ) (vs : List ℕ) → AllPairs (λ x y. x ≢ y) (bound ++ v ∷ vs) → has bound v ≡ false
new_variable bound v vs h = false_from_ne_true (has bound v) (λ e.
    let c = has_contains bound v e in
    let low : get_or (bound ++ v ∷ vs) c.0 v ≡ v = get_or_append_left bound (v ∷ vs) v c.0 c.1 ∙ c.2 in
    let high : get_or (bound ++ v ∷ vs) (length bound) v ≡ v = get_or_at bound v vs v (length bound) refl in
    let long : length (bound ++ v ∷ vs) ≡ length bound + suc (length vs) = length-append bound (v ∷ vs) in
    h c.0 (length bound) v c.1 (omega (arith, long)) (low ∙ sym high))

pub linear_taken : (bound vs : List ℕ) → AllPairs (λ x y. x ≢ y) (bound ++ vs) → length (bound ++ vs) ≤ 16 → all_taken role.LeftSide bound [] vs ≡ true
linear_taken bound [] h few = refl
linear_taken bound (v ∷ vs) h few =
    let new = new_variable bound v vs h in
    let is : with_variable bound v ≡ bound ++ v ∷ [] = with_by bound v false new in
    let group : (bound ++ v ∷ []) ++ vs ≡ bound ++ v ∷ vs = append_assoc bound (v ∷ []) vs in
    let long : length (bound ++ v ∷ vs) ≡ length bound + suc (length vs) = length-append bound (v ∷ vs) in
    let less : length bound + 0 < 16 = omega (arith, long, few) in
    and_from _ _
    (λ i. not (not (new i || false) && lt-leb 16 (length bound + 0) less i) && (not (new i) && true))
    (ap (λ z. all_taken role.LeftSide z [] vs) is
    ∙ linear_taken (bound ++ v ∷ []) vs (subst (AllPairs (λ x y. x ≢ y)) (sym group) h) (subst (λ z. length z ≤ 16) (sym group) few))

-- where no variable stands twice, they are the list itself
pub linear_list : (bound vs : List ℕ) → AllPairs (λ x y. x ≢ y) (bound ++ vs) → fold with_variable bound vs ≡ bound ++ vs
linear_list bound [] h = sym (append-nil bound)
linear_list bound (v ∷ vs) h =
    let is : with_variable bound v ≡ bound ++ v ∷ [] = with_by bound v false (new_variable bound v vs h) in
    let group : (bound ++ v ∷ []) ++ vs ≡ bound ++ v ∷ vs = append_assoc bound (v ∷ []) vs in
    ap (λ z. fold with_variable z vs) is ∙ linear_list (bound ++ v ∷ []) vs (subst (AllPairs (λ x y. x ≢ y)) (sym group) h) ∙ group

-- ---- right sides: each variable bound

pub bound_taken : (bound ws : List ℕ) → ((w : ℕ) → Contains ws w → has bound w ≡ true) → all_taken role.RightSide bound [] ws ≡ true
bound_taken bound [] h = refl
bound_taken bound (w ∷ ws) h =
    let here = h w (zero, omega arith, refl) in
    let is : with_variable bound w ≡ bound = with_by bound w true here in
    and_from _ _
    (λ i. not (not (here i || false) && nat_le 16 (length bound + 0)) && (true && not (not (here i))))
    (ap (λ z. all_taken role.RightSide z [] ws) is ∙ bound_taken bound ws (λ x c. h x (suc c.0, omega (arith, c.1), c.2)))
