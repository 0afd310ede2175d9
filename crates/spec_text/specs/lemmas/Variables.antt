-- The variables of a declaration, one after the other: those that may stand there, and those that are bound in the end.
-- (Nobody has to believe what stands here: it is proved, for the proofs of this crate and of those above.)
use Rattle.std.proofs.Common.{◌≡◌, ℕ, suc, ◌+◌, Bool, true, false, not, ◌||◌, ◌==◌, nat_lt, cond, List, [], ◌∷◌, ◌++◌, length, position, Some, None, refl, sym, ap, ◌∙◌, subst, append_assoc}
use Rattle.std.proofs.Math.Dec.{leb-suc-suc}
use Rattle.std.proofs.Math.Nat.{add_comm, zero-lt-suc}
use Rattle.std.proofs.Math.Numerals.{suc-eq-add-one}
use Rattle.std.specs.Prelude.{fold, is_some}
use Rattle.std.specs.List.{position_or_len, list_any}
use Rattle.std.proofs.lemmas.Bool.{lt-ltb}
use Rattle.std.proofs.lemmas.List.{append-nil}
use Rattle.ranked_terms.specs.Terms as terms
use Rattle.trs_rules.specs.Variables.{repeat_after, first_free, is_in}
use Rattle.timbuk_grammar.specs.declared.terminal.Role.{Role}
use Rattle.timbuk_grammar.specs.declared.terminal.Role.TheVariants as role
use Rattle.spec_text.specs.Declarations.{has, with_variable}

-- the variable may stand where these were bound before
abbrev pub MayStand : Role → List ℕ → ℕ → Type 0
MayStand role.LeftSide bound v = has bound v ≡ false
MayStand role.RightSide bound v = has bound v ≡ true
MayStand _ bound v = Unit {0}

-- The variables of a pattern, one after the other, may stand there, and these are bound in the end.
abbrev pub Binds : Role → List ℕ → List ℕ → List ℕ → Type 0
Binds p old [] new = new ≡ old
Binds p old (v ∷ vs) new = MayStand p old v × Binds p (with_variable old v) vs new

-- ---- an element that passes has a place

one_more : (n : ℕ) → 1 + n ≡ suc n
one_more n = add_comm 1 n ∙ sym (suc-eq-add-one n)

found_by : (b : Bool) (n : ℕ) (l : ℕ) (r : Bool) → nat_lt n l ≡ r → nat_lt (cond (not b) (1 + n) 0) (suc l) ≡ (b || r)
found_by true n l r e = lt-ltb 0 (suc l) (zero-lt-suc l)
found_by false n l r e = ap (λ m. nat_lt m (suc l)) (one_more n) ∙ leb-suc-suc (suc n) l ∙ e

found_at : {A : Type 0} (p : A → Bool) (xs : List A) → nat_lt (position_or_len p xs) (length xs) ≡ list_any p xs
found_at p [] = refl
found_at p (x ∷ xs) = found_by (p x) _ _ _ (found_at p xs)

some_if : (b : Bool) (n : ℕ) → is_some (cond b (Some n) None) ≡ b
some_if true n = refl
some_if false n = refl

pub is_some_position : {A : Type 0} (p : A → Bool) (xs : List A) → is_some (position p xs) ≡ list_any p xs
is_some_position p xs = some_if (nat_lt (position_or_len p xs) (length xs)) _ ∙ found_at p xs

-- ---- variables that are bound

has_is : (vs : List ℕ) (v : ℕ) → has vs v ≡ is_in vs v
has_is vs v = is_some_position (λ w. v == w) vs

-- no variable of a left side stands twice, and all are bound in the end
pub left_binds : (seen vs new : List ℕ) → Binds role.LeftSide seen vs new → (repeat_after seen vs ≡ None) × (new ≡ seen ++ vs)
left_binds seen [] new h = (refl, h ∙ sym (append-nil seen))
left_binds seen (v ∷ vs) new h =
    let unseen : is_in seen v ≡ false = sym (has_is seen v) ∙ h.0 in
    let added : with_variable seen v ≡ seen ++ v ∷ [] = ap (λ b. cond b seen (seen ++ v ∷ [])) h.0 in
    let rest = left_binds (seen ++ v ∷ []) vs new (subst (λ z. Binds role.LeftSide z vs new) added h.1) in
    (ap (λ b. cond b (Some v) (repeat_after (seen ++ v ∷ []) vs)) unseen ∙ rest.0, rest.1 ∙ append_assoc seen (v ∷ []) vs)

-- each variable of a right side was bound before
pub right_binds : (bound vs new : List ℕ) → Binds role.RightSide bound vs new → (first_free bound vs ≡ None) × (new ≡ bound)
right_binds bound [] new h = (refl, h)
right_binds bound (v ∷ vs) new h =
    let bound_one : is_in bound v ≡ true = sym (has_is bound v) ∙ h.0 in
    let still : with_variable bound v ≡ bound = ap (λ b. cond b bound (bound ++ v ∷ [])) h.0 in
    let rest = right_binds bound vs new (subst (λ z. Binds role.RightSide z vs new) still h.1) in
    (rw bound_one rest.0, rest.1)

with_is : (vs : List ℕ) (v : ℕ) → terms.with_variable vs v ≡ with_variable vs v
with_is vs v = ap (λ b. cond b vs (vs ++ v ∷ [])) (sym (has_is vs v))

-- the bound variables are the firsts of those that stood there
pub binds_firsts : (p : Role) (old vs new : List ℕ) → Binds p old vs new → fold terms.with_variable old vs ≡ new
binds_firsts p old [] new h = sym h
binds_firsts p old (v ∷ vs) new h = ap (λ z. fold terms.with_variable z vs) (with_is old v) ∙ binds_firsts p (with_variable old v) vs new h.1
