-- What a signature's list says of its numbers, names and arities, also after a symbol is added.
use Rattle.std.proofs.Common.{◌≡◌, ◌≢◌, ℕ, zero, suc, ◌+◌, Bool, true, false, not, nat_lt, cond, if◌then◌else◌, List, [], ◌∷◌, ◌++◌, length, slice_get, Option, Some, None, is_some, option_map, refl, sym, ap, subst, ◌∙◌, true≢false, arith}
use Rattle.std.specs.List.{IsDistinct, AllByRecursion, position_or_len}
use Rattle.std.specs.Str.{bytes_eq}
use Rattle.std.proofs.lemmas.Bool.Decides.{nat_tests}
use Rattle.std.proofs.lemmas.Slice.Eq.{bytes_eq-Decides}
use Rattle.ranked_terms.specs.Names.{Symbol, names_of, number_of, arity_of, name_of}

-- ---- the first number whose name is this one

counted : (b : Bool) (n l : ℕ) → cond (nat_lt (cond (not b) (1 + n) 0) (suc l)) (Some (cond (not b) (1 + n) 0)) None ≡ cond b (Some 0) (option_map suc (cond (nat_lt n l) (Some n) None))
counted true n l = grind (arith, nat_tests)
counted false n l = grind (arith, nat_tests)

-- a name is the first symbol's, or it is looked for in the rest
pub number_of-cons : (x : Symbol) (s : List Symbol) (name : List ℕ) → number_of (x ∷ s) name ≡ cond (bytes_eq name x.0) (Some 0) (option_map suc (number_of s name))
number_of-cons x s name = counted (bytes_eq name x.0) (position_or_len (bytes_eq name) (names_of s)) (length (names_of s))

same_name : (a b : List ℕ) → bytes_eq a b ≡ true → a ≡ b
same_name a b e = (bytes_eq-Decides a b).0 e

-- the same, where it is known whether the first name is this one
number_of-first : (x : Symbol) (s : List Symbol) (name : List ℕ) → bytes_eq name x.0 ≡ true → number_of (x ∷ s) name ≡ Some 0
number_of-first x s name e = number_of-cons x s name ∙ ap (λ b. cond b (Some 0) (option_map suc (number_of s name))) e

number_of-later : (x : Symbol) (s : List Symbol) (name : List ℕ) → bytes_eq name x.0 ≡ false → number_of (x ∷ s) name ≡ option_map suc (number_of s name)
number_of-later x s name e = number_of-cons x s name ∙ ap (λ b. cond b (Some 0) (option_map suc (number_of s name))) e

-- the names of a list that lacks a name
pub record Lacks (x : Symbol) (s : List Symbol) (name : List ℕ) : Type 0 where
  pub first : bytes_eq name x.0 ≡ false
  pub rest : number_of s name ≡ None

lacks_by : (x : Symbol) (s : List Symbol) (name : List ℕ) (b : Bool) (o : Option ℕ) → bytes_eq name x.0 ≡ b → number_of s name ≡ o → number_of (x ∷ s) name ≡ None → Lacks x s name
lacks_by x s name true o e h none = absurd (true≢false (ap is_some (sym (number_of-first x s name e) ∙ none)))
lacks_by x s name false (Some n) e h none = absurd (true≢false (ap is_some (ap (option_map suc) (sym h) ∙ (sym (number_of-later x s name e) ∙ none))))
lacks_by x s name false None e h none = record { first = e; rest = h }

pub Lacks-cons : (x : Symbol) (s : List Symbol) (name : List ℕ) → number_of (x ∷ s) name ≡ None → Lacks x s name
Lacks-cons x s name none = lacks_by x s name (bytes_eq name x.0) (number_of s name) refl refl none

-- ---- after a symbol is added

-- the number of a name: the one that it had; else the new one, if it is the new name
abbrev pub added_number : Option ℕ → Bool → ℕ → Option ℕ
added_number (Some n) is_new new = Some n
added_number None is_new new = if is_new then Some new else None

added_step : (first : Bool) (o : Option ℕ) (is_new : Bool) (l : ℕ) → cond first (Some 0) (option_map suc (added_number o is_new l)) ≡ added_number (cond first (Some 0) (option_map suc o)) is_new (suc l)
added_step true o is_new l = refl
added_step false (Some n) is_new l = refl
added_step false None true l = refl
added_step false None false l = refl

pub number_of-added : (s : List Symbol) (x : Symbol) (name : List ℕ) → number_of (s ++ x ∷ []) name ≡ added_number (number_of s name) (bytes_eq name x.0) (length s)
number_of-added [] x name = number_of-cons x [] name
number_of-added (y ∷ s) x name =
    number_of-cons y (s ++ x ∷ []) name ∙ (ap (λ o. cond (bytes_eq name y.0) (Some 0) (option_map suc o)) (number_of-added s x name)
    ∙ (added_step (bytes_eq name y.0) (number_of s name) (bytes_eq name x.0) (length s)
    ∙ ap (λ o. added_number o (bytes_eq name x.0) (suc (length s))) (sym (number_of-cons y s name))))

-- a name that is there keeps its number
pub number_of-kept : (s : List Symbol) (x : Symbol) (name : List ℕ) (n : ℕ) → number_of s name ≡ Some n → number_of (s ++ x ∷ []) name ≡ Some n
number_of-kept s x name n e = number_of-added s x name ∙ ap (λ o. added_number o (bytes_eq name x.0) (length s)) e

-- a new name has the new number
pub number_of-new : (s : List Symbol) (x : Symbol) → number_of s x.0 ≡ None → number_of (s ++ x ∷ []) x.0 ≡ Some (length s)
number_of-new s x e =
    number_of-added s x x.0 ∙ (λ i. added_number (e i) ((bytes_eq-Decides x.0 x.0).1 refl i) (length s))

unlike : (a b : List ℕ) (r : Bool) → bytes_eq a b ≡ r → a ≢ b → bytes_eq a b ≡ false
unlike a b true e h = absurd (h (same_name a b e))
unlike a b false e h = e

-- another name that is not there still isn't
pub number_of-other : (s : List Symbol) (x : Symbol) (name : List ℕ) → number_of s name ≡ None → name ≢ x.0 → number_of (s ++ x ∷ []) name ≡ None
number_of-other s x name e h =
    number_of-added s x name ∙ (λ i. added_number (e i) (unlike name x.0 (bytes_eq name x.0) refl h i) (length s))

-- a symbol keeps its name and its arity
pub slice_get-kept : {X : Type 0} (s : List X) (x y : X) (n : ℕ) → slice_get s n ≡ Some y → slice_get (s ++ x ∷ []) n ≡ Some y
slice_get-kept [] x y n e = cc
slice_get-kept (z ∷ s) x y zero e = e
slice_get-kept (z ∷ s) x y (suc n) e = slice_get-kept s x y n e

pub slice_get-new : {X : Type 0} (s : List X) (x : X) → slice_get (s ++ x ∷ []) (length s) ≡ Some x
slice_get-new [] x = refl
slice_get-new (z ∷ s) x = slice_get-new s x

mapped-kept : {X Y : Type 0} (f : X → Y) (s : List X) (x : X) (n : ℕ) (y : Y) (o : Option X) → slice_get s n ≡ o → option_map f (slice_get s n) ≡ Some y → option_map f (slice_get (s ++ x ∷ []) n) ≡ Some y
mapped-kept f s x n y None h e = absurd (true≢false (ap is_some (sym e ∙ ap (option_map f) h)))
mapped-kept f s x n y (Some z) h e = ap (option_map f) (slice_get-kept s x z n h ∙ sym h) ∙ e

pub arity_of-kept : (s : List Symbol) (x : Symbol) (sym' arity : ℕ) → arity_of s sym' ≡ Some arity → arity_of (s ++ x ∷ []) sym' ≡ Some arity
arity_of-kept s x sym' arity e = mapped-kept (λ y. y.1) s x sym' arity (slice_get s sym') refl e

pub name_of-kept : (s : List Symbol) (x : Symbol) (sym' : ℕ) (name : List ℕ) → name_of s sym' ≡ Some name → name_of (s ++ x ∷ []) sym' ≡ Some name
name_of-kept s x sym' name e = mapped-kept (λ y. y.0) s x sym' name (slice_get s sym') refl e

-- the new symbol has the new number
pub arity_of-new : (s : List Symbol) (x : Symbol) → arity_of (s ++ x ∷ []) (length s) ≡ Some x.1
arity_of-new s x = ap (option_map (λ y. y.1)) (slice_get-new s x)

pub name_of-new : (s : List Symbol) (x : Symbol) → name_of (s ++ x ∷ []) (length s) ≡ Some x.0
name_of-new s x = ap (option_map (λ y. y.0)) (slice_get-new s x)

-- ---- numbers and names

some_suc : (o : Option ℕ) (n : ℕ) → option_map suc o ≡ Some n → (m : ℕ) × (n ≡ suc m) × (o ≡ Some m)
some_suc None n e = cc
some_suc (Some m) n e = (m, let k : suc m ≡ n = cc in sym k, refl)

named_by : (x : Symbol) (s : List Symbol) (name : List ℕ) (n : ℕ) (b : Bool) → bytes_eq name x.0 ≡ b → ((m : ℕ) → number_of s name ≡ Some m → name_of s m ≡ Some name) → number_of (x ∷ s) name ≡ Some n → name_of (x ∷ s) n ≡ Some name
named_by x s name n true b rest e =
    let k : Some 0 ≡ Some n = sym (number_of-first x s name b) ∙ e in
    let zero_is : 0 ≡ n = cc in
    subst (λ m. name_of (x ∷ s) m ≡ Some name) zero_is (ap Some (sym (same_name name x.0 b)))
named_by x s name n false b rest e =
    let k = some_suc (number_of s name) n (sym (number_of-later x s name b) ∙ e) in
    subst (λ m. name_of (x ∷ s) m ≡ Some name) (sym k.1) (rest k.0 k.2)

-- the number that is found has the name
pub name_of-number_of : (s : List Symbol) (name : List ℕ) (n : ℕ) → number_of s name ≡ Some n → name_of s n ≡ Some name
name_of-number_of [] name n e = cc
name_of-number_of (x ∷ s) name n e = named_by x s name n (bytes_eq name x.0) refl (λ m h. name_of-number_of s name m h) e

-- where none is found, no number has the name
pub name_of-absent : (s : List Symbol) (name : List ℕ) → number_of s name ≡ None → (n : ℕ) → name_of s n ≢ Some name
name_of-absent [] name e n h = absurd (true≢false (sym (ap is_some h)))
name_of-absent (x ∷ s) name e zero h =
    let k : x.0 ≡ name = cc in
    true≢false (sym ((bytes_eq-Decides name x.0).1 (sym k)) ∙ (Lacks-cons x s name e).first)
name_of-absent (x ∷ s) name e (suc n) h = name_of-absent s name (Lacks-cons x s name e).rest n h

-- and where no number has the name, none is found
pub number_of-absent : (s : List Symbol) (name : List ℕ) → ((n : ℕ) → name_of s n ≢ Some name) → number_of s name ≡ None
number_of-absent s name none = by (number_of s name) refl
  where
    by : (o : Option ℕ) → number_of s name ≡ o → number_of s name ≡ None
    by None e = e
    by (Some n) e = absurd (none n (name_of-number_of s name n e))

absent_after : (name : List ℕ) (s : List Symbol) (n : ℕ) → AllByRecursion (λ y. bytes_eq name y ≡ false) (names_of s) → name_of s n ≢ Some name
absent_after name [] n h e = absurd (true≢false (sym (ap is_some e)))
absent_after name (x ∷ s) zero h e =
    let k : x.0 ≡ name = cc in
    true≢false (sym ((bytes_eq-Decides name x.0).1 (sym k)) ∙ h.0)
absent_after name (x ∷ s) (suc n) h e = absent_after name s n h.1 e

only_by : (x : Symbol) (s : List Symbol) (name : List ℕ) (n : ℕ) (b : Bool) → bytes_eq name x.0 ≡ b → AllByRecursion (λ y. bytes_eq x.0 y ≡ false) (names_of s) → name_of s n ≡ Some name → number_of s name ≡ Some n → number_of (x ∷ s) name ≡ Some (suc n)
only_by x s name n true b apart at e = absurd (absent_after x.0 s n apart (at ∙ ap Some (same_name name x.0 b)))
only_by x s name n false b apart at e = number_of-later x s name b ∙ ap (option_map suc) e

-- where no name stands twice, the number that has a name is the one that is found
pub number_of-only : (s : List Symbol) (name : List ℕ) (n : ℕ) → IsDistinct bytes_eq (names_of s) → name_of s n ≡ Some name → number_of s name ≡ Some n
unfolding IsDistinct
number_of-only [] name n d e = absurd (true≢false (sym (ap is_some e)))
number_of-only (x ∷ s) name zero d e =
    let k : x.0 ≡ name = cc in
    number_of-first x s name ((bytes_eq-Decides name x.0).1 (sym k))
number_of-only (x ∷ s) name (suc n) d e =
    only_by x s name n (bytes_eq name x.0) refl d.0 e (number_of-only s name n d.1 e)
