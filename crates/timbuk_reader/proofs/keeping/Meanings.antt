-- What a name stands for, by what is found of it.
use Rattle.std.proofs.Common.{◌≡◌, ℕ, zero, suc, ◌<◌, Bool, true, false, cond, List, [], ◌∷◌, length, Option, Some, None, refl, ap, sym, ◌∙◌, subst, arith}
use Rattle.std.specs.Prelude.{position, unwrap_or, nat_lt}
use Rattle.std.specs.List.{position_or_len}
use Rattle.std.proofs.lemmas.List.{length-map}
use Rattle.std.proofs.lemmas.Bool.Decides.{nat_tests}
use Rattle.std.specs.Str.{bytes_eq}
use Rattle.ranked_terms.specs.Names.{Symbol, names_of, number_of, arity_of}
use Rattle.timbuk_grammar.specs.declared.terminal.Role.{Role}
use Rattle.spec_text.specs.Declarations.{Text, Declared, Meaning, a_variable, a_state, a_symbol, or_else, if_allowed, as_symbol, as_variable, as_state, allows_symbol, allows_variable, states_at, meaning}

by_symbol : (b : Bool) (o : Option ℕ) (f : ℕ) (symbols : List Symbol) (m : Meaning) → cond b o None ≡ Some f → or_else (if_allowed b (as_symbol symbols o)) m ≡ a_symbol f (unwrap_or (arity_of symbols f) 0)
by_symbol true o f symbols m e = rw e refl
by_symbol false o f symbols m e = cc

no_symbol : (b : Bool) (o : Option ℕ) (symbols : List Symbol) (m : Meaning) → cond b o None ≡ None → or_else (if_allowed b (as_symbol symbols o)) m ≡ m
no_symbol true o symbols m e = rw e refl
no_symbol false o symbols m e = refl

by_variable : (b : Bool) (o : Option ℕ) (v : ℕ) (m : Meaning) → cond b o None ≡ Some v → or_else (if_allowed b (as_variable o)) m ≡ a_variable v
by_variable true o v m e = rw e refl
by_variable false o v m e = cc

no_variable : (b : Bool) (o : Option ℕ) (m : Meaning) → cond b o None ≡ None → or_else (if_allowed b (as_variable o)) m ≡ m
no_variable true o m e = rw e refl
no_variable false o m e = refl

module _ (d : Declared) (p : Role) (name : Text) where
  rest : Meaning
  rest = or_else (if_allowed (allows_variable p) (as_variable (position (bytes_eq name) d.variables))) (as_state (position (bytes_eq name) (states_at d p)))

  pub means_symbol : (f : ℕ) → cond (allows_symbol p) (number_of d.symbols name) None ≡ Some f → meaning d p name ≡ a_symbol f (unwrap_or (arity_of d.symbols f) 0)
  unfolding meaning rest
  means_symbol f e = by_symbol (allows_symbol p) (number_of d.symbols name) f d.symbols rest e

  pub means_variable : (v : ℕ) → cond (allows_symbol p) (number_of d.symbols name) None ≡ None → cond (allows_variable p) (position (bytes_eq name) d.variables) None ≡ Some v → meaning d p name ≡ a_variable v
  unfolding meaning rest
  means_variable v n e = no_symbol (allows_symbol p) (number_of d.symbols name) d.symbols rest n ∙ by_variable (allows_variable p) (position (bytes_eq name) d.variables) v (as_state (position (bytes_eq name) (states_at d p))) e

  pub means_state : (o : Option ℕ) → cond (allows_symbol p) (number_of d.symbols name) None ≡ None → cond (allows_variable p) (position (bytes_eq name) d.variables) None ≡ None → position (bytes_eq name) (states_at d p) ≡ o → meaning d p name ≡ as_state o
  unfolding meaning rest
  means_state o n m e = no_symbol (allows_symbol p) (number_of d.symbols name) d.symbols rest n ∙ no_variable (allows_variable p) (position (bytes_eq name) d.variables) (as_state (position (bytes_eq name) (states_at d p))) m ∙ ap as_state e

-- ---- and conversely

found_by_cond : (b : Bool) (n k : ℕ) → cond b (Some n) None ≡ Some k → (b ≡ true) × (n ≡ k)
found_by_cond true n k e = (refl, cc)
found_by_cond false n k e = cc

-- the place of what is found is a place of the list
pub position_below : {A : Type 0} (test : A → Bool) (xs : List A) (k : ℕ) → position test xs ≡ Some k → k < length xs
position_below test xs k e =
    let h = found_by_cond (nat_lt (position_or_len test xs) (length xs)) (position_or_len test xs) k e in
    let small : nat_lt (position_or_len test xs) (length xs) ≡ true = h.0 in
    let same : position_or_len test xs ≡ k = h.1 in
    grind (arith, nat_tests)

not_symbol : (b : Bool) (o q : Option ℕ) (f n : ℕ) → or_else (if_allowed b (as_variable o)) (as_state q) ≡ a_symbol f n → ⊥
not_symbol true (Some v) q f n e = cc
not_symbol true None (Some q) f n e = cc
not_symbol true None None f n e = cc
not_symbol false o (Some q) f n e = cc
not_symbol false o None f n e = cc

arity_by : (symbols : List Symbol) (b : Bool) (o : Option ℕ) (m : Meaning) (f n : ℕ) → (m ≡ a_symbol f n → ⊥) → or_else (if_allowed b (as_symbol symbols o)) m ≡ a_symbol f n → (o ≡ Some f) × (unwrap_or (arity_of symbols f) 0 ≡ n)
arity_by symbols true None m f n never e = absurd (never e)
arity_by symbols false o m f n never e = absurd (never e)
arity_by symbols true (Some g) m f n never e =
    let same : g ≡ f = cc in
    let count : unwrap_or (arity_of symbols g) 0 ≡ n = cc in
    (ap Some same, ap (λ k. unwrap_or (arity_of symbols k) 0) (sym same) ∙ count)

some_arity : (symbols : List Symbol) (f : ℕ) → f < length symbols → arity_of symbols f ≡ Some (unwrap_or (arity_of symbols f) 0)
some_arity [] f h = absurd (omega arith)
some_arity (s ∷ symbols) zero h = refl
some_arity (s ∷ symbols) (suc f) h = some_arity symbols f (omega arith)

-- a symbol has the arity that is answered
pub symbol_arity : (d : Declared) (p : Role) (name : Text) (f n : ℕ) → meaning d p name ≡ a_symbol f n → arity_of d.symbols f ≡ Some n
unfolding meaning
symbol_arity d p name f n e =
    let h = arity_by d.symbols (allows_symbol p) (number_of d.symbols name) _ f n (not_symbol (allows_variable p) (position (bytes_eq name) d.variables) (position (bytes_eq name) (states_at d p)) f n) e in
    let below = position_below (bytes_eq name) (names_of d.symbols) f h.0 in
    some_arity d.symbols f (subst (λ n. f < n) (length-map d.symbols (λ s. s.0)) below) ∙ ap Some h.1

state_by : (symbols : List Symbol) (a b : Bool) (o v s : Option ℕ) (q : ℕ) → or_else (if_allowed a (as_symbol symbols o)) (or_else (if_allowed b (as_variable v)) (as_state s)) ≡ a_state q → s ≡ Some q
state_by symbols true b (Some f) v s q e = cc
state_by symbols true true None (Some v) s q e = cc
state_by symbols true true None None (Some p) q e = let same : p ≡ q = cc in ap Some same
state_by symbols true true None None None q e = cc
state_by symbols true false None v (Some p) q e = let same : p ≡ q = cc in ap Some same
state_by symbols true false None v None q e = cc
state_by symbols false true o (Some v) s q e = cc
state_by symbols false true o None (Some p) q e = let same : p ≡ q = cc in ap Some same
state_by symbols false true o None None q e = cc
state_by symbols false false o v (Some p) q e = let same : p ≡ q = cc in ap Some same
state_by symbols false false o v None q e = cc

-- a state is one of those that may stand there
pub state_below : (d : Declared) (p : Role) (name : Text) (q : ℕ) → meaning d p name ≡ a_state q → q < length (states_at d p)
unfolding meaning
state_below d p name q e =
    position_below (bytes_eq name) (states_at d p) q (state_by d.symbols (allows_symbol p) (allows_variable p) (number_of d.symbols name) (position (bytes_eq name) d.variables) (position (bytes_eq name) (states_at d p)) q e)
