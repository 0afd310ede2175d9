-- Which terms variables stand for, and what a match binds (Baader and Nipkow, Term Rewriting and All That, section 4.1).
use Rattle.std.specs.Prelude.{◌≡◌, ◌≢◌, ◌↔◌, ℕ, Bool, false, ◌==◌, if◌then◌else◌, List, [], ◌∷◌, ◌++◌, map, fold, Option, Some, None}
use Rattle.std.specs.Borrow.{Bor}
use Rattle.std.specs.List.{list_any}
use Rattle.ranked_terms.specs.Terms.{node, instance_of, occurrences, with_variable}
use Rattle.ranked_terms.specs.declared.term.Term.{Term}
use Rattle.ranked_terms.specs.declared.term.Pattern.{Pattern}

-- ---- a binding is a list of variables with their terms

abbrev pub bound_in : List (ℕ × Term) → List ℕ
bound_in binding = map (λ e. e.0) binding

-- the substitution gives each bound variable its term
abbrev pub Agrees : (ℕ → Term) → List (ℕ × Term) → Type 0
Agrees θ [] = Unit {0}
Agrees θ (e ∷ binding) = (θ e.0 ≡ e.1) × Agrees θ binding

-- the variables that are bound once the pattern's are bound as well
abbrev pub bound_with : List (ℕ × Term) → Pattern → List ℕ
bound_with binding p = fold with_variable (bound_in binding) (occurrences p)

-- ---- matching

-- t is an instance of p that agrees with the binding
pub record IsInstance (p : Pattern) (t : Term) (binding : List (ℕ × Term)) : Type 0 where
  pub θ : ℕ → Term
  pub agrees : Agrees θ binding
  pub is : t ≡ instance_of θ p

-- the substitutions of `after` are those of `before` that make p into t, and p's variables are bound besides, behind those
-- that were bound before
pub record IsBoundBy (p : Pattern) (t : Term) (before after : List (ℕ × Term)) : Type 0 where
  pub exactly : (θ : ℕ → Term) → Agrees θ after ↔ (Agrees θ before × (instance_of θ p ≡ t))
  pub bound : bound_in after ≡ bound_with before p
  pub kept : (more : List (ℕ × Term)) × (after ≡ before ++ more)

-- t is the instance of p by the binding: some substitution agrees with it, and each that does makes p into t
pub record IsInstanceBy (p : Pattern) (binding : List (ℕ × Term)) (t : Term) : Type 0 where
  pub some : IsInstance p t binding
  pub each : (θ : ℕ → Term) → Agrees θ binding → t ≡ instance_of θ p

-- ---- for private contracts and invariants

-- the filled slots, in order
abbrev pub filled : List (Option (ℕ × Bor Term)) → List (ℕ × Term)
filled [] = []
filled (None ∷ slots) = filled slots
filled (Some e ∷ slots) = (e.0, e.1.now) ∷ filled slots

-- no substitution that agrees with the binding makes p into t
pub record IsRefused (p : Pattern) (t : Term) (before after : List (ℕ × Term)) : Type 0 where
  pub none : (θ : ℕ → Term) → Agrees θ before → instance_of θ p ≢ t
  pub same : after ≡ before

abbrev pub is_in : ℕ → List ℕ → Bool
is_in v vs = list_any (λ w. v == w) vs

abbrev pub with_variables : List ℕ → List ℕ → List ℕ
with_variables vs ws = fold with_variable vs ws

abbrev pub lookup : List (ℕ × Term) → ℕ → Option Term
lookup [] v = None
lookup (e ∷ b) v = if v == e.0 then Some e.1 else lookup b v

-- the substitution that a binding stands for; a variable that it leaves out is the constant 0
abbrev pub or_constant : Option Term → Term
or_constant None = node 0 []
or_constant (Some t) = t

abbrev pub binding_of : List (ℕ × Term) → ℕ → Term
binding_of b v = or_constant (lookup b v)

-- no variable is bound twice
abbrev pub Once : List ℕ → Type 0
Once [] = Unit {0}
Once (v ∷ vs) = (is_in v vs ≡ false) × Once vs
