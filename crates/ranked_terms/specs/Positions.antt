-- Subterms at positions (Baader and Nipkow, Term Rewriting and All That, section 3.1): a position is the list of argument numbers on the way from the root, counted from 1.
use Rattle.std.specs.Prelude.{◌≡◌, ℕ, suc, ◌+◌, ◌^◌, Bool, ◌&&◌, nat_lt, List, [], ◌∷◌, ◌++◌, length, map, Option, Some, None}
use Rattle.std.specs.Borrow.{Bor}
use Rattle.std.specs.List.{list_all}
use Rattle.ranked_terms.specs.Terms.{node}
use Rattle.ranked_terms.specs.declared.term.Term.{Term}
use Rattle.ranked_terms.specs.declared.term.Term.TheOpen.{Term-F}
use Rattle.ranked_terms.specs.declared.term.Term.TheFolds.{fold-Term}

-- u is the k-th argument of t, counted from 1
pub record Argument (k : ℕ) (t u : Term) : Type 0 where
  pub sym : ℕ
  pub before : List Term
  pub after : List Term
  pub place : k ≡ length before + 1
  pub is : t ≡ node sym (before ++ u ∷ after)

-- t is s with its k-th argument, counted from 1, changed by Q
pub record InArgument (Q : Term → Term → Type 0) (k : ℕ) (s t : Term) : Type 0 where
  pub sym : ℕ
  pub before : List Term
  pub u : Term
  pub v : Term
  pub after : List Term
  pub place : k ≡ length before + 1
  pub from : s ≡ node sym (before ++ u ∷ after)
  pub to : t ≡ node sym (before ++ v ∷ after)
  pub changes : Q u v

-- u is the subterm of t at the position
abbrev pub SubtermAt : List ℕ → Term → Term → Type 0
SubtermAt [] t u = u ≡ t
SubtermAt (k ∷ position) t u = (v : Term) × Argument k t v × SubtermAt position v u

-- u is t with its subterm at the position replaced by v
abbrev pub ReplacedAt : Term → List ℕ → Term → Term → Type 0
ReplacedAt v [] t u = u ≡ v
ReplacedAt v (k ∷ position) t u = InArgument (ReplacedAt v position) k t u

-- s and t are the same but for their k-th arguments
abbrev pub IsSameBut : ℕ → Term → Term → Type 0
IsSameBut k = InArgument (λ u v. Unit {0}) k

-- what two references point to
abbrev pub both_now : Option (Bor Term × Bor Term) → Option (Term × Term)
both_now None = None
both_now (Some pair) = Some (pair.0.now, pair.1.now)

-- the term has a subterm at the position
abbrev pub HasPosition : Term → List ℕ → Type 0
HasPosition t position = (u : Term) × SubtermAt position t u

-- each argument of the term can be named by 32 bits
abbrev pub is_narrow_step : Term-F Bool → Bool
is_narrow_step t = nat_lt (length t.args) (2 ^ 32) && list_all (λ b. b) t.args

abbrev pub is_narrow : Term → Bool
is_narrow = fold-Term Bool is_narrow_step

-- ---- for private contracts: the positions in preorder

-- those of arguments, which are numbered from k on
abbrev pub positions_below : ℕ → List (List (List ℕ)) → List (List ℕ)
positions_below k [] = []
positions_below k (positions ∷ rest) = map (λ p. k ∷ p) positions ++ positions_below (suc k) rest

abbrev pub positions_step : Term-F (List (List ℕ)) → List (List ℕ)
positions_step t = [] ∷ positions_below 1 t.args

abbrev pub positions_of : Term → List (List ℕ)
positions_of = fold-Term (List (List ℕ)) positions_step
