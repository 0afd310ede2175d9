-- Arguments from a place on, and sets.
use Rattle.std.proofs.Common.{◌≡◌, ◌↔◌, ◌≤◌, ◌<◌, ◌+◌, ℕ, suc, List, [], ◌∷◌, length, drop, get_or, sym, ◌∙◌, subst, arith}
use Rattle.std.specs.List.{Contains}
use Rattle.std.proofs.lemmas.List.{drop_more, get_or_default}
use Rattle.state_match.specs.Rows.{key_of, FitsFrom}
use Rattle.state_match.proofs.members.RowLists.{key_some, key_none}

pub fits_none : (place : ℕ) (sets : List (List ℕ)) (args : List ℕ) → length sets ≡ 0 → FitsFrom place sets args
fits_none place [] args e = tt
fits_none place (set ∷ sets) args e = absurd (omega (arith, e))

module _ (place : ℕ) (sets : List (List ℕ)) (set args : List ℕ) (l : 0 < length sets) (e : set ≡ get_or sets 0 set) where
  parts' : sets ≡ set ∷ drop 1 sets
  parts' = drop_more sets 0 set l ∙ (λ k. sym e k ∷ drop 1 sets)

  next' : suc place ≡ place + 1
  next' = omega arith

  -- what fits has a first part
  pub record FitsHere : Type 0 where
    pub state : ℕ
    pub key : key_of place args ≡ suc state
    pub member : Contains set state
    pub rest : FitsFrom (place + 1) (drop 1 sets) args

  pub fits_here : FitsFrom place sets args → FitsHere
  fits_here f =
      let g = subst (λ (ss : List (List ℕ)). FitsFrom place ss args) parts' f in
      record { state = g.0; key = g.1; member = g.2; rest = subst (λ k. FitsFrom k (drop 1 sets) args) next' g.3 }

  module _ (state : ℕ) (long : place < length args) (is : state ≡ get_or args place 0) where
    at : key_of place args ≡ suc state
    at = omega (arith, key_some place args 0 long, is)

    pub fits_apart : (Contains set state → ⊥) → FitsFrom place sets args → ⊥
    fits_apart apart f = let h = fits_here f in apart (subst (Contains set) (let same : h.state ≡ state = omega (arith, h.key, at) in same) h.member)

    pub fits_on : Contains set state → FitsFrom (place + 1) (drop 1 sets) args ↔ FitsFrom place sets args
    fits_on member = (
      λ f. subst (λ (ss : List (List ℕ)). FitsFrom place ss args) (sym parts') (state, at, member, subst (λ k. FitsFrom k (drop 1 sets) args) (sym next') f),
      λ f. (fits_here f).rest,
    )

pub fits_short : (place : ℕ) (sets : List (List ℕ)) (args : List ℕ) → 0 < length sets → length args ≤ place → FitsFrom place sets args → ⊥
fits_short place sets args l short f =
    let set : List ℕ = get_or sets 0 [] in
    absurd (omega (arith, (fits_here place sets set args l (get_or_default sets 0 [] set l) f).key, key_none place args short))
