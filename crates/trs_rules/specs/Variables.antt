-- Which variables stand in a pattern, and where.
use Rattle.std.specs.Prelude.{◌≡◌, ℕ, ◌-◌, length, Bool, not, ◌==◌, List, [], ◌∷◌, ◌++◌, Option, Some, None, if◌then◌else◌}
use Rattle.std.specs.List.{find, list_any, slice_get}

-- the variable is in the list
abbrev pub is_in : List ℕ → ℕ → Bool
is_in vs v = list_any (λ w. v == w) vs

-- the variable at the first place of the list at which a variable stands that was there before, or has been seen
abbrev pub repeat_after : List ℕ → List ℕ → Option ℕ
repeat_after seen [] = None
repeat_after seen (v ∷ vs) = if is_in seen v then Some v else repeat_after (seen ++ v ∷ []) vs

abbrev pub first_repeat : List ℕ → Option ℕ
first_repeat vs = repeat_after [] vs

-- up to here no variable has stood twice, and this was the last one
pub record IsSeen (seen : List ℕ) (last : Option ℕ) : Type 0 where
  pub no_repeat : first_repeat seen ≡ None
  pub last_is : last ≡ slice_get seen (length seen - 1)

-- the first of these variables that is not among the bound ones
abbrev pub first_free : List ℕ → List ℕ → Option ℕ
first_free bound vs = find (λ v. not (is_in bound v)) vs
