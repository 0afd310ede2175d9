-- Numbers for pairs of states of two automata: the least sizes of the terms that run to both, up to 1,024. These serve private contracts alone.
use Rattle.std.specs.Prelude.{◌≡◌, ◌⊎◌, ℕ, Bool, true, false, ◌+◌, ◌*◌, ◌<◌, ◌≤◌, List, map, sum, sum_by, zip, replicate, length, get_or, Some, slice_get, slice_set, All, Contains}
use Rattle.ranked_terms.specs.Limits.{max_size}
use Rattle.ta_core.specs.Limits.{max_states}
use Rattle.ranked_terms.specs.Terms.{config_of, size_of}
use Rattle.ranked_terms.specs.declared.term.Term.{Term}
use Rattle.ta_core.specs.Runs.{Runs, Reaches}
use Rattle.ta_core.specs.declared.trans.Trans.{Trans}
use Rattle.ta_clean.specs.Products.{TwoAutomata}
use Rattle.ta_clean.specs.declared.sizes.Made.{Made}

-- a number for each pair of a number below the height and one below the width, by the first and then by the second
pub record Sizing : Type 0 where
  pub height : ℕ
  pub width : ℕ
  pub made : List Made

-- no term is known
abbrev pub unmade : Made
unmade = record { size = 1025; waits = false; left = 0; right = 0 }

pub record IsSizing (s : Sizing) : Type 0 where
  pub low : s.height ≤ max_states
  pub narrow : s.width ≤ max_states
  pub full : length s.made ≡ s.height * s.width
  pub capped : All (λ (m : Made). m.size ≤ 1025) s.made

-- both bounds, and no pair has a term
pub record IsUnmade (height width : ℕ) (s : Sizing) : Type 0 where
  pub height_is : s.height ≡ height
  pub width_is : s.width ≡ width
  pub made_is : s.made ≡ replicate (height * width) unmade

-- both numbers are below the bounds
pub record IsPairOf (s : Sizing) (pair : ℕ × ℕ) : Type 0 where
  pub first : pair.0 < s.height
  pub second : pair.1 < s.width

abbrev pub made_at : Sizing → ℕ × ℕ → Made
made_at s pair = get_or s.made (pair.0 * s.width + pair.1) unmade

abbrev pub size_at : Sizing → ℕ × ℕ → ℕ
size_at s pair = (made_at s pair).size

-- whether what it leads to has yet to be looked at
abbrev pub waits_in : List Made → ℕ → Bool
waits_in made place = (get_or made place unmade).waits

abbrev pub waits_at : Sizing → ℕ × ℕ → Bool
waits_at s pair = (made_at s pair).waits

-- the sum of the numbers of the pairs at one place
abbrev pub sum_at : Sizing → List ℕ → List ℕ → ℕ
sum_at s ps qs = sum (map (size_at s) (zip ps qs))

-- the pair has this, which is a lesser number, and waits; nothing else changed
pub record IsLowered (old new : Sizing) (pair : ℕ × ℕ) (made : Made) : Type 0 where
  pub is : new ≡ record old { made = slice_set old.made (pair.0 * old.width + pair.1) (record made { waits = true }) }
  pub less : made.size < size_at old pair

-- it has, or nothing changed and the number is no less
abbrev pub MayLower : Sizing → Sizing → ℕ × ℕ → Made → Type 0
MayLower old new pair made = IsLowered old new pair made ⊎ ((new ≡ old) × (size_at old pair ≤ made.size))

-- the pair waited, and waits no longer; nothing else changed
pub record StopsWaiting (old new : Sizing) (pair : ℕ × ℕ) : Type 0 where
  pub within : IsPairOf old pair
  pub waited : waits_at old pair ≡ true
  pub is : new ≡ record old { made = slice_set old.made (pair.0 * old.width + pair.1) (record (made_at old pair) { waits = false }) }

-- two transitions of one symbol, from which the pair is reached, make a term of no more than this number from such terms of their arguments
pub record IsMadeBy (both : TwoAutomata) (s : Sizing) (pair : ℕ × ℕ) (made : Made) : Type 0 where
  pub left : Trans
  pub right : Trans
  pub at_left : slice_get both.first.trans made.left ≡ Some left
  pub at_right : slice_get both.second.trans made.right ≡ Some right
  pub same : left.sym ≡ right.sym
  pub count : length left.args ≡ length right.args
  pub first : Reaches both.first left.to pair.0
  pub second : Reaches both.second right.to pair.1
  pub small : sum_at s left.args right.args + 1 ≤ made.size

-- each number up to 1,024 is made so
abbrev pub AreMade : TwoAutomata → Sizing → Type 0
AreMade both s = (pair : ℕ × ℕ) → IsPairOf s pair → size_at s pair ≤ max_size → IsMadeBy both s pair (made_at s pair)

-- the states of both automata are below the bounds
pub record HasSizes (both : TwoAutomata) (s : Sizing) : Type 0 where
  pub first : both.first.next ≤ s.height
  pub second : both.second.next ≤ s.width

-- ---- numbers that fall

-- twice the number, and 1 if the pair waits
abbrev pub work_at : Bool → ℕ → ℕ
work_at true n = n + n + 1
work_at false n = n + n

-- how much may still happen: numbers that fall, and pairs that are taken
abbrev pub work_of : Sizing → ℕ
work_of s = sum_by (λ (m : Made). work_at m.waits m.size) s.made

-- numbers may have fallen, and each pair whose number has waits
pub record Lowers (both : TwoAutomata) (old new : Sizing) : Type 0 where
  pub height : new.height ≡ old.height
  pub width : new.width ≡ old.width
  pub made : AreMade both new
  pub falls : (pair : ℕ × ℕ) → size_at new pair ≤ size_at old pair
  pub waits : (pair : ℕ × ℕ) → waits_at old pair ≡ true → waits_at new pair ≡ true
  pub fallen : (pair : ℕ × ℕ) → size_at new pair < size_at old pair → waits_at new pair ≡ true
  pub work : work_of new ≤ work_of old

-- one of the pairs waits
pub record SomeWaits (s : Sizing) (pairs : List (ℕ × ℕ)) : Type 0 where
  pub pair : ℕ × ℕ
  pub has : Contains pairs pair
  pub waits : waits_at s pair ≡ true

-- with these arguments and this many symbols more, the pair gets no lesser number; or one of the arguments waits
abbrev pub IsFollowed : Sizing → List (ℕ × ℕ) → ℕ × ℕ → ℕ → Type 0
IsFollowed s pairs pair n = (size_at s pair ≤ sum (map (size_at s) pairs) + n) ⊎ SomeWaits s pairs

-- so it is with the two transitions, if they have one symbol
abbrev pub FollowedBy : Trans → Trans → Sizing → Type 0
FollowedBy left right s = left.sym ≡ right.sym → length left.args ≡ length right.args → IsFollowed s (zip left.args right.args) (left.to, right.to) 1

-- no two transitions of one symbol lead to a lesser number
abbrev pub SettledBy : Trans → Trans → Sizing → Type 0
SettledBy left right s = left.sym ≡ right.sym → length left.args ≡ length right.args → size_at s (left.to, right.to) ≤ sum_at s left.args right.args + 1

-- the epsilon transition of the first automaton doesn't, with any state of the second
abbrev pub SettledByFirst : TwoAutomata → ℕ × ℕ → Sizing → Type 0
SettledByFirst both e s = (q : ℕ) → Contains both.second.states q → size_at s (e.1, q) ≤ size_at s (e.0, q)

abbrev pub SettledBySecond : TwoAutomata → ℕ × ℕ → Sizing → Type 0
SettledBySecond both e s = (p : ℕ) → Contains both.first.states p → size_at s (p, e.1) ≤ size_at s (p, e.0)

pub record AreSettled (both : TwoAutomata) (s : Sizing) : Type 0 where
  pub trans : (left right : Trans) → Contains both.first.trans left → Contains both.second.trans right → SettledBy left right s
  pub first : (e : ℕ × ℕ) → Contains both.first.eps e → SettledByFirst both e s
  pub second : (e : ℕ × ℕ) → Contains both.second.eps e → SettledBySecond both e s

-- the numbers are the least sizes
pub record AreLeast (both : TwoAutomata) (s : Sizing) : Type 0 where
  pub has : HasSizes both s
  pub made : AreMade both s
  pub settled : AreSettled both s

-- the term runs to both states, and has at most so many symbols
pub record IsTermOf (both : TwoAutomata) (pair : ℕ × ℕ) (n : ℕ) (t : Term) : Type 0 where
  pub first : Runs both.first (config_of t) pair.0
  pub second : Runs both.second (config_of t) pair.1
  pub small : size_of t ≤ n

-- both are final, and no pair of final states has a lesser number
pub record IsLeastFinal (both : TwoAutomata) (s : Sizing) (pair : ℕ × ℕ) : Type 0 where
  pub first : Contains both.first.finals pair.0
  pub second : Contains both.second.finals pair.1
  pub least : (p q : ℕ) → Contains both.first.finals p → Contains both.second.finals q → size_at s pair ≤ size_at s (p, q)
