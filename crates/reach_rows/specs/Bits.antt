-- Sets of numbers as bits in words of 64 bits.
use Rattle.std.specs.Prelude.{◌≡◌, ◌↔◌, ◌==◌, ◌<◌, ℕ, ◌/◌, ◌%◌, ◌-◌, ◌^◌, List, get_or, Contains}
use Rattle.std.specs.List.{IsDistinct, sum_by}
use Rattle.std.specs.Int.{bit_at}

-- the number is a member: its bit among the words is set
abbrev pub Has : List ℕ → ℕ → Type 0
Has words q = bit_at (get_or words (q / 64) 0) (q % 64) ≡ 1

-- falls when bits are set; this serves termination alone
abbrev pub left_of : List ℕ → ℕ
left_of words = sum_by (λ word. 2 ^ 64 - word) words

-- the list has the members below the bound and below n, each once; this serves private contracts alone
pub record Lists (words : List ℕ) (size n : ℕ) (list : List ℕ) : Type 0 where
  pub members : (q : ℕ) → Contains list q ↔ ((q < n) × (q < size) × Has words q)
  pub distinct : IsDistinct ◌==◌ list
