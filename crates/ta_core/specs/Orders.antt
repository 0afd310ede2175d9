-- Equal lists of arguments, and where a transition stands beside those that begin so.
use lib.Pointwise.{pointwise}
use Rattle.std.specs.Prelude.{ℕ, ◌==◌, Bool, List, take, length}
use Rattle.std.specs.Ordering.{nat_cmp, ordering_then, ordering_index}
use Rattle.std.specs.Cmp.Lexicographic.{slice_cmp}
use Rattle.ta_core.specs.declared.trans.Trans.{Trans}

-- the lists have the same numbers
abbrev pub same_args : List ℕ → List ℕ → Bool
same_args = pointwise ◌==◌

-- where a transition stands beside those of the symbol whose arguments begin so: 0 before them, 1 among them, 2 behind them
abbrev pub rank_of : ℕ → List ℕ → Trans → ℕ
rank_of sym prefix t = ordering_index (ordering_then (nat_cmp t.sym sym) (slice_cmp nat_cmp (take (length prefix) t.args) prefix))
