-- Tables of names.
use Rattle.spec_text.specs.declared.fault.LimitName.TheVariants as limit
use Rattle.spec_text.specs.Limits.{most}
use Rattle.std.specs.Prelude.{ℕ, ◌≤◌, List, length, map, String, string_bytes}
use Rattle.std.specs.Global.{Global}
use Rattle.std.specs.List.{IsDistinct}
use Rattle.std.specs.Str.{bytes_eq}

-- the bytes of each key
abbrev pub texts_of : List (String Global) → List (List ℕ)
texts_of keys = map string_bytes keys

-- each name once, and at most as many as an automaton has states
pub record AreNames (names : List (List ℕ)) : Type 0 where
  pub distinct : IsDistinct bytes_eq names
  pub few : length names ≤ most limit.States
