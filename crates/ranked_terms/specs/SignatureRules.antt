-- What always holds of a signature.
use Rattle.std.specs.Prelude.{ℕ, ◌≤◌, List, length, map, All, String, string_bytes}
use Rattle.std.specs.Global.{Global}
use Rattle.std.specs.List.{IsDistinct}
use Rattle.std.specs.Str.{bytes_eq}
use Rattle.ranked_terms.specs.Limits.{max_symbols, max_arity}
use Rattle.ranked_terms.specs.Words.{IsNameText}
use Rattle.ranked_terms.specs.Names.{Symbol, names_of}

-- the entries of the map from names to arities
abbrev pub symbols_of : List (String Global × ℕ) → List Symbol
symbols_of entries = map (λ e. (string_bytes e.0, e.1)) entries

-- a name and an arity that a symbol may have
pub record IsSymbol (symbol : Symbol) : Type 0 where
  pub name : IsNameText symbol.0
  pub arity : symbol.1 ≤ max_arity

-- at most 4,096 symbols, of which no two have one name
pub record IsSignature (signature : List Symbol) : Type 0 where
  pub few : length signature ≤ max_symbols
  pub distinct : IsDistinct bytes_eq (names_of signature)
  pub symbols : All IsSymbol signature
