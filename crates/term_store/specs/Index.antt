-- Rules by the root symbols of their left sides, as pairs of a symbol and a rule's number. This project's own.
use Rattle.std.specs.Prelude.{◌≡◌, ℕ, ◌<◌, List, length, Some, Contains}
use Rattle.std.specs.List.{slice_get}
use Rattle.ranked_terms.specs.declared.term.Pattern.{Pattern}
use Rattle.ranked_terms.specs.declared.term.Pattern.TheVariants.{App}
use Rattle.trs_rules.specs.Rules.{RewriteRule}

-- the symbol is the root of the rule's left side
abbrev pub HasRoot : RewriteRule → ℕ → Type 0
HasRoot rule sym = (args : List Pattern) × (rule.left ≡ App sym args)

-- each rule's number stands with the rule's root symbol, and no other numbers than those of rules stand there
pub record IsIndexOf (R : List RewriteRule) (index : List (ℕ × ℕ)) : Type 0 where
  pub there : (e : ℕ × ℕ) → Contains index e → e.1 < length R
  pub each : (i : ℕ) (rule : RewriteRule) → slice_get R i ≡ Some rule → (sym : ℕ) × HasRoot rule sym × Contains index (sym, i)

-- ---- for private contracts and invariants: the same of the first rules

pub record IsIndexUpTo (R : List RewriteRule) (count : ℕ) (index : List (ℕ × ℕ)) : Type 0 where
  pub there : (e : ℕ × ℕ) → Contains index e → e.1 < length R
  pub each : (i : ℕ) (rule : RewriteRule) → i < count → slice_get R i ≡ Some rule → (sym : ℕ) × HasRoot rule sym × Contains index (sym, i)
