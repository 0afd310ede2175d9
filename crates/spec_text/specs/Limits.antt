-- The limits of an input text (this project's own format).
use Rattle.std.specs.Prelude.{ℕ}
use Rattle.ranked_terms.specs.Limits.{max_name, max_symbols, max_arity, max_variables}
use Rattle.ta_core.specs.Limits.{max_states}
use Rattle.spec_text.specs.declared.fault.LimitName.{LimitName}
use Rattle.spec_text.specs.declared.fault.LimitName.TheVariants as limit

-- how many there may be of what the limit is of
abbrev pub most : LimitName → ℕ
most limit.NameBytes = max_name
most limit.Symbols = max_symbols
most limit.Declared = 1024
most limit.Arity = max_arity
most limit.Nesting = 100
most limit.Variables = max_variables
most limit.Rules = 4096
most limit.Equations = 1024
most limit.Entries = 1024
most limit.States = max_states
most limit.Automata = 2
most limit.Systems = 1
most limit.EquationSections = 1
most limit.Approximations = 1
