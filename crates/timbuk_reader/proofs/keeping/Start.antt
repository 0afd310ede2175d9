-- A reader of a whole text.
use Rattle.std.proofs.Common.{◌≡◌, sym, ◌∙◌}
use Rattle.timbuk_reader.specs.declared.state.Reader.{Reader}
use Rattle.spec_text.specs.Declarations.{nothing}
use Rattle.timbuk_reader.specs.View.{state_of}
use Rattle.timbuk_reader.specs.Reads.{IsFresh}

-- a reader that has read nothing
pub fresh_start : (r : Reader) → state_of r ≡ nothing → IsFresh r
fresh_start r e = record { state = e ∙ (λ i. record nothing { symbols = (sym e i).symbols; variables = (sym e i).variables }) }
