-- A whole text that was read.
use Rattle.std.proofs.Common.{◌≡◌, ℕ, List, [], ◌∷◌, Ok, Err, refl, ap, ◌∙◌}
use Rattle.timbuk_lex.specs.declared.lex.Lexed.{Lexed}
use Rattle.timbuk_lex.specs.Lexing.{lexed}
use Rattle.timbuk_lex.specs.Places.{line_of, column_of}
use Rattle.timbuk_grammar.specs.Grammar.{file}
use Rattle.timbuk_reader.specs.declared.state.Reader.{Reader}
use Rattle.spec_text.specs.declared.fault.SpecFault.{SpecFault}
use Rattle.timbuk_reader.specs.declared.fault.SpecError.TheVariants as error
use Rattle.spec_text.specs.Declarations.{Declared, any, nothing}
use Rattle.spec_text.specs.Reading.{Outcome, outcome, read}
use Rattle.spec_text.specs.Reading.{settled}
use Rattle.timbuk_reader.specs.View.{as_error, state_of, end_line, end_column, end_of}

-- what was read, whatever the last token was
pub record ReadTo (o : Outcome) (s : Declared) : Type 0 where
  pub declared : Declared
  pub read : o ≡ Ok declared
  pub settled_is : record declared { last = any } ≡ s

-- reading a text from its start
pub read_from : (bytes : List ℕ) (l : Lexed) (r : Reader) → l ≡ lexed bytes → r.tokens.now ≡ l.tokens → state_of r ≡ nothing → end_of r ≡ record { ending = l.ending; line = end_line bytes; column = end_column bytes }
    → settled (outcome (end_of r) (file ∷ []) (state_of r) r.tokens.now) ≡ settled (read bytes)
unfolding end_line end_column
read_from bytes l r exact tokens state end =
    let told = end ∙ ap (λ (l : Lexed). record { ending = l.ending; line = line_of bytes; column = column_of bytes }) exact in
    let are = tokens ∙ ap (λ (l : Lexed). l.tokens) exact in
    λ i. settled (outcome (told i) (file ∷ []) (state i) (are i))

-- a fault is one whatever the last token was
pub stopped : (o : Outcome) (told : SpecFault) → as_error (settled o) ≡ Err (error.Fault told) → o ≡ Err told
stopped (Ok d) told e = cc
stopped (Err f) told e = let same : f ≡ told = cc in ap Err same

pub settled_ok : (o : Outcome) (s : Declared) → settled o ≡ Ok s → ReadTo o s
settled_ok (Ok d) s e = record { declared = d; read = refl; settled_is = cc }
settled_ok (Err f) s e = cc
