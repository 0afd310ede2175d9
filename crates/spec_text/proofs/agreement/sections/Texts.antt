-- A text is read without a fault exactly where it spells a specification, and that is what is read.
use Rattle.std.proofs.Common.{ℕ, List, [], ◌∷◌, sym, ap, ◌∙◌}
use Rattle.timbuk_lex.specs.Lexing.{lexed}
use Rattle.timbuk_lex.specs.Places.{line_of, column_of}
use Rattle.timbuk_grammar.specs.Grammar.{file}
use Rattle.spec_text.specs.Declarations.{nothing}
use Rattle.spec_text.specs.Laws.{WhatIsReadIsSpelled, WhatIsSpelledIsRead}
use Rattle.spec_text.specs.Reading.{End, outcome}
use Rattle.spec_text.proofs.agreement.tokens.Labelled.{file_judge, file_read}
use Rattle.spec_text.proofs.agreement.sections.Files.{file_fine, file_only}

-- the end of a text
abbrev pub end_of : List ℕ → End
end_of bytes = record { ending = (lexed bytes).ending; line = line_of bytes; column = column_of bytes }

pub read_is_spelled : WhatIsReadIsSpelled
read_is_spelled bytes spec h =
    let k = file_read (end_of bytes) nothing (lexed bytes).tokens h.declared h.no_fault in
    record { derivation = k.tree; whole = k.whole; tokens = k.tokens_are; spells = file_only (end_of bytes) k.tree spec h.declared k.judged h.spec_of }

pub spelled_is_read : WhatIsSpelledIsRead
spelled_is_read bytes spec h =
    let k = file_fine (end_of bytes) h.derivation spec h.spells in
    record {
      declared = k.declared;
      no_fault = ap (outcome (end_of bytes) (file ∷ []) nothing) (sym h.tokens) ∙ (file_judge (end_of bytes) h.whole h.derivation nothing ∙ k.judged);
      spec_of = k.spec_of;
    }
