-- The sections after the variables, and the end of a text.
use Rattle.std.proofs.Common.{◌≡◌, ◌≢◌, Bool, true, false, ◌==◌, List, [], ◌∷◌, length, Ok, Err, arith, refl, ap, sym, ◌∙◌}
use Rattle.std.proofs.lemmas.Bool.Decides.{nat_tests}
use Rattle.timbuk_lex.specs.declared.lexeme.Lexeme.{Lexeme}
use Rattle.timbuk_lex.specs.declared.lex.Ending.{Ending}
use Rattle.timbuk_lex.specs.declared.lex.Ending.TheVariants.{Whole, Stopped}
use Rattle.timbuk_grammar.specs.declared.terminal.Terminal.TheVariants as terminal
use Rattle.timbuk_grammar.specs.Matching.{matches}
use Rattle.timbuk_grammar.specs.Grammar.{Part, many, section}
use Rattle.timbuk_grammar.specs.Next.{choice_of}
use Rattle.timbuk_grammar.specs.lemmas.Differ as differ
use Rattle.spec_text.specs.declared.fault.SpecKind.TheVariants as kind
use Rattle.timbuk_reader.specs.declared.fault.SpecError.{SpecError}
use Rattle.timbuk_reader.specs.declared.fault.SpecError.TheVariants as error
use Rattle.timbuk_reader.specs.declared.sections.Section.{Section}
use Rattle.timbuk_reader.specs.declared.sections.Section.TheVariants.{System, Automaton, Equations, Approximation}
use Rattle.timbuk_reader.specs.declared.state.Reader.{Reader}
use Rattle.spec_text.specs.Declarations.{Declared, any}
use Rattle.spec_text.specs.Rows.{when, end_row}
use Rattle.spec_text.specs.Reading.{End, outcome, ends_by, end_by}
use Rattle.spec_text.specs.Rows.{fault}
use Rattle.timbuk_reader.specs.View.{closed, end_of, state_of, as_error, end_fault, refusal_at, refusal}
use Rattle.spec_text.specs.Reading.{settled, sees}
use Rattle.timbuk_reader.specs.Reads.{Advances, Stops, Turns}
use Rattle.timbuk_reader.specs.SectionReads.{word_of, part_of, BeginsNone, at_end}
use Rattle.timbuk_reader.proofs.parsing.Parts.{same_choice, same_end}
use Rattle.timbuk_reader.proofs.parsing.Tokens.{calm_arity, step_unexpected}

-- ---- which section

-- the section whose word stands next
section_choice : (s : Section) (ps : List Part) (x : Lexeme) → matches (word_of s) x ≡ true → choice_of (many section ∷ ps) x ≡ choice_of (part_of s ∷ many section ∷ ps) x
section_choice System ps x e = rw e refl
section_choice Automaton ps x e = rw (differ.apart terminal.Automaton terminal.Trs x refl e, e) refl
section_choice Equations ps x e = rw (differ.apart terminal.Equations terminal.Trs x refl e, differ.apart terminal.Equations terminal.Automaton x refl e, e) refl
section_choice Approximation ps x e =
    rw (differ.apart terminal.Approximation terminal.Trs x refl e, differ.apart terminal.Approximation terminal.Automaton x refl e, differ.apart terminal.Approximation terminal.Equations x refl e, e) refl

-- no section
no_section_choice : (ps : List Part) (x : Lexeme) (xs : List Lexeme) → BeginsNone (x ∷ xs) → choice_of (many section ∷ ps) x ≡ choice_of ps x
no_section_choice ps x xs h = rw (h.system, h.automaton, h.equations, h.approximation) refl

section_take : (s : Section) (ps : List Part) (end : End) (d : Declared) (xs : List Lexeme) → sees (word_of s) xs ≡ true → outcome end (many section ∷ ps) d xs ≡ outcome end (part_of s ∷ many section ∷ ps) d xs
section_take s ps end d [] e = cc
section_take s ps end d (x ∷ xs) e = same_choice (many section ∷ ps) (part_of s ∷ many section ∷ ps) end d x xs (section_choice s ps x e)

section_skip : (ps : List Part) (end : End) (d : Declared) (xs : List Lexeme) → BeginsNone xs → outcome end (many section ∷ ps) d xs ≡ outcome end ps d xs
section_skip ps end d [] h = same_end (many section ∷ ps) ps end d refl
section_skip ps end d (x ∷ xs) h = same_choice (many section ∷ ps) ps end d x xs (no_section_choice ps x xs h)

-- ---- as many sections as there are

pub sections_again : (s : Section) (r m u : Reader) → Turns (many section) r (many section) m → sees (word_of s) m.tokens.now ≡ true → Advances (part_of s) closed m closed u → Turns (many section) r (many section) u
sections_again s r m u k e l = record { by = λ ps. k.by ps ∙ ap settled (section_take s ps (end_of m) (state_of m) m.tokens.now e) ∙ l.by (many section ∷ ps) }

pub sections_stop : (r m : Reader) → Turns (many section) r (many section) m → BeginsNone m.tokens.now → Advances (many section) closed r closed m
sections_stop r m k h = record { by = λ ps. k.by ps ∙ ap settled (section_skip ps (end_of m) (state_of m) m.tokens.now h) }

pub sections_err : (s : Section) (r m : Reader) (e : SpecError) → Turns (many section) r (many section) m → sees (word_of s) m.tokens.now ≡ true → Stops (part_of s) closed m e → Stops (many section) closed r e
sections_err s r m e k h l = record { by = λ ne ps. ap as_error (k.by ps ∙ ap settled (section_take s ps (end_of m) (state_of m) m.tokens.now h)) ∙ l.by ne (many section ∷ ps) }

-- ---- the end

token_refused : (end : End) (d : Declared) (xs : List Lexeme) → d.applications ≡ [] → d.last ≡ any → xs ≢ [] → outcome end [] d xs ≡ Err (refusal_at kind.Expected end xs)
token_refused end d [] a l ne = absurd (ne refl)
token_refused end d (x ∷ xs) a l ne = step_unexpected [] end d x xs refl (calm_arity d x a l)

byte_refused : (ending : Ending) (end : End) (d : Declared) → ending ≢ Whole → ends_by ending end [] d ≡ Err (end_fault ending end)
byte_refused Whole end d ne = absurd (ne refl)
byte_refused (Stopped why line column) end d ne = refl

pub no_token : (xs : List Lexeme) → (length xs == 0) ≡ true → xs ≡ []
no_token [] e = refl
no_token (x ∷ xs) e = grind (arith, nat_tests)

-- a token behind the last section
pub end_at_token : (r : Reader) → r.tokens.now ≢ [] → as_error (at_end r) ≡ Err (error.Fault (refusal kind.Expected r))
end_at_token r ne = ap (λ z. as_error (settled z)) (token_refused (end_of r) (state_of r) r.tokens.now refl refl ne)

-- a byte that begins no token
pub end_at_byte : (r : Reader) → r.tokens.now ≡ [] → r.ending ≢ Whole → as_error (at_end r) ≡ Err (error.Fault (refusal kind.Expected r))
end_at_byte r e ne =
    ap (λ z. as_error (settled z)) (ap (outcome (end_of r) [] (state_of r)) e ∙ byte_refused r.ending (end_of r) (state_of r) ne ∙ ap (λ xs. Err (refusal_at kind.Expected (end_of r) xs)) (sym e))

-- the end, where nothing is open
end_reached : (r : Reader) (none : Bool) → r.tokens.now ≡ [] → r.ending ≡ Whole → (r.automata == 0) ≡ none → at_end r ≡ settled (end_by (when none kind.NoInitial) (end_of r) (state_of r))
unfolding end_row
end_reached r none e w z =
    ap settled (ap (outcome (end_of r) [] (state_of r)) e ∙ ap (λ ending. ends_by ending (end_of r) [] (state_of r)) w ∙ ap (λ b. end_by (when b kind.NoInitial) (end_of r) (state_of r)) z)

-- no automaton
pub end_without_automaton : (r : Reader) → r.tokens.now ≡ [] → r.ending ≡ Whole → r.automata ≡ 0 → as_error (at_end r) ≡ Err (error.Fault (fault kind.NoInitial (end_of r).line (end_of r).column))
end_without_automaton r e w z = ap as_error (end_reached r true e w (ap (λ n. n == 0) z))

pub end_is_whole : (r : Reader) → r.tokens.now ≡ [] → r.ending ≡ Whole → r.automata ≢ 0 → at_end r ≡ Ok (state_of r)
end_is_whole r e w ne = end_reached r false e w (grind (arith, nat_tests))
