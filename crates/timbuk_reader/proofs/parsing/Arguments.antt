-- The next token behind a name or among arguments, whatever declaration is open.
use Rattle.std.proofs.Common.{◌≡◌, ◌<◌, ◌≤◌, length, arith, true, false, List, [], ◌∷◌, Option, Some, None, Err, refl, ap, sym, ◌∙◌}
use Rattle.std.specs.Prelude.{nat_lt, nat_le, is_none}
use Rattle.std.specs.List.{list_all}
use Rattle.std.proofs.lemmas.Bool.Decides.{nat_tests}
use Rattle.timbuk_lex.specs.declared.lexeme.Lexeme.{Lexeme}
use Rattle.timbuk_lex.specs.declared.lex.Ending.{Ending}
use Rattle.timbuk_lex.specs.declared.lex.Ending.TheVariants.{Whole, Stopped}
use Rattle.timbuk_grammar.specs.declared.terminal.Role.{Role}
use Rattle.timbuk_grammar.specs.declared.terminal.Terminal.{Terminal}
use Rattle.timbuk_grammar.specs.declared.terminal.Terminal.TheVariants as terminal
use Rattle.timbuk_grammar.specs.Matching.{matches}
use Rattle.timbuk_grammar.specs.Grammar.{Part, one, ◌then◌, many, arguments, name}
use Rattle.timbuk_grammar.specs.Next.{empties, choice_of}
use Rattle.timbuk_grammar.specs.lemmas.Differ as differ
use Rattle.spec_text.specs.declared.fault.SpecKind.TheVariants as kind
use Rattle.spec_text.specs.declared.fault.LimitName.TheVariants as limit
use Rattle.spec_text.specs.Declarations.{Declared, Application, any, leaf, constant, function, closes, adds}
use Rattle.spec_text.specs.Rows.{row, wrong_arity, wrong_count, expected, passed, misnamed, end_row}
use Rattle.spec_text.specs.Reading.{End, outcome, unless, terminal_of, ends_by}
use Rattle.spec_text.specs.Declarations.{behind, added}
use Rattle.timbuk_reader.specs.View.{refusal_at, end_fault}
use Rattle.spec_text.specs.Reading.{sees}
use Rattle.timbuk_reader.specs.declared.fault.SpecError.{SpecError}
use Rattle.timbuk_reader.specs.declared.state.Reader.{Reader}
use Rattle.timbuk_reader.specs.View.{Open, declared, end_of, as_error}
use Rattle.spec_text.specs.Reading.{settled}
use Rattle.timbuk_reader.specs.Reads.{Took, Stops, HasNoWord, missed, long}
use Rattle.timbuk_reader.specs.AutomatonReads.{miscounts, IsReady}
use Rattle.std.proofs.Math.Bool.{and-false, or-true}
use Rattle.timbuk_reader.proofs.parsing.Parts.{Front, choice_unseen, one_front, then_head, alike, both_alike, maybe_take, many_take, many_skip}
use Rattle.timbuk_reader.proofs.parsing.Tokens.{use_row, Quiet, not_closed, row_other, step_on, step_fault, step_wrong, step_unexpected, step_end, mark_row, mark_adds}
use Rattle.timbuk_reader.proofs.parsing.PatternNames.{name_quiet}
use Rattle.timbuk_reader.proofs.parsing.Tokens.{declared_same, long_row}

-- ---- a token by what is open

pub arity_by : (d : Declared) (x : Lexeme) → d.last ≡ any → wrong_count d.applications x ≡ false → wrong_arity d x ≡ false
unfolding wrong_arity
arity_by d x l c = rw (l, c) refl

pub quiet_by : (d : Declared) (x : Lexeme) → d.last ≡ any → wrong_count d.applications x ≡ false → Quiet d x
quiet_by d x l c = record { arity = arity_by d x l c; leaf = rw l refl }

-- nothing that is expected stands next, and no number of arguments is wrong
pub missed_here : (ps : List Part) (t : Terminal) (qs : List Part) (end : End) (d : Declared) (xs : List Lexeme) → Front ps t qs → sees t xs ≡ false → d.last ≡ any → miscounts d.applications xs ≡ false
    → outcome end ps d xs ≡ Err (refusal_at kind.Expected end xs)
missed_here ps t qs end d [] h e l c = step_end ps end d h.end
missed_here ps t qs end d (x ∷ xs) h e l c = step_unexpected ps end d x xs (choice_unseen ps t qs x h e) (arity_by d x l c)

-- nothing is open that counts arguments
no_counts : (xs : List Lexeme) → miscounts [] xs ≡ false
no_counts [] = refl
no_counts (x ∷ xs) = refl

pub calm_ready : (o : Open) (r : Reader) → o.applications ≡ [] → o.last ≡ any → IsReady o r
calm_ready o r e f = record { last = f; count = ap (λ a. miscounts a r.tokens.now) e ∙ no_counts r.tokens.now }

-- what is read where a token was taken
pub took_run : (t : Terminal) (r m : Reader) (o : Open) (ps : List Part) → (k : Took t r m) → outcome (end_of r) ps (declared o r) r.tokens.now ≡ outcome (end_of m) ps (declared o m) (k.token ∷ m.tokens.now)
took_run t r m o ps k = λ i. outcome (sym k.end i) ps (sym (declared_same o r m k.state k.bound) i) (k.tokens i)

-- no word stands there, or a long one
pub no_name_stops : (p : Role) (r : Reader) (e : SpecError) (o : Open) → IsReady o r → HasNoWord (terminal.Named p) r e → Stops (name p) o r e
no_name_stops p r e o ready (missed m) = record {
  by = λ ne ps.
      ap (λ z. as_error (settled z)) (missed_here (name p ∷ ps) (terminal.Named p) ps (end_of r) (declared o r) r.tokens.now (one_front (terminal.Named p) ps) m.unseen ready.last ready.count) ∙ ap Err (sym m.told);
}
no_name_stops p r e o ready (long l told) = record {
  by = λ ne ps.
      let d = declared o r in
      let fits = row_other (terminal.Named p) d l.token tt l.matched (name_quiet p l.token l.matched d ready.last) ∙ long_row (terminal.Named p) l.token.text d tt l.long in
      ap (λ z. as_error (settled z)) (ap (outcome (end_of r) (name p ∷ ps) d) l.tokens
      ∙ step_fault (name p ∷ ps) (terminal.Named p) ps (end_of r) d l.token l.rest (kind.Limit limit.NameBytes) (one_front (terminal.Named p) ps) l.matched fits
      ∙ ap (λ xs. Err (refusal_at (kind.Limit limit.NameBytes) (end_of r) xs)) (sym l.tokens)) ∙ ap Err (sym told);
}

-- ---- a `(` behind a name

-- a `(` is no other mark of arguments
paren_count : (applications : List Application) (x : Lexeme) → matches terminal.OpenParen x ≡ true → wrong_count applications x ≡ false
paren_count [] x e = refl
paren_count (a ∷ outer) x e = rw (differ.apart terminal.OpenParen terminal.CloseParen x refl e, differ.apart terminal.OpenParen terminal.Comma x refl e) refl

applied_row : (t : Option Terminal) (d : Declared) (x : Lexeme) → d.last ≡ leaf → matches terminal.OpenParen x ≡ true → row t d x ≡ Some kind.Expected
unfolding row expected wrong_arity
applied_row t d x l e = rw (not_closed terminal.OpenParen x e, l, paren_count d.applications x e, e, or-true (is_none t)) refl

-- a `(` behind a variable or a state
pub leaf_applied : (ps : List Part) (end : End) (d : Declared) (xs : List Lexeme) → d.last ≡ leaf → sees terminal.OpenParen xs ≡ true → outcome end ps d xs ≡ Err (refusal_at kind.Expected end xs)
leaf_applied ps end d [] l e = cc
leaf_applied ps end d (x ∷ xs) l e =
    let c = choice_of ps x in
    ap (λ k. unless k x (outcome end (behind c) (added c x d) xs)) (applied_row (terminal_of c) d x l e)
    ∙ rw (not_closed terminal.OpenParen x e) refl

-- ---- the arguments of a symbol

-- a `(` behind a symbol of arity 0
pub constant_applied : (ps : List Part) (end : End) (d : Declared) (xs : List Lexeme) → d.last ≡ constant → sees terminal.OpenParen xs ≡ true → outcome end ps d xs ≡ Err (refusal_at kind.WrongArity end xs)
unfolding wrong_arity
constant_applied ps end d [] l e = cc
constant_applied ps end d (x ∷ xs) l e = step_wrong ps end d x xs (rw (l, e) refl)

function_end : (ending : Ending) (ps : List Part) (end : End) (d : Declared) → d.last ≡ function → ends_by ending end ps d ≡ Err (end_fault ending end)
unfolding end_row
function_end Whole ps end d l = rw (l, and-false (list_all empties ps)) refl
function_end (Stopped why line column) ps end d l = refl

-- no `(` behind a symbol of another arity
pub function_bare : (ps : List Part) (end : End) (d : Declared) (xs : List Lexeme) → d.last ≡ function → sees terminal.OpenParen xs ≡ false → outcome end ps d xs ≡ Err (refusal_at kind.WrongArity end xs)
unfolding wrong_arity
function_bare ps end d [] l e = function_end end.ending ps end d l
function_bare ps end d (x ∷ xs) l e = step_wrong ps end d x xs (rw (l, e) refl)

-- an argument may stand there
pub ready_count : (a : Application) (outer : List Application) (xs : List Lexeme) → length a.args < a.arity → sees terminal.CloseParen xs ≡ false → miscounts (a ∷ outer) xs ≡ false
ready_count a outer [] less e = refl
ready_count a outer (x ∷ xs) less e = let few : nat_le a.arity (length a.args) ≡ false = grind (arith, nat_tests) in rw (e, few) (and-false (matches terminal.Comma x))

-- what follows an argument
abbrev pub more_of : Part → Part
more_of a = many (one terminal.Comma then a) then one terminal.CloseParen

module _ (a : Part) (ps : List Part) (end : End) (d : Declared) where
  -- the `(`
  pub arguments_open : (x : Lexeme) (xs : List Lexeme) → d.last ≡ function → matches terminal.OpenParen x ≡ true → outcome end (arguments a ∷ ps) d (x ∷ xs) ≡ outcome end (a ∷ more_of a ∷ ps) (record d { last = any }) xs
  unfolding wrong_arity
  arguments_open x xs l e =
      let rest = a then more_of a in
      let quiet : Quiet d x = record { arity = rw (l, e, paren_count d.applications x e) refl; leaf = rw l refl } in
      maybe_take (one terminal.OpenParen then rest) terminal.OpenParen (then_head terminal.OpenParen rest) end d ps (x ∷ xs) e
      ∙ alike _ _ end d (x ∷ xs) (both_alike (one terminal.OpenParen) rest ps)
      ∙ step_on (one terminal.OpenParen ∷ rest ∷ ps) terminal.OpenParen (rest ∷ ps) end d x xs (one_front terminal.OpenParen (rest ∷ ps)) e (row_other terminal.OpenParen d x tt e quiet ∙ mark_row terminal.OpenParen x.text d tt)
      ∙ ap (λ z. outcome end (rest ∷ ps) z xs) (mark_adds terminal.OpenParen x.text d tt)
      ∙ alike _ _ end (record d { last = any }) xs (both_alike a (more_of a) ps)

  module _ (application : Application) (outer : List Application) (open_is : d.applications ≡ application ∷ outer) (last_is : d.last ≡ any) where
    quiet_here : (x : Lexeme) → wrong_count (application ∷ outer) x ≡ false → Quiet d x
    quiet_here x c = quiet_by d x last_is (ap (λ l. wrong_count l x) open_is ∙ c)

    arity_here : (x : Lexeme) → wrong_count (application ∷ outer) x ≡ true → wrong_arity d x ≡ true
    unfolding wrong_arity
    arity_here x c = rw last_is (ap (λ l. wrong_count l x) open_is ∙ c)

    -- a `,` in front of a further argument
    pub argument_next : (x : Lexeme) (xs : List Lexeme) → length application.args < application.arity → matches terminal.Comma x ≡ true
        → outcome end (more_of a ∷ ps) d (x ∷ xs) ≡ outcome end (a ∷ many (one terminal.Comma then a) ∷ one terminal.CloseParen ∷ ps) (record d { last = any }) xs
    argument_next x xs less e =
        let qs = one terminal.CloseParen ∷ ps in
        let more = many (one terminal.Comma then a) in
        let few : nat_le application.arity (length application.args) ≡ false = grind (arith, nat_tests) in
        alike _ _ end d (x ∷ xs) (both_alike more (one terminal.CloseParen) ps)
        ∙ many_take (one terminal.Comma then a) terminal.Comma (then_head terminal.Comma a) end d qs (x ∷ xs) e
        ∙ alike _ _ end d (x ∷ xs) (both_alike (one terminal.Comma) a (more ∷ qs))
        ∙ step_on (one terminal.Comma ∷ a ∷ more ∷ qs) terminal.Comma (a ∷ more ∷ qs) end d x xs (one_front terminal.Comma (a ∷ more ∷ qs)) e
        (row_other terminal.Comma d x tt e (quiet_here x (rw (differ.apart terminal.Comma terminal.CloseParen x refl e, e, few) refl)) ∙ mark_row terminal.Comma x.text d tt)
        ∙ ap (λ z. outcome end (a ∷ more ∷ qs) z xs) (mark_adds terminal.Comma x.text d tt)

    -- a `)` behind too few arguments
    pub argument_lacks : (qs : List Part) (xs : List Lexeme) → length application.args < application.arity → sees terminal.CloseParen xs ≡ true → outcome end qs d xs ≡ Err (refusal_at kind.WrongArity end xs)
    argument_lacks qs [] less e = cc
    argument_lacks qs (x ∷ xs) less e =
        let few : nat_lt (length application.args) application.arity ≡ true = grind (arith, nat_tests) in
        step_wrong qs end d x xs (arity_here x (rw (e, few) refl))

    -- a `,` behind as many as the arity
    pub argument_exceeds : (qs : List Part) (xs : List Lexeme) → application.arity ≤ length application.args → sees terminal.Comma xs ≡ true → outcome end qs d xs ≡ Err (refusal_at kind.WrongArity end xs)
    argument_exceeds qs [] all e = cc
    argument_exceeds qs (x ∷ xs) all e =
        let full : nat_le application.arity (length application.args) ≡ true = grind (arith, nat_tests) in
        step_wrong qs end d x xs (arity_here x (rw (differ.apart terminal.Comma terminal.CloseParen x refl e, e, full) refl))

    -- neither a `,` nor a `)`
    pub argument_unmarked : (xs : List Lexeme) → sees terminal.CloseParen xs ≡ false → sees terminal.Comma xs ≡ false → outcome end (more_of a ∷ ps) d xs ≡ Err (refusal_at kind.Expected end xs)
    argument_unmarked [] e g = step_end (more_of a ∷ ps) end d refl
    argument_unmarked (x ∷ xs) e g =
        let qs = one terminal.CloseParen ∷ ps in
        alike _ _ end d (x ∷ xs) (both_alike (many (one terminal.Comma then a)) (one terminal.CloseParen) ps)
        ∙ many_skip (one terminal.Comma then a) terminal.Comma (then_head terminal.Comma a) end d qs (x ∷ xs) g
        ∙ step_unexpected qs end d x xs (choice_unseen qs terminal.CloseParen ps x (one_front terminal.CloseParen ps) e) (arity_by d x last_is (ap (λ l. wrong_count l x) open_is ∙ rw (e, g) refl))

    close_row : (x : Lexeme) → use_row terminal.CloseParen x.text d ≡ None
    unfolding passed misnamed
    close_row x = refl

    close_adds : (x : Lexeme) → adds terminal.CloseParen x.text d ≡ closes (application ∷ outer) d
    unfolding adds
    close_adds x = ap (λ l. closes l d) open_is

    -- the `)`
    pub arguments_close : (x : Lexeme) (xs : List Lexeme) → application.arity ≤ length application.args → matches terminal.CloseParen x ≡ true
        → outcome end (more_of a ∷ ps) d (x ∷ xs) ≡ outcome end ps (closes (application ∷ outer) d) xs
    arguments_close x xs all e =
        let qs = one terminal.CloseParen ∷ ps in
        let full : nat_lt (length application.args) application.arity ≡ false = grind (arith, nat_tests) in
        alike _ _ end d (x ∷ xs) (both_alike (many (one terminal.Comma then a)) (one terminal.CloseParen) ps)
        ∙ many_skip (one terminal.Comma then a) terminal.Comma (then_head terminal.Comma a) end d qs (x ∷ xs) (differ.apart terminal.CloseParen terminal.Comma x refl e)
        ∙ step_on qs terminal.CloseParen ps end d x xs (one_front terminal.CloseParen ps) e
        (row_other terminal.CloseParen d x tt e (quiet_here x (rw (differ.apart terminal.CloseParen terminal.Comma x refl e, e, full) refl)) ∙ close_row x)
        ∙ ap (λ z. outcome end ps z xs) (close_adds x)
