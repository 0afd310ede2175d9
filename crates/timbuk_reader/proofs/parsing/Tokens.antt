-- The first row that fits one token.
use Rattle.std.proofs.Common.{◌≡◌, ◌<◌, length, arith, Bool, true, false, not, ◌&&◌, ◌||◌, ◌==◌, List, [], ◌∷◌, Option, Some, None, Ok, Err, Result, refl, ap, sym, ◌∙◌}
use Rattle.std.specs.Prelude.{codes, option_map, nat_lt, is_none}
use Rattle.std.specs.List.{list_all, list_any}
use Rattle.std.specs.Char.{is_ascii_digit}
use Rattle.std.specs.Str.{bytes_eq}
use Rattle.std.proofs.lemmas.Bool.Decides.{nat_tests}
use Rattle.std.proofs.lemmas.Slice.Eq.{bytes_eq-Decides}
use Rattle.timbuk_lex.specs.declared.lexeme.Lexeme.{Lexeme}
use Rattle.timbuk_lex.specs.declared.lexeme.TokenKind.{TokenKind}
use Rattle.timbuk_lex.specs.declared.lexeme.TokenKind.TheVariants.{Word, Text, Mark}
use Rattle.timbuk_lex.specs.declared.lex.Ending.{Ending}
use Rattle.timbuk_lex.specs.declared.lex.Ending.TheVariants.{Whole, Stopped}
use Rattle.timbuk_grammar.specs.declared.terminal.Terminal.{Terminal}
use Rattle.timbuk_grammar.specs.declared.terminal.Terminal.TheVariants as terminal
use Rattle.timbuk_grammar.specs.Vocabulary.{section_words, is_closed, is_reserved}
use Rattle.timbuk_grammar.specs.Matching.{is_word, is_mark, is_text, matches}
use Rattle.timbuk_grammar.specs.Grammar.{Part, one}
use Rattle.timbuk_grammar.specs.Next.{empties, Choice, choice_of}
use Rattle.timbuk_grammar.specs.lemmas.Differ as differ
use Rattle.spec_text.specs.declared.fault.SpecKind.{SpecKind}
use Rattle.spec_text.specs.declared.fault.SpecKind.TheVariants as kind
use Rattle.spec_text.specs.declared.fault.LimitName.TheVariants as limit
use Rattle.timbuk_reader.specs.declared.fault.SpecError.{SpecError}
use Rattle.timbuk_reader.specs.declared.fault.SpecError.TheVariants as error
use Rattle.timbuk_reader.specs.declared.state.Reader.{Reader}
use Rattle.spec_text.specs.Declarations.{Text as Bytes, Declared, any, adds}
use Rattle.spec_text.specs.Rows.{row, or, when, is_closed_word, wrong_arity, unexpected_after, expected, at_terminal, passed, misnamed, end_row}
use Rattle.spec_text.specs.Reading.{End, outcome, ends_by, unless, terminal_of}
use Rattle.spec_text.specs.Rows.{fault}
use Rattle.spec_text.specs.Declarations.{behind, added}
use Rattle.timbuk_reader.specs.View.{Open, closed, naming, declared, inside, state_of, end_of, end_fault, as_error, told, refusal_at, refusal}
use Rattle.spec_text.specs.Reading.{settled, sees}
use Rattle.timbuk_reader.specs.Reads.{Advances, Stops, Reads, IsCalm, IsMark, IsWordly, Took, Takes, Missed, Stands, HasNoWord, missed, long}
use Rattle.timbuk_reader.proofs.parsing.Parts.{Front, choice_seen, choice_unseen, one_front}

-- ---- a token that is expected is no closed word

open_word : (k : Bool) (text a : Bytes) → is_closed a ≡ false → (k && bytes_eq text a) ≡ true → (k && is_closed text) ≡ false
open_word false text a d e = refl
open_word true text a d e = ap is_closed ((bytes_eq-Decides text a).0 e) ∙ d

open_or : (a b : Bool) → not (a || b) ≡ true → b ≡ false
open_or true b e = cc
open_or false true e = cc
open_or false false e = refl

open_name : (k : Bool) (text : Bytes) → (k && not (is_reserved text)) ≡ true → (k && is_closed text) ≡ false
unfolding is_reserved
open_name false text e = refl
open_name true text e = open_or (list_any (λ w. bytes_eq w text) section_words) (is_closed text) e

open_mark : (k : TokenKind) (p q : Bool) → (is_mark k && p) ≡ true → (is_word k && q) ≡ false
open_mark Word p q e = cc
open_mark Text p q e = refl
open_mark Mark p q e = refl

open_text : (k : TokenKind) (q : Bool) → is_text k ≡ true → (is_word k && q) ≡ false
open_text Word q e = cc
open_text Text q e = refl
open_text Mark q e = cc

no_equal : (p : Bytes → Bool) (a b : Bytes) (same : Bool) → bytes_eq a b ≡ same → p a ≡ false → p b ≡ true → bytes_eq a b ≡ false
no_equal p a b true i e f = let h = ap p ((bytes_eq-Decides a b).0 i) in cc
no_equal p a b false i e f = i

no_digits_in : (a text : Bytes) → list_all is_ascii_digit a ≡ false → list_all is_ascii_digit text ≡ true → bytes_eq a text ≡ false
no_digits_in a text e f = no_equal (list_all is_ascii_digit) a text (bytes_eq a text) refl e f

open_digits : (text : Bytes) → list_all is_ascii_digit text ≡ true → is_closed text ≡ false
unfolding is_closed
open_digits text e = rw (no_digits_in (codes "Import") text refl e, no_digits_in (codes "Set") text refl e, no_digits_in (codes "Patterns") text refl e) refl

open_number : (k : Bool) (text : Bytes) → (k && list_all is_ascii_digit text) ≡ true → (k && is_closed text) ≡ false
open_number false text e = refl
open_number true text e = open_digits text e

pub not_closed : (t : Terminal) (x : Lexeme) → matches t x ≡ true → is_closed_word x ≡ false
unfolding is_closed
not_closed terminal.Ops x e = open_word (is_word x.kind) x.text (codes "Ops") refl e
not_closed terminal.Vars x e = open_word (is_word x.kind) x.text (codes "Vars") refl e
not_closed terminal.Trs x e = open_word (is_word x.kind) x.text (codes "TRS") refl e
not_closed terminal.Automaton x e = open_word (is_word x.kind) x.text (codes "Automaton") refl e
not_closed terminal.States x e = open_word (is_word x.kind) x.text (codes "States") refl e
not_closed terminal.Description x e = open_word (is_word x.kind) x.text (codes "Description") refl e
not_closed terminal.Final x e = open_word (is_word x.kind) x.text (codes "Final") refl e
not_closed terminal.Prior x e = open_word (is_word x.kind) x.text (codes "Prior") refl e
not_closed terminal.Transitions x e = open_word (is_word x.kind) x.text (codes "Transitions") refl e
not_closed terminal.Equations x e = open_word (is_word x.kind) x.text (codes "Equations") refl e
not_closed terminal.Approximation x e = open_word (is_word x.kind) x.text (codes "Approximation") refl e
not_closed terminal.Rules x e = open_word (is_word x.kind) x.text (codes "Rules") refl e
not_closed terminal.Zero x e = open_word (is_word x.kind) x.text (codes "0") refl e
not_closed terminal.Colon x e = open_mark x.kind _ _ e
not_closed terminal.OpenParen x e = open_mark x.kind _ _ e
not_closed terminal.CloseParen x e = open_mark x.kind _ _ e
not_closed terminal.Comma x e = open_mark x.kind _ _ e
not_closed terminal.Arrow x e = open_mark x.kind _ _ e
not_closed terminal.Equals x e = open_mark x.kind _ _ e
not_closed terminal.OpenBracket x e = open_mark x.kind _ _ e
not_closed terminal.CloseBracket x e = open_mark x.kind _ _ e
not_closed terminal.CloseEntries x e = open_mark x.kind _ _ e
not_closed (terminal.Named place) x e = open_name (is_word x.kind) x.text e
not_closed terminal.Number x e = open_number (is_word x.kind) x.text e
not_closed terminal.Quoted x e = open_text x.kind _ e

-- ---- and only the word `Approximation` begins an approximation

abbrev pub IsOther : Terminal → Type 0
IsOther terminal.Approximation = ⊥
IsOther _ = Unit {0}

not_equal : (a b : Bytes) (same : Bool) → bytes_eq a b ≡ same → list_all is_ascii_digit a ≡ true → list_all is_ascii_digit b ≡ false → bytes_eq a b ≡ false
not_equal a b true i e f = let h = ap (list_all is_ascii_digit) ((bytes_eq-Decides a b).0 i) in cc
not_equal a b false i e f = i

no_digits : (k : Bool) (text : Bytes) → (k && list_all is_ascii_digit text) ≡ true → (k && bytes_eq text (codes "Approximation")) ≡ false
no_digits false text e = refl
no_digits true text e = not_equal text (codes "Approximation") (bytes_eq text (codes "Approximation")) refl e refl

pub no_approximation : (t : Terminal) (x : Lexeme) → IsOther t → matches t x ≡ true → matches terminal.Approximation x ≡ false
unfolding is_reserved
no_approximation terminal.Approximation x o e = absurd o
no_approximation terminal.Number x o e = no_digits (is_word x.kind) x.text e
no_approximation terminal.Quoted x o e = open_text x.kind _ e
no_approximation terminal.Ops x o e = differ.apart terminal.Ops terminal.Approximation x refl e
no_approximation terminal.Vars x o e = differ.apart terminal.Vars terminal.Approximation x refl e
no_approximation terminal.Trs x o e = differ.apart terminal.Trs terminal.Approximation x refl e
no_approximation terminal.Automaton x o e = differ.apart terminal.Automaton terminal.Approximation x refl e
no_approximation terminal.States x o e = differ.apart terminal.States terminal.Approximation x refl e
no_approximation terminal.Description x o e = differ.apart terminal.Description terminal.Approximation x refl e
no_approximation terminal.Final x o e = differ.apart terminal.Final terminal.Approximation x refl e
no_approximation terminal.Prior x o e = differ.apart terminal.Prior terminal.Approximation x refl e
no_approximation terminal.Transitions x o e = differ.apart terminal.Transitions terminal.Approximation x refl e
no_approximation terminal.Equations x o e = differ.apart terminal.Equations terminal.Approximation x refl e
no_approximation terminal.Rules x o e = differ.apart terminal.Rules terminal.Approximation x refl e
no_approximation terminal.Colon x o e = differ.apart terminal.Colon terminal.Approximation x refl e
no_approximation terminal.OpenParen x o e = differ.apart terminal.OpenParen terminal.Approximation x refl e
no_approximation terminal.CloseParen x o e = differ.apart terminal.CloseParen terminal.Approximation x refl e
no_approximation terminal.Comma x o e = differ.apart terminal.Comma terminal.Approximation x refl e
no_approximation terminal.Arrow x o e = differ.apart terminal.Arrow terminal.Approximation x refl e
no_approximation terminal.Equals x o e = differ.apart terminal.Equals terminal.Approximation x refl e
no_approximation terminal.OpenBracket x o e = differ.apart terminal.OpenBracket terminal.Approximation x refl e
no_approximation terminal.CloseBracket x o e = differ.apart terminal.CloseBracket terminal.Approximation x refl e
no_approximation terminal.CloseEntries x o e = differ.apart terminal.CloseEntries terminal.Approximation x refl e
no_approximation (terminal.Named place) x o e = differ.apart (terminal.Named place) terminal.Approximation x refl e
no_approximation terminal.Zero x o e = differ.apart terminal.Zero terminal.Approximation x refl e

-- ---- rows

-- what is left to look at where the token may stand there
abbrev pub use_row : Terminal → Bytes → Declared → Option SpecKind
use_row t text d = or (option_map kind.Limit (passed t text d)) (misnamed t text d)

-- nothing before decides on this token
pub record Quiet (d : Declared) (x : Lexeme) : Type 0 where
  pub arity : wrong_arity d x ≡ false
  pub leaf : unexpected_after d.last x ≡ false

pub row_expected : (t : Terminal) (d : Declared) (x : Lexeme) → matches t x ≡ true → Quiet d x → (matches terminal.Approximation x && d.automata == 0) ≡ false → row (Some t) d x ≡ use_row t x.text d
unfolding row expected
row_expected t d x e h n = rw (not_closed t x e, h.arity, h.leaf, n) refl

pub row_other : (t : Terminal) (d : Declared) (x : Lexeme) → IsOther t → matches t x ≡ true → Quiet d x → row (Some t) d x ≡ use_row t x.text d
row_other t d x o e h = row_expected t d x e h (ap (λ b. b && d.automata == 0) (no_approximation t x o e))

kind_told : (b : Bool) (k : SpecKind) (m : Option SpecKind) → or (when b kind.UnknownSection) (or (when true k) m) ≡ Some (told b k)
kind_told true k m = refl
kind_told false k m = refl

pub row_unexpected : (d : Declared) (x : Lexeme) → wrong_arity d x ≡ false → row None d x ≡ Some (told (is_closed_word x) kind.Expected)
unfolding row expected
row_unexpected d x h = rw h (kind_told (is_closed_word x) kind.Expected None)

pub row_wrong : (t : Option Terminal) (d : Declared) (x : Lexeme) → wrong_arity d x ≡ true → row t d x ≡ Some (told (is_closed_word x) kind.WrongArity)
unfolding row
row_wrong t d x h = rw h (kind_told (is_closed_word x) kind.WrongArity (or (when (expected t d x) kind.Expected) (at_terminal t x d)))

-- ---- one token

at_choice : (ps : List Part) (end : End) (d : Declared) (x : Lexeme) (rest : List Lexeme) (c : Option Choice) → choice_of ps x ≡ c → outcome end ps d (x ∷ rest) ≡ unless (row (terminal_of c) d x) x (outcome end (behind c) (added c x d) rest)
at_choice ps end d x rest c e = ap (λ c. unless (row (terminal_of c) d x) x (outcome end (behind c) (added c x d) rest)) e

-- a token at which no row fits
pub step_on : (ps : List Part) (t : Terminal) (qs : List Part) (end : End) (d : Declared) (x : Lexeme) (rest : List Lexeme) → Front ps t qs → matches t x ≡ true → row (Some t) d x ≡ None → outcome end ps d (x ∷ rest) ≡ outcome end qs (adds t x.text d) rest
step_on ps t qs end d x rest h e n = at_choice ps end d x rest _ (choice_seen ps t qs x h e) ∙ ap (λ k. unless k x (outcome end qs (adds t x.text d) rest)) n

-- a token that is refused by its row
pub step_fault : (ps : List Part) (t : Terminal) (qs : List Part) (end : End) (d : Declared) (x : Lexeme) (rest : List Lexeme) (k : SpecKind) → Front ps t qs → matches t x ≡ true → row (Some t) d x ≡ Some k → outcome end ps d (x ∷ rest) ≡ Err (refusal_at k end (x ∷ rest))
step_fault ps t qs end d x rest k h e n =
    at_choice ps end d x rest _ (choice_seen ps t qs x h e) ∙ ap (λ k. unless k x (outcome end qs (adds t x.text d) rest)) n ∙ ap (λ b. Err (fault (told b k) x.line x.column)) (sym (not_closed t x e))

-- a token of another number of arguments
pub step_wrong : (ps : List Part) (end : End) (d : Declared) (x : Lexeme) (rest : List Lexeme) → wrong_arity d x ≡ true → outcome end ps d (x ∷ rest) ≡ Err (refusal_at kind.WrongArity end (x ∷ rest))
step_wrong ps end d x rest e =
    let c = choice_of ps x in
    ap (λ k. unless k x (outcome end (behind c) (added c x d) rest)) (row_wrong (terminal_of c) d x e)

-- a token that the grammar doesn't have there
pub step_unexpected : (ps : List Part) (end : End) (d : Declared) (x : Lexeme) (rest : List Lexeme) → choice_of ps x ≡ None → wrong_arity d x ≡ false → outcome end ps d (x ∷ rest) ≡ Err (refusal_at kind.Expected end (x ∷ rest))
step_unexpected ps end d x rest e h = at_choice ps end d x rest None e ∙ ap (λ k. unless k x (outcome end [] d rest)) (row_unexpected d x h)

end_early : (ending : Ending) (ps : List Part) (end : End) (d : Declared) → list_all empties ps ≡ false → ends_by ending end ps d ≡ Err (end_fault ending end)
unfolding end_row
end_early Whole ps end d e = rw e refl
end_early (Stopped why line column) ps end d e = refl

-- the end, where it may not stand
pub step_end : (ps : List Part) (end : End) (d : Declared) → list_all empties ps ≡ false → outcome end ps d [] ≡ Err (refusal_at kind.Expected end [])
step_end ps end d e = end_early end.ending ps end d e

-- nothing that is expected stands next
pub step_missed : (ps : List Part) (t : Terminal) (qs : List Part) (end : End) (d : Declared) (xs : List Lexeme) → Front ps t qs → sees t xs ≡ false → ((x : Lexeme) → wrong_arity d x ≡ false) → outcome end ps d xs ≡ Err (refusal_at kind.Expected end xs)
step_missed ps t qs end d [] h e calm = step_end ps end d h.end
step_missed ps t qs end d (x ∷ xs) h e calm = step_unexpected ps end d x xs (choice_unseen ps t qs x h e) (calm x)

leaf_told : (a : Bool) (t : Option Terminal) (u o : Bool) (m : Option SpecKind) → u ≡ true → or (when a kind.UnknownSection) (or (when false kind.WrongArity) (or (when (is_none t || u || o) kind.Expected) m)) ≡ Some (told a kind.Expected)
leaf_told true t u o m e = refl
leaf_told false None u o m e = refl
leaf_told false (Some t) u o m e = rw e refl

row_leaf : (t : Option Terminal) (d : Declared) (x : Lexeme) → wrong_arity d x ≡ false → unexpected_after d.last x ≡ true → row t d x ≡ Some (told (is_closed_word x) kind.Expected)
unfolding row expected
row_leaf t d x h e = rw h (leaf_told (is_closed_word x) t (unexpected_after d.last x) (matches terminal.Approximation x && d.automata == 0) (at_terminal t x d) e)

-- a `(` behind a name that has no arguments and is no symbol
pub step_leaf : (ps : List Part) (end : End) (d : Declared) (x : Lexeme) (rest : List Lexeme) → wrong_arity d x ≡ false → unexpected_after d.last x ≡ true → outcome end ps d (x ∷ rest) ≡ Err (refusal_at kind.Expected end (x ∷ rest))
step_leaf ps end d x rest h e =
    let c = choice_of ps x in
    ap (λ k. unless k x (outcome end (behind c) (added c x d) rest)) (row_leaf (terminal_of c) d x h e)

-- ---- marks and words where nothing else is open

pub calm_arity : (d : Declared) (x : Lexeme) → d.applications ≡ [] → d.last ≡ any → wrong_arity d x ≡ false
unfolding wrong_arity
calm_arity d x e f = rw (e, f) refl

pub calm_quiet : (d : Declared) (x : Lexeme) → d.applications ≡ [] → d.last ≡ any → Quiet d x
calm_quiet d x e f = record { arity = calm_arity d x e f; leaf = rw f refl }

-- what is open makes no difference to the reader's state
pub declared_same : (o : Open) (r u : Reader) → state_of u ≡ state_of r → u.bound ≡ r.bound → declared o u ≡ declared o r
declared_same o r u e b = λ i. inside o (b i) (e i)

mark_other : (t : Terminal) → IsMark t → IsOther t
mark_other terminal.Approximation m = absurd m
mark_other _ m = tt

pub mark_row : (t : Terminal) (text : Bytes) (d : Declared) → IsMark t → use_row t text d ≡ None
unfolding passed misnamed
mark_row terminal.Trs text d m = absurd m
mark_row terminal.Automaton text d m = absurd m
mark_row terminal.Equations text d m = absurd m
mark_row terminal.Approximation text d m = absurd m
mark_row terminal.CloseEntries text d m = absurd m
mark_row (terminal.Named place) text d m = absurd m
mark_row terminal.Number text d m = absurd m
mark_row _ text d m = refl

pub mark_adds : (t : Terminal) (text : Bytes) (d : Declared) → IsMark t → adds t text d ≡ record d { last = any }
unfolding adds
mark_adds terminal.Trs text d m = absurd m
mark_adds terminal.Automaton text d m = absurd m
mark_adds terminal.Equations text d m = absurd m
mark_adds terminal.Approximation text d m = absurd m
mark_adds terminal.CloseParen text d m = absurd m
mark_adds terminal.CloseEntries text d m = absurd m
mark_adds (terminal.Named place) text d m = absurd m
mark_adds terminal.Number text d m = absurd m
mark_adds _ text d m = refl

pub mark_on : (t : Terminal) (ps : List Part) (end : End) (d : Declared) (x : Lexeme) (rest : List Lexeme) → IsMark t → d.applications ≡ [] → d.last ≡ any → matches t x ≡ true → outcome end (one t ∷ ps) d (x ∷ rest) ≡ outcome end ps d rest
mark_on t ps end d x rest m e f h =
    step_on (one t ∷ ps) t ps end d x rest (one_front t ps) h (row_other t d x (mark_other t m) h (calm_quiet d x e f) ∙ mark_row t x.text d m)
    ∙ ap (λ z. outcome end ps z rest) (mark_adds t x.text d m ∙ ap (λ l. record d { last = l }) (sym f))

-- a mark was taken
pub mark_advances : (t : Terminal) (o : Open) (r u : Reader) → IsMark t → IsCalm o → Took t r u → Advances (one t) o r o u
mark_advances t o r u m h k = record {
  by = λ ps.
      ap settled (ap (outcome (end_of r) (one t ∷ ps) (declared o r)) k.tokens
      ∙ mark_on t ps (end_of r) (declared o r) k.token u.tokens.now m h.applications h.last k.matched
      ∙ (λ i. outcome (sym k.end i) ps (sym (declared_same o r u k.state k.bound) i) u.tokens.now));
}

-- a terminal was not there
pub mark_stops : (t : Terminal) (o : Open) (r : Reader) (e : SpecError) → IsCalm o → Missed t r e → Stops (one t) o r e
mark_stops t o r e h k = record {
  by = λ ne ps.
      ap (λ z. as_error (settled z)) (step_missed (one t ∷ ps) t ps (end_of r) (declared o r) r.tokens.now (one_front t ps) k.unseen (λ x. calm_arity (declared o r) x h.applications h.last)) ∙ ap Err (sym k.told);
}

pub closed_calm : IsCalm closed
closed_calm = record { applications = refl; last = refl }

pub naming_calm : (name : Bytes) → IsCalm (naming name)
naming_calm name = record { applications = refl; last = refl }

pub took : (t : Terminal) (r u : Reader) (x : Lexeme) → sees t r.tokens.now ≡ true → r.tokens.now ≡ x ∷ u.tokens.now → state_of u ≡ state_of r → u.bound ≡ r.bound → end_of u ≡ end_of r → Took t r u
took t r u x e h s b n = record { token = x; matched = rw h at e; tokens = h; state = s; bound = b; end = n }

pub mark_reads : {X : Type 0} (t : Terminal) (o : Open) (r u : Reader) (result : Result X SpecError) → IsMark t → IsCalm o → Takes t r result u → Reads (one t) o r result o u
mark_reads t o r u (Ok x) m h k = mark_advances t o r u m h k
mark_reads t o r u (Err e) m h k = mark_stops t o r e h k

-- ---- words

word_other : (t : Terminal) → IsWordly t → IsOther t
word_other (terminal.Named place) w = tt
word_other terminal.Number w = tt
word_other _ w = absurd w

pub word_row : (t : Terminal) (d : Declared) (x : Lexeme) → IsWordly t → d.applications ≡ [] → d.last ≡ any → matches t x ≡ true → row (Some t) d x ≡ use_row t x.text d
word_row t d x w e f h = row_other t d x (word_other t w) h (calm_quiet d x e f)

-- a word was read
pub word_advances : (t : Terminal) (o q : Open) (r u : Reader) (text : Bytes) (x : Lexeme) → IsWordly t → IsCalm o → Stands t r text → use_row t text (declared o r) ≡ None
    → r.tokens.now ≡ x ∷ u.tokens.now → end_of u ≡ end_of r → declared q u ≡ adds t text (declared o r) → Advances (one t) o r q u
word_advances t o q r u text x w h k n tokens end state = record {
  by = λ ps.
      let same : k.rest ≡ u.tokens.now = let e = sym k.tokens ∙ tokens in cc in
      let d = declared o r in
      ap settled (ap (outcome (end_of r) (one t ∷ ps) d) k.tokens
      ∙ step_on (one t ∷ ps) t ps (end_of r) d k.token k.rest (one_front t ps) k.matched (word_row t d k.token w h.applications h.last k.matched ∙ ap (λ z. use_row t z d) k.text_is ∙ n)
      ∙ (λ i. outcome (sym end i) ps (adds t (k.text_is i) d) (same i))
      ∙ ap (λ z. outcome (end_of u) ps z u.tokens.now) (sym state));
}

-- a word is refused
pub word_stops : (t : Terminal) (o : Open) (r : Reader) (text : Bytes) (k : SpecKind) (e : SpecError) → IsWordly t → IsCalm o → Stands t r text → use_row t text (declared o r) ≡ Some k → e ≡ error.Fault (refusal k r) → Stops (one t) o r e
word_stops t o r text k e w h s n told = record {
  by = λ ne ps.
      let d = declared o r in
      ap (λ z. as_error (settled z)) (ap (outcome (end_of r) (one t ∷ ps) d) s.tokens
      ∙ step_fault (one t ∷ ps) t ps (end_of r) d s.token s.rest k (one_front t ps) s.matched (word_row t d s.token w h.applications h.last s.matched ∙ ap (λ z. use_row t z d) s.text_is ∙ n)
      ∙ ap (λ xs. Err (refusal_at k (end_of r) xs)) (sym s.tokens)) ∙ ap Err (sym told);
}

pub long_row : (t : Terminal) (text : Bytes) (d : Declared) → IsWordly t → 255 < length text → use_row t text d ≡ Some (kind.Limit limit.NameBytes)
unfolding passed
long_row (terminal.Named place) text d w h = let e : nat_lt 255 (length text) ≡ true = grind (arith, nat_tests) in rw e refl
long_row terminal.Number text d w h = let e : nat_lt 255 (length text) ≡ true = grind (arith, nat_tests) in rw e refl
long_row _ text d w h = absurd w

-- no word stands there, or a long one
pub no_word_stops : (t : Terminal) (o : Open) (r : Reader) (e : SpecError) → IsWordly t → IsCalm o → HasNoWord t r e → Stops (one t) o r e
no_word_stops t o r e w h (missed m) = mark_stops t o r e h m
no_word_stops t o r e w h (long l told) = record {
  by = λ ne ps.
      let d = declared o r in
      ap (λ z. as_error (settled z)) (ap (outcome (end_of r) (one t ∷ ps) d) l.tokens
      ∙ step_fault (one t ∷ ps) t ps (end_of r) d l.token l.rest (kind.Limit limit.NameBytes) (one_front t ps) l.matched (word_row t d l.token w h.applications h.last l.matched ∙ long_row t l.token.text d w l.long)
      ∙ ap (λ xs. Err (refusal_at (kind.Limit limit.NameBytes) (end_of r) xs)) (sym l.tokens)) ∙ ap Err (sym told);
}
