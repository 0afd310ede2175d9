-- What the last token was doesn't matter where no parenthesis opens: outcomes with the last token forgotten.
use Rattle.std.proofs.Common.{◌≡◌, true, false, not, ◌&&◌, ◌||◌, ◌==◌, List, [], ◌∷◌, refl, ap, sym, ◌∙◌}
use Rattle.std.specs.Prelude.{if◌then◌else◌, Option, Some, None, Ok, Err, option_map}
use Rattle.timbuk_lex.specs.declared.lexeme.Lexeme.{Lexeme}
use Rattle.timbuk_grammar.specs.declared.terminal.Terminal.{Terminal}
use Rattle.timbuk_grammar.specs.declared.terminal.Terminal.TheVariants as terminal
use Rattle.timbuk_grammar.specs.Matching.{matches}
use Rattle.spec_text.specs.declared.fault.SpecKind.{SpecKind}
use Rattle.spec_text.specs.declared.fault.SpecKind.TheVariants as kind
use Rattle.spec_text.specs.Declarations.{Declared, Last, any, leaf, constant, function, adds}
use Rattle.spec_text.specs.Rows.{row, end_row, or as earlier, when, wrong_after, unexpected_after, wrong_arity, wrong_count, expected, is_closed_word, is_function}
use Rattle.spec_text.specs.Reading.{Outcome, End, end_by, unless}
use Rattle.ta_core.specs.declared.spec.Spec.{Spec}
use Rattle.spec_text.specs.Spelled.{IsSpecOf}
use Rattle.spec_text.proofs.agreement.tokens.Labels.{Label, judge}
use Rattle.spec_text.specs.Reading.{settled as calm}
use Rattle.spec_text.specs.lemmas.LastToken.{after, adds_after, passed_after, misnamed_after}

-- with the last token forgotten
abbrev pub forgets : Declared → Declared
forgets d = after any d

-- what is read, where the last token is forgotten at the start and at the end
abbrev pub settled : End → Declared → List Label → Outcome
settled end d xs = calm (judge end (forgets d) xs)

-- a token after which no parenthesis has to open
abbrev pub IsQuiet : Last → Type 0
IsQuiet function = ⊥
IsQuiet _ = Unit {0}

-- no parenthesis opens next
abbrev pub NotOpening : List Label → Type 0
NotOpening [] = Unit {0}
NotOpening (x ∷ xs) = matches terminal.OpenParen x.1 ≡ false

-- ---- the rows of the next token

-- what follows a quiet token, and opens no parenthesis, has the rows that it has after any other
pub quiet_after : (l : Last) (x : Lexeme) → IsQuiet l → matches terminal.OpenParen x ≡ false → wrong_after l x ≡ false
quiet_after constant x q h = h
quiet_after any x q h = refl
quiet_after leaf x q h = refl
quiet_after function x q h = absurd q

quiet_expected : (l : Last) (x : Lexeme) → matches terminal.OpenParen x ≡ false → unexpected_after l x ≡ false
quiet_expected leaf x h = h
quiet_expected _ x h = refl

row_last : (t : Terminal) (d : Declared) (x : Lexeme) → IsQuiet d.last → matches terminal.OpenParen x ≡ false → row (Some t) (forgets d) x ≡ row (Some t) d x
unfolding row wrong_arity expected
row_last t d x q h = λ i.
    earlier (when (is_closed_word x) kind.UnknownSection)
    (earlier (when (sym (quiet_after d.last x q h) i || wrong_count d.applications x) kind.WrongArity)
    (earlier (when (sym (quiet_expected d.last x h) i || (matches terminal.Approximation x && d.automata == 0)) kind.Expected)
    (earlier (option_map kind.Limit (passed_after t x.text d any i)) (misnamed_after t x.text d any i))))

quiet_end : (l : Last) → IsQuiet l → is_function l ≡ false
quiet_end any q = refl
quiet_end leaf q = refl
quiet_end constant q = refl
quiet_end function q = absurd q

calm_end : (end : End) (d : Declared) (k : Option SpecKind) → calm (end_by k end d) ≡ calm (end_by k end (forgets d))
calm_end end d None = refl
calm_end end d (Some k) = refl

end_row_last : (d : Declared) → IsQuiet d.last → end_row true (forgets d) ≡ end_row true d
unfolding end_row
end_row_last d q = ap (λ b. if (true && b) then when (d.automata == 0) kind.NoInitial else Some kind.Expected) (sym (ap not (quiet_end d.last q)))

-- after a quiet token it doesn't matter which one it was
pub calm_judge : (end : End) (d : Declared) (xs : List Label) → IsQuiet d.last → NotOpening xs → calm (judge end d xs) ≡ settled end d xs
calm_judge end d [] q h = calm_end end d (end_row true d) ∙ ap (λ k. calm (end_by k end (forgets d))) (sym (end_row_last d q))
calm_judge end d (x ∷ xs) q h =
    ap (λ k. calm (unless k x.1 (judge end (adds x.0 x.1.text d) xs))) (sym (row_last x.0 d x.1 q h))
    ∙ ap (λ z. calm (unless (row (Some x.0) (forgets d) x.1) x.1 (judge end z xs))) (sym (adds_after x.0 x.1.text d any))

-- ---- a step

pub calm_unless : (k : Option SpecKind) (x : Lexeme) (o : Outcome) (e : Declared) → calm (unless k x o) ≡ Ok e → k ≡ None
calm_unless None x o e h = refl
calm_unless (Some k) x o e h = cc

-- a token at which no row fits
pub settled_step : (end : End) (d : Declared) (x : Label) (xs : List Label) → row (Some x.0) (forgets d) x.1 ≡ None → settled end d (x ∷ xs) ≡ calm (judge end (adds x.0 x.1.text d) xs)
settled_step end d x xs h =
    ap (λ k. calm (unless k x.1 (judge end (adds x.0 x.1.text (forgets d)) xs))) h ∙ ap (λ z. calm (judge end z xs)) (adds_after x.0 x.1.text d any)

-- where nothing is wrong, no row fits the first token
pub settled_row : (end : End) (d e : Declared) (x : Label) (xs : List Label) → settled end d (x ∷ xs) ≡ Ok e → row (Some x.0) (forgets d) x.1 ≡ None
settled_row end d e x xs h = calm_unless (row (Some x.0) (forgets d) x.1) x.1 _ e h

-- a token at which no row fits, and which is forgotten
pub settled_on : (end : End) (d : Declared) (x : Label) (xs : List Label) → row (Some x.0) (forgets d) x.1 ≡ None → IsQuiet (adds x.0 x.1.text d).last → NotOpening xs
    → settled end d (x ∷ xs) ≡ settled end (adds x.0 x.1.text d) xs
settled_on end d x xs h q n = settled_step end d x xs h ∙ calm_judge end (adds x.0 x.1.text d) xs q n

-- ---- outcomes

-- an outcome, behind what was read
pub onward : {a b c : Outcome} → a ≡ b → a ≡ c → b ≡ c
onward e h = sym e ∙ h

-- declarations without a fault, up to the last token
pub record IsCalmOf (o : Outcome) (d : Declared) : Type 0 where
  pub declared : Declared
  pub is : o ≡ Ok declared
  pub same : forgets declared ≡ d

pub calm_read : (o : Outcome) (d : Declared) → calm o ≡ Ok d → IsCalmOf o d
calm_read (Ok e) d h = record { declared = e; is = refl; same = cc }
calm_read (Err fault) d h = cc

-- what is declared spells a spec whatever the last token was
pub spec_of_last : (l : Last) (d : Declared) (spec : Spec) → IsSpecOf d spec → IsSpecOf (after l d) spec
spec_of_last l d spec h = record {
  signature = h.signature;
  vars = h.vars;
  rules = h.rules;
  are_rules = h.are_rules;
  equations = h.equations;
  are_equations = h.are_equations;
  entries = h.entries;
  extra = h.extra;
  approximated = h.approximated;
  initial = h.initial;
  forbidden = h.forbidden;
}
