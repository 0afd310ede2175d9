-- Tokens that lead from one state to another: when no row fits at them, and the state behind them.
use Rattle.std.proofs.Common.{◌≡◌, true, false, List, [], ◌∷◌, ◌++◌, Some, None, Ok, refl, sym, ap, ◌∙◌, subst}
use Rattle.timbuk_lex.specs.declared.lexeme.Lexeme.{Lexeme}
use Rattle.timbuk_grammar.specs.declared.terminal.Terminal.{Terminal}
use Rattle.timbuk_grammar.specs.Trees.{Token}
use Rattle.spec_text.specs.Declarations.{Declared, adds}
use Rattle.spec_text.specs.Source.{text_of}
use Rattle.spec_text.specs.Rows.{row}
use Rattle.spec_text.specs.Reading.{End}
use Rattle.spec_text.proofs.agreement.tokens.Labels.{Label, label, judge}
use Rattle.spec_text.proofs.agreement.names.Rows.{IsAtRest, is_plain, opens, plain_row}
use Rattle.spec_text.proofs.agreement.tokens.Runs.{run, AreFaultless, run-append, faultless-append, faultless_parts, judge-faultless, faultless-judge}

-- At these tokens no row fits exactly if P holds, and then this is the state behind them.
pub record Path (d : Declared) (xs : List Label) (P : Type 0) (e : Declared) : Type 0 where
  pub fine : P → AreFaultless d xs
  pub only : AreFaultless d xs → P
  pub state : P → run d xs ≡ e

pub path_nowhere : (d : Declared) → Path d [] (Unit {0}) d
path_nowhere d = record { fine = λ h. tt; only = λ h. tt; state = λ h. refl }

-- one token
pub path_by : (t : Terminal) (x : Lexeme) (d e : Declared) (P : Type 0) → (P → row (Some t) d x ≡ None) → (row (Some t) d x ≡ None → P) → (P → adds t x.text d ≡ e) → Path d ((t, x) ∷ []) P e
path_by t x d e P fine only state = record { fine = λ h. (fine h, tt); only = λ h. only h.0; state = state }

-- one part after the other
pub path_on : (d e f : Declared) (xs ys : List Label) (P Q : Type 0) → Path d xs P e → (P → Path e ys Q f) → Path d (xs ++ ys) (P × Q) f
path_on d e f xs ys P Q h k = record {
  fine = λ p. faultless-append d xs ys (h.fine p.0) (subst (λ s. AreFaultless s ys) (sym (h.state p.0)) ((k p.0).fine p.1));
  only = λ a.
      let b = faultless_parts d xs ys a in
      let p = h.only b.0 in
      (p, (k p).only (subst (λ s. AreFaultless s ys) (h.state p) b.1));
  state = λ p. run-append d xs ys ∙ (ap (λ s. run s ys) (h.state p.0) ∙ (k p.0).state p.1);
}

-- the same said otherwise
pub path_also : (d e f : Declared) (xs : List Label) (P Q : Type 0) → (Q → P) → (P → Q) → (Q → e ≡ f) → Path d xs P e → Path d xs Q f
path_also d e f xs P Q down up same h = record { fine = λ q. h.fine (down q); only = λ a. up (h.only a); state = λ q. h.state (down q) ∙ same q }

-- a row fits at some of the tokens
pub path_not : (d e : Declared) (xs : List Label) (P : Type 0) → (P → ⊥) → (AreFaultless d xs → ⊥) → Path d xs P e
path_not d e xs P n k = record { fine = λ p. absurd (n p); only = λ a. absurd (k a); state = λ p. absurd (n p) }

-- from an equal state
pub path_from : (c d e : Declared) (xs : List Label) (P : Type 0) → c ≡ d → Path d xs P e → Path c xs P e
path_from c d e xs P s h = subst (λ z. Path z xs P e) (sym s) h

-- a part without conditions before or behind another
pub path_behind : (d e f : Declared) (xs ys : List Label) (P : Type 0) → Path d xs P e → Path e ys (Unit {0}) f → Path d (xs ++ ys) P f
path_behind d e f xs ys P h k = path_also d f f (xs ++ ys) (P × Unit {0}) P (λ p. (p, tt)) (λ p. p.0) (λ p. refl) (path_on d e f xs ys P (Unit {0}) h (λ p. k))

pub path_before : (d e f : Declared) (xs ys : List Label) (P : Type 0) → Path d xs (Unit {0}) e → Path e ys P f → Path d (xs ++ ys) P f
path_before d e f xs ys P h k = path_also d f f (xs ++ ys) (Unit {0} × P) P (λ p. (tt, p)) (λ p. p.1) (λ p. refl) (path_on d e f xs ys (Unit {0}) P h (λ p. k))

-- a word or a mark
pub plain_path : (t : Terminal) (v : Token t) (d e : Declared) → IsAtRest d → is_plain t ≡ true → opens t ≡ false → adds t (text_of v) d ≡ e → Path d (label v ∷ []) (Unit {0}) e
plain_path t v d e rest plain opening same = path_by t v.lexeme d e (Unit {0}) (λ h. plain_row t d v.lexeme rest plain opening v.matched) (λ h. tt) (λ h. same)

-- ---- what the judge says

pub path-fine : (end : End) (d e : Declared) (xs rest : List Label) (P : Type 0) → Path d xs P e → P → judge end d (xs ++ rest) ≡ judge end e rest
path-fine end d e xs rest P h p = judge-faultless end d xs rest (h.fine p) ∙ ap (λ s. judge end s rest) (h.state p)

pub path-only : (end : End) (d e : Declared) (xs rest : List Label) (P : Type 0) (o : Declared) → Path d xs P e → judge end d (xs ++ rest) ≡ Ok o → P
path-only end d e xs rest P o h k = h.only (faultless-judge end d xs rest o k).0
