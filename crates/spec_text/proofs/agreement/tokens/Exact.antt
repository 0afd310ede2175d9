-- What tokens declare exactly: where they may stand, the judge goes on from the state behind them, and it comes to the end nowhere else.
use Rattle.std.proofs.Common.{◌≡◌, List, [], ◌∷◌, ◌++◌, None, Some, Ok, refl, sym, ap, ◌∙◌, append_assoc}
use Rattle.std.specs.Prelude.{Option}
use Rattle.timbuk_lex.specs.declared.lexeme.Lexeme.{Lexeme}
use Rattle.timbuk_grammar.specs.declared.terminal.Terminal.{Terminal}
use Rattle.timbuk_grammar.specs.Trees.{Token}
use Rattle.spec_text.specs.declared.fault.SpecKind.{SpecKind}
use Rattle.spec_text.specs.Declarations.{Declared, adds}
use Rattle.spec_text.specs.Rows.{row}
use Rattle.spec_text.specs.Reading.{Outcome, End, unless}
use Rattle.spec_text.proofs.agreement.tokens.Labels.{Label, label, judge}
use Rattle.spec_text.specs.Reading.{settled as calm}

-- what is read, where the last token is forgotten at the end
abbrev pub reads : End → Declared → List Label → Outcome
reads end d xs = calm (judge end d xs)

-- From this state on, the tokens may stand where there is such a witness, and leave the state that it tells. What follows them meets K.
pub record IsTied (end : End) (K : List Label → Type 0) (d : Declared) (xs : List Label) (W : Type 0) (told : W → Declared) : Type 0 where
  pub fine : (w : W) (rest : List Label) → K rest → reads end d (xs ++ rest) ≡ reads end (told w) rest
  pub only : (rest : List Label) (e : Declared) → K rest → reads end d (xs ++ rest) ≡ Ok e → (w : W) × (reads end (told w) rest ≡ Ok e)

-- whatever follows
abbrev pub Whatever : List Label → Type 0
Whatever rest = Unit {0}

unless_ok : (o : Option SpecKind) (x : Lexeme) (r : Outcome) (e : Declared) → calm (unless o x r) ≡ Ok e → (o ≡ None) × (calm r ≡ Ok e)
unless_ok None x r e h = (refl, h)
unless_ok (Some k) x r e h = cc

-- where something is read to its end, no row fits its first token
pub reads_row : (end : End) (d : Declared) (x : Label) (xs : List Label) (e : Declared) → reads end d (x ∷ xs) ≡ Ok e → row (Some x.0) d x.1 ≡ None
reads_row end d x xs e h = (unless_ok (row (Some x.0) d x.1) x.1 (judge end (adds x.0 x.1.text d) xs) e h).0

module _ {end : End} where
  pub no_tokens : {K : List Label → Type 0} (d : Declared) → IsTied end K d [] (Unit {0}) (λ w. d)
  no_tokens d = record { fine = λ w rest k. refl; only = λ rest e k h. (tt, h) }

  pub one_token : {K : List Label → Type 0} {t : Terminal} (d : Declared) (v : Token t) (C : Type 0) → (C → row (Some t) d v.lexeme ≡ None) → (row (Some t) d v.lexeme ≡ None → C) → IsTied end K d (label v ∷ []) C (λ c. adds t v.lexeme.text d)
  one_token {t = t} d v C f g = record {
    fine = λ c rest k. ap (λ o. calm (unless o v.lexeme (judge end (adds t v.lexeme.text d) rest))) (f c);
    only = λ rest e k h. let s = unless_ok (row (Some t) d v.lexeme) v.lexeme (judge end (adds t v.lexeme.text d) rest) e h in (g s.0, s.1);
  }

  -- a token that may always stand there
  pub free_token : {K : List Label → Type 0} {t : Terminal} (d : Declared) (v : Token t) → row (Some t) d v.lexeme ≡ None → IsTied end K d (label v ∷ []) (Unit {0}) (λ c. adds t v.lexeme.text d)
  free_token d v e = one_token d v (Unit {0}) (λ c. e) (λ h. tt)

  -- and one that never may
  pub no_token : {K : List Label → Type 0} {t : Terminal} {told : ⊥ → Declared} (d : Declared) (v : Token t) (xs : List Label) → (row (Some t) d v.lexeme ≡ None → ⊥) → IsTied end K d (label v ∷ xs) ⊥ told
  no_token {t = t} d v xs f = record {
    fine = λ w rest k. absurd w;
    only = λ rest e k h. absurd (f (unless_ok (row (Some t) d v.lexeme) v.lexeme (judge end (adds t v.lexeme.text d) (xs ++ rest)) e h).0);
  }

  -- tokens behind others, which ask of what follows them that it meets J
  pub in_turn_at : {K J : List Label → Type 0} {d : Declared} {xs ys : List Label} {W : Type 0} {told : W → Declared} {V : W → Type 0} {then_told : (w : W) → V w → Declared}
      → ((rest : List Label) → K rest → J (ys ++ rest)) → IsTied end J d xs W told → ((w : W) → IsTied end K (told w) ys (V w) (then_told w))
      → IsTied end K d (xs ++ ys) ((w : W) × V w) (λ p. then_told p.0 p.1)
  in_turn_at {d = d} {xs = xs} {ys = ys} follows first second = record {
    fine = λ p rest k. ap (reads end d) (append_assoc xs ys rest) ∙ (first.fine p.0 (ys ++ rest) (follows rest k) ∙ (second p.0).fine p.1 rest k);
    only = λ rest e k h.
        let a = first.only (ys ++ rest) e (follows rest k) (sym (ap (reads end d) (append_assoc xs ys rest)) ∙ h) in
        let b = (second a.0).only rest e k a.1 in
        ((a.0, b.0), b.1);
  }

  -- tokens behind any tokens
  pub in_turn : {K : List Label → Type 0} {d : Declared} {xs ys : List Label} {W : Type 0} {told : W → Declared} {V : W → Type 0} {then_told : (w : W) → V w → Declared}
      → IsTied end Whatever d xs W told → ((w : W) → IsTied end K (told w) ys (V w) (then_told w)) → IsTied end K d (xs ++ ys) ((w : W) × V w) (λ p. then_told p.0 p.1)
  in_turn first second = in_turn_at {J = Whatever} (λ rest k. tt) first second

  -- the same by another witness
  pub by_witness : {K : List Label → Type 0} {d : Declared} {xs : List Label} {W V : Type 0} {told : W → Declared} {told_by : V → Declared}
      → IsTied end K d xs W told → (f : V → W) → (g : W → V) → ((v : V) → told (f v) ≡ told_by v) → ((w : W) → told w ≡ told_by (g w)) → IsTied end K d xs V told_by
  by_witness tied f g same alike = record {
    fine = λ v rest k. tied.fine (f v) rest k ∙ ap (λ s. reads end s rest) (same v);
    only = λ rest e k h. let a = tied.only rest e k h in (g a.0, sym (ap (λ s. reads end s rest) (alike a.0)) ∙ a.1);
  }
