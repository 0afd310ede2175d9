-- Reading the arguments of a pattern, one step at a time.
use Rattle.std.proofs.Common.{◌≡◌, ℕ, ◌+◌, ◌<◌, length, arith, List, [], ◌∷◌, ◌++◌, Err, refl, ap, sym, ◌∙◌}
use Rattle.ranked_terms.specs.declared.term.Shape.{Shape}
use Rattle.ranked_terms.specs.declared.term.Shape.TheVariants as shape
use Rattle.timbuk_grammar.specs.declared.terminal.Role.{Role}
use Rattle.timbuk_grammar.specs.declared.terminal.Terminal.{Terminal}
use Rattle.timbuk_grammar.specs.declared.terminal.Terminal.TheVariants as terminal
use Rattle.timbuk_grammar.specs.Grammar.{Part, one, many, ◌then◌, pattern, pattern_arguments}
use Rattle.timbuk_reader.specs.declared.fault.SpecError.{SpecError}
use Rattle.timbuk_reader.specs.declared.state.Reader.{Reader}
use Rattle.spec_text.specs.Declarations.{Application, any, function}
use Rattle.spec_text.specs.Reading.{outcome}
use Rattle.timbuk_reader.specs.View.{Open, Shorter, declared, end_of, from, as_error}
use Rattle.spec_text.specs.Reading.{settled}
use Rattle.timbuk_reader.specs.Reads.{Took}
use Rattle.timbuk_reader.specs.Patterns.{application, within, IsFirstSide, IsSpot, applied_from, filled_from, behind, Builds, Breaks, Applies, Misapplies, Filled, LacksArguments, LacksArgument, too_few, no_comma, LacksEnd, too_many, no_end}
use Rattle.timbuk_reader.proofs.parsing.Parts.{alike, both_alike}
use Rattle.spec_text.specs.lemmas.LastToken.{placed_after}
use Rattle.timbuk_reader.proofs.parsing.Arguments.{took_run, function_bare, arguments_open, argument_next, argument_lacks, argument_exceeds, argument_unmarked, arguments_close}

-- ---- arguments so far

module _ (p : Role) (f n d : ℕ) where
  abbrev inner : List Application → List Shape → List Shape → Open
  inner applications args shapes = within (application p f n args ∷ applications) shapes

  abbrev opening : List Application → List Shape → Open
  opening applications shapes = record (inner applications [] shapes) { last = function }

  deeper : (applications : List Application) (args shapes : List Shape) → length applications ≡ d → length args < n → IsFirstSide p shapes → IsSpot p (d + 1) (application p f n args ∷ applications) shapes
  deeper applications args shapes l room first = record { depth_is = omega arith; room = room; first = first }

  opened : (r m : Reader) (ps : List Part) (applications : List Application) (shapes : List Shape) → Took terminal.OpenParen r m
      → applied_from p f n ps applications shapes r ≡ from (inner applications [] shapes) (pattern p ∷ behind p ∷ ps) m
  opened r m ps applications shapes k = ap settled (
      took_run terminal.OpenParen r m (opening applications shapes) (pattern_arguments p ∷ ps) k
      ∙ arguments_open (pattern p) ps (end_of m) (declared (opening applications shapes) m) k.token m.tokens.now refl k.matched)

  between : (r m : Reader) (args : List Shape) (ps : List Part) (applications : List Application) (shapes : List Shape) → length args < n → Took terminal.Comma r m
      → filled_from p f n args ps applications shapes r ≡ from (inner applications args shapes) (pattern p ∷ many (one terminal.Comma then pattern p) ∷ one terminal.CloseParen ∷ ps) m
  between r m args ps applications shapes less k = ap settled (
      took_run terminal.Comma r m (inner applications args shapes) (behind p ∷ ps) k
      ∙ argument_next (pattern p) ps (end_of m) (declared (inner applications args shapes) m) (application p f n args) applications refl refl k.token m.tokens.now less k.matched)

  module _ (some : 0 < n) where
    pub first_breaks : (r m : Reader) (e : SpecError) → Took terminal.OpenParen r m → Breaks p (d + 1) m e → Misapplies p f n d r e
    first_breaks r m e k h = record {
      by = λ ne ps applications shapes l first.
          ap as_error (opened r m ps applications shapes k) ∙ h.by ne (behind p ∷ ps) (application p f n [] ∷ applications) shapes (deeper applications [] shapes l some first);
    }

    pub first_builds : (r m u : Reader) (s : Shape) → Took terminal.OpenParen r m → Builds p (d + 1) m s u → Filled p f n d r (s ∷ []) u
    first_builds r m u s k h = record {
      by = λ ps applications shapes l first.
          opened r m ps applications shapes k ∙ h.by (behind p ∷ ps) (application p f n [] ∷ applications) shapes (deeper applications [] shapes l some first);
    }

  pub next_breaks : (r m v : Reader) (args : List Shape) (e : SpecError) → Filled p f n d r args m → length args < n → Took terminal.Comma m v → Breaks p (d + 1) v e → Misapplies p f n d r e
  next_breaks r m v args e g less k h = record {
    by = λ ne ps applications shapes l first.
        ap as_error (g.by ps applications shapes l first ∙ between m v args ps applications shapes less k)
        ∙ h.by ne (many (one terminal.Comma then pattern p) ∷ one terminal.CloseParen ∷ ps) (application p f n args ∷ applications) shapes (deeper applications args shapes l less first);
  }

  pub next_builds : (r m v u : Reader) (args : List Shape) (s : Shape) → Filled p f n d r args m → length args < n → Took terminal.Comma m v → Builds p (d + 1) v s u → Filled p f n d r (args ++ s ∷ []) u
  next_builds r m v u args s g less k h = record {
    by = λ ps applications shapes l first.
        let qs = many (one terminal.Comma then pattern p) ∷ one terminal.CloseParen ∷ ps in
        g.by ps applications shapes l first ∙ between m v args ps applications shapes less k
        ∙ h.by qs (application p f n args ∷ applications) shapes (deeper applications args shapes l less first)
        ∙ sym (ap settled (alike (behind p ∷ ps) qs (end_of u) (declared (inner applications (args ++ s ∷ []) shapes) u) u.tokens.now (both_alike (many (one terminal.Comma then pattern p)) (one terminal.CloseParen) ps)));
  }

  pub all_applied : (r m u : Reader) (args : List Shape) → Filled p f n d r args m → length args ≡ n → Took terminal.CloseParen m u → Applies p f n d r args u
  all_applied r m u args g full k = record {
    by = λ ps applications shapes l first.
        g.by ps applications shapes l first
        ∙ ap settled (took_run terminal.CloseParen m u (inner applications args shapes) (behind p ∷ ps) k
        ∙ arguments_close (pattern p) ps (end_of u) (declared (inner applications args shapes) u) (application p f n args) applications refl refl k.token u.tokens.now (omega (arith, full)) k.matched
        ∙ ap (λ z. outcome (end_of u) ps z u.tokens.now) (placed_after p (shape.App f args) (declared (within applications shapes) u) any));
  }

  -- ---- other tokens

  pub lacks_first : (r : Reader) (e : SpecError) → LacksArguments r e → Misapplies p f n d r e
  lacks_first r e h = record {
    by = λ ne ps applications shapes l first.
        ap (λ z. as_error (settled z)) (function_bare (pattern_arguments p ∷ ps) (end_of r) (declared (opening applications shapes) r) r.tokens.now refl h.unseen) ∙ ap Err (sym h.told);
  }

  pub lacks_next : (r m : Reader) (args : List Shape) (e : SpecError) → Filled p f n d r args m → length args < n → LacksArgument m e → Misapplies p f n d r e
  lacks_next r m args e g less (too_few seen told) = record {
    by = λ ne ps applications shapes l first.
        ap as_error (g.by ps applications shapes l first) ∙ ap (λ z. as_error (settled z)) (argument_lacks (pattern p) ps (end_of m) (declared (inner applications args shapes) m) (application p f n args) applications refl refl (behind p ∷ ps) m.tokens.now less seen) ∙ ap Err (sym told);
  }
  lacks_next r m args e g less (no_comma unseen k) = record {
    by = λ ne ps applications shapes l first.
        ap as_error (g.by ps applications shapes l first) ∙ ap (λ z. as_error (settled z)) (argument_unmarked (pattern p) ps (end_of m) (declared (inner applications args shapes) m) (application p f n args) applications refl refl m.tokens.now unseen k.unseen) ∙ ap Err (sym k.told);
  }

  pub lacks_last : (r m : Reader) (args : List Shape) (e : SpecError) → Filled p f n d r args m → length args ≡ n → LacksEnd m e → Misapplies p f n d r e
  lacks_last r m args e g full (too_many seen told) = record {
    by = λ ne ps applications shapes l first.
        ap as_error (g.by ps applications shapes l first) ∙ ap (λ z. as_error (settled z)) (argument_exceeds (pattern p) ps (end_of m) (declared (inner applications args shapes) m) (application p f n args) applications refl refl (behind p ∷ ps) m.tokens.now (omega (arith, full)) seen) ∙ ap Err (sym told);
  }
  lacks_last r m args e g full (no_end unseen k) = record {
    by = λ ne ps applications shapes l first.
        ap as_error (g.by ps applications shapes l first) ∙ ap (λ z. as_error (settled z)) (argument_unmarked (pattern p) ps (end_of m) (declared (inner applications args shapes) m) (application p f n args) applications refl refl m.tokens.now k.unseen unseen) ∙ ap Err (sym k.told);
  }

-- a token fewer is left
pub took_less : (t : Terminal) (r m : Reader) → Took t r m → Shorter r m
took_less t r m k = let e = ap length k.tokens in omega arith
