-- The arguments of a transition, one token at a time.
use Rattle.std.proofs.Common.{◌≡◌, ℕ, ◌<◌, ◌≤◌, length, arith, true, false, List, [], ◌∷◌, ◌++◌, Ok, Err, refl, ap, sym, ◌∙◌, subst}
use Rattle.std.specs.Prelude.{map, Result, IfOk}
use Rattle.std.proofs.lemmas.List.{map-append, length-map}
use Rattle.ranked_terms.specs.declared.term.Shape.TheVariants as shape
use Rattle.timbuk_grammar.specs.declared.terminal.Role.TheVariants as role
use Rattle.timbuk_grammar.specs.declared.terminal.Terminal.TheVariants as terminal
use Rattle.timbuk_grammar.specs.Grammar.{Part, one, many, ◌then◌, name}
use Rattle.spec_text.specs.declared.fault.SpecKind.TheVariants as kind
use Rattle.timbuk_reader.specs.declared.fault.SpecError.{SpecError}
use Rattle.timbuk_reader.specs.declared.fault.SpecError.TheVariants as error
use Rattle.timbuk_reader.specs.declared.state.Reader.{Reader}
use Rattle.spec_text.specs.Declarations.{Declared}
use Rattle.timbuk_reader.specs.View.{declared, end_of, from, as_error, refusal}
use Rattle.spec_text.specs.Reading.{settled, sees}
use Rattle.timbuk_reader.specs.Reads.{Advances, Stops, Took}
use Rattle.timbuk_reader.specs.Patterns.{LacksArguments, LacksArgument, too_few, no_comma, LacksEnd, too_many, no_end}
use Rattle.timbuk_reader.specs.AutomatonReads.{head_arguments, argument_of, arguing, begun, IsReady, ReadState, StopsState, ReadArgument, StopsArgument, ReadArguments, StopsArguments, SomeArguments}
use Rattle.timbuk_reader.proofs.parsing.Parts.{alike, both_alike}
use Rattle.timbuk_reader.proofs.parsing.Automaton.{kept_advances, same_tokens}
use Rattle.timbuk_reader.proofs.parsing.Arguments.{took_run, ready_count, more_of, function_bare, arguments_open, argument_next, argument_lacks, argument_exceeds, argument_unmarked, arguments_close}

abbrev argument : Part
argument = name role.TransitionArgument

abbrev among : ℕ → ℕ → List ℕ → Reader → Declared
among f n args r = declared (arguing f n args) r

states_count : (args : List ℕ) → length (map shape.State args) ≡ length args
states_count args = length-map args shape.State

few : (n : ℕ) (args : List ℕ) → length args < n → length (map shape.State args) < n
few n args less = subst (λ k. k < n) (sym (states_count args)) less

enough : (n : ℕ) (args : List ℕ) → length args ≡ n → n ≤ length (map shape.State args)
enough n args full =
    let count = states_count args in
    omega arith

module _ (f n : ℕ) (args : List ℕ) (r : Reader) where
  -- no argument, but a `)`
  pub closed_early : (e : SpecError) → length args < n → sees terminal.CloseParen r.tokens.now ≡ true → e ≡ error.Fault (refusal kind.WrongArity r) → Stops argument (arguing f n args) r e
  closed_early e less seen told = record {
    by = λ ne ps. ap (λ z. as_error (settled z)) (argument_lacks argument ps (end_of r) (among f n args r) (argument_of f n args) [] refl refl (argument ∷ ps) r.tokens.now (few n args less) seen) ∙ ap Err (sym told);
  }

  ready : length args < n → sees terminal.CloseParen r.tokens.now ≡ false → IsReady (arguing f n args) r
  ready less unseen = record { last = refl; count = ready_count (argument_of f n args) [] r.tokens.now (few n args less) unseen }

  pub argument_advances : (m : Reader) (q : ℕ) → length args < n → sees terminal.CloseParen r.tokens.now ≡ false → ReadState role.TransitionArgument r q m → Advances argument (arguing f n args) r (arguing f n (args ++ q ∷ [])) m
  argument_advances m q less unseen h =
      kept_advances role.TransitionArgument (arguing f n args) (arguing f n (args ++ q ∷ [])) r m m q (ready less unseen) h (same_tokens m)
      (ap (λ shapes. record (among f n (args ++ q ∷ []) m) { applications = record (argument_of f n []) { args = shapes } ∷ [] }) (map-append shape.State args (q ∷ [])))

  pub argument_stops : (e : SpecError) → length args < n → sees terminal.CloseParen r.tokens.now ≡ false → StopsState role.TransitionArgument r e → Stops argument (arguing f n args) r e
  argument_stops e less unseen h = h.by (arguing f n args) (ready less unseen)

-- an argument, whichever the symbol is
pub read_argument : (r m : Reader) (q : ℕ) → sees terminal.CloseParen r.tokens.now ≡ false → ReadState role.TransitionArgument r q m → ReadArgument r q m
read_argument r m q unseen h = record { by = λ f n args less. argument_advances f n args r m q less unseen h }

pub stops_argument : (r : Reader) (e : SpecError) → sees terminal.CloseParen r.tokens.now ≡ false → StopsState role.TransitionArgument r e → StopsArgument r e
stops_argument r e unseen h = record { by = λ f n args less. argument_stops f n args r e less unseen h }

pub stops_early : (r : Reader) (e : SpecError) → sees terminal.CloseParen r.tokens.now ≡ true → e ≡ error.Fault (refusal kind.WrongArity r) → StopsArgument r e
stops_early r e seen told = record { by = λ f n args less. closed_early f n args r e less seen told }

module _ (n : ℕ) where
  opened : (f : ℕ) (r m : Reader) (ps : List Part) → Took terminal.OpenParen r m → from (begun f n) (head_arguments ∷ ps) r ≡ from (arguing f n []) (argument ∷ more_of argument ∷ ps) m
  opened f r m ps k = ap settled (
      took_run terminal.OpenParen r m (begun f n) (head_arguments ∷ ps) k
      ∙ arguments_open argument ps (end_of m) (declared (begun f n) m) k.token m.tokens.now refl k.matched)

  between : (f : ℕ) (r m : Reader) (args : List ℕ) (ps : List Part) → length args < n → Took terminal.Comma r m
      → from (arguing f n args) (more_of argument ∷ ps) r ≡ from (arguing f n args) (argument ∷ many (one terminal.Comma then argument) ∷ one terminal.CloseParen ∷ ps) m
  between f r m args ps less k = ap settled (
      took_run terminal.Comma r m (arguing f n args) (more_of argument ∷ ps) k
      ∙ argument_next argument ps (end_of m) (among f n args m) (argument_of f n args) [] refl refl k.token m.tokens.now (few n args less) k.matched)

  pub first_stops : (r m : Reader) (e : SpecError) → 0 < n → Took terminal.OpenParen r m → StopsArgument m e → StopsArguments n r e
  first_stops r m e some k h = record { by = λ f. record { by = λ ne ps. ap as_error (opened f r m ps k) ∙ (h.by f n [] some).by ne (more_of argument ∷ ps) } }

  pub first_advances : (r m u : Reader) (q : ℕ) → 0 < n → Took terminal.OpenParen r m → ReadArgument m q u → SomeArguments n r (q ∷ []) u
  first_advances r m u q some k h = record { by = λ f ps. opened f r m ps k ∙ (h.by f n [] some).by (more_of argument ∷ ps) }

  pub next_stops : (r m v : Reader) (args : List ℕ) (e : SpecError) → SomeArguments n r args m → length args < n → Took terminal.Comma m v → StopsArgument v e → StopsArguments n r e
  next_stops r m v args e g less k h = record {
    by = λ f. record {
      by = λ ne ps. ap as_error (g.by f ps ∙ between f m v args ps less k) ∙ (h.by f n args less).by ne (many (one terminal.Comma then argument) ∷ one terminal.CloseParen ∷ ps);
    };
  }

  pub next_advances : (r m v u : Reader) (args : List ℕ) (q : ℕ) → SomeArguments n r args m → length args < n → Took terminal.Comma m v → ReadArgument v q u → SomeArguments n r (args ++ q ∷ []) u
  next_advances r m v u args q g less k h = record {
    by = λ f ps.
        let qs = many (one terminal.Comma then argument) ∷ one terminal.CloseParen ∷ ps in
        g.by f ps ∙ between f m v args ps less k ∙ (h.by f n args less).by qs
        ∙ sym (ap settled (alike (more_of argument ∷ ps) qs (end_of u) (among f n (args ++ q ∷ []) u) u.tokens.now (both_alike (many (one terminal.Comma then argument)) (one terminal.CloseParen) ps)));
  }

  pub all_read : (r m u : Reader) (args : List ℕ) → SomeArguments n r args m → length args ≡ n → Took terminal.CloseParen m u → ReadArguments n r args u
  all_read r m u args g full k = record {
    by = λ f. record {
      by = λ ps. g.by f ps ∙ ap settled (
          took_run terminal.CloseParen m u (arguing f n args) (more_of argument ∷ ps) k
          ∙ arguments_close argument ps (end_of u) (among f n args u) (argument_of f n args) [] refl refl k.token u.tokens.now (enough n args full) k.matched);
    };
  }

  -- ---- other tokens

  pub lacks_first : (r : Reader) (e : SpecError) → LacksArguments r e → StopsArguments n r e
  lacks_first r e h = record {
    by = λ f. record {
      by = λ ne ps. ap (λ z. as_error (settled z)) (function_bare (head_arguments ∷ ps) (end_of r) (declared (begun f n) r) r.tokens.now refl h.unseen) ∙ ap Err (sym h.told);
    };
  }

  pub lacks_next : (r m : Reader) (args : List ℕ) (e : SpecError) → SomeArguments n r args m → length args < n → LacksArgument m e → StopsArguments n r e
  lacks_next r m args e g less (too_few seen told) = record {
    by = λ f. record {
      by = λ ne ps. ap as_error (g.by f ps) ∙ ap (λ z. as_error (settled z)) (argument_lacks argument ps (end_of m) (among f n args m) (argument_of f n args) [] refl refl (more_of argument ∷ ps) m.tokens.now (few n args less) seen) ∙ ap Err (sym told);
    };
  }
  lacks_next r m args e g less (no_comma unseen k) = record {
    by = λ f. record {
      by = λ ne ps. ap as_error (g.by f ps) ∙ ap (λ z. as_error (settled z)) (argument_unmarked argument ps (end_of m) (among f n args m) (argument_of f n args) [] refl refl m.tokens.now unseen k.unseen) ∙ ap Err (sym k.told);
    };
  }

  pub lacks_last : (r m : Reader) (args : List ℕ) (e : SpecError) → SomeArguments n r args m → length args ≡ n → LacksEnd m e → StopsArguments n r e
  lacks_last r m args e g full (too_many seen told) = record {
    by = λ f. record {
      by = λ ne ps. ap as_error (g.by f ps) ∙ ap (λ z. as_error (settled z)) (argument_exceeds argument ps (end_of m) (among f n args m) (argument_of f n args) [] refl refl (more_of argument ∷ ps) m.tokens.now (enough n args full) seen) ∙ ap Err (sym told);
    };
  }
  lacks_last r m args e g full (no_end unseen k) = record {
    by = λ f. record {
      by = λ ne ps. ap as_error (g.by f ps) ∙ ap (λ z. as_error (settled z)) (argument_unmarked argument ps (end_of m) (among f n args m) (argument_of f n args) [] refl refl m.tokens.now k.unseen unseen) ∙ ap Err (sym k.told);
    };
  }

-- an argument, where its result is handed on
pub read_argument_by : (r m : Reader) (result : Result ℕ SpecError) → sees terminal.CloseParen r.tokens.now ≡ false → IfOk result (λ q. ReadState role.TransitionArgument r q m) → IfOk result (λ q. ReadArgument r q m)
read_argument_by r m (Ok q) unseen h = read_argument r m q unseen h
read_argument_by r m (Err e) unseen h = tt
