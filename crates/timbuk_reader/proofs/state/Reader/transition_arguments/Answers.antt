use Rattle.std.proofs.Common.{◌≡◌, ℕ, ◌<◌, List, [], ◌∷◌, ◌++◌, length, length-append, true, arith, refl, sym, ap, subst, ◌∙◌}
use Rattle.std.proofs.lemmas.Grind.{common_steps}
use Rattle.spec_text.specs.Declarations.{Declared, current}
use Rattle.timbuk_reader.specs.Kept.{states_are_below}
use Rattle.timbuk_reader.specs.View.{state_of}
use Rattle.timbuk_reader.specs.AutomatonReads.{states_of, StopsArguments, SomeArguments}
use Rattle.timbuk_reader.proofs.keeping.Automaton.{below_push}
use Rattle.timbuk_reader.proofs.parsing.AutomatonArguments.{lacks_first, lacks_next, lacks_last, first_stops, first_advances, next_stops, next_advances, all_read}
use Rattle.timbuk_reader.proofs.state.Reader.transition_arguments.Goals as goal

pub returns-in_err-first_argument-clause-err : goal.returns-in_err-first_argument-clause-err
returns-in_err-first_argument-clause-err c =
    let e = c.in_err-first_argument.field-0.0 in
    let stops : StopsArguments c.args.arity c.args.self.now e = lacks_first c.args.arity c.args.self.now e c.in_err-first_argument.ensures in
    grind (arith, common_steps)

pub returns-in_err-transition_argument-clause-err : goal.returns-in_err-transition_argument-clause-err
returns-in_err-transition_argument-clause-err c =
    let e = c.in_err-transition_argument.field-0.0 in
    let stops : StopsArguments c.args.arity c.args.self.now e =
    first_stops c.args.arity c.args.self.now c.first_argument.new.self e c.requires c.in_ok-first_argument.ensures c.in_err-transition_argument.ensures.err in
    grind (arith, common_steps)

pub loop-self-init : goal.loop-self-init
loop-self-init c =
    let n = c.args.arity in
    let r = c.args.self.now in
    let u = c.transition_argument.new.self in
    let q = c.in_ok-transition_argument.field-0 in
    let took = c.in_ok-first_argument.ensures in
    let pushed : c.push.new.self ≡ q ∷ [] = c.in_ok-push.ensures.ok ∙ ap (λ (qs : List ℕ). qs ++ q ∷ []) c.new-args.ensures in
    record {
      read = subst (λ (qs : List ℕ). SomeArguments n r qs u) (sym pushed) (first_advances n r c.first_argument.new.self u q c.requires took c.in_ok-transition_argument.ensures.ok);
      room = omega (arith, ap length pushed);
      below = subst (λ (qs : List ℕ). states_are_below (length (states_of u)) qs ≡ true) (sym pushed) (below_push (length (states_of u)) [] q refl c.in_ok-transition_argument.ensures.below);
      same = c.in_ok-transition_argument.ensures.same ∙ took.state;
      no_longer = omega (arith, ap length took.tokens, c.in_ok-transition_argument.ensures.shorter);
    }

pub returns-in_err-next_argument-clause-err : goal.returns-in_err-next_argument-clause-err
returns-in_err-next_argument-clause-err c =
    let n = c.args.arity in
    let v = c.loop-self.self in
    let args = c.loop-self.args in
    let e = c.in_err-next_argument.field-0.0 in
    let less : length args < n = omega (arith, c.len.ensures) in
    let stops : StopsArguments n c.args.self.now e = lacks_next n c.args.self.now v args e c.loop-self.invariant.read less c.in_err-next_argument.ensures in
    grind (arith, common_steps)

pub returns-in_err-transition_argument-2-clause-err : goal.returns-in_err-transition_argument-2-clause-err
returns-in_err-transition_argument-2-clause-err c =
    let n = c.args.arity in
    let v = c.loop-self.self in
    let args = c.loop-self.args in
    let e = c.in_err-transition_argument-2.field-0.0 in
    let less : length args < n = omega (arith, c.len.ensures) in
    let stops : StopsArguments n c.args.self.now e =
    next_stops n c.args.self.now v c.next_argument.new.self args e c.loop-self.invariant.read less c.in_ok-next_argument.ensures c.in_err-transition_argument-2.ensures.err in
    grind (arith, common_steps)

pub loop-self-preserved : goal.loop-self-preserved
loop-self-preserved c =
    let n = c.args.arity in
    let r = c.args.self.now in
    let v = c.loop-self.self in
    let u = c.transition_argument-in-loop-self.new.self in
    let args = c.loop-self.args in
    let q = c.in_ok-transition_argument-2.field-0 in
    let took = c.in_ok-next_argument.ensures in
    let less : length args < n = omega (arith, c.len.ensures) in
    let pushed : c.push-in-loop-self.new.self ≡ args ++ q ∷ [] = c.in_ok-push-2.ensures.ok in
    let same : state_of u ≡ state_of v = c.in_ok-transition_argument-2.ensures.same ∙ took.state in
    let below : states_are_below (length (states_of u)) args ≡ true = subst (λ (d : Declared). states_are_below (length (current d).states) args ≡ true) (sym same) c.loop-self.invariant.below in
    record {
      read = subst (λ (qs : List ℕ). SomeArguments n r qs u) (sym pushed) (next_advances n r v c.next_argument.new.self u args q c.loop-self.invariant.read less took c.in_ok-transition_argument-2.ensures.ok);
      room = omega (arith, ap length pushed, length-append args (q ∷ []));
      below = subst (λ (qs : List ℕ). states_are_below (length (states_of u)) qs ≡ true) (sym pushed) (below_push (length (states_of u)) args q below c.in_ok-transition_argument-2.ensures.below);
      same = same ∙ c.loop-self.invariant.same;
      no_longer = omega (arith, ap length took.tokens, c.in_ok-transition_argument-2.ensures.shorter, c.loop-self.invariant.no_longer);
    }

pub returns-in_err-last_argument-clause-err : goal.returns-in_err-last_argument-clause-err
returns-in_err-last_argument-clause-err c =
    let n = c.args.arity in
    let args = c.loop-self.args in
    let e = c.in_err-last_argument.field-0.0 in
    let full : length args ≡ n = omega (arith, c.len.ensures) in
    let stops : StopsArguments n c.args.self.now e = lacks_last n c.args.self.now c.loop-self.self args e c.loop-self.invariant.read full c.in_err-last_argument.ensures in
    grind (arith, common_steps)

pub returns-clause-ok : goal.returns-clause-ok
returns-clause-ok c =
    let n = c.args.arity in
    let args = c.loop-self.args in
    let full : length args ≡ n = omega (arith, c.len.ensures) in
    all_read n c.args.self.now c.loop-self.self c.last_argument.new.self args c.loop-self.invariant.read full c.in_ok-last_argument.ensures
