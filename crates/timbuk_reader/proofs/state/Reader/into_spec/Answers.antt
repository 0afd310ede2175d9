use Rattle.std.proofs.Common.{◌≡◌, ◌+◌, ◌-◌, length, refl, ap, subst, ◌∙◌, arith}
use Rattle.ta_core.specs.SpecRules.{entries_are_below}
use Rattle.timbuk_reader.specs.View.{started}
use Rattle.spec_text.specs.Spelled.{IsAutomatonOf}
use Rattle.timbuk_reader.proofs.keeping.Automata.{none_approximated}
use Rattle.spec_text.specs.lemmas.Specs.{automaton_over, states_whole}
use Rattle.timbuk_reader.proofs.keeping.KeptRules.{rules_of_kept}
use Rattle.timbuk_reader.proofs.state.Reader.into_spec.Goals as goal

pub invariant_of-result : goal.invariant_of-result
invariant_of-result c =
    let r = c.args.self in
    let both = c.in_ok-initial.ensures in
    let first = c.in_ok-initial.initial in
    let second = c.in_ok-initial.forbidden in
    let whole : first.next + r.extra ≡ length r.initial.states = omega (arith, both.initial.next_is, c.len.ensures.value, r.own_states) in
    record {
      rules_over = r.rules_over;
      equations_over = r.equations_over;
      entries_over = r.entries_over;
      initial_over = automaton_over r.signature _ (started r.initial) first both.initial r.initial_over;
      forbidden_over = automaton_over r.signature _ (started r.second) second both.second r.second_over;
      initial_states = states_whole _ (started r.initial) first both.initial;
      forbidden_states = states_whole _ (started r.second) second both.second;
      few_states = omega (arith, whole, c.len.ensures.few);
      entries_below = ap (λ bound. entries_are_below bound r.entries) whole ∙ r.entries_below;
      entries_small = r.entries_small;
      no_extra = λ e. r.no_extra (none_approximated r.approximations e);
      no_entries = λ e. r.no_entries (none_approximated r.approximations e);
    }

pub returns : goal.returns
returns c =
    let r = c.args.self in
    record {
      signature = refl;
      vars = c.requires;
      rules = refl;
      are_rules = rules_of_kept r.rules r.are_rules;
      equations = refl;
      are_equations = r.are_equations;
      entries = refl;
      extra = refl;
      approximated = refl;
      initial = subst (λ n. IsAutomatonOf (n - r.extra) (started r.initial) c.in_ok-initial.initial) c.len.ensures.value c.in_ok-initial.ensures.initial;
      forbidden = c.in_ok-initial.ensures.second;
    }
