use Rattle.std.proofs.Common.{◌≡◌, length, Some, sym, ap, subst, ◌∙◌, rules}
use Rattle.std.specs.List.{slice_get}
use Rattle.std.specs.Result.{IsErrOf}
use Rattle.ranked_terms.specs.Terms.{assigned}
use Rattle.trs_rules.specs.Rules.{RewriteRule}
use Rattle.ta_core.specs.Closure.{state_in, assigned_by}
use Rattle.normalise.specs.Normalising.{by, Puts, Normalised, StaysWithin}
use Rattle.normalise.specs.AtWork.{Job, job_of, task_from, HasStates, HasTargets, PutNeedsMore}
use Rattle.normalise.specs.declared.pairs.NormError.TheVariants.{Full}
use Rattle.normalise.proofs.PairSteps.{right_stands, same_place, pair_needs, pair_settled, eps_within}
use Rattle.normalise.proofs.Stays.{put_grown}
use Rattle.normalise.proofs.pairs.resolve.Goals as goal

pub put-requires-clause-states : goal.put-requires-clause-states
put-requires-clause-states c =
    let A = c.args.growing.now in
    let rule = c.index-rules-pair.result in
    let pair = c.args.pair.now in
    let e = same_place c.args.rules.now pair.rule c.requires.pair.rule rule c.requires.pair.is_rule c.index-rules-pair.is in
    let whole : c.in_ok-whole.whole ≡ assigned_by rule pair.sigma rule.right =
    c.in_ok-whole.ensures ∙ (λ i. assigned (state_in (c.vars.ensures.list i) (c.as_slice.ensures.value i)) (c.right.ensures.side i)) in
    subst (HasStates A) (sym whole)
    (right_stands A rule pair.sigma c.right.ensures.rule (subst (λ (r : RewriteRule). length pair.sigma ≡ length r.vars) e c.requires.pair.each_variable) c.requires.pair.are_states)

pub put-requires-clause-targets : goal.put-requires-clause-targets
put-requires-clause-targets c =
    let job = c.by.ensures ∙ ap (λ t. job_of t c.args.max_states) c.of-fitting.ensures in
    subst (λ (j : Job). HasTargets c.args.growing.now j.task) (sym job) c.requires.targets

pub returns-in_err-from-clause-full : goal.returns-in_err-from-clause-full
returns-in_err-from-clause-full c = λ e.
    let A = c.args.growing.now in
    let rule = c.index-rules-pair.result in
    let pair = c.args.pair.now in
    let context = by c.args.entries.now c.args.map.now c.args.rules.now in
    let same = same_place c.args.rules.now pair.rule c.requires.pair.rule rule c.requires.pair.is_rule c.index-rules-pair.is in
    let is : slice_get c.args.rules.now pair.rule ≡ Some rule = subst (λ (r : RewriteRule). slice_get c.args.rules.now pair.rule ≡ Some r) same c.requires.pair.is_rule in
    let whole : c.in_ok-whole.whole ≡ assigned_by rule pair.sigma rule.right =
    c.in_ok-whole.ensures ∙ (λ i. assigned (state_in (c.vars.ensures.list i) (c.as_slice.ensures.value i)) (c.right.ensures.side i)) in
    let job = c.by.ensures ∙ ap (λ t. job_of t c.args.max_states) c.of-fitting.ensures in
    let full : IsErrOf c.put.result Full = search (rules, c.in_err-from.was, c.from_residual-in_err-from.ensures.1, e) in
    let needs = subst (λ (j : Job). PutNeedsMore j.task j.most A c.in_ok-whole.whole) job (c.put.ensures.full full) in
    pair_needs context c.args.max_states A pair rule is
    (subst (λ W. PutNeedsMore (task_from c.args.entries.now c.args.map.now W pair.state) c.args.max_states A W) whole needs)

pub add_eps-requires-clause-to : goal.add_eps-requires-clause-to
add_eps-requires-clause-to c = (put_grown c.in_ok-from.ensures.ok).within.states c.args.pair.now.state c.requires.pair.is_state

pub returns-clause-ok : goal.returns-clause-ok
returns-clause-ok c =
    let A = c.args.growing.now in
    let rule = c.index-rules-pair.result in
    let pair = c.args.pair.now in
    let same = same_place c.args.rules.now pair.rule c.requires.pair.rule rule c.requires.pair.is_rule c.index-rules-pair.is in
    let whole : c.in_ok-whole.whole ≡ assigned_by rule pair.sigma rule.right =
    c.in_ok-whole.ensures ∙ (λ i. assigned (state_in (c.vars.ensures.list i) (c.as_slice.ensures.value i)) (c.right.ensures.side i)) in
    let job = c.by.ensures ∙ ap (λ t. job_of t c.args.max_states) c.of-fitting.ensures in
    let puts = subst (λ (j : Job). Puts j.task A c.in_ok-whole.whole c.in_ok-from.from c.put.new.growing) job c.in_ok-from.ensures.ok in
    record {
      rule = rule;
      is_rule = subst (λ (r : RewriteRule). slice_get c.args.rules.now pair.rule ≡ Some r) same c.requires.pair.is_rule;
      put = c.put.new.growing;
      puts = subst (λ W. Puts (task_from c.args.entries.now c.args.map.now W pair.state) A W c.in_ok-from.from c.put.new.growing) whole puts;
      led = c.in_ok-add_eps.ensures.ok;
    }

pub returns-clause-within : goal.returns-clause-within
returns-clause-within c =
    let job = c.by.ensures ∙ ap (λ t. job_of t c.args.max_states) c.of-fitting.ensures in
    eps_within c.args.max_states c.args.growing.now c.put.new.growing c.add_eps.new.self c.in_ok-from.from c.args.pair.now.state
    (subst (λ (j : Job). StaysWithin j.most c.args.growing.now c.put.new.growing) job c.in_ok-from.ensures.within) c.in_ok-add_eps.ensures.ok

pub returns-clause-settled : goal.returns-clause-settled
returns-clause-settled c =
    let A = c.args.growing.now in
    let rule = c.index-rules-pair.result in
    let pair = c.args.pair.now in
    let context = by c.args.entries.now c.args.map.now c.args.rules.now in
    let same = same_place c.args.rules.now pair.rule c.requires.pair.rule rule c.requires.pair.is_rule c.index-rules-pair.is in
    let stand = right_stands A rule pair.sigma c.right.ensures.rule (subst (λ (r : RewriteRule). length pair.sigma ≡ length r.vars) same c.requires.pair.each_variable) c.requires.pair.are_states in
    let whole : c.in_ok-whole.whole ≡ assigned_by rule pair.sigma rule.right =
    c.in_ok-whole.ensures ∙ (λ i. assigned (state_in (c.vars.ensures.list i) (c.as_slice.ensures.value i)) (c.right.ensures.side i)) in
    let job = c.by.ensures ∙ ap (λ t. job_of t c.args.max_states) c.of-fitting.ensures in
    let puts = subst (λ (j : Job). Puts j.task A c.in_ok-whole.whole c.in_ok-from.from c.put.new.growing) job c.in_ok-from.ensures.ok in
    let n : Normalised context A pair c.in_ok-from.from c.add_eps.new.self = record {
      rule = rule;
      is_rule = subst (λ (r : RewriteRule). slice_get c.args.rules.now pair.rule ≡ Some r) same c.requires.pair.is_rule;
      put = c.put.new.growing;
      puts = subst (λ W. Puts (task_from c.args.entries.now c.args.map.now W pair.state) A W c.in_ok-from.from c.put.new.growing) whole puts;
      led = c.in_ok-add_eps.ensures.ok;
    } in
    pair_settled context A c.add_eps.new.self pair c.in_ok-from.from n stand
