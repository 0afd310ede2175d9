use Rattle.std.proofs.Common.{List, All, sym, subst, rules}
use Rattle.std.specs.Result.{IsErrOf}
use Rattle.trs_rules.specs.Rules.{RewriteRule}
use Rattle.trs_rules.specs.declared.entry.Entry.{Entry}
use Rattle.ta_core.specs.Closure.{AreOpenPairs, IsTriple}
use Rattle.normalise.specs.Normalising.{by, NormalisedAll, NeedMoreFor, StaysWithin}
use Rattle.normalise.specs.declared.pairs.NormError.TheVariants.{Full}
use Rattle.completion.specs.Stages.{EndsAt, context_of}
use Rattle.completion.specs.Standing.{Standing}
use Rattle.completion.proofs.Ending.{goes_on, not_empty, pairs_are_triples}
use Rattle.completion.proofs.standing.Core.resolved.Goals as goal

pub normalise_all-grown-requires-clause-pairs : goal.normalise_all-grown-requires-clause-pairs
normalise_all-grown-requires-clause-pairs c =
    let pairs = c.args.pairs.now in
    let are = subst (λ (s : Standing). AreOpenPairs s.automaton s.spec.rules pairs) (sym c.self.view_is) c.requires.all in
    subst (λ R. All (IsTriple c.self.inside.automaton R) pairs) (sym c.as_slice-3.ensures)
    (pairs_are_triples c.open_pairs_are_listed.ensures.exact c.self.inside.automaton c.self.inside.spec.now.rules pairs are)

pub returns-in-Ok : goal.returns-in-Ok
returns-in-Ok c =
    let s = c.args.self.now in
    let pairs = c.args.pairs.now in
    let grown = c.in-Ok.grown in
    let inside : NormalisedAll (by c.self.inside.spec.now.entries c.self.inside.map c.self.inside.spec.now.rules) c.self.inside.automaton pairs grown =
    subst (λ (R : List RewriteRule). NormalisedAll (by c.self.inside.spec.now.entries c.self.inside.map R) c.self.inside.automaton pairs grown) c.as_slice-3.ensures
    (subst (λ (E : List Entry). NormalisedAll (by E c.self.inside.map c.as_slice-3.result.now) c.self.inside.automaton pairs grown) c.as_slice-2.ensures c.in-Ok.ensures.ok) in
    let normalised = subst (λ (s : Standing). NormalisedAll (context_of s.spec s.places) s.automaton pairs grown) c.self.view_is inside in
    let within = subst (λ (s : Standing). StaysWithin s.options.states s.automaton grown) c.self.view_is c.in-Ok.ensures.within in (
      goes_on c.closed_automata_have_no_open_pair.ensures.all c.closed_automata_have_no_open_pair.ensures.one c.normalising_has_one_result.ensures.all s c.args.number pairs grown
          c.requires.rounds c.requires.misses c.requires.all (not_empty pairs c.requires.some) c.requires.few normalised within,
      record { pairs = pairs; are_open = c.requires.all; normalised = normalised },
    )

pub returns-in-Err-Full : goal.returns-in-Err-Full
returns-in-Err-Full c =
    let pairs = c.args.pairs.now in
    let full : IsErrOf c.normalise_all-grown.result Full = search (rules, c.in-Err-Full.is, c.in-Err-Full.field-0-is) in
    let needs : NeedMoreFor (by c.self.inside.spec.now.entries c.self.inside.map c.self.inside.spec.now.rules) c.self.inside.options.states c.self.inside.automaton pairs =
    subst (λ (R : List RewriteRule). NeedMoreFor (by c.self.inside.spec.now.entries c.self.inside.map R) c.self.inside.options.states c.self.inside.automaton pairs) c.as_slice-3.ensures
    (subst (λ (E : List Entry). NeedMoreFor (by E c.self.inside.map c.as_slice-3.result.now) c.self.inside.options.states c.self.inside.automaton pairs) c.as_slice-2.ensures
    (c.normalise_all-grown.ensures.full full)) in
    EndsAt.states c.requires.misses c.requires.rounds c.requires.all c.requires.few
    (subst (λ (s : Standing). NeedMoreFor (context_of s.spec s.places) s.options.states s.automaton pairs) c.self.view_is needs)
