-- The term that a derivation leads to, and what its replay shows.
use Rattle.std.proofs.Common.{◌≡◌, suc, ◌-◌, true, true≢false, nat_lt, get_or, length, map, List, [], ◌∷◌, Some, is_some, slice_get, option_map, refl, sym, ap, subst, ◌∙◌, arith}
use Rattle.std.specs.Prelude.{IsTrue}
use Rattle.std.proofs.lemmas.Option.{slice_get-map, slice_get_read}
use Rattle.ranked_terms.specs.declared.term.Term.{Term}
use Rattle.trs_rules.specs.Derivations.{IsDerivation, LeadsTo, terms_along}
use Rattle.trs_rules.specs.Counted.{LeadsIn}
use Rattle.trs_rules.specs.DerivationLaws.{DerivationsAreChains}
use Rattle.trs_rules.specs.Steps.{Leads}
use Rattle.trs_rules.specs.declared.derivation.DStep.{DStep}
use Rattle.trs_rules.specs.declared.derivation.Derivation.{Derivation}
use Rattle.ta_core.specs.TreeAutomaton.{TreeAutomaton}
use Rattle.ta_core.specs.Languages.{Language, Accepts}
use Rattle.ta_core.specs.Reachability.{Forbidden, Replays}
use Rattle.ta_core.specs.AcceptanceLaws.{AcceptedTermsAreOver}
use Rattle.ta_core.specs.SpecRules.{automaton_is_over}
use Rattle.ta_core.specs.declared.spec.Spec.{Spec}
use Rattle.closure_check.specs.Replaying.{Begins, Ends, ReachesForbidden}

pub no_step : (d : Derivation) → d.steps ≡ [] → LeadsTo d d.start
no_step d e = ap (λ steps. slice_get (terms_along (record { start = d.start; steps = steps })) (length steps)) e

last_in : (t : Term) (steps : List DStep) (s : DStep) → slice_get steps (length steps - 1) ≡ Some s → slice_get (t ∷ map (λ x. x.term) steps) (length steps) ≡ Some s.term
last_in t [] s e = absurd (true≢false (sym (ap is_some e)))
last_in t (x ∷ steps) s e =
    let place : suc (length steps) - 1 ≡ length steps = omega arith in
    slice_get-map (λ y. y.term) (x ∷ steps) (length steps) ∙ ap (option_map (λ y. y.term)) (ap (slice_get (x ∷ steps)) (sym place) ∙ e)

pub last_read : (steps : List DStep) (s : DStep) → true ≡ nat_lt 0 (length steps) → s ≡ get_or steps (length steps - 1) s → slice_get steps (length steps - 1) ≡ Some s
last_read [] s some e = absurd (true≢false some)
last_read (x ∷ steps) s some e = slice_get_read (x ∷ steps) (suc (length steps)) (suc (length steps) - 1) s refl (omega arith) e

pub last_step : (d : Derivation) (s : DStep) → slice_get d.steps (length d.steps - 1) ≡ Some s → LeadsTo d s.term
last_step d s e = last_in d.start d.steps s e

some_is : (t u : Term) → Some t ≡ Some u → t ≡ u
some_is t u e = cc

pub leads_to_one : (d : Derivation) (t u : Term) → LeadsTo d t → LeadsTo d u → t ≡ u
leads_to_one d t u a b = some_is t u (sym a ∙ b)

-- what an automaton over the signature accepts is in its language
pub in_language : AcceptedTermsAreOver → (spec : Spec) (A : TreeAutomaton) (t : Term) → IsTrue (automaton_is_over spec.signature A) → Accepts A t → Language spec.signature A t
in_language law spec A t over acc = record { over = law spec.signature A over t acc; accepted = acc }

-- the last term is the only one that a derivation leads to
pub not_ended : (spec : Spec) (d : Derivation) (t : Term) → LeadsTo d t → (Forbidden spec t → ⊥) → Ends spec d → ⊥
not_ended spec d t to never ends = never (subst (Forbidden spec) (leads_to_one d ends.0 t ends.1 to) ends.2)

pub replayed : (spec : Spec) (d : Derivation) (t : Term) → Begins spec d → IsDerivation spec.rules d → LeadsTo d t → Forbidden spec t → Replays spec d
replayed spec d t begins steps to bad = record { starts = begins; steps = steps; last = t; leads = to; forbidden = bad }

pub reaches : DerivationsAreChains → (spec : Spec) (d : Derivation) → Replays spec d → ReachesForbidden spec
reaches law spec d r =
    let chain : LeadsIn spec.rules (length d.steps) d.start r.last = (law spec.rules (length d.steps) d.start r.last).0 (record { derivation = d; starts = refl; count = refl; steps = r.steps; leads = r.leads }) in
    let leads : Leads spec.rules d.start r.last = record { terms = chain.terms; chain = chain.chain; begins = chain.begins; ends = chain.ends } in
    (r.last, record { start = d.start; begins = r.starts; leads = leads }, r.forbidden)
