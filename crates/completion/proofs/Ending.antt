-- What is found at a stage ends completion there, or nothing does.
use Rattle.std.proofs.Common.{◌≡◌, ◌≢◌, ℕ, ◌<◌, ◌≤◌, List, [], ◌∷◌, length, Option, Some, None, All, refl, subst, ⊎_elim, arith, IfSome, IfNone}
use Rattle.ranked_terms.specs.declared.term.Term as term
use Rattle.list_laws.proofs.Members.{all_from_members}
use Rattle.trs_rules.specs.Rules.{RewriteRule, IsRule}
use Rattle.trs_rules.specs.declared.sigma.Pair.{Pair}
use Rattle.ta_core.specs.TreeAutomaton.{TreeAutomaton, IsSound}
use Rattle.ta_core.specs.Acceptance.{Misses}
use Rattle.ta_core.specs.AcceptanceLaws.{AcceptedTermsAreOver}
use Rattle.ta_core.specs.Closure.{Closed, IsTriple, AreOpenPairs}
use Rattle.ta_core.specs.ClosureLaws.{OpenPairsAreOne, TriplesAreAll, OpenPairsAreOpenTriples, ClosedHasNoOpenPair}
use Rattle.ta_core.specs.declared.spec.Spec.{Spec}
use Rattle.ta_clean.specs.Meeting.{IsCommon}
use Rattle.ta_clean.specs.Least.{Witnesses}
use Rattle.ta_clean.specs.declared.witness.Witness.{Witness}
use Rattle.ta_clean.specs.declared.witness.Witness.TheVariants as witness
use Rattle.normalise.specs.Normalising.{NormalisedAll, StaysWithin, NeedsMore}
use Rattle.normalise.specs.NormalisingLaws.{NormalisedAllIsOne}
use Rattle.completion.specs.Stages.{IsMet, IsLeastMet, EndsAt, GoesOn, context_of}
use Rattle.completion.specs.Standing.{Standing, told}
use Rattle.completion.proofs.EndLaws.{closed_has_none, never_met, few_and_many}

-- ---- common terms

module _ (over : AcceptedTermsAreOver) (spec : Spec) (A : TreeAutomaton) where
  met : (t : term.Term) → IsCommon A spec.forbidden t → IsMet spec A t
  met t c =
      let o = over spec.signature spec.forbidden spec.forbidden_over t c.second in
      record { accepted = record { over = o; accepted = c.first }; forbidden = record { over = o; accepted = c.second } }

  common : (t : term.Term) → IsMet spec A t → IsCommon A spec.forbidden t
  common t m = record { first = m.accepted.accepted; second = m.forbidden.accepted }

  pub told_is_met : (w : Witness) → Witnesses (IsCommon A spec.forbidden) w → IfSome (told w) (IsLeastMet spec A)
  told_is_met witness.None h = tt
  told_is_met (witness.Term t) h = record { is_least = record { has = met t h.is_least.has; least = λ u m. h.is_least.least u (common u m) }; small = h.small }
  told_is_met witness.Large h = record { one = h.one; has = met h.one h.has; each = λ u m. h.each u (common u m) }

  pub none_is_missed : (w : Witness) → Witnesses (IsCommon A spec.forbidden) w → IfNone (told w) (Misses spec.signature A spec.forbidden)
  none_is_missed witness.None h = λ t a b. h t (record { first = a.accepted; second = b.accepted })
  none_is_missed (witness.Term t) h = tt
  none_is_missed witness.Large h = tt

-- ---- nothing ends completion

pub not_empty : (pairs : List Pair) → (pairs ≡ [] → ⊥) → 0 < length pairs
not_empty [] some = absurd (some refl)
not_empty (x ∷ xs) some = omega arith

never_both : (most : ℕ) (A B : TreeAutomaton) → StaysWithin most A B → NeedsMore most A B → ⊥
never_both most A B within needs =
    let a = needs.some in
    let b = needs.above in
    ⊎_elim (λ same. omega (arith, same, a)) (λ few. omega (arith, few, b)) within

module _ (triples : TriplesAreAll) (lists : OpenPairsAreOne) (all : NormalisedAllIsOne) (s : Standing) (i : ℕ) (pairs : List Pair) (grown : TreeAutomaton) where
  abbrev A : TreeAutomaton
  A = s.automaton

  abbrev spec : Spec
  spec = s.spec

  pub goes_on : i ≢ s.options.rounds → Misses spec.signature A spec.forbidden → AreOpenPairs A spec.rules pairs → 0 < length pairs → length pairs ≤ s.options.pairs →
      NormalisedAll (context_of spec s.places) A pairs grown → StaysWithin s.options.states A grown → GoesOn spec s.options i A s.places
  goes_on left misses are some few normalised within e (EndsAt.meets {w = w} m) = never_met spec A w misses m
  goes_on left misses are some few normalised within e (EndsAt.closed bm closed) = closed_has_none triples A spec.rules pairs closed are some
  goes_on left misses are some few normalised within e (EndsAt.rounds bm bn be) = left be
  goes_on left misses are some few normalised within e (EndsAt.pairs {pairs = qs} bm bn others many) = few_and_many (lists A spec.rules qs pairs others are) many few
  goes_on left misses are some few normalised within e (EndsAt.states {pairs = qs} bm bn others bl needs) =
      let same = lists A spec.rules qs pairs others are in
      let one = all (context_of spec s.places) A needs.grown grown pairs (subst (λ l. NormalisedAll (context_of spec s.places) A l needs.grown) same needs.normalised) normalised in
      never_both s.options.states A grown within (subst (NeedsMore s.options.states A) one needs.needs)

-- ---- what was found

pub if_some : {T : Type 0} (P : T → Type 0) (o : Option T) (x : T) → IfSome o P → o ≡ Some x → P x
if_some P o x h e = subst (λ o. IfSome o P) e h

pub if_none : {T : Type 0} {Q : Type 0} (o : Option T) → IfNone o Q → o ≡ None → Q
if_none {T = T} {Q = Q} o h e = subst (λ (o : Option T). IfNone o Q) e h

pub pairs_are_triples : OpenPairsAreOpenTriples → (A : TreeAutomaton) (R : List RewriteRule) (pairs : List Pair) → AreOpenPairs A R pairs → All (IsTriple A R) pairs
pairs_are_triples exact A R pairs are = all_from_members (IsTriple A R) pairs (λ x c. ((exact A R pairs are x).0 c).triple)

pub closed_if_none : ClosedHasNoOpenPair → (A : TreeAutomaton) (R : List RewriteRule) (pairs : List Pair) → IsSound A → All IsRule R → AreOpenPairs A R pairs → pairs ≡ [] → Closed A R
closed_if_none none A R pairs sound are_rules are empty = (none A R sound are_rules).1 (subst (AreOpenPairs A R) empty are)

pub none_of_few : (pairs : List Pair) → length pairs ≤ 0 → pairs ≡ []
none_of_few [] few = refl
none_of_few (x ∷ xs) few = absurd (omega (arith, few))

pub open_if_some : TriplesAreAll → (A : TreeAutomaton) (R : List RewriteRule) (pairs : List Pair) → AreOpenPairs A R pairs → 0 < length pairs → Closed A R → ⊥
open_if_some triples A R pairs are some closed = closed_has_none triples A R pairs closed are some
