-- What ends completion at a stage is one, but for the common term that is told.
use Rattle.std.proofs.Common.{◌≡◌, ◌⊎◌, ℕ, ◌<◌, ◌≤◌, List, length, Some, Contains, sym, ap, subst, ◌∙◌, ⊎_elim, arith}
use Rattle.std.specs.List.{slice_get}
use Rattle.list_laws.proofs.Members.{here, there, at_place}
use Rattle.list_laws.proofs.Decided.{same_number}
use Rattle.trs_rules.specs.Rules.{RewriteRule}
use Rattle.trs_rules.specs.declared.sigma.Pair.{Pair}
use Rattle.ta_core.specs.TreeAutomaton.{TreeAutomaton}
use Rattle.ta_core.specs.Closure.{IsClosedUnder, Closed, IsOpen, OpenAmong, AreOpenPairs}
use Rattle.ta_core.specs.ClosureLaws.{OpenPairsAreOne, TriplesAreAll}
use Rattle.ta_core.specs.Acceptance.{Misses}
use Rattle.ta_core.specs.declared.spec.Spec.{Spec}
use Rattle.ta_core.specs.declared.options.Options.{Options}
use Rattle.ta_core.specs.lemmas.Assignments.{closed_at_list}
use Rattle.ta_clean.specs.declared.witness.Least.{Least}
use Rattle.ta_clean.specs.declared.witness.Least.TheVariants as least
use Rattle.normalise.specs.Normalising.{Context, NormalisedAll, NeedsMore, NeedMoreFor}
use Rattle.completion.specs.Stages.{IsStage, IsLeastMet, EndsAt, context_of}
use Rattle.completion.specs.StagesLaws.{StagesAreOne, AreOneSize, AreOneEnd, EndsAreOne}
use Rattle.completion.specs.declared.end.StageEnd.{StageEnd}

-- ---- a closed automaton has no open pair

record SomeOpen (A : TreeAutomaton) (R : List RewriteRule) (pairs : List Pair) : Type 0 where
  pub pair : Pair
  pub is_in : Contains pairs pair
  pub is_open : IsOpen A R pair

some_open : {A : TreeAutomaton} {R : List RewriteRule} {pairs opens : List Pair} → OpenAmong A R pairs opens → 0 < length opens → SomeOpen A R pairs
some_open OpenAmong.none many = absurd (omega (arith, many))
some_open (OpenAmong.open_one {pair = x} {pairs = xs} o a) many = record { pair = x; is_in = here x xs; is_open = o }
some_open (OpenAmong.settled_one {pair = x} {pairs = xs} s a) many = let h = some_open a many in record { pair = h.pair; is_in = there x h.pair xs h.is_in; is_open = h.is_open }

same_rule : (R : List RewriteRule) (i : ℕ) (r s : RewriteRule) → slice_get R i ≡ Some r → slice_get R i ≡ Some s → r ≡ s
same_rule R i r s a b = let e = sym a ∙ b in cc

pub closed_has_none : TriplesAreAll → (A : TreeAutomaton) (R : List RewriteRule) (pairs : List Pair) → Closed A R → AreOpenPairs A R pairs → 0 < length pairs → ⊥
closed_has_none triples A R pairs closed are many =
    let some = some_open are many in
    let o = some.is_open in
    let t = (triples A R some.pair).0 some.is_in in
    let long = t.each_variable ∙ ap (λ (r : RewriteRule). length r.vars) (same_rule R some.pair.rule t.rule o.rule t.is_rule o.is_rule) in
    o.right (closed_at_list A o.rule (at_place (IsClosedUnder A) R some.pair.rule o.rule closed o.is_rule) some.pair.sigma long t.are_states some.pair.state o.left)

-- where a round needs a state, there is a pair
some_pair : {context : Context} {A B : TreeAutomaton} {pairs : List Pair} → NormalisedAll context A pairs B → (most : ℕ) → NeedsMore most A B → 0 < length pairs
some_pair NormalisedAll.none most needs = let a = needs.some in absurd (omega (arith, a))
some_pair (NormalisedAll.more first rest) most needs = omega arith

pub needs_pair : (context : Context) (most : ℕ) (A : TreeAutomaton) (pairs : List Pair) → NeedMoreFor context most A pairs → 0 < length pairs
needs_pair context most A pairs n = some_pair n.normalised most n.needs

-- ---- at one stage

one_size : (spec : Spec) (A : TreeAutomaton) (v w : Least) → IsLeastMet spec A v → IsLeastMet spec A w → AreOneSize v w
one_size spec A (least.Term t) (least.Term u) a b =
    let up = a.is_least.least u b.is_least.has in
    let down = b.is_least.least t a.is_least.has in
    AreOneSize.terms (omega (arith, up, down))
one_size spec A (least.Term t) least.Large a b = let m = b.each t a.is_least.has in let s = a.small in absurd (omega (arith, m, s))
one_size spec A least.Large (least.Term t) a b = let m = a.each t b.is_least.has in let s = b.small in absurd (omega (arith, m, s))
one_size spec A least.Large least.Large a b = AreOneSize.large

pub never_met : (spec : Spec) (A : TreeAutomaton) (w : Least) → Misses spec.signature A spec.forbidden → IsLeastMet spec A w → ⊥
never_met spec A (least.Term t) misses m = misses t m.is_least.has.accepted m.is_least.has.forbidden
never_met spec A least.Large misses m = misses m.one m.has.accepted m.has.forbidden

pub few_and_many : {xs ys : List Pair} {most : ℕ} → xs ≡ ys → most < length xs → length ys ≤ most → ⊥
few_and_many {xs = xs} {ys = ys} same many few = let e : length xs ≡ length ys = ap length same in omega (arith, e, many, few)

module _ (triples : TriplesAreAll) (lists : OpenPairsAreOne) (spec : Spec) (options : Options) where
  -- a stage that is missed, at which a round is left and some pair is open, ends neither closed nor for want of rounds
  module _ (i : ℕ) (A : TreeAutomaton) (h : List ℕ) where
    none_closed : (pairs : List Pair) → Closed A spec.rules → AreOpenPairs A spec.rules pairs → 0 < length pairs → ⊥
    none_closed pairs closed are many = closed_has_none triples A spec.rules pairs closed are many

    abbrev Needs : List Pair → Type 0
    Needs pairs = NeedMoreFor (context_of spec h) options.states A pairs

    some_needed : (pairs : List Pair) → Needs pairs → 0 < length pairs
    some_needed pairs n = needs_pair (context_of spec h) options.states A pairs n

    pub one_end : {d e : StageEnd} → EndsAt spec options i A h d → EndsAt spec options i A h e → AreOneEnd d e
    one_end (EndsAt.meets {w = v} a) (EndsAt.meets {w = w} b) = AreOneEnd.meets (one_size spec A v w a b)
    one_end (EndsAt.meets {w = v} a) (EndsAt.closed bm bc) = absurd (never_met spec A v bm a)
    one_end (EndsAt.meets {w = v} a) (EndsAt.rounds bm bn be) = absurd (never_met spec A v bm a)
    one_end (EndsAt.meets {w = v} a) (EndsAt.pairs bm bn ba bl) = absurd (never_met spec A v bm a)
    one_end (EndsAt.meets {w = v} a) (EndsAt.states bm bn ba bl bw) = absurd (never_met spec A v bm a)
    one_end (EndsAt.closed am ac) (EndsAt.meets {w = w} b) = absurd (never_met spec A w am b)
    one_end (EndsAt.closed am ac) (EndsAt.closed bm bc) = AreOneEnd.same
    one_end (EndsAt.closed am ac) (EndsAt.rounds bm bn be) = absurd (bn ac)
    one_end (EndsAt.closed am ac) (EndsAt.pairs {pairs = ps} bm bn ba bl) = absurd (none_closed ps ac ba (omega (arith, bl)))
    one_end (EndsAt.closed am ac) (EndsAt.states {pairs = ps} bm bn ba bl bw) = absurd (none_closed ps ac ba (some_needed ps bw))
    one_end (EndsAt.rounds am an ae) (EndsAt.meets {w = w} b) = absurd (never_met spec A w am b)
    one_end (EndsAt.rounds am an ae) (EndsAt.closed bm bc) = absurd (an bc)
    one_end (EndsAt.rounds am an ae) (EndsAt.rounds bm bn be) = AreOneEnd.same
    one_end (EndsAt.rounds am an ae) (EndsAt.pairs bm bn ba bl) = absurd (bn ae)
    one_end (EndsAt.rounds am an ae) (EndsAt.states bm bn ba bl bw) = absurd (bn ae)
    one_end (EndsAt.pairs am an aa al) (EndsAt.meets {w = w} b) = absurd (never_met spec A w am b)
    one_end (EndsAt.pairs {pairs = ps} am an aa al) (EndsAt.closed bm bc) = absurd (none_closed ps bc aa (omega (arith, al)))
    one_end (EndsAt.pairs am an aa al) (EndsAt.rounds bm bn be) = absurd (an be)
    one_end (EndsAt.pairs am an aa al) (EndsAt.pairs bm bn ba bl) = AreOneEnd.same
    one_end (EndsAt.pairs {pairs = ps} am an aa al) (EndsAt.states {pairs = qs} bm bn ba bl bw) = absurd (few_and_many (lists A spec.rules ps qs aa ba) al bl)
    one_end (EndsAt.states am an aa al aw) (EndsAt.meets {w = w} b) = absurd (never_met spec A w am b)
    one_end (EndsAt.states {pairs = ps} am an aa al aw) (EndsAt.closed bm bc) = absurd (none_closed ps bc aa (some_needed ps aw))
    one_end (EndsAt.states am an aa al aw) (EndsAt.rounds bm bn be) = absurd (an be)
    one_end (EndsAt.states {pairs = ps} am an aa al aw) (EndsAt.pairs {pairs = qs} bm bn ba bl) = absurd (few_and_many (lists A spec.rules qs ps ba aa) bl al)
    one_end (EndsAt.states am an aa al aw) (EndsAt.states bm bn ba bl bw) = AreOneEnd.same

-- ---- at one number

equal_numbers : (i j : ℕ) → (i < j → ⊥) → (j < i → ⊥) → i ≡ j
equal_numbers i j early late =
    ⊎_elim (λ same. same) (λ d. ⊎_elim (λ less. absurd (early less)) (λ more. absurd (late more)) (one_is_less i j d)) (same_number i j)
  where
    one_is_less : (i j : ℕ) → (i ≡ j → ⊥) → (i < j) ⊎ (j < i)
    one_is_less i j d = grind (arith, d)

pub ends_are_one : TriplesAreAll → OpenPairsAreOne → StagesAreOne → EndsAreOne
ends_are_one triples lists stages spec options A B h g d e x y =
    let early : x.number < y.number → ⊥ = λ less. y.least x.number A h less x.stage d x.ends in
    let late : y.number < x.number → ⊥ = λ less. x.least y.number B g less y.stage e y.ends in
    let number : x.number ≡ y.number = equal_numbers x.number y.number early late in
    let same = stages spec x.number A B h g x.stage (subst (λ i. IsStage spec i B g) (sym number) y.stage) in
    let there = subst (λ i. EndsAt spec options i B g e) (sym number) y.ends in
    let moved = subst (λ X. EndsAt spec options x.number X g e) (sym same.0) there in
    (same.0, same.1, one_end triples lists spec options x.number A h x.ends (subst (λ l. EndsAt spec options x.number A l e) (sym same.1) moved))
