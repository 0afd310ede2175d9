-- An automaton that is accepted has nothing that another answer could name.
use Rattle.std.proofs.Common.{◌≡◌, ℕ, IsTrue, List, ◌∷◌, length, Contains, sym, ap, subst, ◌∙◌}
use Rattle.std.proofs.lemmas.List.Elements.{Contains-append_right, All-contains}
use Rattle.ranked_terms.specs.Names.{Symbol}
use Rattle.trs_rules.specs.Rules.{RewriteRule}
use Rattle.trs_rules.specs.declared.sigma.Pair.{Pair}
use Rattle.ta_core.specs.TreeAutomaton.{TreeAutomaton}
use Rattle.ta_core.specs.Languages.{Accepts}
use Rattle.ta_core.specs.SpecRules.{automaton_is_over}
use Rattle.ta_core.specs.Closure.{Closed, IsClosedUnder, triples_from, IsFirstOpen}
use Rattle.ta_core.specs.Acceptance.{Misses, IsContained, TransHolds, EpsHolds, FinalHolds}
use Rattle.list_laws.proofs.Members.{here}
use Rattle.ta_core.specs.AcceptanceLaws.{AcceptedTermsAreOver}
use Rattle.list_laws.proofs.Members.{at_place}
use Rattle.ta_core.specs.lemmas.Assignments.{closed_at_list}
use Rattle.ta_core.specs.ClosureLaws.{TriplesAreAll}
use Rattle.list_laws.specs.Listings.{IsFirst}
use Rattle.ta_clean.specs.Meeting.{FinalsMeet, IsLeastMeeting}
use Rattle.closure_check.specs.Answers.{IsFirstMissing}
use Rattle.closure_check.specs.declared.answer.Missing.{Missing}
use Rattle.closure_check.specs.declared.answer.Missing.TheVariants as missing

pub first_member : {X : Type 0} {Is Not : X → Type 0} (xs : List X) (x : X) → IsFirst Is Not xs x → Contains xs x
first_member xs x first = subst (λ l. Contains l x) (sym first.splits) (Contains-append_right first.before (x ∷ first.after) x (here x first.after))

pub none_missing : (A₀ A : TreeAutomaton) (h : List ℕ) (m : Missing) → IsFirstMissing A₀ A h m → IsContained A₀ A h → ⊥
none_missing A₀ A h (missing.Transition k) at c = at.1.is (All-contains (TransHolds A h) A₀.trans at.0 c.trans (first_member A₀.trans at.0 at.1))
none_missing A₀ A h (missing.Epsilon k) (_, at) c = at.1.is (All-contains (EpsHolds A h) A₀.eps at.0 c.eps (first_member A₀.eps at.0 at.1))
none_missing A₀ A h (missing.Final q) (_, _, first) c = first.is (All-contains (FinalHolds A h) A₀.finals q c.finals (first_member A₀.finals q first))

pub none_open : TriplesAreAll → (A : TreeAutomaton) (R : List RewriteRule) (pair : Pair) → IsFirstOpen A R pair → Closed A R → ⊥
none_open law A R pair first closed =
    let t = (law A R pair).0 (first_member (triples_from A 0 R) pair first) in
    let o = first.is in
    let same : t.rule ≡ o.rule = let e = sym t.is_rule ∙ o.is_rule in cc in
    let long : length pair.sigma ≡ length o.rule.vars = t.each_variable ∙ ap (λ r. length r.vars) same in
    o.right (closed_at_list A o.rule (at_place (IsClosedUnder A) R pair.rule o.rule closed o.is_rule) pair.sigma long t.are_states pair.state o.left)

pub none_meet : AcceptedTermsAreOver → (signature : List Symbol) (A B : TreeAutomaton) (p q : ℕ) → IsTrue (automaton_is_over signature B) → IsLeastMeeting A B p q → Misses signature A B → ⊥
none_meet law signature A B p q over least misses =
    let m = least.meet in
    let first : Accepts A m.meets.term = record { state = p; runs = m.meets.first; final = m.first } in
    let second : Accepts B m.meets.term = record { state = q; runs = m.meets.second; final = m.second } in
    let is_over = law signature B over m.meets.term second in
    misses m.meets.term (record { over = is_over; accepted = first }) (record { over = is_over; accepted = second })

-- no ground term is accepted by both where no two final states meet
pub misses_by : (signature : List Symbol) (A B : TreeAutomaton) → ((p q : ℕ) → FinalsMeet A B p q → ⊥) → Misses signature A B
misses_by signature A B none t first second =
    let a = first.accepted in
    let b = second.accepted in
    none a.state b.state (record { first = a.final; second = b.final; meets = record { term = t; first = a.runs; second = b.runs } })
