use Rattle.std.proofs.Common.{◌≡◌, ◌<◌, ℕ, List, Contains, length, sym, ap, subst, ◌∙◌}
use Rattle.std.proofs.lemmas.List.FromFn.{length-range_with_len}
use Rattle.ta_core.specs.TreeAutomaton.{TreeAutomaton, IsSound}
use Rattle.eq_merge.specs.Joined.{put_together}
use Rattle.eq_merge.specs.Quotients.{AreLeasts, quotient, apart, joining}
use Rattle.eq_merge.specs.CoherenceLaws.{JoinKeepsCoherence}
use Rattle.eq_merge.proofs.quotients.Composition.{state_below}
use Rattle.eq_merge.proofs.least.LeastMerges.{joining_any}
use Rattle.eq_merge.proofs.quotients.Tables.{together_apart}
use Rattle.eq_merge.proofs.quotient.join_states.Goals as goal

-- what the table has a place for
has_place : (next q n : ℕ) (h : List ℕ) → q < next → n ≡ next → h ≡ apart n → q < length h
has_place next q n h below n-is h-is = subst (λ m. q < m) (sym (ap length h-is ∙ (length-range_with_len 0 n ∙ n-is))) below

-- the table after the two are put together
joined : (next p q n : ℕ) (h g : List ℕ) → p < next → q < next → n ≡ next → h ≡ apart n → g ≡ put_together h p q → g ≡ joining next p q
joined next p q n h g l k n-is h-is g-is = g-is ∙ (ap (λ t. put_together t p q) (h-is ∙ ap apart n-is) ∙ together_apart next p q l k)

leasts : (A : TreeAutomaton) (p q n : ℕ) (h g : List ℕ) → IsSound A → Contains A.states p → Contains A.states q → n ≡ A.next → h ≡ apart n → g ≡ put_together h p q → AreLeasts A g
leasts A p q n h g sound is_p is_q n-is h-is g-is =
    subst (AreLeasts A) (sym (joined A.next p q n h g (state_below sound p is_p) (state_below sound q is_q) n-is h-is g-is)) (joining_any A p q sound is_p is_q)

pub join-requires-clause-p : goal.join-requires-clause-p
join-requires-clause-p c =
    has_place c.args.a.now.next c.args.p c.next.result c.in_ok-classes.classes (state_below c.next.ensures.sound c.args.p c.requires.p) c.next.ensures.value c.in_ok-classes.ensures

pub join-requires-clause-q : goal.join-requires-clause-q
join-requires-clause-q c =
    has_place c.args.a.now.next c.args.q c.next.result c.in_ok-classes.classes (state_below c.next.ensures.sound c.args.q c.requires.q) c.next.ensures.value c.in_ok-classes.ensures

pub returns-clause-classes : goal.returns-clause-classes
returns-clause-classes c =
    let A = c.args.a.now in
    joined A.next c.args.p c.args.q c.next.result c.in_ok-classes.classes c.join.new.self (state_below c.next.ensures.sound c.args.p c.requires.p)
    (state_below c.next.ensures.sound c.args.q c.requires.q) c.next.ensures.value c.in_ok-classes.ensures c.join.ensures

pub quotient_by-requires : goal.quotient_by-requires
quotient_by-requires c =
    leasts c.args.a.now c.args.p c.args.q c.next.result c.in_ok-classes.classes c.join.new.self c.next.ensures.sound c.requires.p c.requires.q c.next.ensures.value c.in_ok-classes.ensures
    c.join.ensures

pub returns-clause-leasts : goal.returns-clause-leasts
returns-clause-leasts c =
    leasts c.args.a.now c.args.p c.args.q c.next.result c.in_ok-classes.classes c.join.new.self c.next.ensures.sound c.requires.p c.requires.q c.next.ensures.value c.in_ok-classes.ensures
    c.join.ensures

pub returns-clause-coherent : goal.returns-clause-coherent
returns-clause-coherent c =
    let A = c.args.a.now in
    let is = joined A.next c.args.p c.args.q c.next.result c.in_ok-classes.classes c.join.new.self (state_below c.next.ensures.sound c.args.p c.requires.p)
    (state_below c.next.ensures.sound c.args.q c.requires.q) c.next.ensures.value c.in_ok-classes.ensures c.join.ensures in
    subst (λ X. JoinKeepsCoherence A c.args.p c.args.q X c.join.new.self) (sym c.in_ok-joined.ensures)
    (subst (λ h. JoinKeepsCoherence A c.args.p c.args.q (quotient A h) h) (sym is) (c.merging_keeps_coherence.ensures.joins A c.args.p c.args.q c.next.ensures.sound))
