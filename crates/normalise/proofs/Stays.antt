-- What was there stays in an automaton that grows, and `next` doesn't fall.
use Rattle.std.proofs.Common.{◌≡◌, ℕ, ◌+◌, ◌<◌, ◌≤◌, List, [], ◌∷◌, refl, sym, subst, ◌∙◌, ⊎_elim, inl, inr, arith, eq-eqb, ne_eqb}
use Rattle.std.proofs.lemmas.List.Elements.{Contains-append_left, Contains-append_cases}
use Rattle.ranked_terms.specs.declared.term.Config.{Config}
use Rattle.list_laws.proofs.Decided.{same_number}
use Rattle.list_laws.proofs.Inserting.{kept}
use Rattle.list_laws.proofs.Members.{none, parts}
use Rattle.ta_core.specs.TreeAutomaton.{TreeAutomaton, trans_of}
use Rattle.ta_core.specs.Growth.{with_state, with_trans, with_eps}
use Rattle.ta_core.specs.lemmas.Orders.{trans_total, trans_exact, pair_total, pair_exact}
use Rattle.normalise.specs.Normalising.{Task, Goes, Puts, PutsAll, NormalisedAll}
use Rattle.normalise.specs.NormalisingLaws.{IsGrown, PutsGrow, NormalisedGrows, NormalisedAllGrows}

pub grown_itself : (A : TreeAutomaton) → IsGrown A A
grown_itself A = record { within = record { states = λ q c. c; trans = λ f qs q c. c; eps = λ p q c. c }; added = λ q c. inl c; finals = refl; next = omega arith }

pub grown_on : {A B C : TreeAutomaton} → IsGrown A B → IsGrown B C → IsGrown A C
grown_on g h = record {
  within = record {
    states = λ q c. h.within.states q (g.within.states q c);
    trans = λ f qs q c. h.within.trans f qs q (g.within.trans f qs q c);
    eps = λ p q c. h.within.eps p q (g.within.eps p q c);
  };
  added = λ q c.
      ⊎_elim
      (λ mid. ⊎_elim (λ old. inl old) (λ new. inr (new.0, let a = new.1 in let b = h.next in omega (arith, a, b))) (g.added q mid))
      (λ new. inr ((let a = g.next in let b = new.0 in omega (arith, a, b)), new.1)) (h.added q c);
  finals = h.finals ∙ g.finals;
  next = let a = g.next in let b = h.next in omega (arith, a, b);
}

pub trans_grown : (A : TreeAutomaton) (f : ℕ) (ps : List ℕ) (p : ℕ) → IsGrown A (with_trans A f ps p)
trans_grown A f ps p = record {
  within = record { states = λ q c. c; trans = λ g qs q c. kept trans_total trans_exact A.trans (trans_of f ps p) (trans_of g qs q) c; eps = λ p q c. c };
  added = λ q c. inl c;
  finals = refl;
  next = omega arith;
}

pub state_grown : (A : TreeAutomaton) → IsGrown A (with_state A)
state_grown A = record {
  within = record { states = λ q c. Contains-append_left A.states (A.next ∷ []) q c; trans = λ g qs q c. c; eps = λ p q c. c };
  added = λ q c.
      ⊎_elim (λ old. inl old) (λ new. inr (is_fresh q (⊎_elim (λ same. sym same) (λ later. absurd (none q later)) (parts A.next q [] new))))
      (Contains-append_cases A.states (A.next ∷ []) q c);
  finals = refl;
  next = omega arith;
}
  where
    is_fresh : (q : ℕ) → q ≡ A.next → (A.next ≤ q) × (q < A.next + 1)
    is_fresh q same = (omega (arith, same), omega (arith, same))

pub eps_grown : (A : TreeAutomaton) (p q : ℕ) → IsGrown A (with_eps A p q)
eps_grown A p q = ⊎_elim (λ same. rw (eq-eqb p q same) (grown_itself A)) (λ differ. rw (ne_eqb p q differ) (record {
  within = record { states = λ q c. c; trans = λ g qs q c. c; eps = λ a b c. kept pair_total pair_exact A.eps (p, q) (a, b) c };
  added = λ r c. inl c;
  finals = refl;
  next = omega arith;
})) (same_number p q)

pub goes_grown : {task : Task} {A B : TreeAutomaton} {f p : ℕ} {ps : List ℕ} → Goes task A f ps p B → IsGrown A B
goes_grown {A = A} {f = f} {ps = ps} (Goes.entry {p = p} sent) = trans_grown A f ps p
goes_grown {A = A} (Goes.reuse sent has) = grown_itself A
goes_grown {A = A} {f = f} {ps = ps} (Goes.fresh sent never) = grown_on (state_grown A) (trans_grown (with_state A) f ps A.next)

mutual
  pub put_grown : {task : Task} {A B : TreeAutomaton} {c : Config} {p : ℕ} → Puts task A c p B → IsGrown A B
  put_grown (Puts.state {A = A}) = grown_itself A
  put_grown (Puts.node all goes) = grown_on (all_grown all) (goes_grown goes)

  pub all_grown : {task : Task} {A B : TreeAutomaton} {cs : List Config} {ps : List ℕ} → PutsAll task A cs ps B → IsGrown A B
  all_grown (PutsAll.none {A = A}) = grown_itself A
  all_grown (PutsAll.more first rest) = grown_on (put_grown first) (all_grown rest)

pub puts_grow : PutsGrow
puts_grow task A B c p put = put_grown put

pub normalised_grows : NormalisedGrows
normalised_grows context A B pair p n = subst (IsGrown A) (sym n.led) (grown_on (put_grown n.puts) (eps_grown n.put p pair.state))

pub normalised_all_grows : NormalisedAllGrows
normalised_all_grows context A B pairs NormalisedAll.none = grown_itself A
normalised_all_grows context A B pairs (NormalisedAll.more {B = M} {pair = pair} {p = p} {pairs = rest} first others) =
    grown_on (normalised_grows context A M pair p first) (normalised_all_grows context M B rest others)
