use Rattle.std.proofs.Common.{ℕ, List, ◌≡◌, ◌<◌, ◌+◌, length, take, get_or, refl, sym, subst, ⊎_elim, arith}
use Rattle.std.specs.List.{Contains}
use Rattle.std.proofs.lemmas.List.{take_more, take_all}
use Rattle.std.proofs.lemmas.List.Elements.{Contains-push_cases}
use Rattle.list_laws.proofs.Members.{none}
use Rattle.ranked_terms.specs.declared.term.Term.{Term}
use Rattle.term_store.specs.Store.{term_at}
use Rattle.derive_search.specs.LowPairs.{Grows, AddsPair, named_pairs}
use Rattle.derive_search.proofs.pairs.LowPairLaws.{grows_not, grows_more, grows_one, one_is_there, added_stays, in_named, member_at}
use Rattle.derive_search.proofs.low_pairs.add_states.Goals as goal

abbrev Has : List ℕ → List Term → ℕ → ℕ × Term → Type 0
Has states store id pair = Contains states pair.0 × (pair.1 ≡ term_at store id)

pub loop-state-init : goal.loop-state-init
loop-state-init c = (
  grows_not (Has c.args.states.now c.args.store.now c.args.id) c.args.store.now c.args.pairs.now.keys,
  (λ q h. absurd (none q h), c.requires.few),
)

-- one state more
module _ (states : List ℕ) (store : List Term) (id k : ℕ) (l : k < length states) (there : id < length store) (start now new : List (ℕ × ℕ))
    (g : Grows store store start now (Has states store id)) (a : AddsPair (get_or states k 0, id) now new) where
  grown : Grows store store start new (Has states store id)
  grown = grows_more (Has states store id) store store store start now new g (grows_one (Has states store id) store now new (get_or states k 0) id there (member_at states k 0 l, refl) a)

  each : ((q : ℕ) → Contains (take k states) q → Contains now (q, id)) → (q : ℕ) → Contains (take (k + 1) states) q → Contains new (q, id)
  each h q c = ⊎_elim
      (λ old. added_stays now new (get_or states k 0, id) a (q, id) (h q old))
      (λ e. subst (λ q. Contains new (q, id)) e (one_is_there now new (get_or states k 0, id) a))
      (Contains-push_cases (take k states) (get_or states k 0) q (subst (λ xs. Contains xs q) (take_more states k 0 l) c))

pub returns-then-limit-len-clause-grows : goal.returns-then-limit-len-clause-grows
returns-then-limit-len-clause-grows c =
    grown c.args.states.now c.args.store.now c.args.id c.loop-state.state-index c.loop-state-test.true c.requires.there c.args.pairs.now.keys c.loop-state.pairs.keys c.add_pair.new.pairs.keys c.loop-state.invariant.0 c.in_ok-add_pair.ensures

pub returns-then-limit-len-clause-all : goal.returns-then-limit-len-clause-all
returns-then-limit-len-clause-all c = omega (arith, c.if-limit-len.true, c.len.ensures.len)

pub loop-state-preserved : goal.loop-state-preserved
loop-state-preserved c = (
  grown c.args.states.now c.args.store.now c.args.id c.loop-state.state-index c.loop-state-test.true c.requires.there c.args.pairs.now.keys c.loop-state.pairs.keys c.add_pair.new.pairs.keys c.loop-state.invariant.0 c.in_ok-add_pair.ensures,
  (
    each c.args.states.now c.args.store.now c.args.id c.loop-state.state-index c.loop-state-test.true c.requires.there c.args.pairs.now.keys c.loop-state.pairs.keys c.add_pair.new.pairs.keys c.loop-state.invariant.0 c.in_ok-add_pair.ensures c.loop-state.invariant.1.0,
    omega (arith, c.if-limit-len.false, c.len.ensures.len),
  ),
)

pub returns-clause-all : goal.returns-clause-all
returns-clause-all c = (
  λ pair h.
      let there = c.loop-state.invariant.1.0 pair.0 (subst (λ xs. Contains xs pair.0) (sym (take_all c.loop-state.state-index c.args.states.now c.loop-state-test.false)) h.0) in
      subst (Contains (named_pairs c.args.store.now c.loop-state.pairs.keys)) (λ i. (pair.0, sym h.1 i)) (in_named c.args.store.now c.loop-state.pairs.keys (pair.0, c.args.id) there),
  c.loop-state.invariant.1.1,
)
