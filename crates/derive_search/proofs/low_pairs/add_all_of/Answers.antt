use Rattle.std.proofs.Common.{ℕ, List, ◌≡◌, ◌≤◌, ◌<◌, ◌⊎◌, [], drop, length, subst}
use Rattle.std.specs.Prelude.{MatchBool}
use Rattle.derive_search.specs.LowPairs.{Grows, HasEach, IsChosen, IsLargeChoice, IsMadeBy, LacksOne}
use Rattle.derive_search.proofs.StoreFacts.{match_by}
use Rattle.derive_search.proofs.pairs.LowPairLaws.{grows_by}
use Rattle.derive_search.proofs.pairs.CombineLaws.{no_choice, made_from, made_to}
use Rattle.derive_search.proofs.low_pairs.add_all_of.Goals as goal

pub returns-then-lacks_one-clause-all : goal.returns-then-lacks_one-clause-all
returns-then-lacks_one-clause-all c = (
  λ pair h. absurd (no_choice c.args.known.now c.args.t.now.args (subst (LacksOne c.args.known.now) c.as_slice.ensures (c.lacks_one.ensures c.if-lacks_one.true)) c.args.fresh h.ids h.choice),
  c.requires.few,
)

-- nothing was chosen, and the states are those of the set
from_nothing : (P : List ℕ → List ℕ → Type 0) (items states reached : List ℕ) → items ≡ [] → states ≡ reached → P items states → P [] reached
from_nothing P items states reached e h p = subst (P []) h (subst (λ xs. P xs states) e p)

pub returns-clause-grows : goal.returns-clause-grows
returns-clause-grows c =
    let A = c.args.automaton.now in let terms = c.args.store.now in let known = c.args.known.now in let fresh = c.args.fresh in let t = c.args.t.now in
    grows_by (IsChosen terms t.sym [] known fresh t.args c.in_ok-reached.reached) (IsMadeBy A terms known fresh t) (made_from A terms known fresh t c.in_ok-reached.reached c.in_ok-reached.ensures)
    terms c.combine.new.store c.args.pairs.now.keys c.combine.new.pairs.keys
    (from_nothing (λ items states. Grows terms c.combine.new.store c.args.pairs.now.keys c.combine.new.pairs.keys (IsChosen terms t.sym items known fresh (drop (length items) t.args) states))
    c.new-chosen.result.items c.as_slice-2.result.now c.in_ok-reached.reached c.new-chosen.ensures.items c.as_slice-2.ensures.value c.in_ok-within.ensures.grows)

pub returns-clause-all : goal.returns-clause-all
returns-clause-all c =
    let A = c.args.automaton.now in let terms = c.args.store.now in let known = c.args.known.now in let fresh = c.args.fresh in let t = c.args.t.now in
    let keys = c.combine.new.pairs.keys in
    match_by c.in_ok-within.within (λ h. (λ pair m. h.0 pair (made_to A terms known fresh t c.in_ok-reached.reached c.in_ok-reached.ensures pair m), h.1)) (λ h. h)
    (from_nothing (λ items states. MatchBool c.in_ok-within.within
    (HasEach c.combine.new.store keys (IsChosen terms t.sym items known fresh (drop (length items) t.args) states) × (length keys ≤ c.args.limit))
    ((c.args.limit < length keys) ⊎ IsLargeChoice terms t.sym items known fresh (drop (length items) t.args)))
    c.new-chosen.result.items c.as_slice-2.result.now c.in_ok-reached.reached c.new-chosen.ensures.items c.as_slice-2.ensures.value c.in_ok-within.ensures.all)
