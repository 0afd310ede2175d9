use Rattle.std.proofs.Common.{ℕ, List, Bool, ◌≡◌, ◌<◌, false, [], length, get_or, sym, ap, subst, ◌∙◌, inl, inr, ⊎_elim, arith}
use Rattle.std.specs.List.{All, Contains}
use Rattle.std.specs.Prelude.{IsTrue}
use Rattle.std.proofs.lemmas.List.{take_all}
use Rattle.std.proofs.lemmas.List.Elements.{All-contains, Contains-get_or}
use Rattle.list_laws.proofs.Members.{none, all_from_members}
use Rattle.ta_core.specs.TreeAutomaton.{TreeAutomaton, IsSound, IsTransOf}
use Rattle.ta_core.specs.declared.trans.Trans.{Trans}
use Rattle.derive_search.specs.Made.{IsMade}
use Rattle.derive_search.specs.LowPairs.{AreKnown, AreOldFirst, Grows, HasEach, IsMadeBy, IsLargeChoice, named_pairs}
use Rattle.derive_search.proofs.StoreFacts.{when_true, when_false}
use Rattle.derive_search.proofs.pairs.LowPairLaws.{grows_not, placed_now}
use Rattle.derive_search.proofs.pairs.CombineLaws.{known_stay}
use Rattle.derive_search.proofs.pairs.RoundLaws.{are_known, large_down, round_grown, round_each, round_closed}
use Rattle.derive_search.proofs.low_pairs.add_next.Goals as goal

pub loop-t-init : goal.loop-t-init
loop-t-init c = (
  grows_not (IsMade c.args.automaton.now (named_pairs c.args.store.now c.args.pairs.now.keys)) c.args.store.now c.args.pairs.now.keys,
  (λ pair u h m. absurd (none u h)),
  c.requires.few,
)

-- a transition of the list is one of the automaton, and its states have lists
member_of : (A : TreeAutomaton) (items : List Trans) → items ≡ A.trans → (k : ℕ) (t : Trans) → k < length items → t ≡ get_or items k t → Contains A.trans t
member_of A items e k t l is = subst (λ xs. Contains xs t) e (subst (Contains items) (sym is) (Contains-get_or items k t l))

args_below : (A : TreeAutomaton) → IsSound A → (t : Trans) → Contains A.trans t → (known lists : List (List (ℕ × Bool))) → length known ≡ A.next → lists ≡ known → All (λ q. q < length lists) t.args
args_below A sound t m known lists size same =
    let states = (All-contains (IsTransOf A.states) A.trans t sound.trans m).args in
    all_from_members (λ q. q < length lists) t.args (λ q c.
    let b = All-contains (λ q. q < A.next) A.states q sound.below (All-contains (Contains A.states) t.args q states c) in
    omega (arith, b, size, ap length same))

pub add_all_of-requires-clause-below : goal.add_all_of-requires-clause-below
add_all_of-requires-clause-below c =
    let A = c.args.automaton.now in
    let m = member_of A c.trans-t-items.result.now c.trans-t-items.ensures.value c.loop-t.t-index c.t-item.result c.loop-t-test.true c.t-item.is in
    args_below A c.next.ensures.sound c.t-item.result m c.in_ok-known.known.items c.as_slice.result.now (c.in_ok-known.ensures.len ∙ c.next.ensures.value) c.as_slice.ensures.value

pub add_all_of-requires-clause-known : goal.add_all_of-requires-clause-known
add_all_of-requires-clause-known c =
    let A = c.args.automaton.now in
    subst (AreKnown c.loop-t.store) (sym c.as_slice.ensures.value) (known_stay c.args.store.now c.loop-t.store c.loop-t.invariant.0.keeps c.in_ok-known.known.items
    (are_known A c.next.ensures.sound c.args.store.now c.args.pairs.now.keys c.args.first c.args.is_first_round c.in_ok-known.known.items c.in_ok-known.ensures.grouped c.requires.placed))

pub add_all_of-requires-clause-ordered : goal.add_all_of-requires-clause-ordered
add_all_of-requires-clause-ordered c = subst AreOldFirst (sym c.as_slice.ensures.value) c.in_ok-known.ensures.ordered

pub add_all_of-requires-clause-placed : goal.add_all_of-requires-clause-placed
add_all_of-requires-clause-placed c = placed_now _ c.args.store.now c.loop-t.store c.args.pairs.now.keys c.loop-t.pairs.keys c.requires.placed c.loop-t.invariant.0

pub add_all_of-requires-clause-few : goal.add_all_of-requires-clause-few
add_all_of-requires-clause-few c = c.loop-t.invariant.2

pub returns-then-not-branch-clause-grows : goal.returns-then-not-branch-clause-grows
returns-then-not-branch-clause-grows c =
    let A = c.args.automaton.now in let start = c.args.store.now in let pairs = c.args.pairs.now.keys in let known = c.in_ok-known.known.items in
    let m = member_of A c.trans-t-items.result.now c.trans-t-items.ensures.value c.loop-t.t-index c.t-item.result c.loop-t-test.true c.t-item.is in
    round_grown A c.next.ensures.sound start pairs c.args.first c.args.is_first_round known c.in_ok-known.ensures.grouped c.requires.placed c.loop-t.store c.loop-t.invariant.0.keeps c.t-item.result m
    c.add_all_of.new.store c.loop-t.pairs.keys c.add_all_of.new.pairs.keys c.loop-t.invariant.0
    (subst (λ known. Grows c.loop-t.store c.add_all_of.new.store c.loop-t.pairs.keys c.add_all_of.new.pairs.keys (IsMadeBy A c.loop-t.store known c.args.is_first_round c.t-item.result)) c.as_slice.ensures.value c.in_ok-add_all_of.ensures.grows)

pub returns-then-not-branch-clause-all : goal.returns-then-not-branch-clause-all
returns-then-not-branch-clause-all c =
    let A = c.args.automaton.now in let start = c.args.store.now in let pairs = c.args.pairs.now.keys in let known = c.in_ok-known.known.items in let t = c.t-item.result in
    let m = member_of A c.trans-t-items.result.now c.trans-t-items.ensures.value c.loop-t.t-index t c.loop-t-test.true c.t-item.is in ⊎_elim
    (λ many. inl many)
    (λ large. inr (large_down A c.next.ensures.sound start pairs c.args.first c.args.is_first_round known c.in_ok-known.ensures.grouped c.requires.placed c.loop-t.store c.loop-t.invariant.0.keeps t m
    (subst (λ known. IsLargeChoice c.loop-t.store t.sym [] known c.args.is_first_round t.args) c.as_slice.ensures.value large)))
    (when_false _ _ c.in_ok-add_all_of.field-0 c.if-not-branch.true c.in_ok-add_all_of.ensures.all)

pub loop-t-preserved : goal.loop-t-preserved
loop-t-preserved c =
    let A = c.args.automaton.now in let start = c.args.store.now in let pairs = c.args.pairs.now.keys in let known = c.in_ok-known.known.items in let t = c.t-item.result in
    let m = member_of A c.trans-t-items.result.now c.trans-t-items.ensures.value c.loop-t.t-index t c.loop-t-test.true c.t-item.is in
    let h = subst (λ known. Grows c.loop-t.store c.add_all_of.new.store c.loop-t.pairs.keys c.add_all_of.new.pairs.keys (IsMadeBy A c.loop-t.store known c.args.is_first_round t)) c.as_slice.ensures.value c.in_ok-add_all_of.ensures.grows in
    let all = when_true _ _ c.in_ok-add_all_of.field-0 c.if-not-branch.false c.in_ok-add_all_of.ensures.all in
    let each = subst (λ known. HasEach c.add_all_of.new.store c.add_all_of.new.pairs.keys (IsMadeBy A c.loop-t.store known c.args.is_first_round t)) c.as_slice.ensures.value all.0 in (
      round_grown A c.next.ensures.sound start pairs c.args.first c.args.is_first_round known c.in_ok-known.ensures.grouped c.requires.placed c.loop-t.store c.loop-t.invariant.0.keeps t m
          c.add_all_of.new.store c.loop-t.pairs.keys c.add_all_of.new.pairs.keys c.loop-t.invariant.0 h,
      round_each A c.next.ensures.sound start pairs c.args.first c.args.is_first_round known c.in_ok-known.ensures.grouped c.requires.placed c.loop-t.store c.loop-t.invariant.0.keeps t m
          c.add_all_of.new.store c.loop-t.pairs.keys c.add_all_of.new.pairs.keys c.loop-t.invariant.0 h c.trans-t-items.result.now c.loop-t.t-index c.loop-t-test.true c.t-item.is each c.loop-t.invariant.1,
      all.1,
    )

pub returns-clause-grows : goal.returns-clause-grows
returns-clause-grows c = c.loop-t.invariant.0

pub returns-clause-all : goal.returns-clause-all
returns-clause-all c =
    let A = c.args.automaton.now in let start = c.args.store.now in let pairs = c.args.pairs.now.keys in let known = c.in_ok-known.known.items in (
      round_closed A c.next.ensures.sound start pairs c.args.first c.args.is_first_round known c.in_ok-known.ensures.grouped c.requires.placed c.loop-t.store c.loop-t.pairs.keys
          (λ pair u m. c.loop-t.invariant.1 pair u (subst (λ xs. Contains xs u) (sym (take_all c.loop-t.t-index c.trans-t-items.result.now c.loop-t-test.false ∙ c.trans-t-items.ensures.value)) m)),
      c.loop-t.invariant.2,
    )

-- nothing is new
pub returns-then-first-len-clause-all : goal.returns-then-first-len-clause-all
returns-then-first-len-clause-all c = (
  λ pair m. inr (
    (λ t. not_false (subst IsTrue c.if-not-is_first_round.true t)),
    subst (λ ps. IsMade c.args.automaton.now (named_pairs c.args.store.now ps) pair) (sym (take_all c.args.first c.args.pairs.now.keys (omega (arith, c.if-first-len.true, c.len.ensures.len)))) m,
  ),
  c.requires.few,
)
  where
    not_false : IsTrue false → ⊥
    not_false t = cc
