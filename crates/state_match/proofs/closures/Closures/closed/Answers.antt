use Rattle.std.proofs.Common.{◌↔◌, ℕ, List, Contains, sym, subst}
use Rattle.std.proofs.lemmas.Result.{IfOk-weaker}
use Rattle.reach_rows.specs.Bits.{Has}
use Rattle.reach_rows.specs.Paths.{IsInRow}
use Rattle.ta_core.specs.Reached.{ReachedFrom}
use Rattle.state_match.proofs.members.Reaching.{reached_there, room_on, marked_are_reached}
use Rattle.state_match.proofs.closures.Closures.closed.Goals as goal

pub returns-then-not-leads_on : goal.returns-then-not-leads_on
returns-then-not-leads_on c q =
    subst (λ (xs : List ℕ). Contains xs q ↔ ReachedFrom c.args.automaton.now c.args.set q) (sym c.listed.ensures)
    (reached_there c.args.automaton.now c.args.set (c.leads_on.ensures c.if-not-leads_on.true) q)

pub returns-then-not-self : goal.returns-then-not-self
returns-then-not-self c q =
    subst (λ (xs : List ℕ). Contains xs q ↔ ReachedFrom c.args.automaton.now c.args.set q) (sym c.listed-then-not-self.ensures) (c.in_ok-closed.ensures q)

pub join_rows-requires-clause-reached : goal.join_rows-requires-clause-reached
join_rows-requires-clause-reached c = (c.args.automaton.now.eps, (c.requires.leads c.if-not-self.false).reached)

pub join_rows-requires-clause-room : goal.join_rows-requires-clause-room
join_rows-requires-clause-room c p q i h =
    room_on c.args.automaton.now c.next-size.ensures.sound c.args.self.now.reach (c.requires.leads c.if-not-self.false) c.args.set c.requires.inside c.in_ok-bits.bits c.next-size.result c.next-size.ensures.value c.in_ok-bits.ensures.length p q
    (subst (λ (xs : List ℕ). Contains xs p) c.as_slice.ensures.value i) h

pub returns : goal.returns
returns c =
    let bits = c.join_rows.new.bits in
    IfOk-weaker c.marked.result _ (λ known. (q : ℕ) → Contains known q ↔ ReachedFrom c.args.automaton.now c.args.set q)
    (λ known exact q.
    marked_are_reached c.args.automaton.now c.next-size.ensures.sound c.args.self.now.reach (c.requires.leads c.if-not-self.false) c.args.set c.requires.inside bits known c.next-size.result c.next-size.ensures.value
    (λ r. subst (λ (xs : List ℕ). Has bits r ↔ IsInRow c.args.self.now.reach.rows xs r) c.as_slice.ensures.value (c.join_rows.ensures.members r)) exact q)
    c.marked.ensures
