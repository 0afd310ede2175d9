use Rattle.std.proofs.Common.{◌≡◌, ◌↔◌, ℕ, IsTrue, false, true≢false, List, Contains, sym, ap, subst, ◌∙◌, arith}
use Rattle.state_match.specs.Sets.{members_by, members_of}
use Rattle.state_match.proofs.members.MarkedSets.{members_are}
use Rattle.state_match.proofs.known.Known.contains.Goals as goal

pub returns-then-state-self : goal.returns-then-state-self
returns-then-state-self c =
    let size = c.self.inside.size in
    let bits = c.in-Some.bits in
    let view : members_of bits size ≡ c.args.self.now = ap (members_by size c.self.inside.list) (sym c.in-Some.is) ∙ c.self.view_is in
    subst (λ (xs : List ℕ). IsTrue false ↔ Contains xs c.args.state) view
    (λ t. absurd (true≢false (sym t)), λ i. absurd (omega (arith, c.if-state-self.true, ((members_are bits size c.args.state).0 i).0)))

pub returns : goal.returns
returns c =
    let size = c.self.inside.size in
    let bits = c.in-Some.bits in
    let view : members_of bits size ≡ c.args.self.now = ap (members_by size c.self.inside.list) (sym c.in-Some.is) ∙ c.self.view_is in
    let are = members_are bits size c.args.state in
    subst (λ (xs : List ℕ). IsTrue c.contains-2.result ↔ Contains xs c.args.state) view
    (λ t. are.1 (c.if-state-self.false, c.contains-2.ensures.0 t), λ i. c.contains-2.ensures.1 (are.0 i).1)
