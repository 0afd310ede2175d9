use Rattle.std.proofs.Common.{◌≡◌, ◌↔◌, ℕ, List, Contains, sym, ap, subst, ◌∙◌}
use Rattle.std.proofs.lemmas.Result.{IfOk-weaker}
use Rattle.state_match.specs.Sets.{members_by, members_of}
use Rattle.state_match.proofs.members.MarkedSets.{members_are}
use Rattle.state_match.proofs.known.Known.into_set.Goals as goal

pub returns : goal.returns
returns c =
    let size = c.self.inside.size in
    let bits = c.in-Some.bits in
    let view : members_of bits size ≡ c.args.self = ap (members_by size c.self.inside.list) (sym c.in-Some.is) ∙ c.self.view_is in
    IfOk-weaker c.from_states.result _ (λ set. (q : ℕ) → Contains set q ↔ Contains c.args.self q)
    (λ set exact q.
    let are = members_are bits size q in
    let below = c.list_below.ensures.members q in
    subst (λ (xs : List ℕ). Contains set q ↔ Contains xs q) view (λ i. are.1 (below.0 ((exact q).0 i)), λ i. (exact q).1 (below.1 (are.0 i))))
    c.from_states.ensures
