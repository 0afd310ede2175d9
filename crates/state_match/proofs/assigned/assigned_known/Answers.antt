use Rattle.std.proofs.Common.{ℕ, [], ◌↔◌, Contains, subst, List}
use Rattle.std.proofs.lemmas.List.{append-nil}
use Rattle.ranked_terms.specs.Terms.{assigned}
use Rattle.ta_core.specs.Closure.{state_in}
use Rattle.ta_core.specs.Runs.{Runs}
use Rattle.state_match.proofs.grouping.GroupLists.{IfSome-at_some}
use Rattle.state_match.proofs.members.JoinLaws.{IsValue}
use Rattle.state_match.proofs.assigned.assigned_known.Goals as goal

pub returns-in-Some : goal.returns-in-Some
returns-in-Some c q =
    let A = c.args.automaton.now in
    let vars = c.args.vars.now in
    let p = c.args.pattern.now in
    let is = IfSome-at_some (IsValue A vars c.args.states.now p) c.in-Some.is c.in_ok-found.ensures in
    subst (λ (xs : List ℕ). Contains c.in-Some.found q ↔ Runs A (assigned (state_in vars xs) p) q) (append-nil c.args.states.now) (is [] q)
