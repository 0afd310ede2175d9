use Rattle.std.proofs.Common.{◌↔◌, ℕ, All, Contains, sym, subst}
use Rattle.std.proofs.lemmas.Result.{IfOk-weaker}
use Rattle.ta_core.specs.TreeAutomaton.{TreeAutomaton}
use Rattle.ta_core.specs.Reached.{ReachedFrom}
use Rattle.state_match.proofs.turned.Turned.closed.Goals as goal

pub closed-requires-clause-inside : goal.closed-requires-clause-inside
closed-requires-clause-inside c = subst (λ (A : TreeAutomaton). All (Contains A.states) c.args.set) (sym c.self.view_is) c.requires

pub returns : goal.returns
returns c =
    IfOk-weaker c.into_set.result _ (λ all. (q : ℕ) → Contains all q ↔ ReachedFrom c.args.self.now c.args.set q)
    (λ all same q. subst (λ (A : TreeAutomaton). Contains all q ↔ ReachedFrom A c.args.set q) c.self.view_is
    (λ i. (c.in_ok-known.ensures q).0 ((same q).0 i), λ r. (same q).1 ((c.in_ok-known.ensures q).1 r))) c.into_set.ensures
