use Rattle.std.proofs.Common.{◌↔◌, ℕ, All, Contains, sym, subst}
use Rattle.std.proofs.lemmas.Result.{IfOk-weaker}
use Rattle.ta_core.specs.TreeAutomaton.{TreeAutomaton}
use Rattle.ta_core.specs.Reached.{ReachedFrom}
use Rattle.state_match.proofs.tabled.Tabled.closed.Goals as goal

pub closed-requires-clause-inside : goal.closed-requires-clause-inside
closed-requires-clause-inside c = subst (λ (A : TreeAutomaton). All (Contains A.states) c.args.set) (sym c.self.view_is) c.requires

pub returns : goal.returns
returns c =
    IfOk-weaker c.closed.result _ (λ known. (q : ℕ) → Contains known q ↔ ReachedFrom c.args.self.now c.args.set q)
    (λ known exact q. subst (λ (A : TreeAutomaton). Contains known q ↔ ReachedFrom A c.args.set q) c.self.view_is (exact q)) c.closed.ensures
