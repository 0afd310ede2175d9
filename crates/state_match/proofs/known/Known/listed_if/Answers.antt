use Rattle.std.proofs.Common.{◌↔◌, ℕ, List, Contains, sym, subst}
use Rattle.state_match.proofs.known.Known.listed_if.Goals as goal

pub returns : goal.returns
returns c q = subst (λ (xs : List ℕ). Contains xs q ↔ Contains c.args.self q) (sym c.listed.ensures) (c.in_ok-list.ensures q)
