use Rattle.std.proofs.Common.{ℕ, List, false, IfOk, IsErrOf, ◌∙◌, subst}
use Rattle.list_laws.specs.Listings.{IsListing, HasMoreThan}
use Rattle.state_match.specs.Matches.{MatchesAt, match_order}
use Rattle.state_match.specs.declared.lists.Match.{Match}
use Rattle.state_match.specs.declared.lists.MatchError.TheVariants.{More}
use Rattle.state_match.proofs.lists.matches.Goals as goal

pub returns-clause-all : goal.returns-clause-all
returns-clause-all c =
    subst (λ (vs : List ℕ). IfOk c.collected.result (λ all. IsListing match_order (λ (m : Match). MatchesAt false c.args.automaton.now vs c.args.pattern.now m.sigma m.state) all)) (c.as_slice.ensures.value ∙ c.in-Ok.ensures.ok) c.collected.ensures.all

pub returns-clause-more : goal.returns-clause-more
returns-clause-more c =
    subst (λ (vs : List ℕ). IsErrOf c.collected.result More → HasMoreThan c.args.limit (λ (m : Match). MatchesAt false c.args.automaton.now vs c.args.pattern.now m.sigma m.state)) (c.as_slice.ensures.value ∙ c.in-Ok.ensures.ok) c.collected.ensures.more
